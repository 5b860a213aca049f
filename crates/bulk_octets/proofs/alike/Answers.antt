use Rattle.std.proofs.Common.{◌≡◌, ◌*◌, ◌/◌, length, drop, refl, sym, ◌∙◌, rules, arith, tests}
use Rattle.std.specs.Simd.{first_chunks}
use Rattle.std.proofs.lemmas.Iterator.{YieldsList-from_slice, YieldsList-from_zip}
use Rattle.std.proofs.lemmas.Iterator.Search.{all_from_yields_List}
use Rattle.rules.specs.Maps.{same}
use Rattle.octets.proofs.Tests.{same_not}
use Rattle.bulk_octets.proofs.Pieces.{pieces_alike, piece_differs, rest_decides}
use Rattle.bulk_octets.proofs.alike.Goals as goal

pub returns-then-a-b : goal.returns-then-a-b
returns-then-a-b c = same_not c.args.a.now c.args.b.now c.if-a-b.true

-- the pieces' test, as a test over their lists
pub returns-then-not-all : goal.returns-then-not-all
returns-then-not-all c =
    let a = c.args.a.now in
    let b = c.args.b.now in
    let n = length a / 256 in
    let same_long : length b / 256 ≡ n = rw c.if-a-b.false refl in
    let second : c.as_chunks-2.result.0.now ≡ first_chunks 256 n b = rw same_long at c.as_chunks-2.ensures.front in
    let pairs = YieldsList-from_zip (YieldsList-from_slice (first_chunks 256 n a) cc) (YieldsList-from_slice (first_chunks 256 n b) cc) in
    let e : c.all.result ≡ pieces_alike 256 n a b =
    all_from_yields_List (λ p. same p.0 p.1) c.all.new.self _ _ c.all.ensures.ran pairs (λ p r q k. search (rules, tests)) in
    piece_differs 256 n a b c.if-a-b.false (omega arith) (sym e ∙ c.if-not-all.true)

pub returns : goal.returns
returns c =
    let a = c.args.a.now in
    let b = c.args.b.now in
    let n = length a / 256 in
    let same_long : length b / 256 ≡ n = rw c.if-a-b.false refl in
    let second : c.as_chunks-2.result.0.now ≡ first_chunks 256 n b = rw same_long at c.as_chunks-2.ensures.front in
    let behind : c.as_chunks-2.result.1.now ≡ drop (n * 256) b = rw same_long at c.as_chunks-2.ensures.back in
    let pairs = YieldsList-from_zip (YieldsList-from_slice (first_chunks 256 n a) cc) (YieldsList-from_slice (first_chunks 256 n b) cc) in
    let e : c.all.result ≡ pieces_alike 256 n a b =
    all_from_yields_List (λ p. same p.0 p.1) c.all.new.self _ _ c.all.ensures.ran pairs (λ p r q k. search (rules, tests)) in
    c.same_bytes.ensures ∙ rw (c.as_chunks.ensures.back, behind) refl ∙ rest_decides 256 n a b c.if-a-b.false (omega arith) (sym e ∙ c.if-not-all.false)
