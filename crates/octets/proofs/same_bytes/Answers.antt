use Rattle.std.proofs.Common.{◌≡◌, bit_or, bit_xor, fold, zip, eqb, ap, ◌∙◌, rules, tests}
use Rattle.std.proofs.lemmas.Iterator.{YieldsList-from_slice, YieldsList-from_zip}
use Rattle.std.proofs.lemmas.Iterator.Consumers.{fold_from_yields_List}
use Rattle.octets.proofs.Tests.{same_not, same_folded}
use Rattle.octets.proofs.same_bytes.Goals as goal

pub returns-then-a-b : goal.returns-then-a-b
returns-then-a-b c = same_not c.args.a.now c.args.b.now c.if-a-b.true

pub returns : goal.returns
returns c =
    let a = c.args.a.now in
    let b = c.args.b.now in
    let pairs = YieldsList-from_zip (YieldsList-from_slice a cc) (YieldsList-from_slice b cc) in
    let e : c.fold.result ≡ fold (λ n p. bit_or n (bit_xor p.0 p.1)) 0 (zip a b) =
    fold_from_yields_List _ (λ n p. bit_or n (bit_xor p.0 p.1)) 0 _ c.fold.ensures.ran pairs (λ n p m q k. search (rules, tests)) in
    ap (λ x. eqb x 0) e ∙ same_folded 0 a b (search rules)
