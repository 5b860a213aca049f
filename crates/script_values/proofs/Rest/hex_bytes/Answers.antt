use Rattle.std.proofs.Common.{arith, sym, refl, ◌+◌, ◌*◌, ap, length, []}
use Rattle.std.proofs.lemmas.Result.{err_from_is_err_and}
use lib.ListN.{length-set}
use Rattle.script_values.specs.HexBytes.{pairs}
use Rattle.script_values.proofs.HexLaws.{same_marks, past_gaps, all_read, high_bad, half_a_byte, low_bad, no_room, next_pair, rest_stays}
use Rattle.script_values.proofs.Rest.hex_bytes.Goals as goal

pub loop-i-init : goal.loop-i-init
loop-i-init c =
    let s = c.args.self.text.now in
    record {
      within = omega arith;
      same_length = refl;
      rest = refl;
      no_gap = past_gaps s c.args.self.at c.gaps_end-i.result c.gaps_end-i.ensures.run;
      left = ap (pairs (length c.args.bytes.now) []) (sym (same_marks s c.args.self.at c.gaps_end-i.result c.gaps_end-i.ensures.run));
    }

pub returns-in_err-high : goal.returns-in_err-high
returns-in_err-high c =
    let p = err_from_is_err_and c.from_residual.result c.from_residual.ensures.1 in
    let l = c.loop-i.invariant in
    rw (p.1, p.2)
    (high_bad (length c.args.bytes.now) c.loop-i.i c.loop-i.n c.args.self.text.now c.loop-i.bytes c.args.bytes.now _ l.within l.rest l.left
    (omega arith) l.no_gap _ (sym c.in_err-high.ensures.value))

pub returns-then-self-j : goal.returns-then-self-j
returns-then-self-j c =
    let l = c.loop-i.invariant in
    half_a_byte (length c.args.bytes.now) c.loop-i.i c.loop-i.n c.args.self.text.now c.loop-i.bytes c.args.bytes.now _ l.within l.rest l.left
    (omega arith) l.no_gap _ (sym c.in_ok-high.ensures.value)
    c.gaps_end-j.result (rw (c.behind.ensures.text, c.behind.ensures.at) at c.gaps_end-j.ensures.run) (omega arith)

pub returns-in_err-low : goal.returns-in_err-low
returns-in_err-low c =
    let p = err_from_is_err_and c.from_residual-in_err-low.result c.from_residual-in_err-low.ensures.1 in
    let l = c.loop-i.invariant in
    rw (p.1, p.2)
    (low_bad (length c.args.bytes.now) c.loop-i.i c.loop-i.n c.args.self.text.now c.loop-i.bytes c.args.bytes.now _ l.within l.rest l.left
    (omega arith) l.no_gap _ (sym c.in_ok-high.ensures.value)
    c.gaps_end-j.result (rw (c.behind.ensures.text, c.behind.ensures.at) at c.gaps_end-j.ensures.run) (omega arith)
    _ (sym c.in_err-low.ensures.value))

pub returns-then-bytes-n : goal.returns-then-bytes-n
returns-then-bytes-n c =
    let l = c.loop-i.invariant in
    no_room (length c.args.bytes.now) c.loop-i.i c.loop-i.n c.args.self.text.now c.loop-i.bytes c.args.bytes.now _ l.within l.rest l.left
    (omega arith) l.no_gap _ (sym c.in_ok-high.ensures.value)
    c.gaps_end-j.result (rw (c.behind.ensures.text, c.behind.ensures.at) at c.gaps_end-j.ensures.run) (omega arith)
    _ (sym c.in_ok-low.ensures.value) (omega arith)

pub loop-i-preserved : goal.loop-i-preserved
loop-i-preserved c =
    let l = c.loop-i.invariant in
    let s = c.args.self.text.now in
    let past = rw (c.behind-in-loop-i.ensures.text, c.behind-in-loop-i.ensures.at) at c.gaps_end-i-in-loop-i.ensures.run in
    record {
      within = simp length-set (omega arith);
      same_length = simp length-set (omega arith);
      rest = rest_stays c.loop-i.bytes c.args.bytes.now c.loop-i.n (c.in_ok-high.high * 16 + c.in_ok-low.low) l.rest;
      no_gap = past_gaps s (c.gaps_end-j.result + 1) c.gaps_end-i-in-loop-i.result past;
      left =
          next_pair (length c.args.bytes.now) c.loop-i.i c.loop-i.n s c.loop-i.bytes c.args.bytes.now _ l.within l.rest l.left
          (omega arith) l.no_gap _ (sym c.in_ok-high.ensures.value)
          c.gaps_end-j.result (rw (c.behind.ensures.text, c.behind.ensures.at) at c.gaps_end-j.ensures.run) (omega arith)
          _ (sym c.in_ok-low.ensures.value) (omega arith) (omega arith) c.gaps_end-i-in-loop-i.result past;
    }

pub returns : goal.returns
returns c =
    let l = c.loop-i.invariant in
    all_read (length c.args.bytes.now) c.loop-i.i c.loop-i.n c.args.self.text.now c.loop-i.bytes c.args.bytes.now _ l.within l.rest l.left
    (omega arith)
