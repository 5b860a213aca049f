use Rattle.std.proofs.Common.{◌≡◌, ◌+◌, ◌-◌, rules, arith}
use Rattle.octets.proofs.Freezing.{frozen}
use Rattle.octets.proofs.freeze.Goals as goal

pub returns : goal.returns
returns c =
    let a = c.args in
    let cut = c.split_at_mut-front in
    let n : a.from + a.n - a.from ≡ a.n = omega arith in
    rw cut.ensures.front_len at
    (frozen cut.result.0.now cut.result.1.now c.copy_from_slice.new.self a.from a.n (search rules) (search rules)
    (rw n at c.copy_from_slice.ensures.after) (search rules) a.s.now cut.ensures.value (1 + a.n - 1) (omega arith))
