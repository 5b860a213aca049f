use Rattle.std.proofs.Common.{ℕ, ◌-◌, ◌/◌, ◌^◌, nat_eq, sym, ap, ◌∙◌}
use lib.Bits.{and_mask}
use Rattle.bits.proofs.Bytes.{bits_at}
use Rattle.bits.proofs.alarm_on.Goals as goal

pub returns : goal.returns
returns c = ap (λ (x : ℕ). nat_eq x 1) (and_mask (c.args.b / 2 ^ (7 - c.args.n)) 1) ∙ sym (bits_at 8 c.args.b c.args.n c.requires)
