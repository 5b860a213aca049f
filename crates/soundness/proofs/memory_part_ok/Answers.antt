use Rattle.std.proofs.Common.{◌/◌, ◌&&◌, not, eqb, sym, refl, ◌∙◌}
use Rattle.rules.specs.Maps.{◌and◌}
use Rattle.rules.specs.Bytes.{byte}
use Rattle.soundness.specs.Tests.{memory_test}
use Rattle.soundness.proofs.Parts.{from_left, memory_behind, absent, present}
use Rattle.soundness.proofs.memory_part_ok.Goals as goal

pub returns-then-b-eq0 : goal.returns-then-b-eq0
returns-then-b-eq0 c = c.zeros_from.ensures ∙ sym (absent memory_test c.args.b.now c.if-b-eq0.true)

pub returns : goal.returns
unfolding ◌and◌
returns c =
    let b = c.args.b.now in
    from_left (eqb (byte b 0) 1) (eqb (byte b 4) 0x0A) (eqb (byte b 3 / 32) 2) (not (eqb (byte b 1) 0 && eqb (byte b 2) 0))
    ∙ sym (present memory_test b c.if-b-eq0.false ∙ rw (memory_behind b) refl)
