use Rattle.std.proofs.Common.{◌+◌, length, take, replicate, arith, refl, ap, ◌∙◌, length-take-le}
use Rattle.store.specs.Layout.{memory_length}
use Rattle.octets.proofs.Laid.{length_laid}
use Rattle.remembered_command.proofs.Stored.{both_gathered}
use Rattle.remembered_command.proofs.remember.Goals as goal

pub copy_in-requires-2 : goal.copy_in-requires-2
copy_in-requires-2 c =
    let m = length-take-le 40 c.args.m.now c.requires.1 in
    let e = ap length c.copy_in.ensures ∙ length_laid 1 (take 40 c.args.m.now) _ (omega (arith, m)) in
    omega (arith, e, length-take-le 48 c.args.buffer.now c.requires.2)

pub returns : goal.returns
returns c =
    c.copy_from_slice.ensures.after
    ∙ both_gathered (replicate (1 + memory_length) 0) c.args.m.now c.args.buffer.now refl c.requires.1 c.requires.2 c.copy_in.ensures c.copy_in-2.ensures
