use mathlib.Core.Path.{sym, ◌∙◌}
use lib.ListN.{length-set}
use Rattle.alarm_walk.proofs.Shown.{blank_length, one_length, two_length, all_written}
use borrow.Author.Rules.{rules}
use Rattle.alarm_walk.proofs.show.Statement.{statement}
use Rattle.alarm_walk.proofs.show.Tie as tie

put_number_requires : tie.Need-put_number-requires
put_number_requires c κs =
    let l = blank_length c.args.out.now c.requires in
    search rules

put_number_requires_2 : tie.Need-put_number-requires-2
put_number_requires_2 c κs =
    let s = c.before.before.before.before.before.before in
    let l = one_length s.args.out.now c.put_number.new.s s.args.class s.requires c.put_number.ensures in
    search rules

slice_write_out : tie.Need-bounds-out-4
slice_write_out c =
    let at_put_number2 = c.before.before in
    let p = at_put_number2.before.before.before.before in
    let s = p.before.before.before in
    let l = two_length s.args.out.now p.put_number.new.s s.args.class s.requires p.put_number.ensures at_put_number2.put_number-2.new.s s.args.number
    at_put_number2.put_number-2.ensures in
    search rules

same_length : tie.Need-shape_of-out
same_length c =
    let s = c.before.before.before.before.before.before.before.before.before in
    let p = c.before.before.before.before.before.before in
    let b = c.put_number-2.new.s in
    length-set b 4 s.args.alarms
    ∙ two_length s.args.out.now p.put_number.new.s s.args.class s.requires p.put_number.ensures b s.args.number c.put_number-2.ensures
    ∙ sym (blank_length s.args.out.now s.requires)

returns : tie.Need-returns
returns c =
    let at_put_number2 = c.before.before in
    let p = at_put_number2.before.before.before.before in
    let s = p.before.before.before in
    all_written s.args.out.now p.put_number.new.s s.args.class s.requires p.put_number.ensures at_put_number2.put_number-2.new.s s.args.number
    at_put_number2.put_number-2.ensures s.args.alarms

pub show_spec : {M : Type 1} → statement M
show_spec =
    tie.close
    (tie.spec put_number_requires put_number_requires_2 slice_write_out same_length returns)
