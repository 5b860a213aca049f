use Rattle.std.proofs.Common.{rules, slice_index_or}
use Rattle.std.proofs.Output.{has_written_append, has_written_of_eq}
use Rattle.std.specs.Fmt.{HasWritten}
use Rattle.text_buffer.specs.Digits.{hex}
use Rattle.text_buffer.specs.Groups.{gap, grouped}
use Rattle.text_buffer.proofs.Grouping.{grouped_more}
use Rattle.text_buffer.proofs.text.GroupsDisplay.fmt.Goals as goal

pub loop-i-init : goal.loop-i-init
unfolding grouped
loop-i-init g c = search rules

pub loop-i-preserved : goal.loop-i-preserved
loop-i-preserved g c plain =
    let m = c.args.self.now.0.now in
    let i = c.loop-i.i in
    let parted : HasWritten g.W.Write.write_str_gives c.loop-i.f (gap i) c.write_str.new.self = search rules in
    let written : HasWritten g.W.Write.write_str_gives c.write_str.new.self (hex (slice_index_or m i 0)) c.write_byte.new.f = search rules in
    has_written_of_eq _ _ _ _ _ (grouped_more m i (search rules))
    (has_written_append _ _ _ _ _ _ (c.loop-i.invariant plain) (has_written_append _ _ _ _ _ _ parted written))
