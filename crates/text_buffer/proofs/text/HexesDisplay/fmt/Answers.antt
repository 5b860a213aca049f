use Rattle.std.proofs.Common.{rules, slice_index_or}
use Rattle.std.proofs.Output.{has_written_append, has_written_of_eq}
use Rattle.std.specs.Fmt.{HasWritten}
use Rattle.text_buffer.specs.Digits.{hex, hexes}
use Rattle.text_buffer.proofs.Hexes.{hexes_more}
use Rattle.text_buffer.proofs.text.HexesDisplay.fmt.Goals as goal

pub loop-byte-init : goal.loop-byte-init
unfolding hexes
loop-byte-init g c = search rules

pub loop-byte-preserved : goal.loop-byte-preserved
loop-byte-preserved g c plain =
    let m = c.args.self.now.0.now in
    let i = c.loop-byte.byte-index in
    let written : HasWritten g.W.Write.write_str_gives c.loop-byte.f (hex (slice_index_or m i 0)) c.write_byte.new.f = search rules in
    has_written_of_eq _ _ _ _ _ (hexes_more m i (search rules)) (has_written_append _ _ _ _ _ _ (c.loop-byte.invariant plain) written)
