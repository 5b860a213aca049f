use Rattle.std.proofs.Common.{rules, ap, ◌-◌, ◌^◌, ◌∷◌, [], false, true}
use Rattle.std.proofs.Output.{has_written_of_eq}
use Rattle.std.specs.Fmt.{HasWritten, digits, format_spec, padded_integral}
use Rattle.text_buffer.proofs.Printed.{hex_of_number}
use Rattle.text_buffer.proofs.text.HexNumberDisplay.fmt.Goals as goal

pub returns-clause-writes : goal.returns-clause-writes
returns-clause-writes g c plain ok =
    let n = c.args.self.now.0 in
    let written : HasWritten g.W.Write.write_str_gives c.args.f.now (48 ∷ 120 ∷ padded_integral (format_spec 32 0 4 4 (2 ^ 64 - 1)) false [] (digits 16 true n)) c.write.new.self = search rules in
    has_written_of_eq _ _ _ _ _ (ap (λ l. 48 ∷ 120 ∷ l) (hex_of_number n (search rules))) written
