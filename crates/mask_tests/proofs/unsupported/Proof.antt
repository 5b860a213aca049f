use mathlib.Core.Path.{◌∙◌}
use borrow.Author.Rules.{rules}
use Rattle.mask_tests.proofs.Refused.{unsupported_is}
use Rattle.mask_tests.proofs.unsupported.Statement.{statement}
use Rattle.mask_tests.proofs.unsupported.Tie as tie
use Rattle.mask_tests.proofs.unsupported.Reads as reads
use Rattle.mask_tests.proofs.unsupported.Lts as lts
use Rattle.bits.proofs.without.Reads as without_reads
use Rattle.class_tables.proofs.masks.supported_mask.Reads as supported_mask_reads

returns : tie.Need-returns
returns c =
    let a = c.args in
    c.without.ensures ∙
    unsupported_is a.product a.class a.asked c.supported_mask.result (search rules) (search rules) c.supported_mask.ensures

pub unsupported_spec : {M : Type 1} → statement M
unsupported_spec = tie.close (tie.spec (λ c κs. search rules) (λ c κs. search rules) returns)
