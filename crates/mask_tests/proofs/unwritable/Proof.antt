use Prim.Native.Nat.{◌-◌}
use mathlib.Core.Path.{◌∙◌, ap}
use lib.Bits.{bit_and}
use borrow.Author.Rules.{rules}
use Rattle.mask_tests.proofs.Refused.{unwritable_is}
use Rattle.mask_tests.proofs.unwritable.Statement.{statement}
use Rattle.mask_tests.proofs.unwritable.Tie as tie
use Rattle.mask_tests.proofs.unwritable.Reads as reads
use Rattle.mask_tests.proofs.unwritable.Lts as lts
use Rattle.bits.proofs.common.Reads as common_reads
use Rattle.bits.proofs.without.Reads as without_reads
use Rattle.class_tables.proofs.masks.supported_mask.Reads as supported_mask_reads
use Rattle.class_tables.proofs.masks.writable_mask.Reads as writable_mask_reads

returns : tie.Need-returns
returns c =
    let a = c.args in
    let s = c.supported_mask in
    let w = c.writable_mask in
    c.without.ensures ∙ ap (λ m. bit_and m (65535 - w.result)) c.common-there.ensures ∙
    unwritable_is a.product a.class a.asked s.result w.result (search rules) (search rules) (search rules) s.ensures w.ensures

pub unwritable_spec : {M : Type 1} → statement M
unwritable_spec =
    tie.close
    (tie.spec
    (λ c κs. search rules)
    (λ c κs. search rules)
    (λ c κs. search rules)
    (λ c κs. search rules)
    returns)
