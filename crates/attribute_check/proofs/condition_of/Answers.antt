use Rattle.attribute_check.proofs.Looking.{looked_condition}
use Rattle.attribute_check.proofs.condition_of.Goals as goal

pub looked-requires : goal.looked-requires
looked-requires c = (c.requires.0.looks c.in-Pointer-Some.field-0-0 c.in-Pointer-Some.n c.in-Pointer-Some.is-0 c.in-Pointer-Some.is-1, c.requires.1)

pub returns-in-Pointer-Some : goal.returns-in-Pointer-Some
returns-in-Pointer-Some c = looked_condition _ _ _ c.in-Pointer-Some.is-0 c.in-Pointer-Some.is-1 c.looked.ensures
