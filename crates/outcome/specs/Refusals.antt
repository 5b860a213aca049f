-- What the code's refusals stand for: document 01's results, and the bytes of a reply's contents.
use Rattle.std.specs.Prelude.{ℕ, List, [], ◌∷◌, ◌++◌, replicate, Result, Ok, Err}
use Rattle.rules.specs.Bytes.{bytes, fill}
use Rattle.rules.specs.Messages.{no_place, not_supported, bad_parameter, unknown_class, unknown_instance, instance_exists}
use Rattle.rules.specs.Messages.{attribute_failed}
use Rattle.outcome.specs.declared.refusals.Refusal.{Refusal}
use Rattle.outcome.specs.declared.refusals.Refusal.TheVariants as refusal

-- the result alone
abbrev pub result_of : Refusal → ℕ
result_of refusal.NoPlace = no_place
result_of refusal.NotSupported = not_supported
result_of refusal.BadParameter = bad_parameter
result_of (refusal.BadValues bad) = bad_parameter
result_of refusal.UnknownClass = unknown_class
result_of refusal.UnknownInstance = unknown_instance
result_of refusal.InstanceExists = instance_exists
result_of (refusal.AttributesFailed unsupported failed) = attribute_failed
result_of (refusal.AttributesMissing missing) = attribute_failed

-- the reply's contents that tell a refusal, from their first byte on, as far as they aren't zero
abbrev pub refused : Refusal → List ℕ
refused refusal.NoPlace = no_place ∷ []
refused refusal.NotSupported = not_supported ∷ []
refused refusal.BadParameter = bad_parameter ∷ []
refused (refusal.BadValues bad) = bad_parameter ∷ bytes 2 bad
refused refusal.UnknownClass = unknown_class ∷ []
refused refusal.UnknownInstance = unknown_instance ∷ []
refused refusal.InstanceExists = instance_exists ∷ []
refused (refusal.AttributesFailed unsupported failed) = attribute_failed ∷ bytes 2 unsupported ++ bytes 2 failed
refused (refusal.AttributesMissing missing) = attribute_failed ∷ replicate 27 0 ++ bytes 2 missing

-- the contents of a command's reply: as it left them, or a refusal
abbrev pub contents_of : Result (Unit {0}) Refusal → List ℕ → List ℕ
contents_of (Ok u) out = out
contents_of (Err r) out = fill 32 (refused r)
