-- What judging a content by a line of the tables says.
use Rattle.std.specs.Prelude.{ℕ, ◌≡◌, Bool, true, false, List, Some}
use Rattle.rules.specs.Bytes.{number}
use Rattle.rules.specs.Catalogue as rules
use Rattle.class_tables.specs.declared.Rule.TheVariants.{Any}
use Rattle.class_tables.specs.declared.Attribute.{Attribute}
use Rattle.class_tables.specs.declared.Verdict.{Verdict}
use Rattle.class_tables.specs.declared.Verdict.TheVariants.{Fine, Bad, Asks}
use Rattle.class_tables.specs.Meaning.{meaning}

abbrev pub fine_if : Bool → Verdict
fine_if true = Fine
fine_if false = Bad

abbrev pub verdict_of : Verdict → rules.Verdict
verdict_of Fine = rules.fine
verdict_of Bad = rules.bad
verdict_of (Asks c i) = rules.asks c i

-- r is the verdict on every content that holds the number `value`, where the attribute that the rule looks at holds `condition`
pub record Judged (a : Attribute) (value condition : ℕ) (r : Verdict) : Type 0 where
  pub says : (v : List ℕ) (others : ℕ → List ℕ) → number v ≡ value → ((n : ℕ) → a.only_if ≡ Some n → number (others n) ≡ condition)
      → verdict_of r ≡ (meaning a).rule v others
  pub if_any : a.rule ≡ Any → r ≡ Fine
