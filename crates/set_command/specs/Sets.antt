-- A Set of an instance that is there: what refuses it, and what it writes, over the bytes of a live table.
use Rattle.std.specs.Prelude.{ℕ, ◌≡◌, Bool, true, not, cond, List, [], ◌∷◌, take, drop, eqb, ltb, Result, Ok, Err}
use Rattle.std.proofs.Math.Option.{Option, none, some}
use Rattle.rules.specs.Maps.{◌and◌, ◌or◌, given, empty, first_that_applies}
use Rattle.rules.specs.Bytes.{two, fill, laid}
use Rattle.rules.specs.Masks.{named, mask, total}
use Rattle.rules.specs.Catalogue.{Class, size_of, ont_data}
use Rattle.rules.specs.Messages.{done}
use Rattle.rules.specs.Commands.{cut, unsupported, unwritable, set_results}
use Rattle.class_tables.specs.Built.{cat_of, class_for}
use Rattle.attribute_check.specs.Judges.{is_in, bad_among}
use Rattle.attribute_write.specs.Lays.{laid_values}
use Rattle.table.specs.Counts.{moved_on}
use Rattle.set_command.specs.declared.Judged.{Judged}
use Rattle.outcome.specs.declared.refusals.Refusal.{Refusal}
use Rattle.outcome.specs.Refusals.{refused}
use Rattle.class_tables.specs.declared.Product.{Product}
use Rattle.store.specs.Layout.{block_length, live_at}

-- the attributes in mask m whose values v aren't legal, for the instance of class c whose contents begin at a place of b
abbrev pub bad_at : Product → ℕ → ℕ → ℕ → List ℕ → List ℕ → List ℕ
bad_at pr c at m v b = bad_among (is_in (cat_of pr) b) (class_for pr c) b at (named m) v

-- does a mask name an attribute that the class doesn't have, or one that a Set may not write?
abbrev pub barred : Class → ℕ → Bool
barred k m = not (empty (unsupported k (named m)) and empty (unwritable k (named m)))

-- do the values of what it names take more bytes than a Set has room for?
abbrev pub too_long : Class → ℕ → Bool
too_long k m = ltb 30 (total (size_of k) (named m))

-- what the code answers about a Set with mask m of class k: `bad`, the attributes whose contents aren't legal, are reported if none is unsupported or unwritable
-- and the values fit
pub record SetJudged (k : Class) (m : ℕ) (bad : List ℕ) (j : Judged) : Type 0 where
  pub are_unsupported : j.unsupported ≡ mask (unsupported k (named m))
  pub are_failed : j.failed ≡ mask (cond (barred k m or too_long k m) (unwritable k (named m)) bad)
  pub is_barred : j.barred ≡ barred k m
  pub is_long : j.long ≡ too_long k m

-- the reply contents that the code's answer about a refusal stands for, or none
abbrev pub set_contents : Result (Unit {0}) Refusal → Option (List ℕ)
set_contents (Ok u) = none
set_contents (Err r) = some (refused r)

-- what refuses a Set with mask m and values v of the instance of class c whose contents begin at a place of b
unfoldable pub refusing : Product → ℕ → ℕ → ℕ → List ℕ → List ℕ → Option (List ℕ)
refusing pr c at m v b = first_that_applies (set_results true (class_for pr c) m (bad_at pr c at m v b))

-- the counter moves on, but not by a Set of class 2
unfoldable pub counted_by : ℕ → List ℕ → List ℕ
counted_by c b = cond (eqb c ont_data) b (moved_on b)

-- what it makes of b
unfoldable pub written : Product → ℕ → ℕ → ℕ → List ℕ → List ℕ → List ℕ
written pr c at m v b = counted_by c (laid_values (class_for pr c) at (cut (size_of (class_for pr c)) (named m) v) b)

-- the live table in a store, and the values behind the mask in a Set's contents
abbrev pub live_in : List ℕ → List ℕ
live_in store = take block_length (drop live_at store)

abbrev pub values_in : List ℕ → List ℕ
values_in v = take 30 (drop 2 v)

-- a store and a reply's contents after a Set with contents v of the instance of class c whose contents begin at a place of the live table
pub record SetAt (pr : Product) (c at : ℕ) (v before after out : List ℕ) : Type 0 where
  pub store : after ≡ given (refusing pr c at (two v 0) (values_in v) (live_in before)) (laid live_at (written pr c at (two v 0) (values_in v) (live_in before)) before) (λ r. before)
  pub reply : out ≡ fill 32 (given (refusing pr c at (two v 0) (values_in v) (live_in before)) (done ∷ []) (λ r. r))
