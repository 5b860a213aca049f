-- What a Get answers, from what the code found in a sound store.
use Prim.Native.Nat.{ℕ, ◌<◌}
use mathlib.Core.Path.{◌≡◌, refl, sym, ◌∙◌, ap}
use mathlib.Core.Bool.{true, Bool}
use mathlib.Core.Option.{Option, none, some}
use mathlib.Core.List.{List, [], ◌∷◌, ◌++◌}
use Rattle.rules.specs.Maps.{given, is_some, first_that_applies}
use Rattle.rules.specs.Bytes.{two, bytes}
use Rattle.rules.specs.Masks.{named}
use Rattle.rules.specs.Catalogue.{Class, Catalogue}
use Rattle.rules.specs.State.{State}
use Rattle.rules.specs.Messages.{done, unknown_instance, unless_refused, Answer}
use Rattle.rules.specs.Commands.{get_results, values}
use Rattle.rules.specs.Commands as commands
use Rattle.class_tables.specs.Built.{cat_of, class_for}
use Rattle.class_tables.specs.declared.Product.{Product}
use Rattle.table.specs.declared.Which.TheVariants.{Live}
use Rattle.table.specs.Places.{InShape, keys_in}
use Rattle.table.specs.Spots.{spot_among}
use Rattle.table.proofs.HeldAt.{there_is_held}
use Rattle.octets.proofs.Parted.{part}
use Rattle.sound_store.specs.Held.{Sound, state_in}
use Rattle.sound_store.proofs.Held.{live_held}
use Rattle.sound_store.proofs.LiveTable.{its_spot}
use Rattle.attribute_read.specs.Values.{values_at, Packable}
use Rattle.attribute_read.proofs.ValuesRead.{values_live}
use Rattle.store.specs.Layout.{block_length, live_at}
use Rattle.get_command.specs.Gets.{answer_at}
use Rattle.get_command.proofs.Refused.{passed}

-- ---- an instance whose contents begin at a place of a block

module _ (pr : Product) (b : List ℕ) (c i at m : ℕ) where
  abbrev refusal : Option (List ℕ)
  refusal = first_that_applies (get_results true (class_for pr c) m)

  -- the refusal as the code found it
  pub as_told : {o : Option (List ℕ)} → o ≡ refusal → given o (done ∷ bytes 2 m ++ values_at (cat_of pr) b c i at (named m)) (λ x. x) ≡ answer_at pr b c i at m
  unfolding answer_at
  as_told = ap (λ (o : Option (List ℕ)). given o (done ∷ bytes 2 m ++ values_at (cat_of pr) b c i at (named m)) (λ x. x))

  pub packable : none ≡ refusal → InShape b → spot_among (cat_of pr) (keys_in b) c i ≡ some at → Packable pr Live b b c i at m 25
  packable e shape spot =
      let p = passed (class_for pr c) m (sym e) in
      record { live_long = shape.long; frozen_long = shape.long; shaped = shape; at_its_spot = spot; all_there = p.all_there; room_for_all = p.room }

-- ---- a sound store

module _ (pr : Product) (st : List ℕ) (h : Sound pr st) (c i : ℕ) (lt : i < 65536) (v : List ℕ) where
  abbrev cat : Catalogue
  cat = cat_of pr

  abbrev k : Class
  k = class_for pr c

  abbrev s : State
  s = state_in pr st

  abbrev block : List ℕ
  block = part live_at block_length st

  abbrev sought : Option ℕ
  sought = spot_among cat (keys_in block) c i

  abbrev answer : List ℕ
  answer = (commands.get cat s c i v).1

  abbrev accepted : Answer
  accepted = (s, done ∷ bytes 2 (two v 0) ++ values cat s.table c i (named (two v 0)))

  -- the answer, once it is told whether the instance is there
  abbrev answer_if : Bool → List ℕ
  answer_if t = (unless_refused s (get_results t k (two v 0)) accepted).1

  answer_is : {o : Option ℕ} → sought ≡ o → answer_if (is_some o) ≡ answer
  unfolding commands.get
  answer_is p = ap answer_if (ap is_some (sym p) ∙ there_is_held pr block s.table (live_held pr st h) c i lt)

  pub not_there : sought ≡ none → unknown_instance ∷ [] ≡ answer
  unfolding get_results unless_refused first_that_applies
  not_there p = answer_is p

  pub there : {at m : ℕ} → sought ≡ some at → m ≡ two v 0 → answer_at pr block c i at m ≡ answer
  unfolding answer_at unless_refused
  there {at} p e = ap (answer_at pr block c i at) e ∙ go (first_that_applies (get_results true k (two v 0))) refl ∙ answer_is p
    where
      go : (o : Option (List ℕ)) → first_that_applies (get_results true k (two v 0)) ≡ o
          → given o (done ∷ bytes 2 (two v 0) ++ values_at cat block c i at (named (two v 0))) (λ r. r) ≡ (given {B = Answer} o accepted (λ r. (s, r))).1
      go none e = ap (λ (x : List ℕ). done ∷ bytes 2 (two v 0) ++ x)
          (values_live pr block s.table (live_held pr st h) c i at lt (its_spot pr st h c i ∙ p) (named (two v 0)) (passed k (two v 0) e).all_there)
      go (some r) e = refl
