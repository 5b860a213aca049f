-- How the states of two products stand to each other while both are given the same calls: the second holds what the first holds.
use Rattle.std.specs.Prelude.{ℕ, ◌≡◌, true, false, List, [], ◌∷◌, replicate}
use Rattle.std.proofs.Math.Option.{Option, none, some}
use Rattle.rules.specs.Maps.{Map, find}
use Rattle.rules.specs.Catalogue.{Class, Catalogue, class, known, attribute, supported, size_of, is_fixed}
use Rattle.rules.specs.State.{Contents, Entry, Table, Memory, State, content}
use Rattle.rules.specs.Commands.{first_content}
use Rattle.extending.specs.Promise.{must_be_the_same}

-- neither is there, or both are and match
abbrev pub BothMatch : {A B : Type 0} → (A → B → Type 0) → Option A → Option B → Type 0
BothMatch match none none = Unit {0}
BothMatch match none (some b) = ⊥
BothMatch match (some a) none = ⊥
BothMatch match (some a) (some b) = match a b

-- contents of an instance of a class that both have
pub record MatchedContents (k l : Class) (r q : Contents) : Type 0 where
  pub same_contents : (n : ℕ) → supported k n ≡ true → find n q ≡ find n r
  -- what the second's rules may look at and only the second has, is zero
  pub added_is_zero : (n : ℕ) → supported k n ≡ false → is_fixed (attribute l n) ≡ true → content n q ≡ replicate (size_of l n) 0

module _ (first second : Catalogue) where
  -- of each class that the first has
  abbrev pub MatchedEntry : Entry → Entry → Type 0
  MatchedEntry e f = (c : ℕ) → known first c ≡ true → BothMatch (MatchedContents (class first c) (class second c)) (find c e) (find c f)

  -- the same keys in the same order
  abbrev pub MatchedRows : Map Entry → Map Entry → Type 0
  MatchedRows [] [] = Unit {0}
  MatchedRows [] (f ∷ n) = ⊥
  MatchedRows (e ∷ m) [] = ⊥
  MatchedRows (e ∷ m) (f ∷ n) = (f.0 ≡ e.0) × MatchedEntry e.1 f.1 × MatchedRows m n

  -- the same created instances; the second may have more automatic ones
  pub record MatchedTable (t u : Table) : Type 0 where
    pub created_match : MatchedRows t.created u.created
    pub automatic_match : (k : ℕ) (e : Entry) → find k t.automatic ≡ some e → (f : Entry) × (find k u.automatic ≡ some f) × MatchedEntry e f

  -- replies that must be the same are
  pub record MatchedMemory (a b : Memory) : Type 0 where
    pub same_command : b.command ≡ a.command
    pub same_reply : must_be_the_same a.command a.reply ≡ true → b.reply ≡ a.reply

  -- what neither a Set nor a report writes in the first product holds its first content: the second's reset may write it
  abbrev pub Untouched : Table → Type 0
  Untouched t = (k : ℕ) (e : Entry) (c : ℕ) (r : Contents) (n : ℕ) (v : List ℕ)
      → find k t.automatic ≡ some e → find c e ≡ some r → find n r ≡ some v
      → (attribute (class first c) n).W ≡ false → (attribute (class first c) n).L ≡ false
      → v ≡ first_content [] (attribute (class first c) n).source

  pub record MatchedState (s z : State) : Type 0 where
    pub tables : MatchedTable s.table z.table
    pub untouched : Untouched s.table
    pub same_alarms : z.alarms ≡ s.alarms
    pub same_alarm_number : z.alarm_number ≡ s.alarm_number
    pub memories : BothMatch MatchedMemory s.remembered z.remembered
    pub uploads : BothMatch MatchedTable s.upload z.upload
    pub same_walk : z.walk ≡ s.walk
