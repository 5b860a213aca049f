-- Demand 3 of the products that are built: Meter, Small and Large, each of which extends the one before. So there are three pairs, and all that
-- is said of Small and Large is said of each.
use Prim.Native.Nat.{ℕ, ◌≤◌}
use mathlib.Core.Path.{◌≡◌, refl}
use mathlib.Core.Bool.{true}
use mathlib.Core.Option.{some}
use mathlib.Core.List.{List}
use lib.ListN.{length}
use Rattle.rules.specs.Maps.{find}
use Rattle.rules.specs.Catalogue.{Catalogue}
use Rattle.rules.specs.State.{Table, read}
use Rattle.rules.specs.Walks.{sections}
use Rattle.rules.specs.Run.{Input, store_length, fresh, after}
use Rattle.rules.specs.Products.{Small, Large, Meter, built_products}
use Rattle.rules.specs.Extends.{Extends}
use Rattle.products.proofs.WellFormed.{small_is_well_formed, large_is_well_formed, meter_is_well_formed}
use Rattle.products.proofs.Extends.{large_extends_small, small_extends_meter}
use Rattle.store.specs.Decode.{decode}
use Rattle.store.specs.Entries.{power_on}
use Rattle.store.proofs.Built.{built_products_fit}
use Rattle.legality.proofs.Kept.{AllOfBytes}
use Rattle.extending.specs.Promise.{within_the_promise, stands_in, SameUploads, SameRun, SameOutcomes}
use Rattle.extending.proofs.Composes.{extending_composes}
use Rattle.extending.proofs.Runs.{an_extension_has_the_same_run}
use Rattle.demands.specs.Lending.{outcomes, memory_after_all}
use Rattle.demands.proofs.Fetched.{Fetched}
use Rattle.demands.proofs.DemandThree.{the_second_store_answers_as_the_first, the_second_store_uploads_what_the_first_does, the_second_store_sends_what_the_first_does}

-- ---- what is said of a pair

-- a run that demand 3 speaks of: its messages and contents are bytes, and the first product keeps it within the promise
pub record Promised (first : Catalogue) (l : List Input) : Type 0 where
  pub of_bytes : AllOfBytes l
  pub promised : within_the_promise first (fresh first) l ≡ true

-- two stores, each long enough
pub record LongEnough (a b : List ℕ) : Type 0 where
  pub first_is : store_length ≤ length a
  pub second_is : store_length ≤ length b

-- product p has the first catalogue, product q the second; the second does all that the first does
pub record DoesAllOf (p q : ℕ) (first second : Catalogue) : Type 0 where
  -- on states: the same drops, replies, notifications and alarm walks, and uploads that show what the first's do
  pub on_states : (l : List Input) → Promised first l → SameRun first second (fresh first) (fresh second) l
  -- on bytes: the same drops, replies, notifications and alarm walks
  pub answers : (a b : List ℕ) → LongEnough a b → (l : List Input) → Promised first l
      → SameOutcomes l (outcomes built_products (power_on built_products p a).1 l) (outcomes built_products (power_on built_products q b).1 l)
  -- the states that both stores hold in the end, and the uploads that were asked for last
  pub uploads : (a b : List ℕ) → LongEnough a b → (l : List Input) → Promised first l
      → (decode built_products (memory_after_all built_products (power_on built_products p a).1 l)
      ≡ some (record { product = p; catalogue = first; state = after first (fresh first) l }))
      × (decode built_products (memory_after_all built_products (power_on built_products q b).1 l)
      ≡ some (record { product = q; catalogue = second; state = after second (fresh second) l }))
      × SameUploads first second (after first (fresh first) l) (after second (fresh second) l)
  -- and each attribute is sent: some Next of the second's, below its count, shows a section that names it, with the first's content
  pub sends : (l : List Input) → Promised first l → (t : Table) → (after first (fresh first) l).upload ≡ some t → (c i n : ℕ) → stands_in (sections first t) c i n ≡ true
      → (u : Table) × ((after second (fresh second) l).upload ≡ some u) × Fetched second (after second (fresh second) l) u c i n × (read second u c i n ≡ read first t c i n)

-- it holds of any two built products of which the second extends the first
an_extension_does_all : (p q : ℕ) (first second : Catalogue) → find p built_products ≡ some first → find q built_products ≡ some second → Extends first second
    → DoesAllOf p q first second
an_extension_does_all p q first second p_is q_is ext = record {
  on_states = λ l w. an_extension_has_the_same_run first second (built_products_fit.well_formed p first p_is) (built_products_fit.well_formed q second q_is) ext l
      w.of_bytes w.promised;
  answers = λ a b long l w.
      the_second_store_answers_as_the_first built_products built_products_fit p q first second p_is q_is ext l w.of_bytes w.promised a b long.first_is long.second_is;
  uploads = λ a b long l w.
      the_second_store_uploads_what_the_first_does built_products built_products_fit p q first second p_is q_is ext l w.of_bytes w.promised a b long.first_is long.second_is;
  sends = λ l w. the_second_store_sends_what_the_first_does built_products built_products_fit p q first second p_is q_is ext l w.of_bytes w.promised;
}

-- ---- the pairs

pub small_is_1 : find 1 built_products ≡ some Small
unfolding built_products find
small_is_1 = refl

pub large_is_2 : find 2 built_products ≡ some Large
unfolding built_products find
large_is_2 = refl

pub meter_is_3 : find 3 built_products ≡ some Meter
unfolding built_products find
meter_is_3 = refl

-- Large extends Meter, since it extends Small and Small extends Meter
pub large_extends_meter : Extends Meter Large
large_extends_meter = extending_composes Meter Small Large meter_is_well_formed small_is_well_formed large_is_well_formed small_extends_meter large_extends_small

pub large_does_all_of_small : DoesAllOf 1 2 Small Large
large_does_all_of_small = an_extension_does_all 1 2 Small Large small_is_1 large_is_2 large_extends_small

pub small_does_all_of_meter : DoesAllOf 3 1 Meter Small
small_does_all_of_meter = an_extension_does_all 3 1 Meter Small meter_is_3 small_is_1 small_extends_meter

pub large_does_all_of_meter : DoesAllOf 3 2 Meter Large
large_does_all_of_meter = an_extension_does_all 3 2 Meter Large meter_is_3 large_is_2 large_extends_meter
