-- Alarm walks are the same in both products: they show alarms, which are the same.
use Prim.Native.Nat.{ℕ}
use mathlib.Core.Path.{◌≡◌, refl, ap}
use mathlib.Core.Option.{some}
use mathlib.Core.List.{List}
use lib.Dec.{eqb}
use Rattle.rules.specs.Maps.{◌and◌}
use Rattle.rules.specs.Catalogue.{Catalogue, ont_data}
use Rattle.rules.specs.State.{State}
use Rattle.rules.specs.Messages.{Answer}
use Rattle.rules.specs.Walks.{if_ont_data, all_alarms, alarms_next}
use Rattle.rules.proofs.Laws.{cases}
use Rattle.extending.specs.Matched.{MatchedState}

module _ (first second : Catalogue) where
  -- matched states and the same contents of the reply
  abbrev pub Same : Answer → Answer → Type 0
  Same a b = MatchedState first second a.0 b.0 × (b.1 ≡ a.1)

  module _ (s z : State) (m : MatchedState first second s z) (c i : ℕ) where
    same_if_ont_data : (a b : Answer) → Same a b → Same (if_ont_data c i s a) (if_ont_data c i z b)
    unfolding if_ont_data
    same_if_ont_data a b x = cases (eqb c ont_data and eqb i 0) (λ e. rw e x) (λ e. rw e (m, refl))

    pub all_alarms_matched : Same (all_alarms s c i) (all_alarms z c i)
    unfolding all_alarms
    all_alarms_matched = same_if_ont_data _ _ (
      record {
        tables = m.tables;
        untouched = m.untouched;
        same_alarms = m.same_alarms;
        same_alarm_number = refl;
        memories = m.memories;
        uploads = m.uploads;
        same_walk = ap some m.same_alarms;
      },
      rw m.same_alarms refl,
    )

    pub alarms_next_matched : (v : List ℕ) → Same (alarms_next s c i v) (alarms_next z c i v)
    unfolding alarms_next
    alarms_next_matched v = same_if_ont_data _ _ (m, rw m.same_walk refl)
