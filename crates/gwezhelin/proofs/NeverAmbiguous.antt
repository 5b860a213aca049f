-- C's number is never ambiguous: from it alone a caller knows whether there is a message to send, nothing to send, or which drop it was.
use Prim.Native.Nat.{ℕ}
use native.Mathlib.Omega.{arith}
use mathlib.Core.Path.{◌≡◌, refl, sym, ◌∙◌, ap, subst}
use mathlib.Core.Bool.{true, false, not}
use mathlib.Core.Option.{Option, none, some}
use mathlib.Core.Logic.{◌≢◌}
use mathlib.Core.List.{List, [], ◌∷◌}
use lib.ListN.{length}
use lib.Dec.{eqb, ltb}
use contract.Lifetimes.{Lfts}
use denote.Triple.Entry.{Args}
use denote.Triple.Clauses.{Lasts, at_exit}
use Rattle.rules.specs.Maps.{◌or◌, given, find, among}
use Rattle.rules.specs.Catalogue.{Catalogue}
use Rattle.rules.specs.Reports.{Outcome, dropped, quiet, answered}
use Rattle.rules.specs.Run.{Call, message, attribute_report, alarm_report, store_length}
use Rattle.rules.specs.Products.{built_products}
use Rattle.rules.proofs.Laws.{cases, true_false}
use Rattle.rules.proofs.MapLaws.{some_eq, none_some}
use Rattle.store.specs.Entries.{enter, power_on}
use Rattle.store.proofs.Built.{built_products_fit}
use Rattle.demands.proofs.DemandOne.{numbers_for, every_drop_is_from_the_list, which_drop_at_power_on}
use Rattle.gwezhelin.specs.Numbers.{number_for, start_number_for, Returns, StartReturns}
use Rattle.gwezhelin.specs.contracts.gwz_power_on as on
use Rattle.gwezhelin.proofs.gwz_power_on.Reads as on_reads
use Rattle.gwezhelin.specs.contracts.gwz_handle as handle
use Rattle.gwezhelin.proofs.gwz_handle.Reads as handle_reads
use Rattle.gwezhelin.specs.contracts.gwz_report_attribute as attribute
use Rattle.gwezhelin.proofs.gwz_report_attribute.Reads as attribute_reads
use Rattle.gwezhelin.specs.contracts.gwz_report_alarm as alarm
use Rattle.gwezhelin.proofs.gwz_report_alarm.Reads as alarm_reads

-- ---- a call

-- what a number r says of a call's outcome o, where these are the numbers that the call can be dropped with
pub record Tells (listed : List ℕ) (r : ℕ) (o : Outcome) : Type 0 where
  -- 0 exactly if it is answered
  pub answered_if_zero : r ≡ 0 → (sent : List ℕ) × (o ≡ answered sent)
  pub zero_if_answered : (sent : List ℕ) → o ≡ answered sent → r ≡ 0
  -- 255 exactly if it is quiet
  pub quiet_if_255 : r ≡ 255 → o ≡ quiet
  pub number_if_quiet : o ≡ quiet → r ≡ 255
  -- else a number of the list, exactly if it is dropped with that number
  pub else_dropped : r ≢ 0 → r ≢ 255 → (o ≡ dropped r) × (among r listed ≡ true)
  pub number_if_dropped : (n : ℕ) → o ≡ dropped n → (r ≡ n) × (among n listed ≡ true)

-- no list has 0 or 255
listed_is_neither : (c : Call) → (among 0 (numbers_for c) ≡ false) × (among 255 (numbers_for c) ≡ false)
unfolding among ◌or◌
listed_is_neither (message m) = (refl, refl)
listed_is_neither (attribute_report c i n v) = (refl, refl)
listed_is_neither (alarm_report c i n on) = (refl, refl)

-- Whatever is called, on any store and reply buffer: the number is 0 exactly if the call is answered, 255 exactly if it is quiet, and
-- otherwise a number of the call's list (1 to 7; 1, 2 and 11 to 13; 1, 2, 11 and 12), exactly if the call is dropped with it.
pub the_number_is_never_ambiguous : (c : Call) (before lent : List ℕ) (r : ℕ) (store buffer : List ℕ) → Returns r store buffer (enter built_products c before lent)
    → Tells (numbers_for c) r (enter built_products c before lent).outcome
the_number_is_never_ambiguous c before lent r store buffer returned =
    subst (λ n. Tells (numbers_for c) n outcome) (sym returned.its_number) (record {
      answered_if_zero = is_answered outcome listed;
      zero_if_answered = λ sent y. ap number_for y;
      quiet_if_255 = is_quiet outcome listed;
      number_if_quiet = λ y. ap number_for y;
      else_dropped = is_dropped outcome listed;
      number_if_dropped = λ n y. (ap number_for y, listed n y);
    })
  where
    outcome : Outcome
    outcome = (enter built_products c before lent).outcome

    Listed : Outcome → Type 0
    Listed o = (n : ℕ) → o ≡ dropped n → among n (numbers_for c) ≡ true

    listed : Listed outcome
    listed = every_drop_is_from_the_list built_products c before lent

    is_answered : (o : Outcome) → Listed o → number_for o ≡ 0 → (sent : List ℕ) × (o ≡ answered sent)
    is_answered (dropped n) l z = true_false (ap (λ (k : ℕ). among k (numbers_for c)) (sym z) ∙ l n refl) (listed_is_neither c).0
    is_answered quiet l z = absurd (let y : ◌≡◌ {A = ℕ} 255 0 = z in omega arith)
    is_answered (answered m) l z = (m, refl)

    is_quiet : (o : Outcome) → Listed o → number_for o ≡ 255 → o ≡ quiet
    is_quiet (dropped n) l z = true_false (ap (λ (k : ℕ). among k (numbers_for c)) (sym z) ∙ l n refl) (listed_is_neither c).1
    is_quiet quiet l z = refl
    is_quiet (answered m) l z = absurd (let y : ◌≡◌ {A = ℕ} 0 255 = z in omega arith)

    is_dropped : (o : Outcome) → Listed o → number_for o ≢ 0 → number_for o ≢ 255 → (o ≡ dropped (number_for o)) × (among (number_for o) (numbers_for c) ≡ true)
    is_dropped (dropped n) l a b = (refl, l n refl)
    is_dropped quiet l a b = absurd (b refl)
    is_dropped (answered m) l a b = absurd (a refl)

-- ---- a power-on

-- the numbers that a power-on can be dropped with
abbrev pub start_numbers : List ℕ
start_numbers = 2 ∷ 12 ∷ []

-- what a number r says of a power-on that was dropped with o, or wasn't
pub record StartTells (r : ℕ) (o : Option ℕ) : Type 0 where
  -- 0 exactly if it started
  pub started_if_zero : r ≡ 0 → o ≡ none
  pub zero_if_started : o ≡ none → r ≡ 0
  -- else 2 or 12, exactly if it was dropped with that number
  pub else_dropped : r ≢ 0 → (o ≡ some r) × (among r start_numbers ≡ true)
  pub number_if_dropped : (n : ℕ) → o ≡ some n → (r ≡ n) × (among n start_numbers ≡ true)

-- Whatever product is named, on any store: the number is 0 exactly if the product started, and otherwise 2 or 12, exactly if the power-on is
-- dropped with it.
pub the_start_s_number_is_never_ambiguous : (p : ℕ) (lent : List ℕ) (r : ℕ) (store : List ℕ) → StartReturns r store (power_on built_products p lent)
    → StartTells r (power_on built_products p lent).0
unfolding among ◌or◌
the_start_s_number_is_never_ambiguous p lent r store returned =
    subst (λ n. StartTells n (power_on built_products p lent).0) (sym returned.its_number)
    (subst (λ o. StartTells (start_number_for o) o) (sym (which_drop_at_power_on built_products built_products_fit p lent))
    (cases (ltb (length lent) store_length) (λ y. rw y of_2) (λ y. rw y (go (find p built_products)))))
  where
    with_number : (n : ℕ) → n ≢ 0 → among n start_numbers ≡ true → StartTells n (some n)
    with_number n ne listed = record {
      started_if_zero = λ z. absurd (ne z);
      zero_if_started = λ y. none_some (sym y);
      else_dropped = λ a. (refl, listed);
      number_if_dropped = λ k y. (some_eq y, ap (λ (m : ℕ). among m start_numbers) (sym (some_eq y)) ∙ listed);
    }

    of_2 : StartTells 2 (some 2)
    of_2 = with_number 2 (λ z. absurd (let y : ◌≡◌ {A = ℕ} 2 0 = z in omega arith)) refl

    go : (o : Option Catalogue) → StartTells (start_number_for (given o (some 12) (λ cat. none))) (given o (some 12) (λ cat. none))
    go none = with_number 12 (λ z. absurd (let y : ◌≡◌ {A = ℕ} 12 0 = z in omega arith)) refl
    go (some cat) = record {
      started_if_zero = λ z. refl;
      zero_if_started = λ y. refl;
      else_dropped = λ a. absurd (a refl);
      number_if_dropped = λ k y. none_some y;
    }

-- ---- each function of the C face, by its contract: a is what it is given and lent, and last what it leaves of what it may change

-- so with every number that the contract of `gwz_power_on` allows for its input
pub gwz_power_on_s_number_is_never_ambiguous : (κs : Lfts (on.signature).lifetimes) (a : Args on.signature κs) (r : ℕ) (last : Lasts on.ended κs a)
    → on_reads.Learnt κs a r (at_exit on.ended κs a last) → StartTells r (power_on built_products a.1.0 a.0.now).0
gwz_power_on_s_number_is_never_ambiguous κs a r last e = the_start_s_number_is_never_ambiguous a.1.0 a.0.now r last.0 e

-- of `gwz_handle`
pub gwz_handle_s_number_is_never_ambiguous : (κs : Lfts (handle.signature).lifetimes) (a : Args handle.signature κs) (r : ℕ) (last : Lasts handle.ended κs a)
    → handle_reads.Learnt κs a r (at_exit handle.ended κs a last)
    → Tells (numbers_for (message a.1.0.now)) r (enter built_products (message a.1.0.now) a.0.now a.1.1.0.now).outcome
gwz_handle_s_number_is_never_ambiguous κs a r last e = the_number_is_never_ambiguous (message a.1.0.now) a.0.now a.1.1.0.now r last.0 last.1.1.0 e

module _ (κs : Lfts (attribute.signature).lifetimes) (a : Args attribute.signature κs) where
  -- the call that it makes
  abbrev its_attribute : Call
  its_attribute = attribute_report a.1.0 a.1.1.0 a.1.1.1.0 a.1.1.1.1.0.now

  -- of `gwz_report_attribute`
  pub gwz_report_attribute_s_number_is_never_ambiguous : (r : ℕ) (last : Lasts attribute.ended κs a) → attribute_reads.Learnt κs a r (at_exit attribute.ended κs a last)
      → Tells (numbers_for its_attribute) r (enter built_products its_attribute a.0.now a.1.1.1.1.1.0.now).outcome
  gwz_report_attribute_s_number_is_never_ambiguous r last e =
      the_number_is_never_ambiguous its_attribute a.0.now a.1.1.1.1.1.0.now r last.0 last.1.1.1.1.1.0 e

module _ (κs : Lfts (alarm.signature).lifetimes) (a : Args alarm.signature κs) where
  -- the call that it makes
  abbrev its_alarm : Call
  its_alarm = alarm_report a.1.0 a.1.1.0 a.1.1.1.0 (not (eqb a.1.1.1.1.0 0))

  -- of `gwz_report_alarm`
  pub gwz_report_alarm_s_number_is_never_ambiguous : (r : ℕ) (last : Lasts alarm.ended κs a) → alarm_reads.Learnt κs a r (at_exit alarm.ended κs a last)
      → Tells (numbers_for its_alarm) r (enter built_products its_alarm a.0.now a.1.1.1.1.1.0.now).outcome
  gwz_report_alarm_s_number_is_never_ambiguous r last e =
      the_number_is_never_ambiguous its_alarm a.0.now a.1.1.1.1.1.0.now r last.0 last.1.1.1.1.1.0 e
