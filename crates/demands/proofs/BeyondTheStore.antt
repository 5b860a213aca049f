-- What the theorems on bytes can't say, since no catalogue that fits the store has the case (`store/Layout.fits`): class 2 has nothing but the sync counter
-- there, and no instance that is created has an alarm, nor one that comes with it. Here it is said on states, of any catalogue.
use Prim.Native.Nat.{ℕ, ◌%◌}
use native.Mathlib.Omega.{arith}
use mathlib.Core.Path.{◌≡◌, refl, sym, ◌∙◌, ap, subst}
use mathlib.Core.Bool.{true, false, not}
use mathlib.Core.Option.{Option, none, some}
use mathlib.Core.List.{List, [], ◌∷◌}
use lib.ListN.{length, drop}
use Rattle.rules.specs.Maps.{Map, given, keep, among, first_that_applies}
use Rattle.rules.specs.Bytes.{byte, two, number, are_bytes}
use Rattle.rules.specs.Masks.{named}
use Rattle.rules.specs.Catalogue.{Class, Catalogue, class, size_of}
use Rattle.rules.specs.State.{Alarms, Memory, State, holds, contents, content}
use Rattle.rules.specs.Messages.{contents_in, message_number, message_drops, reply_to, Answer}
use Rattle.rules.specs.Commands.{cut, set_by, bad_in_set, set_results, moved_by_set, set, goes_with, without, delete_results, delete}
use Rattle.rules.specs.Reports.{Outcome, answered}
use Rattle.rules.specs.Run.{perform, first_results, answer, is_repeat, remember, answer_anew, answer_again, handle, message, taken}
use Rattle.rules.proofs.Laws.{cases, not-false, eqb_eq}
use Rattle.rules.proofs.ByteLaws.{two_small}
use Rattle.legality.proofs.Refusals.{none_applies, unless_refused_is, unless_dropped_is}
use Rattle.legality.proofs.Outcomes.{drop_of, sent}
use Rattle.legality.proofs.ReplyBytes.{the_result_is_byte_8}
use Rattle.extending.proofs.Cuts.{cut_none}
use Rattle.demands.specs.Sent.{number_at, mask_names}
use Rattle.demands.specs.Counting.{sync_counter}
use Rattle.demands.specs.Repeating.{IsNoRepeat}
use Rattle.demands.proofs.SentLaws.{named_are}
use Rattle.demands.proofs.DemandOne.{a_call_drops_as_its_list_says}
use Rattle.demands.proofs.NotRefused.{above_0, not_refused, does_its_own}
use Rattle.demands.proofs.FrozenInBetween.{answered_anew}
use Rattle.demands.proofs.AnsweredOnBytes.{two_in_contents}
use Rattle.demands.proofs.CreatesOnBytes.{TakesItsAlarms, their_alarms_go}
use Rattle.demands.proofs.Sets.{others_stay}

-- ---- a Set of class 2

-- what is so of a state, and of the state that a message's answer makes of it, is so of what the message leaves: dropped messages and repeats leave all as
-- it was
left_by_a_message : (Is : State → Type 0) (cat : Catalogue) (s : State) (m : List ℕ) → Is s → Is (answer_anew cat s m).0 → Is (handle cat s m).0
unfolding handle answer_again
left_by_a_message Is cat s m before anew = unless_dropped_is (λ r. Is r.0) s (message_drops m) _ (λ n e. before) (λ clear. go s.remembered)
  where
    go : (o : Option Memory) → Is (given o (answer_anew cat s m) (answer_again cat s m)).0
    go none = anew
    go (some k) = cases (is_repeat m k) (λ e. rw e before) (λ e. rw e anew)

module _ (cat : Catalogue) (s : State) (m : List ℕ) (is_a_set : byte m 2 % 32 ≡ 8) (of_class_2 : number_at m 4 ≡ 2) where
  -- A Set of class 2, whatever its answer is, leaves every stored attribute of every instance as it was that its mask doesn't name.
  pub a_set_of_class_2_leaves_what_it_does_not_name : (d j n : ℕ) → (d ≡ 2 → j ≡ number_at m 6 → mask_names (number_at m 8) n ≡ false)
      → content n (contents cat (handle cat s m).0.table d j) ≡ content n (contents cat s.table d j)
  unfolding set set_by moved_by_set answer perform first_that_applies answer_anew remember
  a_set_of_class_2_leaves_what_it_does_not_name d j n other =
      let v : List ℕ = contents_in m in
      let i : ℕ = number_at m 6 in
      let k : Class = class cat 2 in
      let Stays : State → Type 0 = λ t. content n (contents cat t.table d j) ≡ content n (contents cat s.table d j) in
      let names : among n (named (two v 0)) ≡ mask_names (number_at m 8) n = ap (λ (w : ℕ). among n (named w)) (two_in_contents m 0 (omega arith)) ∙ named_are (number_at m 8) n in
      let by_its_own : Stays (set cat s 2 i v).0 = unless_refused_is (λ a. Stays a.0) s (set_results (holds cat s.table 2 i) k (two v 0) (bad_in_set cat s 2 i v)) _ (λ r e. refl)
      (λ clear. others_stay cat s.table 2 i (cut (size_of k) (named (two v 0)) (drop 2 v)) d j n (λ p q. cut_none (size_of k) (named (two v 0)) (drop 2 v) n (names ∙ other p q))) in
      let by_its_answer : Stays (answer cat s 8 2 i v).0 = unless_refused_is (λ a. Stays a.0) s (first_results cat 8 2) (set cat s 2 i v) (λ r e. refl) (λ clear. by_its_own) in
      left_by_a_message Stays cat s m refl (subst (λ (a : Answer). Stays a.0) (λ h. answer cat s (sym is_a_set h) (sym of_class_2 h) i v) by_its_answer)

  -- So one that doesn't name the sync counter leaves it as it was.
  pub a_set_of_class_2_that_does_not_name_the_counter_leaves_it : mask_names (number_at m 8) 1 ≡ false → sync_counter cat (handle cat s m).0 ≡ sync_counter cat s
  a_set_of_class_2_that_does_not_name_the_counter_leaves_it other = ap number (a_set_of_class_2_leaves_what_it_does_not_name 2 0 1 (λ p q. other))

-- ---- a Delete

-- A Delete (message number 6) that is answered anew with 0 takes the alarms of the instance that it names, and of those that came with it; every other
-- alarm stays.
pub an_accepted_delete_takes_its_alarms : (cat : Catalogue) (s : State) (m r : List ℕ) → are_bytes m ≡ true → byte m 2 % 32 ≡ 6 → IsNoRepeat s m → (handle cat s m).1 ≡ answered r
    → byte r 8 ≡ 0 → TakesItsAlarms cat m s.alarms (handle cat s m).0.alarms
unfolding perform first_that_applies delete delete_results without taken answer_anew remember message_drops
an_accepted_delete_takes_its_alarms cat s m r b is_a_delete new told zero =
    let v : List ℕ = contents_in m in
    let c : ℕ = number_at m 4 in
    let i : ℕ = number_at m 6 in
    let left : Map Alarms = keep (λ j b. not (goes_with cat c i j)) s.alarms in
    let passes : first_that_applies (message_drops m) ≡ none = sym (a_call_drops_as_its_list_says cat s (message m)) ∙ ap drop_of told in
    let long : length m ≡ 48 = eqb_eq (length m) 48 (not-false (none_applies (message_drops m) passes).0) in
    let a : Answer = answer cat s (message_number m) c i v in
    let is_anew : handle cat s m ≡ (remember m (reply_to m a.1) a.0, answered (reply_to m a.1)) = answered_anew cat s m passes new in
    let is_6 : a ≡ answer cat s 6 c i v = ap (λ (n : ℕ). answer cat s n c i v) is_a_delete in
    let result : byte a.1 0 ≡ 0 =
    sym (the_result_is_byte_8 m a.1 long) ∙ ap (λ (x : State × Outcome). byte (sent x.1) 8) (sym is_anew) ∙ ap (λ (o : Outcome). byte (sent o) 8) told ∙ zero in
    let own = (does_its_own cat s 6 c i v (delete cat s c i) refl (ap (λ (x : Answer). byte x.1 0) (sym is_6) ∙ result)).1 in
    let done = (not_refused s (delete_results cat s c i) (without cat c i s, 0 ∷ []) ((λ y. above_0 4), tt)
    (ap (λ (x : Answer). byte x.1 0) (sym (is_6 ∙ own)) ∙ result)).1 in
    let their_alarms : (handle cat s m).0.alarms ≡ left = ap (λ (x : State × Outcome). x.0.alarms) is_anew ∙ ap (λ (x : Answer). x.0.alarms) (is_6 ∙ own ∙ done) in
    subst (TakesItsAlarms cat m s.alarms) (sym their_alarms) (their_alarms_go cat m (two_small m 6 b) s.alarms)
