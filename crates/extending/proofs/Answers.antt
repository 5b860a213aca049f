-- Every command takes matched states to matched states, and its replies are the same where they must be.
use Prim.Native.Nat.{ℕ, ◌<◌}
use mathlib.Core.Path.{◌≡◌, refl}
use mathlib.Core.Bool.{Bool, true, false, not, cond}
use mathlib.Core.Option.{some}
use mathlib.Core.List.{List, [], ◌∷◌}
use lib.ListN.{length}
use Rattle.rules.specs.Maps.{◌and◌, ◌or◌, among, first_that_applies}
use Rattle.rules.specs.Bytes.{byte, are_bytes}
use Rattle.rules.specs.Catalogue.{Catalogue, class, known, ont_data}
use Rattle.rules.specs.State.{State}
use Rattle.rules.specs.Messages.{with_result, without_result, create_number, delete_number, set_number, get_number, reset_number, all_alarms_number, alarms_next_number}
use Rattle.rules.specs.Messages.{upload_number, upload_next_number, not_supported, unknown_class, Answer, unless_refused}
use Rattle.rules.specs.Commands.{create, delete, set, get, reset}
use Rattle.rules.specs.Walks.{upload, upload_next, all_alarms, alarms_next}
use Rattle.rules.specs.Run.{perform, first_results, answer}
use Rattle.rules.specs.WellFormed.{WellFormed, created_by_Create}
use Rattle.rules.specs.Extends.{Extends}
use Rattle.rules.proofs.Laws.{◌&◌, cases, never, true_false, or_left, all_among, each_among}
use Rattle.rules.proofs.Lookups.{implied, class_says}
use Rattle.rules.proofs.Standing.{class_2_known}
use Rattle.legality.proofs.LegalStates.{LegalState}
use Rattle.extending.specs.Promise.{is_0_1_or_7}
use Rattle.extending.specs.Matched.{MatchedState}
use Rattle.extending.proofs.Found.{known_too, class_extends}
use Rattle.extending.proofs.Sets.{set_matched}
use Rattle.extending.proofs.Deletes.{delete_matched}
use Rattle.extending.proofs.Creates.{create_matched}
use Rattle.extending.proofs.Gets.{get_keeps, get_matched}
use Rattle.extending.proofs.Resets.{reset_of_others, reset_matched}
use Rattle.extending.proofs.Uploads.{next_keeps, upload_matched}
use Rattle.extending.proofs.AlarmWalks.{Same, all_alarms_matched, alarms_next_matched}

-- ---- how a command whose reply has a result is answered

-- refused if its class is unknown or hasn't the command
unfoldable for_its_class : Catalogue → ℕ → ℕ → State → Answer → Answer
for_its_class cat n c s a = cond (known cat c) (cond (among n (class cat c).commands) a (s, not_supported ∷ [])) (s, unknown_class ∷ [])

module _ (cat : Catalogue) (s : State) (c i : ℕ) (v : List ℕ) where
  as_its_class_says : (n : ℕ) (a : Answer) → among n with_result ≡ true → perform cat s n c i v ≡ some a → answer cat s n c i v ≡ for_its_class cat n c s a
  unfolding answer first_results unless_refused first_that_applies for_its_class ◌and◌ ◌or◌
  as_its_class_says n a w p = rw (w, p) (cases (known cat c)
      (λ k. rw k (cases (among n (class cat c).commands) (λ m. rw m refl) (λ m. rw m refl)))
      (λ k. rw k refl))

  as_the_walks_say : (n : ℕ) (a : Answer) → among n with_result ≡ false → among n without_result ≡ true → perform cat s n c i v ≡ some a → answer cat s n c i v ≡ a
  unfolding answer first_results unless_refused first_that_applies ◌and◌ ◌or◌
  as_the_walks_say n a w o p = rw (w, o, p) refl

  if_not_built : (n : ℕ) → among n with_result ≡ false → among n without_result ≡ false → answer cat s n c i v ≡ (s, not_supported ∷ [])
  unfolding answer first_results unless_refused first_that_applies ◌and◌ ◌or◌
  if_not_built n w o = rw (w, o) refl

-- the first is refused with 2 or 4, if at all; so where its result is 0, 1 or 7, the class is known and has the command
in_its_class {ℓ} : (cat : Catalogue) (n c : ℕ) (s : State) (a : Answer) {X : Type ℓ}
    → (known cat c ≡ true → among n (class cat c).commands ≡ true → is_0_1_or_7 (byte a.1 0) ≡ true → X)
    → is_0_1_or_7 (byte (for_its_class cat n c s a).1 0) ≡ true → X
unfolding for_its_class among ◌or◌
in_its_class cat n c s a f = cases (known cat c)
    (λ k. rw k (cases (among n (class cat c).commands) (λ m. rw m (λ h. f k m h)) (λ m. rw m (λ h. never h))))
    (λ k. rw k (λ h. never h))

taken_in_its_class : (cat : Catalogue) (n c : ℕ) (s : State) (a : Answer) → known cat c ≡ true → among n (class cat c).commands ≡ true → for_its_class cat n c s a ≡ a
unfolding for_its_class
taken_in_its_class cat n c s a k m = rw (k, m) refl

-- a command that keeps the state keeps it wherever it is refused too
kept_in_its_class : (cat : Catalogue) (n c : ℕ) (s : State) (a : Answer) → a.0 ≡ s → (for_its_class cat n c s a).0 ≡ s
unfolding for_its_class
kept_in_its_class cat n c s a e = cases (known cat c)
    (λ k. rw k (cases (among n (class cat c).commands) (λ m. rw m e) (λ m. rw m refl)))
    (λ k. rw k refl)

not_in_its_class : (cat : Catalogue) (n c : ℕ) (s : State) (a : Answer) → among n (class cat c).commands ≡ false → (for_its_class cat n c s a).0 ≡ s
unfolding for_its_class
not_in_its_class cat n c s a e = cases (known cat c) (λ k. rw (k, e) refl) (λ k. rw k refl)

module _ (first second : Catalogue) (wf : WellFormed first) (wf' : WellFormed second) (ext : Extends first second) where
  same_in_its_class : (n c : ℕ) (s z : State) (a b : Answer)
      → (known first c ≡ true → among n (class first c).commands ≡ true → is_0_1_or_7 (byte a.1 0) ≡ true → Same first second a b)
      → is_0_1_or_7 (byte (for_its_class first n c s a).1 0) ≡ true → Same first second (for_its_class first n c s a) (for_its_class second n c z b)
  same_in_its_class n c s z a b f h = in_its_class first n c s a (λ k m r.
      let m' : among n (class second c).commands ≡ true =
      all_among (λ j. among j (class second c).commands) (class first c).commands (class_extends first second wf wf' ext c k).commands_grow n m in
      rw (taken_in_its_class first n c s a k m, taken_in_its_class second n c z b (known_too first second wf wf' ext c k) m') (f k m r)) h

  module _ (s z : State) (h : LegalState first wf s) (h' : LegalState second wf' z) (m : MatchedState first second s z)
      (c i : ℕ) (v : List ℕ) (lt : i < 65536) (long : length v ≡ 32) (b : are_bytes v ≡ true) where
    -- must the contents of the two replies to message number n be the same?
    abbrev must_match : ℕ → Bool
    must_match n = (not (among n without_result) and is_0_1_or_7 (byte (answer first s n c i v).1 0)) or among n (all_alarms_number ∷ alarms_next_number ∷ [])

    pub record MatchedAnswer (n : ℕ) : Type 0 where
      pub states : MatchedState first second (answer first s n c i v).0 (answer second z n c i v).0
      pub same_contents : must_match n ≡ true → (answer second z n c i v).1 ≡ (answer first s n c i v).1

    -- Create, Delete and Set: answered with 0, 1 or 7
    changing : (n : ℕ) (a b : Answer) → among n with_result ≡ true → perform first s n c i v ≡ some a → perform second z n c i v ≡ some b
        → (known first c ≡ true → among n (class first c).commands ≡ true → is_0_1_or_7 (byte a.1 0) ≡ true → Same first second a b)
        → is_0_1_or_7 (byte (answer first s n c i v).1 0) ≡ true → Same first second (answer first s n c i v) (answer second z n c i v)
    changing n a b w p p' f = rw (as_its_class_says first s c i v n a w p, as_its_class_says second z c i v n b w p') (same_in_its_class n c s z a b f)

    by_create : is_0_1_or_7 (byte (answer first s create_number c i v).1 0) ≡ true → Same first second (answer first s create_number c i v) (answer second z create_number c i v)
    unfolding perform first_that_applies among ◌or◌ created_by_Create
    by_create = changing create_number (create first s c i v) (create second z c i v) refl refl refl
        (λ k a r. create_matched first second wf wf' ext s z h h' m c i v
        (implied (class_says created_by_Create first wf.create_if_created c k) (or_left (among delete_number (class first c).commands) a)) k lt long b r)

    by_delete : is_0_1_or_7 (byte (answer first s delete_number c i v).1 0) ≡ true → Same first second (answer first s delete_number c i v) (answer second z delete_number c i v)
    unfolding perform first_that_applies among ◌or◌
    by_delete = changing delete_number (delete first s c i) (delete second z c i) refl refl refl (λ k a r. delete_matched first second wf wf' ext s z h h' m c i r)

    by_set : is_0_1_or_7 (byte (answer first s set_number c i v).1 0) ≡ true → Same first second (answer first s set_number c i v) (answer second z set_number c i v)
    unfolding perform first_that_applies among ◌or◌
    by_set = changing set_number (set first s c i v) (set second z c i v) refl refl refl (λ k a r. set_matched first second wf wf' ext s z h h' m c i v k lt long b r)

    by_get : MatchedAnswer get_number
    unfolding perform first_that_applies among ◌or◌ ◌and◌
    by_get = record {
      states = rw (
        as_its_class_says first s c i v get_number (get first s c i v) refl refl,
        as_its_class_says second z c i v get_number (get second z c i v) refl refl,
        kept_in_its_class first get_number c s (get first s c i v) (get_keeps first s c i v),
        kept_in_its_class second get_number c z (get second z c i v) (get_keeps second z c i v),
      ) m;
      same_contents = λ y. (changing get_number (get first s c i v) (get second z c i v) refl refl refl
          (λ k a r. (rw (get_keeps first s c i v, get_keeps second z c i v) m, get_matched first second wf wf' ext s z h h' m c i v k r))
          (cases (is_0_1_or_7 (byte (answer first s get_number c i v).1 0)) (λ e. e) (λ e. never (rw e at y)))).1;
    }

    by_reset : MatchedAnswer reset_number
    unfolding perform first_that_applies among ◌or◌ ◌and◌
    by_reset = cases (among reset_number (class first c).commands)
        (λ e. of_class_2 (reset_of_others first wf c e))
        (λ e. refused e (cases (among reset_number (class second c).commands)
        (λ e'. true_false (rw (reset_of_others second wf' c e') wf.class_2_has_reset) e)
        (λ e'. e')))
      where
        of_class_2 : c ≡ ont_data → MatchedAnswer reset_number
        of_class_2 two =
            let r = reset_matched first second wf wf' ext s z h h' m i in
            let taken = taken_in_its_class first reset_number ont_data s (reset first s ont_data i) (class_2_known first wf) wf.class_2_has_reset in
            let taken' = taken_in_its_class second reset_number ont_data z (reset second z ont_data i) (class_2_known second wf') wf'.class_2_has_reset in
            let a = as_its_class_says first s c i v reset_number (reset first s c i) refl refl in
            let a' = as_its_class_says second z c i v reset_number (reset second z c i) refl refl in
            record { states = rw (a, a', two, taken, taken') r.0; same_contents = λ y. rw (a, a', two, taken, taken') r.1 }

        refused : among reset_number (class first c).commands ≡ false → among reset_number (class second c).commands ≡ false → MatchedAnswer reset_number
        refused e e' =
            let a = as_its_class_says first s c i v reset_number (reset first s c i) refl refl in
            record {
              states = rw (
                a,
                as_its_class_says second z c i v reset_number (reset second z c i) refl refl,
                not_in_its_class first reset_number c s (reset first s c i) e,
                not_in_its_class second reset_number c z (reset second z c i) e',
              ) m;
              same_contents = λ y. in_its_class first reset_number c s (reset first s c i) (λ k al r. true_false al e)
                  (cases (is_0_1_or_7 (byte (for_its_class first reset_number c s (reset first s c i)).1 0)) (λ t. t) (λ t. never (rw (a, t) at y)));
            }

    by_all_alarms : MatchedAnswer all_alarms_number
    unfolding perform first_that_applies among ◌or◌
    by_all_alarms =
        let x = all_alarms_matched first second s z m c i in
        let a = as_the_walks_say first s c i v all_alarms_number (all_alarms s c i) refl refl refl in
        let a' = as_the_walks_say second z c i v all_alarms_number (all_alarms z c i) refl refl refl in
        record { states = rw (a, a') x.0; same_contents = λ y. rw (a, a') x.1 }

    by_alarms_next : MatchedAnswer alarms_next_number
    unfolding perform first_that_applies among ◌or◌
    by_alarms_next =
        let x = alarms_next_matched first second s z m c i v in
        let a = as_the_walks_say first s c i v alarms_next_number (alarms_next s c i v) refl refl refl in
        let a' = as_the_walks_say second z c i v alarms_next_number (alarms_next z c i v) refl refl refl in
        record { states = rw (a, a') x.0; same_contents = λ y. rw (a, a') x.1 }

    by_upload : MatchedAnswer upload_number
    unfolding perform first_that_applies among ◌or◌ ◌and◌
    by_upload = record {
      states = rw (
        as_the_walks_say first s c i v upload_number (upload first s c i) refl refl refl,
        as_the_walks_say second z c i v upload_number (upload second z c i) refl refl refl,
      ) (upload_matched first second wf wf' ext s z m c i);
      same_contents = λ y. never y;
    }

    by_upload_next : MatchedAnswer upload_next_number
    unfolding perform first_that_applies among ◌or◌ ◌and◌
    by_upload_next = record {
      states = rw (
        as_the_walks_say first s c i v upload_next_number (upload_next first s c i v) refl refl refl,
        as_the_walks_say second z c i v upload_next_number (upload_next second z c i v) refl refl refl,
        next_keeps first s c i v,
        next_keeps second z c i v,
      ) m;
      same_contents = λ y. never y;
    }

    if_built_by_none : (n : ℕ) → among n with_result ≡ false → among n without_result ≡ false → MatchedAnswer n
    if_built_by_none n w o = record {
      states = rw (if_not_built first s c i v n w o, if_not_built second z c i v n w o) m;
      same_contents = λ y. rw (if_not_built first s c i v n w o, if_not_built second z c i v n w o) refl;
    }

    -- a Create, Delete or Set is answered with 0, 1 or 7
    abbrev IsSettled : ℕ → Type 0
    IsSettled n = among n (create_number ∷ delete_number ∷ set_number ∷ []) ≡ true → is_0_1_or_7 (byte (answer first s n c i v).1 0) ≡ true

    settled : (n : ℕ) → Same first second (answer first s n c i v) (answer second z n c i v) → MatchedAnswer n
    settled n x = record { states = x.0; same_contents = λ y. x.1 }

    pub answer_matched : (n : ℕ) → IsSettled n → MatchedAnswer n
    unfolding among ◌or◌
    answer_matched n = cases (among n with_result)
        (each_among (λ n. IsSettled n → MatchedAnswer n) with_result (
        (λ y. settled create_number (by_create (y refl)))
        & (λ y. settled delete_number (by_delete (y refl)))
        & (λ y. settled set_number (by_set (y refl)))
        & (λ y. by_get)
        & (λ y. by_reset)
        & tt
        ) n)
        (λ w. cases (among n without_result)
        (each_among (λ n. IsSettled n → MatchedAnswer n) without_result ((λ y. by_all_alarms) & (λ y. by_alarms_next) & (λ y. by_upload) & (λ y. by_upload_next) & tt) n)
        (λ o y. if_built_by_none n w o))
