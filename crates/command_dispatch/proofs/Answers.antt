-- Which function answers a command, by its message number, and what a refusal leaves.
use Prim.Native.Nat.{ℕ}
use mathlib.Core.Path.{◌≡◌, refl, sym, ◌∙◌, ap, subst}
use mathlib.Core.Logic.{◌≢◌}
use mathlib.Core.Bool.{Bool, true, false}
use mathlib.Core.List.{List, [], ◌∷◌, ◌++◌}
use lib.ListN.{replicate}
use Rattle.std.specs.Prelude.{Result}
use lib.Dec.{eqb}
use Rattle.rules.specs.Maps.{◌and◌, ◌or◌, among, first_that_applies}
use Rattle.rules.specs.Bytes.{two, fill}
use Rattle.rules.specs.Catalogue.{Catalogue, class, known, is_created, ont_data}
use Rattle.rules.specs.State.{State, holds}
use Rattle.rules.specs.Messages.{create_number, delete_number, with_result, without_result, not_supported, unknown_class, Answer, unless_refused}
use Rattle.rules.specs.Commands as commands
use Rattle.rules.specs.Walks as walks
use Rattle.rules.specs.WellFormed.{WellFormed, created_by_Create}
use Rattle.rules.specs.Run.{perform, first_results, answer}
use Rattle.rules.proofs.Laws.{cases, never, true_false, or_left, or_right}
use Rattle.rules.proofs.MapLaws.{among_front, among_back}
use Rattle.rules.proofs.Lookups.{implied, class_says}
use Rattle.legality.proofs.Refusals.{unless_refused_is}
use Rattle.message_frame.specs.Commands.{command_number}
use Rattle.message_frame.specs.declared.commands.Command.{Command}
use Rattle.message_frame.specs.declared.commands.Command.TheVariants as command
use Rattle.class_tables.specs.Built.{cat_of}
use Rattle.sound_store.specs.Held.{state_in, Sound, Leaves}
use Rattle.class_tables.proofs.EveryProduct.{well_formed_of}
use Rattle.outcome.specs.Refusals.{contents_of}
use Rattle.outcome.specs.declared.refusals.Refusal.{Refusal}
use Rattle.sound_store.proofs.Held.{told, only_says}
use Rattle.class_tables.specs.declared.Product.{Product}

-- ---- which function answers

module _ (cat : Catalogue) (s : State) (c i : ℕ) (v : List ℕ) where
  abbrev answered_by : ℕ → Answer → Type 0
  answered_by n a = answer cat s n c i v ≡ a

  pub by_all_alarms : answered_by 11 (walks.all_alarms s c i)
  unfolding answer first_results perform unless_refused first_that_applies among ◌or◌ ◌and◌
  by_all_alarms = refl

  pub by_alarms_next : answered_by 12 (walks.alarms_next s c i v)
  unfolding answer first_results perform unless_refused first_that_applies among ◌or◌ ◌and◌
  by_alarms_next = refl

  pub by_upload : answered_by 13 (walks.upload cat s c i)
  unfolding answer first_results perform unless_refused first_that_applies among ◌or◌ ◌and◌
  by_upload = refl

  pub by_upload_next : answered_by 14 (walks.upload_next cat s c i v)
  unfolding answer first_results perform unless_refused first_that_applies among ◌or◌ ◌and◌
  by_upload_next = refl

  -- a number that no command has
  by_none : (n : ℕ) → among n with_result ≡ false → among n without_result ≡ false → answered_by n (s, not_supported ∷ [])
  unfolding answer first_results unless_refused first_that_applies ◌or◌ ◌and◌
  by_none n e f = rw (e, f) refl

  pub by_no_command : (n : ℕ) → among n (with_result ++ without_result) ≡ false → answered_by n (s, not_supported ∷ [])
  by_no_command n e = by_none n
      (cases (among n with_result) (λ t. true_false (among_front n with_result without_result t) e) (λ f. f))
      (cases (among n without_result) (λ t. true_false (among_back n with_result without_result t) e) (λ f. f))

  module _ (n : ℕ) (has_result : among n with_result ≡ true) where
    pub by_no_class : known cat c ≡ false → answered_by n (s, unknown_class ∷ [])
    unfolding answer first_results unless_refused first_that_applies ◌or◌ ◌and◌
    by_no_class e = rw (has_result, e) refl

    pub not_for_class : known cat c ≡ true → among n (class cat c).commands ≡ false → answered_by n (s, not_supported ∷ [])
    unfolding answer first_results unless_refused first_that_applies ◌or◌ ◌and◌
    not_for_class e f = rw (has_result, e, f) refl

  module _ (kn : known cat c ≡ true) where
    abbrev allowed : ℕ → Type 0
    allowed n = among n (class cat c).commands ≡ true

    pub by_create : allowed 4 → answered_by 4 (commands.create cat s c i v)
    unfolding answer first_results perform unless_refused first_that_applies among ◌or◌ ◌and◌
    by_create e = rw (kn, e) refl

    pub by_delete : allowed 6 → answered_by 6 (commands.delete cat s c i)
    unfolding answer first_results perform unless_refused first_that_applies among ◌or◌ ◌and◌
    by_delete e = rw (kn, e) refl

    pub by_set : allowed 8 → answered_by 8 (commands.set cat s c i v)
    unfolding answer first_results perform unless_refused first_that_applies among ◌or◌ ◌and◌
    by_set e = rw (kn, e) refl

    pub by_get : allowed 9 → answered_by 9 (commands.get cat s c i v)
    unfolding answer first_results perform unless_refused first_that_applies among ◌or◌ ◌and◌
    by_get e = rw (kn, e) refl

    pub by_reset : allowed 15 → answered_by 15 (commands.reset cat s c i)
    unfolding answer first_results perform unless_refused first_that_applies among ◌or◌ ◌and◌
    by_reset e = rw (kn, e) refl

    -- what Create and Delete are for
    pub made_by_create : WellFormed cat → allowed create_number → is_created (class cat c).creation ≡ true
    unfolding created_by_Create
    made_by_create wf e = implied (class_says created_by_Create cat wf.create_if_created c kn) (or_left (among delete_number (class cat c).commands) e)

    pub made_by_delete : WellFormed cat → allowed delete_number → is_created (class cat c).creation ≡ true
    unfolding created_by_Create
    made_by_delete wf e = implied (class_says created_by_Create cat wf.create_if_created c kn) (or_right (among create_number (class cat c).commands) e)

-- ---- walks, and commands with a result

pub has_result : (k : Command) → among (command_number k) without_result ≡ false → among (command_number k) with_result ≡ true
unfolding among ◌or◌
has_result command.Create e = refl
has_result command.Delete e = refl
has_result command.Set e = refl
has_result command.Get e = refl
has_result command.AllAlarms e = never (sym e)
has_result command.AlarmsNext e = never (sym e)
has_result command.Upload e = never (sym e)
has_result command.UploadNext e = never (sym e)
has_result command.Reset e = refl

pub not_a_walk : (k : Command) → k ≢ command.AllAlarms → k ≢ command.AlarmsNext → k ≢ command.Upload → k ≢ command.UploadNext
    → among (command_number k) without_result ≡ false
unfolding among ◌or◌
not_a_walk command.Create a b c d = refl
not_a_walk command.Delete a b c d = refl
not_a_walk command.Set a b c d = refl
not_a_walk command.Get a b c d = refl
not_a_walk command.AllAlarms a b c d = absurd (a refl)
not_a_walk command.AlarmsNext a b c d = absurd (b refl)
not_a_walk command.Upload a b c d = absurd (c refl)
not_a_walk command.UploadNext a b c d = absurd (d refl)
not_a_walk command.Reset a b c d = refl

pub no_other : (k : Command) → among (command_number k) without_result ≡ false
    → k ≢ command.Create → k ≢ command.Delete → k ≢ command.Set → k ≢ command.Get → k ≢ command.Reset → ⊥
unfolding among ◌or◌
no_other command.Create e a b c d f = a refl
no_other command.Delete e a b c d f = b refl
no_other command.Set e a b c d f = c refl
no_other command.Get e a b c d f = d refl
no_other command.AllAlarms e a b c d f = never (sym e)
no_other command.AlarmsNext e a b c d f = never (sym e)
no_other command.Upload e a b c d f = never (sym e)
no_other command.UploadNext e a b c d f = never (sym e)
no_other command.Reset e a b c d f = f refl

-- a class has a command, or hasn't, by its number
pub numbered : (pr : Product) (c : ℕ) (k : Command) {n : ℕ} {b : Bool} → n ≡ command_number k
    → among n (class (cat_of pr) c).commands ≡ b → among (command_number k) (class (cat_of pr) c).commands ≡ b
numbered pr c k e h = sym (ap (λ (m : ℕ). among m (class (cat_of pr) c).commands) e) ∙ h

-- ---- what is left

-- the same answer by another name
pub named_so : (pr : Product) {a a' : Answer} {b b' out : List ℕ} → a' ≡ a → Leaves pr a b b' out → Leaves pr a' b b' out
named_so pr {b = b} {b' = b'} {out = out} e q = subst (λ x. Leaves pr x b b' out) (sym e) q

-- Get and the two Nexts change nothing
module _ (cat : Catalogue) (s : State) (c i : ℕ) (v : List ℕ) where
  pub get_keeps : (commands.get cat s c i v).0 ≡ s
  unfolding commands.get
  get_keeps = unless_refused_is (λ a. a.0 ≡ s) s (commands.get_results (holds cat s.table c i) (class cat c) (two v 0)) _ (λ r e. refl) (λ e. refl)

  pub upload_next_keeps : (walks.upload_next cat s c i v).0 ≡ s
  unfolding walks.upload_next walks.if_ont_data
  upload_next_keeps = cases (eqb c ont_data and eqb i 0) (λ e. rw e refl) (λ e. rw e refl)

  pub alarms_next_keeps : (walks.alarms_next s c i v).0 ≡ s
  unfolding walks.alarms_next walks.if_ont_data
  alarms_next_keeps = cases (eqb c ont_data and eqb i 0) (λ e. rw e refl) (λ e. rw e refl)

-- ---- what each command leaves

module _ (pr : Product) (b : List ℕ) (c i : ℕ) (v : List ℕ) where
  abbrev cat : Catalogue
  cat = cat_of pr

  abbrev s : State
  s = state_in pr b

  abbrev answered : ℕ → Answer
  answered n = answer cat s n c i v

  -- by a number, known by another name
  pub done_by : {n m : ℕ} {a : Answer} {b' out : List ℕ} → n ≡ m → answered m ≡ a → Leaves pr a b b' out → Leaves pr (answered n) b b' out
  done_by z e q = named_so pr (ap answered z ∙ e) q

  module _ (h : Sound pr b) where
    -- the refusals
    pub no_command : (n : ℕ) → among n (with_result ++ without_result) ≡ false → Leaves pr (answered n) b b (fill 32 (not_supported ∷ []))
    no_command n e = named_so pr (by_no_command cat s c i v n e) (told pr b h (not_supported ∷ []))

    pub no_class : (k : Command) → among (command_number k) without_result ≡ false → known cat c ≡ false
        → Leaves pr (answered (command_number k)) b b (fill 32 (unknown_class ∷ []))
    no_class k w e = named_so pr (by_no_class cat s c i v (command_number k) (has_result k w) e) (told pr b h (unknown_class ∷ []))

    pub not_allowed : (k : Command) → among (command_number k) without_result ≡ false → known cat c ≡ true
        → among (command_number k) (class cat c).commands ≡ false → Leaves pr (answered (command_number k)) b b (fill 32 (not_supported ∷ []))
    not_allowed k w e f = named_so pr (not_for_class cat s c i v (command_number k) (has_result k w) e f) (told pr b h (not_supported ∷ []))

    -- a walk's next
    pub alarms_shown : {n : ℕ} {out : List ℕ} → n ≡ 12 → out ≡ fill 32 (walks.alarms_next s c i v).1 → Leaves pr (answered n) b b out
    alarms_shown z e = done_by z (by_alarms_next cat s c i v) (only_says pr b h _ _ (alarms_next_keeps cat s c i v) e)

    pub section_shown : {n : ℕ} {out : List ℕ} → n ≡ 14 → out ≡ fill 32 (walks.upload_next cat s c i v).1 → Leaves pr (answered n) b b out
    section_shown z e = done_by z (by_upload_next cat s c i v) (only_says pr b h _ _ (upload_next_keeps cat s c i v) e)

  -- ---- the class is known, and has the command
  module _ (k : Command) (kn : known cat c ≡ true) (has : among (command_number k) (class cat c).commands ≡ true) where
    may : (k' : Command) → k ≡ k' → among (command_number k') (class cat c).commands ≡ true
    may k' q = ap (λ (x : Command). among (command_number x) (class cat c).commands) (sym q) ∙ has

    pub can_be_created : k ≡ command.Create → is_created (class cat c).creation ≡ true
    can_be_created q = made_by_create cat s c i v kn (well_formed_of pr) (may command.Create q)

    pub can_be_deleted : k ≡ command.Delete → is_created (class cat c).creation ≡ true
    can_be_deleted q = made_by_delete cat s c i v kn (well_formed_of pr) (may command.Delete q)

    -- what one leaves that leaves the contents zero, but for a refusal
    module _ (b' out : List ℕ) (r : Result (Unit {0}) Refusal) (z : out ≡ replicate 32 0) where
      abbrev LeavesSo : Answer → Type 0
      LeavesSo a = Leaves pr a b b' (contents_of r (replicate 32 0))

      answered_as : {a : Answer} (k' : Command) → k ≡ k' → answered (command_number k') ≡ a → LeavesSo a → Leaves pr (answered (command_number k)) b b' (contents_of r out)
      answered_as {a} k' q e l = done_by (ap command_number q) e (subst (λ (o : List ℕ). Leaves pr a b b' (contents_of r o)) (sym z) l)

      pub created : k ≡ command.Create → LeavesSo (commands.create cat s c i v) → Leaves pr (answered (command_number k)) b b' (contents_of r out)
      created q l = answered_as command.Create q (by_create cat s c i v kn (may command.Create q)) l

      pub deleted : k ≡ command.Delete → LeavesSo (commands.delete cat s c i) → Leaves pr (answered (command_number k)) b b' (contents_of r out)
      deleted q l = answered_as command.Delete q (by_delete cat s c i v kn (may command.Delete q)) l

      pub set_so : k ≡ command.Set → LeavesSo (commands.set cat s c i v) → Leaves pr (answered (command_number k)) b b' (contents_of r out)
      set_so q l = answered_as command.Set q (by_set cat s c i v kn (may command.Set q)) l

      pub was_reset : k ≡ command.Reset → LeavesSo (commands.reset cat s c i) → Leaves pr (answered (command_number k)) b b' (contents_of r out)
      was_reset q l = answered_as command.Reset q (by_reset cat s c i v kn (may command.Reset q)) l

    pub got : Sound pr b → {out : List ℕ} → k ≡ command.Get → out ≡ fill 32 (commands.get cat s c i v).1 → Leaves pr (answered (command_number k)) b b out
    got h q e = done_by (ap command_number q) (by_get cat s c i v kn (may command.Get q)) (only_says pr b h _ _ (get_keeps cat s c i v) e)
