-- Demand 2, a repeated command with local reports and dropped messages in between: it gets its old reply and does nothing.
use Prim.Native.Nat.{ℕ, ◌≤◌}
use mathlib.Core.Path.{◌≡◌, refl, sym, ◌∙◌, ap}
use mathlib.Core.Bool.{Bool, true, false, not}
use mathlib.Core.Option.{none, some}
use mathlib.Core.List.{List, ◌++◌}
use lib.ListN.{length, take, drop, get_or}
use Rattle.rules.specs.Maps.{◌and◌, ◌or◌, first_that_applies}
use Rattle.rules.specs.Bytes.{are_bytes}
use Rattle.rules.specs.Catalogue.{Catalogue, key}
use Rattle.rules.specs.State.{Memory, State, alarms_of}
use Rattle.rules.specs.Messages.{message_drops}
use Rattle.rules.specs.Reports.{Outcome, dropped, quiet, answered, unless_dropped, attribute_drops, report_attribute, alarm_drops, turned, report_alarm}
use Rattle.rules.specs.Run.{is_repeat, answer_again, handle, Call, message, attribute_report, alarm_report, Input, taken}
use Rattle.rules.specs.Run.{after}
use Rattle.rules.specs.Products.{Products}
use Rattle.rules.proofs.Laws.{cases, never, eq_same}
use Rattle.store.specs.Decode.{Held, decode}
use Rattle.store.specs.Entries.{leave, enter}
use Rattle.store.specs.Fitting.{AllFit}
use Rattle.legality.proofs.Refusals.{unless_dropped_is}
use Rattle.legality.proofs.Kept.{AllOfBytes}
use Rattle.demands.specs.Lending.{memory_after_all}
use Rattle.demands.specs.Between.{EachStep, EachLent, is_dropped, IsReportOrDropped}
use Rattle.demands.proofs.DemandOne.{a_dropped_call_keeps_the_state, the_outcome_is_the_rules}
use Rattle.demands.proofs.DemandOne.{the_store_holds_what_the_rules_leave}
use Rattle.demands.proofs.RunsOnBytes.{a_run_on_bytes_leaves_the_rules_state}
use Rattle.demands.proofs.Between.{kept_by_a_run, each_lent_call_is_a_step}
use Rattle.demands.proofs.LentMemories.{an_answered_call_has_room_and_a_state, an_answer_is_48_bytes}
use Rattle.demands.proofs.Repeats.{as_it_was, entered_is, an_answered_command_is_remembered}

-- ---- local reports and dropped messages in between

module _ (cat : Catalogue) where
  -- local reports and dropped messages keep what is remembered
  pub reports_and_drops_keep_what_is_remembered : (s : State) (l : List Input) → EachStep (λ t. IsReportOrDropped) cat s l → (after cat s l).remembered ≡ s.remembered
  unfolding taken report_attribute report_alarm turned
  reports_and_drops_keep_what_is_remembered = kept_by_a_run cat (λ t. t.remembered) (λ t. IsReportOrDropped) one
    where
      StillRemembers : State → State × Outcome → Type 0
      StillRemembers s r = r.0.remembered ≡ s.remembered

      dropped_one : (s : State) (m : List ℕ) (o : Outcome) → (handle cat s m).1 ≡ o → is_dropped o ≡ true → StillRemembers s (handle cat s m)
      dropped_one s m (dropped n) e y = ap (λ (t : State). t.remembered) (a_dropped_call_keeps_the_state cat s (message m) n e)
      dropped_one s m quiet e y = never y
      dropped_one s m (answered r) e y = never y

      one : (s : State) (c : Call) → IsReportOrDropped c (taken cat s c).1 → StillRemembers s (taken cat s c)
      one s (message m) = dropped_one s m _ refl
      one s (attribute_report c i n v) = λ y. unless_dropped_is (StillRemembers s) s (attribute_drops cat s c i n v) _ (λ n e. refl) (λ clear. refl)
      one s (alarm_report c i n on) = λ y. unless_dropped_is (StillRemembers s) s (alarm_drops cat s c i n) _ (λ n e. refl) (λ clear.
          let is_on : Bool = get_or (alarms_of (key c i) s.alarms) n false in
          cases ((is_on and on) or not (is_on or on)) (λ e. rw e refl) (λ e. rw e refl))

  -- A command is answered with r; then come local reports and dropped inputs; then comes a message with the command's first 40 bytes, that
  -- isn't dropped: it gets the same 48 bytes, and the state stays.
  pub a_repeat_after_reports_gets_its_old_reply_and_does_nothing : (s : State) (m again r : List ℕ) (l : List Input) → (handle cat s m).1 ≡ answered r
      → EachStep (λ t. IsReportOrDropped) cat (handle cat s m).0 l → take 40 again ≡ take 40 m → first_that_applies (message_drops again) ≡ none
      → handle cat (after cat (handle cat s m).0 l) again ≡ (after cat (handle cat s m).0 l, answered r)
  a_repeat_after_reports_gets_its_old_reply_and_does_nothing s m again r l e b f g =
      let t : State = after cat (handle cat s m).0 l in
      let gets_it : (k : Memory) → t.remembered ≡ some k → take 40 again ≡ k.command → handle cat t again ≡ (t, answered k.reply) =
      λ k is same. unfold handle unless_dropped answer_again is_repeat in rw (g, is, eq_same (take 40 again) k.command same) refl in
      let k = an_answered_command_is_remembered cat s m r e in
      let still : t.remembered ≡ some k.memory = reports_and_drops_keep_what_is_remembered (handle cat s m).0 l b ∙ k.remembered_one in
      gets_it k.memory still (f ∙ k.its_command)
      ∙ ap (λ (x : List ℕ). (t, answered x)) k.its_reply

-- ---- stores

-- a command that is answered, whatever the answer is; local reports and dropped messages, each in its own lent sizes; the command again
pub record RepeatAfterReports (products : Products) (store : List ℕ) : Type 0 where
  pub command : List ℕ
  pub command_buffer : List ℕ
  pub reply : List ℕ
  pub command_is_bytes : are_bytes command ≡ true
  pub command_is_answered : (enter products (message command) store command_buffer).outcome ≡ answered reply
  pub between : List Input
  pub between_is_bytes : AllOfBytes between
  pub between_are_reports_and_drops : EachLent (λ memory. IsReportOrDropped) products (enter products (message command) store command_buffer).store between
  pub again : List ℕ
  pub again_buffer : List ℕ
  pub again_has_the_same_40_bytes : take 40 again ≡ take 40 command
  pub again_passes_its_drops : first_that_applies (message_drops again) ≡ none
  pub again_has_room : 48 ≤ length again_buffer

module _ (products : Products) (fit : AllFit products) (store : List ℕ) (q : RepeatAfterReports products store) where
  -- the store that the repeat finds
  abbrev pub store_before_the_repeat : List ℕ
  store_before_the_repeat = memory_after_all products (enter products (message q.command) store q.command_buffer).store q.between

  -- On bytes: a command is answered with r, which is 48 bytes; then come local reports and dropped messages, with any lent sizes of store and buffer;
  -- then comes a message with the command's first 40 bytes, which passes its drops and has room in its buffer. It is answered with r, which fills the
  -- first 48 bytes of its buffer and no more, and not a byte of the store changes.
  pub a_repeat_after_reports_leaves_every_byte_of_the_store : (length q.reply ≡ 48)
      × (enter products (message q.again) store_before_the_repeat q.again_buffer
      ≡ record { outcome = answered q.reply; store = store_before_the_repeat; buffer = q.reply ++ drop 48 q.again_buffer })
  unfolding taken leave
  a_repeat_after_reports_leaves_every_byte_of_the_store =
      let first = an_answered_call_has_room_and_a_state products (message q.command) store q.command_buffer q.reply q.command_is_answered in
      let h : Held = first.held_one in
      let cat : Catalogue = h.catalogue in
      let s : State = (handle cat h.state q.command).0 in
      let answered_first : List ℕ = (enter products (message q.command) store q.command_buffer).store in
      let then_held : decode products answered_first ≡ some (record { product = h.product; catalogue = cat; state = s }) =
      the_store_holds_what_the_rules_leave products fit (message q.command) q.command_is_bytes store q.command_buffer h first.holds_it first.room in
      let told : (handle cat h.state q.command).1 ≡ answered q.reply =
      sym (the_outcome_is_the_rules products (message q.command) store q.command_buffer first.room h first.holds_it) ∙ q.command_is_answered in
      let quiet_between = each_lent_call_is_a_step products fit (λ memory. IsReportOrDropped) (λ t. IsReportOrDropped) (λ memory g c o e y. y) q.between q.between_is_bytes
      answered_first _ then_held q.between_are_reports_and_drops in
      let t : State = after cat s q.between in
      let later : Held = record { product = h.product; catalogue = cat; state = t } in
      let later_held : decode products store_before_the_repeat ≡ some later =
      a_run_on_bytes_leaves_the_rules_state products fit q.between q.between_is_bytes answered_first _ then_held in
      let old : handle cat t q.again ≡ (t, answered q.reply) = a_repeat_after_reports_gets_its_old_reply_and_does_nothing cat h.state q.command q.again q.reply
      q.between told quiet_between q.again_has_the_same_40_bytes q.again_passes_its_drops in (
        an_answer_is_48_bytes products fit (message q.command) q.command_is_bytes store q.command_buffer q.reply q.command_is_answered,
        entered_is products store_before_the_repeat later later_held (message q.again) q.again_buffer q.again_has_room
            ∙ ap (λ (x : State × Outcome). leave later store_before_the_repeat q.again_buffer x.0 x.1) old
            ∙ (λ i. record { outcome = answered q.reply; store = as_it_was products store_before_the_repeat later later_held i; buffer = q.reply ++ drop 48 q.again_buffer }),
      )
