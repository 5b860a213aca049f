-- What a message does: a drop, the old reply to a repeat, or a new answer.
use Prim.Native.Nat.{ℕ, ◌+◌, suc}
use native.Mathlib.Omega.{arith}
use mathlib.Core.Path.{◌≡◌, refl, sym, ◌∙◌, ap}
use mathlib.Core.Bool.{Bool, true, false}
use mathlib.Core.Logic.{◌≢◌}
use mathlib.Core.Option.{Option, none, some}
use mathlib.Core.List.{List, ◌++◌}
use lib.ListN.{length, take, drop, length-drop}
use lib.Seq.{take_at, length-take-le}
use Rattle.rules.specs.Maps.{given, first_that_applies}
use Rattle.rules.specs.Bytes.{laid}
use Rattle.rules.specs.State.{Memory, State}
use Rattle.rules.specs.Legal.{header_drops, legal_memory}
use Rattle.rules.specs.Messages.{message_drops}
use Rattle.rules.specs.Reports.{answered, unless_dropped}
use Rattle.rules.specs.Run.{answer_anew, answer_again, handle, reply_length}
use Rattle.rules.proofs.Laws.{never, not-false, eqb_eq}
use Rattle.legality.proofs.Refusals.{none_applies}
use Rattle.store.specs.Layout.{memory_length, code_memory, code_optional, memory_at}
use Rattle.store.specs.Entries.{written, leave}
use Rattle.class_tables.specs.Built.{cat_of}
use Rattle.octets.proofs.Parted.{part}
use Rattle.remembered_command.specs.Remembering.{repeats, reply_at}
use Rattle.message_frame.specs.Drops.{drop_number}
use Rattle.sound_store.specs.Held.{state_in, Sound, stored}
use Rattle.sound_store.proofs.Held.{memory_is, as_stored}
use Rattle.outcome.specs.declared.Outcome.TheVariants.{Answered}
use Rattle.outcome.specs.declared.Outcome.{Outcome}
use Rattle.std.specs.Prelude.{Result, Ok, Err}
use Rattle.message_frame.specs.declared.drops.DropReason.{DropReason}
use Rattle.outcome.specs.Outcomes.{left_by, leaves}
use Rattle.class_tables.specs.declared.Product.{Product}
use Rattle.remembered_command.proofs.Remembered.{repeated, its_reply, repeats_is, reply_has_its_length}
use Rattle.legality.proofs.LegalStates.{open_state}
use Rattle.class_tables.proofs.EveryProduct.{well_formed_of}

-- ---- what a message does

-- a message that isn't dropped is 48 bytes long
pub not_dropped_long : (m : List ℕ) → none ≡ first_that_applies (message_drops m) → length m ≡ 48
unfolding message_drops header_drops
not_dropped_long m e = eqb_eq (length m) 48 (not-false (none_applies (message_drops m) (sym e)).0)

module _ (pr : Product) (b m buffer : List ℕ) (h : Sound pr b) where
  abbrev s : State
  s = state_in pr b

  -- an old reply, and the store as it was
  as_before : (v after : List ℕ) → length v ≡ 48 → after ≡ laid 0 v buffer → left_by (Ok Answered) b after ≡ leaves pr s b buffer (s, answered v)
  unfolding leave written laid stored
  as_before v after lv e =
      let z : 0 + length v ≡ reply_length = omega arith in
      let whole : after ≡ v ++ drop reply_length buffer = e ∙ ap (λ (n : ℕ). v ++ drop n buffer) z in
      let front : take reply_length after ≡ v = ap (take reply_length) whole ∙ take_at v (drop reply_length buffer) reply_length lv in
      λ d. record { outcome = answered (front d); store = as_stored pr b h d; buffer = whole d }

  pub dropped_as : {reason : DropReason} → some (drop_number reason) ≡ first_that_applies (message_drops m) → {r : Result Outcome DropReason} → r ≡ Err reason
      → left_by r b buffer ≡ leaves pr s b buffer (handle (cat_of pr) s m)
  unfolding handle unless_dropped leave
  dropped_as e is = rw (is, sym e) refl

  -- the bytes of the remembered command
  abbrev memory : List ℕ
  memory = part memory_at (1 + memory_length) b

  pub memory_whole : length memory ≡ 1 + memory_length
  memory_whole = let long = h.long in length-take-le (1 + memory_length) (drop memory_at b) (rw (length-drop memory_at b) (omega arith))

  module _ (clear : none ≡ first_that_applies (message_drops m)) where
    told : {t : Bool} → repeats memory m ≡ t → repeated m s.remembered ≡ t
    told e = sym (repeats_is m s.remembered (open_state (cat_of pr) (well_formed_of pr) s h.legal).its_memory (memory_is pr b h)) ∙ e

    pub answered_anew : repeats memory m ≡ false → leaves pr s b buffer (answer_anew (cat_of pr) s m) ≡ leaves pr s b buffer (handle (cat_of pr) s m)
    unfolding handle unless_dropped answer_again
    answered_anew f = rw (sym clear) (go s.remembered (told f))
      where
        go : (o : Option Memory) → repeated m o ≡ false
            → leaves pr s b buffer (answer_anew (cat_of pr) s m) ≡ leaves pr s b buffer (given o (answer_anew (cat_of pr) s m) (answer_again (cat_of pr) s m))
        go none x = refl
        go (some r) x = rw x refl

    pub answered_again : {after : List ℕ} → repeats memory m ≡ true → after ≡ laid 0 (part reply_at reply_length memory) buffer
        → left_by (Ok Answered) b after ≡ leaves pr s b buffer (handle (cat_of pr) s m)
    unfolding handle unless_dropped answer_again
    answered_again {after = after} t e = rw (sym clear) (go s.remembered (open_state (cat_of pr) (well_formed_of pr) s h.legal).its_memory (memory_is pr b h) (told t))
      where
        go : (o : Option Memory) → given o true legal_memory ≡ true → memory ≡ code_optional memory_length code_memory o → repeated m o ≡ true
            → left_by (Ok Answered) b after ≡ leaves pr s b buffer (given o (answer_anew (cat_of pr) s m) (answer_again (cat_of pr) s m))
        go none g is x = never x
        go (some r) g is x =
            let old : part reply_at reply_length memory ≡ r.reply = ap (part reply_at reply_length) is ∙ its_reply r g in
            rw x (as_before r.reply after (reply_has_its_length r g) (e ∙ ap (λ (v : List ℕ). laid 0 v buffer) old))
