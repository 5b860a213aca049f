-- A command that is answered: its reply, and what is remembered of it.
use Prim.Native.Nat.{ℕ, suc, ◌+◌, ◌*◌, ◌%◌, ◌≤◌, ◌<◌}
use native.Mathlib.Omega.{arith}
use mathlib.Core.Path.{◌≡◌, refl, sym, ◌∙◌, ap, subst}
use mathlib.Core.Bool.{true}
use mathlib.Core.List.{List, [], ◌∷◌, ◌++◌}
use lib.ListN.{length, take, drop, replicate, length-append, length-drop}
use lib.Seq.{take_at, take-add, drop-drop, drop-cons, length-take-le}
use borrow.Rule.Slice.PartMut.{mid_of, put_mid}
use Rattle.rules.specs.Bytes.{byte, two, bytes, fill, are_bytes, laid}
use Rattle.rules.specs.State.{State}
use Rattle.rules.specs.Messages.{message_number, class_in, instance_in, contents_in, framed, reply_to, Answer}
use Rattle.rules.specs.Reports.{answered}
use Rattle.rules.specs.Run.{answer, remember, answer_anew, store_length, reply_length}
use Rattle.rules.proofs.ByteLaws.{length_fill, bytes_take, bytes_drop, two_small, byte_small}
use Rattle.store.specs.Layout.{memory_length, code_memory, command_length, memory_at}
use Rattle.store.specs.Entries.{written, leave}
use Rattle.store.proofs.Parts.{Remembers, legal_remembers}
use Rattle.legality.proofs.LegalStates.{open_state, close_state}
use Rattle.legality.proofs.Kept.{answer_good}
use Rattle.octets.proofs.Laid.{laid_part}
use Rattle.message_frame.proofs.Frames.{two_bytes}
use Rattle.message_frame.proofs.Filled.{contents_blank, contents_filled}
use Rattle.store.proofs.StateLaid.{memory_laid}
use Rattle.class_tables.specs.Built.{cat_of, product_of}
use Rattle.class_tables.proofs.EveryProduct.{well_formed_of}
use Rattle.sound_store.specs.Held.{state_in, Sound, stored, Leaves}
use Rattle.std.specs.Prelude.{Ok}
use Rattle.outcome.specs.declared.Outcome.TheVariants.{Answered}
use Rattle.outcome.specs.Outcomes.{left_by, leaves}
use Rattle.class_tables.specs.declared.Product.{Product}
use Rattle.legality.proofs.ReplyBytes.{framed_length}

-- what a reply echoes
module _ (m : List ℕ) (bs : are_bytes m ≡ true) (lm : length m ≡ 48) where
  two_at : (i : ℕ) → i + 2 ≤ 48 → bytes 2 (two m i) ≡ take 2 (drop i m)
  two_at i h =
      let a = byte_small m i bs in
      let b = byte_small m (i + 1) bs in
      let z : byte m i * 256 + byte m (i + 1) < 65536 = omega arith in
      let one_on : suc i ≡ i + 1 = omega arith in
      let shown : take 2 (drop i m) ≡ byte m i ∷ byte m (i + 1) ∷ [] =
      rw (drop-cons m i 0 (omega arith), drop-cons m (suc i) 0 (omega arith)) (ap (λ (j : ℕ). byte m i ∷ byte m j ∷ []) one_on) in
      sym (two_bytes (two m i) (byte m i) (byte m (i + 1)) z (omega arith) (omega arith)) ∙ sym shown

  pub echoed : (c : List ℕ) → framed (bytes 2 (two m 0)) (0x20 + byte m 2 % 32) (bytes 2 (two m 4) ++ bytes 2 (two m 6)) c ≡ reply_to m c
  unfolding reply_to
  echoed c =
      let entity : bytes 2 (two m 4) ++ bytes 2 (two m 6) ≡ take 4 (drop 4 m) =
      rw (two_at 4 (omega arith), two_at 6 (omega arith)) (ap (λ (x : List ℕ). take 2 (drop 4 m) ++ take 2 x) (sym (drop-drop 2 4 m)) ∙ sym (take-add 2 2 (drop 4 m))) in
      ap (λ (x : List ℕ). framed x (0x20 + byte m 2 % 32) (bytes 2 (two m 4) ++ bytes 2 (two m 6)) c) (two_at 0 (omega arith))
      ∙ ap (λ (x : List ℕ). framed (take 2 m) (0x20 + byte m 2 % 32) x c) entity

-- ---- what answering leaves

-- a message remembered over a state: the part that was lent, given back
pub remembered_over : (pr : Product) (b : List ℕ) (s : State) → Remembers s → (m r : List ℕ) → length m ≡ 48 → length r ≡ reply_length
    → put_mid memory_at (1 + memory_length) (stored pr s b) (1 ∷ take command_length m ++ r) ≡ stored pr (remember m r s) b
unfolding stored remember code_memory
remembered_over pr b s known m r lm lr =
    let lc : length (take command_length m) ≡ command_length = length-take-le command_length m (omega arith) in
    let l : length (take command_length m ++ r) ≡ memory_length = length-append (take command_length m) r ∙ omega arith in
    laid_part memory_at (1 + memory_length) (1 ∷ take command_length m ++ r) (stored pr s b) (ap suc l)
    ∙ sym (memory_laid (product_of pr) (cat_of pr) s known (drop store_length b) (record { command = take command_length m; reply = r }) l)

module _ (pr : Product) (b m reply : List ℕ) (h : Sound pr b) (bs : are_bytes m ≡ true) (lm : length m ≡ 48) where
  abbrev answering : Answer
  answering = answer (cat_of pr) (state_in pr b) (message_number m) (class_in m) (instance_in m) (contents_in m)

  abbrev sent : List ℕ
  sent = reply_to m answering.1

  abbrev begun : List ℕ
  begun = framed (bytes 2 (two m 0)) (0x20 + byte m 2 % 32) (bytes 2 (two m 4) ++ bytes 2 (two m 6)) [] ++ drop 48 reply

  -- begun with the numbers that were read from the message
  pub begun_as : (x : List ℕ) (id class number : ℕ) → id ≡ two m 0 → class ≡ two m 4 → number ≡ two m 6
      → x ≡ framed (bytes 2 id) (0x20 + byte m 2 % 32) (bytes 2 class ++ bytes 2 number) [] ++ drop 48 reply → x ≡ begun
  begun_as x id class number a b c e = e ∙ λ d. framed (bytes 2 (a d)) (0x20 + byte m 2 % 32) (bytes 2 (b d) ++ bytes 2 (c d)) [] ++ drop 48 reply

  pub answering_as : (class number : ℕ) (b1 out : List ℕ) → class ≡ two m 4 → number ≡ two m 6
      → Leaves pr (answer (cat_of pr) (state_in pr b) (byte m 2 % 32) class number (contents_in m)) b b1 out → Leaves pr answering b b1 out
  answering_as class number b1 out e f q = subst (λ (a : Answer). Leaves pr a b b1 out) (λ d. answer (cat_of pr) (state_in pr b) (byte m 2 % 32) (e d) (f d) (contents_in m)) q

  pub contents_long : length (contents_in m) ≡ 32
  contents_long = length-take-le 32 (drop 8 m) (rw (length-drop 8 m) (omega arith))

  pub begun_blank : (x : List ℕ) → x ≡ begun → mid_of 8 32 x ≡ replicate 32 0
  unfolding bytes
  begun_blank x e = ap (mid_of 8 32) e ∙ contents_blank (bytes 2 (two m 0)) (0x20 + byte m 2 % 32) (bytes 2 (two m 4) ++ bytes 2 (two m 6)) refl refl (drop 48 reply)

  sent_length : length sent ≡ 48
  unfolding reply_to
  sent_length = framed_length (take 2 m) (0x20 + message_number m) (take 4 (drop 4 m)) answering.1 (length-take-le 2 m (omega arith))
      (length-take-le 4 (drop 4 m) (rw (length-drop 4 m) (omega arith)))

  filled : (x out : List ℕ) → x ≡ begun → out ≡ fill 32 answering.1 → put_mid 8 32 x out ≡ sent ++ drop 48 reply
  unfolding bytes
  filled x out e f =
      laid_part 8 32 out x (ap length f ∙ length_fill 32 answering.1)
      ∙ ap (λ (y : List ℕ). laid 8 out y) e ∙ ap (λ (y : List ℕ). laid 8 y begun) f
      ∙ contents_filled (bytes 2 (two m 0)) (0x20 + byte m 2 % 32) (bytes 2 (two m 4) ++ bytes 2 (two m 6)) refl refl answering.1 (drop 48 reply)
      ∙ ap (λ (y : List ℕ). y ++ drop 48 reply) (echoed m bs lm answering.1)

  its_memory : Remembers answering.0
  its_memory =
      let l = (answer_good (cat_of pr) (well_formed_of pr) (state_in pr b) (open_state (cat_of pr) (well_formed_of pr) (state_in pr b) h.legal) (class_in m) (instance_in m) (contents_in m)
      (two_small m 6 bs) contents_long
      (bytes_take 32 (drop 8 m) (bytes_drop 8 m bs)) (message_number m)).its_state in
      legal_remembers (cat_of pr) answering.0 (close_state (cat_of pr) (well_formed_of pr) answering.0 l)

  pub answered_and_remembered : {x out b1 memory : List ℕ} → x ≡ begun → Leaves pr answering b b1 out
      → memory ≡ 1 ∷ take command_length m ++ take reply_length (put_mid 8 32 x out)
      → left_by (Ok Answered) (put_mid memory_at (1 + memory_length) b1 memory) (put_mid 8 32 x out) ≡ leaves pr (state_in pr b) b reply (answer_anew (cat_of pr) (state_in pr b) m)
  unfolding leave written answer_anew stored
  answered_and_remembered {x = x} {out = out} {b1 = b1} {memory = memory} e q f =
      let whole : put_mid 8 32 x out ≡ sent ++ drop 48 reply = filled x out e q.reply in
      let front : take reply_length (put_mid 8 32 x out) ≡ sent = ap (take reply_length) whole ∙ take_at sent (drop 48 reply) 48 sent_length in
      let new : memory ≡ 1 ∷ take command_length m ++ sent = f ∙ ap (λ (y : List ℕ). 1 ∷ take command_length m ++ y) front in
      let store : put_mid memory_at (1 + memory_length) b1 memory ≡ stored pr (remember m sent answering.0) b =
      ap (put_mid memory_at (1 + memory_length) b1) new ∙ ap (λ (y : List ℕ). put_mid memory_at (1 + memory_length) y (1 ∷ take command_length m ++ sent)) q.store
      ∙ remembered_over pr b answering.0 its_memory m sent lm sent_length in
      λ d. record { outcome = answered (front d); store = store d; buffer = whole d }
