-- Every reply and notification is 48 bytes.
use Prim.Native.Nat.{ℕ, ◌+◌, ◌<◌}
use native.Mathlib.Omega.{arith}
use mathlib.Core.Path.{◌≡◌, refl, sym, ◌∙◌, ap}
use mathlib.Core.Bool.{true}
use mathlib.Core.Option.{none}
use mathlib.Core.List.{List, [], ◌∷◌, ◌++◌}
use lib.ListN.{length, take, drop, length-append, length-drop}
use lib.Seq.{length-take-le, get_or-take, get_or-drop}
use Rattle.rules.specs.Maps.{first_that_applies}
use Rattle.rules.specs.Bytes.{byte, bytes, fill, are_bytes}
use Rattle.rules.specs.Catalogue.{Source, stored, of_creator, count_of, Catalogue, class, attribute, leader}
use Rattle.rules.specs.State.{Table, content, contents, read_from, read}
use Rattle.rules.specs.Legal.{header_drops, legal_memory}
use Rattle.rules.specs.Messages.{message_number, trailer, checksum, framed, reply_to, notification}
use Rattle.rules.specs.Commands.{values}
use Rattle.rules.specs.WellFormed.{WellFormed}
use Rattle.rules.proofs.Laws.{and_true, eqb_true}
use Rattle.rules.proofs.ByteLaws.{bytes_append, bytes_cons, bytes_none, bytes_take, bytes_drop, bytes_zeros, bytes_fill, length_fill, bytes_of_number}
use Rattle.legality.proofs.Tables.{LegalTable}
use Rattle.legality.proofs.Counter.{stored_value}

-- ---- what is read is bytes

module _ (cat : Catalogue) (wf : WellFormed cat) (stand : List ℕ) (t : Table) (h : LegalTable cat wf stand t) where
  stored_bytes : (c i n : ℕ) → are_bytes (content n (contents cat t c i)) ≡ true
  stored_bytes c i n = stored_value cat wf stand t h (λ v. are_bytes v ≡ true) c i n bytes_none (λ r v x. x.bytes)

  read_bytes : (c i n size : ℕ) (src : Source) → are_bytes (read_from cat t c i n size src) ≡ true
  unfolding read_from
  read_bytes c i n size (stored f) = stored_bytes c i n
  read_bytes c i n size (of_creator a) = stored_bytes (leader cat c) i a
  read_bytes c i n size (count_of d a) = bytes_of_number size _

  pub values_bytes : (c i : ℕ) (l : List ℕ) → are_bytes (values cat t c i l) ≡ true
  unfolding values read
  values_bytes c i [] = bytes_none
  values_bytes c i (n ∷ l) = bytes_append (read cat t c i n) (values cat t c i l)
      (read_bytes c i n (attribute (class cat c) n).size (attribute (class cat c) n).source) (values_bytes c i l)

-- ---- frames

pub framed_bytes : (id : List ℕ) (type : ℕ) (entity c : List ℕ) → are_bytes id ≡ true → type < 256 → are_bytes entity ≡ true → are_bytes c ≡ true
    → are_bytes (framed id type entity c) ≡ true
unfolding framed
framed_bytes id type entity c h₁ h₂ h₃ h₄ =
    bytes_append id _ h₁ (bytes_cons type _ h₂ (bytes_cons 0x0A _ (omega arith)
    (bytes_append entity _ h₃ (bytes_append (fill 32 c) _ (bytes_fill 32 c h₄) (bytes_append trailer checksum
    (bytes_cons 0 _ (omega arith) (bytes_cons 0 _ (omega arith) (bytes_cons 0 _ (omega arith) (bytes_cons 0x28 [] (omega arith) bytes_none))))
    (bytes_zeros 4))))))

pub framed_length : (id : List ℕ) (type : ℕ) (entity c : List ℕ) → length id ≡ 2 → length entity ≡ 4 → length (framed id type entity c) ≡ 48
unfolding framed
framed_length id type entity c h₁ h₂ = Prim.simp (length-append, h₁, h₂, length_fill) refl

-- 48 bytes
pub record Message (m : List ℕ) : Type 0 where
  pub its_length : length m ≡ 48
  pub its_bytes : are_bytes m ≡ true

pub reply_is_a_message : (m c : List ℕ) → Message m → are_bytes c ≡ true → Message (reply_to m c)
unfolding reply_to
reply_is_a_message m c h g =
    let ids : length (take 2 m) ≡ 2 = length-take-le 2 m (omega (arith, h.its_length)) in
    let ents : length (take 4 (drop 4 m)) ≡ 4 = length-take-le 4 (drop 4 m) (Prim.simp length-drop (omega (arith, h.its_length))) in
    record {
      its_length = framed_length (take 2 m) (0x20 + message_number m) (take 4 (drop 4 m)) c ids ents;
      its_bytes = framed_bytes (take 2 m) (0x20 + message_number m) (take 4 (drop 4 m)) c (bytes_take 2 m h.its_bytes) (omega arith)
          (bytes_take 4 (drop 4 m) (bytes_drop 4 m h.its_bytes)) g;
    }

pub notification_is_a_message : (type c i : ℕ) (v : List ℕ) → type < 256 → are_bytes v ≡ true → Message (notification type c i v)
unfolding notification bytes
notification_is_a_message type c i v h g = record {
  its_length = framed_length (0 ∷ 0 ∷ []) type (bytes 2 c ++ bytes 2 i) v refl refl;
  its_bytes = framed_bytes (0 ∷ 0 ∷ []) type (bytes 2 c ++ bytes 2 i) v (bytes_cons 0 _ (omega arith) (bytes_cons 0 [] (omega arith) bytes_none)) h
      (bytes_append (bytes 2 c) (bytes 2 i) (bytes_of_number 2 c) (bytes_of_number 2 i)) g;
}

-- ---- what is remembered

pub memory_legal : (m r : List ℕ) → Message m → Message r → first_that_applies (header_drops m) ≡ none
    → legal_memory (record { command = take 40 m; reply = r }) ≡ true
unfolding legal_memory header_drops
memory_legal m r hm hr e = and_true
    (eqb_true (length (take 40 m)) 40 (length-take-le 40 m (omega (arith, hm.its_length))))
    (and_true (bytes_take 40 m hm.its_bytes)
    (and_true (rw (get_or-take 40 m 3 0 (omega arith), get_or-take 40 m 2 0 (omega arith), get_or-take 40 m 0 0 (omega arith), get_or-take 40 m 1 0 (omega arith), e) refl)
    (and_true (eqb_true (length r) 48 hr.its_length) hr.its_bytes)))

first_of_fill : (c : List ℕ) (rest : List ℕ) → byte (fill 32 c ++ rest) 0 ≡ byte c 0
first_of_fill [] rest = refl
first_of_fill (x ∷ c) rest = refl

-- behind the first eight bytes of a reply stand its contents
pub the_contents_follow_byte_7 : (m c : List ℕ) → length m ≡ 48 → drop 8 (reply_to m c) ≡ fill 32 c ++ (trailer ++ checksum)
unfolding reply_to framed
the_contents_follow_byte_7 (x₀ ∷ x₁ ∷ x₂ ∷ x₃ ∷ x₄ ∷ x₅ ∷ x₆ ∷ x₇ ∷ m) c e = refl
the_contents_follow_byte_7 [] c e = absurd (omega arith)
the_contents_follow_byte_7 (x₀ ∷ []) c e = absurd (omega arith)
the_contents_follow_byte_7 (x₀ ∷ x₁ ∷ []) c e = absurd (omega arith)
the_contents_follow_byte_7 (x₀ ∷ x₁ ∷ x₂ ∷ []) c e = absurd (omega arith)
the_contents_follow_byte_7 (x₀ ∷ x₁ ∷ x₂ ∷ x₃ ∷ []) c e = absurd (omega arith)
the_contents_follow_byte_7 (x₀ ∷ x₁ ∷ x₂ ∷ x₃ ∷ x₄ ∷ []) c e = absurd (omega arith)
the_contents_follow_byte_7 (x₀ ∷ x₁ ∷ x₂ ∷ x₃ ∷ x₄ ∷ x₅ ∷ []) c e = absurd (omega arith)
the_contents_follow_byte_7 (x₀ ∷ x₁ ∷ x₂ ∷ x₃ ∷ x₄ ∷ x₅ ∷ x₆ ∷ []) c e = absurd (omega arith)

-- byte 8 of a reply is the first of its contents
pub the_result_is_byte_8 : (m c : List ℕ) → length m ≡ 48 → byte (reply_to m c) 8 ≡ byte c 0
the_result_is_byte_8 m c e =
    sym (get_or-drop 8 (reply_to m c) 0 0) ∙ ap (λ (l : List ℕ). byte l 0) (the_contents_follow_byte_7 m c e) ∙ first_of_fill c (trailer ++ checksum)
