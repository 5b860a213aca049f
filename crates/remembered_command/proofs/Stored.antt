-- A mark and two copies, one behind the other, are all the bytes of the remembered command.
use Prim.Native.Nat.{ℕ, ◌+◌, ◌≤◌}
use native.Mathlib.Omega.{arith}
use mathlib.Core.Path.{◌≡◌, sym, ◌∙◌, ap}
use mathlib.Core.List.{List, [], ◌∷◌, ◌++◌}
use lib.ListN.{length, take, set, length-append}
use lib.Seq.{length-take-le}
use Rattle.rules.specs.Bytes.{laid}
use Rattle.rules.specs.Run.{reply_length}
use Rattle.store.specs.Layout.{command_length, memory_length}
use Rattle.octets.proofs.Laid.{laid_next, laid_all, one_laid}
use Rattle.remembered_command.specs.Remembering.{command_at, reply_at}

module _ (s m b : List ℕ) (ls : length s ≡ 1 + memory_length) (lm : command_length ≤ length m) (lb : reply_length ≤ length b) where
  abbrev command : List ℕ
  command = take command_length m

  abbrev reply : List ℕ
  reply = take reply_length b

  length_command : length command ≡ command_length
  length_command = length-take-le command_length m lm

  length_reply : length reply ≡ reply_length
  length_reply = length-take-le reply_length b lb

  whole : length (1 ∷ command ++ reply) ≡ 1 + memory_length
  whole = let l = length_command in let n = length_reply in simp length-append (omega arith)

  pub both_gathered : {t u : List ℕ} → t ≡ laid command_at command (set s 0 1) → u ≡ laid reply_at reply t → u ≡ 1 ∷ command ++ reply
  both_gathered {t} e f =
      let l = length_command in
      let marked : set s 0 1 ≡ laid 0 (1 ∷ []) s = one_laid 0 1 s (omega arith) in
      let first : t ≡ laid 0 (1 ∷ command) s = e ∙ ap (laid command_at command) marked ∙ laid_next 0 (1 ∷ []) s (omega arith) command in
      let z : 0 + length (1 ∷ command) ≡ reply_at = omega arith in
      f ∙ ap (laid reply_at reply) first ∙ ap (λ (k : ℕ). laid k reply (laid 0 (1 ∷ command) s)) (sym z)
      ∙ laid_next 0 (1 ∷ command) s (omega arith) reply ∙ laid_all (1 ∷ command ++ reply) s (whole ∙ sym ls)
