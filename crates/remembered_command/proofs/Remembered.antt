-- What the bytes say: whether a message repeats the remembered command, and the reply to it.
use Prim.Native.Nat.{ℕ}
use native.Mathlib.Omega.{arith}
use mathlib.Core.Path.{◌≡◌, refl}
use mathlib.Core.Bool.{Bool, true, false}
use mathlib.Core.Option.{Option, none, some}
use mathlib.Core.List.{List}
use lib.ListN.{length}
use lib.Seq.{take_at, take_all, drop_at}
use Rattle.rules.specs.Maps.{◌and◌, given}
use Rattle.rules.specs.State.{Memory}
use Rattle.rules.specs.Legal.{legal_memory}
use Rattle.rules.specs.Run.{is_repeat, reply_length}
use Rattle.rules.proofs.Laws.{both, eqb_eq}
use Rattle.store.specs.Layout.{command_length, memory_length, code_memory, code_optional}
use Rattle.octets.proofs.Parted.{part}
use Rattle.remembered_command.specs.Remembering.{command_at, reply_at, repeats}

-- the command and the reply of a legal memory
module _ (r : Memory) (l : legal_memory r ≡ true) where
  command_has_its_length : length r.command ≡ command_length
  unfolding legal_memory
  command_has_its_length = eqb_eq (length r.command) command_length (both l).0

  pub reply_has_its_length : length r.reply ≡ reply_length
  unfolding legal_memory
  reply_has_its_length = eqb_eq (length r.reply) reply_length (both (both (both (both l).1).1).1).0

  its_command : part command_at command_length (code_optional memory_length code_memory (some r)) ≡ r.command
  unfolding code_optional code_memory
  its_command = take_at r.command r.reply command_length command_has_its_length

  pub its_reply : part reply_at reply_length (code_optional memory_length code_memory (some r)) ≡ r.reply
  unfolding code_optional code_memory
  its_reply =
      let e = drop_at r.command r.reply command_length command_has_its_length in
      rw e (take_all reply_length r.reply (omega (arith, reply_has_its_length)))

-- does a message repeat the remembered command, if there is one?
abbrev pub repeated : List ℕ → Option Memory → Bool
repeated m none = false
repeated m (some r) = is_repeat m r

pub repeats_is : (m : List ℕ) (r : Option Memory) → given r true legal_memory ≡ true → {memory : List ℕ} → memory ≡ code_optional memory_length code_memory r
    → repeats memory m ≡ repeated m r
unfolding is_repeat code_optional ◌and◌
repeats_is m none l e = rw e refl
repeats_is m (some r) l e = rw (e, its_command r l) refl
