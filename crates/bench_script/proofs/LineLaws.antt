-- What a line asks for and what a buffer holds then, from the parts of the line that were read.
use Prim.Native.Nat.{ℕ}
use mathlib.Core.Path.{◌≡◌, refl, sym, ◌∙◌, ap}
use mathlib.Core.Bool.{true, false}
use mathlib.Core.List.{List, []}
use lib.ListN.{get_or}
use Rattle.std.specs.Prelude.{Option, Some, None, Result, Ok, Err, is_some}
use Rattle.rules.specs.Bytes.{laid}
use Rattle.rules.proofs.Laws.{never}
use Rattle.script_values.specs.declared.Why.TheVariants as why
use Rattle.script_values.specs.declared.Wrong.{Wrong}
use Rattle.script_values.specs.Runs.{wrong_at, and_then, digit_in}
use Rattle.script_values.specs.HexBytes.{Gives, hex_from}
use Rattle.bench_script.specs.declared.Asked.TheVariants as asked
use Rattle.bench_script.specs.Lines.{Answer, message}

-- no bytes go with it, and the buffer stays as it is
pub untouched : {A : Type 0} (a r : A) (b : List ℕ) → r ≡ a → Gives (a, []) r b b
unfolding laid
untouched a r b e = record { says = e; lays = refl }

-- what follows from what was read goes with the same bytes
pub followed : {A B : Type 0} (k : A → Result B Wrong) (d : Result A Wrong × List ℕ) (r : Result A Wrong) (q : Result B Wrong) (b after : List ℕ)
    → Gives d r b after → q ≡ and_then r k → Gives (and_then d.0 k, d.1) q b after
followed {A} k d r q b after g e = record { says = e ∙ ap (λ (x : Result A Wrong). and_then x k) g.says; lays = g.lays }

-- ---- a message

module _ (room : ℕ) (text b : List ℕ) (from : ℕ) where
  abbrev here : Option ℕ
  here = digit_in 16 (get_or text from 0)

  pub message_unknown : (o : Option ℕ) → o ≡ here → is_some o ≡ false → Gives (message room text from) (Err (wrong_at from why.UnknownWord)) b b
  unfolding message
  message_unknown None e z = rw (← e) (untouched _ _ b refl)
  message_unknown (Some d) e z = never (sym z)

  pub message_known : (o : Option ℕ) → o ≡ here → is_some o ≡ true → (h : Result ℕ Wrong) (r : Answer) (after : List ℕ)
      → Gives (hex_from room text from) h b after → r ≡ and_then h (λ n. Ok (asked.Message n)) → Gives (message room text from) r b after
  unfolding message
  message_known None e z h r after g q = never z
  message_known (Some d) e z h r after g q = rw (← e) (followed _ (hex_from room text from) h r b after g q)
