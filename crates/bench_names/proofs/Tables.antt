-- Numbers that a table of names passes over, of those that a byte holds: each was looked up.
use Prim.Native.Nat.{ℕ, zero, suc, ◌<◌}
use mathlib.Core.Path.{◌≡◌, refl, ◌∙◌}
use mathlib.Core.Bool.{Bool, true, false, ◌||◌}
use mathlib.Core.Logic.{◌≢◌}
use mathlib.Core.List.{List, [], ◌∷◌, ◌++◌}
use native.Mathlib.Omega.{arith}
use lib.Dec.{eqb}
use borrow.Author.Tests.{ne_eqb}
use Rattle.std.proofs.lemmas.Bool.{agree_below, agree_below_at}
use Rattle.std.specs.Prelude.{codes}
use Rattle.text_buffer.specs.Digits.{hex_number}
use Rattle.text_buffer.specs.Tables.{behind, first_name, nth_name}
use Rattle.bench_names.specs.Naming.{message_names, result_names, drop_reasons, class_name, attribute_names}

abbrev is_filled : List ℕ → Bool
is_filled [] = false
is_filled (x ∷ l) = true

empty : (l : List ℕ) → is_filled l ≡ false → [] ≡ l
empty [] h = refl
empty (x ∷ l) h = absurd (grind arith)

abbrev one_of : List ℕ → ℕ → Bool
one_of [] n = false
one_of (x ∷ l) n = eqb n x || one_of l n

passed_over : (table numbers : List ℕ) → agree_below (λ m. is_filled (nth_name m table)) (one_of numbers) 256 ≡ true
    → (n : ℕ) → n < 256 → one_of numbers n ≡ false → [] ≡ nth_name n table
passed_over table numbers a n h e = empty (nth_name n table) (agree_below_at (λ m. is_filled (nth_name m table)) (one_of numbers) 256 n a h ∙ e)

pub no_message : (n : ℕ) → n < 256 → n ≢ 4 → n ≢ 6 → n ≢ 8 → n ≢ 9 → n ≢ 11 → n ≢ 12 → n ≢ 13 → n ≢ 14 → n ≢ 15 → [] ≡ nth_name n message_names
unfolding message_names behind first_name
no_message n h a b c d e f g i j =
    passed_over message_names (4 ∷ 6 ∷ 8 ∷ 9 ∷ 11 ∷ 12 ∷ 13 ∷ 14 ∷ 15 ∷ []) refl n h
    (rw (ne_eqb n 4 a, ne_eqb n 6 b, ne_eqb n 8 c, ne_eqb n 9 d, ne_eqb n 11 e, ne_eqb n 12 f, ne_eqb n 13 g, ne_eqb n 14 i, ne_eqb n 15 j))

pub no_result : (n : ℕ) → n < 256 → n ≢ 0 → n ≢ 1 → n ≢ 2 → n ≢ 3 → n ≢ 4 → n ≢ 5 → n ≢ 7 → n ≢ 9 → [] ≡ nth_name n result_names
unfolding result_names behind first_name
no_result n h a b c d e f g i =
    passed_over result_names (0 ∷ 1 ∷ 2 ∷ 3 ∷ 4 ∷ 5 ∷ 7 ∷ 9 ∷ []) refl n h
    (rw (ne_eqb n 0 a, ne_eqb n 1 b, ne_eqb n 2 c, ne_eqb n 3 d, ne_eqb n 4 e, ne_eqb n 5 f, ne_eqb n 7 g, ne_eqb n 9 i))

pub no_reason : (n : ℕ) → n < 256 → n ≢ 1 → n ≢ 2 → n ≢ 3 → n ≢ 4 → n ≢ 5 → n ≢ 6 → n ≢ 7 → n ≢ 11 → n ≢ 12 → n ≢ 13 → [] ≡ nth_name n drop_reasons
unfolding drop_reasons behind first_name
no_reason n h a b c d e f g i j k =
    passed_over drop_reasons (1 ∷ 2 ∷ 3 ∷ 4 ∷ 5 ∷ 6 ∷ 7 ∷ 11 ∷ 12 ∷ 13 ∷ []) refl n h
    (rw (ne_eqb n 1 a, ne_eqb n 2 b, ne_eqb n 3 c, ne_eqb n 4 d, ne_eqb n 5 e, ne_eqb n 6 f, ne_eqb n 7 g, ne_eqb n 11 i, ne_eqb n 12 j, ne_eqb n 13 k))

pub no_uni_attribute : (n : ℕ) → n < 256 → n ≢ 1 → n ≢ 2 → n ≢ 3 → n ≢ 4 → n ≢ 5 → n ≢ 6 → n ≢ 7 → n ≢ 8 → n ≢ 9 → n ≢ 10 → n ≢ 11 → n ≢ 12 → n ≢ 13 → [] ≡ nth_name n (attribute_names 11)
unfolding attribute_names behind first_name
no_uni_attribute n h a b c d e f g i j k l m o =
    passed_over (attribute_names 11) (1 ∷ 2 ∷ 3 ∷ 4 ∷ 5 ∷ 6 ∷ 7 ∷ 8 ∷ 9 ∷ 10 ∷ 11 ∷ 12 ∷ 13 ∷ []) refl n h
    (rw (ne_eqb n 1 a, ne_eqb n 2 b, ne_eqb n 3 c, ne_eqb n 4 d, ne_eqb n 5 e, ne_eqb n 6 f, ne_eqb n 7 g, ne_eqb n 8 i, ne_eqb n 9 j, ne_eqb n 10 k, ne_eqb n 11 l, ne_eqb n 12 m, ne_eqb n 13 o))

pub no_profile_attribute : (n : ℕ) → n < 256 → n ≢ 1 → n ≢ 2 → n ≢ 3 → n ≢ 4 → n ≢ 5 → n ≢ 6 → n ≢ 7 → [] ≡ nth_name n (attribute_names 45)
unfolding attribute_names behind first_name
no_profile_attribute n h a b c d e f g =
    passed_over (attribute_names 45) (1 ∷ 2 ∷ 3 ∷ 4 ∷ 5 ∷ 6 ∷ 7 ∷ []) refl n h
    (rw (ne_eqb n 1 a, ne_eqb n 2 b, ne_eqb n 3 c, ne_eqb n 4 d, ne_eqb n 5 e, ne_eqb n 6 f, ne_eqb n 7 g))

pub no_bridge_attribute : (n : ℕ) → n < 256 → n ≢ 1 → n ≢ 2 → n ≢ 3 → n ≢ 4 → n ≢ 5 → n ≢ 6 → n ≢ 7 → n ≢ 8 → [] ≡ nth_name n (attribute_names 46)
unfolding attribute_names behind first_name
no_bridge_attribute n h a b c d e f g i =
    passed_over (attribute_names 46) (1 ∷ 2 ∷ 3 ∷ 4 ∷ 5 ∷ 6 ∷ 7 ∷ 8 ∷ []) refl n h
    (rw (ne_eqb n 1 a, ne_eqb n 2 b, ne_eqb n 3 c, ne_eqb n 4 d, ne_eqb n 5 e, ne_eqb n 6 f, ne_eqb n 7 g, ne_eqb n 8 i))

pub no_port_attribute : (n : ℕ) → n < 256 → n ≢ 1 → n ≢ 2 → n ≢ 3 → n ≢ 4 → n ≢ 5 → n ≢ 6 → n ≢ 7 → n ≢ 8 → n ≢ 9 → [] ≡ nth_name n (attribute_names 47)
unfolding attribute_names behind first_name
no_port_attribute n h a b c d e f g i j =
    passed_over (attribute_names 47) (1 ∷ 2 ∷ 3 ∷ 4 ∷ 5 ∷ 6 ∷ 7 ∷ 8 ∷ 9 ∷ []) refl n h
    (rw (ne_eqb n 1 a, ne_eqb n 2 b, ne_eqb n 3 c, ne_eqb n 4 d, ne_eqb n 5 e, ne_eqb n 6 f, ne_eqb n 7 g, ne_eqb n 8 i, ne_eqb n 9 j))

pub no_data_attribute : (n : ℕ) → n < 256 → n ≢ 1 → [] ≡ nth_name n (attribute_names 2)
unfolding attribute_names behind first_name
no_data_attribute n h a =
    passed_over (attribute_names 2) (1 ∷ []) refl n h
    (rw (ne_eqb n 1 a))

nothing : (n : ℕ) → [] ≡ nth_name n []
unfolding behind first_name
nothing zero = refl
nothing (suc n) = refl

pub no_class : (class n : ℕ) → class ≢ 2 → class ≢ 11 → class ≢ 45 → class ≢ 46 → class ≢ 47 → [] ≡ nth_name n (attribute_names class)
unfolding attribute_names
no_class class n a b c d e = rw (ne_eqb class 2 a, ne_eqb class 11 b, ne_eqb class 45 c, ne_eqb class 46 d, ne_eqb class 47 e) (nothing n)

-- the same of a class, which is told by its number
pub other_class : (class : ℕ) → class ≢ 2 → class ≢ 11 → class ≢ 45 → class ≢ 46 → class ≢ 47 → codes "unknown class " ++ hex_number class ≡ class_name class
unfolding class_name
other_class class a b c d e = rw (ne_eqb class 2 a, ne_eqb class 11 b, ne_eqb class 45 c, ne_eqb class 46 d, ne_eqb class 47 e)
