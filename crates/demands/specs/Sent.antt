-- Where a message has an attribute's value, said on its bytes. The rules don't use these definitions: the theorems hold the rules against
-- them, so that a rule that cut values from another byte would be refused.
use Rattle.std.specs.Prelude.{ℕ, zero, suc, ◌+◌, ◌-◌, ◌*◌, ◌/◌, ◌%◌, ◌^◌, Bool, cond, List, take, drop, eqb, leb}
use Rattle.rules.specs.Maps.{◌and◌}
use Rattle.rules.specs.Bytes.{byte}
use Rattle.rules.specs.Catalogue.{Class, attribute, size_of}

-- the number in two bytes of a message, the higher byte first
abbrev pub number_at : List ℕ → ℕ → ℕ
number_at m i = byte m i * 256 + byte m (i + 1)

-- Does a mask name attribute n? There are 16, and attribute 1 is the top bit.
unfoldable pub mask_names : ℕ → ℕ → Bool
mask_names mask n = (leb 1 n and leb n 16) and eqb (mask / 2 ^ (16 - n) % 2) 1

-- how many bytes the attributes before n take, of those that are there
unfoldable pub bytes_before : (ℕ → ℕ) → (ℕ → Bool) → ℕ → ℕ
bytes_before size there zero = 0
bytes_before size there (suc n) = bytes_before size there n + cond (there n) (size n) 0

-- attribute n's value where the values of those that are there begin at byte `from`: as many bytes as its size, behind those before it
unfoldable pub value_from : ℕ → (ℕ → ℕ) → (ℕ → Bool) → List ℕ → ℕ → List ℕ
value_from from size there m n = take (size n) (drop (from + bytes_before size there n) m)

-- ---- the contents of a message are its bytes 8 to 39, called c0 to c31

-- in a Set: c0 and c1 are the mask, the values begin at c2
abbrev pub sent_in_set : Class → List ℕ → ℕ → List ℕ
sent_in_set k m n = value_from 10 (size_of k) (mask_names (number_at m 8)) m n

-- in a Create: the values of the set-by-create attributes begin at c0
abbrev pub sent_in_create : Class → List ℕ → ℕ → List ℕ
sent_in_create k m n = value_from 8 (size_of k) (λ n. (attribute k n).C) m n

-- in the reply to a Get: c0 is the result, c1 and c2 are the mask, the values begin at c3
abbrev pub shown_in_get : Class → List ℕ → ℕ → List ℕ
shown_in_get k r n = value_from 11 (size_of k) (mask_names (number_at r 9)) r n

-- in the reply to an Upload Next: c0 and c1 are the class, c2 and c3 the instance, c4 and c5 the mask, the values begin at c6
abbrev pub shown_in_section : Class → List ℕ → ℕ → List ℕ
shown_in_section k r n = value_from 14 (size_of k) (mask_names (number_at r 12)) r n
