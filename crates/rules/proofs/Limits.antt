-- The limits on bytes that no product reaches, shown on a catalogue made for them.
use Prim.Native.Nat.{ℕ, ◌+◌}
use mathlib.Core.Path.{◌≡◌, refl}
use mathlib.Core.Bool.{true}
use mathlib.Core.List.{List, [], ◌∷◌, ◌++◌, map}
use lib.ListN.{length, drop, replicate}
use Rattle.rules.specs.Bytes.{fill}
use Rattle.rules.specs.Catalogue.{Class, Catalogue, created, automatic, size_of}
use Rattle.rules.specs.Messages.{create_number, delete_number, set_number, get_number}
use Rattle.rules.specs.Walks.{sections_from}
use Rattle.rules.specs.Run.{Input, alarm_report}
use Rattle.rules.specs.Products.{any, from◌to◌, RW, RC, RWC, ont_data_class}
use Rattle.rules.proofs.Examples.{call, command, tell, upload_after, computing}

-- ---- the catalogue

-- 25, 1, 1 and 4 bytes: the first two make 26, the first three 27; one, two and four make 30, all make 31
unfoldable pub wide_class : Class
wide_class = record {
  commands = set_number ∷ get_number ∷ [];
  creation = automatic (7 ∷ []);
  alarms = 0 ∷ 223 ∷ [];
  attributes = (1, RW 25 any) ∷ (2, RW 1 any) ∷ (3, RW 1 any) ∷ (4, RW 4 any) ∷ [];
  unkept = [];
}

-- a Create carries 25, 2, 4 and 1 bytes, 32 together; the last may not be 255
unfoldable pub full_class : Class
full_class = record {
  commands = create_number ∷ delete_number ∷ set_number ∷ get_number ∷ [];
  creation = created;
  alarms = [];
  attributes = (1, RC 25 any) ∷ (2, RWC 2 any) ∷ (3, RWC 4 any) ∷ (16, RWC 1 (from 0 to 254)) ∷ [];
  unkept = [];
}

unfoldable pub Probe : Catalogue
Probe = record { places = 2; classes = (2, ont_data_class) ∷ (100, wide_class) ∷ (200, full_class) ∷ [] }

-- ---- messages to it

-- the lengths of the sections' values
unfoldable pub value_lengths : List Input → List ℕ
value_lengths before = map (λ v. length (drop 6 v)) (upload_after Probe before)

-- a Create of instance i of class 200 that carries 25 bytes 0x11, 2 bytes 0x22, 4 bytes 0x33 and a last one
unfoldable pub full : ℕ → ℕ → Input
full i last = command (i + 1) 0x44 200 i (replicate 25 0x11 ++ replicate 2 0x22 ++ replicate 4 0x33 ++ last ∷ [])

-- a Set of the attributes of a mask's first byte; 1, 2 and 4 take 30 bytes, with 3 they take 31
unfoldable pub set_of : ℕ → Input
set_of m = command 1 0x48 100 7 (m ∷ 0 ∷ replicate 25 0x11 ++ 0x22 ∷ replicate 4 0x33)

unfoldable pub set_of_30 : Input
set_of_30 = set_of 0xD0

unfoldable pub set_of_31 : Input
set_of_31 = set_of 0xF0

unfoldable pub computing_probe : ℕ
unfolding computing wide_class full_class Probe value_lengths full set_of set_of_30 set_of_31
computing_probe = 0

-- ---- sections

-- attributes 1 and 2 alone, and with 3
pub attributes_of_26_bytes_are_one_section_and_of_27_bytes_two :
    map (sections_from (size_of wide_class) []) ((1 ∷ 2 ∷ []) ∷ (1 ∷ 2 ∷ 3 ∷ []) ∷ [])
    ≡ ((1 ∷ 2 ∷ []) ∷ []) ∷ ((1 ∷ 2 ∷ []) ∷ (3 ∷ []) ∷ []) ∷ []
unfolding computing_probe
attributes_of_26_bytes_are_one_section_and_of_27_bytes_two = refl

pub upload_fills_a_section_with_26_bytes : value_lengths [] ≡ 26 ∷ 5 ∷ []
unfolding computing_probe
upload_fills_a_section_with_26_bytes = refl

pub upload_puts_no_27_bytes_into_a_section : drop 2 (value_lengths (full 0 0x44 ∷ [])) ≡ 25 ∷ 7 ∷ []
unfolding computing_probe
upload_puts_no_27_bytes_into_a_section = refl

-- the 26th byte is the last of the contents
pub section_of_26_bytes_is_shown_whole :
    tell Probe (command 1 0x48 100 7 (0xC0 ∷ 0 ∷ replicate 25 0x55 ++ 0x66 ∷ []) ∷ command 2 0x4D 2 0 [] ∷ []) (command 3 0x4E 2 0 (0 ∷ 0 ∷ []))
    ≡ 0 ∷ 100 ∷ 0 ∷ 7 ∷ 0xC0 ∷ 0 ∷ replicate 25 0x55 ++ 0x66 ∷ []
unfolding computing_probe
section_of_26_bytes_is_shown_whole = refl

-- ---- Get

pub get_of_25_bytes_is_done : tell Probe [] (command 1 0x49 100 7 (0x80 ∷ 0 ∷ [])) ≡ fill 32 (0 ∷ 0x80 ∷ 0 ∷ [])
unfolding computing_probe
get_of_25_bytes_is_done = refl

pub get_of_26_bytes_is_refused : tell Probe [] (command 1 0x49 100 7 (0xC0 ∷ 0 ∷ [])) ≡ fill 32 (3 ∷ [])
unfolding computing_probe
get_of_26_bytes_is_refused = refl

-- ---- Set

pub set_of_30_bytes_is_done : tell Probe [] set_of_30 ≡ fill 32 (0 ∷ [])
unfolding computing_probe
set_of_30_bytes_is_done = refl

pub set_of_30_bytes_stores_the_last : tell Probe (set_of_30 ∷ []) (command 2 0x49 100 7 (0x70 ∷ 0 ∷ []))
    ≡ fill 32 (0 ∷ 0x70 ∷ 0 ∷ 0x22 ∷ 0 ∷ 0x33 ∷ 0x33 ∷ 0x33 ∷ 0x33 ∷ [])
unfolding computing_probe
set_of_30_bytes_stores_the_last = refl

pub set_of_31_bytes_is_refused : tell Probe [] set_of_31 ≡ fill 32 (3 ∷ [])
unfolding computing_probe
set_of_31_bytes_is_refused = refl

pub set_of_31_bytes_stores_nothing : tell Probe (set_of_31 ∷ []) (command 2 0x49 100 7 (0x70 ∷ 0 ∷ [])) ≡ fill 32 (0 ∷ 0x70 ∷ 0 ∷ [])
unfolding computing_probe
set_of_31_bytes_stores_nothing = refl

-- ---- Create

pub create_of_32_bytes_is_done : tell Probe [] (full 0 0x44) ≡ fill 32 (0 ∷ [])
unfolding computing_probe
create_of_32_bytes_is_done = refl

pub create_of_32_bytes_keeps_the_last : tell Probe (full 0 0x44 ∷ []) (command 2 0x49 200 0 (0x60 ∷ 1 ∷ []))
    ≡ fill 32 (0 ∷ 0x60 ∷ 1 ∷ 0x22 ∷ 0x22 ∷ 0x33 ∷ 0x33 ∷ 0x33 ∷ 0x33 ∷ 0x44 ∷ [])
unfolding computing_probe
create_of_32_bytes_keeps_the_last = refl

-- attribute 16 is the lowest bit of the mask
pub create_judges_the_last_byte : tell Probe [] (full 0 255) ≡ fill 32 (3 ∷ 0 ∷ 1 ∷ [])
unfolding computing_probe
create_judges_the_last_byte = refl

-- ---- places

pub third_create_has_no_place : tell Probe (full 0 1 ∷ full 1 1 ∷ []) (full 2 1) ≡ fill 32 (1 ∷ [])
unfolding computing_probe
third_create_has_no_place = refl

pub deleted_place_is_used_again : tell Probe (full 0 1 ∷ full 1 1 ∷ command 9 0x46 200 0 [] ∷ []) (full 2 1) ≡ fill 32 (0 ∷ [])
unfolding computing_probe
deleted_place_is_used_again = refl

-- ---- alarms

-- alarm 223 is the lowest bit of the last bitmap byte, in its notification (number 1) and in the walk
pub last_alarm_is_the_last_bit :
    tell Probe [] (call (alarm_report 100 7 223 true)) ≡ replicate 27 0 ++ 1 ∷ 0 ∷ 0 ∷ 0 ∷ 1 ∷ []
unfolding computing_probe
last_alarm_is_the_last_bit = refl

pub last_alarm_is_the_last_bit_of_a_walk :
    tell Probe (call (alarm_report 100 7 223 true) ∷ command 1 0x4B 2 0 [] ∷ []) (command 2 0x4C 2 0 []) ≡ 0 ∷ 100 ∷ 0 ∷ 7 ∷ replicate 27 0 ++ 1 ∷ []
unfolding computing_probe
last_alarm_is_the_last_bit_of_a_walk = refl
