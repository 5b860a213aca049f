-- Last year's accident on the bytes of a fresh Small, by computation: the link goes down while the upload is half sent. The section still
-- shows it down, as it was when the upload was asked for; a Get shows it up.
use Prim.Native.Nat.{ℕ}
use mathlib.Core.Path.{◌≡◌, refl}
use mathlib.Core.List.{List, [], ◌∷◌, ◌++◌}
use lib.ListN.{replicate}
use Rattle.rules.specs.Reports.{answered}
use Rattle.rules.specs.Run.{message, attribute_report}
use Rattle.store.proofs.EntryExamples.{small_store, room, on, computing_entries}

-- the fixed bytes and the checksum
unfoldable pub trailer_of_8 : List ℕ
trailer_of_8 = 0 ∷ 0 ∷ 0 ∷ 0x28 ∷ 0 ∷ 0 ∷ 0 ∷ 0 ∷ []

-- the upload
unfoldable pub ask : List ℕ
ask = 0 ∷ 2 ∷ 0x4D ∷ 0x0A ∷ 0 ∷ 2 ∷ 0 ∷ 0 ∷ replicate 32 0 ++ trailer_of_8

-- its Next with index 0
unfoldable pub fetch_0 : List ℕ
fetch_0 = 0 ∷ 3 ∷ 0x4E ∷ 0x0A ∷ 0 ∷ 2 ∷ 0 ∷ 0 ∷ replicate 32 0 ++ trailer_of_8

-- a Get of the operational state
unfoldable pub get_the_link : List ℕ
get_the_link = 0 ∷ 4 ∷ 0x49 ∷ 0x0A ∷ 0 ∷ 11 ∷ 1 ∷ 1 ∷ 0x04 ∷ 0 ∷ replicate 30 0 ++ trailer_of_8

-- the upload is asked for, and the link goes down
unfoldable pub after_the_link_change : List ℕ
after_the_link_change = (on (attribute_report 11 0x0101 6 (1 ∷ [])) (on (message ask) small_store (room 48)).store (room 48)).store

-- the section of the UNI: all its attributes zero, the link up
pub the_section_shows_the_link_as_it_was : (on (message fetch_0) after_the_link_change (room 48)).outcome
    ≡ answered (0 ∷ 3 ∷ 0x2E ∷ 0x0A ∷ 0 ∷ 2 ∷ 0 ∷ 0 ∷ 0x00 ∷ 0x0B ∷ 0x01 ∷ 0x01 ∷ 0xFC ∷ 0x00 ∷ replicate 26 0 ++ trailer_of_8)
unfolding computing_entries trailer_of_8 ask fetch_0 after_the_link_change
the_section_shows_the_link_as_it_was = refl

-- the link is down in the live table
pub a_get_shows_the_link_as_it_is : (on (message get_the_link) after_the_link_change (room 48)).outcome
    ≡ answered (0 ∷ 4 ∷ 0x29 ∷ 0x0A ∷ 0 ∷ 11 ∷ 1 ∷ 1 ∷ 0 ∷ 0x04 ∷ 0x00 ∷ 1 ∷ replicate 28 0 ++ trailer_of_8)
unfolding computing_entries trailer_of_8 ask get_the_link after_the_link_change
a_get_shows_the_link_as_it_is = refl
