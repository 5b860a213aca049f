-- The examples of document 01, each by computation from the rules.
use Prim.Native.Nat.{ℕ, ◌+◌}
use mathlib.Core.Path.{◌≡◌, refl}
use mathlib.Core.List.{List, [], ◌∷◌, ◌++◌, map}
use lib.ListN.{length, take, drop, replicate}
use lib.Dec.{eqb}
use Rattle.rules.specs.Maps.{Map, put_if, gather}
use Rattle.rules.specs.Bytes.{byte, bytes, fill}
use Rattle.rules.specs.Catalogue.{Catalogue}
use Rattle.rules.specs.State.{State, counter}
use Rattle.rules.specs.Messages.{trailer, framed}
use Rattle.rules.specs.Walks.{sections, section_contents, frozen}
use Rattle.rules.specs.Reports.{Outcome, dropped, quiet, answered}
use Rattle.rules.specs.Run.{Input, Call, message, step, fresh, run, after, computing_rules}
use Rattle.rules.specs.Products.{Small, Large, computing_products}

-- a call with room for everything
unfoldable pub call : Call → Input
call c = record { store_room = 16384; reply_room = 48; call = c }

-- a command: id, type, class, instance, the first of its contents
unfoldable pub command : ℕ → ℕ → ℕ → ℕ → List ℕ → Input
command id type c i v = call (message (framed (bytes 2 id) type (bytes 2 c ++ bytes 2 i) v))

-- what is sent
unfoldable pub sent : Outcome → List ℕ
sent (dropped n) = []
sent quiet = []
sent (answered r) = r

-- the contents of what is sent
unfoldable pub shown : Outcome → List ℕ
shown o = take 32 (drop 8 (sent o))

-- the contents of the answer to a command, after some others from power-on
unfoldable pub tell : Catalogue → List Input → Input → List ℕ
tell cat before p = shown (step cat (after cat (fresh cat) before) p).1

abbrev pub good_bridge : List ℕ
good_bridge = 0x01 ∷ 0x01 ∷ 0x00 ∷ 0x80 ∷ 0x00 ∷ 0x14 ∷ 0x00 ∷ 0x02 ∷ 0x00 ∷ 0x0F ∷ 0x00 ∷ []

-- a Create of bridge 1
unfoldable pub bridge : Input
bridge = command 1 0x44 45 1 good_bridge

-- the same with another MaxAge
unfoldable pub bridge_with_max_age : ℕ → Input
bridge_with_max_age n = command 1 0x44 45 1 (take 5 good_bridge ++ bytes 2 n ++ drop 7 good_bridge)

-- ask for an upload after some other commands, and fetch so many sections: the contents of all replies
unfoldable pub fetched : List ℕ → List Input
fetched [] = []
fetched (n ∷ l) = command (0x0300 + n) 0x4E 2 0 (bytes 2 n) ∷ fetched l

unfoldable pub whole_upload : Catalogue → List Input → List ℕ → List (List ℕ)
whole_upload cat before l =
    map (λ r. shown r.1) (run cat (after cat (fresh cat) before) (command 0x0200 0x4D 2 0 [] ∷ fetched l))

-- how many bytes of values a section shows, by its class and mask
unfoldable pub upload_after : Catalogue → List Input → List (List ℕ)
upload_after cat before =
    let s : State = after cat (fresh cat) before in
    map (section_contents cat (frozen s.table)) (sections cat (frozen s.table))

-- the sections of class 46, each with the length of its values behind it
unfoldable pub of_class_46 : List (List ℕ) → List (List ℕ)
of_class_46 [] = []
of_class_46 (v ∷ l) = put_if (eqb (byte v 1) 46) (take 6 v ++ length (drop 6 v) ∷ []) (of_class_46 l)

unfoldable pub both_products : {A : Type 0} → (Catalogue → A) → List A
both_products f = map f (Small ∷ Large ∷ [])

-- ---- the examples, a line each

-- E1 counter 255, accepted UNI Set: 1
unfoldable pub e1 : List (List ℕ)
e1 = both_products (λ cat.
    counter cat (after cat (fresh cat) (command 1 0x48 2 0 (0x80 ∷ 0 ∷ 255 ∷ []) ∷ command 2 0x48 11 0x0101 (0x80 ∷ 0 ∷ 7 ∷ []) ∷ [])).table ∷ [])

-- E3 Create 45: 0
unfoldable pub e3 : List (List ℕ)
e3 = both_products (λ cat. tell cat [] bridge)

-- E4 MaxAge 05FF: 3, mask 0800; 0600 and 2800 pass, 2801 not
unfoldable pub e4 : List (List ℕ)
e4 = gather (λ n. both_products (λ cat. take 3 (tell cat [] (bridge_with_max_age n)))) (0x05FF ∷ 0x0600 ∷ 0x2800 ∷ 0x2801 ∷ [])

-- E5 Large, Get 46 mask FE00: 25 bytes, 0
unfoldable pub e5 : List (List ℕ)
e5 = tell Large (bridge ∷ []) (command 2 0x49 46 1 (0xFE ∷ 0 ∷ [])) ∷ []

-- E6 FF00: 27 bytes, 3
unfoldable pub e6 : List (List ℕ)
e6 = tell Large (bridge ∷ []) (command 2 0x49 46 1 (0xFF ∷ 0 ∷ [])) ∷ []

-- E7 Small, FE00: 9, unsupported 0200
unfoldable pub e7 : List (List ℕ)
e7 = tell Small (bridge ∷ []) (command 2 0x49 46 1 (0xFE ∷ 0 ∷ [])) ∷ []

-- E10 Large 46 uploads as two sections, 25 and 2 bytes; Small as one of 23
unfoldable pub e10 : List (List ℕ)
e10 = of_class_46 (upload_after Large (bridge ∷ [])) ++ of_class_46 (upload_after Small (bridge ∷ []))

-- E11 fresh Small, whole upload: count 1, and the section
unfoldable pub e11 : List (List ℕ)
e11 = whole_upload Small [] (0 ∷ [])

-- E12 fresh, Get of the counter: the whole reply
unfoldable pub e12 : List (List ℕ)
e12 = both_products (λ cat. sent (step cat (fresh cat)
    (call (message (0x12 ∷ 0x34 ∷ 0x49 ∷ 0x0A ∷ 0x00 ∷ 0x02 ∷ 0x00 ∷ 0x00 ∷ 0x80 ∷ 0x00 ∷ replicate 30 0 ++ trailer ++ replicate 4 0)))).1)

-- E14 one bridge created: Small uploads 3 sections, Large 7
unfoldable pub e14 : List (List ℕ)
e14 = both_products (λ cat. tell cat (bridge ∷ []) (command 2 0x4D 2 0 []))

unfoldable pub computing : ℕ
unfolding computing_rules computing_products call command sent shown tell bridge bridge_with_max_age fetched whole_upload upload_after of_class_46 both_products e1 e3 e4 e5 e6 e7
    e10 e11 e12 e14
computing = 0

-- ---- the table: what the rules give, and what document 01 prints (a line of numbers for each product, or for each section)

abbrev pub e12_reply : List ℕ
e12_reply = 0x12 ∷ 0x34 ∷ 0x29 ∷ 0x0A ∷ 0x00 ∷ 0x02 ∷ 0x00 ∷ 0x00 ∷ 0x00 ∷ 0x80 ∷ 0x00 ∷ replicate 29 0
    ++ 0x00 ∷ 0x00 ∷ 0x00 ∷ 0x28 ∷ 0x00 ∷ 0x00 ∷ 0x00 ∷ 0x00 ∷ []

-- by example number
abbrev pub given_by_the_rules : Map (List (List ℕ))
given_by_the_rules = (1, e1) ∷ (3, e3) ∷ (4, e4) ∷ (5, e5) ∷ (6, e6) ∷ (7, e7) ∷ (10, e10) ∷ (11, e11) ∷ (12, e12) ∷ (14, e14) ∷ []

abbrev pub printed_in_document_01 : Map (List (List ℕ))
printed_in_document_01 =
    (1, (1 ∷ []) ∷ (1 ∷ []) ∷ [])
    ∷ (3, fill 32 (0 ∷ []) ∷ fill 32 (0 ∷ []) ∷ [])
    ∷ (
      4,
      (3 ∷ 0x08 ∷ 0x00 ∷ []) ∷ (3 ∷ 0x08 ∷ 0x00 ∷ []) ∷ (0 ∷ 0 ∷ 0 ∷ []) ∷ (0 ∷ 0 ∷ 0 ∷ []) ∷ (0 ∷ 0 ∷ 0 ∷ []) ∷ (0 ∷ 0 ∷ 0 ∷ [])
          ∷ (3 ∷ 0x08 ∷ 0x00 ∷ []) ∷ (3 ∷ 0x08 ∷ 0x00 ∷ []) ∷ [],
    )
    ∷ (5, fill 32 (0 ∷ 0xFE ∷ 0 ∷ replicate 6 0 ++ 0x80 ∷ 0 ∷ replicate 15 0 ++ 2 ∷ 0 ∷ []) ∷ [])
    ∷ (6, fill 32 (3 ∷ []) ∷ [])
    ∷ (7, fill 32 (9 ∷ replicate 27 0 ++ 0x02 ∷ 0x00 ∷ []) ∷ [])
    ∷ (10, (0 ∷ 46 ∷ 0 ∷ 1 ∷ 0xFE ∷ 0 ∷ 25 ∷ []) ∷ (0 ∷ 46 ∷ 0 ∷ 1 ∷ 0x01 ∷ 0 ∷ 2 ∷ []) ∷ (0 ∷ 46 ∷ 0 ∷ 1 ∷ 0xFC ∷ 0 ∷ 23 ∷ []) ∷ [])
    ∷ (11, fill 32 (0 ∷ 1 ∷ []) ∷ fill 32 (0x00 ∷ 0x0B ∷ 0x01 ∷ 0x01 ∷ 0xFC ∷ 0x00 ∷ []) ∷ [])
    ∷ (12, e12_reply ∷ e12_reply ∷ [])
    ∷ (14, fill 32 (0 ∷ 3 ∷ []) ∷ fill 32 (0 ∷ 7 ∷ []) ∷ [])
    ∷ []

pub the_checked_examples : given_by_the_rules ≡ printed_in_document_01
unfolding computing
the_checked_examples = refl
