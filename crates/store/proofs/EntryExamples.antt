-- What calls leave of whole stores and reply buffers, by computation. Most stores here have three more bytes behind their length.
use Prim.Native.Nat.{ℕ}
use mathlib.Core.Path.{◌≡◌, refl}
use mathlib.Core.Bool.{true, false}
use mathlib.Core.Option.{none, some}
use mathlib.Core.List.{List, [], ◌∷◌, ◌++◌, map}
use lib.ListN.{length, take, replicate}
use Rattle.rules.specs.Maps.{gather}
use Rattle.rules.specs.Bytes.{fill, laid}
use Rattle.rules.specs.Reports.{dropped, quiet, answered}
use Rattle.rules.specs.Run.{Call, message, attribute_report, alarm_report, fresh, after}
use Rattle.rules.specs.Products.{Small, Large, Meter, built_products}
use Rattle.rules.proofs.Examples.{call, good_bridge, computing}
use Rattle.store.specs.Layout.{encode}
use Rattle.store.specs.Entries.{Left, enter, power_on, computing_store}

-- ---- stores and buffers

-- the bytes behind a store's length
abbrev pub behind : List ℕ
behind = 0xAA ∷ 0xBB ∷ 0xCC ∷ []

-- a fresh Small: product 1, and zeros
unfoldable pub small_store : List ℕ
small_store = 1 ∷ replicate 3343 0 ++ behind

-- a fresh Large: product 2; from byte 102 on four UNIs of 15 bytes, max frame 05EE and bridged or IP 02; else zeros
unfoldable pub large_uni : List ℕ
large_uni = replicate 7 0 ++ 0x05 ∷ 0xEE ∷ 0 ∷ 0 ∷ 0 ∷ 2 ∷ 0 ∷ 0 ∷ []

unfoldable pub large_store : List ℕ
large_store = 2 ∷ replicate 101 0 ++ large_uni ++ large_uni ++ large_uni ++ large_uni ++ replicate 3182 0 ++ behind

-- a fresh Meter: product 3, and zeros
unfoldable pub meter_store : List ℕ
meter_store = 3 ∷ replicate 3343 0 ++ behind

-- a buffer of so many bytes
unfoldable pub room : ℕ → List ℕ
room n = replicate n 0x55

unfoldable pub on : Call → List ℕ → List ℕ → Left
on c store buffer = enter built_products c store buffer

unfoldable pub computing_entries : ℕ
unfolding computing computing_store small_store large_uni large_store meter_store room on
computing_entries = 0

-- ---- power-on

pub power_on_of_small : power_on built_products 1 (replicate 3344 0x77 ++ behind) ≡ (none, small_store)
unfolding computing_entries
power_on_of_small = refl

pub power_on_of_large : power_on built_products 2 (replicate 3344 0x77 ++ behind) ≡ (none, large_store)
unfolding computing_entries
power_on_of_large = refl

pub power_on_of_meter : power_on built_products 3 (replicate 3344 0x77 ++ behind) ≡ (none, meter_store)
unfolding computing_entries
power_on_of_meter = refl

pub power_on_writes_the_fresh_state :
    (encode 1 Small (fresh Small) ++ behind) ∷ (encode 2 Large (fresh Large) ++ behind) ∷ (encode 3 Meter (fresh Meter) ++ behind) ∷ [] ≡ small_store ∷ large_store ∷ meter_store ∷ []
unfolding computing_entries
power_on_writes_the_fresh_state = refl

-- a byte short; the same with a product that there isn't, as the length is tried first; products 0, 4 and 255
pub power_on_drops_2_and_12 :
    map (λ (e : ℕ × List ℕ). power_on built_products e.0 e.1)
    ((1, replicate 3343 0x77) ∷ (0, replicate 3343 0x77) ∷ (0, replicate 3344 0x77) ∷ (4, replicate 3344 0x77) ∷ (255, replicate 3347 0x77) ∷ [])
    ≡ (some 2, replicate 3343 0x77) ∷ (some 2, replicate 3343 0x77) ∷ (some 12, replicate 3344 0x77) ∷ (some 12, replicate 3344 0x77) ∷ (some 12, replicate 3347 0x77) ∷ []
unfolding computing_entries
power_on_drops_2_and_12 = refl

-- ---- an answer

-- E12's command and reply
unfoldable pub e12 : List ℕ
e12 = 0x12 ∷ 0x34 ∷ 0x49 ∷ 0x0A ∷ 0x00 ∷ 0x02 ∷ 0x00 ∷ 0x00 ∷ 0x80 ∷ 0x00 ∷ replicate 30 0 ++ 0 ∷ 0 ∷ 0 ∷ 0x28 ∷ 0 ∷ 0 ∷ 0 ∷ 0 ∷ []

unfoldable pub e12_reply : List ℕ
e12_reply = 0x12 ∷ 0x34 ∷ 0x29 ∷ 0x0A ∷ 0x00 ∷ 0x02 ∷ 0x00 ∷ 0x00 ∷ 0x00 ∷ 0x80 ∷ 0x00 ∷ replicate 29 0 ++ 0 ∷ 0 ∷ 0 ∷ 0x28 ∷ 0 ∷ 0 ∷ 0 ∷ 0 ∷ []

-- the remembered command and its reply stand from byte 2 on, behind a 1
unfoldable pub e12_remembered : List ℕ → List ℕ
e12_remembered store = laid 2 (1 ∷ take 40 e12 ++ e12_reply) store

unfoldable pub computing_e12 : ℕ
unfolding computing_entries e12 e12_reply e12_remembered
computing_e12 = 0

-- a buffer of 50 bytes keeps its last two
pub e12_on_a_fresh_small : on (message e12) small_store (room 50)
    ≡ record { outcome = answered e12_reply; store = e12_remembered small_store; buffer = e12_reply ++ 0x55 ∷ 0x55 ∷ [] }
unfolding computing_e12
e12_on_a_fresh_small = refl

pub e12_on_a_fresh_large : on (message e12) large_store (room 50)
    ≡ record { outcome = answered e12_reply; store = e12_remembered large_store; buffer = e12_reply ++ 0x55 ∷ 0x55 ∷ [] }
unfolding computing_e12
e12_on_a_fresh_large = refl

-- those stores are the encodings of the states after it
pub e12_leaves_the_encoding_of_the_state_after_it : map e12_remembered (small_store ∷ large_store ∷ [])
    ≡ (encode 1 Small (after Small (fresh Small) (call (message e12) ∷ [])) ++ behind) ∷ (encode 2 Large (after Large (fresh Large) (call (message e12) ∷ [])) ++ behind) ∷ []
unfolding computing_e12
e12_leaves_the_encoding_of_the_state_after_it = refl

-- a repeat gets the same reply, and leaves the store as it was; it is by the first 40 bytes
pub repeat_leaves_the_store : map (λ m. on (message m) (e12_remembered small_store) (room 48)) (e12 ∷ (take 44 e12 ++ 1 ∷ 2 ∷ 3 ∷ 4 ∷ []) ∷ [])
    ≡ replicate 2 (record { outcome = answered e12_reply; store = e12_remembered small_store; buffer = e12_reply })
unfolding computing_e12
repeat_leaves_the_store = refl

-- ---- created instances

-- a Create of bridge 1, and its reply
unfoldable pub create_bridge : List ℕ
create_bridge = 0 ∷ 1 ∷ 0x44 ∷ 0x0A ∷ 0 ∷ 45 ∷ 0 ∷ 1 ∷ good_bridge ++ replicate 21 0 ++ 0 ∷ 0 ∷ 0 ∷ 0x28 ∷ 0 ∷ 0 ∷ 0 ∷ 0 ∷ []

unfoldable pub create_reply : List ℕ
create_reply = 0 ∷ 1 ∷ 0x24 ∷ 0x0A ∷ 0 ∷ 45 ∷ 0 ∷ 1 ∷ replicate 32 0 ++ 0 ∷ 0 ∷ 0 ∷ 0x28 ∷ 0 ∷ 0 ∷ 0 ∷ 0 ∷ []

-- The counter is in byte 100 and the number of places in use in byte 101; the first place has class, number and contents from byte 162
-- on. Large's bridge configuration ends in the HelloTime and ForwardDelay that the Create carried.
pub create_fills_a_place :
    map (λ b. (on (message create_bridge) b (room 50)).store) (small_store ∷ large_store ∷ [])
    ≡ laid 2 (1 ∷ take 40 create_bridge ++ create_reply) (laid 100 (1 ∷ 1 ∷ []) (laid 162 (0 ∷ 45 ∷ 0 ∷ 1 ∷ good_bridge) small_store))
    ∷ laid 2 (1 ∷ take 40 create_bridge ++ create_reply)
    (laid 100 (1 ∷ 1 ∷ []) (laid 162 (0 ∷ 45 ∷ 0 ∷ 1 ∷ good_bridge ++ replicate 20 0 ++ 0x02 ∷ 0x00 ∷ 0x0F ∷ 0x00 ∷ []) large_store))
    ∷ []
unfolding computing_entries create_bridge create_reply
create_fills_a_place = refl

-- a fresh Small with these places in use
unfoldable pub with_places : List (List ℕ) → List ℕ
with_places l = laid 101 (length l ∷ []) (laid 162 (gather (fill 39) l) small_store)

-- bridge i, and port 1 of bridge 7 at a UNI by TPType 1
unfoldable pub bridge_place : ℕ → List ℕ
bridge_place i = 0 ∷ 45 ∷ 0 ∷ i ∷ good_bridge

unfoldable pub port_place : ℕ → List ℕ
port_place uni = 0 ∷ 47 ∷ 0 ∷ 1 ∷ 0 ∷ 7 ∷ 1 ∷ 1 ∷ 1 ∷ uni ∷ 0 ∷ 0x80 ∷ 0 ∷ 1 ∷ 0 ∷ 0 ∷ []

-- Two bridges; the same in the other order, which is no encoding; one bridge twice, which is no state. A port whose bridge isn't there,
-- as it may since have gone; a port at a UNI that isn't there.
pub places_of_sound_and_unsound_stores :
    map (λ l. (on (message e12) (with_places l) (room 48)).outcome) (
    (bridge_place 1 ∷ bridge_place 2 ∷ [])
    ∷ (bridge_place 2 ∷ bridge_place 1 ∷ [])
    ∷ (bridge_place 1 ∷ bridge_place 1 ∷ [])
    ∷ (port_place 1 ∷ [])
    ∷ (port_place 2 ∷ [])
    ∷ [])
    ≡ answered e12_reply ∷ dropped 2 ∷ dropped 2 ∷ answered e12_reply ∷ dropped 2 ∷ []
unfolding computing_e12 with_places bridge_place port_place
places_of_sound_and_unsound_stores = refl

-- ---- drops

-- what a dropped call leaves: store and buffer as they were
unfoldable pub left_by_drop : ℕ → List ℕ → List ℕ → Left
left_by_drop n store buffer = record { outcome = dropped n; store = store; buffer = buffer }

-- a Get of the counter, so long, with this id, type, device and last of the bytes 40 to 43
unfoldable pub counter_get : ℕ → ℕ → ℕ → ℕ → ℕ → List ℕ
counter_get length id type device trailer = fill length (0 ∷ id ∷ type ∷ device ∷ 0 ∷ 2 ∷ 0 ∷ 0 ∷ 0x80 ∷ replicate 34 0 ++ trailer ∷ [])

unfoldable pub computing_drops : ℕ
unfolding computing_e12 left_by_drop counter_get
computing_drops = 0

-- the buffer is a byte short, and the message has every fault; the second store is a byte short too
pub drop_1_leaves_store_and_buffer :
    map (λ b. on (message (counter_get 47 0 0x09 0x0B 0x29)) b (room 47)) (small_store ∷ take 3343 small_store ∷ []) ≡ map (λ b. left_by_drop 1 b (room 47))
    (small_store ∷ take 3343 small_store ∷ [])
unfolding computing_drops
drop_1_leaves_store_and_buffer = refl

-- a byte short, and no bytes at all
pub drop_2_of_a_short_store :
    map (λ b. on (message (counter_get 47 0 0x09 0x0B 0x29)) b (room 50)) (take 3343 small_store ∷ take 3343 large_store ∷ [] ∷ [])
    ≡ map (λ b. left_by_drop 2 b (room 50)) (take 3343 small_store ∷ take 3343 large_store ∷ [] ∷ [])
unfolding computing_drops
drop_2_of_a_short_store = refl

-- One byte of a fresh Small is damaged: product 0 and 255; a remembered command marked 2; an alarm that isn't declared, an alarm of
-- a UNI that isn't there; a walk marked 2; 1 and 41 places in use, as none is; admin state 2; a byte behind the UNI's contents; a
-- byte of a UNI that isn't there; the first and the last byte of the unused places; an upload marked 2; its last byte.
unfoldable pub damages : List (List ℕ)
damages = map (λ (e : ℕ × ℕ). laid e.0 (e.1 ∷ []) small_store) (
    (0, 0) ∷ (0, 255) ∷ (2, 2) ∷ (91, 0x40) ∷ (92, 0x80) ∷ (95, 2) ∷ (101, 1) ∷ (101, 41) ∷ (106, 2) ∷ (108, 1) ∷ (117, 1) ∷ (162, 1) ∷ (1721, 1) ∷ (1722, 2) ∷
    (3343, 1) ∷ [])

pub drop_2_of_a_damaged_store :
    map (λ b. on (message e12) b (room 50)) damages ≡ map (λ b. left_by_drop 2 b (room 50)) damages
unfolding computing_drops damages
drop_2_of_a_damaged_store = refl

-- what isn't damage: any alarm number, a declared alarm, an alarm walk begun, admin state 1, an upload begun, other bytes behind
pub other_stores_are_sound :
    map (λ (e : ℕ × ℕ). (on (message e12) (laid e.0 (e.1 ∷ []) small_store) (room 48)).outcome)
    ((1, 255) ∷ (91, 0x80) ∷ (95, 1) ∷ (106, 1) ∷ (1722, 1) ∷ (3344, 0) ∷ [])
    ≡ replicate 6 (answered e12_reply)
unfolding computing_drops
other_stores_are_sound = refl

-- one fault after another is mended
pub drops_3_to_7_leave_store_and_buffer :
    map (λ m. on (message m) small_store (room 50)) (
    counter_get 47 0 0x09 0x0B 0x29
    ∷ counter_get 49 0 0x09 0x0B 0x29
    ∷ counter_get 48 0 0x09 0x0B 0x29
    ∷ counter_get 48 0 0x09 0x0A 0x29
    ∷ counter_get 48 0 0x49 0x0A 0x29
    ∷ counter_get 48 1 0x49 0x0A 0x29
    ∷ [])
    ≡ map (λ n. left_by_drop n small_store (room 50)) (3 ∷ 3 ∷ 4 ∷ 5 ∷ 6 ∷ 7 ∷ [])
unfolding computing_drops
drops_3_to_7_leave_store_and_buffer = refl

-- reports: no such instance; not L, and not there in Small; too long, and not legal; an alarm that isn't declared
pub drops_of_reports_leave_store_and_buffer :
    map (λ c. on c small_store (room 50)) (
    attribute_report 11 0x0102 6 (1 ∷ [])
    ∷ alarm_report 11 0x0102 0 true
    ∷ attribute_report 11 0x0101 1 (1 ∷ [])
    ∷ attribute_report 11 0x0101 7 (1 ∷ [])
    ∷ alarm_report 11 0x0101 1 true
    ∷ attribute_report 11 0x0101 6 (0 ∷ 1 ∷ [])
    ∷ attribute_report 11 0x0101 6 (2 ∷ [])
    ∷ [])
    ≡ map (λ n. left_by_drop n small_store (room 50)) (11 ∷ 11 ∷ 12 ∷ 12 ∷ 12 ∷ 13 ∷ 13 ∷ [])
unfolding computing_drops
drops_of_reports_leave_store_and_buffer = refl

-- reports try 1 and 2 before them
pub drops_1_and_2_of_reports :
    map (λ c. on c small_store (room 47)) (attribute_report 11 0x0102 6 [] ∷ alarm_report 11 0x0102 9 true ∷ [])
    ++ map (λ c. on c (take 3343 small_store) (room 48)) (attribute_report 11 0x0102 6 [] ∷ alarm_report 11 0x0102 9 true ∷ [])
    ≡ replicate 2 (left_by_drop 1 small_store (room 47)) ++ replicate 2 (left_by_drop 2 (take 3343 small_store) (room 48))
unfolding computing_drops
drops_1_and_2_of_reports = refl

-- ---- reports

-- Large's first UNI has its configuration in byte 108, which has no AVC: the buffer is kept
pub quiet_report_changes_the_store_and_keeps_the_buffer : on (attribute_report 11 0x0101 7 (5 ∷ [])) large_store (room 50)
    ≡ record { outcome = quiet; store = laid 108 (5 ∷ []) large_store; buffer = room 50 }
unfolding computing_entries
quiet_report_changes_the_store_and_keeps_the_buffer = refl

-- the link is down and the signal is there already: not a byte changes
pub report_of_what_is_so_already_changes_nothing :
    map (λ c. on c large_store (room 50)) (attribute_report 11 0x0101 6 (0 ∷ []) ∷ alarm_report 11 0x0101 0 false ∷ [])
    ≡ replicate 2 (record { outcome = quiet; store = large_store; buffer = room 50 })
unfolding computing_entries
report_of_what_is_so_already_changes_nothing = refl

-- the link of Small's UNI is in byte 107
unfoldable pub avc : List ℕ
avc = 0 ∷ 0 ∷ 0x11 ∷ 0x0A ∷ 0x00 ∷ 0x0B ∷ 0x01 ∷ 0x01 ∷ 0x04 ∷ 0x00 ∷ 0x01 ∷ replicate 29 0 ++ 0 ∷ 0 ∷ 0 ∷ 0x28 ∷ 0 ∷ 0 ∷ 0 ∷ 0 ∷ []

pub avc_fills_48_bytes : on (attribute_report 11 0x0101 6 (1 ∷ [])) small_store (room 50)
    ≡ record { outcome = answered avc; store = laid 107 (1 ∷ []) small_store; buffer = avc ++ 0x55 ∷ 0x55 ∷ [] }
unfolding computing_entries avc
avc_fills_48_bytes = refl

-- Large's third UNI: the alarm number is in byte 1, its alarms are in byte 93
unfoldable pub alarm : List ℕ
alarm = 0 ∷ 0 ∷ 0x10 ∷ 0x0A ∷ 0x00 ∷ 0x0B ∷ 0x01 ∷ 0x03 ∷ 0x80 ∷ replicate 27 0 ++ 0 ∷ 0 ∷ 0 ∷ 1 ∷ 0 ∷ 0 ∷ 0 ∷ 0x28 ∷ 0 ∷ 0 ∷ 0 ∷ 0 ∷ []

pub alarm_fills_48_bytes : on (alarm_report 11 0x0103 0 true) large_store (room 50)
    ≡ record { outcome = answered alarm; store = laid 1 (1 ∷ []) (laid 93 (0x80 ∷ []) large_store); buffer = alarm ++ 0x55 ∷ 0x55 ∷ [] }
unfolding computing_entries alarm
alarm_fills_48_bytes = refl
