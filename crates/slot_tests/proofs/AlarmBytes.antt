-- The alarms of the products, byte by byte: of a UNI only alarm 0, at the top of the byte, is declared.
use Rattle.std.proofs.Common.{◌⊎◌, ⊎_elim}
use Prim.Native.Nat.{ℕ, ◌%◌, ◌<◌}
use native.Mathlib.Omega.{arith}
use mathlib.Core.Path.{◌≡◌, refl, sym, ap, ◌∙◌}
use mathlib.Core.Bool.{Bool, true, ◌&&◌}
use mathlib.Core.List.{List, [], ◌∷◌, ◌++◌}
use lib.ListN.{length, take, drop}
use lib.Seq.{take_all, take-suc}
use Rattle.std.specs.List.{fold}
use Rattle.std.proofs.lemmas.List.Sums.{fold-append}
use lib.Dec.{eqb}
use Rattle.rules.specs.Maps.{◌and◌, all, computing_maps}
use Rattle.rules.specs.Bytes.{byte, are_bytes, all_zero, bits, computing_bytes}
use Rattle.rules.specs.Catalogue.{class, key}
use Rattle.rules.specs.State.{class_of}
use Rattle.rules.specs.Legal.{automatic_keys, declared_from, computing_legal}
use Rattle.class_tables.specs.declared.Product.{Product}
use Rattle.class_tables.specs.declared.Product.TheVariants.{Small, Large, Meter}
use Rattle.class_tables.specs.Built.{cat_of, by_product}
use Rattle.class_tables.specs.Computing.{computing_tables}
use Rattle.class_tables.proofs.EveryProduct.{same_list}
use Rattle.store.specs.Layout.{slot_count}
use Rattle.rules.proofs.Laws.{both, true_and, eqb_eq}
use Rattle.rules.proofs.ByteLaws.{byte_small, bytes_drop}
use Rattle.slot_tests.specs.Tests.{alarm_byte_test, alarms_test}
use Rattle.rules.proofs.Conjunctions.{join_assoc, join_end}
use Rattle.rules.proofs.Computed.{all_below, alike_below}
use Rattle.slot_tests.proofs.Slots.{small_keys, large_keys, meter_keys}

top_bit : (x : ℕ) → x < 256 → declared_from 0 (0 ∷ []) (bits 8 x) ≡ eqb (x % 128) 0
top_bit x h = alike_below (λ x. declared_from 0 (0 ∷ []) (bits 8 x)) (λ x. eqb (x % 128) 0) 256 (unfold all_below computing_maps computing_bytes computing_legal in refl) x h

uni_alarms : (pr : Product) → (class (cat_of pr) 11).alarms ≡ 0 ∷ []
uni_alarms pr = sym (same_list (λ cat. (class cat 11).alarms) {x = 0 ∷ []} (unfold computing_tables in refl) pr)

alarm_byte : (pr : Product) (x : ℕ) → x < 256 → alarm_byte_test (class (cat_of pr) 11) x ≡ eqb (x % 128) 0
unfolding alarm_byte_test
alarm_byte pr x h = rw (uni_alarms pr) (top_bit x h)

-- a product with one UNI
pub one_alarm : (b : List ℕ) → are_bytes b ≡ true → (pr : Product) → (pr ≡ Small) ⊎ (pr ≡ Meter)
    → (eqb (byte b 0 % 128) 0 and all_zero (drop 1 b)) ≡ alarms_test (cat_of pr) (automatic_keys (cat_of pr)) b
unfolding alarms_test
one_alarm b bs pr h =
    let small : byte b 0 < 256 = byte_small b 0 bs in
    ⊎_elim
    (λ (e : pr ≡ Small). rw (e, small_keys, alarm_byte Small (byte b 0) small) refl)
    (λ (e : pr ≡ Meter). rw (e, meter_keys, alarm_byte Meter (byte b 0) small) refl)
    h

one_slot : (pr : Product) → (pr ≡ Small) ⊎ (pr ≡ Meter) → ◌≡◌ {A = ℕ} (by_product pr 1 4 1) 1
one_slot pr h = ⊎_elim (λ (e : pr ≡ Small). rw e refl) (λ (e : pr ≡ Meter). rw e refl) h

-- the zeros begin behind its one slot
pub one_alarm_by : (b : List ℕ) → are_bytes b ≡ true → (pr : Product) {n : ℕ} → n ≡ by_product pr 1 4 1 → (pr ≡ Small) ⊎ (pr ≡ Meter)
    → (eqb (byte b 0 % 128) 0 and all_zero (drop n b)) ≡ alarms_test (cat_of pr) (automatic_keys (cat_of pr)) b
one_alarm_by b bs pr e h = rw (e ∙ one_slot pr h) (one_alarm b bs pr h)

-- one byte more, as the fold over the alarms has it
abbrev pub one_more : Bool → ℕ → Bool
one_more declared x = declared && eqb (x % 128) 0

each_alarm : (l b : List ℕ) → all (λ k. eqb (class_of k) 11) l ≡ true → length b ≡ length l → are_bytes b ≡ true → (declared : Bool)
    → fold one_more declared b ≡ (declared and alarms_test (cat_of Large) l b)
unfolding alarms_test all_zero all ◌and◌
each_alarm [] [] h w bs declared = sym (join_end declared)
each_alarm [] (x ∷ b) h w bs declared = absurd (omega (arith, w))
each_alarm (k ∷ l) [] h w bs declared = absurd (omega (arith, w))
each_alarm (k ∷ l) (x ∷ b) h w bs declared =
    each_alarm l b (both h).1 (omega (arith, w)) (bytes_drop 1 (x ∷ b) bs) (one_more declared x)
    ∙ rw (eqb_eq (class_of k) 11 (both h).0, alarm_byte Large x (byte_small (x ∷ b) 0 bs)) (join_assoc declared (eqb (x % 128) 0) (alarms_test (cat_of Large) l b))

pub large_alarms : (b : List ℕ) → length b ≡ slot_count → are_bytes b ≡ true → fold one_more true b ≡ alarms_test (cat_of Large) (automatic_keys (cat_of Large)) b
unfolding ◌and◌
large_alarms b h bs =
    rw large_keys (each_alarm (key 11 0x0101 ∷ key 11 0x0102 ∷ key 11 0x0103 ∷ key 11 0x0104 ∷ []) b (unfold all in refl) h bs true ∙ true_and _)

-- the last slot's alarms, tested behind those of the others
pub last_behind : (b : List ℕ) → length b ≡ slot_count → are_bytes b ≡ true
    → (fold one_more true (take 3 b) && eqb (byte b 3 % 128) 0) ≡ alarms_test (cat_of Large) (automatic_keys (cat_of Large)) b
last_behind b h bs =
    let parted : take 3 b ++ byte b 3 ∷ [] ≡ b = sym (take-suc b 3 0 (omega (arith, h))) ∙ take_all slot_count b (omega (arith, h)) in
    sym (fold-append one_more true (take 3 b) (byte b 3 ∷ [])) ∙ ap (fold one_more true) parted ∙ large_alarms b h bs
