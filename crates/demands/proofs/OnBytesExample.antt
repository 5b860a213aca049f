-- What is assumed of commands on lent bytes is met, by computation on a fresh Small's store: by a Create and a Get of the new bridge, a Set of the UNI and
-- a Get of it, a Delete of the bridge, and an upload that is repeated, with a link change before its section is fetched. And a reply with a stray byte behind its values is
-- told from one without.
use Prim.Native.Nat.{ℕ}
use native.Mathlib.Omega.{arith}
use mathlib.Core.Path.{◌≡◌, refl, sym, ◌∙◌, ap}
use mathlib.Core.Option.{some}
use mathlib.Core.List.{List, [], ◌∷◌, ◌++◌}
use lib.ListN.{replicate}
use Rattle.store.specs.Entries.{enter}
use Rattle.rules.specs.Bytes.{bytes}
use Rattle.rules.specs.State.{Table}
use Rattle.rules.specs.Messages.{framed}
use Rattle.rules.specs.Walks.{Section}
use Rattle.rules.specs.Run.{message, attribute_report, fresh, after, Input}
use Rattle.rules.specs.Products.{Small, built_products}
use Rattle.rules.proofs.MapLaws.{some_eq}
use Rattle.rules.proofs.Examples.{good_bridge, call}
use Rattle.store.specs.Decode.{Held, decode}
use Rattle.store.proofs.EntryExamples.{small_store, room, create_bridge, create_reply}
use Rattle.demands.specs.Sent.{mask_names, bytes_before}
use Rattle.demands.specs.Lending.{lend, memory_after, memory_after_all}
use Rattle.demands.proofs.FrozenOnBytes.{another_id, UploadThenFetch}
use Rattle.demands.proofs.AccidentExample.{trailer_of_8, ask, fetch_0}
use Rattle.demands.proofs.AnsweredOnBytes.{AnsweredAnew}
use Rattle.demands.proofs.GetsOnBytes.{Shows}
use Rattle.demands.proofs.GetsAfter.{ThenGet}
use Rattle.demands.proofs.SectionsOnBytes.{HasTheSection}
use Rattle.demands.proofs.Worthless.{a_fresh_small_holds, after_e3, held_before_e3, held_after_e3, computing_worthless}

-- ---- a Create, and a Get of what it made

-- attributes 1 to 7 of the new bridge, and the reply: what the Create had
unfoldable pub get_the_bridge : List ℕ
get_the_bridge = framed (bytes 2 2) 0x49 (bytes 2 45 ++ bytes 2 1) (0xFE ∷ 0 ∷ [])

unfoldable pub the_bridge_is_shown : List ℕ
the_bridge_is_shown = framed (bytes 2 2) 0x29 (bytes 2 45 ++ bytes 2 1) (0 ∷ 0xFE ∷ 0 ∷ good_bridge)

-- E3's Create on a fresh Small, with a Get behind it, meets all that is assumed of a Create with a Get behind it.
pub a_create_then_a_get : ThenGet built_products 4 small_store create_bridge (room 48) create_reply held_before_e3 get_the_bridge (room 48) the_bridge_is_shown held_after_e3
unfolding computing_worthless held_before_e3 held_after_e3 get_the_bridge the_bridge_is_shown
a_create_then_a_get = record {
  first = record { held = refl; of_bytes = refl; its_number = refl; no_repeat = another_id (fresh Small) create_bridge refl; told = refl };
  first_is_done = refl;
  then_the_get = record { held = refl; of_bytes = refl; its_number = refl; no_repeat = another_id held_after_e3.state get_the_bridge refl; told = refl };
  the_get_is_done = refl;
  same_class = refl;
  same_instance = refl;
}

-- That reply with an FF behind its last value, at byte 22, doesn't show what is read, in whatever table.
pub a_get_s_reply_has_no_stray_byte : (t : Table)
    → Shows Small t get_the_bridge (framed (bytes 2 2) 0x29 (bytes 2 45 ++ bytes 2 1) (0 ∷ 0xFE ∷ 0 ∷ good_bridge ++ 0xFF ∷ [])) → ⊥
unfolding computing_worthless get_the_bridge bytes_before mask_names
a_get_s_reply_has_no_stray_byte t x = let z : ◌≡◌ {A = ℕ} 0xFF 0 = x.the_rest_is_zero 22 (omega arith) (omega arith) in absurd (omega arith)

-- ---- a Delete of it

unfoldable pub delete_the_bridge : List ℕ
delete_the_bridge = framed (bytes 2 2) 0x46 (bytes 2 45 ++ bytes 2 1) []

-- A Delete of that bridge meets all that is assumed of a Delete; it is answered with 0.
pub a_delete : AnsweredAnew built_products 6 after_e3 delete_the_bridge (room 48) (framed (bytes 2 2) 0x26 (bytes 2 45 ++ bytes 2 1) (0 ∷ [])) held_after_e3
unfolding computing_worthless held_after_e3 delete_the_bridge
a_delete = record { held = refl; of_bytes = refl; its_number = refl; no_repeat = another_id held_after_e3.state delete_the_bridge refl; told = refl }

-- ---- a Set, and a Get of what it wrote

-- attribute 5 of the UNI, its administrative state, becomes 1
unfoldable pub lock_the_uni : List ℕ
lock_the_uni = framed (bytes 2 1) 0x48 (bytes 2 11 ++ bytes 2 0x0101) (0x08 ∷ 0 ∷ 1 ∷ [])

unfoldable pub the_uni_is_locked : List ℕ
the_uni_is_locked = framed (bytes 2 1) 0x28 (bytes 2 11 ++ bytes 2 0x0101) (0 ∷ [])

unfoldable pub held_after_the_set : Held
held_after_the_set = record { product = 1; catalogue = Small; state = after Small (fresh Small) (call (message lock_the_uni) ∷ []) }

-- it, and the operational state behind it, which is 0
unfoldable pub get_the_uni : List ℕ
get_the_uni = framed (bytes 2 2) 0x49 (bytes 2 11 ++ bytes 2 0x0101) (0x0C ∷ 0 ∷ [])

unfoldable pub the_uni_is_shown : List ℕ
the_uni_is_shown = framed (bytes 2 2) 0x29 (bytes 2 11 ++ bytes 2 0x0101) (0 ∷ 0x0C ∷ 0 ∷ 1 ∷ 0 ∷ [])

-- A Set of the UNI of a fresh Small, with a Get behind it, meets all that is assumed of a Set with a Get behind it.
pub a_set_then_a_get : ThenGet built_products 8 small_store lock_the_uni (room 48) the_uni_is_locked held_before_e3 get_the_uni (room 48) the_uni_is_shown held_after_the_set
unfolding computing_worthless held_before_e3 lock_the_uni the_uni_is_locked held_after_the_set get_the_uni the_uni_is_shown
a_set_then_a_get = record {
  first = record { held = refl; of_bytes = refl; its_number = refl; no_repeat = another_id (fresh Small) lock_the_uni refl; told = refl };
  first_is_done = refl;
  then_the_get = record { held = refl; of_bytes = refl; its_number = refl; no_repeat = another_id held_after_the_set.state get_the_uni refl; told = refl };
  the_get_is_done = refl;
  same_class = refl;
  same_instance = refl;
}

-- ---- an upload, the upload again, a link change, and the section

-- the upload's reply is lost, and it comes again; then the link goes down
unfoldable pub again_and_the_link_goes_down : List Input
again_and_the_link_goes_down =
    record { store_room = 3344; reply_room = 48; call = message ask }
    ∷ record { store_room = 3344; reply_room = 48; call = attribute_report 11 0x0101 6 (1 ∷ []) }
    ∷ []

-- what the store holds when the upload comes again
unfoldable pub held_after_the_ask : Held
held_after_the_ask = record { product = 1; catalogue = Small; state = after Small (fresh Small) (call (message ask) ∷ []) }

the_ask_is_held : decode built_products (enter built_products (message ask) small_store (room 48)).store ≡ some held_after_the_ask
unfolding computing_worthless trailer_of_8 ask held_after_the_ask
the_ask_is_held = refl

-- what the store holds when the section is asked for
unfoldable pub held_after_the_link_change : Held
held_after_the_link_change = record {
  product = 1;
  catalogue = Small;
  state = after Small (fresh Small) (call (message ask) ∷ call (attribute_report 11 0x0101 6 (1 ∷ [])) ∷ []);
}

the_link_change_is_held : decode built_products (memory_after_all built_products (enter built_products (message ask) small_store (room 48)).store again_and_the_link_goes_down)
    ≡ some held_after_the_link_change
unfolding computing_worthless trailer_of_8 ask again_and_the_link_goes_down held_after_the_link_change lend memory_after memory_after_all
the_link_change_is_held = refl

-- Last year's accident on a fresh Small, with the upload repeated, meets all that is assumed of an upload, of the calls behind it and of the Upload Next
-- behind these.
pub an_upload_then_a_fetch : UploadThenFetch built_products small_store
unfolding computing_worthless held_before_e3 trailer_of_8 ask fetch_0 held_after_the_ask held_after_the_link_change
an_upload_then_a_fetch = record {
  held_one = held_before_e3;
  holds_it = refl;
  ask = ask;
  ask_buffer = room 48;
  ask_passes = record { its_bytes = refl; no_drop = refl; its_number = refl; its_class = refl; its_instance = refl };
  ask_is_no_repeat = λ h e k f. another_id (fresh Small) ask refl k (ap (λ (x : Held). x.state.remembered) (some_eq (sym a_fresh_small_holds ∙ e)) ∙ f);
  ask_has_room = omega arith;
  between = again_and_the_link_goes_down;
  between_is_bytes = unfold again_and_the_link_goes_down in (refl, (refl, tt));
  between_leaves_it = unfold again_and_the_link_goes_down in ((λ told new. absurd (new _ the_ask_is_held _ refl refl)), (tt, tt));
  fetch = fetch_0;
  fetch_buffer = room 48;
  fetch_passes = record { its_bytes = refl; no_drop = refl; its_number = refl; its_class = refl; its_instance = refl };
  fetch_is_no_repeat = λ h e k f. another_id held_after_the_link_change.state fetch_0 refl k
      (ap (λ (x : Held). x.state.remembered) (some_eq (sym the_link_change_is_held ∙ e)) ∙ f);
  fetch_has_room = omega arith;
}

-- The UNI's section with an FF behind its last value, at byte 20, has no section of any table.
pub a_section_has_no_stray_byte : (t : Table) (p : Section)
    → HasTheSection Small t p (framed (bytes 2 3) 0x2E (bytes 2 2 ++ bytes 2 0) (bytes 2 11 ++ bytes 2 0x0101 ++ 0xFC ∷ 0 ∷ replicate 6 0 ++ 0xFF ∷ [])) → ⊥
unfolding computing_worthless bytes_before mask_names
a_section_has_no_stray_byte t p x = let z : ◌≡◌ {A = ℕ} 0xFF 0 = x.the_rest_is_zero 20 (omega arith) (omega arith) in absurd (omega arith)
