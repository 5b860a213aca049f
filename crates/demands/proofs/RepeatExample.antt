-- A repeat in last year's setting, on the bytes of a fresh Small, by computation: the first section of an upload is fetched, and its reply is lost;
-- the link goes down, an alarm's report finds a buffer that is too short, an upload is lent a byte of the store too few, an empty message is dropped; the
-- section is fetched again.
use native.Mathlib.Omega.{arith}
use mathlib.Core.Path.{refl}
use mathlib.Core.Bool.{true}
use mathlib.Core.List.{[], ◌∷◌, ◌++◌}
use lib.ListN.{replicate}
use Rattle.rules.specs.Run.{message, attribute_report, alarm_report}
use Rattle.rules.specs.Products.{built_products}
use Rattle.store.proofs.EntryExamples.{small_store, room, on, computing_entries}
use Rattle.demands.specs.Lending.{lend, memory_after}
use Rattle.demands.proofs.RepeatsAfterReports.{RepeatAfterReports}
use Rattle.demands.proofs.AccidentExample.{trailer_of_8, ask, fetch_0}

-- such a run there is
pub the_section_is_fetched_again : RepeatAfterReports built_products (on (message ask) small_store (room 48)).store
unfolding computing_entries lend memory_after trailer_of_8 ask fetch_0
the_section_is_fetched_again = record {
  command = fetch_0;
  command_buffer = room 48;
  reply = 0 ∷ 3 ∷ 0x2E ∷ 0x0A ∷ 0 ∷ 2 ∷ 0 ∷ 0 ∷ 0x00 ∷ 0x0B ∷ 0x01 ∷ 0x01 ∷ 0xFC ∷ 0x00 ∷ replicate 26 0 ++ trailer_of_8;
  command_is_bytes = refl;
  command_is_answered = refl;
  between = record { store_room = 3344; reply_room = 48; call = attribute_report 11 0x0101 6 (1 ∷ []) }
      ∷ record { store_room = 3344; reply_room = 47; call = alarm_report 11 0x0101 0 true }
      ∷ record { store_room = 3343; reply_room = 48; call = message ask }
      ∷ record { store_room = 3344; reply_room = 48; call = message [] }
      ∷ [];
  between_is_bytes = (refl, (tt, (refl, (refl, tt))));
  between_are_reports_and_drops = (tt, (tt, (refl, (refl, tt))));
  again = fetch_0;
  again_buffer = room 60;
  again_has_the_same_40_bytes = refl;
  again_passes_its_drops = refl;
  again_has_room = omega arith;
}
