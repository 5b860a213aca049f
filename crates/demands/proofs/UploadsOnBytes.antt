-- Demand 2's last sentence, on the bytes of the two replies: an upload is asked for; whatever comes in between, a section is fetched. The count in the
-- first reply is that of the table as it stood, and the second reply has, byte by byte, what is read in that table.
use Prim.Native.Nat.{ℕ, ◌<◌}
use native.Mathlib.Omega.{arith}
use mathlib.Core.Path.{◌≡◌, sym, ◌∙◌, ap}
use mathlib.Core.Option.{some}
use mathlib.Core.List.{List}
use lib.ListN.{length}
use Rattle.rules.specs.Maps.{nth}
use Rattle.rules.specs.Bytes.{two, bytes}
use Rattle.rules.specs.Catalogue.{Catalogue}
use Rattle.rules.specs.State.{State}
use Rattle.rules.specs.Messages.{message_drops}
use Rattle.rules.specs.Walks.{Section, sections}
use Rattle.rules.specs.Reports.{answered}
use Rattle.rules.specs.Products.{Products}
use Rattle.rules.proofs.Laws.{not-false, eqb_eq}
use Rattle.rules.proofs.ByteLaws.{length_bytes}
use Rattle.store.specs.Fitting.{AllFit}
use Rattle.store.proofs.Soundness.{sound_is_an_encoding}
use Rattle.legality.proofs.Refusals.{none_applies}
use Rattle.legality.proofs.Outcomes.{sent}
use Rattle.demands.specs.Sent.{number_at}
use Rattle.demands.proofs.SentLaws.{two_in_a_reply}
use Rattle.demands.proofs.FrozenOnBytes.{UploadThenFetch, asked, fetched, table_as_it_stood, the_fetch_finds_the_table_as_it_stood, an_upload_on_bytes_shows_the_table_as_it_stood}
use Rattle.demands.proofs.Uploads.{the_answer_has_the_number_of_sections, the_count_is_the_number_of_sections}
use Rattle.demands.proofs.SectionsOnBytes.{HasTheSection, the_reply_to_an_upload_next_has_its_section}

module _ (products : Products) (fit : AllFit products) (store : List ℕ) (q : UploadThenFetch products store) (ru : List ℕ) (told : asked q ≡ answered ru) where
  -- The count, bytes 8 and 9 of the reply to the upload, is the number of sections of the table as it stood.
  pub the_count_is_of_the_table_as_it_stood : number_at ru 8 ≡ length (sections q.held_one.catalogue (table_as_it_stood q))
  unfolding message_drops
  the_count_is_of_the_table_as_it_stood =
      let cat : Catalogue = q.held_one.catalogue in
      let s : State = q.held_one.state in
      let n : ℕ = length (sections cat (table_as_it_stood q)) in
      let reply_is = ap sent (sym told ∙ (an_upload_on_bytes_shows_the_table_as_it_stood products fit store q).0) in
      let held = sound_is_an_encoding products store q.held_one q.holds_it in
      let long : length q.ask ≡ 48 = eqb_eq (length q.ask) 48 (not-false (none_applies (message_drops q.ask) q.ask_passes.no_drop).0) in
      ap (λ (x : List ℕ). two x 8) reply_is
      ∙ two_in_a_reply q.ask (bytes 2 n) 0 long (let z = length_bytes 2 n in omega arith) (omega arith)
      ∙ sym (ap (λ (v : List ℕ). two v 0) (the_answer_has_the_number_of_sections cat s).0)
      ∙ the_count_is_the_number_of_sections cat (fit.well_formed q.held_one.product cat held.0) s held.1

  -- Where the index that is fetched, bytes 8 and 9 of the Upload Next, is below that count, it is answered, and its reply has the section of that index of the
  -- table as it stood: class, instance, mask, and for each attribute that the mask names what is read in that table, from c6 on.
  pub a_section_on_bytes_shows_the_table_as_it_stood : number_at q.fetch 8 < number_at ru 8
      → (r : List ℕ) × (fetched q ≡ answered r)
      × ((p : Section) × (nth (sections q.held_one.catalogue (table_as_it_stood q)) (number_at q.fetch 8) ≡ some p)
      × HasTheSection q.held_one.catalogue (table_as_it_stood q) p r)
  a_section_on_bytes_shows_the_table_as_it_stood below =
      let reply_is = (an_upload_on_bytes_shows_the_table_as_it_stood products fit store q).1 in
      let later = the_fetch_finds_the_table_as_it_stood products fit store q in
      let count = the_count_is_of_the_table_as_it_stood in (
        _,
        reply_is,
        the_reply_to_an_upload_next_has_its_section products fit _ q.fetch q.fetch_buffer _
            (record { product = q.held_one.product; catalogue = q.held_one.catalogue; state = later.state }) (table_as_it_stood q)
            (record {
              anew = record {
                held = later.held;
                of_bytes = q.fetch_passes.its_bytes;
                its_number = q.fetch_passes.its_number;
                no_repeat = q.fetch_is_no_repeat _ later.held;
                told = reply_is;
              };
              to_class_2 = q.fetch_passes.its_class;
              to_instance_0 = q.fetch_passes.its_instance;
              frozen_is = later.frozen_copy;
              below = omega arith;
            }),
      )
