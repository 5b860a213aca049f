-- A made-up catalogue whose class 2 has a label beside the sync counter. It is well formed; a store has no bytes for it (`store/Layout.fits`).
use mathlib.Core.Path.{refl}
use mathlib.Core.List.{[], ◌∷◌}
use Rattle.rules.specs.Catalogue.{automatic, Class, Catalogue}
use Rattle.rules.specs.Messages.{set_number, get_number, reset_number}
use Rattle.rules.specs.Products.{any, RW}
use Rattle.rules.specs.WellFormed.{WellFormed}
use Rattle.rules.proofs.Laws.{◌&◌}
use Rattle.products.proofs.Uploads.{short_uploads}
use Rattle.products.proofs.AlarmWalks.{short_walks}
use Rattle.products.proofs.Plain.{free, AllPlain, L_alone, firsts_legal}
use Rattle.products.proofs.WellFormed.{testing}

unfoldable pub labelled_class : Class
labelled_class = record {
  commands = set_number ∷ get_number ∷ reset_number ∷ [];
  creation = automatic (0 ∷ []);
  alarms = [];
  -- sync counter, label
  attributes = (1, RW 1 any) ∷ (2, RW 1 any) ∷ [];
  unkept = [];
}

unfoldable pub Labelled : Catalogue
Labelled = record { places = 0; classes = (2, labelled_class) ∷ [] }

labelled_plain : AllPlain Labelled
unfolding testing labelled_class Labelled
labelled_plain = (free (λ v others. refl) & free (λ v others. refl) & tt) & tt

pub labelled_is_well_formed : WellFormed Labelled
unfolding testing labelled_class Labelled
labelled_is_well_formed = record {
  numbers = refl;
  sizes = refl;
  rights_if_stored = refl;
  not_W_and_L = refl;
  created_not_automatic = refl;
  create_fits = refl;
  class_2_has_instance_0_alone = refl;
  class_2_has_the_counter = record { one_byte = refl; is_W = refl; not_C = refl; not_L = refl; starts_at_0 = refl; any_content = λ v others. refl };
  class_2_has_reset = refl;
  reset_is_class_2_s = refl;
  first_contents_are_legal = firsts_legal Labelled labelled_plain refl;
  L_looks_at_its_own_alone = L_alone Labelled labelled_plain;
  unstored_is_readable = refl;
  companions_of_created = refl;
  uploads_are_short = short_uploads Labelled refl;
  alarm_walks_are_short = short_walks Labelled 0 0 refl refl;
  classes_rise = refl;
  class_numbers = refl;
  attributes_in_order = refl;
  automatic_in_order = refl;
  alarms_fit = refl;
  unkept_bits = refl;
  C_if_created = refl;
  create_if_created = refl;
  delete_goes_with_create = refl;
}
