-- The contents of a new instance: first contents laid over what the Create carried for it.
use Prim.Native.Nat.{ℕ}
use native.Mathlib.Omega.{arith}
use mathlib.Core.Path.{◌≡◌, sym, ◌∙◌, ap}
use mathlib.Core.Bool.{true, false}
use mathlib.Core.List.{List, ◌++◌}
use lib.ListN.{length, take, drop}
use Rattle.rules.specs.Catalogue.{attribute, leader, size_of, Class, stored_numbers}
use Rattle.rules.specs.Commands.{new_contents, first_content}
use Rattle.rules.specs.Maps.{among, keys}
use Rattle.rules.specs.State.{Contents, content, overwrite}
use Rattle.rules.proofs.Laws.{cases, true_false, has_among}
use Rattle.rules.proofs.MapLaws.{rising_up}
use Rattle.legality.proofs.Contents.{same_contents, content_kept, content_put}
use Rattle.legality.proofs.NewContents.{keys_of_new, start, content_of_new}
use Rattle.store.specs.Layout.{place_width, contents_bytes}
use Rattle.class_tables.specs.Built.{class_for, cat_of}
use Rattle.class_tables.specs.Describes.{offset_of}
use Rattle.class_tables.specs.declared.Product.{Product}
use Rattle.class_tables.proofs.ClassLaws.{stored_there}
use Rattle.class_tables.proofs.Facts.{contents_fit}
use Rattle.attribute_write.specs.Lays.{firsts, leading_class, laid_values}
use Rattle.attribute_write.proofs.Firsts.{firsts_are_sized, first_of, copied_is_carried, find_firsts, keys_firsts}
use Rattle.attribute_write.proofs.Overwritten.{Sized, Whole, whole_overwritten, laid_over_whole}
use Rattle.create_command.specs.New.{other_numbers}
use Rattle.create_command.proofs.Others.{may_lay, other_is, copies_carried, others_rise, is_other, stored_rise}

-- in these bytes, with which the contents of an instance of class c begin, stands what its Create carried
abbrev pub ShowsCarried : Product → ℕ → Contents → List ℕ → Type 0
ShowsCarried pr c carried own =
    (n : ℕ) → (attribute (class_for pr c) n).C ≡ true → take (size_of (class_for pr c) n) (drop (offset_of (class_for pr c) n) own) ≡ content n carried

module _ (pr : Product) (c : ℕ) (carried : Contents) (own : List ℕ) (lo : length own ≡ place_width) (shows : ShowsCarried pr (leader (cat_of pr) c) carried own) where
  abbrev k : Class
  k = class_for pr c

  abbrev lead : Class
  lead = leading_class pr c

  abbrev new : Contents
  new = new_contents carried k

  -- the first contents of what no Create carries
  abbrev others : Contents
  others = firsts k lead own (other_numbers k)

  others_sized : Sized k others
  others_sized =
      let room = contents_fit pr c in
      firsts_are_sized pr c 0 (other_numbers k) own own (may_lay pr c 0 own own lo (omega arith)) (λ n a. (other_is pr c n a).1)

  first_is : (n : ℕ) → among n (other_numbers k) ≡ true → first_of k lead own n ≡ first_content carried (attribute k n).source
  first_is n a = copied_is_carried lead own carried (size_of k n) (attribute k n).source
      (λ m e. let p = copies_carried pr c n m a e in rw (← p.1) (shows m p.0))

  module _ (r : Contents) (w : Whole k r) (there : (n : ℕ) → (attribute k n).C ≡ true → content n r ≡ content n carried) where
    -- what was carried is in r already, and each of the others becomes its first content
    content_is : (n : ℕ) → among n (stored_numbers k) ≡ true → content n (overwrite others r) ≡ content n new
    content_is n a =
        let s = stored_there pr c n a in
        let f = find_firsts k lead own n (other_numbers k) in
        let is_new : content n new ≡ start carried n (attribute k n) = content_of_new k carried n s.0 s.1 in
        cases (attribute k n).C
        (λ e.
        let apart : among n (other_numbers k) ≡ false = cases (among n (other_numbers k)) (λ o. true_false e (other_is pr c n o).1) (λ o. o) in
        content_kept others r n (rw apart at f) ∙ there n e ∙ sym (rw e at is_new))
        (λ e.
        let o : among n (other_numbers k) ≡ true = is_other pr c n a e in
        content_put others r n (first_of k lead own n) (rw o at f) (has_among n r ∙ rw w.its_keys a) ∙ first_is n o ∙ sym (rw e at is_new))

    overwritten_is_new : overwrite others r ≡ new
    overwritten_is_new =
        let ks : keys (overwrite others r) ≡ stored_numbers k = (whole_overwritten k r w others others_sized).its_keys in
        same_contents 0 (overwrite others r) new (rw ks (rising_up (stored_numbers k) (stored_rise pr c)))
        (ks ∙ sym (keys_of_new k carried)) (λ n a. content_is n (rw ks at a))

    pub new_is_whole : Whole k new
    new_is_whole = rw overwritten_is_new at (whole_overwritten k r w others others_sized)

    -- so laying the others makes the bytes of the new contents; other bytes behind them stay
    pub new_is_laid : (rest : List ℕ) → laid_values k 0 others (contents_bytes r ++ rest) ≡ contents_bytes new ++ rest
    new_is_laid rest =
        laid_over_whole k r w others others_sized (stored_rise pr c) (rw (keys_firsts k lead own (other_numbers k)) (others_rise pr c)) rest
        ∙ ap (λ (m : Contents). contents_bytes m ++ rest) overwritten_is_new
