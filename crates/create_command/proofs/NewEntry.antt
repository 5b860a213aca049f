-- A new entry as the code lays it: the contents of the new instance, then those of the one that comes with it, then zeros.
use Prim.Native.Nat.{ℕ, suc, ◌+◌, ◌≤◌}
use native.Mathlib.Nat.{zero-add, add-zero}
use native.Mathlib.Omega.{arith}
use mathlib.Core.Path.{◌≡◌, sym, ◌∙◌, ap, refl}
use mathlib.Core.Bool.{true}
use mathlib.Core.List.{List, [], ◌∷◌, ◌++◌, map, append-nil, append_assoc}
use lib.ListN.{length, take, drop, replicate, length-drop, length-replicate, length-append}
use lib.Seq.{drop-drop, length-take-le}
use Rattle.std.specs.Prelude.{Option, Some, None}
use Rattle.rules.specs.Bytes.{laid, fill, bytes}
use Rattle.rules.specs.Catalogue.{is_created, Catalogue, Class, leader, attribute, carried_numbers, size_of, stored_numbers, family, is_fixed, key}
use Rattle.rules.specs.Commands.{carried_by, new_entry, cut, new_contents}
use Rattle.rules.specs.Maps.{keys, find, each, gather, Map, among}
use Rattle.rules.specs.Masks.{total}
use Rattle.rules.specs.State.{Contents, content, overwrite, class_of, number_of}
use Rattle.rules.proofs.ByteLaws.{keys_cut}
use Rattle.rules.proofs.Families.{numbered}
use Rattle.rules.proofs.Laws.{true_false, both, eqb_true, eqb_false, among_here}
use Rattle.rules.proofs.MapLaws.{Up, up_weaken, rising_up}
use Rattle.rules.proofs.Lookups.{leads_itself}
use Rattle.octets.proofs.Laid.{filled}
use Rattle.octets.proofs.Parted.{part_behind, part_filled, part}
use Rattle.legality.proofs.Carried.{C_in_carried, carried_is_C}
use Rattle.legality.proofs.Contents.{content_over}
use Rattle.legality.proofs.NewContents.{C_is_created, content_of_new}
use Rattle.store.specs.Layout.{place_width, entry_bytes, contents_bytes, contents_width, place, key_length}
use Rattle.store.specs.Positions.{inside}
use Rattle.store.proofs.ContentsBack.{bytes_of_cut}
use Rattle.class_tables.specs.Built.{class_for, cat_of}
use Rattle.class_tables.specs.Describes.{offset_of}
use Rattle.class_tables.specs.Families.{Companion}
use Rattle.class_tables.specs.declared.Product.{Product}
use Rattle.class_tables.proofs.ClassLaws.{inside_fits, leader_in_front, companion_follows, companion_not_created, companion_led, family_led, stored_there, attributes_rising}
use Rattle.class_tables.proofs.EveryProduct.{well_formed_of}
use Rattle.class_tables.proofs.Facts.{contents_fit, carried_fit, carried_stored, all_carried}
use Rattle.class_tables.proofs.Offsets.{offset_fits}
use Rattle.attribute_check.specs.Judges.{bytes_at}
use Rattle.attribute_write.specs.Lays.{laid_values, firsts, leading_class}
use Rattle.attribute_write.proofs.Overwritten.{Sized, cut_is_sized, length_laid_values, values_behind}
use Rattle.attribute_write.proofs.Overwritten.{Whole, cut_is_whole, begins_with_its_cut, whole_length, whole_overwritten, shown_in_whole, laid_over_whole}
use Rattle.create_command.specs.New.{with_companion, with_carried, with_others, other_numbers}
use Rattle.create_command.proofs.NewContents.{ShowsCarried, new_is_whole, new_is_laid}
use Rattle.create_command.proofs.Others.{C_stored, stored_rise, carried_rise, other_is}

-- as the code lays it, and as it is to be
abbrev pub made : Product → ℕ → Option ℕ → List ℕ → List ℕ
made pr c d v = with_companion pr d (with_carried pr c v) (with_others pr c (with_carried pr c v) (with_carried pr c v))

abbrev pub expected : Product → ℕ → List ℕ → List ℕ
expected pr c v = fill place_width (entry_bytes (new_entry (cat_of pr) c (carried_by (class_for pr c) v)))

-- bytes with zeros behind them
zeros_behind : (n : ℕ) (x : List ℕ) → length x ≤ n → x ++ drop (length x) (replicate n 0) ≡ fill n x
unfolding laid
zeros_behind n x h = filled n x h (ap (λ (m : ℕ). x ++ drop m (replicate n 0)) (sym (zero-add (length x))))

-- ---- new contents over old ones with the same numbers

overwrite_past : (n : ℕ) (w : List ℕ) (m r : Contents) → Up (suc n) (keys r) → overwrite ((n, w) ∷ m) r ≡ overwrite m r
unfolding overwrite find each keys
overwrite_past n w m [] u = refl
overwrite_past n w m (e ∷ r) u =
    let z = u.0 in
    rw (eqb_false e.0 n (λ q. omega arith), overwrite_past n w m r (up_weaken (suc n) (suc e.0) (keys r) (omega arith) u.1))

overwrite_cut : (size : ℕ → ℕ) (b : ℕ) (l v x : List ℕ) → Up b l → overwrite (cut size l v) (cut size l x) ≡ cut size l v
unfolding overwrite find each cut
overwrite_cut size b [] v x u = refl
overwrite_cut size b (n ∷ l) v x u =
    let m : Contents = cut size l (drop (size n) v) in
    let r : Contents = cut size l (drop (size n) x) in
    let past : overwrite ((n, take (size n) v) ∷ m) r ≡ overwrite m r = overwrite_past n (take (size n) v) m r (rw (keys_cut size l (drop (size n) x)) u.1) in
    rw (eqb_true n n refl)
    (ap (λ (y : Contents). (n, take (size n) v) ∷ y) (past ∙ overwrite_cut size (suc n) l (drop (size n) v) (drop (size n) x) u.1))

module _ (pr : Product) (c : ℕ) (cr : is_created (class_for pr c).creation ≡ true) (v : List ℕ) (long : length v ≡ 32) where
  abbrev cat : Catalogue
  cat = cat_of pr

  abbrev k : Class
  k = class_for pr c

  abbrev carried : Contents
  carried = carried_by k v

  abbrev new : Contents
  new = new_contents carried k

  itself : leader cat c ≡ c
  itself = leads_itself c k.creation cr

  -- ---- what the Create carried

  carried_sized : Sized k carried
  unfolding carried_by
  carried_sized = let fit = carried_fit pr c in cut_is_sized k (carried_numbers k) v (carried_stored pr c) (omega arith)

  carried_keys : keys carried ≡ carried_numbers k
  unfolding carried_by
  carried_keys = keys_cut (size_of k) (carried_numbers k) v

  -- laid over the front of any bytes, which become `own`: the contents held there are what was carried, over what was there
  module _ (b : List ℕ) (lb : length b ≡ place_width) where
    abbrev rest : List ℕ
    rest = drop (contents_width k) b

    abbrev under : Contents
    under = cut (size_of k) (stored_numbers k) b

    abbrev held : Contents
    held = overwrite carried under

    under_whole : Whole k under
    under_whole = let fit = contents_fit pr c in cut_is_whole k b (omega arith)

    held_whole : Whole k held
    held_whole = whole_overwritten k under under_whole carried carried_sized

    holds_carried : (n : ℕ) → (attribute k n).C ≡ true → content n held ≡ content n carried
    holds_carried n e = content_over carried under n (rw carried_keys (C_in_carried cat (well_formed_of pr) k n e)) (rw under_whole.its_keys (C_stored pr c n e))

    abbrev own : List ℕ
    own = laid_values k 0 carried b

    own_is : own ≡ contents_bytes held ++ rest
    own_is =
        ap (laid_values k 0 carried) (begins_with_its_cut k b)
        ∙ laid_over_whole k under under_whole carried carried_sized (stored_rise pr c) (rw carried_keys (carried_rise pr c)) rest

    own_length : length own ≡ place_width
    own_length = let fit = contents_fit pr c in length_laid_values k 0 carried b carried_sized (omega arith) ∙ lb

    shows : ShowsCarried pr c carried own
    shows n e = rw own_is (shown_in_whole k held held_whole rest n (C_stored pr c n e) ∙ holds_carried n e)

    led_shows : (d : ℕ) → leader cat d ≡ c → ShowsCarried pr (leader cat d) carried own
    led_shows d led = rw led shows

    -- ---- the contents of the new instance

    new_whole : Whole k new
    new_whole = new_is_whole pr c carried own own_length (led_shows c itself) held held_whole holds_carried

    new_laid : with_others pr c own own ≡ contents_bytes new ++ rest
    unfolding with_others
    new_laid =
        rw (leader_in_front pr c cr)
        (ap (laid_values k 0 (firsts k (leading_class pr c) own (other_numbers k))) own_is ∙ new_is_laid pr c carried own own_length (led_shows c itself) held held_whole holds_carried rest)

    -- ---- and of the one that comes with it

    module _ (d : ℕ) (q : Companion pr c (Some d)) where
      abbrev k' : Class
      k' = class_for pr d

      abbrev new' : Contents
      new' = new_contents carried k'

      abbrev under' : Contents
      under' = cut (size_of k') (stored_numbers k') rest

      under_whole' : Whole k' under'
      under_whole' =
          let fit = inside_fits pr d in
          let at = companion_follows pr c cr d q in
          cut_is_whole k' rest (simp length-drop (omega arith))

      none_carried : (n : ℕ) → (attribute k' n).C ≡ true → content n under' ≡ content n carried
      none_carried n e = true_false (C_is_created cat (well_formed_of pr) d n e) (companion_not_created pr c cr d q)

      companion_whole : Whole k' new'
      companion_whole = new_is_whole pr d carried own own_length (led_shows d (companion_led pr c cr d q)) under' under_whole' none_carried

      companion_laid : with_others pr d own (contents_bytes new ++ rest) ≡ contents_bytes new ++ (contents_bytes new' ++ drop (contents_width k') rest)
      unfolding with_others
      companion_laid =
          let at : inside cat d ≡ length (contents_bytes new) + 0 = companion_follows pr c cr d q ∙ sym (whole_length k new new_whole) ∙ sym (add-zero (length (contents_bytes new))) in
          let others = firsts k' (leading_class pr d) own (other_numbers k') in
          rw (at, ← values_behind k' 0 others (contents_bytes new) rest)
          (ap (λ (x : List ℕ). contents_bytes new ++ x) (ap (laid_values k' 0 others) (begins_with_its_cut k' rest)
          ∙ new_is_laid pr d carried own own_length (led_shows d (companion_led pr c cr d q)) under' under_whole' none_carried (drop (contents_width k') rest)))

  -- ---- the entry: one after the other

  -- the contents of classes of these numbers
  abbrev of_classes : List ℕ → List ℕ
  of_classes l = entry_bytes (each (λ d j. new_contents carried j) (map (numbered cat) l))

  entry_is : entry_bytes (new_entry cat c carried) ≡ contents_bytes new ++ of_classes (drop 1 (keys (family cat c)))
  unfolding new_entry each entry_bytes gather
  entry_is = ap (λ (m : Map Class). entry_bytes (each (λ d j. new_contents carried j) m)) (family_led pr c cr)

  abbrev blank : List ℕ
  blank = replicate place_width 0

  blank_length : length blank ≡ place_width
  blank_length = length-replicate {A = ℕ} place_width 0

  -- nothing else is stored
  no_others : other_numbers k ≡ []
  no_others = none (other_numbers k) refl
    where
      none : (l : List ℕ) → other_numbers k ≡ l → l ≡ []
      none [] e = refl
      none (n ∷ l) e =
          let o = other_is pr c n (rw e (among_here n l)) in
          true_false (carried_is_C k (attributes_rising pr c) n (rw (all_carried pr c cr) o.0)) o.1

  pub nothing_beside : (from b : List ℕ) → with_others pr c from b ≡ b
  unfolding with_others laid_values firsts
  nothing_beside from b = rw no_others refl

  -- the carried bytes stand as they come: they are all that is stored
  pub carried_stands : with_carried pr c v ≡ laid 0 (take (total (size_of k) (carried_numbers k)) v) blank
  unfolding with_carried carried_by laid contents_width
  carried_stands =
      let l : List ℕ = stored_numbers k in
      let all : carried_numbers k ≡ l = all_carried pr c cr in
      let fit = carried_fit pr c in
      let held_is : overwrite (cut (size_of k) (carried_numbers k) v) (cut (size_of k) l blank) ≡ cut (size_of k) (carried_numbers k) v =
      rw all (overwrite_cut (size_of k) 0 l v blank (rising_up l (stored_rise pr c))) in
      let bytes : List ℕ = take (total (size_of k) (carried_numbers k)) v in
      let len : 0 + length bytes ≡ total (size_of k) l =
      zero-add (length bytes) ∙ length-take-le (total (size_of k) (carried_numbers k)) v (omega arith) ∙ ap (total (size_of k)) all in
      own_is blank blank_length
      ∙ ap (λ (m : Contents). contents_bytes m ++ drop (contents_width k) blank) held_is
      ∙ (λ i. bytes_of_cut (size_of k) (carried_numbers k) v i ++ drop (sym len i) blank)

  pub carried_fills : length (with_carried pr c v) ≡ place_width
  unfolding with_carried
  carried_fills = own_length blank blank_length

  pub is_made : (d : Option ℕ) → Companion pr c d → made pr c d v ≡ expected pr c v
  unfolding with_carried each entry_bytes gather
  is_made None q =
      let x : List ℕ = contents_bytes new in
      let fit = contents_fit pr c in
      let lx : length x ≡ contents_width k = whole_length k new (new_whole blank blank_length) in
      let entry : entry_bytes (new_entry cat c carried) ≡ x = entry_is ∙ ap (λ (l : List ℕ). x ++ of_classes l) (sym q) ∙ append-nil x in
      new_laid blank blank_length ∙ ap (λ (n : ℕ). x ++ drop n blank) (sym lx) ∙ zeros_behind place_width x (omega arith) ∙ ap (fill place_width) (sym entry)
  is_made (Some d) q =
      let x : List ℕ = contents_bytes new in
      let y : List ℕ = contents_bytes (new_contents carried (class_for pr d)) in
      let n : ℕ = contents_width k in
      let m : ℕ = contents_width (class_for pr d) in
      let fit = inside_fits pr d in
      let at = companion_follows pr c cr d q in
      let lx : length x ≡ n = whole_length k new (new_whole blank blank_length) in
      let ly : length y ≡ m = whole_length (class_for pr d) (new_contents carried (class_for pr d)) (companion_whole blank blank_length d q) in
      let lxy : n + m ≡ length (x ++ y) = rw (length-append x y, lx, ly) refl in
      let entry : entry_bytes (new_entry cat c carried) ≡ x ++ y =
      entry_is ∙ ap (λ (l : List ℕ). x ++ of_classes l) (sym q) ∙ ap (λ (z : List ℕ). x ++ z) (append-nil y) in
      ap (with_others pr d (own blank blank_length)) (new_laid blank blank_length)
      ∙ companion_laid blank blank_length d q
      ∙ sym (append_assoc x y (drop m (drop n blank)))
      ∙ ap (λ (z : List ℕ). (x ++ y) ++ z) (drop-drop m n blank)
      ∙ ap (λ (i : ℕ). (x ++ y) ++ drop i blank) lxy
      ∙ zeros_behind place_width (x ++ y) (omega arith)
      ∙ ap (fill place_width) (sym entry)

  -- ---- in a new place, what rules may look at is what the Create carried

  pub fixed_shown : (i n : ℕ) → is_fixed (attribute k n) ≡ true → bytes_at k (place (key c i, new_entry cat c carried)) key_length n ≡ content n carried
  unfolding place bytes
  fixed_shown i n fx =
      let e : (attribute k n).C ≡ true = (both fx).0 in
      let a : among n (stored_numbers k) ≡ true = C_stored pr c n e in
      let there = stored_there pr c n a in
      let within = offset_fits k n a in
      let fit = contents_fit pr c in
      let more : List ℕ = of_classes (drop 1 (keys (family cat c))) in
      part_behind (bytes 2 (class_of (key c i)) ++ bytes 2 (number_of (key c i))) (fill place_width (entry_bytes (new_entry cat c carried))) (offset_of k n) (size_of k n)
      ∙ part_filled place_width (entry_bytes (new_entry cat c carried)) (offset_of k n) (size_of k n) (omega arith)
      ∙ ap (λ (l : List ℕ). part (offset_of k n) (size_of k n) (l ++ blank)) entry_is
      ∙ ap (part (offset_of k n) (size_of k n)) (append_assoc (contents_bytes new) more blank)
      ∙ shown_in_whole k new (new_whole blank blank_length) (more ++ blank) n a
      ∙ content_of_new k carried n there.0 there.1
      ∙ rw e refl
