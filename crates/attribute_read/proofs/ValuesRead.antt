-- What is read at an instance's spot in a block is what the rules read in the table that the block holds.
use Prim.Native.Nat.{ℕ, ◌+◌, ◌-◌, ◌<◌}
use native.Mathlib.Omega.{arith}
use mathlib.Core.Path.{◌≡◌, subst, refl, sym, ◌∙◌, ap}
use mathlib.Core.Bool.{true}
use mathlib.Core.Option.{some}
use mathlib.Core.Logic.{◌≢◌}
use mathlib.Core.List.{List, [], ◌∷◌}
use lib.ListN.{length, drop}
use Rattle.rules.specs.Maps.{keys, among, all}
use Rattle.rules.specs.Bytes.{byte, bytes}
use Rattle.rules.specs.Catalogue.{Source, stored, of_creator, count_of, Creation, created, automatic, comes_with, Catalogue, class, known, attribute, supported, size_of}
use Rattle.rules.specs.Catalogue.{stored_numbers, is_created, lead, leader, key, ont_data}
use Rattle.rules.specs.State.{Table, how_many_name, read_from, read}
use Rattle.rules.specs.Legal.{automatic_keys}
use Rattle.rules.specs.Walks.{frozen}
use Rattle.rules.specs.Commands.{values}
use Rattle.rules.specs.WellFormed.{WellFormed, is_companion, leader_is_created}
use Rattle.rules.proofs.Laws.{never, both}
use Rattle.rules.proofs.Lookups.{created_known, supported_known, leads_itself}
use Rattle.rules.proofs.Standing.{standing}
use Rattle.store.specs.Layout.{fits, live_bytes, place_at, places_at, key_length}
use Rattle.store.specs.Positions.{inside, position}
use Rattle.legality.proofs.Tables.{LegalTable, LegalLive, open_table, frozen_legal}
use Rattle.class_tables.specs.Built.{cat_of, class_for}
use Rattle.class_tables.specs.Describes.{offset_of}
use Rattle.class_tables.proofs.EveryProduct.{well_formed_of, fits_of}
use Rattle.class_tables.proofs.Offsets.{is_among_stored}
use Rattle.table.specs.Places.{how_many_hold}
use Rattle.table.specs.Spots.{spot_among, spot}
use Rattle.table.proofs.TableLaid.{at_some}
use Rattle.table.proofs.TableRead.{fronted}
use Rattle.table.proofs.ContentsRead.{StoredRead, stored_read, live_read}
use Rattle.legality.proofs.Frozen.{created_not_2, led}
use Rattle.table.proofs.PlaceKeys.{front, one_byte, is_fronted, count_read, naming_read}
use Rattle.table.specs.Live.{Holding}
use Rattle.attribute_read.specs.Values as shows
use Rattle.attribute_read.specs.Values.{origin, item_of, shown_from, content_at, values_at}
use Rattle.attribute_read.proofs.Sources.{FromCreator, from_creator, Counts, counts}
use Rattle.class_tables.specs.declared.Product.{Product}

-- ---- leaders

module _ (cat : Catalogue) (wf : WellFormed cat) where
  companion_led : (c : ℕ) → known cat c ≡ true → is_companion (class cat c).creation ≡ true → is_created (class cat (leader cat c)).creation ≡ true
  companion_led c kn h = go (class cat c).creation h (led cat wf c kn)
    where
      go : (m : Creation) → is_companion m ≡ true → leader_is_created cat m ≡ true → is_created (class cat (lead c m)).creation ≡ true
      go created x y = never x
      go (automatic a) x y = never x
      go (comes_with d) x y = y

  -- where the contents of the leading instance begin
  leader_spot : (t : Table) (c i o : ℕ) → is_created (class cat (leader cat c)).creation ≡ true → spot cat t c i ≡ some o
      → spot cat t (leader cat c) i ≡ some (o - inside cat c + inside cat (leader cat c))
  unfolding spot_among
  leader_spot t c i o cr sp =
      let d : ℕ = leader cat c in
      let leads : leader cat d ≡ d = leads_itself d (class cat d).creation cr in
      at_some (λ j. place_at j + key_length + inside cat c) (position (key d i) (keys t.created)) o (rw cr at sp) (λ j p e.
      rw (leads, cr, p) (ap some (omega arith)))

-- ---- what is read

module _ (cat : Catalogue) (wf : WellFormed cat) (b : List ℕ) (t : Table) (i : ℕ) where
  -- what has to be known of the bytes
  pub record Shows (c o : ℕ) : Type 0 where
    pub own : StoredRead cat b t i c o
    pub theirs : (d p : ℕ) → is_created (class cat d).creation ≡ true → spot cat t d i ≡ some p → StoredRead cat b t i d p
    pub counted : (d a : ℕ) → among a (stored_numbers (class cat d)) ≡ true → size_of (class cat d) a ≡ 2
        → how_many_hold d (shows.in_entry cat d a) i (byte b 1) (drop places_at b) ≡ how_many_name d a i t.created

  module _ (c o : ℕ) (h : Shows c o) (sp : spot cat t c i ≡ some o) where
    content_read : (n : ℕ) → supported (class cat c) n ≡ true → content_at cat b c i o n ≡ read cat t c i n
    unfolding content_at item_of origin shown_from read read_from
    content_read n s = go (attribute (class cat c) n).source refl
      where
        go : (w : Source) → (attribute (class cat c) n).source ≡ w → shown_from b i (size_of (class cat c) n) (origin cat c o n w) ≡ read_from cat t c i n (size_of (class cat c) n) w
        go (stored f) e = h.own n (is_among_stored (class cat c) n s (rw e refl))
        go (of_creator a) e =
            let f : FromCreator cat c n a = from_creator cat wf c n s a e in
            let d : ℕ = leader cat c in
            let cr : is_created (class cat d).creation ≡ true = companion_led cat wf c (supported_known cat c n s) f.comes_along in
            let p : ℕ = o - inside cat c + inside cat d in
            let sum : o - inside cat c + (inside cat d + offset_of (class cat d) a) ≡ p + offset_of (class cat d) a = omega arith in
            rw (sum, ← f.alike) (h.theirs d p cr (leader_spot cat wf t c i o cr sp) a f.among_kept)
        go (count_of d a) e =
            let f : Counts cat c n d a = counts cat wf c n s d a e in
            ap (bytes (size_of (class cat c) n)) (h.counted d a f.among_kept f.two_bytes)

    pub values_read : (m : List ℕ) → all (λ n. supported (class cat c) n) m ≡ true → values_at cat b c i o m ≡ values cat t c i m
    unfolding values_at values all
    values_read [] s = refl
    values_read (n ∷ m) s = rw (content_read n (both s).0, values_read m (both s).1)

-- ---- a table without class 2, with any byte in front

module _ (cat : Catalogue) (wf : WellFormed cat) (ft : fits cat ≡ true) (u : Table) (h : LegalTable cat wf (automatic_keys cat) u) (x : List ℕ) (lx : length x ≡ 1)
    (i : ℕ) (lt : i < 65536) where
  counted_read : (d a : ℕ) → among a (stored_numbers (class cat d)) ≡ true → size_of (class cat d) a ≡ 2
      → how_many_hold d (shows.in_entry cat d a) i (byte (fronted x u) 1) (drop places_at (fronted x u)) ≡ how_many_name d a i u.created
  counted_read d a inn two =
      ap (λ (k : ℕ). how_many_hold d (shows.in_entry cat d a) i k (drop places_at (fronted x u))) (count_read cat wf ft u h x lx)
      ∙ naming_read cat wf ft u h x lx d a i inn two

  frozen_shows : (c o : ℕ) → c ≢ ont_data → spot cat u c i ≡ some o → Shows cat wf (fronted x u) u i c o
  frozen_shows c o other sp = record {
    own = stored_read cat wf ft u h x lx i lt c o other sp;
    theirs = λ d p cr sq. stored_read cat wf ft u h x lx i lt d p (created_not_2 cat wf d cr) sq;
    counted = counted_read;
  }

pub values_frozen : (pr : Product) (u : Table) → LegalTable (cat_of pr) (well_formed_of pr) (automatic_keys (cat_of pr)) u → (x : List ℕ) → length x ≡ 1
    → (c i o : ℕ) → i < 65536 → c ≢ ont_data → spot (cat_of pr) u c i ≡ some o → (m : List ℕ) → all (λ n. supported (class_for pr c) n) m ≡ true
    → values_at (cat_of pr) (fronted x u) c i o m ≡ values (cat_of pr) u c i m
values_frozen pr u h x lx c i o lt other sp m s =
    values_read (cat_of pr) (well_formed_of pr) (fronted x u) u i c o (frozen_shows (cat_of pr) (well_formed_of pr) (fits_of pr) u h x lx i lt c o other sp) sp m s

-- ---- the live table

module _ (pr : Product) (t : Table) (h : LegalLive (cat_of pr) (well_formed_of pr) t) (i : ℕ) (lt : i < 65536) where
  abbrev cat : Catalogue
  cat = cat_of pr

  abbrev wf : WellFormed cat
  wf = well_formed_of pr

  live_shows : (c o : ℕ) → known cat c ≡ true → spot cat t c i ≡ some o → Shows cat wf (live_bytes t) t i c o
  unfolding frozen
  live_shows c o kn sp = record {
    own = live_read pr t h i lt c o kn sp;
    theirs = λ d p cr sq. live_read pr t h i lt d p (created_known cat d cr) sq;
    counted = rw (is_fronted t) (counted_read cat wf (fits_of pr) (frozen t) (frozen_legal cat wf t h) (front t) (one_byte t) i lt);
  }

pub values_live : (pr : Product) (b : List ℕ) (t : Table) → Holding (cat_of pr) b t → (c i o : ℕ) → i < 65536 → spot (cat_of pr) t c i ≡ some o
    → (m : List ℕ) → all (λ n. supported (class_for pr c) n) m ≡ true → values_at (cat_of pr) b c i o m ≡ values (cat_of pr) t c i m
unfolding values_at values all
values_live pr b t q c i o lt sp [] s = refl
values_live pr b t q c i o lt sp (n ∷ m) s =
    let kn : known (cat_of pr) c ≡ true = supported_known (cat_of pr) c n (both s).0 in
    let h : LegalLive (cat_of pr) (well_formed_of pr) t = open_table (cat_of pr) (well_formed_of pr) (standing (cat_of pr) (well_formed_of pr)) t q.legal in
    subst (λ (x : List ℕ). values_at (cat_of pr) x c i o (n ∷ m) ≡ values (cat_of pr) t c i (n ∷ m)) (sym q.is)
    (values_read (cat_of pr) (well_formed_of pr) (live_bytes t) t i c o (live_shows pr t h i lt c o kn sp) sp (n ∷ m) s)
