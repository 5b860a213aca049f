-- The contents of attributes, read out of the bytes of a table.
use Rattle.std.specs.Prelude.{ℕ, ◌+◌, ◌-◌, ◌≤◌, ◌≡◌, true, List, [], ◌∷◌, ◌++◌, length, take, drop}
use Rattle.std.proofs.Math.Option.{some}
use Rattle.rules.specs.Maps.{all}
use Rattle.rules.specs.Bytes.{byte, bytes}
use Rattle.rules.specs.Masks.{named, total}
use Rattle.rules.specs.Catalogue.{Source, stored, of_creator, count_of, Catalogue, class, attribute, supported, size_of, leader}
use Rattle.store.specs.Layout.{place_width, block_length, places_at}
use Rattle.store.specs.Positions.{inside}
use Rattle.class_tables.specs.Built.{cat_of, class_for}
use Rattle.class_tables.specs.Describes.{offset_of}
use Rattle.table.specs.declared.Which.{Which}
use Rattle.table.specs.Places.{InShape, keys_in, how_many_hold, chosen}
use Rattle.table.specs.Spots.{spot_among}
use Rattle.attribute_read.specs.declared.Origin.{Origin}
use Rattle.attribute_read.specs.declared.Origin.TheVariants.{At, Count}
use Rattle.attribute_read.specs.declared.Item.{Item}
use Rattle.class_tables.specs.declared.Product.{Product}

-- where the content of a stored attribute begins, in the entry that its instance shares with those that come with it
abbrev pub in_entry : Catalogue → ℕ → ℕ → ℕ
in_entry cat c n = inside cat c + offset_of (class cat c) n

-- where attribute n of class c comes from, if its instance's contents begin at o; the entry begins at o - inside cat c
unfoldable pub origin : Catalogue → ℕ → ℕ → ℕ → Source → Origin
origin cat c o n (stored f) = At (o + offset_of (class cat c) n)
origin cat c o n (of_creator a) = At (o - inside cat c + in_entry cat (leader cat c) a)
origin cat c o n (count_of d a) = Count d (in_entry cat d a)

unfoldable pub item_of : Catalogue → ℕ → ℕ → ℕ → Item
item_of cat c o n = record { size = size_of (class cat c) n; origin = origin cat c o n (attribute (class cat c) n).source }

-- the bytes that a table shows of instance i: its own or its creator's, or the number of places that hold i
unfoldable pub shown_from : List ℕ → ℕ → ℕ → Origin → List ℕ
shown_from b i size (At o) = take size (drop o b)
shown_from b i size (Count d o) = bytes size (how_many_hold d o i (byte b 1) (drop places_at b))

abbrev pub shown : List ℕ → ℕ → Item → List ℕ
shown b i x = shown_from b i x.size x.origin

-- the content of attribute n of instance i of class c, whose contents begin at o in the bytes b
unfoldable pub content_at : Catalogue → List ℕ → ℕ → ℕ → ℕ → ℕ → List ℕ
content_at cat b c i o n = shown b i (item_of cat c o n)

-- the contents of these attributes, one after another
unfoldable pub values_at : Catalogue → List ℕ → ℕ → ℕ → ℕ → List ℕ → List ℕ
values_at cat b c i o [] = []
values_at cat b c i o (n ∷ l) = content_at cat b c i o n ++ values_at cat b c i o l

-- contents of class c that begin at o have their whole entry within a block
pub record Within (cat : Catalogue) (c o : ℕ) : Type 0 where
  pub from_front : inside cat c ≤ o
  pub to_end : o + place_width ≤ block_length + inside cat c

-- an item's bytes are within a block; a count looks at two bytes of a place's contents
abbrev pub Placed : ℕ → Origin → Type 0
Placed size (At o) = o + size ≤ block_length
Placed size (Count d o) = o + 2 ≤ place_width

-- two blocks, the chosen one in shape; an item that stands in a block; and room for its bytes at a place
pub record Fits (which : Which) (live frozen : List ℕ) (x : Item) (to room : ℕ) : Type 0 where
  pub live_long : length live ≡ block_length
  pub frozen_long : length frozen ≡ block_length
  pub shaped : InShape (chosen which live frozen)
  pub sized : 1 ≤ x.size
  pub placed : Placed x.size x.origin
  pub room_for_it : to + x.size ≤ room

-- What can be packed: two blocks, the chosen one in shape; contents that begin at their instance's spot in it; attributes that
-- the class has; and room for their bytes.
pub record Packable (pr : Product) (which : Which) (live frozen : List ℕ) (c i o m room : ℕ) : Type 0 where
  pub live_long : length live ≡ block_length
  pub frozen_long : length frozen ≡ block_length
  pub shaped : InShape (chosen which live frozen)
  pub at_its_spot : spot_among (cat_of pr) (keys_in (chosen which live frozen)) c i ≡ some o
  pub all_there : all (λ n. supported (class_for pr c) n) (named m) ≡ true
  pub room_for_all : total (size_of (class_for pr c)) (named m) ≤ room
