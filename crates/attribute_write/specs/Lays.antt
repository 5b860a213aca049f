-- Values laid into an instance's contents, one attribute after another.
use Rattle.std.specs.Prelude.{ℕ, ◌+◌, ◌≤◌, ◌≡◌, Bool, true, List, [], ◌∷◌, length, take, drop}
use Rattle.rules.specs.Maps.{among, all}
use Rattle.rules.specs.Bytes.{laid}
use Rattle.rules.specs.Masks.{total}
use Rattle.rules.specs.Catalogue.{constant, copied, Source, stored, of_creator, count_of, Class, attribute, size_of, stored_numbers}
use Rattle.rules.specs.Catalogue.{leader}
use Rattle.rules.specs.State.{Contents}
use Rattle.store.specs.Layout.{contents_width}
use Rattle.class_tables.specs.Built.{cat_of, class_for}
use Rattle.class_tables.specs.Describes.{offset_of}
use Rattle.class_tables.specs.declared.Product.{Product}

-- the contents m, each laid where it stands in the contents of an instance of class k, which begin at a place
unfoldable pub laid_values : Class → ℕ → Contents → List ℕ → List ℕ
laid_values k at [] b = b
laid_values k at (e ∷ m) b = laid_values k at m (laid (at + offset_of k e.0) e.1 b)

-- a stored attribute's first content of so many bytes, where `from` are the contents of the leading instance; of others there is none
unfoldable pub first_from : Class → List ℕ → ℕ → Source → List ℕ
first_from lead from size (stored (constant v)) = v
first_from lead from size (stored (copied m)) = take size (drop (offset_of lead m) from)
first_from lead from size (of_creator a) = []
first_from lead from size (count_of d a) = []

-- the first contents of attributes of class k
unfoldable pub firsts : Class → Class → List ℕ → List ℕ → Contents
firsts k lead from [] = []
firsts k lead from (n ∷ l) = (n, first_from lead from (size_of k n) (attribute k n).source) ∷ firsts k lead from l

-- the class with whose instances a class's own come
abbrev pub leading_class : Product → ℕ → Class
leading_class pr c = class_for pr (leader (cat_of pr) c)

-- the attributes are stored
abbrev pub all_stored : Class → List ℕ → Bool
all_stored k l = all (λ n. among n (stored_numbers k)) l

-- values of these attributes, one after another, can be laid into the contents that begin at a place
pub record Laying (k : Class) (at : ℕ) (l v b : List ℕ) : Type 0 where
  pub are_stored : all_stored k l ≡ true
  pub inside : at + contents_width k ≤ length b
  pub carried : total (size_of k) l ≤ length v

-- the first contents of these attributes can be laid there: those that are copied are among the leading instance's
pub record LayingFirsts (k lead : Class) (at : ℕ) (l from b : List ℕ) : Type 0 where
  pub are_stored : all_stored k l ≡ true
  pub inside : at + contents_width k ≤ length b
  pub copied_from : (n m : ℕ) → among n l ≡ true → (attribute k n).source ≡ stored (copied m) → offset_of lead m + size_of k n ≤ length from

unfoldable pub computing_lays : ℕ
unfolding laid_values first_from firsts
computing_lays = 0
