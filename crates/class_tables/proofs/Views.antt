-- What a line says of its attribute, field by field: for the code that goes by the line.
use Prim.Native.Nat.{ℕ}
use mathlib.Core.Path.{◌≡◌, refl, ap}
use Rattle.rules.specs.Catalogue.{Class, attribute, size_of, is_stored}
use Rattle.rules.specs.Catalogue as rules
use Rattle.class_tables.specs.declared.Way.{Way}
use Rattle.class_tables.specs.declared.Way.TheVariants.{First, Carried, Copied, OfCreator, CountOf}
use Rattle.class_tables.specs.declared.Attribute.{Attribute}
use Rattle.class_tables.specs.Meaning.{is_kept, source_of, rule_of, meaning}
use Rattle.class_tables.specs.Describes.{DescribedIn}

pub kept_is_stored : (size : ℕ) (w : Way) → is_kept w ≡ is_stored (source_of size w)
kept_is_stored size (First v) = refl
kept_is_stored size Carried = refl
kept_is_stored size (Copied n) = refl
kept_is_stored size (OfCreator a) = refl
kept_is_stored size (CountOf d a) = refl

module _ {k : Class} {n : ℕ} {r : Attribute} (d : DescribedIn k n r) where
  pub size_is : r.size ≡ size_of k n
  unfolding meaning
  size_is = ap (λ (a : rules.Attribute). a.size) d.is

  pub avc_is : r.avc ≡ (attribute k n).avc
  unfolding meaning
  avc_is = ap (λ (a : rules.Attribute). a.avc) d.is

  pub source_is : source_of r.size r.way ≡ (attribute k n).source
  unfolding meaning
  source_is = ap (λ (a : rules.Attribute). a.source) d.is

  pub rule_is : rule_of r.rule r.only_if ≡ (attribute k n).rule
  unfolding meaning
  rule_is = ap (λ (a : rules.Attribute). a.rule) d.is
