use Rattle.class_tables.proofs.SizeLaws.{is_numbered, size_read_off}
use Rattle.attribute_read.proofs.size_of.Goals as goal

pub digit-requires : goal.digit-requires
digit-requires c = is_numbered _ _ _ c.requires

pub returns : goal.returns
returns c = size_read_off _ _ _ c.requires c.sizes.ensures c.digit.ensures
