-- How an attribute is read, with all that is stored as one case.
use Rattle.rules.specs.Catalogue.{Source, stored, of_creator, count_of}
use Rattle.attribute_tables.specs.declared.readings.Reading.{Reading}
use Rattle.attribute_tables.specs.declared.readings.Reading.TheVariants.{Own, OfCreator, CountOf}

abbrev pub reading_by : Source → Reading
reading_by (stored f) = Own
reading_by (of_creator a) = OfCreator a
reading_by (count_of d a) = CountOf d a
