use Rattle.std.proofs.Common.{arith, refl}
use Rattle.class_tables.specs.Built.{cat_of}
use Rattle.class_tables.proofs.ClassLaws.{inside_fits}
use Rattle.attribute_tables.proofs.ReadingLaws.{stored_if_own, source_told}
use Rattle.attribute_read.proofs.Items.{stored_item, creator_item, counted_item, creator_kept, counted_kept, small_entry}
use Rattle.attribute_read.proofs.item_for.Goals.{in-OfCreator, in-CountOf, in-Own}
use Rattle.attribute_read.proofs.item_for.Goals as goal

pub in_entry-requires : goal.in_entry-requires
in_entry-requires c = creator_kept _ _ _ c.requires.1 (source_told _ c.reading_of.ensures c.in-OfCreator.is refl) c.leader_of.ensures

pub overflow_add-origin : goal.overflow_add-origin
overflow_add-origin c =
    let a = c.args in
    let f = creator_kept _ _ _ c.requires.1 (source_told _ c.reading_of.ensures c.in-OfCreator.is refl) c.leader_of.ensures in
    let z = small_entry a.product c.leader_of.result c.in-OfCreator.m f.0 f.1 in
    omega (arith, z, c.requires.0.to_end, inside_fits a.product a.class, c.in_entry.ensures)

pub in_entry-requires-in-CountOf : goal.in_entry-requires-in-CountOf
in_entry-requires-in-CountOf c = counted_kept _ _ _ c.requires.1 (source_told _ c.reading_of.ensures c.in-CountOf.is refl)

pub overflow_add-origin-in-Own : goal.overflow_add-origin-in-Own
overflow_add-origin-in-Own c =
    let a = c.args in
    let z = small_entry a.product a.class a.n c.requires.1 (stored_if_own _ c.reading_of.ensures c.in-Own.is refl) in
    omega (arith, z, c.requires.0.to_end, c.begin_of.ensures)

pub returns : goal.returns
returns c =
    let a = c.args in
    let read = c.reading_of.ensures in
    let long = c.size_of.ensures in
    elim c.match-reading_of.branch [
      | in-OfCreator w ↦
          rw w.origin-is (creator_item (cat_of a.product) a.class a.at a.n long (source_told _ read w.in-OfCreator.is refl)
          w.inside.ensures w.leader_of.ensures w.in_entry.ensures)
      | in-CountOf w ↦ rw w.origin-is (counted_item (cat_of a.product) a.class a.at a.n long (source_told _ read w.in-CountOf.is refl) w.in_entry-in-CountOf.ensures)
      | in-Own w ↦ rw w.origin-is (stored_item (cat_of a.product) a.class a.at a.n long (stored_if_own _ read w.in-Own.is refl) w.begin_of.ensures)
    ]
