use Rattle.std.proofs.Common.{◌≡◌, ◌+◌, ◌*◌, ◌≤◌, length}
use Rattle.store.specs.Layout.{slot_count, place_count}
use Rattle.upload_sections.proofs.ClassTotals.{sections_on}
use Rattle.upload_sections.proofs.section_total.Given as goal

-- those counted, and those of the classes from the j-th on, make the answer
abbrev pub invariant-loop-j : goal.invariant-loop-j
invariant-loop-j l = record {
  few : l.total ≤ (slot_count + place_count) * 16 * l.j;
  so_far : l.total + length (sections_on l.product l.b l.j) ≡ length (sections_on l.product l.b 0);
}
