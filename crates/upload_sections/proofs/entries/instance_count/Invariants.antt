use Rattle.std.proofs.Common.{◌≡◌, ◌+◌, ◌≤◌, length, drop}
use Rattle.upload_sections.proofs.EntryLaws.{all_keys, led_by}
use Rattle.upload_sections.proofs.entries.instance_count.Given as goal

-- those counted, and those among the entries from the i-th on, make the answer
abbrev pub invariant-loop-i : goal.invariant-loop-i
invariant-loop-i l = record {
  few : l.count ≤ l.i;
  so_far : l.count + length (led_by l.leader (drop l.i (all_keys l.product l.b))) ≡ length (led_by l.leader (all_keys l.product l.b));
}
