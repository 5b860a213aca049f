use Rattle.table.proofs.Counted.{put_in_front}
use borrow.Author.Rules.{rules}
use Rattle.table.proofs.counter.move_counter.Statement.{statement}
use Rattle.table.proofs.counter.move_counter.Tie as tie

returns : tie.Need-returns
returns c = put_in_front _ _ _ (search rules) c.next_number.ensures

pub move_counter_spec : {M : Type 1} → statement M
move_counter_spec =
    tie.close
    (tie.spec (λ c. search rules) (λ c κs. search rules) (λ c. search rules) (λ c. search rules) returns)
