use Rattle.rules.proofs.ByteLaws.{known_bytes}
use Rattle.engine.proofs.Replied.{begun_as, answering_as, contents_long, begun_blank, answered_and_remembered}
use borrow.Author.Rules.{rules}
use Rattle.engine.proofs.answer_anew.Statement.{statement}
use Rattle.engine.proofs.answer_anew.Tie as tie
use Rattle.engine.proofs.answer_anew.Reads as reads
use Rattle.engine.proofs.answer_anew.Lts as lts
use Rattle.command_dispatch.proofs.perform.Reads as perform_reads
use Rattle.message_frame.proofs.begin.Reads as begin_reads
use Rattle.octets.proofs.number_at.Reads as number_at_reads
use Rattle.remembered_command.proofs.remember.Reads as remember_reads

perform_requires : tie.Need-perform-requires
perform_requires c κs =
    let n = c in
    let a = n.args in
    let pre = n.requires in
    let bs = known_bytes a.m.now (λ i. (n.shared_slice_known-1.given i).fits) in
    let begun = begun_as a.product a.store.now a.m.now a.reply.now pre.0 bs pre.1 _ _ _ _
    n.number_at.ensures n.number_at-class.ensures n.number_at-number.ensures c.begin.ensures in (
      pre.0,
      contents_long a.product a.store.now a.m.now a.reply.now pre.0 bs pre.1,
      begun_blank a.product a.store.now a.m.now a.reply.now pre.0 bs pre.1 _ begun,
    )

returns : tie.Need-returns
returns c =
    let p = c in
    let n = p in
    let a = n.args in
    let pre = n.requires in
    let bs = known_bytes a.m.now (λ i. (n.shared_slice_known-1.given i).fits) in
    let class_read = n.number_at-class.ensures in
    let number_read = n.number_at-number.ensures in
    let begun = begun_as a.product a.store.now a.m.now a.reply.now pre.0 bs pre.1 _ _ _ _
    n.number_at.ensures class_read number_read p.begin.ensures in
    let done = answering_as a.product a.store.now a.m.now a.reply.now pre.0 bs pre.1 _ _ _ _ class_read number_read p.perform.ensures in
    answered_and_remembered a.product a.store.now a.m.now a.reply.now pre.0 bs pre.1 begun done c.remember.ensures

pub answer_anew_spec : {M : Type 1} → statement M
answer_anew_spec =
    tie.close
    (tie.spec
    (λ c. search rules)
    (λ c κs. search rules)
    (λ c κs. search rules)
    (λ c κs. search rules)
    (λ c. search rules)
    (λ c κs. search rules)
    (λ c. search rules)
    (λ c. search rules)
    (λ c. search rules)
    (λ c. search rules)
    (λ c. search rules)
    (λ c. search rules)
    perform_requires
    (λ c. search rules)
    (λ c. search rules)
    (λ c. search rules)
    (λ c κs. search rules)
    (λ c. search rules)
    (λ c. search rules)
    returns)
