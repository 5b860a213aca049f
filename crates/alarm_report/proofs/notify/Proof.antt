use Prim.Native.Nat.{ℕ}
use mathlib.Core.Path.{◌∙◌, ap}
use mathlib.Core.List.{[], ◌∷◌, ◌++◌}
use lib.ListN.{drop, length-set}
use Rattle.rules.specs.Bytes.{laid}
use Rattle.store.specs.Layout.{alarm_number_at}
use Rattle.octets.proofs.Laid.{one_laid}
use Rattle.alarm_report.specs.Turned.{notice}
use Rattle.alarm_report.proofs.Turning.{noticed, begun_length}
use borrow.Author.Rules.{rules}
use Rattle.alarm_report.proofs.notify.Statement.{statement}
use Rattle.alarm_report.proofs.notify.Tie as tie

slice_write_reply_2 : tie.Need-bounds-reply-39
slice_write_reply_2 c =
    let a = c.args in
    let b = c.begin in
    let l = begun_length a.class a.number (drop 48 a.reply.now) b.new.buffer b.ensures in
    simp length-set (search rules)

returns : tie.Need-returns
returns c =
    let f = c.before.before.before.before.before.before.before.before in
    let a = f.args in
    let b = c.begin in
    let n = c.next_number-sequence in (
      one_laid alarm_number_at n.result a.store.now (search rules) ∙ ap (λ (s : ℕ). laid alarm_number_at (s ∷ []) a.store.now) n.ensures,
      noticed a.class a.number (drop 48 a.reply.now) b.new.buffer a.alarms n.result b.ensures
          ∙ ap (λ (s : ℕ). notice a.class a.number a.alarms s ++ drop 48 a.reply.now) n.ensures,
    )

pub notify_spec : {M : Type 1} → statement M
notify_spec =
    tie.close
    (tie.spec
    (λ c. search rules)
    (λ c κs. search rules)
    (λ c. search rules)
    (λ c κs. search rules)
    (λ c. search rules)
    slice_write_reply_2
    (λ c. search rules)
    (λ c. search rules)
    returns)
