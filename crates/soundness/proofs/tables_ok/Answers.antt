use Rattle.std.proofs.Common.{refl, sym, ◌∙◌, rules}
use Rattle.rules.specs.Maps.{◌and◌}
use Rattle.rules.proofs.Laws.{true_and, eqb_true, eqb_false}
use Rattle.store.specs.Layout.{table_length}
use Rattle.class_tables.specs.Built.{cat_of}
use Rattle.soundness.specs.Tests.{table_test}
use Rattle.soundness.proofs.Turns.{to_the_end}
use Rattle.soundness.proofs.Parts.{none_beside, beside, same_beside}
use Rattle.soundness.proofs.tables_ok.Goals as goal

pub returns-then-not-table_ok : goal.returns-then-not-table_ok
unfolding ◌and◌
returns-then-not-table_ok c = rw (sym c.table_ok.ensures ∙ c.if-not-table_ok.true) refl

pub returns-then-upload-eq0 : goal.returns-then-upload-eq0
returns-then-upload-eq0 c =
    let a = c.args in
    let fine = sym c.table_ok.ensures ∙ c.if-not-table_ok.false in
    c.zeros_from.ensures ∙ sym (none_beside (table_test (cat_of a.product)) a.live.now a.upload.now fine c.if-upload-eq0.true)

pub returns-then-upload-ne1 : goal.returns-then-upload-ne1
unfolding ◌and◌
returns-then-upload-ne1 c =
    let a = c.args in
    let fine = sym c.table_ok.ensures ∙ c.if-not-table_ok.false in
    sym (beside (table_test (cat_of a.product)) a.live.now a.upload.now fine c.if-upload-eq0.false ∙ rw (eqb_false _ _ c.if-upload-ne1.true) refl)

pub returns-then-alike : goal.returns-then-alike
returns-then-alike c =
    let a = c.args in
    let fine = sym c.table_ok.ensures ∙ c.if-not-table_ok.false in
    sym (same_beside (table_test (cat_of a.product)) a.live.now a.upload.now fine c.if-upload-eq0.false c.if-upload-ne1.false
    (rw (to_the_end table_length 1 a.live.now (search rules), to_the_end table_length 1 a.upload.now (search rules)) at (sym c.alike.ensures ∙ c.if-alike.true)))

pub returns : goal.returns
returns c =
    let a = c.args in
    let fine = sym c.table_ok.ensures ∙ c.if-not-table_ok.false in
    c.table_ok-2.ensures
    ∙ sym (beside (table_test (cat_of a.product)) a.live.now a.upload.now fine c.if-upload-eq0.false ∙ rw (eqb_true _ _ c.if-upload-ne1.false) (true_and _))
