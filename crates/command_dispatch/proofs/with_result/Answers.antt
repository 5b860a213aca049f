use mathlib.Core.Path.{sym, ◌∙◌}
use Rattle.command_dispatch.proofs.Answers.{numbered, no_class, not_allowed, can_be_created, can_be_deleted, no_other, created, deleted, set_so, got, was_reset}
use Rattle.command_dispatch.proofs.with_result.Goals as goal

pub returns-then-not-known-clause-answered : goal.returns-then-not-known-clause-answered
returns-then-not-known-clause-answered c =
    let a = c.args in
    no_class a.product a.store.now a.class a.number a.v.now c.requires.0 a.command c.requires.1 (sym c.known.ensures ∙ c.if-not-known.true)

pub returns-then-not-allows-clause-answered : goal.returns-then-not-allows-clause-answered
returns-then-not-allows-clause-answered c =
    let a = c.args in
    not_allowed a.product a.store.now a.class a.number a.v.now c.requires.0 a.command c.requires.1 (sym c.known.ensures ∙ c.if-not-known.false)
    (numbered a.product a.class a.command c.from.ensures (sym c.allows.ensures ∙ c.if-not-allows.true))

pub create-requires : goal.create-requires
create-requires c =
    let a = c.args in (
      c.requires.0,
      can_be_created a.product a.store.now a.class a.number a.v.now a.command (sym c.known.ensures ∙ c.if-not-known.false)
          (numbered a.product a.class a.command c.from.ensures (sym c.allows.ensures ∙ c.if-not-allows.false)) c.in-Create.is,
      c.requires.2,
    )

pub delete-requires : goal.delete-requires
delete-requires c =
    let a = c.args in (
      c.requires.0,
      can_be_deleted a.product a.store.now a.class a.number a.v.now a.command (sym c.known.ensures ∙ c.if-not-known.false)
          (numbered a.product a.class a.command c.from.ensures (sym c.allows.ensures ∙ c.if-not-allows.false)) c.in-Delete.is,
    )

pub unreachable-requires : goal.unreachable-requires
unreachable-requires c =
    no_other c.args.command c.requires.1 c.in_default.not-Create c.in_default.not-Delete c.in_default.not-Set c.in_default.not-Get c.in_default.not-Reset

pub returns-in-Create-clause-answered : goal.returns-in-Create-clause-answered
returns-in-Create-clause-answered c =
    let a = c.args in
    created a.product a.store.now a.class a.number a.v.now a.command (sym c.known.ensures ∙ c.if-not-known.false)
    (numbered a.product a.class a.command c.from.ensures (sym c.allows.ensures ∙ c.if-not-allows.false)) _ _ c.create.result c.requires.3 c.in-Create.is c.create.ensures

pub returns-in-Delete-clause-answered : goal.returns-in-Delete-clause-answered
returns-in-Delete-clause-answered c =
    let a = c.args in
    deleted a.product a.store.now a.class a.number a.v.now a.command (sym c.known.ensures ∙ c.if-not-known.false)
    (numbered a.product a.class a.command c.from.ensures (sym c.allows.ensures ∙ c.if-not-allows.false)) _ _ c.delete.result c.requires.3 c.in-Delete.is c.delete.ensures

pub returns-in-Set-clause-answered : goal.returns-in-Set-clause-answered
returns-in-Set-clause-answered c =
    let a = c.args in
    set_so a.product a.store.now a.class a.number a.v.now a.command (sym c.known.ensures ∙ c.if-not-known.false)
    (numbered a.product a.class a.command c.from.ensures (sym c.allows.ensures ∙ c.if-not-allows.false)) _ _ c.set.result c.requires.3 c.in-Set.is c.set.ensures

pub returns-in-Get-clause-answered : goal.returns-in-Get-clause-answered
returns-in-Get-clause-answered c =
    let a = c.args in
    got a.product a.store.now a.class a.number a.v.now a.command (sym c.known.ensures ∙ c.if-not-known.false)
    (numbered a.product a.class a.command c.from.ensures (sym c.allows.ensures ∙ c.if-not-allows.false)) c.requires.0 c.in-Get.is c.get.ensures.contents

pub returns-in-Reset-clause-answered : goal.returns-in-Reset-clause-answered
returns-in-Reset-clause-answered c =
    let a = c.args in
    was_reset a.product a.store.now a.class a.number a.v.now a.command (sym c.known.ensures ∙ c.if-not-known.false)
    (numbered a.product a.class a.command c.from.ensures (sym c.allows.ensures ∙ c.if-not-allows.false)) _ _ c.reset.result c.requires.3 c.in-Reset.is c.reset.ensures
