use mathlib.Core.Path.{◌∙◌, ap}
use Rattle.class_tables.specs.Built.{cat_of}
use Rattle.message_frame.specs.Commands.{command_number}
use Rattle.sound_store.specs.Held.{state_in}
use Rattle.command_dispatch.proofs.Answers.{no_command, not_a_walk, done_by, by_all_alarms, alarms_shown, by_upload, section_shown}
use Rattle.command_dispatch.proofs.command.Goals as goal

pub returns-in_default-clause-answered : goal.returns-in_default-clause-answered
returns-in_default-clause-answered c =
    let a = c.args in
    no_command a.product a.store.now a.class a.number a.v.now c.requires.0 a.kind c.in_default.ensures

pub with_result-requires : goal.with_result-requires
with_result-requires c =
    (c.requires.0, not_a_walk _ c.in_default-command.not-AllAlarms c.in_default-command.not-AlarmsNext c.in_default-command.not-Upload c.in_default-command.not-UploadNext, c.requires.1, c.requires.2)

pub returns-in-AllAlarms-clause-answered : goal.returns-in-AllAlarms-clause-answered
returns-in-AllAlarms-clause-answered c =
    let a = c.args in
    done_by a.product a.store.now a.class a.number a.v.now (c.in-Ok.ensures ∙ ap command_number c.in-AllAlarms.is)
    (by_all_alarms (cat_of a.product) (state_in a.product a.store.now) a.class a.number a.v.now) c.all_alarms.ensures

pub returns-in-AlarmsNext-clause-answered : goal.returns-in-AlarmsNext-clause-answered
returns-in-AlarmsNext-clause-answered c =
    let a = c.args in
    alarms_shown a.product a.store.now a.class a.number a.v.now c.requires.0 (c.in-Ok.ensures ∙ ap command_number c.in-AlarmsNext.is) c.alarms_next.ensures

pub returns-in-Upload-clause-answered : goal.returns-in-Upload-clause-answered
returns-in-Upload-clause-answered c =
    let a = c.args in
    done_by a.product a.store.now a.class a.number a.v.now (c.in-Ok.ensures ∙ ap command_number c.in-Upload.is)
    (by_upload (cat_of a.product) (state_in a.product a.store.now) a.class a.number a.v.now) c.upload.ensures

pub returns-in-UploadNext-clause-answered : goal.returns-in-UploadNext-clause-answered
returns-in-UploadNext-clause-answered c =
    let a = c.args in
    section_shown a.product a.store.now a.class a.number a.v.now c.requires.0 (c.in-Ok.ensures ∙ ap command_number c.in-UploadNext.is) c.upload_next.ensures
