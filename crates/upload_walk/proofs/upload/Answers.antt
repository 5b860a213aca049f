use Rattle.std.proofs.Common.{arith}
use Rattle.sound_store.proofs.Held.{live_shaped}
use Rattle.upload_walk.proofs.Uploads.{total_small, uploaded, not_uploaded}
use Rattle.upload_walk.proofs.upload.Goals as goal

pub section_total-n-requires : goal.section_total-n-requires
section_total-n-requires c = live_shaped _ _ c.requires.0

pub overflow_cast-n : goal.overflow_cast-n
overflow_cast-n c = omega (arith, total_small _ _ c.requires.0 c.section_total-n.ensures)

pub returns-then-is_ont_data : goal.returns-then-is_ont_data
returns-then-is_ont_data c =
    let a = c.args in
    uploaded a.product a.store.now c.requires.0 a.class a.number _ c.is_ont_data.ensures c.if-is_ont_data.true c.section_total-n.ensures
    c.freeze.ensures c.requires.1 c.put_number.ensures

pub returns-else-is_ont_data : goal.returns-else-is_ont_data
returns-else-is_ont_data c =
    let a = c.args in
    not_uploaded a.product a.store.now c.requires.0 a.class a.number c.is_ont_data.ensures c.if-is_ont_data.false c.requires.1
