use Rattle.std.proofs.Common.{arith, ◌≡◌, ◌-◌, length}
use lib.Seq.{paste}
use Rattle.octets.proofs.Writes.{put_in_front}
use Rattle.octets.proofs.insert_front.Goals as goal

pub returns : goal.returns
returns c =
    let a = c.args in
    let n = length a.t.now - length a.v.now in
    let z : n - 0 ≡ n = omega arith in
    let moved : c.copy_within.new.self ≡ paste a.t.now (length a.v.now) a.t.now n = rw z at c.copy_within.ensures.after in
    put_in_front c.args.t.now c.copy_within.new.self c.args.v.now _ c.requires moved c.copy_in.ensures
