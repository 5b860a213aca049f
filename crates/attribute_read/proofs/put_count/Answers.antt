use Rattle.std.proofs.Common.{refl, rules}
use Rattle.attribute_read.proofs.Written.{count_written}
use Rattle.attribute_read.proofs.put_count.Goals as goal

pub returns : goal.returns
returns c =
    let a = c.args in
    count_written a.count a.size a.to _ a.out.now c.fill.new.self c.requires.0 c.requires.1 c.requires.2 refl (search rules)
