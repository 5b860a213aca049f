use Rattle.bench_terminal.proofs.Zeros.{many_zeros}
use Rattle.bench_terminal.proofs.lines.room.Goals as goal

pub returns : goal.returns
returns c = many_zeros 1572864
