use Rattle.std.proofs.Common.{arith}
use Rattle.word.proofs.Rotate.{ror_value}
use Rattle.word.proofs.shifts.ror_c.Goals as goal

pub returns : goal.returns
returns c = cc (ror_value c.args.x (omega arith) c.args.n)
