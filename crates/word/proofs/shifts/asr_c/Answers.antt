use Rattle.std.proofs.Common.{arith}
use Rattle.word.proofs.Asr.{asr_carry, asr_value}
use Rattle.word.proofs.shifts.asr_c.Goals as goal

pub returns : goal.returns
returns c =
    cc (asr_value c.args.x (omega arith) c.args.n, asr_carry c.args.x (omega arith) c.args.n (omega arith))
