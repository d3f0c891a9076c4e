use Rattle.std.proofs.Common.{sym, arith}
use Rattle.word.proofs.Widths.{all_below}
use Rattle.word.proofs.extend.zero_extend.Goals as goal

pub returns-else-width-lt32 : goal.returns-else-width-lt32
returns-else-width-lt32 c = sym (all_below c.args.x 32 c.args.width (omega arith) (omega arith))
