use Rattle.std.proofs.Common.{◌∙◌, arith}
use Rattle.word.proofs.Overflow.{overflow_is}
use Rattle.word.proofs.sums.overflows.Goals as goal

pub returns : goal.returns
returns c = c.bit.ensures ∙ overflow_is c.args.x c.args.y c.args.carry_in c.args.value (omega arith) (omega arith) c.requires
