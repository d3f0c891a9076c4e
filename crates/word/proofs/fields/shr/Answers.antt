use Rattle.std.proofs.Common.{arith}
use Rattle.std.proofs.lemmas.Grind.{common_steps}
use Rattle.word.proofs.Widths.{none_above}
use Rattle.word.proofs.fields.shr.Goals as goal

pub returns : goal.returns
returns c = let past = none_above c.args.x 32 c.args.n (omega arith) in grind (arith, common_steps)
