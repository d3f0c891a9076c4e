use Rattle.std.proofs.Common.{arith}
use Rattle.std.proofs.lemmas.Bool.Decides.{nat_tests}
use Rattle.thumb.proofs.Settled.{settled, by_prefix}
use Rattle.thumb.proofs.narrow.branch.Goals as goal

pub returns : goal.returns
unfolding settled
returns c = by_prefix c.args.x 11 28 c.requires (grind (arith, nat_tests))
