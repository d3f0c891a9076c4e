use Rattle.std.proofs.Common.{arith}
use Rattle.std.proofs.lemmas.Bool.Decides.{nat_tests}
use Rattle.thumb.proofs.Settled.{settled, by_prefix}
use Rattle.thumb.proofs.narrow.push.Goals as goal

pub returns-then-not-lr : goal.returns-then-not-lr
unfolding settled
returns-then-not-lr c = by_prefix c.args.x 9 90 c.requires (grind (arith, nat_tests))

pub returns-else-list-eq0 : goal.returns-else-list-eq0
unfolding settled
returns-else-list-eq0 c = by_prefix c.args.x 9 90 c.requires (grind (arith, nat_tests))
