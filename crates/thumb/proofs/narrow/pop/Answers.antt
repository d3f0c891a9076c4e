use Rattle.std.proofs.Common.{arith}
use Rattle.std.proofs.lemmas.Bool.Decides.{nat_tests}
use Rattle.thumb.proofs.Settled.{settled, by_prefix}
use Rattle.thumb.proofs.narrow.pop.Goals as goal

pub returns-then-not-pc : goal.returns-then-not-pc
unfolding settled
returns-then-not-pc c = by_prefix c.args.x 9 94 c.requires (grind (arith, nat_tests))

pub returns-else-list-eq0 : goal.returns-else-list-eq0
unfolding settled
returns-else-list-eq0 c = by_prefix c.args.x 9 94 c.requires (grind (arith, nat_tests))
