use Rattle.std.proofs.Common.{arith}
use Rattle.std.proofs.lemmas.Bool.Decides.{nat_tests}
use Rattle.thumb.proofs.Settled.{settled, by_prefix}
use Rattle.thumb.proofs.narrow.exchange.Goals as goal

pub returns-then-m-eq15 : goal.returns-then-m-eq15
unfolding settled
returns-then-m-eq15 c = by_prefix c.args.x 8 71 c.requires (grind (arith, nat_tests))

pub returns-in-142 : goal.returns-in-142
unfolding settled
returns-in-142 c = by_prefix c.args.x 7 142 c.in-142.is (grind (arith, nat_tests))

pub returns-in_default-2 : goal.returns-in_default-2
unfolding settled
returns-in_default-2 c = by_prefix c.args.x 7 143 (omega arith) (grind (arith, nat_tests))
