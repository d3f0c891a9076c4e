use Rattle.std.proofs.Common.{arith}
use Rattle.std.proofs.lemmas.Bool.Decides.{nat_tests}
use Rattle.thumb.proofs.Settled.{settled, by_prefix}
use Rattle.thumb.proofs.narrow.special.Goals as goal

pub returns-then-m-eq15 : goal.returns-then-m-eq15
unfolding settled
returns-then-m-eq15 c = by_prefix c.args.x 8 68 (omega arith) (grind (arith, nat_tests))

pub returns-else-n-eq15 : goal.returns-else-n-eq15
unfolding settled
returns-else-n-eq15 c = by_prefix c.args.x 8 68 (omega arith) (grind (arith, nat_tests))

pub returns-then-m-eq15-2 : goal.returns-then-m-eq15-2
unfolding settled
returns-then-m-eq15-2 c = by_prefix c.args.x 8 69 (omega arith) (grind (arith, nat_tests))

pub returns-else-m-eq15-2 : goal.returns-else-m-eq15-2
unfolding settled
returns-else-m-eq15-2 c = by_prefix c.args.x 8 69 (omega arith) (grind (arith, nat_tests))

pub returns-in-70 : goal.returns-in-70
unfolding settled
returns-in-70 c = by_prefix c.args.x 8 70 c.in-70.is (cc)
