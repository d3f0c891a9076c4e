use Rattle.std.proofs.Common.{arith}
use Rattle.std.proofs.lemmas.Bool.Decides.{nat_tests}
use Rattle.thumb.proofs.Settled.{settled, by_prefix}
use Rattle.thumb.proofs.narrow.basic.Goals as goal

pub returns-then-by-eq0 : goal.returns-then-by-eq0
unfolding settled
returns-then-by-eq0 c = by_prefix c.args.x 11 0 (omega arith) (grind (arith, nat_tests))

pub returns-else-by-eq0 : goal.returns-else-by-eq0
unfolding settled
returns-else-by-eq0 c = by_prefix c.args.x 11 0 (omega arith) (grind (arith, nat_tests))

pub returns-in-1 : goal.returns-in-1
unfolding settled
returns-in-1 c = by_prefix c.args.x 11 1 c.in-1.is (cc)

pub returns-in-2 : goal.returns-in-2
unfolding settled
returns-in-2 c = by_prefix c.args.x 11 2 c.in-2.is (cc)

pub returns-in-4 : goal.returns-in-4
unfolding settled
returns-in-4 c = by_prefix c.args.x 11 4 c.in-4.is (cc)

pub returns-in-5 : goal.returns-in-5
unfolding settled
returns-in-5 c = by_prefix c.args.x 11 5 c.in-5.is (cc)

pub returns-in-6 : goal.returns-in-6
unfolding settled
returns-in-6 c = by_prefix c.args.x 11 6 c.in-6.is (cc)

pub returns-in_default : goal.returns-in_default
unfolding settled
returns-in_default c = by_prefix c.args.x 11 7 (omega arith) (cc)
