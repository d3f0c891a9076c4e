use Rattle.std.proofs.Common.{arith}
use Rattle.thumb.proofs.Settled.{settled, by_prefix}
use Rattle.thumb.proofs.narrow.offset.Goals as goal

pub returns-in-12 : goal.returns-in-12
unfolding settled
returns-in-12 c = by_prefix c.args.x 11 12 c.in-12.is (cc)

pub returns-in-13 : goal.returns-in-13
unfolding settled
returns-in-13 c = by_prefix c.args.x 11 13 c.in-13.is (cc)

pub returns-in-14 : goal.returns-in-14
unfolding settled
returns-in-14 c = by_prefix c.args.x 11 14 c.in-14.is (cc)

pub returns-in-15 : goal.returns-in-15
unfolding settled
returns-in-15 c = by_prefix c.args.x 11 15 c.in-15.is (cc)

pub returns-in-16 : goal.returns-in-16
unfolding settled
returns-in-16 c = by_prefix c.args.x 11 16 c.in-16.is (cc)

pub returns-in-17 : goal.returns-in-17
unfolding settled
returns-in-17 c = by_prefix c.args.x 11 17 c.in-17.is (cc)

pub returns-in-18 : goal.returns-in-18
unfolding settled
returns-in-18 c = by_prefix c.args.x 11 18 c.in-18.is (cc)

pub returns-in_default : goal.returns-in_default
unfolding settled
returns-in_default c = by_prefix c.args.x 11 19 (omega arith) (cc)
