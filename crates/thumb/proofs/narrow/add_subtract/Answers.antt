use Rattle.std.proofs.Common.{arith}
use Rattle.thumb.proofs.Settled.{settled, by_prefix}
use Rattle.thumb.proofs.narrow.add_subtract.Goals as goal

pub returns-in-12 : goal.returns-in-12
unfolding settled
returns-in-12 c = by_prefix c.args.x 9 12 c.in-12.is (cc)

pub returns-in-13 : goal.returns-in-13
unfolding settled
returns-in-13 c = by_prefix c.args.x 9 13 c.in-13.is (cc)

pub returns-in-14 : goal.returns-in-14
unfolding settled
returns-in-14 c = by_prefix c.args.x 9 14 c.in-14.is (cc)

pub returns-in_default : goal.returns-in_default
unfolding settled
returns-in_default c = by_prefix c.args.x 9 15 (omega arith) (cc)
