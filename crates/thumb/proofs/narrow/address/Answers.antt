use Rattle.std.proofs.Common.{arith}
use Rattle.thumb.proofs.Settled.{settled, by_prefix}
use Rattle.thumb.proofs.narrow.address.Goals as goal

pub returns-in-20 : goal.returns-in-20
unfolding settled
returns-in-20 c = by_prefix c.args.x 11 20 c.in-20.is (cc)

pub returns-in_default : goal.returns-in_default
unfolding settled
returns-in_default c = by_prefix c.args.x 11 21 (omega arith) (cc)
