use Rattle.std.proofs.Common.{arith}
use Rattle.thumb.proofs.Settled.{settled, by_prefix}
use Rattle.thumb.proofs.narrow.adjust.Goals as goal

pub returns-in-352 : goal.returns-in-352
unfolding settled
returns-in-352 c = by_prefix c.args.x 7 352 c.in-352.is (cc)

pub returns-in_default : goal.returns-in_default
unfolding settled
returns-in_default c = by_prefix c.args.x 7 353 (omega arith) (cc)
