use Rattle.thumb.proofs.Settled.{settled, by_prefix}
use Rattle.thumb.proofs.narrow.literal.Goals as goal

pub returns : goal.returns
unfolding settled
returns c = by_prefix c.args.x 11 9 c.requires (cc)
