use Rattle.std.proofs.Common.{arith}
use Rattle.std.proofs.lemmas.Bool.Decides.{nat_tests}
use Rattle.thumb.proofs.Settled.{settled, by_prefix}
use Rattle.thumb.proofs.narrow.multiple.Goals as goal

pub returns-then-list-eq0 : goal.returns-then-list-eq0
unfolding settled
returns-then-list-eq0 c = by_prefix c.args.x 12 12 c.requires (grind (arith, nat_tests))

pub returns-in-24 : goal.returns-in-24
unfolding settled
returns-in-24 c = by_prefix c.args.x 11 24 c.in-24.is (grind (arith, nat_tests))

pub returns-in_default-2 : goal.returns-in_default-2
unfolding settled
returns-in_default-2 c = by_prefix c.args.x 11 25 (omega arith) (grind (arith, nat_tests))
