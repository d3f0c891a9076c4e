use Rattle.std.proofs.Common.{arith}
use Rattle.std.proofs.lemmas.Bool.Decides.{nat_tests}
use Rattle.thumb.proofs.Settled.{settled, by_control}
use Rattle.thumb.proofs.wide.undefined_for_good.Goals as goal

pub returns-then-field-eq1 : goal.returns-then-field-eq1
unfolding settled
returns-then-field-eq1 c = by_control c.args.x 21 1983 c.requires (grind (arith, nat_tests))

pub returns-else-x-eq3967 : goal.returns-else-x-eq3967
unfolding settled
returns-else-x-eq3967 c = by_control c.args.x 21 1983 c.requires (grind (arith, nat_tests))
