use Rattle.std.proofs.Common.{arith}
use Rattle.std.proofs.lemmas.Bool.Decides.{nat_tests}
use Rattle.thumb.proofs.Settled.{settled, by_control}
use Rattle.thumb.proofs.wide.move_to_special.Goals as goal

pub returns-then-not-proper : goal.returns-then-not-proper
unfolding settled
returns-then-not-proper c = by_control c.args.x 21 1948 c.requires (grind (arith, nat_tests))

pub returns-in_err-to : goal.returns-in_err-to
unfolding settled
returns-in_err-to c = by_control c.args.x 21 1948 c.requires (grind (arith, nat_tests))

pub returns : goal.returns
unfolding settled
returns c = by_control c.args.x 21 1948 c.requires (grind (arith, nat_tests))
