use Rattle.std.proofs.Common.{refl, add-one, rules}
use Rattle.arch.specs.Priorities.{least_active}
use Rattle.state.proofs.priorities.least_active.Goals as goal

pub loop-n-init : goal.loop-n-init
unfolding least_active
loop-n-init c = refl

pub loop-n-preserved : goal.loop-n-preserved
unfolding least_active
loop-n-preserved c = rw add-one (search rules)
