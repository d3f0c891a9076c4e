use Rattle.std.proofs.Common.{refl, add-one, rules}
use Rattle.arch.specs.Priorities.{best}
use Rattle.state.proofs.priorities.best_pending.Goals as goal

pub loop-n-init : goal.loop-n-init
unfolding best
loop-n-init c = refl

pub loop-n-preserved : goal.loop-n-preserved
unfolding best
loop-n-preserved c = rw add-one (search rules)
