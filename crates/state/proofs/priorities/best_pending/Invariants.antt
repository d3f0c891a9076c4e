use Rattle.std.proofs.Common.{◌≡◌}
use Rattle.arch.specs.Priorities.{best}
use Rattle.state.proofs.priorities.best_pending.Given as goal

abbrev pub invariant-loop-n : goal.invariant-loop-n
invariant-loop-n l = l.found ≡ best l.n l.r
