use Rattle.std.proofs.Common.{◌≡◌}
use Rattle.arch.specs.Priorities.{least_active}
use Rattle.state.proofs.priorities.least_active.Given as goal

abbrev pub invariant-loop-n : goal.invariant-loop-n
invariant-loop-n l = l.least ≡ least_active l.n l.r
