use Rattle.std.proofs.Common.{◌≡◌, ◌+◌, ◌-◌, ◌≤◌, ◌/◌, ◌++◌, vec_items}
use Rattle.turns.specs.Plan.{opening, first_steps}
use Rattle.turns.proofs.planning.plan.Given as goal

abbrev pub invariant-loop-made : goal.invariant-loop-made
invariant-loop-made l = record {
  within : l.made ≤ l.steps + 1;
  planned : vec_items l.calls ≡ opening ++ first_steps l.tick (l.steps / 2) (l.made - 1);
}
