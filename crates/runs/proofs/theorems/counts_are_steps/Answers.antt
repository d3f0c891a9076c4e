use Rattle.std.proofs.Common.{◌≤◌, length, arith}
use Rattle.runs.specs.Counts.{top}
use Rattle.runs.specs.Run.{answers}
use Rattle.runs.specs.Counting.{counted}
use Rattle.runs.proofs.Whole.{stepwise}
use Rattle.runs.proofs.theorems.counts_are_steps.Goals as goal

pub returns : goal.returns
returns c n m within =
    let few : length (answers n m) ≤ top = omega (arith, (stepwise n m).within) in
    (counted (answers n m)).all few
