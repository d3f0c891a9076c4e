use Rattle.runs.proofs.Whole.{joins}
use Rattle.runs.proofs.theorems.runs_join.Goals as goal

pub returns : goal.returns
returns c = joins
