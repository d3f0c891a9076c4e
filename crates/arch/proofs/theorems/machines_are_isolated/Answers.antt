use Rattle.arch.proofs.Isolating.{isolation_stands}
use Rattle.arch.proofs.theorems.machines_are_isolated.Goals as goal

pub returns : goal.returns
returns c = isolation_stands
