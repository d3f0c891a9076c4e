use Rattle.arch.proofs.Isolating.{soundness}
use Rattle.arch.proofs.theorems.calls_are_sound.Goals as goal

pub returns : goal.returns
returns c = soundness
