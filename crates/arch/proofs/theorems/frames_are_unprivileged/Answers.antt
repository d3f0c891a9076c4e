use Rattle.arch.proofs.Guarding.{frames_unprivileged}
use Rattle.arch.proofs.theorems.frames_are_unprivileged.Goals as goal

pub returns : goal.returns
returns c = frames_unprivileged
