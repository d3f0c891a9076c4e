use Rattle.arch.proofs.Guarding.{specials_hidden}
use Rattle.arch.proofs.theorems.special_registers_are_hidden.Goals as goal

pub returns : goal.returns
returns c = specials_hidden
