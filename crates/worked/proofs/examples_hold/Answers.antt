use Rattle.worked.proofs.Computed.{examples}
use Rattle.worked.proofs.examples_hold.Goals as goal

pub returns : goal.returns
returns c = examples
