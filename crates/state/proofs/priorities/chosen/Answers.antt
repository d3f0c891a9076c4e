use Rattle.std.proofs.Common.{sym}
use Rattle.state.proofs.Waiting.{chosen_none}
use Rattle.state.proofs.priorities.chosen.Goals as goal

pub returns-then-r-eq0 : goal.returns-then-r-eq0
returns-then-r-eq0 c = sym (chosen_none c.args.r.now c.if-r-eq0.true)
