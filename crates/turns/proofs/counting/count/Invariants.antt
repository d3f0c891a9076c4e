use Rattle.std.proofs.Common.{◌≡◌, drop}
use Rattle.turns.specs.Counts.{none, counted_all}
use Rattle.turns.proofs.counting.count.Given as goal

abbrev pub invariant-loop-response : goal.invariant-loop-response
invariant-loop-response l = counted_all l.counts (drop l.response-index l.responses) ≡ counted_all none l.responses
