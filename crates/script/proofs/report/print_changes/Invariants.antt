use Rattle.std.proofs.Common.{length}
use Rattle.script.proofs.report.print_changes.Given as goal

abbrev pub decreases-loop-before : goal.decreases-loop-before
decreases-loop-before l = length l.before
