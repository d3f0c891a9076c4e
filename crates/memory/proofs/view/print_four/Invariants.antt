use Rattle.bus.specs.Made.{Leaves}
use Rattle.memory.proofs.view.print_four.Given as goal

abbrev pub invariant-loop-offset : goal.invariant-loop-offset
invariant-loop-offset g l = Leaves g.B.Bus l.initial.bus l.bus
