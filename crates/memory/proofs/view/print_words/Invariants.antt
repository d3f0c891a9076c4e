use Rattle.bus.specs.Made.{Leaves}
use Rattle.memory.proofs.view.print_words.Given as goal

abbrev pub invariant-loop-line : goal.invariant-loop-line
invariant-loop-line g l = Leaves g.B.Bus l.initial.bus l.bus
