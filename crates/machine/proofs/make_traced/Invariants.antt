use Rattle.std.proofs.Common.{◌≡◌, vec_items}
use Rattle.cpu.specs.Performed.{machine_on}
use Rattle.cpu.proofs.Calling.{Underway}
use Rattle.machine.proofs.make_traced.Given as goal

abbrev pub invariant-loop-call : goal.invariant-loop-call
invariant-loop-call g l =
    let bus = g.B.Bus in
    Underway l.calls (machine_on bus l.initial.core l.initial.bus) l.call-index (vec_items l.answers) (machine_on bus l.core l.bus)
    × (bus.settings l.bus ≡ bus.settings l.initial.bus)
