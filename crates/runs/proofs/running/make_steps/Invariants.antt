use Rattle.std.proofs.Common.{◌≡◌}
use Rattle.cpu.specs.Performed.{machine_on}
use Rattle.runs.proofs.Remainder.{Remainder}
use Rattle.runs.proofs.running.make_steps.Given as goal

abbrev pub invariant-loop-steps : goal.invariant-loop-steps
invariant-loop-steps g l =
    let b = g.B.Bus in
    Remainder g.T.Tally l.limit l.steps l.tally (machine_on b l.initial.core l.initial.bus) (machine_on b l.core l.bus)
    × (b.settings l.bus ≡ b.settings l.initial.bus)
