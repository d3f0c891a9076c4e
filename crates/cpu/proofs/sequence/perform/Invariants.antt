use Rattle.std.proofs.Common.{◌≡◌, ◌≤◌, length, vec_items, vec_len, vec_capacity}
use Rattle.bus.specs.Made.{world}
use Rattle.cpu.specs.Performed.{machine}
use Rattle.cpu.proofs.Calling.{Underway}
use Rattle.cpu.proofs.sequence.perform.Given as goal

-- the list is underway, and there is room for the answers that are left
abbrev pub invariant-loop-call : goal.invariant-loop-call
invariant-loop-call g l =
    let bus = g.B.Bus in
    Underway l.calls (machine l.initial.core.registers (world bus l.initial.bus)) l.call-index (vec_items l.answers) (machine l.core.registers (world bus l.bus))
    × (bus.settings l.bus ≡ bus.settings l.initial.bus)
    × (vec_len l.answers ≡ l.call-index)
    × (length l.calls ≤ vec_capacity l.answers)
