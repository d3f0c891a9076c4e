use Rattle.std.proofs.Common.{◌-◌}
use Rattle.arch.specs.Transfers.{registers_from, registers_of, store_registers}
use Rattle.exec.proofs.Sequence.{Continues}
use Rattle.exec.proofs.multiples.store_registers.Given as goal

-- the rest of the list from here is the whole list from the start
abbrev pub invariant-loop-i : goal.invariant-loop-i
invariant-loop-i g l = Continues g.B.Bus l.initial.bus l.bus (store_registers l.r (registers_of l.list) l.x) (store_registers l.r (registers_from (8 - l.i) l.i l.list) l.at)
