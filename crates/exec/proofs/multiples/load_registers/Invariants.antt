use Rattle.std.proofs.Common.{◌-◌}
use Rattle.arch.specs.Transfers.{registers_from, registers_of, load_registers}
use Rattle.exec.proofs.Sequence.{Continues}
use Rattle.exec.proofs.multiples.load_registers.Given as goal

-- the rest of the list from here is the whole list from the start
abbrev pub invariant-loop-i : goal.invariant-loop-i
invariant-loop-i g l = Continues g.B.Bus l.initial.bus l.bus (load_registers l.right l.initial.r (registers_of l.list) l.x) (load_registers l.right l.r (registers_from (8 - l.i) l.i l.list) l.at)
