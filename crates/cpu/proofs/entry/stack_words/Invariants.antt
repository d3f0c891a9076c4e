use Rattle.std.proofs.Common.{◌*◌, drop, None}
use Rattle.arch.specs.Accesses.{try_words}
use Rattle.arch.specs.Registers.{plus}
use Rattle.exec.proofs.Sequence.{Continues}
use Rattle.cpu.proofs.entry.stack_words.Given as goal

-- the words that are left, from here, are all the words from the start
abbrev pub invariant-loop-i : goal.invariant-loop-i
invariant-loop-i g l = Continues g.B.Bus l.initial.bus l.bus (try_words l.right None l.word-items l.x) (try_words l.right l.first (drop l.i l.word-items) (plus l.x (4 * l.i)))
