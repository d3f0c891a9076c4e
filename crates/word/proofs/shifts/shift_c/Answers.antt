use Rattle.std.proofs.Common.{ap, ◌∙◌, arith}
use Rattle.word.proofs.ShiftLaw.{shift_bits}
use Rattle.word.proofs.shifts.shift_c.Goals as goal
use Rattle.word.specs.Fields.{bit_of}

pub returns-else-amount-eq0-clause-bits : goal.returns-else-amount-eq0-clause-bits
returns-else-amount-eq0-clause-bits c = λ k h. ap (λ s. bit_of s.value k) c.moved.ensures ∙ shift_bits c.args.kind c.args.x c.args.amount k (omega arith) h
