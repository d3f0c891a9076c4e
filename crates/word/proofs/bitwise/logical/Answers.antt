use Rattle.std.proofs.Common.{refl, arith}
use Rattle.word.proofs.EachBit.{bit_bic, bit_of-and, bit_of-or, bit_of-xor}
use Rattle.word.proofs.bitwise.logical.Goals as goal

pub returns-in-And : goal.returns-in-And
returns-in-And c = rw c.in-And.is (record { value = refl; bits = bit_of-and c.args.x c.args.y })

pub returns-in-Orr : goal.returns-in-Orr
returns-in-Orr c = rw c.in-Orr.is (record { value = refl; bits = bit_of-or c.args.x c.args.y })

pub returns-in-Eor : goal.returns-in-Eor
returns-in-Eor c = rw c.in-Eor.is (record { value = refl; bits = bit_of-xor c.args.x c.args.y })

pub returns-in-Bic : goal.returns-in-Bic
returns-in-Bic c = rw c.in-Bic.is (record { value = refl; bits = λ k. bit_bic c.args.x c.args.y 32 k (omega arith) (omega arith) })
