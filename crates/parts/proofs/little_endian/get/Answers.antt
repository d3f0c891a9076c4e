use Rattle.std.proofs.Common.{◌≡◌, ℕ, ◌+◌, ◌%◌, get_or, arith, rules}
use Rattle.bus.specs.Memory.{load}
use Rattle.parts.specs.Strip.{listed}
use Rattle.parts.proofs.Listed.{load_word}
use Rattle.parts.proofs.little_endian.get.Goals as goal

pub returns-in-Byte : goal.returns-in-Byte
unfolding load
returns-in-Byte c = rw c.in-Byte.is (search rules)

pub returns-in-Half : goal.returns-in-Half
unfolding load
returns-in-Half c = rw c.in-Half.is (search rules)

pub returns-in-Word : goal.returns-in-Word
returns-in-Word c =
    let xs = c.args.bytes.now in
    let x = c.args.at in
    let byte : (i : ℕ) → get_or xs i 0 % 256 ≡ get_or xs i 0 = λ i. omega (arith, c.type_inv.bytes i) in
    rw c.in-Word.is (omega (arith, load_word (listed xs) x, byte x, byte (x + 1), byte (x + 2), byte (x + 3)))
