use Rattle.std.proofs.Common.{ap, ◌∙◌, rules}
use Rattle.parts.specs.Strip.{listed}
use Rattle.parts.proofs.Listed.{listed_put, put_word}
use Rattle.parts.proofs.little_endian.put.Goals as goal

pub returns-in-Byte : goal.returns-in-Byte
returns-in-Byte c = rw (c.in-Byte.is, c.to_le_bytes.ensures) (listed_put 1 c.args.bytes.now c.args.at c.args.value (search rules))

pub returns-in-Half : goal.returns-in-Half
returns-in-Half c = rw (c.in-Half.is, c.to_le_bytes.ensures) (listed_put 2 c.args.bytes.now c.args.at c.args.value (search rules))

pub returns-in-Word : goal.returns-in-Word
returns-in-Word c =
    let xs = c.args.bytes.now in
    let x = c.args.at in
    let v = c.args.value in
    rw (c.in-Word.is, c.to_le_bytes.ensures) (ap listed (put_word xs x v) ∙ listed_put 4 xs x v (search rules))
