use Rattle.std.proofs.Common.{◌≡◌, ◌*◌, ◌^◌, false, div-one, arith}
use Rattle.std.proofs.lemmas.Bool.Decides.{nat_tests}
use Rattle.word.proofs.Moves.{bit_shl, shl_past}
use Rattle.word.proofs.shifts.lsl_c.Goals as goal
use Rattle.word.specs.Fields.{bit_of}

pub returns-then-n-gt32 : goal.returns-then-n-gt32
returns-then-n-gt32 c =
    let value = shl_past c.args.x 32 c.args.n (omega arith) in
    let carry : bit_of (c.args.x * 2 ^ c.args.n) 32 ≡ false = grind (arith, nat_tests, bit_shl c.args.x c.args.n 32) in
    cc (div-one (c.args.x * 2 ^ c.args.n))
