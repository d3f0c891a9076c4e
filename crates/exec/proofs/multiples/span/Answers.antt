use Rattle.std.proofs.Common.{◌*◌, ◌^◌, ◌<◌, sym, ap, arith}
use lib.Count.{ones-le}
use Rattle.exec.proofs.Lists.{length_of}
use Rattle.exec.proofs.multiples.span.Goals as goal

pub overflow_mul-result : goal.overflow_mul-result
overflow_mul-result c = let h : c.args.list < 2 ^ 8 = omega arith in omega (arith, ones-le 8 c.args.list h)

pub returns : goal.returns
returns c =
    let h : c.args.list < 2 ^ 8 = omega arith in
    record { value = ap (λ n. 4 * n) (sym (length_of c.args.list h)); bound = omega (arith, ones-le 8 c.args.list h) }
