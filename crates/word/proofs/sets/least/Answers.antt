use Rattle.std.proofs.Common.{arith, w64}
use Rattle.std.proofs.lemmas.Bool.Decides.{nat_tests}
use Rattle.std.proofs.lemmas.Nat.Bits.{bit_at-trailing_zeros}
use Rattle.word.proofs.sets.least.Goals as goal

pub returns-else-set-eq0 : goal.returns-else-set-eq0
returns-else-set-eq0 c =
    let t = bit_at-trailing_zeros w64 c.args.set (omega arith) (omega arith) in
    record {
      within = t.0;
      member = grind (arith, nat_tests, t.1);
      lowest = λ j h. grind (arith, nat_tests, t.2 j h);
    }
