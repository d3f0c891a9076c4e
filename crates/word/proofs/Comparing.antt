-- The conditions after a comparison.
use Rattle.std.proofs.Common.{ℕ, ◌^◌, ◌<◌, true, arith}
use Rattle.std.proofs.lemmas.Int.{ints}
use Rattle.std.proofs.lemmas.Bool.Decides.{nat_tests}
use Rattle.word.proofs.Signs.{eqZ_tells}
use Rattle.word.specs.Compare.{Orders}
use Rattle.word.specs.Flags.{of_sum}
use Rattle.word.specs.Bitwise.{not_word}
use Rattle.word.specs.Sums.{add_with_carry}

pub orders : (x y : ℕ) → x < 2 ^ 32 → y < 2 ^ 32 → Orders x y (of_sum (add_with_carry x (not_word y) true))
orders x y h k = record {
  equal = grind (arith, ints, nat_tests);
  higher_same = grind (arith, ints, nat_tests);
  higher = grind (arith, ints, nat_tests);
  greater_equal = grind (arith, ints, nat_tests, eqZ_tells);
  greater = grind (arith, ints, nat_tests, eqZ_tells);
}
