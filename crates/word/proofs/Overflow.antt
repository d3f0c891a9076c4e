-- Overflow of a sum, by the signs.
use lib.Bits.{bit_and, bit_xor}
use Rattle.std.proofs.Common.{◌≡◌, ℕ, ◌%◌, ◌^◌, ◌<◌, Bool, not, ◌&&◌, ◌∙◌, arith}
use mathlib.Core.Bool.{xor}
use Rattle.std.proofs.lemmas.Int.{ints}
use Rattle.std.proofs.lemmas.Bool.Decides.{nat_tests}
use Rattle.word.proofs.EachBit.{bit_of-and, bit_of-xor}
use Rattle.word.proofs.Signs.{eqZ_tells}
use Rattle.word.specs.Fields.{bit_of}
use Rattle.word.specs.Integers.{eqZ, signed}
use Rattle.word.specs.Sums.{signed_sum, unsigned_sum}

module _ (x y : ℕ) (c : Bool) (v : ℕ) (h : x < 2 ^ 32) (k : y < 2 ^ 32) (e : v ≡ unsigned_sum x y c % 2 ^ 32) where
  by_signs : (xor (bit_of x 31) (bit_of v 31) && xor (bit_of y 31) (bit_of v 31)) ≡ not (eqZ (signed 32 v) (signed_sum x y c))
  unfolding xor
  by_signs = grind (arith, ints, nat_tests, eqZ_tells)

  pub overflow_is : bit_of (bit_and (bit_xor x v) (bit_xor y v)) 31 ≡ not (eqZ (signed 32 v) (signed_sum x y c))
  overflow_is = bit_of-and (bit_xor x v) (bit_xor y v) 31 ∙ rw (bit_of-xor x v 31, bit_of-xor y v 31) by_signs
