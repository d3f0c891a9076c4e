-- What an operation on words does to each bit.
use Rattle.std.proofs.Common.{◌≡◌, ℕ, suc, ◌+◌, ◌-◌, ◌/◌, ◌%◌, ◌^◌, ◌<◌, not, ◌&&◌, ◌||◌, ◌∙◌, inl, inr, arith, pow_pos, shr_lt}
use lib.Bits.{bit_and, bit_or, bit_xor}
use mathlib.Core.Bool.{xor}
use native.Mathlib.Nat.{two-pow-succ}
use Rattle.std.proofs.lemmas.Bool.Decides.{leb_tells, nat_tests}
use Rattle.std.proofs.lemmas.Nat.Bits.{bit_at_and, bit_at_or, bit_at_xor}
use Rattle.word.proofs.Widths.{none_above, not_shr}
use Rattle.word.specs.Fields.{bit_of}

pub bit_of-and : (x y k : ℕ) → bit_of (bit_and x y) k ≡ (bit_of x k && bit_of y k)
bit_of-and x y k = grind (arith, nat_tests, bit_at_and x y k)

pub bit_of-or : (x y k : ℕ) → bit_of (bit_or x y) k ≡ (bit_of x k || bit_of y k)
bit_of-or x y k = grind (arith, nat_tests, bit_at_or x y k)

pub bit_of-xor : (x y k : ℕ) → bit_of (bit_xor x y) k ≡ xor (bit_of x k) (bit_of y k)
unfolding xor
bit_of-xor x y k = grind (arith, nat_tests, bit_at_xor x y k)

-- NOT turns each bit of the word
pub bit_not : (x w k : ℕ) → x < 2 ^ w → k < w → bit_of (2 ^ w - 1 - x) k ≡ not (bit_of x k)
bit_not x w k h below =
    let j : ℕ = w - 1 - k in
    let e : suc j + k ≡ w = omega arith in
    let low : x < 2 ^ (suc j + k) = rw e h in
    let moved : (2 ^ w - 1 - x) / 2 ^ k ≡ 2 ^ suc j - 1 - x / 2 ^ k = rw e at (not_shr x (suc j) k low) in
    let under : x / 2 ^ k < 2 ^ suc j = shr_lt (suc j) k low in
    let turned : (2 ^ w - 1 - x) / 2 ^ k % 2 ≡ 1 - x / 2 ^ k % 2 = omega (arith, moved, two-pow-succ j, pow_pos j) in
    grind (arith, nat_tests)

-- a word's bits that are clear in another
pub bit_bic : (x y w k : ℕ) → x < 2 ^ w → y < 2 ^ w → bit_of (bit_and x (2 ^ w - 1 - y)) k ≡ (bit_of x k && not (bit_of y k))
bit_bic x y w k h below = bit_of-and x (2 ^ w - 1 - y) k ∙ elim (leb_tells w k) [
  | inl p ↦ rw (none_above x w k h p.1)
  | inr p ↦ rw (bit_not y w k below p.1)
]
