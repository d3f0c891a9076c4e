-- Words as signed numbers.
use Rattle.std.proofs.Common.{◌≡◌, ℕ, suc, ◌+◌, ◌-◌, ◌*◌, ◌/◌, ◌%◌, ◌^◌, ◌<◌, ◌≤◌, Bool, true, false, cond, leb, ◌⊎◌, ℤ, pos, negsuc, ◌-ℤ◌, refl, inr, mod-eq_of_lt, zero-add, zero-mul, arith, pow_pos, pow_mono, shr_lt}
use lib.Pow.{high_ones, split}
use native.Mathlib.Nat.{two-pow-succ}
use Rattle.std.proofs.lemmas.Nat.{one_shl}
use Rattle.std.proofs.lemmas.Int.{ints}
use Rattle.std.proofs.lemmas.Bool.Decides.{nat_tests, eqb_tells}
use Rattle.word.specs.Extend.{replicate, sign_extend}
use Rattle.word.specs.Fields.{bit_of}
use Rattle.word.specs.Integers.{eqZ, signed}

-- eqZ with what it tells, for `grind`
pub eqZ_tells : (a b : ℤ) → ((eqZ a b ≡ true) × (a ≡ b)) ⊎ ((eqZ a b ≡ false) × (a ≡ b → ⊥))
eqZ_tells (pos a) (pos b) = grind (arith, eqb_tells a b)
eqZ_tells (pos a) (negsuc b) = inr (refl, λ e. omega (arith, ints))
eqZ_tells (negsuc a) (pos b) = inr (refl, λ e. omega (arith, ints))
eqZ_tells (negsuc a) (negsuc b) = grind (arith, eqb_tells a b)

module _ (w : ℕ) (h : 0 < w) where
  halves : 2 ^ w ≡ 2 ^ (w - 1) + 2 ^ (w - 1)
  halves = let e : suc (w - 1) ≡ w = omega arith in rw e at (two-pow-succ (w - 1))

  -- the top bit of a word says whether it is in the upper half
  pub top_bit : (x : ℕ) → x < 2 ^ w → bit_of x (w - 1) ≡ leb (2 ^ (w - 1)) x
  top_bit x below =
      let e : 1 + (w - 1) ≡ w = omega arith in
      let digit : x / 2 ^ (w - 1) < 2 = shr_lt 1 (w - 1) (rw e below) in
      grind (arith, nat_tests, split x (w - 1), pow_pos (w - 1))

-- a word extended by its sign stands for the same integer
module _ (w n x : ℕ) (h : 0 < w) (k : w ≤ n) (below : x < 2 ^ w) where
  pub ones_above : (2 ^ (n - w) - 1) * 2 ^ w + 2 ^ w ≡ 2 ^ n
  ones_above = let e : n - w + w ≡ n = omega arith in omega (arith, rw e at (high_ones (n - w) w), pow_mono k)

  by_sign : (b : Bool) → bit_of x (w - 1) ≡ b → signed n (replicate b (n - w) * 2 ^ w + x) ≡ cond b (pos x -ℤ pos (2 ^ w)) (pos x)
  by_sign true e =
      let s : ℕ = (2 ^ (n - w) - 1) * 2 ^ w + x in
      let top : bit_of s (n - 1) ≡ true = grind (arith, nat_tests, top_bit w h x below, top_bit n (omega arith) s (omega (arith, ones_above)), ones_above, halves w h, halves n (omega arith)) in
      rw top (omega (arith, ints, ones_above))
  by_sign false e =
      let top : bit_of x (n - 1) ≡ false = grind (arith, nat_tests, top_bit w h x below, top_bit n (omega arith) x (omega (arith, pow_mono k)), pow_mono {i = w - 1} {j = n - 1} (omega arith)) in
      rw (zero-mul, zero-add, top)

  pub signed_extend : signed n (sign_extend w n x) ≡ signed w x
  signed_extend = by_sign (bit_of x (w - 1)) refl

  -- 2 ^ w taken from the narrow word, where its sign is set, as a word of n bits computes it
  pub extend_by_sub : w < n → bit_of x (w - 1) ≡ true → (x + (2 ^ n - (1 * 2 ^ w) % 2 ^ n)) % 2 ^ n ≡ sign_extend w n x
  extend_by_sub less e =
      rw (e, one_shl w n less)
      (let same : x + (2 ^ n - 2 ^ w) ≡ (2 ^ (n - w) - 1) * 2 ^ w + x = omega (arith, ones_above, pow_mono k) in
      rw same (mod-eq_of_lt (omega (arith, ones_above))))
