-- Where the bits of a word go when it is moved, cut or extended.
use Rattle.std.proofs.Common.{◌≡◌, ℕ, suc, ◌+◌, ◌-◌, ◌*◌, ◌/◌, ◌%◌, ◌^◌, ◌<◌, ◌≤◌, min, Bool, true, false, ◌&&◌, leb, eqb, ap, ◌∙◌, inl, inr, mul_assoc, add_comm, arith, pow-add, shr-shr}
use lib.Bits.{shifted_even}
use lib.Pow.{field, mod-mod-pow, shl-shr}
use native.Mathlib.Nat.{mul-mod_left, zero-div}
use Rattle.std.proofs.lemmas.Bool.Decides.{leb_tells, nat_tests}
use Rattle.std.proofs.lemmas.Nat.Bits.{bit_at_cat_high, bit_at_cat_low, bit_at_ones}
use Rattle.word.specs.Extend.{replicate, sign_extend}
use Rattle.word.specs.Fields.{bit_of}

-- cut to w bits, a word keeps those below w
pub bit_cut : (x w k : ℕ) → k < w → bit_of (x % 2 ^ w) k ≡ bit_of x k
bit_cut x w k h =
    let e : (w - k - 1 + 1) + k ≡ w = omega arith in
    rw e at (cut (w - k - 1))
  where
    cut : (j : ℕ) → bit_of (x % 2 ^ ((j + 1) + k)) k ≡ bit_of x k
    cut j = rw (field x (j + 1) k, mod-mod-pow (x / 2 ^ k) j 1)

pub bit_shr : (x n k : ℕ) → bit_of (x / 2 ^ n) k ≡ bit_of x (k + n)
bit_shr x n k = rw (shr-shr x n k, add_comm n k)

shl_over : (x n k : ℕ) → bit_of (x * 2 ^ n) (n + k) ≡ bit_of x k
shl_over x n k = rw (← shr-shr (x * 2 ^ n) n k, shl-shr)

shl_under : (x j k : ℕ) → bit_of (x * 2 ^ (suc j + k)) k ≡ false
shl_under x j k = rw (pow-add 2 (suc j) k, ← mul_assoc x (2 ^ suc j) (2 ^ k), shl-shr, shifted_even)

pub bit_shl : (x n k : ℕ) → bit_of (x * 2 ^ n) k ≡ (leb n k && bit_of x (k - n))
bit_shl x n k = elim (leb_tells n k) [
  | inl p ↦ let e : n + (k - n) ≡ k = omega (arith, p.1) in rw p.0 (rw e at (shl_over x n (k - n)))
  | inr p ↦ let e : suc (n - k - 1) + k ≡ n = omega (arith, p.1) in rw p.0 (rw e at (shl_under x (n - k - 1) k))
]

bit_replicate : (b : Bool) (n k : ℕ) → k < n → bit_of (replicate b n) k ≡ b
bit_replicate true n k h = grind (arith, nat_tests, bit_at_ones n k h)
bit_replicate false n k h = rw zero-div

-- a word extended by its sign has its top bit in every place above
pub bit_extend : (w n x k : ℕ) → 0 < w → w ≤ n → x < 2 ^ w → k < n → bit_of (sign_extend w n x) k ≡ bit_of x (min k (w - 1))
bit_extend w n x k h wide below less = elim (leb_tells w k) [
  | inl p ↦
      let m : min k (w - 1) ≡ w - 1 = omega (arith, p.1) in
      rw m (ap (λ (d : ℕ). eqb d 1) (bit_at_cat_high (replicate (bit_of x (w - 1)) (n - w)) w x k below p.1) ∙ bit_replicate (bit_of x (w - 1)) (n - w) (k - w) (omega (arith, p.1)))
  | inr p ↦
      let m : min k (w - 1) ≡ k = omega (arith, p.1) in
      rw m (ap (λ (d : ℕ). eqb d 1) (bit_at_cat_low (replicate (bit_of x (w - 1)) (n - w)) w x k p.1))
]

-- a word moved past its width leaves nothing
pub shl_past : (x w n : ℕ) → w ≤ n → x * 2 ^ n % 2 ^ w ≡ 0
shl_past x w n h = let e : n - w + w ≡ n = omega arith in rw e at (past (n - w))
  where
    past : (j : ℕ) → x * 2 ^ (j + w) % 2 ^ w ≡ 0
    past j = rw (pow-add 2 j w, ← mul_assoc x (2 ^ j) (2 ^ w), mul-mod_left)
