-- One bit put into a word, or taken out of it.
use Rattle.std.proofs.Common.{◌≡◌, ℕ, zero, suc, ◌+◌, ◌-◌, ◌*◌, ◌/◌, ◌%◌, ◌^◌, ◌<◌, ◌≤◌, Bool, true, false, cond, not, ◌&&◌, ◌||◌, eqb, ltb, sym, refl, ap, ◌∙◌, inl, inr, add-zero, mod-lt, mod-eq_of_lt, add-mul, one-mul, arith, pow_pos}
use lib.Bits.{bit_and, bit_or, and_step, and_zero_r, or_add_and, or_zero_r}
use lib.Count.{ones, ones_cat, ones_step}
use lib.Pow.{high, pow-lt, split}
use native.Mathlib.Nat.{two-pow-succ}
use Rattle.std.proofs.lemmas.Bool.Decides.{eqb_tells, leb_tells, nat_tests}
use Rattle.std.proofs.lemmas.Nat.Bits.{and_pow, bit_at-pow_other, bit_at-pow_same}
use Rattle.word.proofs.EachBit.{bit_of-or}
use Rattle.word.proofs.Moves.{shl_past}
use Rattle.word.proofs.Widths.{none_above}
use Rattle.word.specs.Fields.{bit_of}
use Rattle.word.specs.Sets.{Added, Mask, Removed, set_with, set_without}

bit_one : (k j : ℕ) → bit_of (2 ^ k) j ≡ eqb j k
bit_one k j = elim (eqb_tells j k) [
  | inl p ↦ rw p.1 (grind (arith, nat_tests, bit_at-pow_same k))
  | inr p ↦ grind (arith, nat_tests, bit_at-pow_other k j p.1)
]

-- the bits of a that b lacks, and those that it has
parts : (w a b : ℕ) → a < 2 ^ w → b < 2 ^ w → bit_and a (2 ^ w - 1 - b) + bit_and a b ≡ a
parts zero a b h k = let z : a ≡ 0 = omega arith in rw z
parts (suc w) a b h k =
    let d : 2 ^ suc w ≡ 2 ^ w + 2 ^ w = two-pow-succ w in
    let half : (2 ^ suc w - 1 - b) / 2 ≡ 2 ^ w - 1 - b / 2 = omega (arith, d) in
    let step : bit_and (a / 2) ((2 ^ suc w - 1 - b) / 2) + bit_and (a / 2) (b / 2) ≡ a / 2 = rw half (parts w (a / 2) (b / 2) (omega (arith, d)) (omega (arith, d))) in
    omega (arith, step, d, and_step a (2 ^ suc w - 1 - b), and_step a b)

-- a new bit is one more
ones_more : (x k : ℕ) → bit_of x k ≡ false → ones (x + 2 ^ k) ≡ ones x + 1
ones_more x k e =
    let q : ℕ = x / 2 ^ k in
    let r : ℕ = x % 2 ^ k in
    let below : r < 2 ^ k = mod-lt x (pow_pos k) in
    let even : q % 2 ≡ 0 = grind (arith, nat_tests) in
    let same : (q + 1) / 2 ≡ q / 2 = omega arith in
    let old : ones x ≡ ones q + ones r = rw (split x k) at (ones_cat k q r below) in
    let sum : (q + 1) * 2 ^ k + r ≡ x + 2 ^ k = omega (arith, add-mul q 1 (2 ^ k), split x k) in
    let new : ones (x + 2 ^ k) ≡ ones (q + 1) + ones r = rw sum at (ones_cat k (q + 1) r below) in
    omega (arith, old, new, ones_step q, ones_step (q + 1), ap ones same)

or_one : (x k : ℕ) → bit_or x (2 ^ k) ≡ cond (bit_of x k) x (x + 2 ^ k)
or_one x k = grind (arith, nat_tests, or_add_and x (2 ^ k), and_pow x k)

bit_more : (x k : ℕ) → bit_of x k ≡ false → (j : ℕ) → bit_of (x + 2 ^ k) j ≡ (bit_of x j || eqb j k)
bit_more x k e j = rw (or_one x k, e, bit_one) at (bit_of-or x (2 ^ k) j)

-- a bit that is taken away was there, and is clear after
taken : (x k : ℕ) → bit_of x k ≡ true → (x - 2 ^ k + 2 ^ k ≡ x) × (bit_of (x - 2 ^ k) k ≡ false)
taken x k e =
    let p : ℕ = x / 2 ^ k - 1 in
    let odd : x / 2 ^ k % 2 ≡ 1 = grind (arith, nat_tests) in
    let up : (p + 1) * 2 ^ k ≡ x / 2 ^ k * 2 ^ k = let q : p + 1 ≡ x / 2 ^ k = omega arith in rw q in
    let rest : x - 2 ^ k ≡ p * 2 ^ k + x % 2 ^ k = omega (arith, split x k, add-mul p 1 (2 ^ k), up) in
    (omega (arith, split x k, add-mul p 1 (2 ^ k), up), rw (rest, high p k (mod-lt x (pow_pos k))) (grind (arith, nat_tests)))

pub mask_none : (w k : ℕ) → w ≤ k → 2 ^ k % 2 ^ w ≡ 0
mask_none w k p = rw one-mul at (shl_past 1 w k p)

mask_some : (w k : ℕ) → k < w → 2 ^ k % 2 ^ w ≡ 2 ^ k
mask_some w k p = mod-eq_of_lt (pow-lt p)

-- as a word of w bits computes them
module _ (w x k : ℕ) (h : x < 2 ^ w) where
  has_is : not (eqb (bit_and x (2 ^ k % 2 ^ w)) 0) ≡ bit_of x k
  has_is = elim (leb_tells w k) [
    | inl p ↦ rw (mask_none w k p.1, and_zero_r, none_above x w k h p.1)
    | inr p ↦ rw (mask_some w k p.1, and_pow) (grind (arith, nat_tests, pow_pos k))
  ]

  with_is : bit_or x (2 ^ k % 2 ^ w) ≡ set_with w x k
  with_is = elim (leb_tells w k) [
    | inl p ↦ rw (mask_none w k p.1, or_zero_r) (grind (arith, nat_tests, p.1))
    | inr p ↦ rw (mask_some w k p.1, or_one) (grind (arith, nat_tests, p.1))
  ]

  without_is : bit_and x (2 ^ w - 1 - 2 ^ k % 2 ^ w) ≡ set_without x k
  without_is = elim (leb_tells w k) [
    | inl p ↦ rw (mask_none w k p.1) (grind (arith, nat_tests, none_above x w k h p.1, parts w x 0 h (pow_pos w), and_zero_r x))
    | inr p ↦ rw (mask_some w k p.1) (grind (arith, nat_tests, parts w x (2 ^ k) h (pow-lt p.1), and_pow x k))
  ]

added : (w x k : ℕ) → Added w x k (set_with w x k)
added w x k = by_room (ltb k w && not (bit_of x k)) refl
  where
    by_room : (b : Bool) → (ltb k w && not (bit_of x k)) ≡ b → Added w x k (cond b (x + 2 ^ k) x)
    by_room true e = record {
      value = rw e;
      members = λ j. bit_more x k (grind (arith, nat_tests)) j ∙ grind (arith, nat_tests);
      count = rw e (ones_more x k (grind (arith, nat_tests)));
    }
    by_room false e = record { value = rw e; members = λ j. grind (arith, nat_tests); count = rw (e, add-zero) }

removed : (x k : ℕ) → Removed x k (set_without x k)
removed x k = by_bit (bit_of x k) refl
  where
    by_bit : (b : Bool) → bit_of x k ≡ b → Removed x k (cond b (x - 2 ^ k) x)
    by_bit true e =
        let t = taken x k e in
        record {
          value = rw e;
          members = λ j. grind (arith, nat_tests, rw t.0 at (bit_more (x - 2 ^ k) k t.1 j), t.1);
          count = rw e (sym (rw t.0 at (ones_more (x - 2 ^ k) k t.1)));
        }
    by_bit false e = record { value = rw e; members = λ j. grind (arith, nat_tests); count = rw (e, add-zero) }

pub mask_is : (w k : ℕ) → Mask w k (2 ^ k % 2 ^ w)
mask_is w k = record {
  tests = λ x h. has_is w x k h;
  adds = λ x h. rw (with_is w x k h) (added w x k);
  removes = λ x h. rw (without_is w x k h) (removed x k);
}
