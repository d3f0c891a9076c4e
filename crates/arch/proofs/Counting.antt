-- How many exceptions a set has.
use Rattle.std.proofs.Common.{◌≡◌, ℕ, zero, suc, ◌+◌, ◌^◌, ◌<◌, true, false, sym, refl, ap, ◌∙◌, arith, pow_mono}
use native.Mathlib.Nat.{two-pow-succ, zero-div}
use lib.Count.{ones}
use Rattle.std.proofs.lemmas.Bool.{eq-eqb, lt-ltb, or_right}
use Rattle.std.proofs.lemmas.Nat.{zero_from_ones}
use Rattle.word.specs.Fields.{bit_of}
use Rattle.word.specs.Sets.{set_with, set_without}
use Rattle.word.proofs.Members.{mask_is}

below_pow : (n : ℕ) → n < 2 ^ n
below_pow zero = omega arith
below_pow (suc n) = omega (arith, below_pow n, two-pow-succ n)

module _ (set k : ℕ) where
  -- a width that has room for the set and for k
  fits : set < 2 ^ (set + k + 64)
  fits = omega (arith, below_pow set, pow_mono {i = set} {j = set + k + 64} (omega arith))

  pub ones_without : bit_of set k ≡ true → ones (set_without set k) + 1 ≡ ones set
  ones_without member =
      let removed = (mask_is (set + k + 64) k).removes set fits in
      ap (λ n. n + 1) (ap ones (sym removed.value)) ∙ rw member at removed.count

  with_wide : k < 64 → set_with (set + k + 64) set k ≡ set_with 64 set k
  with_wide low = rw (lt-ltb k (set + k + 64) (omega arith), lt-ltb k 64 low)

  pub ones_with : k < 64 → bit_of set k ≡ false → ones (set_with 64 set k) ≡ ones set + 1
  ones_with low absent =
      let added = (mask_is (set + k + 64) k).adds set fits in
      ap ones (sym (with_wide low)) ∙ ap ones (sym added.value) ∙ rw (lt-ltb k (set + k + 64) (omega arith), absent) at added.count

  pub bit_with : k < 64 → bit_of (set_with 64 set k) k ≡ true
  bit_with low =
      let added = (mask_is (set + k + 64) k).adds set fits in
      ap (λ x. bit_of x k) (sym (with_wide low)) ∙ ap (λ x. bit_of x k) (sym added.value) ∙ added.members k
      ∙ rw (eq-eqb k k refl, lt-ltb k (set + k + 64) (omega arith)) (or_right (bit_of set k) true refl)

pub ones_empty : ones 0 ≡ 0
unfolding ones
ones_empty = refl

-- a set without members is 0
pub ones_none : (set : ℕ) → ones set ≡ 0 → set ≡ 0
ones_none set none = zero_from_ones set none

pub bit_zero : (k : ℕ) → bit_of 0 k ≡ false
bit_zero k = rw zero-div
