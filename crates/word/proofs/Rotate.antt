-- ROR_C: as `rotate_right` gives it, and where the bits go.
use Rattle.std.proofs.Common.{◌≡◌, ℕ, zero, suc, ◌+◌, ◌-◌, ◌*◌, ◌/◌, ◌%◌, ◌^◌, ◌<◌, ◌&&◌, leb, ◌∙◌, inl, inr, mod-eq_of_lt, mul-one, div-one, arith}
use lib.Bits.{bit_or, or_self, or_zero_r}
use lib.Pow.{shr_le}
use mathlib.Core.Bool.{or-false}
use native.Mathlib.Nat.{mul-mod_left}
use Rattle.std.proofs.lemmas.Bool.Decides.{leb_tells}
use Rattle.word.proofs.EachBit.{bit_of-or}
use Rattle.word.proofs.Moves.{bit_cut, bit_shl, bit_shr}
use Rattle.word.proofs.Widths.{none_above}
use Rattle.word.specs.Fields.{bit_of, field_of}
use Rattle.word.specs.Shifts.{ror_c}

module _ (x : ℕ) (h : x < 2 ^ 32) where
  by_amount : (m : ℕ) → m < 32 → bit_or (x / 2 ^ m) (x * 2 ^ ((32 - m) % 32) % 2 ^ 32) ≡ bit_or (field_of x m 32) (field_of (x * 2 ^ (32 - m)) 0 32)
  by_amount zero p =
      let same : x % 2 ^ 32 ≡ x = mod-eq_of_lt h in
      simp (div-one, mul-one, mul-mod_left, same, or_self, or_zero_r)
  by_amount (suc m) p =
      let e : (32 - suc m) % 32 ≡ 32 - suc m = omega arith in
      let same : x / 2 ^ suc m % 2 ^ 32 ≡ x / 2 ^ suc m = mod-eq_of_lt (omega (arith, shr_le x (suc m))) in
      simp (div-one, e, same)

  pub ror_value : (n : ℕ) → bit_or (x / 2 ^ (n % 32)) (x * 2 ^ ((32 - n % 32) % 32) % 2 ^ 32) ≡ (ror_c x n).value
  ror_value n = by_amount (n % 32) (omega arith)

  pub bit_ror : (n k : ℕ) → k < 32 → bit_of (ror_c x n).value k ≡ bit_of x ((k + n) % 32)
  bit_ror n k p =
      let m : ℕ = n % 32 in
      let down : bit_of (field_of x m 32) k ≡ bit_of x (k + m) = bit_cut (x / 2 ^ m) 32 k p ∙ bit_shr x m k in
      let up : bit_of (field_of (x * 2 ^ (32 - m)) 0 32) k ≡ (leb (32 - m) k && bit_of x (k - (32 - m))) =
      rw div-one (bit_cut (x * 2 ^ (32 - m)) 32 k p ∙ bit_shl x (32 - m) k) in
      bit_of-or (field_of x m 32) (field_of (x * 2 ^ (32 - m)) 0 32) k ∙ rw (down, up) (
      elim (leb_tells (32 - m) k) [
        | inl q ↦
            let e : (k + n) % 32 ≡ k - (32 - m) = omega (arith, q.1) in
            let none : x / 2 ^ (k + m) ≡ 0 = none_above x 32 (k + m) h (omega (arith, q.1)) in
            rw (q.0, none, e)
        | inr q ↦
            let e : (k + n) % 32 ≡ k + m = omega (arith, q.1) in
            rw (q.0, or-false, e)
      ])
