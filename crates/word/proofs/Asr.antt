-- ASR_C, as a shift of signed words gives it.
use Rattle.std.proofs.Common.{◌≡◌, ℕ, suc, ◌+◌, ◌-◌, ◌*◌, ◌/◌, ◌^◌, ◌<◌, ◌≤◌, min, Bool, true, false, not, ltb, pos, negsuc, sym, refl, ap, ◌∙◌, inl, inr, mod-eq_of_lt, add_comm, zero-add, arith, pow_mono, w32, to_z, of_z}
use lib.Pow.{shr_le}
use lib.Signed.{shr_z}
use mir.Val.{sel}
use Rattle.std.proofs.lemmas.Int.{of_z-to_z}
use Rattle.std.proofs.lemmas.Bool.Decides.{leb_tells, nat_tests}
use Rattle.word.proofs.Moves.{bit_extend}
use Rattle.word.proofs.Signs.{ones_above, top_bit}
use Rattle.word.proofs.Widths.{none_above, not_shr}
use Rattle.word.specs.Extend.{replicate}
use Rattle.word.specs.Fields.{bit_of, field_of}
use Rattle.word.specs.Shifts.{asr_c}

-- a word whose sign is set is moved as its complement is
abbrev moved : Bool → ℕ → ℕ → ℕ
moved true x n = 2 ^ 32 - 1 - (2 ^ 32 - 1 - x) / 2 ^ n
moved false x n = x / 2 ^ n

-- below its top bit a word is gone after 31 moves
half : (x n : ℕ) → x < 2 ^ 31 → x / 2 ^ min n 31 ≡ x / 2 ^ n
half x n h = elim (leb_tells n 31) [
  | inl p ↦ let e : min n 31 ≡ n = omega (arith, p.1) in rw e
  | inr p ↦ let e : min n 31 ≡ 31 = omega (arith, p.1) in rw e (none_above x 31 31 h (omega arith) ∙ sym (none_above x 31 n h (omega (arith, p.1))))
]

module _ (x : ℕ) (h : x < 2 ^ 32) where
  top : (b : Bool) → bit_of x 31 ≡ b → ltb x (2 ^ 31) ≡ not b
  top b e = grind (arith, nat_tests, top_bit 32 (omega arith) x h)

  clamped : (n : ℕ) (b : Bool) → bit_of x 31 ≡ b → moved b x (min n 31) ≡ moved b x n
  clamped n true e = ap (λ (y : ℕ). 2 ^ 32 - 1 - y) (half (2 ^ 32 - 1 - x) n (grind (arith, nat_tests, top true e)))
  clamped n false e = half x n (grind (arith, nat_tests, top false e))

  -- what the casts and the shift compute
  machine : (n : ℕ) (b : Bool) → bit_of x 31 ≡ b → of_z w32 (to_z w32 (of_z w32 (shr_z (to_z w32 (of_z w32 (to_z w32 x))) (2 ^ n)))) ≡ moved b x n
  machine n b e =
      ap (λ y. of_z w32 (to_z w32 (of_z w32 (shr_z (to_z w32 y) (2 ^ n))))) (of_z-to_z w32 x h)
      ∙ ap (λ b. of_z w32 (to_z w32 (of_z w32 (shr_z (sel b (pos x) (negsuc (2 ^ 32 - suc x))) (2 ^ n))))) (top b e)
      ∙ by_sign b
    where
      by_sign : (b : Bool) → of_z w32 (to_z w32 (of_z w32 (shr_z (sel (not b) (pos x) (negsuc (2 ^ 32 - suc x))) (2 ^ n)))) ≡ moved b x n
      by_sign true =
          let e : 2 ^ 32 - suc x ≡ 2 ^ 32 - 1 - x = omega arith in
          of_z-to_z w32 (2 ^ 32 - suc ((2 ^ 32 - suc x) / 2 ^ n)) (omega arith) ∙ omega (arith, ap (λ (y : ℕ). y / 2 ^ n) e)
      by_sign false = of_z-to_z w32 (x / 2 ^ n) (omega (arith, shr_le x n))

  extended : (n : ℕ) (b : Bool) → bit_of x 31 ≡ b → field_of (replicate b (n + 32 - 32) * 2 ^ 32 + x) n 32 ≡ moved b x n
  extended n true e =
      let y : ℕ = 2 ^ 32 - 1 - x in
      let wide : 2 ^ 32 ≤ 2 ^ (32 + n) = pow_mono {i = 32} {j = 32 + n} (omega arith) in
      let turned : (2 ^ (n + 32 - 32) - 1) * 2 ^ 32 + x ≡ 2 ^ (32 + n) - 1 - y =
      omega (arith, ones_above 32 (n + 32) x (omega arith) (omega arith) h, ap (λ (k : ℕ). 2 ^ k) (add_comm n 32)) in
      rw (turned, not_shr y 32 n (omega arith)) (mod-eq_of_lt (omega arith))
  extended n false e = rw zero-add (mod-eq_of_lt (omega (arith, shr_le x n)))

  pub asr_value : (n : ℕ) → of_z w32 (to_z w32 (of_z w32 (shr_z (to_z w32 (of_z w32 (to_z w32 x))) (2 ^ min n 31)))) ≡ (asr_c x n).value
  asr_value n = machine (min n 31) (bit_of x 31) refl ∙ clamped n (bit_of x 31) refl ∙ sym (extended n (bit_of x 31) refl)

  pub asr_carry : (n : ℕ) → 0 < n → bit_of x (min (n - 1) 31) ≡ (asr_c x n).carry
  asr_carry n p = sym (bit_extend 32 (n + 32) x (n - 1) (omega arith) (omega arith) h (omega arith))
