-- Facts about shifts and widths, each over the width or the amount.
use Rattle.std.proofs.Common.{◌≡◌, ℕ, ◌+◌, ◌-◌, ◌*◌, ◌/◌, ◌%◌, ◌^◌, ◌<◌, ◌≤◌, sym, ap, ◌∙◌, lt_of_lt_of_le, mod-lt, mod-eq_of_lt, add-mul, arith, pow_pos, pow_mono, pow-add, shr_lt}
use lib.Arith.{digits_div}
use lib.Pow.{split}
use native.Mathlib.Nat.{div-eq_of_lt}

-- from its width up a word has no bits
pub none_above : (x w n : ℕ) → x < 2 ^ w → w ≤ n → x / 2 ^ n ≡ 0
none_above x w n h k = div-eq_of_lt (lt_of_lt_of_le h (pow_mono k))

-- below any n from its width up it has them all
pub all_below : (x w n : ℕ) → x < 2 ^ w → w ≤ n → x % 2 ^ n ≡ x
all_below x w n h k = mod-eq_of_lt (lt_of_lt_of_le h (pow_mono k))

-- NOT and a move down change places
pub not_shr : (x j k : ℕ) → x < 2 ^ (j + k) → (2 ^ (j + k) - 1 - x) / 2 ^ k ≡ 2 ^ j - 1 - x / 2 ^ k
not_shr x j k h =
    let r : 2 ^ k - 1 - x % 2 ^ k < 2 ^ k = omega (arith, pow_pos k) in
    let below : x / 2 ^ k < 2 ^ j = shr_lt j k h in
    let p : ℕ = 2 ^ j - 1 - x / 2 ^ k in
    let whole : (p + 1 + x / 2 ^ k) * 2 ^ k ≡ 2 ^ (j + k) = ap (λ (n : ℕ). n * 2 ^ k) (omega arith) ∙ sym (pow-add 2 j k) in
    let parts : 2 ^ (j + k) - 1 - x ≡ p * 2 ^ k + (2 ^ k - 1 - x % 2 ^ k) =
    omega (arith, whole, add-mul (p + 1) (x / 2 ^ k) (2 ^ k), add-mul p 1 (2 ^ k), split x k, mod-lt x (pow_pos k)) in
    ap (λ (n : ℕ). n / 2 ^ k) parts ∙ digits_div p r
