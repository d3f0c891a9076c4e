-- The lowest bit that is set.
use lib.Count.{count_trailing_zeros, under}
use Rattle.std.proofs.Common.{◌≡◌, ℕ, zero, suc, ◌/◌, ◌%◌, ◌^◌, ◌<◌, false, sym, refl, ◌∙◌, div-one, add-one, arith}
use native.Mathlib.Nat.{two-pow-succ}
use Rattle.std.proofs.lemmas.Bool.Decides.{nat_tests}
use Rattle.word.proofs.Moves.{bit_shr}
use Rattle.word.specs.Fields.{bit_of}
use Rattle.word.specs.Sets.{Least}

bit_half : (x j : ℕ) → bit_of (x / 2) j ≡ bit_of x (suc j)
bit_half x j = rw add-one at (bit_shr x 1 j)

-- below the digit d, with what holds of the digits above it
by_digit : (w x t d : ℕ) → x % 2 ≡ d → 0 < x → (0 < x / 2 → Least w (x / 2) t) → Least (suc w) x (under d t)
by_digit w x t zero e p above =
    let rest = above (omega arith) in
    record { within = omega (arith, rest.within); member = sym (bit_half x t) ∙ rest.member; lowest = clear }
  where
    clear : (j : ℕ) → j < suc t → bit_of x j ≡ false
    clear zero h = grind (arith, nat_tests, div-one x)
    clear (suc j) h = sym (bit_half x j) ∙ (above (omega arith)).lowest j (omega arith)
by_digit w x t (suc d) e p above = record {
  within = omega arith;
  member = grind (arith, nat_tests, div-one x);
  lowest = λ j h. absurd (omega arith);
}

pub least_is : (w x : ℕ) → 0 < x → x < 2 ^ w → Least w x (count_trailing_zeros w x)
unfolding count_trailing_zeros
least_is zero x p h = absurd (omega arith)
least_is (suc w) x p h = by_digit w x (count_trailing_zeros w (x / 2)) (x % 2) refl p (λ q. least_is w (x / 2) q (omega (arith, two-pow-succ w)))
