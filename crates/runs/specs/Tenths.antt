-- Panel words as temperatures.
use Rattle.std.specs.Prelude.{ℕ, zero, suc, List, ℤ, pos, ◌+ℤ◌, ◌*ℤ◌, ◌≤ℤ◌, ◌<ℤ◌, slice_index}
use Rattle.std.proofs.Common.{to_z}
use Rattle.std.specs.Int.{int_div_euclid, w32}

-- a word as a two's-complement number
abbrev pub hundredths : ℕ → ℤ
hundredths word = to_z w32 word

-- tenths, from hundredths
abbrev pub rounded : ℤ → ℤ
rounded w = int_div_euclid (w +ℤ pos 5) (pos 10)

-- t is the greatest whole number not above (w + 5) / 10
pub record Rounded (w t : ℤ) : Type 0 where
  pub within : (pos 10 *ℤ t) ≤ℤ (w +ℤ pos 5)
  pub greatest : (w +ℤ pos 5) <ℤ (pos 10 *ℤ t +ℤ pos 10)

-- how many of a panel's words are temperatures
abbrev pub summed : ℕ
summed = 16

-- the sum of the tenths of the first k words
unfoldable pub sum_of_first : ℕ → List ℕ → ℤ
sum_of_first zero words = pos 0
sum_of_first (suc k) words = sum_of_first k words +ℤ rounded (hundredths (slice_index words k))
