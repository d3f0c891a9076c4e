-- Sets of numbers below a width w, as the bits of a word.
use Rattle.std.specs.Prelude.{◌≡◌, ℕ, ◌+◌, ◌-◌, ◌^◌, ◌<◌, true, false, cond, not, ◌&&◌, ◌||◌, ◌==◌, bit_and, bit_or, count_ones, nat_lt}
use Rattle.word.specs.Fields.{bit_of}
use Rattle.word.specs.Sums.{one_if}

abbrev pub set_with : ℕ → ℕ → ℕ → ℕ
set_with w set k = cond (nat_lt k w && not (bit_of set k)) (set + 2 ^ k) set

abbrev pub set_without : ℕ → ℕ → ℕ
set_without set k = cond (bit_of set k) (set - 2 ^ k) set

-- r is the set with k: one more where there is room and k was not in it
pub record Added (w set k r : ℕ) : Type 0 where
  pub value : r ≡ set_with w set k
  pub members : (j : ℕ) → bit_of r j ≡ (bit_of set j || (j == k && nat_lt j w))
  pub count : count_ones r ≡ count_ones set + one_if (nat_lt k w && not (bit_of set k))

-- r is the set without k: one less where k was in it
pub record Removed (set k r : ℕ) : Type 0 where
  pub value : r ≡ set_without set k
  pub members : (j : ℕ) → bit_of r j ≡ (bit_of set j && not (j == k))
  pub count : count_ones r + one_if (bit_of set k) ≡ count_ones set

-- what the mask of k does to any set
pub record Mask (w k mask : ℕ) : Type 0 where
  pub tests : (set : ℕ) → set < 2 ^ w → not ((bit_and set mask) == 0) ≡ bit_of set k
  pub adds : (set : ℕ) → set < 2 ^ w → Added w set k (bit_or set mask)
  pub removes : (set : ℕ) → set < 2 ^ w → Removed set k (bit_and set (2 ^ w - 1 - mask))

-- LowestSetBit(set) is k
pub record Least (w set k : ℕ) : Type 0 where
  pub within : k < w
  pub member : bit_of set k ≡ true
  pub lowest : (j : ℕ) → j < k → bit_of set j ≡ false
