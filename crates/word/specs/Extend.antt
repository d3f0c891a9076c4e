-- ZeroExtend leaves the number as it is.
use Rattle.std.specs.Prelude.{ℕ, ◌+◌, ◌-◌, ◌*◌, ◌^◌, Bool, cond}
use Rattle.word.specs.Fields.{bit_of}

-- Replicate(b, n)
abbrev pub replicate : Bool → ℕ → ℕ
replicate b n = cond b (2 ^ n - 1) 0

-- SignExtend(x, n) of a word of w bits: Replicate(TopBit(x), n - w) : x
abbrev pub sign_extend : ℕ → ℕ → ℕ → ℕ
sign_extend w n x = replicate (bit_of x (w - 1)) (n - w) * 2 ^ w + x
