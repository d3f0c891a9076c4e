-- What a word of some width stands for. UInt of a word is the number itself.
use Rattle.std.specs.Prelude.{ℕ, ◌-◌, ◌^◌, Bool, false, cond, ℤ, pos, negsuc, ◌-ℤ◌, ◌==◌}
use Rattle.word.specs.Fields.{bit_of}

-- SInt of a word of w bits
abbrev pub signed : ℕ → ℕ → ℤ
signed w x = cond (bit_of x (w - 1)) (pos x -ℤ pos (2 ^ w)) (pos x)

-- a == b, of integers
abbrev pub eqZ : ℤ → ℤ → Bool
eqZ (pos a) (pos b) = a == b
eqZ (pos a) (negsuc b) = false
eqZ (negsuc a) (pos b) = false
eqZ (negsuc a) (negsuc b) = a == b
