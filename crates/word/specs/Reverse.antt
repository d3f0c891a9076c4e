-- Bytes in reverse.
use Rattle.std.specs.Prelude.{ℕ, ◌+◌, ◌*◌, ◌^◌}
use Rattle.word.specs.Extend.{sign_extend}
use Rattle.word.specs.Fields.{field_of}

-- byte i, counted from the low end
abbrev pub byte : ℕ → ℕ → ℕ
byte x i = field_of x (8 * i) 8

-- the concatenation a : b : c : d of bytes
abbrev pub four : ℕ → ℕ → ℕ → ℕ → ℕ
four a b c d = a * 2 ^ 24 + b * 2 ^ 16 + c * 2 ^ 8 + d

-- REV
abbrev pub rev_of : ℕ → ℕ
rev_of x = four (byte x 0) (byte x 1) (byte x 2) (byte x 3)

-- REV16
abbrev pub rev16_of : ℕ → ℕ
rev16_of x = four (byte x 2) (byte x 3) (byte x 0) (byte x 1)

-- REVSH: SignExtend(x<7:0>, 24) : x<15:8>
abbrev pub revsh_of : ℕ → ℕ
revsh_of x = sign_extend 8 24 (byte x 0) * 2 ^ 8 + byte x 1

-- the low halfword x<7:0> : x<15:8>
abbrev pub swapped : ℕ → ℕ
swapped x = byte x 0 * 2 ^ 8 + byte x 1
