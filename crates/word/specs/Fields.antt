-- Bits and bit fields of a number.
use Rattle.std.specs.Prelude.{ℕ, ◌/◌, ◌%◌, ◌^◌, Bool, ◌==◌}

-- x<from + count - 1 : from>
abbrev pub field_of : ℕ → ℕ → ℕ → ℕ
field_of x from count = x / 2 ^ from % 2 ^ count

-- x<k> == '1'
abbrev pub bit_of : ℕ → ℕ → Bool
bit_of x k = field_of x k 1 == 1
