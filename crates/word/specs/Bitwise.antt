-- The logical operations on words.
use Rattle.std.specs.Prelude.{◌≡◌, ℕ, ◌-◌, ◌^◌, Bool, not, ◌&&◌, ◌||◌, bit_and, bit_or, bit_xor}
use Rattle.std.specs.Bool.{xor}
use Rattle.word.specs.Fields.{bit_of}
use Rattle.word.specs.declared.bitwise.Logic.{Logic}
use Rattle.word.specs.declared.bitwise.Logic.TheVariants.{And, Orr, Eor, Bic}

-- NOT(x)
abbrev pub not_word : ℕ → ℕ
not_word x = 2 ^ 32 - 1 - x

abbrev pub logic_of : Logic → ℕ → ℕ → ℕ
logic_of And x y = bit_and x y
logic_of Orr x y = bit_or x y
logic_of Eor x y = bit_xor x y
logic_of Bic x y = bit_and x (not_word y)

-- what it makes of two bits
abbrev pub on_bits : Logic → Bool → Bool → Bool
on_bits And a b = a && b
on_bits Orr a b = a || b
on_bits Eor a b = xor a b
on_bits Bic a b = a && not b

-- r is the result, as a word and bit by bit
pub record Combined (op : Logic) (x y r : ℕ) : Type 0 where
  pub value : r ≡ logic_of op x y
  pub bits : (k : ℕ) → bit_of r k ≡ on_bits op (bit_of x k) (bit_of y k)
