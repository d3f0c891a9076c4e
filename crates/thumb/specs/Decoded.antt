-- What an encoding means, by the table of its diagrams.
use Rattle.std.specs.Prelude.{◌≡◌, ℕ, ◌+◌, ◌*◌, ◌/◌, ◌%◌, ◌^◌, Bool, cond, ◌||◌, List, [], ◌∷◌, Err, ◌==◌}
use Rattle.thumb.specs.Diagram.{Bits, bits_of, letter, agrees, spelled}
use Rattle.thumb.specs.Rows.{Answer, Row, narrow_rows, wide_rows}
use Rattle.thumb.specs.declared.instructions.Refusal.TheVariants.{Undefined, Unpredictable}

-- the fixed bits are as drawn: the encoding is this row's
abbrev pub fits : Row → Bits → Bool
fits r b = agrees (letter "0") (letter "1") r.drawn b

-- the should-be bits are as drawn
abbrev pub proper : Row → Bits → Bool
proper r b = agrees (letter "z") (letter "w") r.drawn b

-- what a row says of the encodings that fit it
abbrev pub answer : Row → Bits → Answer
answer r b = cond (proper r b) (r.means (λ l. spelled (letter l) r.drawn b)) (Err Unpredictable)

unfoldable pub lookup : List Row → Bits → Answer
lookup [] b = Err Undefined
lookup (r ∷ rs) b = cond (fits r b) (answer r b) (lookup rs b)

-- a second halfword belongs to it: bits [15:11] are 11101, 11110 or 11111
abbrev pub wide_first : ℕ → Bool
wide_first first = first / 2 ^ 11 == 29 || (first / 2 ^ 11 == 30 || first / 2 ^ 11 == 31)

abbrev pub decoded_narrow : ℕ → Answer
decoded_narrow x = lookup narrow_rows (bits_of x)

abbrev pub decoded_wide : ℕ → Answer
decoded_wide x = lookup wide_rows (bits_of x)

-- x is of miscellaneous control and no BL, and p are its bits from `from` up
pub record IsControl (x from p : ℕ) : Type 0 where
  pub prefix : x / 2 ^ from ≡ p
  pub high : x / 2 ^ 14 % 2 ^ 2 ≡ 2
  pub low : x / 2 ^ 12 % 2 ^ 1 ≡ 0

abbrev pub decoded : ℕ → ℕ → Answer
decoded first second = cond (wide_first first) (decoded_wide (first * 2 ^ 16 + second)) (decoded_narrow first)
