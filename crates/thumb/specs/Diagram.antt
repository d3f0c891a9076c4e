-- Encoding diagrams as the manual draws them: a character for each bit, the highest bit first.
-- 0 and 1 are fixed bits, z and w are drawn (0) and (1), and any other letter names the field that its bits spell.
use Rattle.std.specs.Prelude.{ℕ, ◌+◌, ◌*◌, ◌/◌, ◌%◌, ◌^◌, Bool, true, cond, ◌&&◌, List, [], ◌∷◌, length, codes, ◌==◌, slice_index}
use Prim.Native.String.{String}

-- the bits of an encoding, by number
abbrev pub Bits : Type 0
Bits = ℕ → ℕ

abbrev pub bits_of : ℕ → Bits
bits_of x j = x / 2 ^ j % 2

-- the character of a text of one
abbrev pub letter : String → ℕ
letter s = slice_index (codes s) 0

-- each bit under the character z is 0, and each under o is 1
unfoldable pub agrees : ℕ → ℕ → List ℕ → Bits → Bool
agrees z o [] b = true
agrees z o (c ∷ d) b =
    cond (c == z) (b (length d) == 0) (cond (c == o) (b (length d) == 1) true) && agrees z o d b

-- how many bits a letter has
unfoldable pub size : ℕ → List ℕ → ℕ
size l [] = 0
size l (c ∷ d) = cond (c == l) (1 + size l d) (size l d)

-- the number that the bits under a letter spell
unfoldable pub spelled : ℕ → List ℕ → Bits → ℕ
spelled l [] b = 0
spelled l (c ∷ d) b = cond (c == l) (b (length d) * 2 ^ size l d + spelled l d b) (spelled l d b)
