-- Memory as a byte at each address, and little-endian numbers in it.
use Rattle.std.specs.Prelude.{ℕ, zero, suc, ◌+◌, ◌*◌, ◌/◌, ◌%◌, cond, ◌==◌}

abbrev pub Bytes : Type 0
Bytes = ℕ → ℕ

-- m with the byte b at x
abbrev pub with_byte : Bytes → ℕ → ℕ → Bytes
with_byte m x b k = cond (k == x) b (m k)

-- the number in the n bytes from x on, the lowest first
unfoldable pub load : ℕ → Bytes → ℕ → ℕ
load zero m x = 0
load (suc n) m x = m x + 256 * load n m (x + 1)

-- m with the lowest n bytes of v from x on, the lowest first
unfoldable pub store : ℕ → Bytes → ℕ → ℕ → Bytes
store zero m x v = m
store (suc n) m x v = store n (with_byte m x (v % 256)) (x + 1) (v / 256)
