-- Addition with a carry in, a carry out and overflow.
use Rattle.std.specs.Prelude.{ℕ, ◌+◌, ◌%◌, ◌^◌, Bool, cond, not, ℤ, pos, ◌+ℤ◌, ◌==◌}
use Rattle.word.specs.Integers.{eqZ, signed}
use Rattle.word.specs.declared.sums.Sum.{Sum}

-- UInt of one bit
abbrev pub one_if : Bool → ℕ
one_if b = cond b 1 0

abbrev pub unsigned_sum : ℕ → ℕ → Bool → ℕ
unsigned_sum x y carry_in = x + y + one_if carry_in

abbrev pub signed_sum : ℕ → ℕ → Bool → ℤ
signed_sum x y carry_in = (signed 32 x +ℤ signed 32 y) +ℤ pos (one_if carry_in)

-- AddWithCarry(x, y, carry_in)
abbrev pub add_with_carry : ℕ → ℕ → Bool → Sum
add_with_carry x y carry_in =
    let result : ℕ = unsigned_sum x y carry_in % 2 ^ 32 in
    record {
      value = result;
      carry = not (result == unsigned_sum x y carry_in);
      overflow = not (eqZ (signed 32 result) (signed_sum x y carry_in));
    }
