-- The low word of a product of signed words.
use Rattle.std.proofs.Common.{◌≡◌, ℕ, ◌*◌, ◌%◌, ◌^◌, ◌<◌, ◌*ℤ◌, arith, w32, to_z}
use Rattle.std.proofs.lemmas.Int.{ints, wrapping_mul-bits}
use Rattle.std.proofs.lemmas.Bool.Decides.{nat_tests}
use Rattle.std.specs.Int.{int_wrap}
use Rattle.word.specs.Integers.{signed}

-- the signed reading of the machine's words
reading : (x : ℕ) → x < 2 ^ 32 → to_z w32 x ≡ signed 32 x
reading x h = grind (arith, ints, nat_tests)

pub signed_product : (x y : ℕ) → x < 2 ^ 32 → y < 2 ^ 32 → signed 32 (x * y % 2 ^ 32) ≡ int_wrap w32 (signed 32 x *ℤ signed 32 y)
signed_product x y h k = rw (← reading (x * y % 2 ^ 32) (omega arith), ← reading x h, ← reading y k) (wrapping_mul-bits w32 x y h k)
