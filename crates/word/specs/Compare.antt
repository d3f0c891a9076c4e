-- What the conditions say of two words after their comparison.
use Rattle.std.specs.Prelude.{◌≡◌, ℕ, ◌==◌, int_le, int_lt, nat_le, nat_lt}
use Rattle.word.specs.Conditions.{passes}
use Rattle.word.specs.Integers.{signed}
use Rattle.word.specs.declared.conditions.Condition.TheVariants.{Eq, Cs, Hi, Ge, Gt}
use Rattle.word.specs.declared.flags.Flags.{Flags}

-- the conditions NE, CC, LS, LT and LE are the opposites of these
pub record Orders (x y : ℕ) (f : Flags) : Type 0 where
  pub equal : passes Eq f ≡ (x == y)
  pub higher_same : passes Cs f ≡ nat_le y x
  pub higher : passes Hi f ≡ nat_lt y x
  pub greater_equal : passes Ge f ≡ int_le (signed 32 y) (signed 32 x)
  pub greater : passes Gt f ≡ int_lt (signed 32 y) (signed 32 x)
