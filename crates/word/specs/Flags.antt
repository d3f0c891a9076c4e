-- The flags that an instruction leaves.
use Rattle.std.specs.Prelude.{ℕ, ◌==◌}
use Rattle.word.specs.Fields.{bit_of}
use Rattle.word.specs.declared.flags.Flags.{Flags}
use Rattle.word.specs.declared.shifts.Shifted.{Shifted}
use Rattle.word.specs.declared.sums.Sum.{Sum}

-- N is result<31>, Z is IsZeroBit(result), C the carry and V the overflow
abbrev pub of_sum : Sum → Flags
of_sum s = record { n = bit_of s.value 31; z = (s.value == 0); c = s.carry; v = s.overflow }

-- N and Z of a result; C and V stay
abbrev pub with_result : Flags → ℕ → Flags
with_result f result = record { n = bit_of result 31; z = (result == 0); c = f.c; v = f.v }

-- N, Z and C of a shifted word; V stays
abbrev pub with_shifted : Flags → Shifted → Flags
with_shifted f s = record { n = bit_of s.value 31; z = (s.value == 0); c = s.carry; v = f.v }
