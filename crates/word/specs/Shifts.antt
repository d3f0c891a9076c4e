-- Shifts of a word with the last bit shifted out as the carry.
use Rattle.std.specs.Prelude.{ℕ, ◌+◌, ◌-◌, ◌*◌, ◌%◌, ◌^◌, min, Bool, cond, ◌&&◌, ◌==◌, bit_or, nat_le}
use Rattle.word.specs.Extend.{sign_extend}
use Rattle.word.specs.Fields.{bit_of, field_of}
use Rattle.word.specs.declared.shifts.Shift.{Shift}
use Rattle.word.specs.declared.shifts.Shift.TheVariants.{Lsl, Lsr, Asr, Ror}
use Rattle.word.specs.declared.shifts.Shifted.{Shifted}

-- LSL_C(x, n), with extended_x = x : Zeros(n)
abbrev pub lsl_c : ℕ → ℕ → Shifted
lsl_c x n = record { value = field_of (x * 2 ^ n) 0 32; carry = bit_of (x * 2 ^ n) 32 }

-- LSR_C(x, n), with extended_x = ZeroExtend(x, n + 32)
abbrev pub lsr_c : ℕ → ℕ → Shifted
lsr_c x n = record { value = field_of x n 32; carry = bit_of x (n - 1) }

-- ASR_C(x, n), with extended_x = SignExtend(x, n + 32)
abbrev pub asr_c : ℕ → ℕ → Shifted
asr_c x n =
    let extended : ℕ = sign_extend 32 (n + 32) x in
    record { value = field_of extended n 32; carry = bit_of extended (n - 1) }

-- ROR_C(x, n): LSR(x, m) OR LSL(x, 32 - m), with m = n MOD 32
abbrev pub ror_c : ℕ → ℕ → Shifted
ror_c x n =
    let result : ℕ = bit_or (lsr_c x (n % 32)).value (lsl_c x (32 - n % 32)).value in
    record { value = result; carry = bit_of result 31 }

abbrev pub by_kind : Shift → ℕ → ℕ → Shifted
by_kind Lsl x n = lsl_c x n
by_kind Lsr x n = lsr_c x n
by_kind Asr x n = asr_c x n
by_kind Ror x n = ror_c x n

-- Shift_C(x, kind, n, carry_in)
abbrev pub shift_c : Shift → ℕ → ℕ → Bool → Shifted
shift_c kind x n carry_in = cond (n == 0) (record { value = x; carry = carry_in }) (by_kind kind x n)

-- where bit k of the shifted word comes from
abbrev pub bit_after : Shift → ℕ → ℕ → ℕ → Bool
bit_after Lsl x n k = nat_le n k && bit_of x (k - n)
bit_after Lsr x n k = bit_of x (k + n)
bit_after Asr x n k = bit_of x (min (k + n) 31)
bit_after Ror x n k = bit_of x ((k + n) % 32)
