-- The instructions that compute: their operation as the instruction pages state it, before PC moves on.
use Rattle.std.specs.Prelude.{ℕ, ◌*◌, ◌%◌, ◌^◌, Bool, true, false, cond, ◌==◌}
use Rattle.word.specs.Addresses.{align_to}
use Rattle.word.specs.Bitwise.{not_word, logic_of}
use Rattle.word.specs.Extend.{sign_extend}
use Rattle.word.specs.Fields.{field_of}
use Rattle.word.specs.Flags.{of_sum, with_result, with_shifted}
use Rattle.word.specs.Reverse.{rev_of, rev16_of, revsh_of}
use Rattle.word.specs.Shifts.{shift_c}
use Rattle.word.specs.Sums.{add_with_carry}
use Rattle.word.specs.declared.bitwise.Logic.TheVariants.{And, Orr, Eor, Bic}
use Rattle.word.specs.declared.shifts.Shift.TheVariants.{Lsl, Lsr, Asr, Ror}
use Rattle.word.specs.declared.shifts.Shifted.{Shifted}
use Rattle.word.specs.declared.sums.Sum.{Sum}
use Rattle.thumb.specs.declared.instructions.Basic.{Basic}
use Rattle.thumb.specs.declared.instructions.Basic.TheVariants as basic
use Rattle.thumb.specs.declared.instructions.Operation.{Operation}
use Rattle.thumb.specs.declared.instructions.Operation.TheVariants as op
use Rattle.thumb.specs.declared.instructions.Special.{Special}
use Rattle.thumb.specs.declared.instructions.Special.TheVariants as special
use Rattle.thumb.specs.declared.instructions.Unary.{Unary}
use Rattle.thumb.specs.declared.instructions.Unary.TheVariants.{Sxth, Sxtb, Uxth, Uxtb, Rev, Rev16, Revsh}
use Rattle.arch.specs.Registers.{plus, minus, with_pc, with_flags, sp, with_sp, pc_value, reg, with_reg, moved_on}
use Rattle.arch.specs.declared.registers.Registers.{Registers}

-- a sum into R[d], with all four flags
abbrev pub summed : Registers → ℕ → Sum → Registers
summed s d r = with_flags (with_reg s d r.value) (of_sum r)

-- the four flags of a sum, and nothing else
abbrev pub compared : Registers → Sum → Registers
compared s r = with_flags s (of_sum r)

-- a result into R[d], with N and Z
abbrev pub resulted : Registers → ℕ → ℕ → Registers
resulted s d result = with_flags (with_reg s d result) (with_result s.flags result)

-- a shifted word into R[d], with N, Z and C
abbrev pub shifted : Registers → ℕ → Shifted → Registers
shifted s d r = with_flags (with_reg s d r.value) (with_shifted s.flags r)

-- x - y is x + NOT(y) + 1
abbrev pub difference : ℕ → ℕ → Sum
difference x y = add_with_carry x (not_word y) true

-- the carry, as it stands
abbrev pub carry : Registers → Bool
carry s = s.flags.c

-- shift (immediate), add, subtract, move and compare
abbrev pub basic_result : Basic → Registers → Registers
basic_result (basic.Lsl d m by) s = shifted s d (shift_c Lsl (reg s m) by (carry s))
basic_result (basic.Lsr d m by) s = shifted s d (shift_c Lsr (reg s m) by (carry s))
basic_result (basic.Asr d m by) s = shifted s d (shift_c Asr (reg s m) by (carry s))
basic_result (basic.Mov d m) s = resulted s d (reg s m)
basic_result (basic.AddRegister d n m) s = summed s d (add_with_carry (reg s n) (reg s m) false)
basic_result (basic.SubRegister d n m) s = summed s d (difference (reg s n) (reg s m))
basic_result (basic.AddSmall d n imm) s = summed s d (add_with_carry (reg s n) imm false)
basic_result (basic.SubSmall d n imm) s = summed s d (difference (reg s n) imm)
basic_result (basic.MovByte d imm) s = resulted s d imm
basic_result (basic.CmpByte n imm) s = compared s (difference (reg s n) imm)
basic_result (basic.AddByte dn imm) s = summed s dn (add_with_carry (reg s dn) imm false)
basic_result (basic.SubByte dn imm) s = summed s dn (difference (reg s dn) imm)

-- data processing on two registers; a shift is by the low byte of the second
abbrev pub operation_result : Operation → ℕ → ℕ → Registers → Registers
operation_result op.And dn m s = resulted s dn (logic_of And (reg s dn) (reg s m))
operation_result op.Eor dn m s = resulted s dn (logic_of Eor (reg s dn) (reg s m))
operation_result op.Lsl dn m s = shifted s dn (shift_c Lsl (reg s dn) (field_of (reg s m) 0 8) (carry s))
operation_result op.Lsr dn m s = shifted s dn (shift_c Lsr (reg s dn) (field_of (reg s m) 0 8) (carry s))
operation_result op.Asr dn m s = shifted s dn (shift_c Asr (reg s dn) (field_of (reg s m) 0 8) (carry s))
operation_result op.Adc dn m s = summed s dn (add_with_carry (reg s dn) (reg s m) (carry s))
operation_result op.Sbc dn m s = summed s dn (add_with_carry (reg s dn) (not_word (reg s m)) (carry s))
operation_result op.Ror dn m s = shifted s dn (shift_c Ror (reg s dn) (field_of (reg s m) 0 8) (carry s))
operation_result op.Tst dn m s = with_flags s (with_result s.flags (logic_of And (reg s dn) (reg s m)))
operation_result op.Rsb dn m s = summed s dn (difference 0 (reg s m))
operation_result op.Cmp dn m s = compared s (difference (reg s dn) (reg s m))
operation_result op.Cmn dn m s = compared s (add_with_carry (reg s dn) (reg s m) false)
operation_result op.Orr dn m s = resulted s dn (logic_of Orr (reg s dn) (reg s m))
operation_result op.Mul dn m s = resulted s dn ((reg s dn * reg s m) % 2 ^ 32)
operation_result op.Bic dn m s = resulted s dn (logic_of Bic (reg s dn) (reg s m))
operation_result op.Mvn dn m s = resulted s dn (not_word (reg s m))

-- extensions and reversals
abbrev pub unary_value : Unary → ℕ → ℕ
unary_value Sxth x = sign_extend 16 32 (field_of x 0 16)
unary_value Sxtb x = sign_extend 8 32 (field_of x 0 8)
unary_value Uxth x = field_of x 0 16
unary_value Uxtb x = field_of x 0 8
unary_value Rev x = rev_of x
unary_value Rev16 x = rev16_of x
unary_value Revsh x = revsh_of x

-- a result into any register: ALUWritePC() for PC, else R[d], and PC moves on
abbrev pub written_to : Registers → ℕ → ℕ → Registers
written_to s d v = with_pc (with_reg s d v) (cond (d == 15) (align_to v 2) (plus s.pc 2))

-- sums, a comparison and a move of any registers, with what PC comes to
abbrev pub special_result : Special → Registers → Registers
special_result (special.Add dn m) s = written_to s dn (plus (reg s dn) (reg s m))
special_result (special.Cmp n m) s = moved_on 2 (compared s (difference (reg s n) (reg s m)))
special_result (special.Mov d m) s = written_to s d (reg s m)
special_result (special.Adr d imm) s = written_to s d (plus (align_to (pc_value s) 4) imm)
special_result (special.AddSp d imm) s = written_to s d (plus (sp s) imm)
special_result (special.RaiseSp imm) s = moved_on 2 (with_sp s (plus (sp s) imm))
special_result (special.LowerSp imm) s = moved_on 2 (with_sp s (minus (sp s) imm))
