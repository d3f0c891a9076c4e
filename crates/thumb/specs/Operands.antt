-- What the instruction pages make of the fields of an encoding.
use Rattle.std.specs.Prelude.{ℕ, ◌+◌, ◌*◌, ◌^◌, Bool, cond, List, [], ◌∷◌, Some, None, Option, Result, ◌==◌}
use Rattle.word.specs.Extend.{sign_extend}
use Rattle.std.specs.Option.{ok_or}
use Rattle.thumb.specs.declared.instructions.Refusal.{Refusal}
use Rattle.thumb.specs.declared.instructions.Refusal.TheVariants.{Unpredictable}
use Rattle.thumb.specs.declared.instructions.SpecialRegister.{SpecialRegister}
use Rattle.thumb.specs.declared.instructions.SpecialRegister.TheVariants.{Apsr, Iapsr, Eapsr, Xpsr, Ipsr, Epsr, Iepsr, Msp, Psp, Primask, Control}

-- a field of one bit
abbrev pub flag : ℕ → Bool
flag n = n == 1

-- DecodeImmShift('01' or '10', imm5): no shift by 0, and 32 in its place
abbrev pub shift_amount : ℕ → ℕ
shift_amount imm5 = cond (imm5 == 0) 32 imm5

-- SignExtend(imm:'0', 32) where imm:'0' has a number of bits
abbrev pub branch_offset : ℕ → ℕ → ℕ
branch_offset bits imm = sign_extend bits 32 (imm * 2)

-- SignExtend(S:I1:I2:imm10:imm11:'0', 32), with I1 = NOT(J1 EOR S) and I2 = NOT(J2 EOR S)
abbrev pub link_offset : ℕ → ℕ → ℕ → ℕ → ℕ → ℕ
link_offset s j1 j2 imm10 imm11 =
    branch_offset 25 ((((s * 2 + cond (j1 == s) 1 0) * 2 + cond (j2 == s) 1 0) * 2 ^ 10 + imm10) * 2 ^ 11 + imm11)

-- the SYSm values of the special registers; the others are reserved
abbrev pub special_registers : List (ℕ × SpecialRegister)
special_registers =
    (0, Apsr) ∷ (1, Iapsr) ∷ (2, Eapsr) ∷ (3, Xpsr) ∷ (5, Ipsr) ∷ (6, Epsr) ∷ (7, Iepsr) ∷ (8, Msp) ∷ (9, Psp)
    ∷ (16, Primask) ∷ (20, Control) ∷ []

abbrev pub listed : {A : Type 0} → List (ℕ × A) → ℕ → Option A
listed [] n = None
listed (e ∷ es) n = cond (n == e.0) (Some e.1) (listed es n)

-- the special register of a SYSm value, or why there is none
abbrev pub special_register_of : ℕ → Result SpecialRegister Refusal
special_register_of sysm = ok_or (listed special_registers sysm) Unpredictable
