-- What the tables promise besides the answer for each encoding.
use Rattle.std.specs.Prelude.{◌≡◌, ℕ, ◌+◌, ◌*◌, ◌^◌, ◌<◌, Bool, true, false, List, [], ◌∷◌, IfOk, Err, MatchBool, ◌≢◌}
use Rattle.std.specs.List.{AllByRecursion}
use Rattle.thumb.specs.Diagram.{Bits, bits_of}
use Rattle.thumb.specs.Rows.{Row, Answer, narrow_rows, wide_rows}
use Rattle.thumb.specs.Decoded.{fits, answer, wide_first}
use Rattle.thumb.specs.declared.instructions.Instruction.{Instruction}
use Rattle.thumb.specs.declared.instructions.Instruction.TheVariants.{Basic, Data, Special, Unary, Transfer, Multiple, Branch, System}
use Rattle.thumb.specs.declared.instructions.Basic.{Basic as BasicOp}
use Rattle.thumb.specs.declared.instructions.Basic.TheVariants as basic
use Rattle.thumb.specs.declared.instructions.Special.{Special as SpecialOp}
use Rattle.thumb.specs.declared.instructions.Special.TheVariants as special
use Rattle.thumb.specs.declared.instructions.Address.{Address}
use Rattle.thumb.specs.declared.instructions.Address.TheVariants.{Indexed, Offset, Literal}
use Rattle.thumb.specs.declared.instructions.Multiple.{Multiple as MultipleOp}
use Rattle.thumb.specs.declared.instructions.Multiple.TheVariants.{Stm, Ldm, Push, Pop}
use Rattle.thumb.specs.declared.instructions.Branch.{Branch as BranchOp}
use Rattle.thumb.specs.declared.instructions.Branch.TheVariants.{B, If, Bl, Bx, Blx}
use Rattle.thumb.specs.declared.instructions.System.{System as SystemOp}
use Rattle.thumb.specs.declared.instructions.System.TheVariants.{Svc, Bkpt, Udf, UdfWide, Cps, Hint, Dsb, Dmb, Isb, Mrs, Msr}
use Rattle.thumb.specs.declared.instructions.Refusal.TheVariants.{Undefined}

-- no encoding fits two rows of a table
abbrev pub Apart : List Row → Type 0
Apart [] = Unit {0}
Apart (r ∷ rs) = AllByRecursion (λ s. (b : Bits) → fits r b ≡ true → fits s b ≢ true) rs × Apart rs

-- whichever row fits says the answer, and undefined is the answer where none fits
pub record Told (rows : List Row) (b : Bits) (r : Answer) : Type 0 where
  pub fitting : AllByRecursion (λ row. fits row b ≡ true → r ≡ answer row b) rows
  pub otherwise : AllByRecursion (λ row. fits row b ≡ false) rows → r ≡ Err Undefined

abbrev pub ToldByItsTable : ℕ → ℕ → Answer → Type 0
ToldByItsTable first second r =
    MatchBool (wide_first first) (Told wide_rows (bits_of (first * 2 ^ 16 + second)) r) (Told narrow_rows (bits_of first) r)

abbrev pub basic_registers : BasicOp → List ℕ
basic_registers (basic.Lsl d m by) = d ∷ m ∷ []
basic_registers (basic.Lsr d m by) = d ∷ m ∷ []
basic_registers (basic.Asr d m by) = d ∷ m ∷ []
basic_registers (basic.Mov d m) = d ∷ m ∷ []
basic_registers (basic.AddRegister d n m) = d ∷ n ∷ m ∷ []
basic_registers (basic.SubRegister d n m) = d ∷ n ∷ m ∷ []
basic_registers (basic.AddSmall d n imm) = d ∷ n ∷ []
basic_registers (basic.SubSmall d n imm) = d ∷ n ∷ []
basic_registers (basic.MovByte d imm) = d ∷ []
basic_registers (basic.CmpByte n imm) = n ∷ []
basic_registers (basic.AddByte dn imm) = dn ∷ []
basic_registers (basic.SubByte dn imm) = dn ∷ []

abbrev pub special_data_registers : SpecialOp → List ℕ
special_data_registers (special.Add dn m) = dn ∷ m ∷ []
special_data_registers (special.Cmp n m) = n ∷ m ∷ []
special_data_registers (special.Mov d m) = d ∷ m ∷ []
special_data_registers (special.Adr d imm) = d ∷ []
special_data_registers (special.AddSp d imm) = d ∷ []
special_data_registers (special.RaiseSp imm) = []
special_data_registers (special.LowerSp imm) = []

abbrev pub address_registers : Address → List ℕ
address_registers (Indexed n m) = n ∷ m ∷ []
address_registers (Offset n imm) = n ∷ []
address_registers (Literal imm) = []

abbrev pub multiple_registers : MultipleOp → List ℕ
multiple_registers (Stm n list) = n ∷ []
multiple_registers (Ldm n list) = n ∷ []
multiple_registers (Push list lr) = []
multiple_registers (Pop list pc) = []

abbrev pub branch_registers : BranchOp → List ℕ
branch_registers (B offset) = []
branch_registers (If condition offset) = []
branch_registers (Bl offset) = []
branch_registers (Bx m) = m ∷ []
branch_registers (Blx m) = m ∷ []

abbrev pub system_registers : SystemOp → List ℕ
system_registers (Svc imm) = []
system_registers (Bkpt imm) = []
system_registers (Udf imm) = []
system_registers (UdfWide imm) = []
system_registers (Cps disable) = []
system_registers (Hint number) = []
system_registers (Dsb option) = []
system_registers (Dmb option) = []
system_registers (Isb option) = []
system_registers (Mrs d from) = d ∷ []
system_registers (Msr to n) = n ∷ []

-- the registers that an instruction names
abbrev pub registers : Instruction → List ℕ
registers (Basic i) = basic_registers i
registers (Data op dn m) = dn ∷ m ∷ []
registers (Special i) = special_data_registers i
registers (Unary op d m) = d ∷ m ∷ []
registers (Transfer op t address) = t ∷ address_registers address
registers (Multiple i) = multiple_registers i
registers (Branch i) = branch_registers i
registers (System i) = system_registers i

-- a list of low registers that names one, or else its extra bit does
abbrev pub Lists : ℕ → Bool → Type 0
Lists list extra = (list < 2 ^ 8) × (list ≡ 0 → extra ≡ true)

abbrev pub MultipleLists : MultipleOp → Type 0
MultipleLists (Stm n list) = Lists list false
MultipleLists (Ldm n list) = Lists list false
MultipleLists (Push list lr) = Lists list lr
MultipleLists (Pop list pc) = Lists list pc

abbrev pub InstructionLists : Instruction → Type 0
InstructionLists (Basic i) = Unit {0}
InstructionLists (Data op dn m) = Unit {0}
InstructionLists (Special i) = Unit {0}
InstructionLists (Unary op d m) = Unit {0}
InstructionLists (Transfer op t address) = Unit {0}
InstructionLists (Multiple i) = MultipleLists i
InstructionLists (Branch i) = Unit {0}
InstructionLists (System i) = Unit {0}

-- every register is below 16, and every list is one of eight registers and not empty
abbrev pub OperandsStand : Answer → Type 0
OperandsStand r = IfOk r (λ i. AllByRecursion (λ n. n < 16) (registers i) × InstructionLists i)
