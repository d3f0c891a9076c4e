-- The encoding diagrams of the instructions, in the order of the manual's encoding tables.
use Rattle.std.specs.Prelude.{ℕ, ◌+◌, ◌*◌, ◌^◌, Bool, cond, ◌&&◌, ◌||◌, List, [], ◌∷◌, ◌++◌, Some, None, Ok, Err, codes, Option, Result, ◌==◌, nat_lt}
use Prim.Native.String.{String}
use Rattle.word.specs.declared.conditions.Condition.{Condition}
use Rattle.word.specs.declared.conditions.Condition.TheVariants.{Eq, Ne, Cs, Cc, Mi, Pl, Vs, Vc, Hi, Ls, Ge, Lt, Gt, Le}
use Rattle.thumb.specs.Operands.{flag, shift_amount, branch_offset, link_offset, special_registers, listed}
use Rattle.thumb.specs.declared.instructions.Instruction.{Instruction}
use Rattle.thumb.specs.declared.instructions.Instruction.TheVariants.{Basic, Data, Special, Unary, Transfer, Multiple, Branch, System}
use Rattle.thumb.specs.declared.instructions.Basic.TheVariants as basic
use Rattle.thumb.specs.declared.instructions.Operation.{Operation}
use Rattle.thumb.specs.declared.instructions.Operation.TheVariants as op
use Rattle.thumb.specs.declared.instructions.Special.TheVariants as special
use Rattle.thumb.specs.declared.instructions.Unary.{Unary as UnaryOp}
use Rattle.thumb.specs.declared.instructions.Unary.TheVariants.{Sxth, Sxtb, Uxth, Uxtb, Rev, Rev16, Revsh}
use Rattle.thumb.specs.declared.instructions.Transfer.{Transfer as TransferOp}
use Rattle.thumb.specs.declared.instructions.Transfer.TheVariants.{Str, Strh, Strb, Ldrsb, Ldr, Ldrh, Ldrb, Ldrsh}
use Rattle.thumb.specs.declared.instructions.Address.TheVariants.{Indexed, Offset, Literal}
use Rattle.thumb.specs.declared.instructions.Multiple.TheVariants.{Stm, Ldm, Push, Pop}
use Rattle.thumb.specs.declared.instructions.Branch.TheVariants.{B, If, Bl, Bx, Blx}
use Rattle.thumb.specs.declared.instructions.SpecialRegister.{SpecialRegister}
use Rattle.thumb.specs.declared.instructions.System.{System as SystemOp}
use Rattle.thumb.specs.declared.instructions.System.TheVariants.{Svc, Bkpt, Udf, UdfWide, Cps, Hint, Dsb, Dmb, Isb, Mrs, Msr}
use Rattle.thumb.specs.declared.instructions.Refusal.{Refusal}
use Rattle.thumb.specs.declared.instructions.Refusal.TheVariants.{Unpredictable}

abbrev pub Answer : Type 0
Answer = Result Instruction Refusal

-- the fields of an encoding, by letter
abbrev pub Fields : Type 0
Fields = String → ℕ

-- a diagram, and what the fields of an encoding that fits it mean
pub record Row : Type 0 where
  pub drawn : List ℕ
  pub means : Fields → Answer

abbrev pub row : String → (Fields → Answer) → Row
row drawn means = record { drawn = codes drawn; means = means }

-- "if .. then UNPREDICTABLE"
abbrev pub unless : Bool → Instruction → Answer
unless b i = cond b (Err Unpredictable) (Ok i)

abbrev pub on_two : Operation → String → String → Fields → Answer
on_two o dn m f = Ok (Data o (f dn) (f m))

abbrev pub on_one : UnaryOp → Fields → Answer
on_one o f = Ok (Unary o (f "d") (f "m"))

abbrev pub indexed : TransferOp → Fields → Answer
indexed o f = Ok (Transfer o (f "t") (Indexed (f "n") (f "m")))

-- an immediate followed by zeros is a multiple of 2 or 4
abbrev pub offset : TransferOp → ℕ → Fields → Answer
offset o scale f = Ok (Transfer o (f "t") (Offset (f "n") (f "i" * scale)))

abbrev pub stacked : TransferOp → Fields → Answer
stacked o f = Ok (Transfer o (f "t") (Offset 13 (f "i" * 4)))

abbrev pub branch_if : Condition → Fields → Answer
branch_if c f = Ok (Branch (If c (branch_offset 9 (f "i"))))

abbrev pub chosen : Option SpecialRegister → (SpecialRegister → SystemOp) → Answer
chosen None make = Err Unpredictable
chosen (Some s) make = Ok (System (make s))

-- "if d IN {13,15} || !(UInt(SYSm) IN {0..3,5..9,16,20}) then UNPREDICTABLE"
abbrev pub special_access : ℕ → ℕ → (SpecialRegister → SystemOp) → Answer
special_access d sysm make =
    cond (d == 13 || d == 15) (Err Unpredictable) (chosen (listed special_registers sysm) make)

-- Shift (immediate), add, subtract, move, and compare. LSL by 0 is MOV (register), encoding T2
abbrev pub basics : List Row
basics =
    row "00000iiiiimmmddd"
    (λ f. Ok (Basic (cond ((f "i") == 0) (basic.Mov (f "d") (f "m")) (basic.Lsl (f "d") (f "m") (f "i")))))
    ∷ row "00001iiiiimmmddd" (λ f. Ok (Basic (basic.Lsr (f "d") (f "m") (shift_amount (f "i")))))
    ∷ row "00010iiiiimmmddd" (λ f. Ok (Basic (basic.Asr (f "d") (f "m") (shift_amount (f "i")))))
    ∷ row "0001100mmmnnnddd" (λ f. Ok (Basic (basic.AddRegister (f "d") (f "n") (f "m"))))
    ∷ row "0001101mmmnnnddd" (λ f. Ok (Basic (basic.SubRegister (f "d") (f "n") (f "m"))))
    ∷ row "0001110iiinnnddd" (λ f. Ok (Basic (basic.AddSmall (f "d") (f "n") (f "i"))))
    ∷ row "0001111iiinnnddd" (λ f. Ok (Basic (basic.SubSmall (f "d") (f "n") (f "i"))))
    ∷ row "00100dddiiiiiiii" (λ f. Ok (Basic (basic.MovByte (f "d") (f "i"))))
    ∷ row "00101nnniiiiiiii" (λ f. Ok (Basic (basic.CmpByte (f "n") (f "i"))))
    ∷ row "00110dddiiiiiiii" (λ f. Ok (Basic (basic.AddByte (f "d") (f "i"))))
    ∷ row "00111dddiiiiiiii" (λ f. Ok (Basic (basic.SubByte (f "d") (f "i"))))
    ∷ []

-- Data processing
abbrev pub operations : List Row
operations =
    row "0100000000mmmddd" (on_two op.And "d" "m")
    ∷ row "0100000001mmmddd" (on_two op.Eor "d" "m")
    ∷ row "0100000010mmmddd" (on_two op.Lsl "d" "m")
    ∷ row "0100000011mmmddd" (on_two op.Lsr "d" "m")
    ∷ row "0100000100mmmddd" (on_two op.Asr "d" "m")
    ∷ row "0100000101mmmddd" (on_two op.Adc "d" "m")
    ∷ row "0100000110mmmddd" (on_two op.Sbc "d" "m")
    ∷ row "0100000111mmmddd" (on_two op.Ror "d" "m")
    ∷ row "0100001000mmmnnn" (on_two op.Tst "n" "m")
    ∷ row "0100001001nnnddd" (on_two op.Rsb "d" "n")
    ∷ row "0100001010mmmnnn" (on_two op.Cmp "n" "m")
    ∷ row "0100001011mmmnnn" (on_two op.Cmn "n" "m")
    ∷ row "0100001100mmmddd" (on_two op.Orr "d" "m")
    ∷ row "0100001101nnnddd" (on_two op.Mul "d" "n")
    ∷ row "0100001110mmmddd" (on_two op.Bic "d" "m")
    ∷ row "0100001111mmmddd" (on_two op.Mvn "d" "m")
    ∷ []

-- Special data instructions and branch and exchange. ADD (SP plus register) is ADD (register) where a register is 13
abbrev pub specials : List Row
specials =
    row "01000100dmmmmddd" (λ f. unless ((f "d") == 15 && (f "m") == 15) (Special (special.Add (f "d") (f "m"))))
    ∷ row "01000101nmmmmnnn"
    (λ f. unless ((nat_lt (f "n") 8 && nat_lt (f "m") 8) || ((f "n") == 15 || (f "m") == 15)) (Special (special.Cmp (f "n") (f "m"))))
    ∷ row "01000110dmmmmddd" (λ f. Ok (Special (special.Mov (f "d") (f "m"))))
    ∷ row "010001110mmmmzzz" (λ f. unless ((f "m") == 15) (Branch (Bx (f "m"))))
    ∷ row "010001111mmmmzzz" (λ f. unless ((f "m") == 15) (Branch (Blx (f "m"))))
    ∷ []

-- Load from literal pool; load/store single data item
abbrev pub transfers : List Row
transfers =
    row "01001tttiiiiiiii" (λ f. Ok (Transfer Ldr (f "t") (Literal (f "i" * 4))))
    ∷ row "0101000mmmnnnttt" (indexed Str)
    ∷ row "0101001mmmnnnttt" (indexed Strh)
    ∷ row "0101010mmmnnnttt" (indexed Strb)
    ∷ row "0101011mmmnnnttt" (indexed Ldrsb)
    ∷ row "0101100mmmnnnttt" (indexed Ldr)
    ∷ row "0101101mmmnnnttt" (indexed Ldrh)
    ∷ row "0101110mmmnnnttt" (indexed Ldrb)
    ∷ row "0101111mmmnnnttt" (indexed Ldrsh)
    ∷ row "01100iiiiinnnttt" (offset Str 4)
    ∷ row "01101iiiiinnnttt" (offset Ldr 4)
    ∷ row "01110iiiiinnnttt" (offset Strb 1)
    ∷ row "01111iiiiinnnttt" (offset Ldrb 1)
    ∷ row "10000iiiiinnnttt" (offset Strh 2)
    ∷ row "10001iiiiinnnttt" (offset Ldrh 2)
    ∷ row "10010tttiiiiiiii" (stacked Str)
    ∷ row "10011tttiiiiiiii" (stacked Ldr)
    ∷ []

-- Generate PC-relative address; generate SP-relative address; miscellaneous 16-bit instructions
abbrev pub miscellanies : List Row
miscellanies =
    row "10100dddiiiiiiii" (λ f. Ok (Special (special.Adr (f "d") (f "i" * 4))))
    ∷ row "10101dddiiiiiiii" (λ f. Ok (Special (special.AddSp (f "d") (f "i" * 4))))
    ∷ row "101100000iiiiiii" (λ f. Ok (Special (special.RaiseSp (f "i" * 4))))
    ∷ row "101100001iiiiiii" (λ f. Ok (Special (special.LowerSp (f "i" * 4))))
    ∷ row "1011001000mmmddd" (on_one Sxth)
    ∷ row "1011001001mmmddd" (on_one Sxtb)
    ∷ row "1011001010mmmddd" (on_one Uxth)
    ∷ row "1011001011mmmddd" (on_one Uxtb)
    ∷ row "1011010Mllllllll" (λ f. unless ((f "M" * 2 ^ 14 + f "l") == 0) (Multiple (Push (f "l") (flag (f "M")))))
    ∷ row "10110110011izzwz" (λ f. Ok (System (Cps (flag (f "i")))))
    ∷ row "1011101000mmmddd" (on_one Rev)
    ∷ row "1011101001mmmddd" (on_one Rev16)
    ∷ row "1011101011mmmddd" (on_one Revsh)
    ∷ row "1011110Pllllllll" (λ f. unless ((f "P" * 2 ^ 15 + f "l") == 0) (Multiple (Pop (f "l") (flag (f "P")))))
    ∷ row "10111110iiiiiiii" (λ f. Ok (System (Bkpt (f "i"))))
    ∷ row "10111111hhhh0000" (λ f. Ok (System (Hint (f "h"))))
    ∷ []

-- Store and load multiple registers; conditional branch, and Supervisor Call; unconditional branch
abbrev pub multiples_and_branches : List Row
multiples_and_branches =
    row "11000nnnllllllll" (λ f. unless ((f "l") == 0) (Multiple (Stm (f "n") (f "l"))))
    ∷ row "11001nnnllllllll" (λ f. unless ((f "l") == 0) (Multiple (Ldm (f "n") (f "l"))))
    ∷ row "11010000iiiiiiii" (branch_if Eq)
    ∷ row "11010001iiiiiiii" (branch_if Ne)
    ∷ row "11010010iiiiiiii" (branch_if Cs)
    ∷ row "11010011iiiiiiii" (branch_if Cc)
    ∷ row "11010100iiiiiiii" (branch_if Mi)
    ∷ row "11010101iiiiiiii" (branch_if Pl)
    ∷ row "11010110iiiiiiii" (branch_if Vs)
    ∷ row "11010111iiiiiiii" (branch_if Vc)
    ∷ row "11011000iiiiiiii" (branch_if Hi)
    ∷ row "11011001iiiiiiii" (branch_if Ls)
    ∷ row "11011010iiiiiiii" (branch_if Ge)
    ∷ row "11011011iiiiiiii" (branch_if Lt)
    ∷ row "11011100iiiiiiii" (branch_if Gt)
    ∷ row "11011101iiiiiiii" (branch_if Le)
    ∷ row "11011110iiiiiiii" (λ f. Ok (System (Udf (f "i"))))
    ∷ row "11011111iiiiiiii" (λ f. Ok (System (Svc (f "i"))))
    ∷ row "11100iiiiiiiiiii" (λ f. Ok (Branch (B (branch_offset 12 (f "i")))))
    ∷ []

unfoldable pub narrow_rows : List Row
narrow_rows = basics ++ (operations ++ (specials ++ (transfers ++ (miscellanies ++ multiples_and_branches))))

-- Branch and miscellaneous control
unfoldable pub wide_rows : List Row
wide_rows =
    row "11110Shhhhhhhhhh11J1Kiiiiiiiiiii" (λ f. Ok (Branch (Bl (link_offset (f "S") (f "J") (f "K") (f "h") (f "i")))))
    ∷ row "11110011100znnnn10z0wzzzssssssss" (λ f. special_access (f "n") (f "s") (λ s. Msr s (f "n")))
    ∷ row "11110011111zwwww10z0ddddssssssss" (λ f. special_access (f "d") (f "s") (λ s. Mrs (f "d") s))
    ∷ row "111100111011wwww10z0wwww0100oooo" (λ f. Ok (System (Dsb (f "o"))))
    ∷ row "111100111011wwww10z0wwww0101oooo" (λ f. Ok (System (Dmb (f "o"))))
    ∷ row "111100111011wwww10z0wwww0110oooo" (λ f. Ok (System (Isb (f "o"))))
    ∷ row "111101111111iiii1010iiiiiiiiiiii" (λ f. Ok (System (UdfWide (f "i"))))
    ∷ []
