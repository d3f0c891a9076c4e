-- What an instruction that runs leaves alone.
use Rattle.std.proofs.Common.{◌≡◌, ℕ, ◌%◌, Bool, true, false, cond, eqb, refl, ap, ◌∙◌, arith}
use Rattle.word.specs.Addresses.{align_to}
use Rattle.word.specs.declared.flags.Flags.{Flags}
use Rattle.thumb.specs.declared.instructions.Basic.{Basic}
use Rattle.thumb.specs.declared.instructions.Basic.TheVariants as basic
use Rattle.thumb.specs.declared.instructions.Operation.{Operation}
use Rattle.thumb.specs.declared.instructions.Operation.TheVariants as op
use Rattle.thumb.specs.declared.instructions.Special.{Special}
use Rattle.thumb.specs.declared.instructions.Special.TheVariants as special
use Rattle.arch.specs.Data.{basic_result, operation_result, special_result, written_to}
use Rattle.arch.specs.Laws.{Sound}
use Rattle.arch.specs.Registers.{plus, privileged, on_process, with_pc, with_flags, with_reg, with_sp, moved_on}
use Rattle.arch.specs.declared.registers.Registers.{Registers}

-- t has aligned stack pointers, and the PC, mode and privilege of s
pub record Steady (s t : Registers) : Type 0 where
  pub main : t.msp % 4 ≡ 0
  pub process : t.psp % 4 ≡ 0
  pub pc : t.pc ≡ s.pc
  pub current : t.current ≡ s.current
  pub active : t.exceptions.active ≡ s.exceptions.active
  pub npriv : t.control.npriv ≡ s.control.npriv

-- a word with its low two bits cleared, or what was aligned before
pub aligned_if : (b : Bool) (v old : ℕ) → old % 4 ≡ 0 → cond b (align_to v 4) old % 4 ≡ 0
aligned_if true v old h = omega arith
aligned_if false v old h = h

pub aligned_unless : (b : Bool) (v old : ℕ) → old % 4 ≡ 0 → cond b old (align_to v 4) % 4 ≡ 0
aligned_unless true v old h = h
aligned_unless false v old h = omega arith

pub steady_self : (s : Registers) → Sound s → Steady s s
steady_self s sound = record { main = sound.main; process = sound.process; pc = refl; current = refl; active = refl; npriv = refl }

pub steady_reg : (s t : Registers) (n v : ℕ) → Steady s t → Steady s (with_reg t n v)
steady_reg s t n v h = record {
  main = aligned_if _ v t.msp h.main;
  process = aligned_if _ v t.psp h.process;
  pc = h.pc;
  current = h.current;
  active = h.active;
  npriv = h.npriv;
}

pub steady_flags : (s t : Registers) (f : Flags) → Steady s t → Steady s (with_flags t f)
steady_flags s t f h = record { main = h.main; process = h.process; pc = h.pc; current = h.current; active = h.active; npriv = h.npriv }

module _ (s : Registers) (sound : Sound s) where
  to_reg : (d v : ℕ) (f : Flags) → Steady s (with_flags (with_reg s d v) f)
  to_reg d v f = steady_flags s (with_reg s d v) f (steady_reg s s d v (steady_self s sound))

  pub to_flags : (f : Flags) → Steady s (with_flags s f)
  to_flags f = steady_flags s s f (steady_self s sound)

  pub basic_steady : (i : Basic) → Steady s (basic_result i s)
  basic_steady (basic.Lsl d m by) = to_reg d _ _
  basic_steady (basic.Lsr d m by) = to_reg d _ _
  basic_steady (basic.Asr d m by) = to_reg d _ _
  basic_steady (basic.Mov d m) = to_reg d _ _
  basic_steady (basic.AddRegister d n m) = to_reg d _ _
  basic_steady (basic.SubRegister d n m) = to_reg d _ _
  basic_steady (basic.AddSmall d n imm) = to_reg d _ _
  basic_steady (basic.SubSmall d n imm) = to_reg d _ _
  basic_steady (basic.MovByte d imm) = to_reg d _ _
  basic_steady (basic.CmpByte n imm) = to_flags _
  basic_steady (basic.AddByte dn imm) = to_reg dn _ _
  basic_steady (basic.SubByte dn imm) = to_reg dn _ _

  pub operation_steady : (o : Operation) (dn m : ℕ) → Steady s (operation_result o dn m s)
  operation_steady op.And dn m = to_reg dn _ _
  operation_steady op.Eor dn m = to_reg dn _ _
  operation_steady op.Lsl dn m = to_reg dn _ _
  operation_steady op.Lsr dn m = to_reg dn _ _
  operation_steady op.Asr dn m = to_reg dn _ _
  operation_steady op.Adc dn m = to_reg dn _ _
  operation_steady op.Sbc dn m = to_reg dn _ _
  operation_steady op.Ror dn m = to_reg dn _ _
  operation_steady op.Tst dn m = to_flags _
  operation_steady op.Rsb dn m = to_reg dn _ _
  operation_steady op.Cmp dn m = to_flags _
  operation_steady op.Cmn dn m = to_flags _
  operation_steady op.Orr dn m = to_reg dn _ _
  operation_steady op.Mul dn m = to_reg dn _ _
  operation_steady op.Bic dn m = to_reg dn _ _
  operation_steady op.Mvn dn m = to_reg dn _ _

-- t is where s can have run to: what every core keeps of it, in the same mode, with the same exceptions active; unprivileged code stays so
pub record Running (s t : Registers) : Type 0 where
  pub even : t.pc % 2 ≡ 0
  pub main : t.msp % 4 ≡ 0
  pub process : t.psp % 4 ≡ 0
  pub current : t.current ≡ s.current
  pub active : t.exceptions.active ≡ s.exceptions.active
  pub npriv : privileged s ≡ false → t.control.npriv ≡ s.control.npriv

pub runs_to : (s t : Registers) (pc : ℕ) → Steady s t → pc % 2 ≡ 0 → Running s (with_pc t pc)
runs_to s t pc h even = record { even = even; main = h.main; process = h.process; current = h.current; active = h.active; npriv = λ _. h.npriv }

-- past an instruction of 2 or 4 bytes, PC is even again
pub even_past : (x k : ℕ) → x % 2 ≡ 0 → k % 2 ≡ 0 → plus x k % 2 ≡ 0
even_past x k h e = omega arith

pub even_if : (b : Bool) (x y : ℕ) → y % 2 ≡ 0 → cond b (align_to x 2) y % 2 ≡ 0
even_if true x y h = omega arith
even_if false x y h = h

pub even_half : (x : ℕ) → align_to x 2 % 2 ≡ 0
even_half x = omega arith

module _ (s : Registers) (sound : Sound s) where
  pub moves_on : (k : ℕ) (t : Registers) → k % 2 ≡ 0 → Steady s t → Running s (moved_on k t)
  moves_on k t e h = runs_to s t (plus t.pc k) h (even_past t.pc k (ap (λ x. x % 2) h.pc ∙ sound.even) e)

  written : (d v : ℕ) → Running s (written_to s d v)
  written d v = runs_to s (with_reg s d v) _ (steady_reg s s d v (steady_self s sound)) (even_if (eqb d 15) v (plus s.pc 2) (even_past s.pc 2 sound.even refl))

  pub steady_sp : (t : Registers) (v : ℕ) → Steady s t → Steady s (with_sp t v)
  steady_sp t v h = record {
    main = aligned_unless (on_process t) v t.msp h.main;
    process = aligned_if (on_process t) v t.psp h.process;
    pc = h.pc;
    current = h.current;
    active = h.active;
    npriv = h.npriv;
  }

  pub special_runs : (i : Special) → Running s (special_result i s)
  special_runs (special.Add dn m) = written dn _
  special_runs (special.Cmp n m) = moves_on 2 _ refl (to_flags s sound _)
  special_runs (special.Mov d m) = written d _
  special_runs (special.Adr d imm) = written d _
  special_runs (special.AddSp d imm) = written d _
  special_runs (special.RaiseSp imm) = moves_on 2 _ refl (steady_sp s _ (steady_self s sound))
  special_runs (special.LowerSp imm) = moves_on 2 _ refl (steady_sp s _ (steady_self s sound))
