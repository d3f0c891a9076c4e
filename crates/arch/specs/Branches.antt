-- Branches.
use Rattle.std.specs.Prelude.{ℕ, ◌+◌, Bool, true, false, cond, ◌&&◌, Ok, ◌==◌}
use Rattle.bus.specs.Program.{done}
use Rattle.word.specs.Addresses.{align_to}
use Rattle.word.specs.Conditions.{passes}
use Rattle.word.specs.Fields.{field_of}
use Rattle.thumb.specs.declared.instructions.Branch.{Branch}
use Rattle.thumb.specs.declared.instructions.Branch.TheVariants.{B, If, Bl, Bx, Blx}
use Rattle.arch.specs.Accesses.{Attempt, then}
use Rattle.arch.specs.Registers.{plus, with_lr, with_pc, handler, pc_value, reg, branch_to, interwork}
use Rattle.arch.specs.Return.{exception_return}
use Rattle.arch.specs.declared.registers.Registers.{Registers}

-- how an instruction ends: the core ran on, or returned from an exception
pub data Done : Type 0 where
  ran returned : Registers → Done

-- BXWritePC(), LoadWritePC(): 0xFxxxxxxx in Handler mode is an exception return, all else a branch
abbrev pub returns_or_branches : Bool → Registers → ℕ → Attempt Done
returns_or_branches true s x = then (exception_return s x) (λ after. done (Ok (returned after)))
returns_or_branches false s x = done (Ok (ran (interwork s x)))

abbrev pub bx_write_pc : Registers → ℕ → Attempt Done
bx_write_pc s x = returns_or_branches (handler s && field_of x 28 4 == 15) s x

-- the address after an instruction of k bytes, with bit 0 set
abbrev pub link : ℕ → Registers → ℕ
link k s = align_to (plus s.pc k) 2 + 1

-- a branch that is taken or not
abbrev pub branched_if : Bool → ℕ → Registers → Registers
branched_if taken offset s = with_pc s (cond taken (align_to (plus (pc_value s) offset) 2) (plus s.pc 2))

abbrev pub branch : Branch → Registers → Attempt Done
branch (B offset) s = done (Ok (ran (branch_to s (plus (pc_value s) offset))))
branch (If condition offset) s = done (Ok (ran (branched_if (passes condition s.flags) offset s)))
branch (Bl offset) s = done (Ok (ran (branch_to (with_lr s (link 4 s)) (plus (pc_value s) offset))))
branch (Bx m) s = bx_write_pc s (reg s m)
branch (Blx m) s = done (Ok (ran (interwork (with_lr s (link 2 s)) (reg s m))))
