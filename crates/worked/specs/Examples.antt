-- Worked examples, each a step of a core from address 0 over memory that allows everything.
use Rattle.std.specs.Prelude.{◌≡◌, ℕ, ◌/◌, ◌%◌, Bool, true, false, cond, ◌∷◌, replicate, None, Ok, Err, ◌==◌, slice_index}
use Rattle.bus.specs.Fault.{cause_number}
use Rattle.bus.specs.Program.{World, run}
use Rattle.word.specs.declared.flags.Flags.{Flags}
use Rattle.arch.specs.Answers.{Response}
use Rattle.arch.specs.Entry.{frame_of}
use Rattle.arch.specs.Registers.{with_general, with_primask}
use Rattle.arch.specs.Return.{unstacked}
use Rattle.arch.specs.Status.{frame_status}
use Rattle.arch.specs.Step.{fresh, step}
use Rattle.arch.specs.declared.answers.Answer.{Answer}
use Rattle.arch.specs.declared.answers.Answer.TheVariants.{Ran, Entered, Returned, Faulted, Locked}
use Rattle.arch.specs.declared.answers.Completed.TheVariants.{Stepped, Accepted}
use Rattle.arch.specs.declared.registers.Registers.{Registers}
use Rattle.parts.specs.Region.{covers}
use Rattle.parts.specs.declared.region.Rights.TheVariants.{Everything}
use Rattle.parts.specs.declared.region.Slot.{Slot}
use Rattle.parts.specs.declared.region.Slot.TheVariants.{On}

-- one halfword at address 0, 0 elsewhere, everything allowed
abbrev pub memory : ℕ → World
memory halfword = record { bytes = λ x. cond (x == 0) (halfword % 256) (cond (x == 1) (halfword / 256) 0); verdict = λ a. None }

-- a fresh core at address 0, in Thumb state
abbrev pub core : Registers
core = fresh 0x1004 1

-- the same with a value in R0
abbrev pub with_r0 : ℕ → Registers
with_r0 v = with_general core (v ∷ replicate 12 0)

-- the core after one step of this halfword
abbrev pub after : ℕ → Registers → Registers
after halfword s = (run (step s) (memory halfword)).0.1

abbrev pub r0 : Registers → ℕ
r0 s = slice_index s.general 0

abbrev pub flags : Bool → Bool → Bool → Bool → Flags
flags n z c v = record { n = n; z = z; c = c; v = v }

-- the number of the fault that a step answers, 0 for none
abbrev pub fault_in : Answer → ℕ
fault_in Ran = 0
fault_in (Entered n) = 0
fault_in Returned = 0
fault_in (Faulted f) = cause_number f.cause
fault_in (Locked f) = cause_number f.cause

abbrev pub fault_of : Response → ℕ
fault_of (Ok (Stepped answer)) = fault_in answer
fault_of (Ok Accepted) = 0
fault_of (Err refusal) = 0

abbrev pub fault_at : ℕ → Registers → ℕ
fault_at halfword s = fault_of (run (step s) (memory halfword)).0.0

-- base 0x100, 2^8 bytes, the lowest eighth left out
abbrev pub region : Slot
region = On (record { base = 0x100; exponent = 8; rights = Everything; no_fetch = false; sub_marks = 1 })

pub record Examples : Type 0 where
  -- ADDS R0, R0, #1 past the greatest signed word
  pub add_overflow : r0 (after 0x1C40 (with_r0 0x7FFFFFFF)) ≡ 0x80000000
  pub add_overflow_flags : (after 0x1C40 (with_r0 0x7FFFFFFF)).flags ≡ flags true false false true
  -- and past the greatest word
  pub add_carry : r0 (after 0x1C40 (with_r0 0xFFFFFFFF)) ≡ 0
  pub add_carry_flags : (after 0x1C40 (with_r0 0xFFFFFFFF)).flags ≡ flags false true true false
  -- LSRS R0, R0, #32
  pub shift_all : r0 (after 0x0800 (with_r0 0x80000000)) ≡ 0
  pub shift_all_flags : (after 0x0800 (with_r0 0x80000000)).flags ≡ flags false true true false
  -- B to itself
  pub branch_to_itself : (after 0xE7FE core).pc ≡ 0
  -- UDF is undefined, LDM with an empty list unpredictable, and SVC under PRIMASK too low
  pub undefined : fault_at 0xDE00 core ≡ 6
  pub unpredictable : fault_at 0xC800 core ≡ 7
  pub supervisor_call : fault_at 0xDF00 (with_primask core true) ≡ 10
  -- a stack at 0x1004 has its frame at 0xFE0, and comes back to 0x1004
  pub frame : frame_of core ≡ 0xFE0
  pub frame_back : unstacked 0xFE0 (frame_status core true) ≡ 0x1004
  -- a region without its lowest eighth
  pub left_out : covers region 0x11F ≡ false
  pub first_covered : covers region 0x120 ≡ true
  pub last_covered : covers region 0x1FF ≡ true
  pub beyond : covers region 0x200 ≡ false
