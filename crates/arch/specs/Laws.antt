-- What every core keeps, and what no list of calls can break.
use Rattle.std.specs.Prelude.{◌≡◌, ℕ, ◌+◌, ◌%◌, true, false, ◌⊎◌, List, [], ◌∷◌, ◌++◌, Ok, ◌==◌, count_ones, nat_eq, Err}
use Rattle.bus.specs.Isolation.{Unwritable, Alike, UnprivilegedOnly}
use Rattle.bus.specs.Program.{World, run}
use Rattle.word.specs.Fields.{bit_of}
use Rattle.thumb.specs.declared.instructions.SpecialRegister.{SpecialRegister}
use Rattle.arch.specs.Answers.{Response}
use Rattle.arch.specs.Machine.{Machine, response, after_call, after_calls, responses, entry, return, how_many}
use Rattle.arch.specs.Registers.{handler, privileged, pend, locked_core}
use Rattle.arch.specs.Return.{forced_thread, exception_return}
use Rattle.arch.specs.Step.{reset}
use Rattle.arch.specs.System.{special_value}
use Rattle.arch.specs.declared.answers.Answer.{Answer}
use Rattle.arch.specs.declared.answers.Answer.TheVariants.{Ran, Entered, Returned, Faulted, Locked}
use Rattle.arch.specs.declared.answers.Call.{Call}
use Rattle.arch.specs.declared.answers.Call.TheVariants.{Step}
use Rattle.arch.specs.declared.answers.Completed.TheVariants.{Stepped, Accepted}
use Rattle.arch.specs.declared.registers.Registers.{Registers}

-- what every core keeps: an even PC, stack pointers that are multiples of 4, Thread mode exactly when no exception is active, and else a current exception that is active
pub record Sound (s : Registers) : Type 0 where
  pub even : s.pc % 2 ≡ 0
  pub main : s.msp % 4 ≡ 0
  pub process : s.psp % 4 ≡ 0
  pub mode : nat_eq s.current 0 ≡ (s.exceptions.active == 0)
  pub current : handler s ≡ true → bit_of s.exceptions.active s.current ≡ true

-- what a step that faulted leaves: the registers but for HardFault pending or the lock mark
abbrev pub KeptBy : Answer → Registers → Registers → Type 0
KeptBy Ran s t = Unit {0}
KeptBy (Entered n) s t = Unit {0}
KeptBy Returned s t = Unit {0}
KeptBy (Faulted f) s t = t ≡ pend s 3
KeptBy (Locked f) s t = t ≡ locked_core s

-- and what a call that is turned away leaves: all of them
abbrev pub Kept : Response → Registers → Registers → Type 0
Kept (Ok (Stepped answer)) s t = KeptBy answer s t
Kept (Ok Accepted) s t = Unit {0}
Kept (Err refusal) s t = t ≡ s

-- every call leaves a sound core sound, and keeps what it must keep
pub record Faithful (c : Call) (m : Machine) : Type 0 where
  pub sound : Sound (after_call c m).registers
  pub kept : Kept (response c m) m.registers (after_call c m).registers

abbrev pub Soundness : Type 0
Soundness = (c : Call) (m : Machine) → Sound m.registers → Faithful c m

-- what MRS gives unprivileged code depends on the flags, PRIMASK and CONTROL alone
abbrev pub SpecialsHidden : Type 0
SpecialsHidden = (r : SpecialRegister) (s t : Registers) → privileged s ≡ false → privileged t ≡ false → s.flags ≡ t.flags → s.primask ≡ t.primask → s.control ≡ t.control → special_value r s ≡ special_value r t

-- a return to unprivileged Thread mode reads its frame as unprivileged code would
abbrev pub FramesUnprivileged : Type 0
FramesUnprivileged = (s : Registers) (exc : ℕ) → forced_thread s exc ≡ true → UnprivilegedOnly (exception_return s exc)

-- two machines with the same registers and worlds that unprivileged code cannot tell apart, under the same calls: after each the same answer, the same registers and such worlds again, until an exception is taken up
abbrev pub Twins : List Call → Registers → World → World → Type 0
Twins [] s w u = Unit {0}
Twins (c ∷ cs) s w u =
    let here : Machine = record { registers = s; world = w } in
    let there : Machine = record { registers = s; world = u } in
    (response c here ≡ response c there)
    × ((entry (response c here) ≡ true)
    ⊎ (((after_call c here).registers ≡ (after_call c there).registers)
    × Alike (after_call c here).world (after_call c there).world
    × Twins cs (after_call c here).registers (after_call c here).world (after_call c there).world))

-- what holds of a machine m that stands between a past and a future
pub record Isolated (m : Machine) (past : List Response) (future : List Call) : Type 0 where
  -- what unprivileged code cannot read has no influence on it
  pub twins : privileged m.registers ≡ false → (u : World) → Alike m.world u → Twins future m.registers m.world u
  -- what it may not write stays, also when its step takes up an exception
  pub confined : privileged m.registers ≡ false → (x : ℕ) → Unwritable m.world x → (after_call Step m).world.bytes x ≡ m.world.bytes x
  -- entries are returns and active exceptions, and there is none of these exactly in Thread mode
  pub balanced : how_many entry past ≡ how_many return past + count_ones m.registers.exceptions.active
  pub thread : nat_eq (count_ones m.registers.exceptions.active) 0 ≡ (m.registers.current == 0)

-- over every list of calls on a machine just after a reset, wherever the list is cut
abbrev pub Isolation : Machine → List Call → Type 0
Isolation fresh calls = (past future : List Call) → past ++ future ≡ calls → Isolated (after_calls past fresh) (responses past fresh) future

-- and that for every world and every list
abbrev pub IsolationStands : Type 0
IsolationStands = (before after : World) (s : Registers) (calls : List Call) → run reset before ≡ (Ok s, after) → Isolation (record { registers = s; world = after }) calls
