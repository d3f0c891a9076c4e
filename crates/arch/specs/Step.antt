-- A step, and the other calls.
use Rattle.std.specs.Prelude.{ℕ, Bool, true, false, cond, ◌&&◌, ◌||◌, set, replicate, pos, Some, None, Ok, Err, Option, Result, ◌==◌, int_lt, nat_le, nat_lt}
use Rattle.bus.specs.Program.{Program, done, bind}
use Rattle.bus.specs.declared.access.Right.TheVariants.{Privileged}
use Rattle.bus.specs.declared.access.Width.TheVariants.{Word}
use Rattle.bus.specs.declared.fault.Cause.TheVariants.{Undefined, Unpredictable, NotThumb}
use Rattle.bus.specs.declared.fault.Fault.{Fault}
use Rattle.bus.specs.declared.refusal.Refusal.TheVariants.{OutOfRange, RankTooHigh, CoreLocked}
use Rattle.word.specs.Addresses.{align_to}
use Rattle.word.specs.Fields.{bit_of}
use Rattle.word.specs.Sets.{set_with, set_without}
use Rattle.thumb.specs.Decoded.{decoded, wide_first}
use Rattle.thumb.specs.declared.instructions.Instruction.{Instruction}
use Rattle.thumb.specs.declared.instructions.Instruction.TheVariants.{Basic, Data, Special, Unary, Transfer, Multiple, Branch, System}
use Rattle.thumb.specs.declared.instructions.Refusal.{Refusal}
use Rattle.thumb.specs.declared.instructions.Refusal.TheVariants.{Undefined as undefined, Unpredictable as unpredictable}
use Rattle.arch.specs.Accesses.{Attempt, then, fetch, read}
use Rattle.arch.specs.Answers.{Response}
use Rattle.arch.specs.Branches.{Done, ran, returned, branch}
use Rattle.arch.specs.Data.{basic_result, operation_result, unary_value, special_result}
use Rattle.arch.specs.Entry.{take_up}
use Rattle.arch.specs.Priorities.{execution_priority, chosen}
use Rattle.arch.specs.Registers.{plus, with_exceptions, locked_core, pend, right_of, reg, with_reg, moved_on}
use Rattle.arch.specs.Return.{core_fault}
use Rattle.arch.specs.System.{system}
use Rattle.arch.specs.Transfers.{address_of, transfer, multiple}
use Rattle.arch.specs.declared.answers.Answer.TheVariants.{Ran, Returned, Faulted, Locked}
use Rattle.arch.specs.declared.answers.Call.{Call}
use Rattle.arch.specs.declared.answers.Call.TheVariants.{Step, Raise, Arm, Rank}
use Rattle.arch.specs.declared.answers.Completed.TheVariants.{Stepped, Accepted}
use Rattle.arch.specs.declared.registers.Registers.{Registers}

-- an instruction of k bytes
abbrev pub execute : Instruction → ℕ → Registers → Attempt Done
execute (Basic i) k s = done (Ok (ran (moved_on 2 (basic_result i s))))
execute (Data op dn m) k s = done (Ok (ran (moved_on 2 (operation_result op dn m s))))
execute (Special i) k s = done (Ok (ran (special_result i s)))
execute (Unary op d m) k s = done (Ok (ran (moved_on 2 (with_reg s d (unary_value op (reg s m))))))
execute (Transfer op t address) k s = transfer op t (address_of address s) s
execute (Multiple i) k s = multiple i s
execute (Branch i) k s = branch i s
execute (System i) k s = system i k s

abbrev pub perform_decoded : Result Instruction Refusal → ℕ → Registers → Attempt Done
perform_decoded (Ok i) k s = execute i k s
perform_decoded (Err undefined) k s = done (Err (core_fault Undefined s))
perform_decoded (Err unpredictable) k s = done (Err (core_fault Unpredictable s))

-- a second halfword is fetched where one belongs to the first
abbrev pub decode_and_perform : Bool → ℕ → Registers → Attempt Done
decode_and_perform true first s = then (fetch (right_of s) (plus s.pc 2)) (λ second. perform_decoded (decoded first second) 4 s)
decode_and_perform false first s = perform_decoded (decoded first 0) 2 s

-- the instruction at PC; with T clear there is none
abbrev pub instruction_if : Bool → Registers → Attempt Done
instruction_if true s = then (fetch (right_of s) s.pc) (λ first. decode_and_perform (wide_first first) first s)
instruction_if false s = done (Err (core_fault NotThumb s))

abbrev pub instruction : Registers → Attempt Done
instruction s = instruction_if s.thumb s

-- a fault keeps the registers: HardFault is pending, or below priority 0 the core locks
abbrev pub settle : Registers → Result Done Fault → Response × Registers
settle s (Ok (ran after)) = (Ok (Stepped Ran), after)
settle s (Ok (returned after)) = (Ok (Stepped Returned), after)
settle s (Err f) =
    let low : Bool = int_lt (execution_priority s) (pos 0) in
    (Ok (Stepped (cond low (Locked f) (Faulted f))), cond low (locked_core s) (pend s 3))

-- a step begins from the lock mark and the exception to be taken up
abbrev pub begin : Bool → Option ℕ → Registers → Program (Response × Registers)
begin true n s = done (Err CoreLocked, s)
begin false (Some n) s = take_up s n
begin false None s = bind (instruction s) (λ r. done (settle s r))

abbrev pub step : Registers → Program (Response × Registers)
step s = begin s.locked (chosen s) s

-- 16 to 47
abbrev pub external : ℕ → Bool
external n = nat_le 16 n && nat_lt n 48

-- NMI, PendSV, SysTick and the external exceptions can be raised
abbrev pub raisable : ℕ → Bool
raisable n = n == 2 || (n == 14 || (n == 15 || external n))

-- SVCall, PendSV, SysTick and the external exceptions have a rank
abbrev pub rankable : ℕ → Bool
rankable n = n == 11 || (n == 14 || (n == 15 || external n))

abbrev pub accept_if : Bool → Response → Registers → Registers → Response × Registers
accept_if true refusal s after = (Ok Accepted, after)
accept_if false refusal s after = (refusal, s)

abbrev pub armed_set : Bool → ℕ → ℕ → ℕ
armed_set true set n = set_with 64 set n
armed_set false set n = set_without set n

abbrev pub raised : Registers → ℕ → Response × Registers
raised s n = accept_if (raisable n) (Err OutOfRange) s (pend s n)

abbrev pub armed : Registers → ℕ → Bool → Response × Registers
armed s n on = accept_if (external n) (Err OutOfRange) s (with_exceptions s (record { pending = s.exceptions.pending; active = s.exceptions.active; armed = armed_set on s.exceptions.armed n; ranks = s.exceptions.ranks }))

abbrev pub ranked : Registers → ℕ → ℕ → Response × Registers
ranked s n k = accept_if (rankable n && nat_le k 3) (Err (cond (rankable n) RankTooHigh OutOfRange)) s (with_exceptions s (record { pending = s.exceptions.pending; active = s.exceptions.active; armed = s.exceptions.armed; ranks = set s.exceptions.ranks n k }))

unfoldable pub answer_to : Call → Registers → Program (Response × Registers)
answer_to Step s = step s
answer_to (Raise n) s = done (raised s n)
answer_to (Arm n on) s = done (armed s n on)
answer_to (Rank n k) s = done (ranked s n k)

-- all registers 0, clear or off
abbrev pub blank : Bool → ℕ → ℕ → ℕ → Bool → Registers
blank locked lr msp pc t =
    record { general = replicate 13 0; lr = lr; msp = msp; psp = 0; pc = pc; flags = record { n = false; z = false; c = false; v = false }; thumb = t; primask = false; control = record { npriv = false; spsel = false }; current = 0; exceptions = record { pending = 0; active = 0; armed = 0; ranks = replicate 48 0 }; locked = locked }

-- a new core is locked until a reset succeeds
abbrev pub new_core : Registers
new_core = blank true 0 0 0 false

-- words 0 and 4, read privileged, give MSP and the first address, whose bit 0 is T
abbrev pub fresh : ℕ → ℕ → Registers
fresh msp start = blank false 0xFFFFFFFF (align_to msp 4) (align_to start 2) (bit_of start 0)

unfoldable pub reset : Attempt Registers
reset = then (read Word Privileged 0) (λ msp. then (read Word Privileged 4) (λ start. done (Ok (fresh msp start))))
