-- Calls to the system, special registers, hints and barriers. `k` is the size of the instruction.
use Rattle.std.specs.Prelude.{ℕ, ◌+◌, ◌*◌, Bool, true, false, cond, not, ◌&&◌, Ok, Err, int_lt}
use Rattle.bus.specs.Program.{done}
use Rattle.bus.specs.declared.fault.Cause.TheVariants.{Undefined, Breakpoint, SupervisorCallTooLow}
use Rattle.word.specs.Addresses.{align_to}
use Rattle.word.specs.Fields.{bit_of}
use Rattle.word.specs.Sums.{one_if}
use Rattle.thumb.specs.declared.instructions.SpecialRegister.{SpecialRegister}
use Rattle.thumb.specs.declared.instructions.SpecialRegister.TheVariants.{Apsr, Iapsr, Eapsr, Xpsr, Ipsr, Epsr, Iepsr, Msp, Psp, Primask, Control}
use Rattle.thumb.specs.declared.instructions.System.{System}
use Rattle.thumb.specs.declared.instructions.System.TheVariants.{Svc, Bkpt, Udf, UdfWide, Cps, Hint, Dsb, Dmb, Isb, Mrs, Msr}
use Rattle.arch.specs.Accesses.{Attempt}
use Rattle.arch.specs.Branches.{Done, ran}
use Rattle.arch.specs.Priorities.{priority, execution_priority}
use Rattle.arch.specs.Registers.{with_flags, with_primask, pend, handler, privileged, reg, with_reg, moved_on}
use Rattle.arch.specs.Return.{core_fault}
use Rattle.arch.specs.Status.{flags_word, word_flags}
use Rattle.arch.specs.declared.registers.Registers.{Registers}

-- an unprivileged read of a stack pointer or of IPSR gives 0
abbrev pub if_privileged : Registers → ℕ → ℕ
if_privileged s v = cond (privileged s) v 0

-- what MRS reads; EPSR reads as 0
abbrev pub special_value : SpecialRegister → Registers → ℕ
special_value Apsr s = flags_word s.flags
special_value Iapsr s = flags_word s.flags + if_privileged s s.current
special_value Eapsr s = flags_word s.flags
special_value Xpsr s = flags_word s.flags + if_privileged s s.current
special_value Ipsr s = if_privileged s s.current
special_value Epsr s = 0
special_value Iepsr s = if_privileged s s.current
special_value Msp s = if_privileged s s.msp
special_value Psp s = if_privileged s s.psp
special_value Primask s = one_if s.primask
special_value Control s = one_if s.control.spsel * 2 + one_if s.control.npriv

-- what MSR writes, where the mode may write it: the flags always, the stack pointers and PRIMASK privileged, CONTROL in privileged Thread mode
abbrev pub special_write : SpecialRegister → Registers → ℕ → Registers
special_write Apsr s v = with_flags s (word_flags v)
special_write Iapsr s v = with_flags s (word_flags v)
special_write Eapsr s v = with_flags s (word_flags v)
special_write Xpsr s v = with_flags s (word_flags v)
special_write Ipsr s v = s
special_write Epsr s v = s
special_write Iepsr s v = s
special_write Msp s v = record { general = s.general; lr = s.lr; msp = cond (privileged s) (align_to v 4) s.msp; psp = s.psp; pc = s.pc; flags = s.flags; thumb = s.thumb; primask = s.primask; control = s.control; current = s.current; exceptions = s.exceptions; locked = s.locked }
special_write Psp s v = record { general = s.general; lr = s.lr; msp = s.msp; psp = cond (privileged s) (align_to v 4) s.psp; pc = s.pc; flags = s.flags; thumb = s.thumb; primask = s.primask; control = s.control; current = s.current; exceptions = s.exceptions; locked = s.locked }
special_write Primask s v = with_primask s (cond (privileged s) (bit_of v 0) s.primask)
special_write Control s v =
    let may : Bool = privileged s && not (handler s) in
    record { general = s.general; lr = s.lr; msp = s.msp; psp = s.psp; pc = s.pc; flags = s.flags; thumb = s.thumb; primask = s.primask; control = record { npriv = cond may (bit_of v 0) s.control.npriv; spsel = cond may (bit_of v 1) s.control.spsel }; current = s.current; exceptions = s.exceptions; locked = s.locked }

-- SVCall becomes pending, if it could be taken up
abbrev pub supervisor_call : Bool → ℕ → Registers → Attempt Done
supervisor_call true k s = done (Ok (ran (moved_on k (pend s 11))))
supervisor_call false k s = done (Err (core_fault SupervisorCallTooLow s))

abbrev pub runs_on : ℕ → Registers → Attempt Done
runs_on k s = done (Ok (ran (moved_on k s)))

abbrev pub system : System → ℕ → Registers → Attempt Done
system (Svc imm) k s = supervisor_call (int_lt (priority s 11) (execution_priority s)) k s
system (Bkpt imm) k s = done (Err (core_fault Breakpoint s))
system (Udf imm) k s = done (Err (core_fault Undefined s))
system (UdfWide imm) k s = done (Err (core_fault Undefined s))
system (Cps disable) k s = runs_on k (with_primask s (cond (privileged s) disable s.primask))
system (Hint number) k s = runs_on k s
system (Dsb option) k s = runs_on k s
system (Dmb option) k s = runs_on k s
system (Isb option) k s = runs_on k s
system (Mrs d from) k s = runs_on k (with_reg s d (special_value from s))
system (Msr to n) k s = runs_on k (special_write to s (reg s n))
