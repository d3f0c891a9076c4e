-- The causes of a fault and their numbers, and how a fault comes up.
use Rattle.std.specs.Prelude.{ℕ, ◌+◌, min}
use Rattle.bus.specs.declared.access.Access.{Access}
use Rattle.bus.specs.declared.fault.Cause.{Cause}
use Rattle.bus.specs.declared.fault.Cause.TheVariants.{Unmapped, ReadOnly, WrongWidth, Forbidden, Misaligned, Undefined, Unpredictable, Breakpoint, NotThumb, SupervisorCallTooLow, BadReturn}
use Rattle.bus.specs.declared.fault.Fault.{Fault}

abbrev pub cause_number : Cause → ℕ
cause_number Unmapped = 1
cause_number ReadOnly = 2
cause_number WrongWidth = 3
cause_number Forbidden = 4
cause_number Misaligned = 5
cause_number Undefined = 6
cause_number Unpredictable = 7
cause_number Breakpoint = 8
cause_number NotThumb = 9
cause_number SupervisorCallTooLow = 10
cause_number BadReturn = 11

-- the fault that a part of this kind raises itself
abbrev pub raised : Cause → Access → ℕ → Fault
raised cause a kind = record { cause = cause; address = a.address; kind = kind; hops = 0 }

-- the same fault, one part higher
abbrev pub handed_up : Fault → Fault
handed_up f = record { cause = f.cause; address = f.address; kind = f.kind; hops = min (f.hops + 1) 255 }
