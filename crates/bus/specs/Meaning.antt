-- What a bus means: its contents, its verdicts, and what an access answers and leaves.
use Rattle.std.specs.Prelude.{ℕ, Bool, true, false, cond, Some, None, Ok, Err, Option, Result}
use Rattle.bus.specs.Access.{is_write, bytes_of}
use Rattle.bus.specs.Fault.{handed_up}
use Rattle.bus.specs.Memory.{Bytes, load, store}
use Rattle.bus.specs.declared.access.Access.{Access}
use Rattle.bus.specs.declared.access.Right.{Right}
use Rattle.bus.specs.declared.access.Use.TheVariants.{Fetch, Read, Write}
use Rattle.bus.specs.declared.access.Width.{Width}
use Rattle.bus.specs.declared.fault.Fault.{Fault}

-- None: allowed
abbrev pub Verdict : Type 0
Verdict = Option Fault

-- refused with f where the test holds, and else told what comes next
abbrev pub refused_if : Bool → Fault → Verdict → Verdict
refused_if true f next = Some f
refused_if false f next = next

-- a verdict of the part below, as the part above hands it up
abbrev pub lifted : Verdict → Verdict
lifted (Some f) = Some (handed_up f)
lifted None = None

-- what the three uses ask
abbrev pub fetching : Right → ℕ → Access
fetching right x = record { usage = Fetch; right = right; address = x }

abbrev pub reading : Width → Right → ℕ → Access
reading width right x = record { usage = Read width; right = right; address = x }

abbrev pub writing : Width → Right → ℕ → Access
writing width right x = record { usage = Write width; right = right; address = x }

-- a refused access answers the verdict's fault
abbrev pub answer : {V : Type 0} → Verdict → V → Result V Fault
answer (Some f) v = Err f
answer None v = Ok v

-- and changes nothing
abbrev pub after : Verdict → Bytes → Bytes → Bytes
after (Some f) changed m = m
after None changed m = changed

-- an allowed fetch or read answers the covered bytes; a write has no value to answer
abbrev pub replied : Bytes → Access → ℕ
replied m a = cond (is_write a.usage) 0 (load (bytes_of a) m a.address)

-- an allowed write stores the value's bytes; a fetch or a read leaves all
abbrev pub written : Bytes → Access → ℕ → Bytes
written m a v = cond (is_write a.usage) (store (bytes_of a) m a.address v) m
