-- What making a list of calls after a reset comes to.
use Rattle.std.specs.Prelude.{◌≡◌, List, Ok, Err, Result}
use Rattle.bus.specs.Made.{world}
use Rattle.bus.specs.Program.{World, run}
use Rattle.bus.specs.declared.fault.Fault.{Fault}
use Rattle.bus.specs.declared.interface.Bus.{Ghosts as Bus}
use Rattle.arch.specs.Answers.{Response}
use Rattle.arch.specs.Laws.{Isolation}
use Rattle.arch.specs.Machine.{Machine, after_calls, responses}
use Rattle.arch.specs.Step.{reset}
use Rattle.arch.specs.declared.answers.Call.{Call}
use Rattle.arch.specs.declared.registers.Registers.{Registers}
use Rattle.cpu.specs.declared.processor.Core.{Core}
use Rattle.cpu.specs.declared.sequence.Failure.{Failure}
use Rattle.cpu.specs.declared.sequence.Failure.TheVariants.{OutOfMemory, ResetRefused}

abbrev pub machine : Registers → World → Machine
machine s w = record { registers = s; world = w }

-- the machine that a core on a bus is
abbrev pub machine_on : {S : Type 0} → Bus S → Core → S → Machine
machine_on bus core s = machine core.registers (world bus s)

abbrev pub start_of : Result Registers Fault × World → Result Machine Fault
start_of (Ok s, w) = Ok (machine s w)
start_of (Err f, w) = Err f

-- the fresh machine that a reset makes of a world, or the fault of its refused read
abbrev pub started : World → Result Machine Fault
started w = start_of (run reset w)

-- the answers are those of the definitions, the machine is left as they leave it, and twins, confinement and balance hold of this very run
pub record Made (fresh : Machine) (calls : List Call) (answers : List Response) (left : Machine) : Type 0 where
  pub answered : answers ≡ responses calls fresh
  pub leaves : left ≡ after_calls calls fresh
  pub isolated : Isolation fresh calls

abbrev pub Performed : List Response → List Call → Machine → Machine → Type 0
Performed answers calls before left = (fresh : Machine) × (started before.world ≡ Ok fresh) × Made fresh calls answers left

-- a refused reset, and want of memory, leave the machine as it was
abbrev pub Unmade : Failure → Machine → Machine → Type 0
Unmade (ResetRefused f) before left = (started before.world ≡ Err f) × (left ≡ before)
Unmade (OutOfMemory e) before left = left ≡ before
