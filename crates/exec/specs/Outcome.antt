-- What the code of an instruction hands back, as the definition has it.
use Rattle.std.specs.Prelude.{◌≡◌, Ok, Err, Result}
use Rattle.bus.specs.Made.{world}
use Rattle.bus.specs.Program.{run}
use Rattle.bus.specs.declared.fault.Fault.{Fault}
use Rattle.bus.specs.declared.interface.Bus.{Ghosts as Bus}
use Rattle.arch.specs.Accesses.{Attempt}
use Rattle.arch.specs.Branches.{Done, ran, returned}
use Rattle.arch.specs.declared.registers.Registers.{Registers}
use Rattle.exec.specs.declared.flow.Flow.{Flow}
use Rattle.exec.specs.declared.flow.Flow.TheVariants.{Ran, Returned}

abbrev pub ended : Flow → Registers → Done
ended Ran t = ran t
ended Returned t = returned t

-- a flow, with the registers that it leaves
abbrev pub outcome : Result Flow Fault → Registers → Result Done Fault
outcome (Ok flow) t = Ok (ended flow t)
outcome (Err f) t = Err f

-- a refusal leaves the registers
abbrev pub KeptAt : {A : Type 0} → Result A Fault → Registers → Registers → Type 0
KeptAt (Ok a) s t = Unit {0}
KeptAt (Err f) s t = t ≡ s

-- a return that was made, with the registers that it leaves
abbrev pub returned_to : Result (Unit {0}) Fault → Registers → Result Registers Fault
returned_to (Ok u) t = Ok t
returned_to (Err f) t = Err f

-- from `before` to `after` it comes to what the program of accesses comes to, as the result and the registers say; a refusal leaves the registers, and the settings of the bus stay
pub record Executes {S A R : Type 0} (bus : Bus S) (before after : S) (s t : Registers) (program : Attempt A) (told : Result R Fault → Registers → Result A Fault) (result : Result R Fault) : Type 0 where
  pub runs : run program (world bus before) ≡ (told result t, world bus after)
  pub kept : KeptAt result s t
  pub settled : bus.settings after ≡ bus.settings before
