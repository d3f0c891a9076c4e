-- What the calls of a turn come to, however they are made.
use Rattle.std.specs.Prelude.{◌≡◌, List, Ok, Err, vec_items, Result}
use Rattle.std.proofs.Common.{Vec, Global}
use Rattle.bus.specs.declared.fault.Fault.{Fault}
use Rattle.arch.specs.Answers.{Response}
use Rattle.arch.specs.Machine.{Machine}
use Rattle.arch.specs.declared.answers.Call.{Call}
use Rattle.cpu.specs.Performed.{Performed, started}
use Rattle.memory.specs.declared.trouble.Trouble.{Trouble}

-- the answers to the calls, or why the core could not be reset
abbrev pub Played : Type 0
Played = Result (Vec Response Global) Fault

-- the answers and the machine left are those of the definitions, and isolation holds of the run; a refused reset leaves the machine
abbrev pub CameTo : Result Played Trouble → List Call → Machine → Machine → Type 0
CameTo (Ok (Ok answers)) calls before left = Performed (vec_items answers) calls before left
CameTo (Ok (Err f)) calls before left = (started before.world ≡ Err f) × (left ≡ before)
CameTo (Err trouble) calls before left = Unit {0}
