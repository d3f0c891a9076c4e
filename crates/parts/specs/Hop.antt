-- The answer of a part below, as the part above hands it up.
use Rattle.std.specs.Prelude.{ℕ, Ok, Err, Result}
use Rattle.bus.specs.Fault.{handed_up}
use Rattle.bus.specs.declared.fault.Fault.{Fault}

abbrev pub handed_up_answer : Result ℕ Fault → Result ℕ Fault
handed_up_answer (Ok v) = Ok v
handed_up_answer (Err f) = Err (handed_up f)
