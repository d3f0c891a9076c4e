-- What a request is answered, and how the lines of a script are counted.
use Rattle.std.specs.Prelude.{ℕ, Ok, Err, Result, Option, Some, None}
use Rattle.bus.specs.declared.access.Use.{Use}
use Rattle.bus.specs.declared.access.Use.TheVariants.{Fetch, Read, Write}
use Rattle.bus.specs.declared.access.Width.TheVariants.{Half}
use Rattle.bus.specs.declared.fault.Fault.{Fault}
use Rattle.terms.specs.Counting.{one_more}
use Rattle.script.specs.declared.play.Value.{Value}
use Rattle.script.specs.declared.play.Outcome.{Outcome}
use Rattle.script.specs.declared.play.Outcome.TheVariants.{Allowed, Refused, Handed, Bad}
use Rattle.script.specs.declared.play.Tally.{Tally}

-- what a bus answered to a use of it: a write has no value
abbrev pub answered : Use → Result ℕ Fault → Result (Option Value) Fault
answered usage (Err fault) = Err fault
answered Fetch (Ok v) = Ok (Some (record { width = Half; value = v }))
answered (Read width) (Ok v) = Ok (Some (record { width = width; value = v }))
answered (Write width) (Ok v) = Ok None

abbrev pub outcome_of : Result (Option Value) Fault → Outcome
outcome_of (Ok value) = Allowed
outcome_of (Err fault) = Refused

abbrev pub counted : Tally → Outcome → Tally
counted t Allowed = record { allowed = one_more t.allowed; refused = t.refused; handed = t.handed; bad = t.bad }
counted t Refused = record { allowed = t.allowed; refused = one_more t.refused; handed = t.handed; bad = t.bad }
counted t Handed = record { allowed = t.allowed; refused = t.refused; handed = one_more t.handed; bad = t.bad }
counted t Bad = record { allowed = t.allowed; refused = t.refused; handed = t.handed; bad = one_more t.bad }
