-- A machine: a core with its bus, under a list of calls.
use Rattle.std.specs.Prelude.{ℕ, ◌+◌, Bool, true, false, List, [], ◌∷◌, Ok, Err}
use Rattle.bus.specs.Program.{World, run}
use Rattle.word.specs.Sums.{one_if}
use Rattle.arch.specs.Answers.{Response}
use Rattle.arch.specs.Step.{answer_to}
use Rattle.arch.specs.declared.answers.Answer.{Answer}
use Rattle.arch.specs.declared.answers.Answer.TheVariants.{Ran, Entered, Returned, Faulted, Locked}
use Rattle.arch.specs.declared.answers.Call.{Call}
use Rattle.arch.specs.declared.answers.Completed.TheVariants.{Stepped, Accepted}
use Rattle.arch.specs.declared.registers.Registers.{Registers}

pub record Machine : Type 0 where
  pub registers : Registers
  pub world : World

-- what a machine answers to a call, and what it is after it
abbrev pub response : Call → Machine → Response
response c m = (run (answer_to c m.registers) m.world).0.0

abbrev pub after_call : Call → Machine → Machine
after_call c m = record { registers = (run (answer_to c m.registers) m.world).0.1; world = (run (answer_to c m.registers) m.world).1 }

-- the same of a list of calls, one after the other
unfoldable pub after_calls : List Call → Machine → Machine
after_calls [] m = m
after_calls (c ∷ cs) m = after_calls cs (after_call c m)

unfoldable pub responses : List Call → Machine → List Response
responses [] m = []
responses (c ∷ cs) m = response c m ∷ responses cs (after_call c m)

abbrev pub is_entry : Answer → Bool
is_entry Ran = false
is_entry (Entered n) = true
is_entry Returned = false
is_entry (Faulted f) = false
is_entry (Locked f) = false

abbrev pub is_return : Answer → Bool
is_return Ran = false
is_return (Entered n) = false
is_return Returned = true
is_return (Faulted f) = false
is_return (Locked f) = false

-- a step that took up an exception, or that returned from one
abbrev pub entry : Response → Bool
entry (Ok (Stepped answer)) = is_entry answer
entry (Ok Accepted) = false
entry (Err refusal) = false

abbrev pub return : Response → Bool
return (Ok (Stepped answer)) = is_return answer
return (Ok Accepted) = false
return (Err refusal) = false

-- how many of the responses pass a test
unfoldable pub how_many : (Response → Bool) → List Response → ℕ
how_many test [] = 0
how_many test (r ∷ rs) = one_if (test r) + how_many test rs
