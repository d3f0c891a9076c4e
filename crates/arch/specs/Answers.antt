-- The answers of a step by number, and what a call comes to.
use Rattle.std.specs.Prelude.{ℕ, Result}
use Rattle.bus.specs.declared.refusal.Refusal.{Refusal}
use Rattle.arch.specs.declared.answers.Answer.{Answer}
use Rattle.arch.specs.declared.answers.Answer.TheVariants.{Ran, Entered, Returned, Faulted, Locked}
use Rattle.arch.specs.declared.answers.Completed.{Completed}

abbrev pub answer_number : Answer → ℕ
answer_number Ran = 0
answer_number (Entered n) = 1
answer_number Returned = 2
answer_number (Faulted f) = 3
answer_number (Locked f) = 4

abbrev pub Response : Type 0
Response = Result Completed Refusal
