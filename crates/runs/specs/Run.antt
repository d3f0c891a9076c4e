-- A run of steps: what it answers, what it leaves, and the laws over runs.
use Rattle.std.specs.Prelude.{◌≡◌, ℕ, zero, suc, ◌+◌, ◌<◌, ◌≤◌, true, cond, List, [], ◌∷◌, ◌++◌, map, replicate, Ok, Err}
use Rattle.bus.specs.declared.fault.Fault.{Fault}
use Rattle.arch.specs.Answers.{Response}
use Rattle.arch.specs.Machine.{Machine, response, after_call, after_calls, responses}
use Rattle.arch.specs.declared.answers.Answer.{Answer}
use Rattle.arch.specs.declared.answers.Answer.TheVariants.{Locked}
use Rattle.arch.specs.declared.answers.Call.TheVariants.{Step}
use Rattle.arch.specs.declared.answers.Completed.TheVariants.{Stepped, Accepted}

abbrev pub answer_in : Response → List Answer
answer_in (Ok (Stepped answer)) = answer ∷ []
answer_in (Ok Accepted) = []
answer_in (Err refusal) = []

-- the answers of the steps among the responses to some calls
unfoldable pub answers_in : List Response → List Answer
answers_in [] = []
answers_in (r ∷ rest) = answer_in r ++ answers_in rest

-- the answers of a run of at most n steps: a locked core makes none, another makes one and goes on
unfoldable pub answers : ℕ → Machine → List Answer
answers zero m = []
answers (suc n) m = cond m.registers.locked [] (answer_in (response Step m) ++ answers n (after_call Step m))

-- and the machine after it
unfoldable pub left : ℕ → Machine → Machine
left zero m = m
left (suc n) m = cond m.registers.locked m (left n (after_call Step m))

-- the longest run that can be asked for
abbrev pub longest : ℕ
longest = 65535

-- a run of n steps and then one of k more is a run of n + k, wherever it stops
pub record Joins (n k : ℕ) (m : Machine) : Type 0 where
  pub answered : answers (n + k) m ≡ answers n m ++ answers k (left n m)
  pub leaves : left (n + k) m ≡ left k (left n m)

abbrev pub RunsJoin : Type 0
RunsJoin = (n k : ℕ) (m : Machine) → Joins n k m

-- what a run of n steps is: so many steps, not more than n, and fewer only of a core that ends locked; their answers one after the other; none after one that locks
pub record Stepwise (n : ℕ) (m : Machine) (steps : ℕ) : Type 0 where
  pub within : steps ≤ n
  pub stopped : steps < n → (left n m).registers.locked ≡ true
  pub answered : responses (replicate steps Step) m ≡ map (λ answer. Ok (Stepped answer)) (answers n m)
  pub leaves : after_calls (replicate steps Step) m ≡ left n m
  pub last : (f : Fault) (before after : List Answer) → answers n m ≡ before ++ (Locked f ∷ after) → after ≡ []
