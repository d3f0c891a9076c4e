-- What a run hands back.
use Rattle.std.specs.Prelude.{ℕ, ◌+◌, ◌-◌, ◌^◌, min, List, length}
use Rattle.arch.specs.declared.answers.Answer.{Answer}
use Rattle.runs.specs.Tally.{tally}
use Rattle.runs.specs.declared.outcome.Outcome.{Outcome}
use Rattle.runs.specs.declared.tally.Tally.{Ghosts as Tally}

abbrev pub outcome : {T : Type 0} → ℕ → T → Outcome T
outcome steps tally = record { steps = steps; tally = tally }

-- the tally of a kind of some answers
abbrev pub tally_by : {T : Type 0} → Tally T → List Answer → T
tally_by kind answers = tally kind.none kind.one kind.joined answers

-- how many answers there are, and what they tally
abbrev pub outcome_of : {T : Type 0} → Tally T → List Answer → Outcome T
outcome_of kind answers = outcome (length answers) (tally_by kind answers)

-- the sum of the steps, held at the greatest u32, and the join of the tallies
abbrev pub joined_outcomes : {T : Type 0} → (T → T → T) → Outcome T → Outcome T → Outcome T
joined_outcomes joined first second = outcome (min (first.steps + second.steps) (2 ^ 32 - 1)) (joined first.tally second.tally)
