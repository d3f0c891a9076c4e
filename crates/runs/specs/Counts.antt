-- Counts of the five answers.
use Rattle.std.specs.Prelude.{◌≡◌, ℕ, ◌+◌, ◌-◌, ◌^◌, ◌≤◌, min, max, List, [], ◌∷◌, length, ◌==◌}
use Rattle.word.specs.Sums.{one_if}
use Rattle.arch.specs.Answers.{answer_number}
use Rattle.arch.specs.Machine.{Machine}
use Rattle.arch.specs.declared.answers.Answer.{Answer}
use Rattle.runs.specs.Run.{longest, answers}
use Rattle.runs.specs.Tally.{tally}
use Rattle.runs.specs.declared.counts.Counts.{Counts}

abbrev pub counts : ℕ → ℕ → ℕ → ℕ → ℕ → Counts
counts ran entered returned faulted locked = record { ran = ran; entered = entered; returned = returned; faulted = faulted; locked = locked }

abbrev pub no_counts : Counts
no_counts = counts 0 0 0 0 0

-- 1 where the answer has the number k
abbrev pub one_of : ℕ → Answer → ℕ
one_of k answer = one_if (answer_number answer == k)

abbrev pub count_of : Answer → Counts
count_of a = counts (one_of 0 a) (one_of 1 a) (one_of 2 a) (one_of 3 a) (one_of 4 a)

-- the greatest count
abbrev pub top : ℕ
top = 2 ^ 64 - 1

-- the sum, or the greatest count where it is above; a number above that, which no count is, stays as it is
abbrev pub held : ℕ → ℕ → ℕ
held x y = max (max x y) (min (x + y) top)

abbrev pub added : Counts → Counts → Counts
added x y = counts (held x.ran y.ran) (held x.entered y.entered) (held x.returned y.returned) (held x.faulted y.faulted) (held x.locked y.locked)

-- the counts of some answers
abbrev pub counts_of : List Answer → Counts
counts_of answers = tally no_counts count_of added answers

-- how many of them have the number k
unfoldable pub how_many : ℕ → List Answer → ℕ
how_many k [] = 0
how_many k (a ∷ rest) = one_of k a + how_many k rest

abbrev pub all_counts : Counts → ℕ
all_counts c = c.ran + c.entered + c.returned + c.faulted + c.locked

-- each count is how many of the answers are its own, held at the greatest count; together they are all answers
pub record Counted (c : Counts) (answers : List Answer) : Type 0 where
  pub ran : c.ran ≡ min (how_many 0 answers) top
  pub entered : c.entered ≡ min (how_many 1 answers) top
  pub returned : c.returned ≡ min (how_many 2 answers) top
  pub faulted : c.faulted ≡ min (how_many 3 answers) top
  pub locked : c.locked ≡ min (how_many 4 answers) top
  pub all : length answers ≤ top → all_counts c ≡ length answers

-- of a run, none is held: the five counts together are its steps
abbrev pub CountsAreSteps : Type 0
CountsAreSteps = (n : ℕ) (m : Machine) → n ≤ longest → all_counts (counts_of (answers n m)) ≡ length (answers n m)
