-- A run in two parts comes to what it comes to in one.
use Rattle.std.proofs.Common.{◌≡◌, ℕ, ◌+◌, ◌^◌, ◌<◌, List, [], ◌∷◌, ◌++◌, length, sym, ap, ◌∙◌, ap₂, arith, length-append}
use Rattle.arch.specs.Machine.{Machine}
use Rattle.arch.specs.declared.answers.Answer.{Answer}
use Rattle.runs.specs.Outcome.{outcome, tally_by, outcome_of, joined_outcomes}
use Rattle.runs.specs.Run.{answers, left}
use Rattle.runs.specs.Tally.{Laws, tally}
use Rattle.runs.specs.declared.outcome.Outcome.{Outcome}
use Rattle.runs.specs.declared.tally.Tally.{Ghosts as Tally}
use Rattle.runs.proofs.Whole.{joins, stepwise}

-- the answers of one run after those of another
pub tally_append : {T : Type 0} (kind : Tally T) → Laws kind.none kind.joined → (xs ys : List Answer) → tally_by kind (xs ++ ys) ≡ kind.joined (tally_by kind xs) (tally_by kind ys)
unfolding tally
tally_append kind laws [] ys = sym (laws.left _)
tally_append kind laws (x ∷ xs) ys = ap (kind.joined (kind.one x)) (tally_append kind laws xs ys) ∙ sym (laws.assoc (kind.one x) _ _)

module _ {T : Type 0} (kind : Tally T) (laws : Laws kind.none kind.joined) where
  of_both : (xs ys : List Answer) → length (xs ++ ys) < 2 ^ 32 → joined_outcomes kind.joined (outcome_of kind xs) (outcome_of kind ys) ≡ outcome_of kind (xs ++ ys)
  of_both xs ys few = ap₂ outcome (omega (arith, length-append xs ys)) (sym (tally_append kind laws xs ys))

  pub parts_make_whole : (n k : ℕ) (m : Machine) (first second : Outcome T) → n + k < 2 ^ 32 → first ≡ outcome_of kind (answers n m) → second ≡ outcome_of kind (answers k (left n m)) → joined_outcomes kind.joined first second ≡ outcome_of kind (answers (n + k) m)
  parts_make_whole n k m first second few front back =
      let all = (joins n k m).answered in
      ap₂ (joined_outcomes kind.joined) front back
      ∙ of_both (answers n m) (answers k (left n m)) (omega (arith, ap length all, (stepwise (n + k) m).within))
      ∙ sym (ap (outcome_of kind) all)
