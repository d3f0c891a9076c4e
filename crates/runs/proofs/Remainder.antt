-- A run on the way: what is left of it, joined to what was made, is the whole.
use Rattle.std.proofs.Common.{◌≡◌, ℕ, suc, ◌+◌, ◌-◌, ◌<◌, ◌≤◌, true, [], length, sym, ap, ◌∙◌, ap₂, arith}
use Rattle.arch.specs.Machine.{Machine, after_call}
use Rattle.arch.specs.declared.answers.Answer.{Answer}
use Rattle.arch.specs.declared.answers.Call.TheVariants.{Step}
use Rattle.runs.specs.Run.{answers, left}
use Rattle.runs.specs.Outcome.{outcome, tally_by, outcome_of}
use Rattle.runs.specs.declared.tally.Tally.{Ghosts as Tally}
use Rattle.runs.specs.Tally.{Laws, tally}
use Rattle.runs.proofs.Steps.{Goes, no_answer, unmoved, one_answer, one_step}

module _ {T : Type 0} (kind : Tally T) where
  -- k of n steps were made from `start`, with this tally, and left the machine here
  pub record Remainder (n k : ℕ) (sum : T) (start here : Machine) : Type 0 where
    pub within : k ≤ n
    pub counted : k + length (answers (n - k) here) ≡ length (answers n start)
    pub tallied : kind.joined sum (tally_by kind (answers (n - k) here)) ≡ tally_by kind (answers n start)
    pub leaves : left (n - k) here ≡ left n start

  module _ (laws : Laws kind.none kind.joined) where
    pub goes_on : (n k : ℕ) (sum : T) (start here : Machine) (answer : Answer) → k < n → Goes here answer → Remainder n k sum start here → Remainder n (k + 1) (kind.joined sum (kind.one answer)) start (after_call Step here)
    unfolding tally
    goes_on n k sum start here answer more goes rest =
        let next : n - k ≡ suc (n - (k + 1)) = omega arith in
        let told = ap (λ j. answers j here) next ∙ one_answer (n - (k + 1)) here answer goes in
        let moved = ap (λ j. left j here) next ∙ one_step (n - (k + 1)) here answer goes in
        record {
          within = omega arith;
          counted = omega (arith, rest.counted, ap length told);
          tallied = laws.assoc sum (kind.one answer) _ ∙ sym (ap (λ xs. kind.joined sum (tally_by kind xs)) told) ∙ rest.tallied;
          leaves = sym moved ∙ rest.leaves;
        }

    -- at the last step, or where the core is locked, nothing is left of it
    module _ (n k : ℕ) (sum : T) (start here : Machine) (rest : Remainder n k sum start here) where
      whole : answers (n - k) here ≡ [] → outcome k sum ≡ outcome_of kind (answers n start)
      unfolding tally
      whole told = ap₂ outcome (omega (arith, rest.counted, ap length told)) (sym (laws.right sum) ∙ sym (ap (λ xs. kind.joined sum (tally_by kind xs)) told) ∙ rest.tallied)

      pub whole_at_limit : n ≤ k → (outcome k sum ≡ outcome_of kind (answers n start)) × (here ≡ left n start)
      unfolding answers left
      whole_at_limit done = let none_left : n - k ≡ 0 = omega arith in (whole (ap (λ j. answers j here) none_left), sym (ap (λ j. left j here) none_left) ∙ rest.leaves)

      pub whole_when_locked : here.registers.locked ≡ true → (outcome k sum ≡ outcome_of kind (answers n start)) × (here ≡ left n start)
      whole_when_locked locked = (whole (no_answer (n - k) here locked), sym (unmoved (n - k) here locked) ∙ rest.leaves)
