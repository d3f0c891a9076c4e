-- One more step of a turn.
use Rattle.std.proofs.Common.{◌≡◌, ℕ, ◌+◌, ◌-◌, ◌≤◌, List, [], ◌++◌, sym, refl, ap, ◌∙◌, ap₂, subst, add-one, arith}
use Rattle.arch.specs.declared.answers.Call.{Call}
use Rattle.turns.specs.Plan.{opening, step_with_due, first_steps}

pub no_steps : (tick middle : ℕ) → first_steps tick middle 0 ≡ []
unfolding first_steps
no_steps tick middle = refl

pub more_steps : (tick middle k : ℕ) → first_steps tick middle (k + 1) ≡ first_steps tick middle k ++ step_with_due (k + 1) tick middle
unfolding first_steps
more_steps tick middle k = subst (λ n. first_steps tick middle n ≡ first_steps tick middle k ++ step_with_due n tick middle) (sym (add-one k)) refl

-- the same from the step before
last_step : (tick middle k : ℕ) → 1 ≤ k → first_steps tick middle (k - 1) ++ step_with_due k tick middle ≡ first_steps tick middle k
last_step tick middle k h = let e : k - 1 + 1 ≡ k = omega arith in sym (rw e at (more_steps tick middle (k - 1)))

pub one_more : (tick middle k : ℕ) (before after step : List Call) → 1 ≤ k → before ≡ opening ++ first_steps tick middle (k - 1) → step ≡ step_with_due k tick middle → after ≡ before ++ step → after ≡ opening ++ first_steps tick middle k
one_more tick middle k before after step h planned due added =
    added ∙ ap₂ ◌++◌ planned due ∙ ap (λ calls. opening ++ calls) (last_step tick middle k h)
