use Rattle.std.proofs.Common.{◌≡◌, ◌+◌, ◌-◌, ◌/◌, ◌++◌, sym, ap, ◌∙◌, arith}
use Rattle.turns.specs.Plan.{opening, first_steps}
use Rattle.turns.proofs.Plans.{no_steps, one_more}
use Rattle.turns.proofs.planning.plan.Goals as goal
use Rattle.turns.proofs.planning.plan.Goals.{else-loop-made-test, then-loop-made-test+in_ok-extend_from_slice-2+else-made-steps}

pub loop-made-init : goal.loop-made-init
loop-made-init c = record {
  within = omega arith;
  planned = c.in_ok-extend_from_slice.ensures.items
      ∙ ap (λ calls. calls ++ opening) c.new-calls.ensures.items
      ∙ ap (λ calls. opening ++ calls) (sym (no_steps c.args.tick (c.args.steps / 2)));
}

pub loop-made-preserved : goal.loop-made-preserved
loop-made-preserved c =
    let middle = c.args.steps / 2 in
    let made = c.loop-made.made in
    let now : made ≡ made + 1 - 1 = omega arith in
    record {
      within = omega arith;
      planned = one_more c.args.tick middle made _ _ _ c.loop-made.auto.made c.loop-made.invariant.planned c.step_with_due.ensures c.in_ok-extend_from_slice-2.ensures.items
          ∙ ap (λ k. opening ++ first_steps c.args.tick middle k) now;
    }

-- there is no step, or the last was made
pub returns : goal.returns
returns c =
    let middle = c.args.steps / 2 in
    let made = c.loop-made.made in
    elim c.loop-made-test.branch [
      | else-loop-made-test w ↦
          let none : made - 1 ≡ c.args.steps = omega arith in
          ap (λ calls. calls.items) w.calls-is ∙ c.loop-made.invariant.planned ∙ ap (λ k. opening ++ first_steps c.args.tick middle k) none
      | then-loop-made-test+in_ok-extend_from_slice-2+else-made-steps w ↦
          let last : made ≡ c.args.steps = omega arith in
          ap (λ calls. calls.items) w.calls-is
          ∙ one_more c.args.tick middle made _ _ _ c.loop-made.auto.made c.loop-made.invariant.planned w.step_with_due.ensures w.in_ok-extend_from_slice-2.ensures.items
          ∙ ap (λ k. opening ++ first_steps c.args.tick middle k) last
    ]
