use Rattle.std.proofs.Common.{◌≡◌, ◌+◌, sym, ap, ◌∙◌, subst, arith}
use Rattle.arch.specs.Machine.{Machine}
use Rattle.cpu.specs.Performed.{machine_on}
use Rattle.runs.proofs.Remainder.{Remainder, goes_on, whole_at_limit, whole_when_locked}
use Rattle.runs.proofs.Steps.{went, leaves, turned_away}
use Rattle.runs.proofs.running.make_steps.Goals as goal

pub loop-steps-preserved : goal.loop-steps-preserved
loop-steps-preserved g c =
    let t = g.T.Tally in
    let b = g.B.Bus in
    let start : Machine = machine_on b c.args.core.now c.args.bus.now in
    let here : Machine = machine_on b c.loop-steps.core c.loop-steps.bus in
    let there : Machine = machine_on b c.step.new.self c.step.new.bus in
    let runs = c.step.ensures.made.runs in
    let goes = went here there c.step.result runs c.in-Ok.answer c.in-Ok.is in
    let rest = goes_on t g.met.T.Tally.laws c.args.limit c.loop-steps.steps c.loop-steps.tally start here c.in-Ok.answer c.loop-steps-test.true goes c.loop-steps.invariant.0 in
    let sum = sym (c.join-tally.ensures ∙ ap (t.joined c.loop-steps.tally) c.of.ensures) in
    let after = Remainder t c.args.limit (c.loop-steps.steps + 1) in (
      subst (λ x. after x start there) sum (subst (after _ start) (leaves here there c.step.result runs) rest),
      c.step.ensures.made.settled ∙ c.loop-steps.invariant.1,
    )

pub returns-in_default : goal.returns-in_default
returns-in_default g c =
    let b = g.B.Bus in
    let start : Machine = machine_on b c.args.core.now c.args.bus.now in
    let here : Machine = machine_on b c.loop-steps.core c.loop-steps.bus in
    let there : Machine = machine_on b c.step.new.self c.step.new.bus in
    let turned = turned_away here there c.step.result c.step.ensures.made.runs c.in_default.field-0 c.in_default.is in
    let ends = whole_when_locked g.T.Tally g.met.T.Tally.laws c.args.limit c.loop-steps.steps c.loop-steps.tally start here c.loop-steps.invariant.0 turned.0 in
    record {
      value = ends.0;
      leaves = turned.1 ∙ ends.1;
      settled = c.step.ensures.made.settled ∙ c.loop-steps.invariant.1;
    }

pub returns : goal.returns
returns g c =
    let b = g.B.Bus in
    let start : Machine = machine_on b c.args.core.now c.args.bus.now in
    let here : Machine = machine_on b c.loop-steps.core c.loop-steps.bus in
    let made : c.loop-steps.steps ≡ c.args.limit = omega arith in
    let rest = subst (λ k. Remainder g.T.Tally c.args.limit k c.loop-steps.tally start here) made c.loop-steps.invariant.0 in
    let ends = whole_at_limit g.T.Tally g.met.T.Tally.laws c.args.limit c.args.limit c.loop-steps.tally start here rest (omega arith) in
    record {
      value = ends.0;
      leaves = ends.1;
      settled = c.loop-steps.invariant.1;
    }
