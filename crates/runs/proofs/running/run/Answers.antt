use Rattle.std.proofs.Common.{◌≡◌, ◌≤◌, true, leb, Ok, sym, ap, ◌∙◌, subst, arith, le-leb}
use Rattle.std.proofs.lemmas.Bool.{cond-true}
use Rattle.arch.specs.Machine.{Machine}
use Rattle.cpu.specs.Performed.{machine_on}
use Rattle.runs.specs.Run.{longest, answers, Stepwise}
use Rattle.runs.proofs.Whole.{stepwise}
use Rattle.runs.proofs.running.run.Goals as goal

pub returns : goal.returns
returns g c =
    let fits : c.args.n ≤ longest = omega arith in
    let test : leb c.args.n longest ≡ true = le-leb _ _ fits in
    let start : Machine = machine_on g.B.Bus c.args.core.now c.args.bus.now in
    record {
      value = ap Ok c.make_steps.ensures.value ∙ sym (cond-true _ _ _ test);
      leaves = c.make_steps.ensures.leaves ∙ sym (cond-true _ _ _ test);
      stepwise = subst (Stepwise c.args.n start) (sym (ap (λ x. x.steps) c.make_steps.ensures.value)) (stepwise c.args.n start);
      says = subst (λ x. g.T.Tally.Says x (answers c.args.n start)) (sym (ap (λ x. x.tally) c.make_steps.ensures.value)) (g.met.T.Tally.says (answers c.args.n start));
      settled = c.make_steps.ensures.settled;
      refused = λ h. absurd (omega arith);
    }
