use Rattle.std.proofs.Common.{◌≡◌, ◌+◌, ◌^◌, ◌<◌, ◌≤◌, true, ◌&&◌, leb, Ok, sym, ap, ◌∙◌, ap₂, arith, le-leb}
use Rattle.std.proofs.lemmas.Bool.{cond-true}
use Rattle.arch.specs.Machine.{Machine}
use Rattle.cpu.specs.Performed.{machine_on}
use Rattle.runs.specs.Outcome.{outcome_of}
use Rattle.runs.specs.Run.{longest, answers, left}
use Rattle.runs.proofs.Parts.{parts_make_whole}
use Rattle.runs.proofs.Whole.{joins}
use Rattle.runs.proofs.running.run_twice.Goals as goal

pub returns : goal.returns
returns g c =
    let t = g.T.Tally in
    let first_fits : c.args.first ≤ longest = omega arith in
    let second_fits : c.args.second ≤ longest = omega arith in
    let test : (leb c.args.first longest && leb c.args.second longest) ≡ true = ap₂ ◌&&◌ (le-leb _ _ first_fits) (le-leb _ _ second_fits) in
    let start : Machine = machine_on g.B.Bus c.args.core.now c.args.bus.now in
    let front = c.make_steps-front.ensures in
    let back = c.make_steps-back.ensures in
    let few : c.args.first + c.args.second < 2 ^ 32 = omega arith in
    let rest = back.value ∙ ap (λ m. outcome_of t (answers c.args.second m)) front.leaves in
    record {
      value = ap Ok (c.join_runs.ensures ∙ parts_make_whole t g.met.T.Tally.laws c.args.first c.args.second start _ _ few front.value rest) ∙ sym (cond-true _ _ _ test);
      leaves = (back.leaves ∙ ap (left c.args.second) front.leaves ∙ sym (joins c.args.first c.args.second start).leaves) ∙ sym (cond-true _ _ _ test);
      settled = back.settled ∙ front.settled;
      refused = λ h. absurd (omega arith);
    }
