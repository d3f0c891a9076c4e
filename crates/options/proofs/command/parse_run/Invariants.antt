use Rattle.options.specs.Counts.{From1}
use Rattle.options.specs.declared.count.Count.TheVariants.{Steps, Tick, Turns}
use Rattle.options.proofs.command.parse_run.Given as goal

-- in a loop the fields of the options go by their places
abbrev pub invariant-loop-word : goal.invariant-loop-word
invariant-loop-word l = record {
  can_next : (goal.iterator-loop-word).can_next l.words;
  finite : (goal.iterator-loop-word).is_finite l.words;
  steps : From1 l.options.1.0 Steps;
  tick : From1 l.options.1.1.0 Tick;
  turns : From1 l.options.1.1.1.0 Turns;
}
