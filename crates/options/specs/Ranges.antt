-- Each number that is asked for is in its range.
use Rattle.std.specs.Prelude.{Ok, Err, Result}
use Rattle.options.specs.Counts.{From1}
use Rattle.options.specs.declared.count.Count.TheVariants.{Steps, Tick, Turns}
use Rattle.options.specs.declared.asked.Options.{Options}
use Rattle.options.specs.declared.asked.Asked.{Asked}
use Rattle.options.specs.declared.asked.Asked.TheVariants.{Help, Run, Script}
use Rattle.options.specs.declared.mistake.Mistake.{Mistake}

-- each number is in its range
abbrev pub Ranged : Options → Type 0
Ranged o = From1 o.steps Steps × From1 o.tick Tick × From1 o.turns Turns

abbrev pub AllRanged : Result Asked Mistake → Type 0
AllRanged (Ok Help) = Unit {0}
AllRanged (Ok (Run options)) = Ranged options
AllRanged (Ok (Script file)) = Unit {0}
AllRanged (Err mistake) = Unit {0}
