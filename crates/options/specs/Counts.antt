-- The options that take a number, and the range of each.
use Rattle.std.specs.Prelude.{ℕ, ◌≤◌, List, codes}
use Rattle.options.specs.declared.count.Count.{Count}
use Rattle.options.specs.declared.count.Count.TheVariants.{Steps, Tick, Turns}

abbrev pub option_of : Count → List ℕ
option_of Steps = codes "--steps"
option_of Tick = codes "--tick"
option_of Turns = codes "--turns"

abbrev pub most_of : Count → ℕ
most_of Steps = 100000
most_of Tick = 100000
most_of Turns = 1000

abbrev pub From1 : ℕ → Count → Type 0
From1 n count = (1 ≤ n) × (n ≤ most_of count)
