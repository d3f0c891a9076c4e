use Rattle.memory.specs.Flats.{Spare}
use Rattle.hub_run.proofs.run.run.Given as goal

abbrev pub invariant-loop-turn : goal.invariant-loop-turn
invariant-loop-turn l = Spare l.hub.table.regions
