use Rattle.hub_run.proofs.run.take_turn.Goals as goal

pub returns : goal.returns
returns g c = let kept = c.play_turn.ensures.shut c.requires in record { shut = kept.0; spare = kept.1 }
