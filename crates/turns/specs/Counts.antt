-- How a turn's responses are counted.
use Rattle.std.specs.Prelude.{List, [], ◌∷◌, Ok, Err}
use Rattle.arch.specs.Answers.{Response}
use Rattle.arch.specs.declared.answers.Completed.TheVariants.{Stepped, Accepted}
use Rattle.terms.specs.Counting.{one_more}
use Rattle.turns.specs.declared.counting.Counts.{Counts}

abbrev pub none : Counts
none = record { stepped = 0; accepted = 0; refused = 0 }

abbrev pub counted : Counts → Response → Counts
counted c (Ok (Stepped answer)) = record { stepped = one_more c.stepped; accepted = c.accepted; refused = c.refused }
counted c (Ok Accepted) = record { stepped = c.stepped; accepted = one_more c.accepted; refused = c.refused }
counted c (Err refusal) = record { stepped = c.stepped; accepted = c.accepted; refused = one_more c.refused }

-- these on top of what was counted before
abbrev pub counted_all : Counts → List Response → Counts
counted_all c [] = c
counted_all c (response ∷ responses) = counted_all (counted c response) responses
