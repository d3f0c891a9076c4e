use Rattle.std.proofs.Common.{◌≡◌, drop}
use Rattle.runs.specs.Outcome.{tally_by}
use Rattle.runs.specs.Run.{answers_in}
use Rattle.runs.proofs.answered.tally_of.Given as goal

-- the responses that are left, joined to the tally so far, are all of them
abbrev pub invariant-loop-response : goal.invariant-loop-response
invariant-loop-response g l =
    let t = g.T.Tally in
    t.joined l.sum (tally_by t (answers_in (drop l.response-index l.responses))) ≡ tally_by t (answers_in l.responses)
