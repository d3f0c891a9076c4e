use Rattle.std.proofs.Common.{◌+◌, drop, sym, ap, ◌∙◌}
use Rattle.std.proofs.lemmas.List.{at_drop_more, at_drop_all}
use Rattle.turns.specs.Counts.{counted_all}
use Rattle.turns.proofs.counting.count.Goals as goal

pub loop-response-preserved : goal.loop-response-preserved
loop-response-preserved c =
    let xs = c.args.responses.now in
    let i = c.loop-response.response-index in
    ap (λ counts. counted_all counts (drop (i + 1) xs)) c.note.ensures
    ∙ sym (at_drop_more (counted_all c.loop-response.counts) xs i _ c.loop-response-test.true)
    ∙ c.loop-response.invariant

pub returns : goal.returns
returns c =
    sym (at_drop_all (counted_all c.loop-response.counts) c.args.responses.now c.loop-response.response-index c.loop-response-test.false)
    ∙ c.loop-response.invariant
