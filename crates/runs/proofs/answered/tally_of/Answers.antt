use Rattle.std.proofs.Common.{◌≡◌, ◌+◌, get_or, drop, Ok, sym, ap, ◌∙◌, subst}
use Rattle.std.proofs.lemmas.List.{drop_all, drop_more}
use Rattle.arch.specs.declared.answers.Answer.TheVariants.{Ran}
use Rattle.arch.specs.declared.answers.Completed.TheVariants.{Stepped}
use Rattle.runs.specs.Outcome.{tally_by}
use Rattle.runs.specs.Run.{answer_in, answers_in}
use Rattle.runs.specs.Tally.{tally}
use Rattle.runs.proofs.Parts.{tally_append}
use Rattle.runs.proofs.answered.tally_of.Goals as goal

pub loop-response-init : goal.loop-response-init
loop-response-init g c =
    let t = g.T.Tally in
    let all = tally_by t (answers_in c.args.responses.now) in
    ap (λ x. t.joined x all) c.empty-sum.ensures ∙ g.met.T.Tally.laws.left all

pub loop-response-preserved : goal.loop-response-preserved
unfolding answers_in
loop-response-preserved g c =
    let t = g.T.Tally in
    let laws = g.met.T.Tally.laws in
    let responses = c.args.responses.now in
    let i = c.loop-response.response-index in
    let sum = c.loop-response.sum in
    let response = get_or responses i (Ok (Stepped Ran)) in
    let one = tally_by t (answer_in response) in
    let rest = answers_in (drop (i + 1) responses) in
    let others = tally_by t rest in
    ap (λ x. t.joined x others) (c.join-sum.ensures ∙ ap (t.joined sum) c.tally_of_one.ensures)
    ∙ laws.assoc sum one others
    ∙ ap (t.joined sum) (sym (tally_append t laws (answer_in response) rest))
    ∙ ap (λ rs. t.joined sum (tally_by t (answers_in rs))) (sym (drop_more responses i (Ok (Stepped Ran)) c.loop-response-test.true))
    ∙ c.loop-response.invariant

pub returns : goal.returns
unfolding answers_in tally
returns g c =
    let t = g.T.Tally in
    let responses = c.args.responses.now in
    let sum = c.loop-response.sum in
    let end = drop_all c.loop-response.response-index responses c.loop-response-test.false in
    let value : sum ≡ tally_by t (answers_in responses) =
    sym (g.met.T.Tally.laws.right sum)
    ∙ ap (λ rs. t.joined sum (tally_by t (answers_in rs))) (sym end)
    ∙ c.loop-response.invariant in
    record { value = value; says = subst (λ x. t.Says x (answers_in responses)) (sym value) (g.met.T.Tally.says (answers_in responses)) }
