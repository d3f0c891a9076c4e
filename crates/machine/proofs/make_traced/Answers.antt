use Rattle.std.proofs.Common.{◌+◌, List, vec_items, sym, refl, ap, ◌∙◌, subst}
use Rattle.bus.specs.Made.{world}
use Rattle.arch.specs.Answers.{Response}
use Rattle.arch.proofs.Isolating.{isolation_stands}
use Rattle.cpu.specs.Performed.{machine, machine_on, start_of}
use Rattle.cpu.proofs.Calling.{Underway, underway_none, underway_more, underway_all}
use Rattle.machine.proofs.Troubles.{troubled}
use Rattle.machine.proofs.make_traced.Goals as goal

pub returns-in_err-push : goal.returns-in_err-push
returns-in_err-push g c = record {
  came = troubled c.from_residual-in_err-push.result _ _ _ c.from_residual-in_err-push.ensures.0;
  settled = c.call_traced.ensures.settled ∙ c.loop-call.invariant.1 ∙ c.reset.ensures.made.settled;
}

pub loop-call-init : goal.loop-call-init
loop-call-init g c =
    let bus = g.B.Bus in
    let fresh = machine_on bus c.reset.new.self c.reset.new.bus in
    (underway_none c.args.calls.now fresh (vec_items c.in_ok-answers.answers) c.in_ok-answers.ensures.items, refl)

pub loop-call-preserved : goal.loop-call-preserved
loop-call-preserved g c =
    let bus = g.B.Bus in
    let calls = c.args.calls.now in
    let i = c.loop-call.call-index in
    let s = c.loop-call.core.registers in
    let t = c.call_traced.new.core.registers in
    let fresh = machine_on bus c.reset.new.self c.reset.new.bus in
    let before = world bus c.loop-call.bus in
    let after = world bus c.call_traced.new.bus in
    let inv = c.loop-call.invariant in
    let items = vec_items c.loop-call.answers in
    let made = c.in_ok-answer.ensures in (
      subst (λ (rs : List Response). Underway calls fresh (i + 1) rs (machine t after)) (sym c.in_ok-push.ensures.items) (underway_more calls fresh i items s t before after c.in_ok-answer.answer c.loop-call-test.true made.made.runs inv.0),
      made.settled ∙ inv.1,
    )

pub returns : goal.returns
returns g c =
    let bus = g.B.Bus in
    let calls = c.args.calls.now in
    let fresh = c.reset.new.self.registers in
    let start = world bus c.args.bus.now in
    let began = world bus c.reset.new.bus in
    let here = machine c.loop-call.core.registers (world bus c.loop-call.bus) in
    let inv = c.loop-call.invariant in
    let reset = c.in_default.ensures.made in
    let all = underway_all calls (machine fresh began) c.loop-call.call-index (vec_items c.loop-call.answers) here c.loop-call-test.false inv.0 in
    record {
      came = (machine fresh began, ap start_of reset.runs, record { answered = all.0; leaves = all.1; isolated = isolation_stands start began fresh calls reset.runs });
      settled = inv.1 ∙ reset.settled;
    }
