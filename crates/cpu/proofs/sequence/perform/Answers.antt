use Rattle.std.proofs.Common.{◌+◌, ◌<◌, Bool, cond, List, [], ◌∷◌, ◌++◌, vec_items, vec_len, vec_capacity, sym, refl, ap, ◌∙◌, subst, arith}
use Rattle.bus.specs.Made.{world}
use Rattle.arch.proofs.Isolating.{isolation_stands}
use Rattle.arch.specs.Answers.{Response}
use Rattle.cpu.specs.Performed.{machine, start_of}
use Rattle.cpu.proofs.Calling.{Underway, underway_none, underway_more, underway_all}
use Rattle.cpu.proofs.sequence.perform.Goals as goal

pub loop-call-init : goal.loop-call-init
loop-call-init g c =
    let bus = g.B.Bus in
    let fresh = machine c.reset.new.self.registers (world bus c.reset.new.bus) in
    let empty = c.in_ok-answers.ensures in
    (underway_none c.args.calls.now fresh (vec_items c.in_ok-answers.answers) empty.items, refl, empty.len, empty.capacity)

pub loop-call-preserved : goal.loop-call-preserved
loop-call-preserved g c =
    let bus = g.B.Bus in
    let calls = c.args.calls.now in
    let i = c.loop-call.call-index in
    let s = c.loop-call.core.registers in
    let t = c.call-answer.new.self.registers in
    let fresh = machine c.reset.new.self.registers (world bus c.reset.new.bus) in
    let before = world bus c.loop-call.bus in
    let after = world bus c.call-answer.new.bus in
    let answer = c.call-answer.result in
    let made = c.call-answer.ensures in
    let inv = c.loop-call.invariant in
    let items = vec_items c.loop-call.answers in
    let room : vec_len c.loop-call.answers < vec_capacity c.loop-call.answers = omega (arith, inv.2, inv.3) in
    let pushed = c.push.ensures.succeeds room in
    let longer = c.push.ensures.items ∙ ap (λ (b : Bool). cond b (items ++ answer ∷ []) items) pushed in (
      subst (λ (rs : List Response). Underway calls fresh (i + 1) rs (machine t after)) (sym longer) (underway_more calls fresh i items s t before after answer c.loop-call-test.true made.runs inv.0),
      made.settled ∙ inv.1,
      c.push.ensures.len ∙ ap (λ (b : Bool). cond b (vec_len c.loop-call.answers + 1) (vec_len c.loop-call.answers)) pushed ∙ ap (λ n. n + 1) inv.2,
      omega (arith, inv.3, c.push.ensures.capacity),
    )

pub returns : goal.returns
returns g c =
    let bus = g.B.Bus in
    let calls = c.args.calls.now in
    let fresh = c.reset.new.self.registers in
    let start = world bus c.args.bus.now in
    let began = world bus c.reset.new.bus in
    let here = machine c.loop-call.core.registers (world bus c.loop-call.bus) in
    let inv = c.loop-call.invariant in
    let reset = c.in_ok-reset.ensures in
    let all = underway_all calls (machine fresh began) c.loop-call.call-index (vec_items c.loop-call.answers) here c.loop-call-test.false inv.0 in
    record {
      performed = (machine fresh began, ap start_of reset.made.runs, record { answered = all.0; leaves = all.1; isolated = isolation_stands start began fresh calls reset.made.runs });
      settled = inv.1 ∙ reset.made.settled;
    }
