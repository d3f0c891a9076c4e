use Rattle.bus.specs.Made.{world}
use Rattle.cpu.specs.Responses.{stepped}
use Rattle.cpu.proofs.Keeping.{sound_core, keeps, step_sound, step_kept}
use Rattle.cpu.proofs.processor.Core.step.Goals as goal

pub invariant_of-self : goal.invariant_of-self
invariant_of-self g c =
    let bus = g.B.Bus in
    let before = world bus c.args.bus.now in
    let after = world bus c.step.new.bus in
    let kept = keeps c.step.new.r (step_sound c.args.self.now.registers c.step.new.r before after (stepped c.step.result) (sound_core c.args.self.now) c.step.ensures.runs) in
    record { even = kept.even; main = kept.main; process = kept.process; mode = kept.mode; current = kept.current }

pub returns-clause-kept : goal.returns-clause-kept
returns-clause-kept g c =
    let bus = g.B.Bus in
    let before = world bus c.args.bus.now in
    let after = world bus c.step.new.bus in
    step_kept c.args.self.now.registers c.step.new.r before after (stepped c.step.result) (sound_core c.args.self.now) c.step.ensures.runs
