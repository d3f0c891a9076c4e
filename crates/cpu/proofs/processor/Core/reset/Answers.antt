use Rattle.bus.specs.Made.{world}
use Rattle.arch.proofs.Isolating.{begins}
use Rattle.cpu.proofs.Keeping.{keeps}
use Rattle.cpu.proofs.processor.Core.reset.Goals as goal

pub invariant_of-self : goal.invariant_of-self
invariant_of-self g c =
    let bus = g.B.Bus in
    let s = c.in_ok-self.field-0 in
    let before = world bus c.args.bus.now in
    let after = world bus c.boot.new.bus in
    let kept = keeps s (begins before after s c.in_ok-self.ensures.made.runs).0 in
    record { even = kept.even; main = kept.main; process = kept.process; mode = kept.mode; current = kept.current }
