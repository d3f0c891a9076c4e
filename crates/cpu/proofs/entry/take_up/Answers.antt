use Rattle.std.proofs.Common.{sym, ◌∙◌}
use Rattle.arch.specs.Entry.{is_last, take}
use Rattle.exec.proofs.Sequence.{makes_bind}
use Rattle.cpu.proofs.entry.take_up.Goals as goal

pub returns-then-is_last : goal.returns-then-is_last
returns-then-is_last g c =
    let n = c.args.number in
    makes_bind (take (is_last n) c.args.r.now n) c.stack_frame-refused.ensures (rw (sym c.is_last.ensures ∙ c.if-is_last.true) c.take_last.ensures)

pub returns : goal.returns
returns g c =
    let n = c.args.number in
    makes_bind (take (is_last n) c.args.r.now n) c.stack_frame-refused.ensures (rw (sym c.is_last.ensures ∙ c.if-is_last.false) c.take_other.ensures)
