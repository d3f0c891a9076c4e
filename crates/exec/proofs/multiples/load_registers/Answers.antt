use Rattle.std.proofs.Common.{◌+◌, ◌-◌, [], ap, arith}
use Rattle.std.proofs.lemmas.Result.{err_from_is_err_and}
use Rattle.bus.specs.Made.{world}
use Rattle.bus.specs.Program.{run}
use Rattle.arch.specs.Accesses.{then, go_on}
use Rattle.arch.specs.Transfers.{registers_from, load_registers}
use Rattle.exec.specs.Lists.{load_next}
use Rattle.exec.proofs.Lists.{from_end, load_rest, load_step}
use Rattle.exec.proofs.Sequence.{makes_nothing, makes_no_more, continues_as, continues_on, makes_whole}
use Rattle.exec.proofs.multiples.load_registers.Goals as goal

pub returns-in_err-at : goal.returns-in_err-at
returns-in_err-at g c =
    let first = load_next c.args.right c.loop-i.r c.args.list c.loop-i.i c.loop-i.at in
    let next = load_rest c.args.right (registers_from (8 - (c.loop-i.i + 1)) (c.loop-i.i + 1) c.args.list) in
    let p = err_from_is_err_and c.from_residual.result c.from_residual.ensures.1 in
    rw (p.1, p.2) (makes_whole (continues_as c.loop-i.invariant (then first next) (load_step c.args.right c.loop-i.r c.args.list c.loop-i.i c.loop-i.at (world g.B.Bus c.loop-i.bus) (omega arith))) (makes_no_more next c.in_err-at.ensures))

pub loop-i-preserved : goal.loop-i-preserved
loop-i-preserved g c =
    let first = load_next c.args.right c.loop-i.r c.args.list c.loop-i.i c.loop-i.at in
    let next = load_rest c.args.right (registers_from (8 - (c.loop-i.i + 1)) (c.loop-i.i + 1) c.args.list) in
    continues_on (go_on next) (continues_as c.loop-i.invariant (then first next) (load_step c.args.right c.loop-i.r c.args.list c.loop-i.i c.loop-i.at (world g.B.Bus c.loop-i.bus) (omega arith))) c.in_ok-at.ensures

pub returns : goal.returns
unfolding load_registers
returns g c = makes_whole (continues_as c.loop-i.invariant (load_registers c.args.right c.loop-i.r [] c.loop-i.at) (ap (λ is. run (load_registers c.args.right c.loop-i.r is c.loop-i.at) (world g.B.Bus c.loop-i.bus)) (from_end c.loop-i.i c.args.list (omega arith)))) makes_nothing
