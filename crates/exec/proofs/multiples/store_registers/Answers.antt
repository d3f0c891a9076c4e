use Rattle.std.proofs.Common.{◌+◌, ◌-◌, [], ap, arith}
use Rattle.std.proofs.lemmas.Result.{err_from_is_err_and}
use Rattle.bus.specs.Made.{world}
use Rattle.bus.specs.Program.{run}
use Rattle.arch.specs.Accesses.{then, go_on}
use Rattle.arch.specs.Transfers.{registers_from, store_registers}
use Rattle.exec.specs.Lists.{store_next}
use Rattle.exec.proofs.Lists.{from_end, store_step}
use Rattle.exec.proofs.Sequence.{makes_nothing, makes_no_more, continues_as, continues_on, makes_whole}
use Rattle.exec.proofs.multiples.store_registers.Goals as goal

pub returns-in_err-at : goal.returns-in_err-at
returns-in_err-at g c =
    let first = store_next c.args.r.now c.args.list c.loop-i.i c.loop-i.at in
    let next = store_registers c.args.r.now (registers_from (8 - (c.loop-i.i + 1)) (c.loop-i.i + 1) c.args.list) in
    let p = err_from_is_err_and c.from_residual.result c.from_residual.ensures.1 in
    rw (p.1, p.2) (makes_whole (continues_as c.loop-i.invariant (then first next) (store_step c.args.r.now c.args.list c.loop-i.i c.loop-i.at (world g.B.Bus c.loop-i.bus) (omega arith))) (makes_no_more next c.in_err-at.ensures))

pub loop-i-preserved : goal.loop-i-preserved
loop-i-preserved g c =
    let first = store_next c.args.r.now c.args.list c.loop-i.i c.loop-i.at in
    let next = store_registers c.args.r.now (registers_from (8 - (c.loop-i.i + 1)) (c.loop-i.i + 1) c.args.list) in
    continues_on (go_on next) (continues_as c.loop-i.invariant (then first next) (store_step c.args.r.now c.args.list c.loop-i.i c.loop-i.at (world g.B.Bus c.loop-i.bus) (omega arith))) c.in_ok-at.ensures

pub returns : goal.returns
unfolding store_registers
returns g c = makes_whole (continues_as c.loop-i.invariant (store_registers c.args.r.now [] c.loop-i.at) (ap (λ is. run (store_registers c.args.r.now is c.loop-i.at) (world g.B.Bus c.loop-i.bus)) (from_end c.loop-i.i c.args.list (omega arith)))) makes_nothing
