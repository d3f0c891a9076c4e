use Rattle.std.proofs.lemmas.Result.{err_from_is_err_and}
use Rattle.arch.specs.Return.{read_frame}
use Rattle.exec.proofs.Sequence.{makes_then, makes_no_more}
use Rattle.exec.proofs.returns.read_frame.Goals as goal

pub returns-in_err-lower : goal.returns-in_err-lower
unfolding read_frame
returns-in_err-lower g c =
    let p = err_from_is_err_and c.from_residual.result c.from_residual.ensures.1 in
    rw (p.1, p.2) (makes_no_more _ c.in_err-lower.ensures)

pub returns : goal.returns
unfolding read_frame
returns g c = makes_then _ c.in_ok-lower.ensures c.read_upper.ensures
