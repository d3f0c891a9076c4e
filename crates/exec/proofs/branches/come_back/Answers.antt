use Rattle.std.proofs.lemmas.Result.{err_from_is_err_and}
use Rattle.exec.proofs.Sequence.{makes_nothing, executed, makes_of, makes_then, makes_no_more}
use Rattle.exec.proofs.branches.come_back.Goals as goal

pub returns-in_err-exception_return : goal.returns-in_err-exception_return
returns-in_err-exception_return g c =
    let p = err_from_is_err_and c.from_residual.result c.from_residual.ensures.1 in
    rw (p.1, p.2) (executed (makes_no_more _ (makes_of c.in_err-exception_return.ensures)) c.in_err-exception_return.ensures.kept)

pub returns : goal.returns
returns g c = executed (makes_then _ (makes_of c.in_ok-exception_return.ensures) makes_nothing) tt
