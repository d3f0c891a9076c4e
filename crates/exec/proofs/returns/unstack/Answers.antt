use Rattle.std.proofs.Common.{refl}
use Rattle.std.proofs.lemmas.Result.{err_from_is_err_and}
use Rattle.exec.proofs.Sequence.{makes_nothing, executed, makes_then, makes_no_more}
use Rattle.exec.proofs.returns.unstack.Goals as goal

pub returns-in_err-frame : goal.returns-in_err-frame
returns-in_err-frame g c =
    let p = err_from_is_err_and c.from_residual.result c.from_residual.ensures.1 in
    rw (p.1, p.2) (executed (makes_no_more _ (rw (c.frame_right.ensures, c.frame_pointer.ensures) at c.in_err-frame.ensures)) refl)

pub returns : goal.returns
returns g c =
    executed (rw c.take_frame.ensures.value (makes_then _ (rw (c.frame_right.ensures, c.frame_pointer.ensures) at c.in_ok-frame.ensures) makes_nothing)) c.take_frame.ensures.kept
