use Rattle.std.proofs.Common.{refl}
use Rattle.std.proofs.lemmas.Result.{err_from_is_err_and}
use Rattle.exec.proofs.Sequence.{makes_nothing, executed, makes_then, makes_no_more}
use Rattle.exec.proofs.multiples.load_multiple.Goals as goal

pub returns-in_err-load_registers : goal.returns-in_err-load_registers
returns-in_err-load_registers g c =
    let p = err_from_is_err_and c.from_residual.result c.from_residual.ensures.1 in
    rw (p.1, p.2) (executed (makes_no_more _ (rw (c.set_register.ensures, c.right-right.ensures, c.register-base.ensures, c.span.ensures.value) at c.in_err-load_registers.ensures)) refl)

pub returns : goal.returns
returns g c =
    rw c.move_on.ensures (executed (makes_then _ (rw (c.set_register.ensures, c.right-right.ensures, c.register-base.ensures, c.span.ensures.value) at c.in_ok-load_registers.ensures) makes_nothing) tt)
