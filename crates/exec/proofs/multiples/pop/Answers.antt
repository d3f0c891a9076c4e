use Rattle.std.proofs.Common.{refl}
use Rattle.std.proofs.lemmas.Result.{err_from_is_err_and}
use Rattle.exec.proofs.Sequence.{executed, makes_then, makes_no_more}
use Rattle.exec.proofs.multiples.pop.Goals as goal

pub returns-in_err-load_registers : goal.returns-in_err-load_registers
returns-in_err-load_registers g c =
    let p = err_from_is_err_and c.from_residual.result c.from_residual.ensures.1 in
    rw (p.1, p.2) (executed (makes_no_more _ (rw (c.right-right.ensures, c.stack_pointer-base.ensures) at c.in_err-load_registers.ensures)) refl)

pub returns-in_err-flow : goal.returns-in_err-flow
returns-in_err-flow g c =
    let p = err_from_is_err_and c.from_residual-in_err-flow.result c.from_residual-in_err-flow.ensures.1 in
    rw (p.1, p.2) (executed (makes_then _
    (rw (c.right-right.ensures, c.stack_pointer-base.ensures) at c.in_ok-load_registers.ensures)
    (rw (c.right-right.ensures, c.stack_pointer-base.ensures, c.span.ensures.value) at c.in_err-flow.ensures)) refl)

pub returns : goal.returns
returns g c =
    executed (makes_then _
    (rw (c.right-right.ensures, c.stack_pointer-base.ensures) at c.in_ok-load_registers.ensures)
    (rw (c.right-right.ensures, c.stack_pointer-base.ensures, c.span.ensures.value) at c.in_ok-flow.ensures)) tt
