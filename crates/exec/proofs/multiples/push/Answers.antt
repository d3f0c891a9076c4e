use Rattle.std.proofs.Common.{ℕ, Bool, ◌+◌, ◌*◌, Ok, refl}
use Rattle.std.proofs.lemmas.Result.{err_from_is_err_and}
use Rattle.bus.specs.Program.{done}
use Rattle.word.specs.Sums.{one_if}
use Rattle.arch.specs.Accesses.{Attempt}
use Rattle.arch.specs.Branches.{Done, ran}
use Rattle.arch.specs.Registers.{minus, sp, with_sp, moved_on}
use Rattle.arch.specs.Transfers.{span}
use Rattle.arch.specs.declared.registers.Registers.{Registers}
use Rattle.exec.proofs.Lists.{link_makes}
use Rattle.exec.proofs.Sequence.{makes_nothing, executed, makes_then, makes_no_more}
use Rattle.exec.proofs.multiples.push.Goals as goal

-- what is left once all is stored
abbrev pushed : ℕ → Bool → Registers → Unit {0} → Attempt Done
pushed list lr s _ = done (Ok (ran (moved_on 2 (with_sp s (minus (sp s) (span list + 4 * one_if lr))))))

pub returns-in_err-top : goal.returns-in_err-top
returns-in_err-top g c =
    let p = err_from_is_err_and c.from_residual.result c.from_residual.ensures.1 in
    rw (p.1, p.2) (executed (makes_no_more _ (rw c.push_base-base.ensures at c.in_err-top.ensures)) refl)

pub returns-in_err-push_link : goal.returns-in_err-push_link
returns-in_err-push_link g c =
    let s = c.args.r.now in
    let p = err_from_is_err_and c.from_residual-in_err-push_link.result c.from_residual-in_err-push_link.ensures.1 in
    rw (p.1, p.2) (executed (makes_then _ (rw c.push_base-base.ensures at c.in_ok-top.ensures) (link_makes c.args.lr s c.in_ok-top.top (pushed c.args.list c.args.lr s) (makes_no_more _ c.in_err-push_link.ensures))) refl)

pub returns : goal.returns
returns g c =
    let s = c.args.r.now in
    rw (c.move_on.ensures, c.set_stack_pointer.ensures, c.push_base-base.ensures) (executed (makes_then _ (rw c.push_base-base.ensures at c.in_ok-top.ensures) (link_makes c.args.lr s c.in_ok-top.top (pushed c.args.list c.args.lr s) (makes_then _ c.in_ok-push_link.ensures makes_nothing))) tt)
