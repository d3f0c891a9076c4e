use Rattle.std.proofs.Common.{[], ◌∷◌, refl, arith}
use Rattle.std.proofs.lemmas.Bool.Decides.{nat_tests}
use Rattle.thumb.specs.Rows.{wide_rows}
use Rattle.thumb.proofs.Undefined.{drawn_only, undefined}
use Rattle.thumb.proofs.Settled.{control, held}
use Rattle.thumb.proofs.wide.control.Goals as goal

pub returns-in_default : goal.returns-in_default
unfolding drawn_only
returns-in_default c =
    undefined wide_rows (control 27 30) 21 6 (28 ∷ 29 ∷ 31 ∷ 63 ∷ []) refl c.args.x
    (held c.args.x 27 30 c.requires) (grind (arith, nat_tests))
