use Rattle.std.proofs.Common.{[], ◌∷◌, refl, arith}
use Rattle.std.proofs.lemmas.Bool.Decides.{nat_tests}
use Rattle.thumb.specs.Rows.{wide_rows}
use Rattle.thumb.proofs.Undefined.{drawn_only, undefined}
use Rattle.thumb.proofs.Known.{above}
use Rattle.thumb.proofs.wide.wide.Goals as goal

pub returns-then-x-ne30 : goal.returns-then-x-ne30
unfolding drawn_only
returns-then-x-ne30 c = undefined wide_rows [] 27 5 (30 ∷ []) refl c.args.x tt (grind (arith, nat_tests))

pub returns-in_default : goal.returns-in_default
unfolding drawn_only
returns-in_default c =
    undefined wide_rows (above 27 30 ∷ []) 12 4 (8 ∷ 10 ∷ 13 ∷ 15 ∷ []) refl c.args.x (omega arith, tt) (grind (arith, nat_tests))
