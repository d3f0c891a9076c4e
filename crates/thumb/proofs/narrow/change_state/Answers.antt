use Rattle.std.proofs.Common.{[], ◌∷◌, refl, arith}
use Rattle.std.proofs.lemmas.Bool.Decides.{nat_tests}
use Rattle.thumb.proofs.Undefined.{drawn_only, undefined}
use Rattle.thumb.specs.Rows.{narrow_rows}
use Rattle.thumb.proofs.Known.{above}
use Rattle.thumb.proofs.Settled.{settled, by_prefix}
use Rattle.thumb.proofs.narrow.change_state.Goals as goal

pub returns-then-x-ne1459 : goal.returns-then-x-ne1459
unfolding drawn_only
returns-then-x-ne1459 c = undefined narrow_rows (above 8 182 ∷ []) 5 3 (3 ∷ []) refl c.args.x (c.requires, tt) (grind (arith, nat_tests))

pub returns-then-field-ne2 : goal.returns-then-field-ne2
unfolding settled
returns-then-field-ne2 c = by_prefix c.args.x 5 1459 (omega arith) (grind (arith, nat_tests))

pub returns-else-field-ne2 : goal.returns-else-field-ne2
unfolding settled
returns-else-field-ne2 c = by_prefix c.args.x 5 1459 (omega arith) (grind (arith, nat_tests))
