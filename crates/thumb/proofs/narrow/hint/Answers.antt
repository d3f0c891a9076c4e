use Rattle.std.proofs.Common.{[], ◌∷◌, refl, arith}
use Rattle.std.proofs.lemmas.Bool.Decides.{nat_tests}
use Rattle.thumb.proofs.Undefined.{drawn_only, undefined}
use Rattle.thumb.specs.Rows.{narrow_rows}
use Rattle.thumb.proofs.Known.{above, slice}
use Rattle.thumb.proofs.Settled.{settled, settles}
use Rattle.thumb.proofs.narrow.hint.Goals as goal

pub returns-then-field-eq0 : goal.returns-then-field-eq0
unfolding settled
returns-then-field-eq0 c = settles narrow_rows (above 8 191 ∷ slice 0 4 0 ∷ []) c.args.x (c.requires, (omega arith, tt)) (cc)

pub returns-else-field-eq0 : goal.returns-else-field-eq0
unfolding drawn_only
returns-else-field-eq0 c = undefined narrow_rows (above 8 191 ∷ []) 0 4 (0 ∷ []) refl c.args.x (c.requires, tt) (grind (arith, nat_tests))
