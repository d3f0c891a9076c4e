use Rattle.std.proofs.Common.{◌≡◌, ℕ, ◌/◌, ◌%◌, ◌^◌, false, List, [], ◌∷◌, Err, sym, refl, arith}
use Rattle.std.proofs.lemmas.Bool.Decides.{nat_tests}
use Rattle.thumb.specs.Decoded.{decoded_narrow}
use Rattle.thumb.specs.Rows.{narrow_rows}
use Rattle.thumb.specs.declared.instructions.Refusal.TheVariants.{Undefined}
use Rattle.thumb.proofs.Known.{above}
use Rattle.thumb.proofs.Undefined.{among, drawn_only, undefined}
use Rattle.thumb.proofs.Settled.{settled, by_prefix}
use Rattle.thumb.proofs.narrow.miscellaneous.Goals as goal

pub returns-in-190 : goal.returns-in-190
unfolding settled
returns-in-190 c = by_prefix c.args.x 8 190 c.in-190.is (cc)

-- the values of bits 11 to 8 that have rows
abbrev drawn : List ℕ
drawn = 0 ∷ 2 ∷ 4 ∷ 5 ∷ 6 ∷ 10 ∷ 12 ∷ 13 ∷ 14 ∷ 15 ∷ []

others : (x : ℕ) → x / 2 ^ 12 ≡ 11 → among drawn (x / 2 ^ 8 % 2 ^ 4) ≡ false → decoded_narrow x ≡ Err Undefined
unfolding drawn_only
others x h a = sym (undefined narrow_rows (above 12 11 ∷ []) 8 4 drawn refl x (h, tt) a)

pub returns-in_default : goal.returns-in_default
returns-in_default c = sym (others c.args.x c.requires (grind (arith, nat_tests)))

pub returns-in_default-2 : goal.returns-in_default-2
returns-in_default-2 c = sym (others c.args.x c.requires (grind (arith, nat_tests)))
