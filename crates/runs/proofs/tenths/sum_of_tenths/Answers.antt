use Rattle.std.proofs.Common.{◌≡◌, get_or, ◌+ℤ◌, to_z, of_z, w64, sym, refl, ap, ◌∙◌, ap₂, add-one, arith}
use Rattle.std.proofs.lemmas.Int.{ints}
use Rattle.runs.specs.Tenths.{hundredths, rounded, sum_of_first}
use Rattle.runs.proofs.tenths.sum_of_tenths.Goals as goal

pub loop-word-init : goal.loop-word-init
unfolding sum_of_first
loop-word-init c = (refl, omega (arith, ints), omega (arith, ints))

pub loop-word-preserved : goal.loop-word-preserved
unfolding sum_of_first
loop-word-preserved c =
    let i = c.loop-word.word-index in
    let widened : c.from-sum.result ≡ c.tenths_of.result = omega (arith, ints) in
    let tenths = widened ∙ c.tenths_of.ensures.value ∙ ap (λ words. rounded (hundredths (get_or words i 0))) c.words-word-items.ensures in
    let sum : to_z w64 (of_z w64 (to_z w64 c.loop-word.sum-bits +ℤ to_z w64 (of_z w64 c.from-sum.result))) ≡ c.loop-word.sum +ℤ c.from-sum.result = omega (arith, ints) in
    let before = sym c.loop-word.sum-is ∙ c.loop-word.invariant.0 in
    (rw add-one (sum ∙ ap₂ ◌+ℤ◌ before tenths), omega (arith, ints), omega (arith, ints))
