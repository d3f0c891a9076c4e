use Rattle.std.proofs.Common.{ℕ, ◌^◌, ◌<◌, sym, ap, ◌∙◌, mod-lt, arith, pow_pos}
use Rattle.word.proofs.Signs.{extend_by_sub}
use Rattle.word.proofs.extend.sign_extend.Goals as goal
use Rattle.word.specs.Extend.{sign_extend}

pub returns-clause-value : goal.returns-clause-value
returns-clause-value c =
    let w : ℕ = c.args.width in
    let low : ℕ = c.zero_extend-low.result in
    let is = c.zero_extend-low.ensures in
    let below : low < 2 ^ w = omega (arith, is, mod-lt c.args.x (pow_pos w)) in
    let value = extend_by_sub w 32 low (omega arith) (omega arith) below (omega arith) (sym c.if-not-bit.ensures) in
    value ∙ ap (sign_extend w 32) is
