use Rattle.std.proofs.Common.{◌≡◌, ℕ, ◌+◌, ◌*◌, ◌%◌, ◌^◌, ◌<◌, cond, eqb, [], ◌∷◌, arith}
use Rattle.std.proofs.lemmas.Bool.Decides.{nat_tests}
use Rattle.thumb.specs.Rows.{wide_rows}
use Rattle.thumb.proofs.Known.{above, slice}
use Rattle.thumb.proofs.Settled.{settled, settles}
use Rattle.thumb.proofs.wide.link.Goals as goal

-- the immediate has 25 bits
whole : (s i1 i2 imm10 imm11 : ℕ) → s < 2 → i1 < 2 → i2 < 2 → imm10 < 1024 → imm11 < 2048
    → ((((s * 2 + i1) * 2 + i2) * 1024 + imm10) * 2048 + imm11) * 2 % 2 ^ 25
    ≡ ((((s * 2 + i1) * 2 + i2) * 1024 + imm10) * 2048 + imm11) * 2
whole s i1 i2 imm10 imm11 a b c d e = omega arith

pub returns : goal.returns
unfolding settled
returns c =
    let i1 : c.from-i1.result ≡ cond (eqb c.field.result c.field-s.result) 1 0 = grind (arith, nat_tests) in
    let i2 : c.from-i2.result ≡ cond (eqb c.field-2.result c.field-s.result) 1 0 = grind (arith, nat_tests) in
    let e =
    whole c.field-s.result c.from-i1.result c.from-i2.result c.field-3.result c.field-4.result
    (omega arith) (grind (arith, nat_tests)) (grind (arith, nat_tests)) (omega arith) (omega arith)
    in
    settles wide_rows (above 27 30 ∷ slice 14 2 3 ∷ slice 12 1 1 ∷ []) c.args.x
    (c.requires.0, (c.requires.1.0, (c.requires.1.1, tt))) (cc)
