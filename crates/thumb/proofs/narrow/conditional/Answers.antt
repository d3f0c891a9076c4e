use Rattle.std.proofs.Common.{◌≡◌, ℕ, ◌+◌, ◌*◌, ◌/◌, ◌%◌, ◌^◌, Ok, refl, arith}
use Rattle.word.specs.Conditions.{number}
use Rattle.word.specs.declared.conditions.Condition.{Condition}
use Rattle.word.specs.declared.conditions.Condition.TheVariants.{Eq, Ne, Cs, Cc, Mi, Pl, Vs, Vc, Hi, Ls, Ge, Lt, Gt, Le}
use Rattle.thumb.specs.Decoded.{decoded_narrow}
use Rattle.thumb.specs.Operands.{branch_offset}
use Rattle.thumb.specs.declared.instructions.Instruction.{Instruction}
use Rattle.thumb.specs.declared.instructions.Branch.TheVariants.{If}
use Rattle.thumb.proofs.Settled.{settled, by_prefix}
use Rattle.thumb.proofs.narrow.conditional.Goals as goal

-- one row for each condition
conditionally : (x : ℕ) (k : Condition) → x / 2 ^ 8 ≡ 208 + number k
    → Ok (Instruction.Branch (If k (branch_offset 9 (x / 2 ^ 0 % 2 ^ 8)))) ≡ decoded_narrow x
unfolding settled
conditionally x Eq h = by_prefix x 8 208 h refl
conditionally x Ne h = by_prefix x 8 209 h refl
conditionally x Cs h = by_prefix x 8 210 h refl
conditionally x Cc h = by_prefix x 8 211 h refl
conditionally x Mi h = by_prefix x 8 212 h refl
conditionally x Pl h = by_prefix x 8 213 h refl
conditionally x Vs h = by_prefix x 8 214 h refl
conditionally x Vc h = by_prefix x 8 215 h refl
conditionally x Hi h = by_prefix x 8 216 h refl
conditionally x Ls h = by_prefix x 8 217 h refl
conditionally x Ge h = by_prefix x 8 218 h refl
conditionally x Lt h = by_prefix x 8 219 h refl
conditionally x Gt h = by_prefix x 8 220 h refl
conditionally x Le h = by_prefix x 8 221 h refl

pub returns-in-Some : goal.returns-in-Some
returns-in-Some c =
    let e = conditionally c.args.x c.in-Some.condition (omega (arith, c.in-Some.ensures.inverse)) in
    let whole : c.field-imm.result * 2 % 2 ^ 9 ≡ c.args.x / 2 ^ 0 % 2 ^ 8 * 2 = omega arith in
    cc

pub returns-in-None : goal.returns-in-None
unfolding settled
returns-in-None c = by_prefix c.args.x 8 222 c.if-x-eq222.true (cc)

pub returns-in-None-2 : goal.returns-in-None-2
unfolding settled
returns-in-None-2 c = by_prefix c.args.x 8 223 (omega (arith, c.in-None.ensures.inverse)) (cc)
