use Rattle.std.proofs.Common.{◌≡◌, ℕ, ◌/◌, ◌%◌, ◌^◌, [], ◌∷◌, refl, arith}
use Rattle.std.proofs.lemmas.Bool.Decides.{nat_tests}
use Rattle.thumb.specs.Decoded.{IsControl, decoded_wide}
use Rattle.thumb.specs.Rows.{Answer, wide_rows}
use Rattle.thumb.proofs.Known.{slice}
use Rattle.thumb.proofs.Undefined.{drawn_only, undefined}
use Rattle.thumb.proofs.Settled.{by_control, control, held, settled, settles}
use Rattle.thumb.proofs.wide.barrier.Goals as goal

pub returns-then-x-ne3899 : goal.returns-then-x-ne3899
unfolding settled
returns-then-x-ne3899 c = by_control c.args.x 21 1949 c.requires (grind (arith, nat_tests))

-- one of the barriers, by its op
by_op : (x op : ℕ) → IsControl x 20 3899 → x / 2 ^ 4 % 2 ^ 4 ≡ op → {r : Answer}
    → r ≡ settled wide_rows (slice 4 4 op ∷ control 20 3899) x → r ≡ decoded_wide x
by_op x op h k e = settles wide_rows (slice 4 4 op ∷ control 20 3899) x (k, held x 20 3899 h) e

pub returns-in_default : goal.returns-in_default
unfolding drawn_only
returns-in_default c =
    undefined wide_rows (control 20 3899) 4 4 (4 ∷ 5 ∷ 6 ∷ []) refl c.args.x
    (c.if-x-ne3899.false, (c.requires.high, (c.requires.low, tt))) (grind (arith, nat_tests))

pub returns-then-proper : goal.returns-then-proper
unfolding settled
returns-then-proper c =
    let h : IsControl c.args.x 20 3899 = record { prefix = c.if-x-ne3899.false; high = c.requires.high; low = c.requires.low } in
    elim c.match-field.branch [
      | goal.in-4 w ↦ by_op c.args.x 4 h (omega arith) (grind (arith, nat_tests))
      | goal.in-5 w ↦ by_op c.args.x 5 h (omega arith) (grind (arith, nat_tests))
      | goal.in-6 w ↦ by_op c.args.x 6 h (omega arith) (grind (arith, nat_tests))
    ]

pub returns-else-proper : goal.returns-else-proper
unfolding settled
returns-else-proper c =
    let h : IsControl c.args.x 20 3899 = record { prefix = c.if-x-ne3899.false; high = c.requires.high; low = c.requires.low } in
    elim c.match-field.branch [
      | goal.in-4 w ↦ by_op c.args.x 4 h (omega arith) (grind (arith, nat_tests))
      | goal.in-5 w ↦ by_op c.args.x 5 h (omega arith) (grind (arith, nat_tests))
      | goal.in-6 w ↦ by_op c.args.x 6 h (omega arith) (grind (arith, nat_tests))
    ]
