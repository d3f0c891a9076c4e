use Rattle.std.proofs.Common.{◌≡◌, ℕ, arith}
use Rattle.std.proofs.lemmas.Bool.Decides.{nat_tests}
use Rattle.thumb.specs.Decoded.{decoded}
use Rattle.thumb.specs.Laws.{Apart, OperandsStand, ToldByItsTable}
use Rattle.thumb.specs.Rows.{Answer, narrow_rows, wide_rows}
use Rattle.thumb.proofs.Laws.{narrow_apart, told_by_its_table, wide_apart}
use Rattle.thumb.proofs.Stands.{operands_stand}
use Rattle.thumb.proofs.decode.Goals as goal

laws : (first second : ℕ) (r : Answer) → r ≡ decoded first second
    → record { value : r ≡ decoded first second; told : ToldByItsTable first second r; apart : Apart narrow_rows × Apart wide_rows; operands : OperandsStand r }
laws first second r e = record {
  value = e;
  told = told_by_its_table first second r e;
  apart = (narrow_apart, wide_apart);
  operands = operands_stand first second r e;
}

pub returns-then-is_wide : goal.returns-then-is_wide
returns-then-is_wide c = laws c.args.first c.args.second c.wide.result (grind (arith, nat_tests))

pub returns-else-is_wide : goal.returns-else-is_wide
returns-else-is_wide c = laws c.args.first c.args.second c.narrow.result (grind (arith, nat_tests))
