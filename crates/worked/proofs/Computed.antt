-- The examples hold by computation.
use Rattle.std.proofs.Common.{refl}
use Rattle.bus.specs.Memory.{load}
use Rattle.thumb.specs.Decoded.{lookup}
use Rattle.thumb.specs.Diagram.{agrees, spelled, size}
use Rattle.thumb.specs.Rows.{narrow_rows}
use Rattle.arch.specs.Priorities.{least_active, best}
use Rattle.worked.specs.Examples.{Examples}

pub examples : Examples
unfolding load lookup narrow_rows agrees spelled size least_active best
examples = record {
  add_overflow = refl;
  add_overflow_flags = refl;
  add_carry = refl;
  add_carry_flags = refl;
  shift_all = refl;
  shift_all_flags = refl;
  branch_to_itself = refl;
  undefined = refl;
  unpredictable = refl;
  supervisor_call = refl;
  frame = refl;
  frame_back = refl;
  left_out = refl;
  first_covered = refl;
  last_covered = refl;
  beyond = refl;
}
