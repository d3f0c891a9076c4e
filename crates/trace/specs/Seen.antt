-- What the host finds where a PC points to.
use Rattle.std.specs.Prelude.{ℕ, ◌+◌, ◌%◌, ◌^◌, cond, Some, None, Ok, Err, Option, Result}
use Rattle.bus.specs.Meaning.{Verdict, answer, fetching}
use Rattle.bus.specs.Memory.{Bytes, load}
use Rattle.bus.specs.declared.access.Access.{Access}
use Rattle.bus.specs.declared.access.Right.TheVariants.{Privileged}
use Rattle.bus.specs.declared.fault.Fault.{Fault}
use Rattle.thumb.specs.Decoded.{wide_first}
use Rattle.listing.specs.declared.image.Piece.{Piece}
use Rattle.listing.specs.declared.image.Piece.TheVariants.{Narrow, Wide, Cut}

-- what a privileged fetch answers
abbrev pub fetched : Bytes → (Access → Verdict) → ℕ → Result ℕ Fault
fetched bytes verdict x = answer (verdict (fetching Privileged x)) (load 2 bytes x)

abbrev pub with_second : ℕ → Result ℕ Fault → Option Piece
with_second first (Ok second) = Some (Wide first second)
with_second first (Err fault) = Some (Cut first)

abbrev pub with_first : Result ℕ Fault → Result ℕ Fault → Option Piece
with_first (Ok first) second = cond (wide_first first) (with_second first second) (Some (Narrow first))
with_first (Err fault) second = None

abbrev pub piece_at : Bytes → (Access → Verdict) → ℕ → Option Piece
piece_at bytes verdict x = with_first (fetched bytes verdict x) (fetched bytes verdict ((x + 2) % 2 ^ 32))
