-- Where each bit of a shifted word comes from.
use Rattle.std.proofs.Common.{◌≡◌, ℕ, ◌+◌, ◌*◌, ◌^◌, ◌<◌, ◌∙◌, div-one, arith}
use Rattle.word.proofs.Moves.{bit_cut, bit_extend, bit_shl, bit_shr}
use Rattle.word.proofs.Rotate.{bit_ror}
use Rattle.word.specs.Extend.{sign_extend}
use Rattle.word.specs.Fields.{bit_of}
use Rattle.word.specs.Shifts.{bit_after, by_kind}
use Rattle.word.specs.declared.shifts.Shift.{Shift}
use Rattle.word.specs.declared.shifts.Shift.TheVariants.{Lsl, Lsr, Asr, Ror}

pub shift_bits : (kind : Shift) (x n k : ℕ) → x < 2 ^ 32 → k < 32 → bit_of (by_kind kind x n).value k ≡ bit_after kind x n k
shift_bits Lsl x n k h p = rw div-one (bit_cut (x * 2 ^ n) 32 k p ∙ bit_shl x n k)
shift_bits Lsr x n k h p = bit_cut _ 32 k p ∙ bit_shr x n k
shift_bits Asr x n k h p =
    bit_cut _ 32 k p ∙ bit_shr (sign_extend 32 (n + 32) x) n k ∙ bit_extend 32 (n + 32) x (k + n) (omega arith) (omega arith) h (omega arith)
shift_bits Ror x n k h p = bit_ror x h n k p
