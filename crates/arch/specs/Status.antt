-- The program status registers as words.
use Rattle.std.specs.Prelude.{ℕ, ◌+◌, ◌*◌, ◌^◌, Bool}
use Rattle.word.specs.Fields.{bit_of}
use Rattle.word.specs.Sums.{one_if}
use Rattle.word.specs.declared.flags.Flags.{Flags}
use Rattle.arch.specs.declared.registers.Registers.{Registers}

-- APSR: N, Z, C and V are bits 31 to 28
abbrev pub flags_word : Flags → ℕ
flags_word f = one_if f.n * 2 ^ 31 + one_if f.z * 2 ^ 30 + one_if f.c * 2 ^ 29 + one_if f.v * 2 ^ 28

abbrev pub word_flags : ℕ → Flags
word_flags x = record { n = bit_of x 31; z = bit_of x 30; c = bit_of x 29; v = bit_of x 28 }

-- xPSR in a frame: APSR, T in bit 24, the alignment of the stack in bit 9, IPSR in bits 5 to 0
abbrev pub frame_status : Registers → Bool → ℕ
frame_status s padded = flags_word s.flags + one_if s.thumb * 2 ^ 24 + one_if padded * 2 ^ 9 + s.current
