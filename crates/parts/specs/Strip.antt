-- A strip: the host's bytes at a base, the first of them read-only.
use Rattle.std.specs.Prelude.{ℕ, ◌+◌, ◌-◌, ◌%◌, ◌^◌, Bool, cond, not, ◌&&◌, List, length, None, ◌==◌, nat_le, nat_lt, slice_index}
use Rattle.bus.specs.Access.{is_write, bytes_of, misaligned}
use Rattle.bus.specs.Fault.{raised}
use Rattle.bus.specs.Laws.{Laws, byte_or_none, alignment_first, bears_raised}
use Rattle.bus.specs.Meaning.{Verdict, refused_if}
use Rattle.bus.specs.Memory.{Bytes}
use Rattle.bus.specs.declared.access.Access.{Access}
use Rattle.bus.specs.declared.fault.Cause.TheVariants.{Unmapped, ReadOnly, Misaligned}
use Rattle.parts.specs.declared.strip.Strip.{Strip}

-- a list of bytes as memory from address 0 on, 0 past its end
abbrev pub listed : List ℕ → Bytes
listed xs k = slice_index xs k % 256

-- the memory m moved up to the address base
abbrev pub placed : ℕ → Bytes → Bytes
placed base m x = cond (nat_le base x) (m (x - base)) 0

abbrev pub strip_bytes : Strip → Bytes
strip_bytes s = placed s.base (listed s.bytes.now)

-- the access lies wholly in the n bytes from base on
abbrev pub inside : ℕ → ℕ → Access → Bool
inside base n a = nat_le base a.address && nat_le (a.address + bytes_of a) (base + n)

-- the access is a write whose lowest byte lies below the end of what is read-only
abbrev pub hits_read_only : ℕ → Access → Bool
hits_read_only end a = is_write a.usage && nat_lt a.address end

-- the verdicts of n bytes from base on, the first k of them read-only
abbrev pub verdict_at : ℕ → ℕ → ℕ → Access → Verdict
verdict_at base n k a =
    refused_if (misaligned a) (raised Misaligned a 1)
    (refused_if (not (inside base n a)) (raised Unmapped a 1)
    (refused_if (hits_read_only (base + k) a) (raised ReadOnly a 1) None))

abbrev pub strip_verdict : Strip → Access → Verdict
strip_verdict s = verdict_at s.base (length s.bytes.now) s.read_only

-- what a strip can be built of: n bytes at base, the first k read-only
abbrev pub strip_fits : ℕ → ℕ → ℕ → Bool
strip_fits n base k = nat_le n 65536 && nat_le (base + n) (2 ^ 32) && nat_le k n && base % 4 == 0

pub strip_laws : Laws 1 strip_bytes strip_verdict
strip_laws = record {
  byte = λ s x. byte_or_none (nat_le s.base x) _;
  alignment = λ s a. alignment_first a _ _;
  fault = λ s a. bears_raised (misaligned a) _ a 1 _ (bears_raised (not (inside s.base (length s.bytes.now) a)) _ a 1 _ (bears_raised (hits_read_only (s.base + s.read_only) a) _ a 1 _ tt));
}
