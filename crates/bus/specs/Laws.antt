-- What every kind of bus keeps.
use Rattle.std.specs.Prelude.{◌≡◌, ℕ, ◌%◌, ◌<◌, ◌≤◌, Bool, true, false, cond, Some, None, refl}
use Rattle.std.proofs.Common.{arith}
use Rattle.std.specs.Borrow.{MutBor}
use Rattle.bus.specs.Access.{misaligned}
use Rattle.bus.specs.Fault.{raised}
use Rattle.bus.specs.Meaning.{Verdict, refused_if, lifted}
use Rattle.bus.specs.Memory.{Bytes}
use Rattle.bus.specs.declared.access.Access.{Access}
use Rattle.bus.specs.declared.fault.Cause.{Cause}
use Rattle.bus.specs.declared.fault.Cause.TheVariants.{Misaligned}
use Rattle.bus.specs.declared.fault.Fault.{Fault}

-- a fault bears the address of the access, and at most 255 hops
abbrev pub Bears : Access → Verdict → Type 0
Bears a None = Unit {0}
Bears a (Some f) = (f.address ≡ a.address) × (f.hops ≤ 255)

pub record Laws {S : Type 0} (kind : ℕ) (bytes : S → Bytes) (verdict : S → Access → Verdict) : Type 0 where
  -- a byte is below 256
  pub byte : (s : S) (x : ℕ) → bytes s x < 256
  -- the part asked refuses a misaligned access itself, before all else
  pub alignment : (s : S) (a : Access) → misaligned a ≡ true → verdict s a ≡ Some (raised Misaligned a kind)
  pub fault : (s : S) (a : Access) → Bears a (verdict s a)

-- a byte where something lies, and else 0, is below 256
pub byte_or_none : (b : Bool) (n : ℕ) → cond b (n % 256) 0 < 256
byte_or_none true n = omega arith
byte_or_none false n = omega arith

-- the laws of a bus are those of the bus when it is lent
pub lent_laws : {S : Type 0} {kind : ℕ} {bytes : S → Bytes} {verdict : S → Access → Verdict} → Laws kind bytes verdict → Laws {S = MutBor S} kind (λ s. bytes s.now) (λ s. verdict s.now)
lent_laws laws = record {
  byte = λ s. laws.byte s.now;
  alignment = λ s. laws.alignment s.now;
  fault = λ s. laws.fault s.now;
}

-- the first test of a part decides
pub alignment_first : (a : Access) (f : Fault) (next : Verdict) → misaligned a ≡ true → refused_if (misaligned a) f next ≡ Some f
alignment_first a f next e = rw e

-- what a part raises bears the access, and so does what it hands up
pub bears_raised : (b : Bool) (cause : Cause) (a : Access) (kind : ℕ) (next : Verdict) → Bears a next → Bears a (refused_if b (raised cause a kind) next)
bears_raised true cause a kind next h = (refl, omega arith)
bears_raised false cause a kind next h = h

pub bears_lifted : (a : Access) (v : Verdict) → Bears a v → Bears a (lifted v)
bears_lifted a None h = tt
bears_lifted a (Some f) h = (h.0, omega arith)
