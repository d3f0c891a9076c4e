-- What a verdict and the answer to an access tell of each other.
use Rattle.std.proofs.Common.{◌≡◌, ℕ, Bool, true, false, Some, None, Ok, Err, refl, arith}
use Rattle.bus.specs.Access.{is_write, bytes_of}
use Rattle.bus.specs.Meaning.{Verdict, refused_if, answer, after, replied, written}
use Rattle.bus.specs.Memory.{Bytes, load, store}
use Rattle.bus.specs.declared.access.Access.{Access}
use Rattle.bus.specs.declared.fault.Fault.{Fault}

-- what is answered with a value was allowed
pub answer_allowed : (w : Verdict) (v r : ℕ) → Ok r ≡ answer w v → w ≡ None
answer_allowed (Some f) v r e = let no : ◌≡◌ {A = ℕ} 0 1 = cc in absurd (omega arith)
answer_allowed None v r e = refl

-- and that is the value
pub answer_value : (w : Verdict) (v r : ℕ) → Ok r ≡ answer w v → r ≡ v
answer_value (Some f) v r e = let no : ◌≡◌ {A = ℕ} 0 1 = cc in absurd (omega arith)
answer_value None v r e = cc

-- where a verdict is None, each of its tests fails
pub refused_if_none : (b : Bool) (f : Fault) (next : Verdict) → refused_if b f next ≡ None → (b ≡ false) × (next ≡ None)
refused_if_none true f next e = let no : ◌≡◌ {A = ℕ} 0 1 = cc in absurd (omega arith)
refused_if_none false f next e = (refl, e)

-- the four clauses of an allowed access: what a fetch or a read answers and leaves, and what a write does
pub read_answer : (w : Verdict) (m : Bytes) (a : Access) (r : ℕ) → w ≡ None → is_write a.usage ≡ false → r ≡ load (bytes_of a) m a.address → Ok r ≡ answer w (replied m a)
read_answer w m a r allowed reads loaded = rw (allowed, reads, loaded)

pub read_leaves : (w : Verdict) (m : Bytes) (a : Access) (v : ℕ) → is_write a.usage ≡ false → m ≡ after w (written m a v) m
read_leaves (Some f) m a v reads = refl
read_leaves None m a v reads = rw reads

pub write_answer : (w : Verdict) (m : Bytes) (a : Access) → w ≡ None → is_write a.usage ≡ true → Ok 0 ≡ answer w (replied m a)
write_answer w m a allowed writes = rw (allowed, writes)

pub write_leaves : (w : Verdict) (m m' : Bytes) (a : Access) (v : ℕ) → w ≡ None → is_write a.usage ≡ true → m' ≡ store (bytes_of a) m a.address v → m' ≡ after w (written m a v) m
write_leaves w m m' a v allowed writes stored = rw (allowed, writes) stored

-- a refused access answers its fault, whatever it would have read, and leaves all
pub refused_answer : (w : Verdict) (u v : ℕ) (f : Fault) → Err f ≡ answer w u → Err f ≡ answer w v
refused_answer (Some g) u v f e = e
refused_answer None u v f e = let no : ◌≡◌ {A = ℕ} 0 1 = cc in absurd (omega arith)

pub refused_leaves : (w : Verdict) (u : ℕ) (changed m : Bytes) (f : Fault) → Err f ≡ answer w u → m ≡ after w changed m
refused_leaves (Some g) u changed m f e = refl
refused_leaves None u changed m f e = let no : ◌≡◌ {A = ℕ} 0 1 = cc in absurd (omega arith)
