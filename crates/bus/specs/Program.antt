-- Programs of accesses: what is asked of a bus, one access after another, and what it comes to.
use Rattle.std.specs.Prelude.{ℕ, Result}
use Rattle.bus.specs.Meaning.{Verdict, answer, after, replied, written}
use Rattle.bus.specs.Memory.{Bytes}
use Rattle.bus.specs.declared.access.Access.{Access}
use Rattle.bus.specs.declared.fault.Fault.{Fault}

-- a bus as its users see it
pub record World : Type 0 where
  pub bytes : Bytes
  pub verdict : Access → Verdict

-- the world that a state of a bus is
abbrev pub world_of : {S : Type 0} → (S → Bytes) → (S → Access → Verdict) → S → World
world_of bytes verdict s = record { bytes = bytes s; verdict = verdict s }

abbrev pub Reply : Type 0
Reply = Result ℕ Fault

-- an answer, or an access with the value to write and what is done with its reply
pub data Program (A : Type 0) : Type 0 where
  done : A → Program A
  ask : Access → ℕ → (Reply → Program A) → Program A

-- one program after another
abbrev pub bind : {A B : Type 0} → Program A → (A → Program B) → Program B
bind (done a) next = next a
bind (ask a v k) next = ask a v (λ r. bind (k r) next)

-- what a world replies to an access
abbrev pub reply : World → Access → Reply
reply w a = answer (w.verdict a) (replied w.bytes a)

-- what a world is after an access: no access changes a verdict
abbrev pub left : World → Access → ℕ → World
left w a v = record { bytes = after (w.verdict a) (written w.bytes a v) w.bytes; verdict = w.verdict }

-- what a program answers, and what it leaves
abbrev pub run : {A : Type 0} → Program A → World → A × World
run (done a) w = (a, w)
run (ask a v k) w = run (k (reply w a)) (left w a v)

-- P holds of whatever the program can answer, whatever it is replied
abbrev pub Always : {A : Type 0} → (A → Type 0) → Program A → Type 0
Always P (done a) = P a
Always P (ask a v k) = (r : Reply) → Always P (k r)
