-- The accesses that instructions, entries and returns are made of.
use Rattle.std.specs.Prelude.{ℕ, List, [], ◌∷◌, Some, None, Ok, Err, Option, Result}
use Rattle.bus.specs.Meaning.{fetching, reading, writing}
use Rattle.bus.specs.Program.{Reply, Program, done, ask, bind}
use Rattle.bus.specs.declared.access.Right.{Right}
use Rattle.bus.specs.declared.access.Width.{Width}
use Rattle.bus.specs.declared.access.Width.TheVariants.{Word}
use Rattle.bus.specs.declared.fault.Fault.{Fault}
use Rattle.arch.specs.Registers.{plus}

-- a program that may be refused
abbrev pub Attempt : Type 0 → Type 0
Attempt A = Program (Result A Fault)

-- on with what came, or no further
abbrev pub go_on : {A B : Type 0} → (A → Attempt B) → Result A Fault → Attempt B
go_on next (Ok a) = next a
go_on next (Err f) = done (Err f)

abbrev pub then : {A B : Type 0} → Attempt A → (A → Attempt B) → Attempt B
then p next = bind p (go_on next)

abbrev pub fetch : Right → ℕ → Attempt ℕ
fetch right x = ask (fetching right x) 0 done

abbrev pub read : Width → Right → ℕ → Attempt ℕ
read width right x = ask (reading width right x) 0 done

abbrev pub write : Width → Right → ℕ → ℕ → Attempt ℕ
write width right x v = ask (writing width right x) v done

-- the first of the refusals
abbrev pub noting : Option Fault → Reply → Option Fault
noting (Some f) r = Some f
noting None (Err f) = Some f
noting None (Ok v) = None

-- all the words from x upward, whatever is refused; the first refusal, if there was none before
unfoldable pub try_words : Right → Option Fault → List ℕ → ℕ → Program (Option Fault)
try_words right first [] x = done first
try_words right first (v ∷ vs) x = ask (writing Word right x) v (λ r. try_words right (noting first r) vs (plus x 4))
