-- A split: two buses side by side.
use Rattle.std.specs.Prelude.{◌≡◌, ℕ, ◌+◌, ◌/◌, ◌<◌, ◌≤◌, Bool, true, false, cond, ◌⊎◌, None, nat_lt}
use Rattle.bus.specs.Access.{bytes_of, misaligned}
use Rattle.bus.specs.Fault.{raised}
use Rattle.bus.specs.Laws.{Laws, Bears, alignment_first, bears_raised, bears_lifted}
use Rattle.bus.specs.Meaning.{Verdict, refused_if, lifted}
use Rattle.bus.specs.Memory.{Bytes}
use Rattle.bus.specs.declared.access.Access.{Access}
use Rattle.bus.specs.declared.fault.Cause.TheVariants.{Misaligned}
use Rattle.parts.specs.declared.split.Split.{Split}

-- x belongs to the lower bus. Words are never cut, so a limit that is no multiple of 4 counts as the one below it
abbrev pub below : ℕ → ℕ → Bool
below limit x = nat_lt (x / 4) (limit / 4)

abbrev pub joined : ℕ → Bytes → Bytes → Bytes
joined limit lower upper x = cond (below limit x) (lower x) (upper x)

abbrev pub split_verdict : ℕ → (Access → Verdict) → (Access → Verdict) → Access → Verdict
split_verdict limit lower upper a =
    refused_if (misaligned a) (raised Misaligned a 3)
    (lifted (cond (below limit a.address) (lower a) (upper a)))

-- an access that a split allows lies wholly in one of its buses, and that one allows it
abbrev pub OneSide : ℕ → (Access → Verdict) → (Access → Verdict) → Type 0
OneSide limit lower upper = (a : Access) → split_verdict limit lower upper a ≡ None → ((a.address + bytes_of a ≤ limit) × (lower a ≡ None)) ⊎ ((limit ≤ a.address) × (upper a ≡ None))

byte_of_either : (b : Bool) (m n : ℕ) → m < 256 → n < 256 → cond b m n < 256
byte_of_either true m n h k = h
byte_of_either false m n h k = k

bears_either : (b : Bool) (a : Access) (v w : Verdict) → Bears a v → Bears a w → Bears a (cond b v w)
bears_either true a v w h k = h
bears_either false a v w h k = k

pub split_laws : {L U : Type 0} {i j : ℕ} {lower : L → Bytes} {upper : U → Bytes} {below_says : L → Access → Verdict} {above_says : U → Access → Verdict} → Laws i lower below_says → Laws j upper above_says → Laws {S = Split L U} 3 (λ s. joined s.limit (lower s.lower) (upper s.upper)) (λ s. split_verdict s.limit (below_says s.lower) (above_says s.upper))
split_laws laws laws' = record {
  byte = λ s x. byte_of_either (below s.limit x) _ _ (laws.byte s.lower x) (laws'.byte s.upper x);
  alignment = λ s a. alignment_first a _ _;
  fault = λ s a. bears_raised (misaligned a) _ a 3 _ (bears_lifted a _ (bears_either (below s.limit a.address) a _ _ (laws.fault s.lower a) (laws'.fault s.upper a)));
}
