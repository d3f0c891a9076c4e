-- The least and the greatest fault address.
use Rattle.std.specs.Prelude.{◌≡◌, ℕ, ◌≤◌, min, max, ◌⊎◌, List, [], ◌∷◌, ◌++◌, Some, None, Option}
use Rattle.std.specs.List.{AllByRecursion}
use Rattle.arch.specs.declared.answers.Answer.{Answer}
use Rattle.arch.specs.declared.answers.Answer.TheVariants.{Ran, Entered, Returned, Faulted, Locked}
use Rattle.runs.specs.declared.fault_span.FaultSpan.{FaultSpan}

abbrev pub between : ℕ → ℕ → FaultSpan
between least greatest = record { least = least; greatest = greatest }

abbrev pub no_span : Option FaultSpan
no_span = None

abbrev pub span_of : Answer → Option FaultSpan
span_of Ran = None
span_of (Entered n) = None
span_of Returned = None
span_of (Faulted f) = Some (between f.address f.address)
span_of (Locked f) = Some (between f.address f.address)

-- the least span that has both in it
abbrev pub spanning_both : FaultSpan → FaultSpan → FaultSpan
spanning_both x y = between (min x.least y.least) (max x.greatest y.greatest)

abbrev pub hull : Option FaultSpan → Option FaultSpan → Option FaultSpan
hull None y = y
hull (Some x) None = Some x
hull (Some x) (Some y) = Some (spanning_both x y)

abbrev pub address_in : Answer → List ℕ
address_in Ran = []
address_in (Entered n) = []
address_in Returned = []
address_in (Faulted f) = f.address ∷ []
address_in (Locked f) = f.address ∷ []

-- the addresses of the faults among the answers
unfoldable pub fault_addresses : List Answer → List ℕ
fault_addresses [] = []
fault_addresses (a ∷ rest) = address_in a ++ fault_addresses rest

abbrev pub Among : ℕ → List ℕ → Type 0
Among x [] = ⊥
Among x (y ∷ ys) = (x ≡ y) ⊎ Among x ys

-- a span of these addresses: none where there is no address; else two of them, with all between
abbrev pub Spanning : Option FaultSpan → List ℕ → Type 0
Spanning None addresses = addresses ≡ []
Spanning (Some s) addresses = Among s.least addresses × Among s.greatest addresses × AllByRecursion (λ x. (s.least ≤ x) × (x ≤ s.greatest)) addresses

abbrev pub Spans : Option FaultSpan → List Answer → Type 0
Spans span answers = Spanning span (fault_addresses answers)
