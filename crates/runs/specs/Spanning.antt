-- Fault spans keep the laws of a tally, and have the faults' addresses between them.
use Rattle.std.specs.Prelude.{◌≡◌, ℕ, ◌≤◌, min, max, true, false, ◌⊎◌, List, [], ◌∷◌, Some, None, Option, nat_le, refl}
use Rattle.std.proofs.Common.{inl, inr, sym, subst, arith, leb-true, leb-false}
use Rattle.std.proofs.Math.Nat.{min-eq_left}
use Rattle.std.proofs.ByRecursion.{All-weaker}
use Rattle.arch.specs.declared.answers.Answer.{Answer}
use Rattle.arch.specs.declared.answers.Answer.TheVariants.{Ran, Entered, Returned, Faulted, Locked}
use Rattle.runs.specs.FaultSpan.{between, no_span, span_of, hull, fault_addresses, Among, Spanning, Spans}
use Rattle.runs.specs.Tally.{Laws, Commuting, tally}
use Rattle.runs.specs.declared.fault_span.FaultSpan.{FaultSpan}

-- spans are equal if both their ends are
same : {a b c d : ℕ} → a ≡ c → b ≡ d → Some (between a b) ≡ Some (between c d)
same p q = cc

hull_right : (x : Option FaultSpan) → hull x None ≡ x
hull_right None = refl
hull_right (Some x) = refl

hull_assoc : (x y z : Option FaultSpan) → hull (hull x y) z ≡ hull x (hull y z)
hull_assoc None y z = refl
hull_assoc (Some x) None z = refl
hull_assoc (Some x) (Some y) None = refl
hull_assoc (Some x) (Some y) (Some z) = same (omega arith) (omega arith)

pub span_laws : Laws no_span hull
span_laws = record {
  left = λ x. refl;
  right = hull_right;
  assoc = hull_assoc;
}

pub span_commutes : Commuting hull
span_commutes None None = refl
span_commutes None (Some y) = refl
span_commutes (Some x) None = refl
span_commutes (Some x) (Some y) = same (omega arith) (omega arith)

min_either : (x y : ℕ) → (min x y ≡ x) ⊎ (min x y ≡ y)
min_either x y = elim (nat_le x y) as (λ b. nat_le x y ≡ b → (min x y ≡ x) ⊎ (min x y ≡ y)) [ true ↦ λ e. inl (min-eq_left (leb-true x y e)) | false ↦ λ e. inr (omega (arith, leb-false x y e)) ] refl

max_either : (x y : ℕ) → (max x y ≡ x) ⊎ (max x y ≡ y)
max_either x y = elim (nat_le x y) as (λ b. nat_le x y ≡ b → (max x y ≡ x) ⊎ (max x y ≡ y)) [ true ↦ λ e. inr (omega (arith, leb-true x y e)) | false ↦ λ e. inl (omega (arith, leb-false x y e)) ] refl

among_one : (x y z : ℕ) (ys : List ℕ) → (z ≡ x) ⊎ (z ≡ y) → Among y ys → Among z (x ∷ ys)
among_one x y z ys (inl e) h = inl e
among_one x y z ys (inr e) h = inr (subst (λ n. Among n ys) (sym e) h)

one_address : (x : ℕ) (addresses : List ℕ) (span : Option FaultSpan) → Spanning span addresses → Spanning (hull (Some (between x x)) span) (x ∷ addresses)
one_address x addresses None none = subst (λ rest. Spanning (Some (between x x)) (x ∷ rest)) (sym none) (inl refl, inl refl, ((omega arith, omega arith), tt))
one_address x addresses (Some s) (low, high, all) = (
  among_one x s.least (min x s.least) addresses (min_either x s.least) low,
  among_one x s.greatest (max x s.greatest) addresses (max_either x s.greatest) high,
  ((omega arith, omega arith), All-weaker _ (λ y. (min x s.least ≤ y) × (y ≤ max x s.greatest)) (λ y h. (omega arith, omega arith)) addresses all),
)

pub spanned : (answers : List Answer) → Spans (tally no_span span_of hull answers) answers
unfolding tally fault_addresses
spanned [] = refl
spanned (Ran ∷ rest) = spanned rest
spanned (Entered n ∷ rest) = spanned rest
spanned (Returned ∷ rest) = spanned rest
spanned (Faulted f ∷ rest) = one_address f.address (fault_addresses rest) (tally no_span span_of hull rest) (spanned rest)
spanned (Locked f ∷ rest) = one_address f.address (fault_addresses rest) (tally no_span span_of hull rest) (spanned rest)
