-- The greatest number that passes a test.
use Rattle.std.proofs.Common.{◌≡◌, ℕ, zero, suc, ◌-◌, ◌<◌, Bool, true, false, cond, ◌⊎◌, Some, None, Option, refl, ap, ◌∙◌, inl, inr, arith}
use Rattle.std.proofs.lemmas.Bool.{both_ways, cases_eq}
use Rattle.parts.specs.RegionCheck.{greatest, Decides}

-- one number more, at the top
step : (test : ℕ → Bool) (n : ℕ) → 0 < n → greatest test n ≡ cond (test (n - 1)) (Some (n - 1)) (greatest test (n - 1))
unfolding greatest
step test zero above = absurd (omega arith)
step test (suc n) above = let top : suc n - 1 ≡ n = omega arith in rw top

pub greatest_hit : (test : ℕ → Bool) (n : ℕ) → 0 < n → test (n - 1) ≡ true → greatest test n ≡ Some (n - 1)
greatest_hit test n above hit = step test n above ∙ rw hit

pub greatest_miss : (test : ℕ → Bool) (n : ℕ) → 0 < n → test (n - 1) ≡ false → greatest test n ≡ greatest test (n - 1)
greatest_miss test n above miss = step test n above ∙ rw miss

pub greatest_none : (test : ℕ → Bool) (n : ℕ) → n ≡ 0 → greatest test n ≡ None
unfolding greatest
greatest_none test n none = rw none

-- below n and at n
below_or_at : (test : ℕ → Bool) (n : ℕ) (o : Option ℕ) (b : Bool) → test n ≡ b → Decides test n o → Decides test (suc n) (cond b (Some n) o)
below_or_at test n o true hit below = (omega arith, hit, λ j above within. absurd (omega arith))
below_or_at test n (Some k) false miss below = (omega (arith, below.0), below.1, λ j above within. at j (cases_eq j n) above within)
  where
    at : (j : ℕ) → (j ≡ n) ⊎ (j ≡ n → ⊥) → k < j → j < suc n → test j ≡ false
    at j (inl e) above within = ap test e ∙ miss
    at j (inr ne) above within = below.2 j above (omega arith)
below_or_at test n None false miss below = λ j within. at j (cases_eq j n) within
  where
    at : (j : ℕ) → (j ≡ n) ⊎ (j ≡ n → ⊥) → j < suc n → test j ≡ false
    at j (inl e) within = ap test e ∙ miss
    at j (inr ne) within = below j (omega arith)

pub greatest_decides : (test : ℕ → Bool) (n : ℕ) → Decides test n (greatest test n)
unfolding greatest
greatest_decides test zero = λ j within. absurd (omega arith)
greatest_decides test (suc n) = below_or_at test n (greatest test n) (test n) refl (greatest_decides test n)

-- where nothing passes, there is none
pub greatest_of_none : (test : ℕ → Bool) (n : ℕ) → ((k : ℕ) → test k ≡ false) → greatest test n ≡ None
unfolding greatest
greatest_of_none test zero none = refl
greatest_of_none test (suc n) none = rw (none n) (greatest_of_none test n none)

-- and it is the only one that does
pub decides_greatest : (test : ℕ → Bool) (n : ℕ) (o : Option ℕ) → Decides test n o → o ≡ greatest test n
decides_greatest test n o h = same o (greatest test n) h (greatest_decides test n)
  where
    same : (o p : Option ℕ) → Decides test n o → Decides test n p → o ≡ p
    same None None h k = refl
    same None (Some j) h k = absurd (both_ways (test j) (h j k.0) k.1)
    same (Some i) None h k = absurd (both_ways (test i) (k i h.0) h.1)
    same (Some i) (Some j) h k = at (cases_eq i j)
      where
        at : (i ≡ j) ⊎ (i ≡ j → ⊥) → Some i ≡ Some j
        at (inl e) = ap Some e
        at (inr ne) = absurd (grind (arith, both_ways (test j), both_ways (test i)))
