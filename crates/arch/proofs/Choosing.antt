-- The exception that a step takes up is not active, and neither is HardFault in its place.
use Rattle.std.proofs.Common.{◌≡◌, ℕ, zero, suc, ◌<◌, ◌≤◌, Bool, true, false, cond, ◌&&◌, eqb, leb, ◌⊎◌, ℤ, pos, negsuc, Some, None, Option, refl, ap, ◌∙◌, subst, inl, inr, arith}
use lib.Signed.{lt_z}
use Rattle.std.proofs.lemmas.Int.{ints}
use Rattle.std.proofs.lemmas.Bool.{and_parts, leb-true, cases_eq, both_ways, or_parts, false_from_ne_true}
use Rattle.std.specs.Int.{int_min}
use Rattle.word.specs.Fields.{bit_of}
use Rattle.arch.specs.Entry.{is_last}
use Rattle.arch.specs.Priorities.{priority, least_active, execution_priority, counts, better, best, if_below, chosen}
use Rattle.arch.specs.declared.registers.Registers.{Registers}

below_both : (p a b : ℤ) → lt_z p (int_min a b) ≡ true → (lt_z p a ≡ true) × (lt_z p b ≡ true)
below_both p a b low = go (lt_z b a) refl low
  where
    go : (c : Bool) → lt_z b a ≡ c → lt_z p (cond c b a) ≡ true → (lt_z p a ≡ true) × (lt_z p b ≡ true)
    go true e h = (grind (arith, ints), h)
    go false e h = (h, grind (arith, ints))

not_below_itself : (p : ℤ) → lt_z p p ≡ true → ⊥
not_below_itself p low = let no : lt_z p p ≡ false = grind (arith, ints) in both_ways (lt_z p p) no low

module _ (s : Registers) (p : ℤ) where
  -- a priority below those of all active exceptions is below that of each
  below_active : (m n : ℕ) → lt_z p (least_active m s) ≡ true → n < m → bit_of s.exceptions.active n ≡ true → lt_z p (priority s n) ≡ true
  unfolding least_active
  below_active zero n low within on = absurd (omega arith)
  below_active (suc m) n low within on = go (bit_of s.exceptions.active m) refl low (cases_eq n m) (λ h other. below_active m n h (omega arith) on)
    where
      go : (b : Bool) → bit_of s.exceptions.active m ≡ b → lt_z p (cond b (int_min (least_active m s) (priority s m)) (least_active m s)) ≡ true → (n ≡ m) ⊎ (n ≡ m → ⊥) → (lt_z p (least_active m s) ≡ true → (n ≡ m → ⊥) → lt_z p (priority s n) ≡ true) → lt_z p (priority s n) ≡ true
      go true e h (inl here) rest = ap (λ k. lt_z p (priority s k)) here ∙ (below_both p (least_active m s) (priority s m) h).1
      go true e h (inr other) rest = rest (below_both p (least_active m s) (priority s m) h).0 other
      go false e h (inl here) rest = absurd (both_ways (bit_of s.exceptions.active n) (ap (bit_of s.exceptions.active) here ∙ e) on)
      go false e h (inr other) rest = rest h other

  below_execution : (n : ℕ) → lt_z p (execution_priority s) ≡ true → n < 48 → bit_of s.exceptions.active n ≡ true → lt_z p (priority s n) ≡ true
  below_execution n low within on = below_active 48 n (go s.primask low) within on
    where
      go : (b : Bool) → lt_z p (cond b (int_min (least_active 48 s) (pos 0)) (least_active 48 s)) ≡ true → lt_z p (least_active 48 s) ≡ true
      go true h = (below_both p (least_active 48 s) (pos 0) h).0
      go false h = h

-- what is found counts as pending
abbrev Found : Registers → ℕ → Option ℕ → Type 0
Found s m None = Unit {0}
Found s m (Some k) = (k < m) × (counts s k ≡ true)

better_found : (s : Registers) (m : ℕ) (o : Option ℕ) → Found s m o → Found s (suc m) (better s o m)
better_found s m None found = go (counts s m) refl
  where
    go : (b : Bool) → counts s m ≡ b → Found s (suc m) (cond b (Some m) None)
    go true e = (omega arith, e)
    go false e = tt
better_found s m (Some k) found = go (counts s m && lt_z (priority s m) (priority s k)) refl
  where
    go : (b : Bool) → (counts s m && lt_z (priority s m) (priority s k)) ≡ b → Found s (suc m) (cond b (Some m) (Some k))
    go true e = (omega arith, (and_parts (counts s m) (lt_z (priority s m) (priority s k)) e).0)
    go false e = (omega (arith, found.0), found.1)

best_found : (s : Registers) (m : ℕ) → Found s m (best m s)
unfolding best
best_found s zero = tt
best_found s (suc m) = better_found s m (best m s) (best_found s m)

-- exception n may be taken up: it is one, its priority is below that of all active ones, and so it is none of them
pub record Takeable (s : Registers) (n : ℕ) : Type 0 where
  pub real : 2 ≤ n
  pub within : n < 48
  pub inactive : bit_of s.exceptions.active n ≡ false
  -- HardFault can take its place
  pub fallback : is_last n ≡ false → bit_of s.exceptions.active 3 ≡ false

-- exceptions other than NMI and HardFault have a priority of 0 or more
rank_priority : (s : Registers) (n : ℕ) → is_last n ≡ false → lt_z (priority s n) (negsuc 0) ≡ false
rank_priority s n other = let both = or_parts (eqb n 2) (eqb n 3) other in rw (both.0, both.1)

takeable : (s : Registers) (n : ℕ) → n < 48 → counts s n ≡ true → lt_z (priority s n) (execution_priority s) ≡ true → Takeable s n
takeable s n within counted low = record {
  real = leb-true 2 n (and_parts (leb 2 n) _ counted).0;
  within = within;
  inactive = false_from_ne_true _ (λ on. not_below_itself (priority s n) (below_execution s (priority s n) n low within on));
  fallback = λ other. false_from_ne_true _ (λ on. both_ways (lt_z (priority s n) (negsuc 0)) (rank_priority s n other) (below_execution s (priority s n) 3 low (omega arith) on));
}

chosen_from : (s : Registers) (o : Option ℕ) → Found s 48 o → (n : ℕ) → if_below s o ≡ Some n → Takeable s n
chosen_from s None found n e = cc
chosen_from s (Some k) found n e = go (lt_z (priority s k) (execution_priority s)) refl e
  where
    go : (b : Bool) → lt_z (priority s k) (execution_priority s) ≡ b → cond b (Some k) None ≡ Some n → Takeable s n
    go true low same = let is : k ≡ n = cc in subst (Takeable s) is (takeable s k found.0 found.1 low)
    go false low same = cc

pub chosen_takeable : (s : Registers) (n : ℕ) → chosen s ≡ Some n → Takeable s n
chosen_takeable s n e = chosen_from s (best 48 s) (best_found s 48) n e
