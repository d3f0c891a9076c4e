-- What a split answers and leaves, whichever of its buses is asked.
use Rattle.std.proofs.Common.{◌≡◌, ℕ, ◌/◌, Bool, true, false, cond, ltb, Some, None, refl, ap, ◌∙◌, ap₂}
use Rattle.bus.specs.Access.{is_write, bytes_of, misaligned, covers}
use Rattle.bus.specs.Meaning.{Verdict, answer, after, lifted, replied, written}
use Rattle.bus.specs.Memory.{Bytes, store}
use Rattle.bus.specs.declared.access.Access.{Access}
use Rattle.bus.proofs.Alignment.{same_word}
use Rattle.bus.proofs.Memory.{load_agree, store_unique, store_byte, store_outside}
use Rattle.parts.specs.Hop.{handed_up_answer}
use Rattle.parts.specs.Split.{below, joined, split_verdict}
use Rattle.parts.proofs.Hops.{answer_lifted, after_lifted}

-- the byte at y is that of the bus on y's side
joined_at : (limit : ℕ) (m n : Bytes) (y : ℕ) (b : Bool) → below limit y ≡ b → joined limit m n y ≡ cond b m n y
joined_at limit m n y true side = rw side
joined_at limit m n y false side = rw side

-- where both buses are as they were, so is the whole
joined_same : (limit : ℕ) (b : Bool) (m₁ m₂ n₁ n₂ : Bytes) → cond b n₁ n₂ ≡ cond b m₁ m₂ → cond b n₂ n₁ ≡ cond b m₂ m₁ → joined limit n₁ n₂ ≡ joined limit m₁ m₂
joined_same limit true m₁ m₂ n₁ n₂ p q = ap₂ (joined limit) p q
joined_same limit false m₁ m₂ n₁ n₂ p q = ap₂ (joined limit) q p

-- outside a store on side b the whole is as it was, on that side and on the other
joined_outside : (limit : ℕ) (b c : Bool) (m₁ m₂ n₁ n₂ : Bytes) (y : ℕ) → below limit y ≡ c → cond b n₁ n₂ y ≡ cond b m₁ m₂ y → cond b n₂ n₁ ≡ cond b m₂ m₁ → joined limit n₁ n₂ y ≡ joined limit m₁ m₂ y
joined_outside limit true true m₁ m₂ n₁ n₂ y side p q = rw side p
joined_outside limit true false m₁ m₂ n₁ n₂ y side p q = rw side (ap (λ (m : Bytes). m y) q)
joined_outside limit false true m₁ m₂ n₁ n₂ y side p q = rw side (ap (λ (m : Bytes). m y) q)
joined_outside limit false false m₁ m₂ n₁ n₂ y side p q = rw side p

module _ (limit : ℕ) (w₁ w₂ : Access → Verdict) (a : Access) (b : Bool) (aligned : misaligned a ≡ false) (side : below limit a.address ≡ b) where
  -- the whole access lies on the side of its address
  covered_side : (y : ℕ) → covers a y ≡ true → below limit y ≡ b
  covered_side y covered = ap (λ k. ltb k (limit / 4)) (same_word a y aligned covered) ∙ side

  asked : split_verdict limit w₁ w₂ a ≡ lifted (cond b (w₁ a) (w₂ a))
  asked = rw (aligned, side)

  same_reply : (m₁ m₂ : Bytes) → replied (joined limit m₁ m₂) a ≡ replied (cond b m₁ m₂) a
  same_reply m₁ m₂ =
      let same = load_agree (bytes_of a) (joined limit m₁ m₂) (cond b m₁ m₂) a.address (λ y covered. joined_at limit m₁ m₂ y b (covered_side y covered)) in
      ap (cond (is_write a.usage) 0) same

  pub split_value : (m₁ m₂ : Bytes) → handed_up_answer (answer (cond b (w₁ a) (w₂ a)) (replied (cond b m₁ m₂) a)) ≡ answer (split_verdict limit w₁ w₂ a) (replied (joined limit m₁ m₂) a)
  split_value m₁ m₂ = answer_lifted (cond b (w₁ a) (w₂ a)) (replied (cond b m₁ m₂) a) ∙ rw (asked, same_reply m₁ m₂)

  module _ (m₁ m₂ n₁ n₂ : Bytes) (v : ℕ) (other_side : cond b n₂ n₁ ≡ cond b m₂ m₁) where
    whole_store : cond b n₁ n₂ ≡ store (bytes_of a) (cond b m₁ m₂) a.address v → joined limit n₁ n₂ ≡ store (bytes_of a) (joined limit m₁ m₂) a.address v
    whole_store stored = store_unique (bytes_of a) (joined limit m₁ m₂) (joined limit n₁ n₂) a.address v
        (λ y covered. joined_at limit n₁ n₂ y b (covered_side y covered) ∙ ap (λ (m : Bytes). m y) stored ∙ store_byte (bytes_of a) (cond b m₁ m₂) a.address v y ∙ rw covered)
        (λ y outside. joined_outside limit b (below limit y) m₁ m₂ n₁ n₂ y refl (ap (λ (m : Bytes). m y) stored ∙ store_outside (bytes_of a) (cond b m₁ m₂) a.address v y outside) other_side)

    by_cases : (w : Verdict) (writes : Bool) → cond b n₁ n₂ ≡ after w (cond writes (store (bytes_of a) (cond b m₁ m₂) a.address v) (cond b m₁ m₂)) (cond b m₁ m₂) → joined limit n₁ n₂ ≡ after w (cond writes (store (bytes_of a) (joined limit m₁ m₂) a.address v) (joined limit m₁ m₂)) (joined limit m₁ m₂)
    by_cases (Some f) writes kept = joined_same limit b m₁ m₂ n₁ n₂ kept other_side
    by_cases None true stored = whole_store stored
    by_cases None false kept = joined_same limit b m₁ m₂ n₁ n₂ kept other_side

    pub split_contents : cond b n₁ n₂ ≡ after (cond b (w₁ a) (w₂ a)) (written (cond b m₁ m₂) a v) (cond b m₁ m₂) → joined limit n₁ n₂ ≡ after (split_verdict limit w₁ w₂ a) (written (joined limit m₁ m₂) a v) (joined limit m₁ m₂)
    split_contents changed =
        by_cases (cond b (w₁ a) (w₂ a)) (is_write a.usage) changed
        ∙ after_lifted (cond b (w₁ a) (w₂ a)) (written (joined limit m₁ m₂) a v) (joined limit m₁ m₂)
        ∙ rw asked
