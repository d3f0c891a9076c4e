-- While nothing is pending, nothing is chosen.
use Rattle.std.proofs.Common.{◌≡◌, ℕ, zero, suc, false, leb, None, refl, ap, ◌∙◌}
use Rattle.std.proofs.lemmas.Bool.{and_left, and_right}
use Rattle.word.specs.Fields.{bit_of}
use Rattle.arch.specs.Priorities.{counts, better, best, if_below, chosen}
use Rattle.arch.specs.declared.registers.Registers.{Registers}
use Rattle.arch.proofs.Counting.{bit_zero}

none_counts : (s : Registers) (n : ℕ) → s.exceptions.pending ≡ 0 → counts s n ≡ false
none_counts s n none = and_right (leb 2 n) _ (and_left _ _ (ap (λ set. bit_of set n) none ∙ bit_zero n))

best_none : (s : Registers) (n : ℕ) → s.exceptions.pending ≡ 0 → best n s ≡ None
unfolding best
best_none s zero none = refl
best_none s (suc n) none = ap (λ o. better s o n) (best_none s n none) ∙ rw (none_counts s n none)

pub chosen_none : (s : Registers) → s.exceptions.pending ≡ 0 → chosen s ≡ None
chosen_none s none = ap (if_below s) (best_none s 48 none)
