-- A region covers the whole of a word or nothing of it.
use Rattle.std.proofs.Common.{◌≡◌, ℕ, ◌+◌, ◌-◌, ◌/◌, ◌^◌, ◌≤◌, Bool, true, false, leb, List, length, get_or, sym, refl, ap, ◌∙◌, arith}
use mathlib.Core.Path.{fun_ext}
use Rattle.std.proofs.lemmas.Nat.{shr-shr}
use Rattle.std.proofs.lemmas.Bool.{and_parts, leb-true}
use Rattle.bus.specs.declared.access.Access.{Access}
use Rattle.bus.proofs.Alignment.{same_word}
use Rattle.parts.specs.Region.{exponent_fits, region_covers, covers, off_region}
use Rattle.parts.specs.RegionCheck.{greatest, OneDecider}
use Rattle.parts.specs.declared.region.Slot.{Slot}
use Rattle.parts.specs.declared.region.Slot.TheVariants.{On, Off}

shift_same : (k x y : ℕ) → 2 ≤ k → y / 4 ≡ x / 4 → y / 2 ^ k ≡ x / 2 ^ k
shift_same k x y two same =
    let parts : 2 + (k - 2) ≡ k = omega arith in
    let by_word : (z : ℕ) → z / 2 ^ k ≡ z / 4 / 2 ^ (k - 2) = λ z. ap (λ n. z / 2 ^ n) (sym parts) ∙ sym (shr-shr z 2 (k - 2)) in
    by_word y ∙ ap (λ z. z / 2 ^ (k - 2)) same ∙ sym (by_word x)

covers_word : (o : Slot) (x y : ℕ) → y / 4 ≡ x / 4 → covers o y ≡ covers o x
covers_word (Off r) x y same = refl
covers_word (On r) x y same = go (exponent_fits r.exponent) refl
  where
    go : (b : Bool) → exponent_fits r.exponent ≡ b → region_covers r y ≡ region_covers r x
    go false fits = rw fits
    go true fits =
        let least = leb-true 8 r.exponent (and_parts (leb 8 r.exponent) (leb r.exponent 32) fits).0 in
        rw (shift_same r.exponent x y (omega arith) same, shift_same (r.exponent - 3) x y (omega arith) same)

pub one_decider : (regions : List Slot) (a : Access) → OneDecider regions a
one_decider regions a aligned x covered = ap (λ (test : ℕ → Bool). greatest test (length regions)) (fun_ext (λ k. covers_word (get_or regions k off_region) a.address x (same_word a x aligned covered)))
