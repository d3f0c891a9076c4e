-- While one flat runs, its neighbour's RAM and code are shut.
use Rattle.std.proofs.Common.{◌≡◌, ℕ, ◌/◌, ◌^◌, ◌<◌, Bool, true, false, eqb, List, [], ◌∷◌, ◌++◌, length, drop, replicate, Some, refl, ap, ◌∙◌, inl, inr, arith, eq-eqb, ne_eqb, eqb-true}
use Rattle.std.proofs.Math.Bool.{and-true}
use native.Mathlib.Nat.{zero-div}
use Rattle.bus.specs.declared.access.Right.{Right}
use Rattle.bus.specs.declared.access.Use.{Use}
use Rattle.bus.specs.declared.access.Use.TheVariants.{Fetch, Read, Write}
use Rattle.parts.specs.Region.{off_region, eighth, is_privileged, region_covers, permits_use}
use Rattle.parts.specs.RegionCheck.{covered_by, deciding, passes_by, passes}
use Rattle.parts.specs.declared.region.Region.{Region}
use Rattle.parts.specs.declared.region.Slot.{Slot}
use Rattle.parts.specs.declared.region.Slot.TheVariants.{Off}
use Rattle.parts.specs.declared.region.Rights.TheVariants.{Privileged}
use Rattle.parts.proofs.Deciders.{greatest_hit, greatest_miss}
use Rattle.memory.specs.Flats.{neighbour, both_wait, handed_to, Spare, Shut}
use Rattle.memory.specs.declared.flats.Flat.{Flat}
use Rattle.memory.specs.declared.flats.Flat.TheVariants.{One, Two}

-- all regions, where a flat runs and the last two are off, with what numbers they keep
abbrev eight : Region → Region → Flat → List Slot
eight m n = handed_to (replicate 6 off_region ++ Off m ∷ Off n ∷ [])

-- six regions come before the last two
six_before : (regions : List Slot) (m n : Region) → drop 6 regions ≡ Off m ∷ Off n ∷ [] → (a b c d e f : Slot) × (regions ≡ a ∷ b ∷ c ∷ d ∷ e ∷ f ∷ Off m ∷ Off n ∷ [])
six_before (a ∷ b ∷ c ∷ d ∷ e ∷ f ∷ rest) m n off = (a, b, c, d, e, f, ap (λ end. a ∷ b ∷ c ∷ d ∷ e ∷ f ∷ end) off)
six_before [] m n off = absurd (omega (arith, ap length off))
six_before (a ∷ []) m n off = absurd (omega (arith, ap length off))
six_before (a ∷ b ∷ []) m n off = absurd (omega (arith, ap length off))
six_before (a ∷ b ∷ c ∷ []) m n off = absurd (omega (arith, ap length off))
six_before (a ∷ b ∷ c ∷ d ∷ []) m n off = absurd (omega (arith, ap length off))
six_before (a ∷ b ∷ c ∷ d ∷ e ∷ []) m n off = absurd (omega (arith, ap length off))

anew : (flat : Flat) (regions : List Slot) (m n : Region) → drop 6 regions ≡ Off m ∷ Off n ∷ [] → handed_to regions flat ≡ eight m n flat
anew One regions m n off = let (a, b, c, d, e, f, all) = six_before regions m n off in ap (λ regions. handed_to regions One) all
anew Two regions m n off = let (a, b, c, d, e, f, all) = six_before regions m n off in ap (λ regions. handed_to regions Two) all

-- a region of 1024 bytes for the supervisor only
abbrev kilobyte : ℕ → Bool → Region
kilobyte base closed = record { base = base; exponent = 10; rights = Privileged; no_fetch = closed; sub_marks = 0 }

denied : (usage : Use) (right : Right) (base : ℕ) (closed : Bool) → is_privileged right ≡ false → permits_use usage (kilobyte base closed) right ≡ false
denied Fetch right base closed user = rw user
denied (Read width) right base closed user = user
denied (Write width) right base closed user = user

-- what a region covers does not hang on its rights, so these serve for each region of its size
kilobyte_covers : (base x : ℕ) → region_covers (kilobyte base true) x ≡ eqb (x / 1024) (base / 1024)
kilobyte_covers base x = rw (zero-div (2 ^ eighth 10 x)) (and-true (eqb (x / 1024) (base / 1024)))

hit : (base x : ℕ) → x / 1024 ≡ base / 1024 → region_covers (kilobyte base true) x ≡ true
hit base x same = kilobyte_covers base x ∙ eq-eqb _ _ same

miss : (base x : ℕ) → (x / 1024 ≡ base / 1024 → ⊥) → region_covers (kilobyte base true) x ≡ false
miss base x other = kilobyte_covers base x ∙ ne_eqb _ _ other

-- the panel lies above all RAM and code
panel_miss : (marks x : ℕ) → x / 1024 < 1048576 → region_covers (record { base = 0x4000_0000; exponent = 8; rights = Privileged; no_fetch = true; sub_marks = marks }) x ≡ false
panel_miss marks x low = rw (ne_eqb (x / 256) 4194304 (λ e. omega arith))

module _ (m n : Region) where
  -- which region decides in the neighbour's RAM and code
  ram_of_two : (x : ℕ) → x / 1024 ≡ 524290 → deciding (eight m n One) x ≡ Some 4
  ram_of_two x there =
      let test : ℕ → Bool = covered_by (eight m n One) x in
      greatest_miss test 8 (omega arith) refl ∙ greatest_miss test 7 (omega arith) refl
      ∙ greatest_miss test 6 (omega arith) (panel_miss 0xfd x (omega arith))
      ∙ greatest_hit test 5 (omega arith) (hit 0x2000_0800 x there)

  code_of_two : (x : ℕ) → x / 1024 ≡ 2 → deciding (eight m n One) x ≡ Some 3
  code_of_two x there =
      let test : ℕ → Bool = covered_by (eight m n One) x in
      greatest_miss test 8 (omega arith) refl ∙ greatest_miss test 7 (omega arith) refl
      ∙ greatest_miss test 6 (omega arith) (panel_miss 0xfd x (omega arith))
      ∙ greatest_miss test 5 (omega arith) (miss 0x2000_0800 x (λ e. omega arith))
      ∙ greatest_hit test 4 (omega arith) (hit 0x800 x there)

  ram_of_one : (x : ℕ) → x / 1024 ≡ 524289 → deciding (eight m n Two) x ≡ Some 1
  ram_of_one x there =
      let test : ℕ → Bool = covered_by (eight m n Two) x in
      greatest_miss test 8 (omega arith) refl ∙ greatest_miss test 7 (omega arith) refl
      ∙ greatest_miss test 6 (omega arith) (panel_miss 0xfd x (omega arith))
      ∙ greatest_miss test 5 (omega arith) (miss 0x2000_0800 x (λ e. omega arith))
      ∙ greatest_miss test 4 (omega arith) (miss 0x800 x (λ e. omega arith))
      ∙ greatest_miss test 3 (omega arith) (panel_miss 0xfe x (omega arith))
      ∙ greatest_hit test 2 (omega arith) (hit 0x2000_0400 x there)

  code_of_one : (x : ℕ) → x / 1024 ≡ 1 → deciding (eight m n Two) x ≡ Some 0
  code_of_one x there =
      let test : ℕ → Bool = covered_by (eight m n Two) x in
      greatest_miss test 8 (omega arith) refl ∙ greatest_miss test 7 (omega arith) refl
      ∙ greatest_miss test 6 (omega arith) (panel_miss 0xfd x (omega arith))
      ∙ greatest_miss test 5 (omega arith) (miss 0x2000_0800 x (λ e. omega arith))
      ∙ greatest_miss test 4 (omega arith) (miss 0x800 x (λ e. omega arith))
      ∙ greatest_miss test 3 (omega arith) (panel_miss 0xfe x (omega arith))
      ∙ greatest_miss test 2 (omega arith) (miss 0x2000_0400 x (λ e. omega arith))
      ∙ greatest_hit test 1 (omega arith) (hit 0x400 x there)

  shut : (flat : Flat) → Shut (neighbour flat) (eight m n flat)
  shut One background a user (inl there) = ap (λ o. passes_by o (eight m n One) background a) (ram_of_two a.address (eqb-true _ _ there)) ∙ denied a.usage a.right 0x2000_0800 true user
  shut One background a user (inr there) = ap (λ o. passes_by o (eight m n One) background a) (code_of_two a.address (eqb-true _ _ there)) ∙ denied a.usage a.right 0x800 false user
  shut Two background a user (inl there) = ap (λ o. passes_by o (eight m n Two) background a) (ram_of_one a.address (eqb-true _ _ there)) ∙ denied a.usage a.right 0x2000_0400 true user
  shut Two background a user (inr there) = ap (λ o. passes_by o (eight m n Two) background a) (code_of_one a.address (eqb-true _ _ there)) ∙ denied a.usage a.right 0x400 false user

-- the regions that a flat runs with, and those with which both wait, leave the last two off; while these are off, the neighbour is shut
pub still_off : (flat : Flat) (regions : List Slot) (m n : Region) → drop 6 regions ≡ Off m ∷ Off n ∷ [] → drop 6 (handed_to regions flat) ≡ Off m ∷ Off n ∷ []
still_off One regions m n off = ap (drop 6) (anew One regions m n off)
still_off Two regions m n off = ap (drop 6) (anew Two regions m n off)

pub still_off_waiting : (regions : List Slot) (m n : Region) → drop 6 regions ≡ Off m ∷ Off n ∷ [] → drop 6 (both_wait regions) ≡ Off m ∷ Off n ∷ []
still_off_waiting regions m n off = let (a, b, c, d, e, f, all) = six_before regions m n off in ap (λ regions. drop 6 (both_wait regions)) all

pub off_shut : (flat : Flat) (regions : List Slot) (m n : Region) → drop 6 regions ≡ Off m ∷ Off n ∷ [] → Shut (neighbour flat) (handed_to regions flat)
off_shut flat regions m n off background a user there = ap (λ all. passes all background a) (anew flat regions m n off) ∙ shut m n flat background a user there

-- and so where they were never set
pub still_spare : (flat : Flat) (regions : List Slot) → Spare regions → Spare (handed_to regions flat)
still_spare flat regions spare = still_off flat regions _ _ spare

pub neighbour_shut : (flat : Flat) (regions : List Slot) → Spare regions → Shut (neighbour flat) (handed_to regions flat)
neighbour_shut flat regions spare = off_shut flat regions _ _ spare
