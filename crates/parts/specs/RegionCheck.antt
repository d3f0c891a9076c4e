-- A region check: the highest-numbered region that covers an address decides.
use Rattle.std.specs.Prelude.{◌≡◌, ℕ, zero, suc, ◌<◌, Bool, true, false, cond, not, ◌&&◌, List, length, Some, None, Ok, Err, Option, Result, nat_lt, slice_index_or, slice_set}
use Rattle.bus.specs.Access.{misaligned, covers as covers_byte}
use Rattle.bus.specs.Fault.{raised}
use Rattle.bus.specs.Laws.{Laws, alignment_first, bears_raised, bears_lifted}
use Rattle.bus.specs.Meaning.{Verdict, refused_if, lifted}
use Rattle.bus.specs.Memory.{Bytes}
use Rattle.bus.specs.declared.access.Access.{Access}
use Rattle.bus.specs.declared.fault.Cause.TheVariants.{Forbidden, Misaligned}
use Rattle.bus.specs.declared.refusal.Refusal.{Refusal}
use Rattle.bus.specs.declared.refusal.Refusal.TheVariants.{OutOfRange}
use Rattle.parts.specs.Region.{is_privileged, covers, permits, region_of, off_region}
use Rattle.parts.specs.declared.region.Slot.{Slot}
use Rattle.parts.specs.declared.region_check.RegionCheck.{RegionCheck}
use Rattle.parts.specs.declared.region.Setting.{Setting}

-- the greatest number below n that passes the test
unfoldable pub greatest : (ℕ → Bool) → ℕ → Option ℕ
greatest test zero = None
greatest test (suc n) = cond (test n) (Some n) (greatest test n)

-- what that means: it passes, and no greater one does; and where there is none, none does
abbrev pub Decides : (ℕ → Bool) → ℕ → Option ℕ → Type 0
Decides test n (Some k) = (k < n) × (test k ≡ true) × ((j : ℕ) → k < j → j < n → test j ≡ false)
Decides test n None = (j : ℕ) → j < n → test j ≡ false

-- region k covers x
abbrev pub covered_by : List Slot → ℕ → ℕ → Bool
covered_by regions x k = covers (slice_index_or regions k off_region) x

-- the number of the region that decides on x
abbrev pub deciding : List Slot → ℕ → Option ℕ
deciding regions x = greatest (covered_by regions x) (length regions)

-- where no region covers, only privileged accesses pass, and only with the background mark
abbrev pub passes_by : Option ℕ → List Slot → Bool → Access → Bool
passes_by (Some k) regions background a = permits (slice_index_or regions k off_region) a
passes_by None regions background a = background && is_privileged a.right

abbrev pub passes : List Slot → Bool → Access → Bool
passes regions background a = passes_by (deciding regions a.address) regions background a

-- one region, or none, decides on every byte of an aligned access
abbrev pub OneDecider : List Slot → Access → Type 0
OneDecider regions a = misaligned a ≡ false → (x : ℕ) → covers_byte a x ≡ true → deciding regions x ≡ deciding regions a.address

abbrev pub check_verdict : List Slot → Bool → (Access → Verdict) → Access → Verdict
check_verdict regions background below a =
    refused_if (misaligned a) (raised Misaligned a 4)
    (refused_if (not (passes regions background a)) (raised Forbidden a 4)
    (lifted (below a)))

pub check_laws : {B : Type 0} {i : ℕ} {bytes : B → Bytes} {verdict : B → Access → Verdict} → Laws i bytes verdict → Laws {S = RegionCheck B} 4 (λ s. bytes s.below) (λ s. check_verdict s.table.regions s.background (verdict s.below))
check_laws laws = record {
  byte = λ s. laws.byte s.below;
  alignment = λ s a. alignment_first a _ _;
  fault = λ s a. bears_raised (misaligned a) _ a 4 _ (bears_raised (not (passes s.table.regions s.background a)) _ a 4 _ (bears_lifted a _ (laws.fault s.below a)));
}

-- the answer to setting region k, and the regions after it
abbrev pub unit_answer : Result Slot Refusal → Result (Unit {0}) Refusal
unit_answer (Ok region) = Ok tt
unit_answer (Err refusal) = Err refusal

abbrev pub setting_answer : ℕ → Setting → Result (Unit {0}) Refusal
setting_answer k setting = cond (nat_lt k 8) (unit_answer (region_of setting)) (Err OutOfRange)

abbrev pub with_region : List Slot → ℕ → Result Slot Refusal → List Slot
with_region regions k (Ok region) = slice_set regions k region
with_region regions k (Err refusal) = regions

abbrev pub regions_after : List Slot → ℕ → Setting → List Slot
regions_after regions k setting = cond (nat_lt k 8) (with_region regions k (region_of setting)) regions
