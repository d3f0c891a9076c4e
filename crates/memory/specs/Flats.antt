-- What belongs to each flat, and the regions that the supervisor sets for it.
use Rattle.std.specs.Prelude.{◌≡◌, ℕ, ◌+◌, ◌/◌, Bool, true, false, ◌⊎◌, List, [], ◌∷◌, drop, ◌==◌}
use Rattle.bus.specs.declared.access.Access.{Access}
use Rattle.parts.specs.Region.{off_region, is_privileged}
use Rattle.parts.specs.RegionCheck.{regions_after, passes}
use Rattle.parts.specs.declared.region.Slot.{Slot}
use Rattle.parts.specs.declared.region.Setting.{Setting}
use Rattle.memory.specs.declared.flats.Flat.{Flat}
use Rattle.memory.specs.declared.flats.Flat.TheVariants.{One, Two}
use Rattle.memory.specs.declared.regions.Turn.{Turn}
use Rattle.memory.specs.declared.regions.Turn.TheVariants.{Runs, Waits}

abbrev pub flat_number : Flat → ℕ
flat_number One = 1
flat_number Two = 2

abbrev pub neighbour : Flat → Flat
neighbour One = Two
neighbour Two = One

abbrev pub code_base : Flat → ℕ
code_base One = 0x0400
code_base Two = 0x0800

abbrev pub ram_base : Flat → ℕ
ram_base One = 0x2000_0400
ram_base Two = 0x2000_0800

abbrev pub panel_word : Flat → ℕ
panel_word One = 0
panel_word Two = 8

-- the rights of a region that has `running` while its flat runs: while the flat waits it is for the supervisor alone
abbrev pub rights_in : Turn → ℕ → ℕ
rights_in Runs running = running
rights_in Waits running = 1

-- all may read a running flat's code
abbrev pub code_rights : Turn → ℕ
code_rights turn = rights_in turn 6

-- and write its RAM and its panel words
abbrev pub ram_rights : Turn → ℕ
ram_rights turn = rights_in turn 3

abbrev pub panel_rights : Turn → ℕ
panel_rights turn = rights_in turn 3

-- the eighths of the panel's region that are not the flat's
abbrev pub panel_marks : Flat → ℕ
panel_marks One = 0xfe
panel_marks Two = 0xfd

abbrev pub code_region : Flat → Turn → Setting
code_region flat turn = record { on = true; base = code_base flat; exponent = 10; code = code_rights turn; no_fetch = false; sub_marks = 0 }

abbrev pub ram_region : Flat → Turn → Setting
ram_region flat turn = record { on = true; base = ram_base flat; exponent = 10; code = ram_rights turn; no_fetch = true; sub_marks = 0 }

abbrev pub panel_region : Flat → Turn → Setting
panel_region flat turn = record { on = true; base = 0x4000_0000; exponent = 8; code = panel_rights turn; no_fetch = true; sub_marks = panel_marks flat }

-- the number of the first of a flat's three regions
abbrev pub first_region : Flat → ℕ
first_region One = 0
first_region Two = 3

abbrev pub flat_regions : List Slot → Flat → Turn → List Slot
flat_regions regions flat turn =
    regions_after
    (regions_after
    (regions_after regions (first_region flat) (code_region flat turn))
    (first_region flat + 1) (ram_region flat turn))
    (first_region flat + 2) (panel_region flat turn)

-- both flats wait
abbrev pub both_wait : List Slot → List Slot
both_wait regions = flat_regions (flat_regions regions One Waits) Two Waits

-- the regions of one flat are shut, and then those of the other opened
abbrev pub handed_to : List Slot → Flat → List Slot
handed_to regions flat = flat_regions (flat_regions regions (neighbour flat) Waits) flat Runs

-- the last two of the eight regions are off, and were never set
abbrev pub Spare : List Slot → Type 0
Spare regions = drop 6 regions ≡ off_region ∷ off_region ∷ []

-- the RAM or the code of a flat, 1024 bytes each
abbrev pub in_ram : Flat → ℕ → Bool
in_ram flat x = x / 1024 == ram_base flat / 1024

abbrev pub in_code : Flat → ℕ → Bool
in_code flat x = x / 1024 == code_base flat / 1024

-- no unprivileged access to the flat's RAM or code passes
abbrev pub Shut : Flat → List Slot → Type 0
Shut flat regions =
    (background : Bool) (a : Access) → is_privileged a.right ≡ false
    → (in_ram flat a.address ≡ true) ⊎ (in_code flat a.address ≡ true)
    → passes regions background a ≡ false
