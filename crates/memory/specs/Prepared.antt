-- The world of a hub, and the one that a turn begins in.
use Rattle.std.specs.Prelude.{Bool, List}
use Rattle.bus.specs.Meaning.{Verdict}
use Rattle.bus.specs.Memory.{Bytes, store}
use Rattle.bus.specs.Program.{World}
use Rattle.bus.specs.declared.access.Access.{Access}
use Rattle.parts.specs.RegionCheck.{check_verdict}
use Rattle.parts.specs.declared.region.Slot.{Slot}
use Rattle.memory.specs.Flats.{flat_number, handed_to}
use Rattle.memory.specs.declared.flats.Flat.{Flat}

-- a region check over what lies below
abbrev pub hub_world : List Slot → Bool → Bytes → (Access → Verdict) → World
hub_world regions background bytes verdict = record { bytes = bytes; verdict = check_verdict regions background verdict }

-- the regions are the flat's, and its number is the first word of the RAM
abbrev pub prepared_world : List Slot → Bool → Bytes → (Access → Verdict) → Flat → World
prepared_world regions background bytes verdict flat = hub_world (handed_to regions flat) background (store 4 bytes 0x2000_0000 (flat_number flat)) verdict
