-- A core made from registers.
use Rattle.std.specs.Prelude.{◌≡◌, Ok, Err, Result}
use Rattle.bus.specs.declared.refusal.Refusal.{Refusal}
use Rattle.bus.specs.declared.refusal.Refusal.TheVariants.{BadSetting}
use Rattle.arch.specs.Laws.{Sound}
use Rattle.arch.specs.declared.registers.Registers.{Registers}
use Rattle.cpu.specs.declared.processor.Core.{Core}

-- it has them, or no core can have them
abbrev pub Restored : Result Core Refusal → Registers → Type 0
Restored (Ok core) s = core.registers ≡ s
Restored (Err refusal) s = (refusal ≡ BadSetting) × (Sound s → ⊥)
