-- The numbers of what a call of the host is turned away with.
use Rattle.std.specs.Prelude.{ℕ}
use Rattle.bus.specs.declared.refusal.Refusal.{Refusal}
use Rattle.bus.specs.declared.refusal.Refusal.TheVariants.{OutOfRange, RankTooHigh, BadSetting, CoreLocked}

abbrev pub refusal_number : Refusal → ℕ
refusal_number OutOfRange = 12
refusal_number RankTooHigh = 13
refusal_number BadSetting = 14
refusal_number CoreLocked = 15
