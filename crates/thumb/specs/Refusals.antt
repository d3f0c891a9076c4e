use Rattle.std.specs.Prelude.{ℕ}
use Rattle.thumb.specs.declared.instructions.Refusal.{Refusal}
use Rattle.thumb.specs.declared.instructions.Refusal.TheVariants.{Undefined, Unpredictable}

-- the cause of the fault that a refusal leads to
abbrev pub refusal_number : Refusal → ℕ
refusal_number Undefined = 6
refusal_number Unpredictable = 7
