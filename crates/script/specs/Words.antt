-- The words of a report.
use Rattle.std.specs.Prelude.{ℕ, List, codes}
use Rattle.memory.specs.declared.flats.Flat.{Flat}
use Rattle.memory.specs.declared.flats.Flat.TheVariants.{One, Two}

abbrev pub flat_words : Flat → List ℕ
flat_words One = codes "flat 1"
flat_words Two = codes "flat 2"
