-- The words of a request.
use Rattle.std.specs.Prelude.{ℕ, List, codes}
use Rattle.bus.specs.declared.access.Right.{Right}
use Rattle.bus.specs.declared.access.Right.TheVariants.{Privileged, Unprivileged}
use Rattle.bus.specs.declared.access.Width.{Width}
use Rattle.bus.specs.declared.access.Width.TheVariants.{Byte, Half, Word}

abbrev pub right_word : Right → List ℕ
right_word Privileged = codes "privileged"
right_word Unprivileged = codes "unprivileged"

abbrev pub width_word : Width → List ℕ
width_word Byte = codes "byte"
width_word Half = codes "half"
width_word Word = codes "word"
