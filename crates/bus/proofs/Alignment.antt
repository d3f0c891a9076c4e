-- An aligned access lies in one word.
use Rattle.std.proofs.Common.{◌≡◌, ℕ, ◌+◌, ◌/◌, ◌%◌, ◌<◌, ◌≤◌, true, false, ltb, leb, arith}
use Rattle.std.proofs.lemmas.Bool.{and_parts, eqb-true, leb-true, ltb-true, not-false}
use Rattle.bus.specs.Access.{size, width_of, misaligned, bytes_of, covers}
use Rattle.bus.specs.declared.access.Access.{Access}
use Rattle.bus.specs.declared.access.Width.{Width}
use Rattle.bus.specs.declared.access.Width.TheVariants.{Byte, Half, Word}

in_one_word : (w : Width) (x y : ℕ) → x % size w ≡ 0 → x ≤ y → y < x + size w → y / 4 ≡ x / 4
in_one_word Byte x y aligned low high = omega arith
in_one_word Half x y aligned low high = omega arith
in_one_word Word x y aligned low high = omega arith

pub same_word : (a : Access) (y : ℕ) → misaligned a ≡ false → covers a y ≡ true → y / 4 ≡ a.address / 4
same_word a y aligned covered =
    let bounds = and_parts (leb a.address y) (ltb y (a.address + bytes_of a)) covered in
    in_one_word (width_of a.usage) a.address y (eqb-true _ _ (not-false _ aligned)) (leb-true _ _ bounds.0) (ltb-true _ _ bounds.1)
