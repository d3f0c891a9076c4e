-- A raw image of little-endian halfwords, cut into encodings.
use Rattle.std.specs.Prelude.{◌≡◌, ℕ, ◌+◌, ◌*◌, ◌<◌, cond, List, length, drop, Some, None, Option, nat_lt, slice_index}
use Rattle.thumb.specs.Decoded.{wide_first}
use Rattle.listing.specs.declared.image.Piece.{Piece}
use Rattle.listing.specs.declared.image.Piece.TheVariants.{Narrow, Wide, Cut, Odd}

abbrev pub halfword_at : List ℕ → ℕ → ℕ
halfword_at image i = slice_index image i + slice_index image (i + 1) * 256

-- a second halfword belongs to a wide first one, unless the image ends before
abbrev pub piece_at : List ℕ → ℕ → Option Piece
piece_at image i =
    cond (nat_lt (i + 1) (length image))
    (Some
    (cond (wide_first (halfword_at image i))
    (cond (nat_lt (i + 3) (length image)) (Wide (halfword_at image i) (halfword_at image (i + 2))) (Cut (halfword_at image i)))
    (Narrow (halfword_at image i))))
    (cond (nat_lt i (length image)) (Some (Odd (slice_index image i))) None)

-- how many bytes a piece has
abbrev pub piece_length : Piece → ℕ
piece_length (Narrow first) = 2
piece_length (Wide first second) = 4
piece_length (Cut first) = 2
piece_length (Odd byte) = 1

-- an image is a piece and the rest
pub record Begins (image : List ℕ) (piece : Piece) (rest : List ℕ) : Type 0 where
  pub first : piece_at image 0 ≡ Some piece
  pub after : rest ≡ drop (piece_length piece) image
  pub parts : piece_length piece + length rest ≡ length image
  pub some : 0 < piece_length piece
