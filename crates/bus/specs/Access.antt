-- What an access is for, and which bytes it covers.
use Rattle.std.specs.Prelude.{ℕ, ◌+◌, ◌%◌, Bool, true, false, not, ◌&&◌, ◌==◌, nat_le, nat_lt}
use Rattle.bus.specs.declared.access.Access.{Access}
use Rattle.bus.specs.declared.access.Use.{Use}
use Rattle.bus.specs.declared.access.Use.TheVariants.{Fetch, Read, Write}
use Rattle.bus.specs.declared.access.Width.{Width}
use Rattle.bus.specs.declared.access.Width.TheVariants.{Byte, Half, Word}

-- the bytes of a width
abbrev pub size : Width → ℕ
size Byte = 1
size Half = 2
size Word = 4

-- a fetch is of a halfword
abbrev pub width_of : Use → Width
width_of Fetch = Half
width_of (Read width) = width
width_of (Write width) = width

abbrev pub is_write : Use → Bool
is_write Fetch = false
is_write (Read width) = false
is_write (Write width) = true

-- how many bytes an access covers, from its address on
abbrev pub bytes_of : Access → ℕ
bytes_of a = size (width_of a.usage)

-- its address is no multiple of its width
abbrev pub misaligned : Access → Bool
misaligned a = not (a.address % bytes_of a == 0)

-- x is one of the n addresses from `from` on
abbrev pub within : ℕ → ℕ → ℕ → Bool
within from n x = nat_le from x && nat_lt x (from + n)

-- x is one of the addresses that the access covers
abbrev pub covers : Access → ℕ → Bool
covers a = within a.address (bytes_of a)
