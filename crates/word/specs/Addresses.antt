use Rattle.std.specs.Prelude.{ℕ, ◌*◌, ◌/◌}

-- Align(x, y) = y * (x DIV y)
abbrev pub align_to : ℕ → ℕ → ℕ
align_to x y = y * (x / y)
