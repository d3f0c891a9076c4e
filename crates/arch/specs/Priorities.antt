-- Which exception goes first. A lower number is a higher priority.
use Rattle.std.specs.Prelude.{ℕ, zero, suc, ◌*◌, Bool, cond, ◌&&◌, ◌||◌, ℤ, pos, negsuc, Some, None, Option, ◌==◌, int_lt, nat_le, nat_lt, slice_index}
use Rattle.std.specs.Int.{int_min}
use Rattle.word.specs.Fields.{bit_of}
use Rattle.arch.specs.declared.registers.Registers.{Registers}

-- NMI has -2, HardFault -1, and the others 64 times their rank
abbrev pub priority : Registers → ℕ → ℤ
priority s n = cond (n == 2) (negsuc 1) (cond (n == 3) (negsuc 0) (pos (64 * slice_index s.exceptions.ranks n)))

-- the least priority among the active exceptions below n, 256 if there is none
unfoldable pub least_active : ℕ → Registers → ℤ
least_active zero s = pos 256
least_active (suc n) s = cond (bit_of s.exceptions.active n) (int_min (least_active n s) (priority s n)) (least_active n s)

-- ExecutionPriority(): at most 0 with PRIMASK set
abbrev pub execution_priority : Registers → ℤ
execution_priority s = cond s.primask (int_min (least_active 48 s) (pos 0)) (least_active 48 s)

-- exception n counts as pending: an external one only when it is armed; the numbers 0 and 1 are Thread mode and Reset
abbrev pub counts : Registers → ℕ → Bool
counts s n = nat_le 2 n && (bit_of s.exceptions.pending n && (nat_lt n 16 || bit_of s.exceptions.armed n))

-- the better of the best so far and exception n, which has the higher number
abbrev pub better : Registers → Option ℕ → ℕ → Option ℕ
better s None n = cond (counts s n) (Some n) None
better s (Some k) n = cond (counts s n && int_lt (priority s n) (priority s k)) (Some n) (Some k)

-- the pending exception of least priority among those below n, the lowest number where they tie
unfoldable pub best : ℕ → Registers → Option ℕ
best zero s = None
best (suc n) s = better s (best n s) n

abbrev pub if_below : Registers → Option ℕ → Option ℕ
if_below s None = None
if_below s (Some n) = cond (int_lt (priority s n) (execution_priority s)) (Some n) None

-- the exception that a step takes up
abbrev pub chosen : Registers → Option ℕ
chosen s = if_below s (best 48 s)
