-- The host's calls in a turn.
use Rattle.std.specs.Prelude.{ℕ, zero, suc, ◌/◌, ◌%◌, Bool, true, cond, not, ◌&&◌, List, [], ◌∷◌, ◌++◌, ◌==◌}
use Rattle.arch.specs.declared.answers.Call.{Call}
use Rattle.arch.specs.declared.answers.Call.TheVariants.{Step, Raise, Arm, Rank}
use Rattle.memory.specs.declared.flats.Flat.{Flat}
use Rattle.memory.specs.declared.flats.Flat.TheVariants.{One, Two}

-- turns count from 1
abbrev pub flat_of : ℕ → Flat
flat_of turn = cond (turn % 2 == 1) One Two

-- the window's contact is ranked before the tick, and the tick before SVCall
abbrev pub opening : List Call
opening = Rank 11 3 ∷ Rank 15 2 ∷ Rank 16 1 ∷ Arm 16 true ∷ []

abbrev pub only_if : Bool → Call → List Call
only_if b call = cond b (call ∷ []) []

-- a tick of 0 never comes
abbrev pub tick_due : ℕ → ℕ → Bool
tick_due k tick = not (tick == 0) && k % tick == 0

-- the k-th step, then a SysTick if k is a multiple of the tick, then the window if k is the middle
abbrev pub step_with_due : ℕ → ℕ → ℕ → List Call
step_with_due k tick middle = Step ∷ (only_if (tick_due k tick) (Raise 15) ++ only_if (k == middle) (Raise 16))

-- the first k steps, with what is due after each
unfoldable pub first_steps : ℕ → ℕ → ℕ → List Call
first_steps tick middle zero = []
first_steps tick middle (suc k) = first_steps tick middle k ++ step_with_due (suc k) tick middle

abbrev pub turn_calls : ℕ → ℕ → List Call
turn_calls steps tick = opening ++ first_steps tick (steps / 2) steps
