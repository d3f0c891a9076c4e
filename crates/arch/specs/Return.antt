-- Returning from an exception: ExceptionReturn() and PopStack().
use Rattle.std.specs.Prelude.{ℕ, ◌-◌, ◌%◌, ◌^◌, Bool, true, false, cond, not, ◌&&◌, ◌||◌, List, [], ◌∷◌, Ok, Err, Result, ◌==◌, count_ones, slice_index, slice_set}
use Rattle.bus.specs.Program.{done}
use Rattle.bus.specs.declared.access.Right.{Right}
use Rattle.bus.specs.declared.access.Width.TheVariants.{Word}
use Rattle.bus.specs.declared.fault.Cause.{Cause}
use Rattle.bus.specs.declared.fault.Cause.TheVariants.{BadReturn}
use Rattle.bus.specs.declared.fault.Fault.{Fault}
use Rattle.word.specs.Addresses.{align_to}
use Rattle.word.specs.Fields.{bit_of, field_of}
use Rattle.word.specs.Sets.{set_with, set_without}
use Rattle.arch.specs.Accesses.{Attempt, then, read}
use Rattle.arch.specs.Registers.{plus, right_if}
use Rattle.arch.specs.Status.{word_flags}
use Rattle.arch.specs.declared.registers.Frame.{Frame}
use Rattle.arch.specs.declared.registers.Registers.{Registers}

-- a fault of the core itself: kind 0, no hops, the address of the instruction
abbrev pub core_fault : Cause → Registers → Fault
core_fault cause s = record { cause = cause; address = s.pc; kind = 0; hops = 0 }

-- EXC_RETURN<3:0>: 0001 to Handler mode, 1001 to Thread mode on MSP, 1101 to Thread mode on PSP
abbrev pub to_thread : ℕ → Bool
to_thread exc = not (field_of exc 0 4 == 1)

abbrev pub to_process : ℕ → Bool
to_process exc = field_of exc 0 4 == 13

-- what ExceptionReturn() finds UNPREDICTABLE before it looks at the frame
abbrev pub returnable : Registers → ℕ → Bool
returnable s exc =
    (field_of exc 4 24 == 2 ^ 24 - 1)
    && (bit_of s.exceptions.active s.current
    && ((field_of exc 0 4 == 1 && not (count_ones s.exceptions.active == 1))
    || ((field_of exc 0 4 == 9 || field_of exc 0 4 == 13) && count_ones s.exceptions.active == 1)))

abbrev pub frame_pointer : Registers → ℕ → ℕ
frame_pointer s exc = cond (to_process exc) s.psp s.msp

-- Thread mode with nPRIV set: the frame is read unprivileged, and its number discarded
abbrev pub forced_thread : Registers → ℕ → Bool
forced_thread s exc = to_thread exc && s.control.npriv

-- IPSR after the return
abbrev pub number_in : Registers → ℕ → ℕ → ℕ
number_in s exc psr = cond (forced_thread s exc) 0 (field_of psr 0 6)

-- the active exceptions after the return
abbrev pub still_active : Registers → ℕ
still_active s = set_without s.exceptions.active s.current

-- the number is 0 for Thread mode, and another active exception for Handler mode
abbrev pub consistent : Registers → ℕ → ℕ → Bool
consistent s exc psr =
    cond (to_thread exc)
    (number_in s exc psr == 0)
    (not (number_in s exc psr == 0) && bit_of (still_active s) (number_in s exc psr))

-- the stack pointer above the frame, with bit 2 as it was
abbrev pub unstacked : ℕ → ℕ → ℕ
unstacked frame psr = cond (bit_of psr 9) (set_with 32 (plus frame 32) 2) (plus frame 32)

-- the stack of the mode returned to, above the frame
abbrev pub restacked : Registers → ℕ → ℕ → Registers
restacked s exc psr =
    let stack : ℕ = align_to (unstacked (frame_pointer s exc) psr) 4 in
    record { general = s.general; lr = s.lr; msp = cond (to_process exc) s.msp stack; psp = cond (to_process exc) stack s.psp; pc = s.pc; flags = s.flags; thumb = s.thumb; primask = s.primask; control = record { npriv = s.control.npriv; spsel = to_process exc }; current = s.current; exceptions = s.exceptions; locked = s.locked }

-- the registers that a frame gives back
abbrev pub restored : Registers → ℕ → Frame → Registers
restored s exc f =
    let t : Registers = restacked s exc f.status in
    record { general = slice_set (slice_set (slice_set (slice_set (slice_set s.general 0 f.r0) 1 f.r1) 2 f.r2) 3 f.r3) 12 f.r12; lr = f.lr; msp = t.msp; psp = t.psp; pc = f.return_address; flags = word_flags f.status; thumb = bit_of f.status 24; primask = s.primask; control = t.control; current = number_in s exc f.status; exceptions = record { pending = s.exceptions.pending; active = still_active s; armed = s.exceptions.armed; ranks = s.exceptions.ranks }; locked = s.locked }

-- a frame is taken where its return address is even and its number fits the mode
abbrev pub acceptable : Registers → ℕ → Frame → Bool
acceptable s exc f = f.return_address % 2 == 0 && consistent s exc f.status

abbrev pub verdict_on : Registers → ℕ → Frame → Result Registers Fault
verdict_on s exc f = cond (acceptable s exc f) (Ok (restored s exc f)) (Err (core_fault BadReturn s))

abbrev pub judged : Registers → ℕ → Frame → Attempt Registers
judged s exc f = done (verdict_on s exc f)

-- four words from x upward, as far as the first refusal
abbrev pub read_four : Right → ℕ → Attempt (List ℕ)
read_four right x =
    then (read Word right x) (λ a.
    then (read Word right (plus x 4)) (λ b.
    then (read Word right (plus x 8)) (λ c.
    then (read Word right (plus x 12)) (λ d.
    done (Ok (a ∷ b ∷ c ∷ d ∷ []))))))

-- the frame of eight words
abbrev pub frame_of_words : List ℕ → List ℕ → Frame
frame_of_words low high =
    record { r0 = slice_index low 0; r1 = slice_index low 1; r2 = slice_index low 2; r3 = slice_index low 3; r12 = slice_index high 0; lr = slice_index high 1; return_address = slice_index high 2; status = slice_index high 3 }

-- the frame from x upward, as far as the first refusal
abbrev pub read_upper : Right → List ℕ → ℕ → Attempt Frame
read_upper right low x = then (read_four right x) (λ high. done (Ok (frame_of_words low high)))

unfoldable pub read_frame : Right → ℕ → Attempt Frame
read_frame right x = then (read_four right x) (λ low. read_upper right low (plus x 16))

-- the frame is read with the right of the mode returned to, all of it before it is judged
abbrev pub unstack : Bool → Registers → ℕ → Attempt Registers
unstack true s exc = then (read_frame (right_if (not (forced_thread s exc))) (frame_pointer s exc)) (judged s exc)
unstack false s exc = done (Err (core_fault BadReturn s))

abbrev pub exception_return : Registers → ℕ → Attempt Registers
exception_return s exc = unstack (returnable s exc) s exc
