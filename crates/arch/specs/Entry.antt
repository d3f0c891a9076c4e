-- Taking up an exception: PushStack() and ExceptionTaken().
use Rattle.std.specs.Prelude.{ℕ, ◌*◌, Bool, true, false, cond, ◌||◌, List, [], ◌∷◌, Some, None, Ok, Err, Option, ◌==◌}
use Rattle.bus.specs.Meaning.{reading}
use Rattle.bus.specs.Program.{Reply, Program, done, ask, bind}
use Rattle.bus.specs.declared.access.Right.TheVariants.{Privileged}
use Rattle.bus.specs.declared.access.Width.TheVariants.{Word}
use Rattle.bus.specs.declared.fault.Fault.{Fault}
use Rattle.word.specs.Addresses.{align_to}
use Rattle.word.specs.Fields.{bit_of}
use Rattle.word.specs.Sets.{set_with, set_without}
use Rattle.arch.specs.Accesses.{try_words}
use Rattle.arch.specs.Answers.{Response}
use Rattle.arch.specs.Registers.{minus, handler, right_of, on_process, sp, reg, locked_core}
use Rattle.arch.specs.Status.{frame_status}
use Rattle.arch.specs.declared.answers.Answer.TheVariants.{Entered, Locked}
use Rattle.arch.specs.declared.answers.Completed.TheVariants.{Stepped}
use Rattle.arch.specs.declared.registers.Registers.{Registers}

-- the frame lies below the stack pointer, with bit 2 of its address clear
abbrev pub frame_of : Registers → ℕ
frame_of s = align_to (minus (sp s) 32) 8

-- R0 to R3, R12, LR, the return address, and xPSR with bit 2 of the old stack pointer
abbrev pub frame_words : Registers → List ℕ
frame_words s =
    reg s 0 ∷ reg s 1 ∷ reg s 2 ∷ reg s 3 ∷ reg s 12 ∷ s.lr ∷ s.pc ∷ frame_status s (bit_of (sp s) 2) ∷ []

-- EXC_RETURN for the interrupted mode
abbrev pub return_value : Registers → ℕ
return_value s = cond (handler s) 0xFFFFFFF1 (cond s.control.spsel 0xFFFFFFFD 0xFFFFFFF9)

-- exception n is current and active, and its handler begins at the vector
abbrev pub entered : Registers → ℕ → ℕ → Registers
entered s n vector =
    record { general = s.general; lr = return_value s; msp = cond (on_process s) s.msp (frame_of s); psp = cond (on_process s) (frame_of s) s.psp; pc = align_to vector 2; flags = s.flags; thumb = bit_of vector 0; primask = s.primask; control = record { npriv = s.control.npriv; spsel = false }; current = n; exceptions = record { pending = set_without s.exceptions.pending n; active = set_with 64 s.exceptions.active n; armed = s.exceptions.armed; ranks = s.exceptions.ranks }; locked = s.locked }

-- NMI and HardFault have nothing in their place: a refused vector locks the core
abbrev pub is_last : ℕ → Bool
is_last n = n == 2 || n == 3

abbrev pub read_vector : ℕ → (Reply → Program (Response × Registers)) → Program (Response × Registers)
read_vector n next = ask (reading Word Privileged (4 * n)) 0 next

abbrev pub or_lock : Registers → ℕ → Reply → Program (Response × Registers)
or_lock s n (Ok vector) = done (Ok (Stepped (Entered n)), entered s n vector)
or_lock s n (Err f) = done (Ok (Stepped (Locked f)), locked_core s)

-- the vector of NMI or HardFault
abbrev pub take_last : Registers → ℕ → Program (Response × Registers)
take_last s n = read_vector n (or_lock s n)

-- another exception gives way to HardFault, and stays pending
abbrev pub or_hard_fault : Registers → ℕ → Reply → Program (Response × Registers)
or_hard_fault s n (Ok vector) = done (Ok (Stepped (Entered n)), entered s n vector)
or_hard_fault s n (Err f) = take_last s 3

abbrev pub take_other : Registers → ℕ → Option Fault → Program (Response × Registers)
take_other s n (Some f) = take_last s 3
take_other s n None = read_vector n (or_hard_fault s n)

abbrev pub take : Bool → Registers → ℕ → Option Fault → Program (Response × Registers)
take true s n refused = take_last s n
take false s n refused = take_other s n refused

-- the frame is stacked with the right of the interrupted mode, all of it, whatever is refused
abbrev pub take_up : Registers → ℕ → Program (Response × Registers)
take_up s n = bind (try_words (right_of s) None (frame_words s) (frame_of s)) (take (is_last n) s n)

-- the words of a frame, all of them tried
abbrev pub stack_frame : Registers → Program (Option Fault)
stack_frame s = try_words (right_of s) None (frame_words s) (frame_of s)
