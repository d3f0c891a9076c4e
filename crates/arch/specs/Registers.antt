-- The registers as the manual names them: R[n], SP, PC, the mode and its privilege, and one write for each.
use Rattle.std.specs.Prelude.{ℕ, ◌+◌, ◌-◌, ◌%◌, ◌^◌, Bool, true, false, cond, not, ◌&&◌, ◌||◌, List, ◌==◌, nat_lt, slice_index, slice_set}
use Rattle.bus.specs.declared.access.Right.{Right}
use Rattle.bus.specs.declared.access.Right.TheVariants.{Privileged, Unprivileged}
use Rattle.word.specs.Addresses.{align_to}
use Rattle.word.specs.Fields.{bit_of}
use Rattle.word.specs.Sets.{set_with}
use Rattle.word.specs.declared.flags.Flags.{Flags}
use Rattle.arch.specs.declared.registers.Exceptions.{Exceptions}
use Rattle.arch.specs.declared.registers.Registers.{Registers}

-- addresses are taken modulo 2^32
abbrev pub plus : ℕ → ℕ → ℕ
plus x y = (x + y) % 2 ^ 32

abbrev pub minus : ℕ → ℕ → ℕ
minus x y = (x + (2 ^ 32 - y)) % 2 ^ 32

abbrev pub with_general : Registers → List ℕ → Registers
with_general s v = record { general = v; lr = s.lr; msp = s.msp; psp = s.psp; pc = s.pc; flags = s.flags; thumb = s.thumb; primask = s.primask; control = s.control; current = s.current; exceptions = s.exceptions; locked = s.locked }

abbrev pub with_lr : Registers → ℕ → Registers
with_lr s v = record { general = s.general; lr = v; msp = s.msp; psp = s.psp; pc = s.pc; flags = s.flags; thumb = s.thumb; primask = s.primask; control = s.control; current = s.current; exceptions = s.exceptions; locked = s.locked }

abbrev pub with_pc : Registers → ℕ → Registers
with_pc s v = record { general = s.general; lr = s.lr; msp = s.msp; psp = s.psp; pc = v; flags = s.flags; thumb = s.thumb; primask = s.primask; control = s.control; current = s.current; exceptions = s.exceptions; locked = s.locked }

abbrev pub with_flags : Registers → Flags → Registers
with_flags s v = record { general = s.general; lr = s.lr; msp = s.msp; psp = s.psp; pc = s.pc; flags = v; thumb = s.thumb; primask = s.primask; control = s.control; current = s.current; exceptions = s.exceptions; locked = s.locked }

abbrev pub with_thumb : Registers → Bool → Registers
with_thumb s v = record { general = s.general; lr = s.lr; msp = s.msp; psp = s.psp; pc = s.pc; flags = s.flags; thumb = v; primask = s.primask; control = s.control; current = s.current; exceptions = s.exceptions; locked = s.locked }

abbrev pub with_primask : Registers → Bool → Registers
with_primask s v = record { general = s.general; lr = s.lr; msp = s.msp; psp = s.psp; pc = s.pc; flags = s.flags; thumb = s.thumb; primask = v; control = s.control; current = s.current; exceptions = s.exceptions; locked = s.locked }

abbrev pub with_exceptions : Registers → Exceptions → Registers
with_exceptions s v = record { general = s.general; lr = s.lr; msp = s.msp; psp = s.psp; pc = s.pc; flags = s.flags; thumb = s.thumb; primask = s.primask; control = s.control; current = s.current; exceptions = v; locked = s.locked }

-- a stack pointer keeps no low two bits
abbrev pub with_msp : Registers → ℕ → Registers
with_msp s v = record { general = s.general; lr = s.lr; msp = align_to v 4; psp = s.psp; pc = s.pc; flags = s.flags; thumb = s.thumb; primask = s.primask; control = s.control; current = s.current; exceptions = s.exceptions; locked = s.locked }

abbrev pub locked_core : Registers → Registers
locked_core s = record { general = s.general; lr = s.lr; msp = s.msp; psp = s.psp; pc = s.pc; flags = s.flags; thumb = s.thumb; primask = s.primask; control = s.control; current = s.current; exceptions = s.exceptions; locked = true }

-- the three sets of exceptions, and the ranks
abbrev pub with_sets : Registers → ℕ → ℕ → Registers
with_sets s pending active = with_exceptions s (record { pending = pending; active = active; armed = s.exceptions.armed; ranks = s.exceptions.ranks })

-- exception n is pending
abbrev pub pend : Registers → ℕ → Registers
pend s n = with_sets s (set_with 64 s.exceptions.pending n) s.exceptions.active

-- CurrentMode == Mode_Handler
abbrev pub handler : Registers → Bool
handler s = not (s.current == 0)

-- CurrentModeIsPrivileged()
abbrev pub privileged : Registers → Bool
privileged s = handler s || not s.control.npriv

abbrev pub right_if : Bool → Right
right_if true = Privileged
right_if false = Unprivileged

-- the right of the accesses of the current mode
abbrev pub right_of : Registers → Right
right_of s = right_if (privileged s)

-- LookUpSP(): PSP in Thread mode with SPSEL set, and else MSP
abbrev pub on_process : Registers → Bool
on_process s = s.control.spsel && not (handler s)

abbrev pub sp : Registers → ℕ
sp s = cond (on_process s) s.psp s.msp

abbrev pub with_sp : Registers → ℕ → Registers
with_sp s v = record { general = s.general; lr = s.lr; msp = cond (on_process s) s.msp (align_to v 4); psp = cond (on_process s) (align_to v 4) s.psp; pc = s.pc; flags = s.flags; thumb = s.thumb; primask = s.primask; control = s.control; current = s.current; exceptions = s.exceptions; locked = s.locked }

-- PC, as an instruction reads it
abbrev pub pc_value : Registers → ℕ
pc_value s = plus s.pc 4

-- R[n]
abbrev pub reg : Registers → ℕ → ℕ
reg s n = cond (nat_lt n 13) (slice_index s.general n) (cond (n == 13) (sp s) (cond (n == 14) s.lr (pc_value s)))

-- R[n] = v, for n below 15
abbrev pub with_reg : Registers → ℕ → ℕ → Registers
with_reg s n v =
    record { general = cond (nat_lt n 13) (slice_set s.general n v) s.general; lr = cond (n == 14) v s.lr; msp = cond (n == 13 && not (on_process s)) (align_to v 4) s.msp; psp = cond (n == 13 && on_process s) (align_to v 4) s.psp; pc = s.pc; flags = s.flags; thumb = s.thumb; primask = s.primask; control = s.control; current = s.current; exceptions = s.exceptions; locked = s.locked }

-- on to the next instruction, after one of k bytes
abbrev pub moved_on : ℕ → Registers → Registers
moved_on k s = with_pc s (plus s.pc k)

-- BranchWritePC(), ALUWritePC(): BranchTo(address<31:1>:'0')
abbrev pub branch_to : Registers → ℕ → Registers
branch_to s x = with_pc s (align_to x 2)

-- BLXWritePC(): and T is bit 0
abbrev pub interwork : Registers → ℕ → Registers
interwork s x = with_thumb (branch_to s x) (bit_of x 0)
