-- Causes, kinds of parts, exceptions and refusals in words.
use Rattle.std.specs.Prelude.{ℕ, cond, List, codes, ◌==◌, nat_lt}
use Rattle.bus.specs.declared.fault.Cause.{Cause}
use Rattle.bus.specs.declared.fault.Cause.TheVariants.{Unmapped, ReadOnly, WrongWidth, Forbidden, Misaligned, Undefined, Unpredictable, Breakpoint, NotThumb, SupervisorCallTooLow, BadReturn}
use Rattle.bus.specs.declared.refusal.Refusal.{Refusal}
use Rattle.bus.specs.declared.refusal.Refusal.TheVariants.{OutOfRange, RankTooHigh, BadSetting, CoreLocked}

abbrev pub cause_words : Cause → List ℕ
cause_words Unmapped = codes "nothing there"
cause_words ReadOnly = codes "read-only"
cause_words WrongWidth = codes "panel width"
cause_words Forbidden = codes "region forbids"
cause_words Misaligned = codes "misaligned"
cause_words Undefined = codes "undefined instruction"
cause_words Unpredictable = codes "unpredictable instruction"
cause_words Breakpoint = codes "breakpoint"
cause_words NotThumb = codes "T clear"
cause_words SupervisorCallTooLow = codes "SVC too low"
cause_words BadReturn = codes "bad exception return"

-- the name of the kind of part that has this number
abbrev pub kind_name : ℕ → List ℕ
kind_name kind =
    cond (kind == 0) (codes "core")
    (cond (kind == 1) (codes "strip")
    (cond (kind == 2) (codes "panel")
    (cond (kind == 3) (codes "split")
    (cond (kind == 4) (codes "region check") (codes "unknown part")))))

-- the name of the exception that has this number; from 16 on they are external
abbrev pub exception_name : ℕ → List ℕ
exception_name number =
    cond (number == 2) (codes "NMI")
    (cond (number == 3) (codes "HardFault")
    (cond (number == 11) (codes "SVCall")
    (cond (number == 14) (codes "PendSV")
    (cond (number == 15) (codes "SysTick")
    (cond (nat_lt number 16) (codes "reserved") (codes "external"))))))

abbrev pub refusal_words : Refusal → List ℕ
refusal_words OutOfRange = codes "out of range"
refusal_words RankTooHigh = codes "rank too high"
refusal_words BadSetting = codes "bad setting"
refusal_words CoreLocked = codes "core locked"
