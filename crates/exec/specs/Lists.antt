-- One register of a list, stored or loaded; with it the address of the next.
use Rattle.std.specs.Prelude.{ℕ, Bool, true, false, Ok, Err, Result}
use Rattle.bus.specs.Program.{done}
use Rattle.bus.specs.declared.access.Right.{Right}
use Rattle.bus.specs.declared.access.Width.TheVariants.{Word}
use Rattle.bus.specs.declared.fault.Fault.{Fault}
use Rattle.word.specs.Fields.{bit_of}
use Rattle.arch.specs.Accesses.{Attempt, then, read, write}
use Rattle.arch.specs.Registers.{plus, right_of, reg, with_reg}
use Rattle.arch.specs.Transfers.{push_lr}
use Rattle.arch.specs.declared.registers.Registers.{Registers}

abbrev pub store_if : Bool → Registers → ℕ → ℕ → Attempt ℕ
store_if true s i x = then (write Word (right_of s) x (reg s i)) (λ _. done (Ok (plus x 4)))
store_if false s i x = done (Ok x)

-- R[i] to the word at x, if it is in the list
abbrev pub store_next : Registers → ℕ → ℕ → ℕ → Attempt ℕ
store_next s list i x = store_if (bit_of list i) s i x

abbrev pub load_if : Bool → Right → Registers → ℕ → ℕ → Attempt (Registers × ℕ)
load_if true right t i x = then (read Word right x) (λ v. done (Ok (with_reg t i v, plus x 4)))
load_if false right t i x = done (Ok (t, x))

-- R[i] of t from the word at x, if it is in the list
abbrev pub load_next : Right → Registers → ℕ → ℕ → ℕ → Attempt (Registers × ℕ)
load_next right t list i x = load_if (bit_of list i) right t i x

-- an address, with the registers beside it
abbrev pub loaded_to : Result ℕ Fault → Registers → Result (Registers × ℕ) Fault
loaded_to (Ok x) t = Ok (t, x)
loaded_to (Err f) t = Err f

-- LR to the word at x, if it is pushed
abbrev pub link_pushed : Bool → Registers → ℕ → Attempt (Unit {0})
link_pushed lr s x = then (push_lr lr s x) (λ _. done (Ok tt))
