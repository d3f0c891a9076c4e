-- Loads and stores.
use Rattle.std.specs.Prelude.{ℕ, zero, suc, ◌+◌, ◌*◌, ◌%◌, ◌^◌, Bool, true, false, cond, List, [], ◌∷◌, length, Ok}
use Rattle.bus.specs.Program.{done}
use Rattle.bus.specs.declared.access.Right.{Right}
use Rattle.bus.specs.declared.access.Width.{Width}
use Rattle.bus.specs.declared.access.Width.TheVariants.{Byte, Half, Word}
use Rattle.word.specs.Addresses.{align_to}
use Rattle.word.specs.Extend.{sign_extend}
use Rattle.word.specs.Fields.{bit_of}
use Rattle.word.specs.Sums.{one_if}
use Rattle.thumb.specs.declared.instructions.Address.{Address}
use Rattle.thumb.specs.declared.instructions.Address.TheVariants.{Indexed, Offset, Literal}
use Rattle.thumb.specs.declared.instructions.Multiple.{Multiple}
use Rattle.thumb.specs.declared.instructions.Multiple.TheVariants.{Stm, Ldm, Push, Pop}
use Rattle.thumb.specs.declared.instructions.Transfer.{Transfer}
use Rattle.thumb.specs.declared.instructions.Transfer.TheVariants.{Str, Strh, Strb, Ldrsb, Ldr, Ldrh, Ldrb, Ldrsh}
use Rattle.arch.specs.Accesses.{Attempt, then, read, write}
use Rattle.arch.specs.Branches.{Done, ran, bx_write_pc}
use Rattle.arch.specs.Registers.{plus, minus, right_of, sp, with_sp, pc_value, reg, with_reg, moved_on}
use Rattle.arch.specs.declared.registers.Registers.{Registers}

-- the address of a load or a store
abbrev pub address_of : Address → Registers → ℕ
address_of (Indexed n m) s = plus (reg s n) (reg s m)
address_of (Offset n imm) s = plus (reg s n) imm
address_of (Literal imm) s = plus (align_to (pc_value s) 4) imm

-- R[t] = what is read at x, made a word of
abbrev pub loading : Width → (ℕ → ℕ) → Registers → ℕ → ℕ → Attempt Done
loading width extend s t x = then (read width (right_of s) x) (λ v. done (Ok (ran (moved_on 2 (with_reg s t (extend v))))))

-- what is stored at x: the low bytes of R[t]
abbrev pub storing : Width → Registers → ℕ → ℕ → Attempt Done
storing width s t x = then (write width (right_of s) x (reg s t)) (λ _. done (Ok (ran (moved_on 2 s))))

abbrev pub transfer : Transfer → ℕ → ℕ → Registers → Attempt Done
transfer Str t x s = storing Word s t x
transfer Strh t x s = storing Half s t x
transfer Strb t x s = storing Byte s t x
transfer Ldrsb t x s = loading Byte (λ v. sign_extend 8 32 (v % 2 ^ 8)) s t x
transfer Ldr t x s = loading Word (λ v. v) s t x
transfer Ldrh t x s = loading Half (λ v. v) s t x
transfer Ldrb t x s = loading Byte (λ v. v) s t x
transfer Ldrsh t x s = loading Half (λ v. sign_extend 16 32 (v % 2 ^ 16)) s t x

-- the registers of a list from i on, as many as are left, the lowest first
unfoldable pub registers_from : ℕ → ℕ → ℕ → List ℕ
registers_from zero i list = []
registers_from (suc n) i list = cond (bit_of list i) (i ∷ registers_from n (i + 1) list) (registers_from n (i + 1) list)

abbrev pub registers_of : ℕ → List ℕ
registers_of list = registers_from 8 0 list

-- R[i] to the words from x upward, for each register of the list; the address after them
unfoldable pub store_registers : Registers → List ℕ → ℕ → Attempt ℕ
store_registers s [] x = done (Ok x)
store_registers s (i ∷ is) x = then (write Word (right_of s) x (reg s i)) (λ _. store_registers s is (plus x 4))

-- R[i] of t from the words from x upward, read with this right
unfoldable pub load_registers : Right → Registers → List ℕ → ℕ → Attempt Registers
load_registers right t [] x = done (Ok t)
load_registers right t (i ∷ is) x = then (read Word right x) (λ v. load_registers right (with_reg t i v) is (plus x 4))

-- the bytes of the words of a list
abbrev pub span : ℕ → ℕ
span list = 4 * length (registers_of list)

-- LR goes above the other registers
abbrev pub push_lr : Bool → Registers → ℕ → Attempt ℕ
push_lr true s x = write Word (right_of s) x s.lr
push_lr false s x = done (Ok x)

-- PC from the word at x, if it is popped, read with this right; SP has moved when it is written
abbrev pub pop_pc_with : Bool → Right → Registers → ℕ → Attempt Done
pop_pc_with true right t x = then (read Word right x) (λ v. bx_write_pc (with_sp t (plus x 4)) v)
pop_pc_with false right t x = done (Ok (ran (moved_on 2 (with_sp t x))))

-- PC is above the other registers, and read with the right of those before
abbrev pub pop_pc : Bool → Registers → Registers → ℕ → Attempt Done
pop_pc b s t x = pop_pc_with b (right_of s) t x

abbrev pub multiple : Multiple → Registers → Attempt Done
multiple (Stm n list) s =
    then (store_registers s (registers_of list) (reg s n)) (λ _. done (Ok (ran (moved_on 2 (with_reg s n (plus (reg s n) (span list)))))))
multiple (Ldm n list) s =
    then (load_registers (right_of s) (with_reg s n (plus (reg s n) (span list))) (registers_of list) (reg s n)) (λ t. done (Ok (ran (moved_on 2 t))))
multiple (Push list lr) s =
    let base : ℕ = minus (sp s) (span list + 4 * one_if lr) in
    then (store_registers s (registers_of list) base) (λ x. then (push_lr lr s x) (λ _. done (Ok (ran (moved_on 2 (with_sp s base))))))
multiple (Pop list pc) s =
    then (load_registers (right_of s) s (registers_of list) (sp s)) (λ t. pop_pc pc s t (plus (sp s) (span list)))
