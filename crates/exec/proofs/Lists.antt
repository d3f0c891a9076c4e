-- Register lists, as the bits of a byte.
use Rattle.std.proofs.Common.{◌≡◌, ℕ, zero, suc, ◌+◌, ◌-◌, ◌/◌, ◌%◌, ◌^◌, ◌<◌, Bool, true, false, cond, eqb, List, [], ◌∷◌, length, Ok, Result, sym, refl, ap, ◌∙◌, subst, pow-suc, add-one, arith}
use native.Mathlib.Nat.{div-div-eq-div-mul}
use lib.Count.{ones, ones_step}
use Rattle.bus.specs.Made.{Makes, world}
use Rattle.bus.specs.Program.{World, done, run}
use Rattle.bus.specs.declared.access.Right.{Right}
use Rattle.bus.specs.declared.access.Width.TheVariants.{Word}
use Rattle.bus.specs.declared.fault.Fault.{Fault}
use Rattle.bus.specs.declared.interface.Bus.{Ghosts as Bus}
use Rattle.word.specs.Fields.{bit_of}
use Rattle.arch.specs.Accesses.{Attempt, then, go_on, read, write}
use Rattle.arch.specs.Registers.{plus, right_of, reg, with_reg}
use Rattle.arch.specs.Transfers.{registers_from, registers_of, store_registers, load_registers, push_lr}
use Rattle.arch.specs.declared.registers.Registers.{Registers}
use Rattle.exec.specs.Lists.{store_if, store_next, load_if, load_next, link_pushed}
use Rattle.exec.proofs.Sequence.{run_assoc, run_then}

-- the registers from i on: i itself, if it is in the list, and those after it
pub from_step : (i list : ℕ) → i < 8 → registers_from (8 - i) i list ≡ cond (bit_of list i) (i ∷ registers_from (8 - (i + 1)) (i + 1) list) (registers_from (8 - (i + 1)) (i + 1) list)
unfolding registers_from
from_step i list h = let e : 8 - i ≡ suc (8 - (i + 1)) = omega arith in rw e

-- and none from 8 on
pub from_end : (i list : ℕ) → i ≡ 8 → registers_from (8 - i) i list ≡ []
unfolding registers_from
from_end i list h = let e : 8 - i ≡ zero = omega arith in rw e

counted : (b k : ℕ) (is : List ℕ) → b < 2 → length (cond (eqb b 1) (k ∷ is) is) ≡ b + length is
counted zero k is h = omega arith
counted (suc zero) k is h = omega arith
counted (suc (suc b)) k is h = absurd (omega arith)

-- as many as there are bits
length_from : (n i list : ℕ) → list / 2 ^ i < 2 ^ n → length (registers_from n i list) ≡ ones (list / 2 ^ i)
unfolding registers_from ones
length_from zero i list h = let e : list / 2 ^ i ≡ 0 = omega arith in rw e refl
length_from (suc n) i list h =
    let q : ℕ = list / 2 ^ i in
    let half : q / 2 ≡ list / 2 ^ (i + 1) = div-div-eq-div-mul list (2 ^ i) 2 ∙ ap (λ (p : ℕ). list / p) (sym (ap (λ (k : ℕ). 2 ^ k) (add-one i) ∙ pow-suc 2 i)) in
    let rest : length (registers_from n (i + 1) list) ≡ ones (list / 2 ^ (i + 1)) = length_from n (i + 1) list (subst (λ (k : ℕ). k < 2 ^ n) half (omega (arith, pow-suc 2 n, h))) in
    counted (q % 2) i (registers_from n (i + 1) list) (omega arith) ∙ ap (λ (k : ℕ). q % 2 + k) (rest ∙ ap ones (sym half)) ∙ sym (ones_step q)

pub length_of : (list : ℕ) → list < 2 ^ 8 → length (registers_of list) ≡ ones list
length_of list h = let e : list / 2 ^ 0 ≡ list = omega arith in length_from 8 0 list (subst (λ (k : ℕ). k < 2 ^ 8) (sym e) h) ∙ ap ones e

module _ (s : Registers) (list i x : ℕ) (w : World) (h : i < 8) where
  stores : (b : Bool) (is : List ℕ) → run (store_registers s (cond b (i ∷ is) is) x) w ≡ run (then (store_if b s i x) (store_registers s is)) w
  unfolding store_registers
  stores true is = sym (run_assoc (write Word (right_of s) x (reg s i)) (λ _. done (Ok (plus x 4))) (store_registers s is) w)
  stores false is = refl

  -- the registers from i on are stored by storing i and then the others
  pub store_step : run (store_registers s (registers_from (8 - i) i list) x) w ≡ run (then (store_next s list i x) (store_registers s (registers_from (8 - (i + 1)) (i + 1) list))) w
  store_step = ap (λ is. run (store_registers s is x) w) (from_step i list h) ∙ stores (bit_of list i) (registers_from (8 - (i + 1)) (i + 1) list)

abbrev pub load_rest : Right → List ℕ → Registers × ℕ → Attempt Registers
load_rest right is at = load_registers right at.0 is at.1

module _ (right : Right) (t : Registers) (list i x : ℕ) (w : World) (h : i < 8) where
  loads : (b : Bool) (is : List ℕ) → run (load_registers right t (cond b (i ∷ is) is) x) w ≡ run (then (load_if b right t i x) (load_rest right is)) w
  unfolding load_registers
  loads true is = sym (run_assoc (read Word right x) (λ v. done (Ok (with_reg t i v, plus x 4))) (load_rest right is) w)
  loads false is = refl

  -- and loaded likewise
  pub load_step : run (load_registers right t (registers_from (8 - i) i list) x) w ≡ run (then (load_next right t list i x) (load_rest right (registers_from (8 - (i + 1)) (i + 1) list))) w
  load_step = ap (λ is. run (load_registers right t is x) w) (from_step i list h) ∙ loads (bit_of list i) (registers_from (8 - (i + 1)) (i + 1) list)

-- what comes after LR is pushed does not look at the address above it
pub link_then : {B : Type 0} (lr : Bool) (s : Registers) (x : ℕ) (next : Unit {0} → Attempt B) (w w' : World) (r : Result (Unit {0}) Fault) → run (link_pushed lr s x) w ≡ (r, w') → run (then (push_lr lr s x) (λ _. next tt)) w ≡ run (go_on next r) w'
link_then lr s x next w w' r e = sym (run_assoc (push_lr lr s x) (λ _. done (Ok tt)) next w) ∙ run_then (link_pushed lr s x) next w w' r e

-- and so it is of what is made of a bus
pub link_makes : {S B : Type 0} {bus : Bus S} {old new : S} {r : Result B Fault} (lr : Bool) (s : Registers) (x : ℕ) (next : Unit {0} → Attempt B) → Makes bus old new (then (link_pushed lr s x) next) r → Makes bus old new (then (push_lr lr s x) (λ _. next tt)) r
link_makes {bus} {old} lr s x next made = record { runs = sym (run_assoc (push_lr lr s x) (λ _. done (Ok tt)) next (world bus old)) ∙ made.runs; settled = made.settled }
