-- Loads and stores in memory that is moved up to a base.
use Rattle.std.proofs.Common.{◌≡◌, ℕ, zero, suc, ◌+◌, ◌-◌, ◌/◌, ◌%◌, ◌≤◌, refl, ap, ◌∙◌, arith}
use mathlib.Core.Path.{fun_ext}
use Rattle.std.proofs.lemmas.Bool.Decides.{nat_tests}
use Rattle.bus.specs.Memory.{Bytes, with_byte, load, store}
use Rattle.parts.specs.Strip.{placed}

pub load_placed : (n base : ℕ) (m : Bytes) (x : ℕ) → base ≤ x → load n (placed base m) x ≡ load n m (x - base)
unfolding load
load_placed zero base m x above = refl
load_placed (suc n) base m x above =
    let first : placed base m x ≡ m (x - base) = grind (arith, nat_tests) in
    let rest = load_placed n base m (x + 1) (omega arith) in
    let next : x + 1 - base ≡ x - base + 1 = omega arith in
    let moved = ap (load n m) next in
    omega arith

pub store_placed : (n base : ℕ) (m : Bytes) (x v : ℕ) → base ≤ x → store n (placed base m) x v ≡ placed base (store n m (x - base) v)
unfolding store
store_placed zero base m x v above = refl
store_placed (suc n) base m x v above =
    let first : with_byte (placed base m) x (v % 256) ≡ placed base (with_byte m (x - base) (v % 256)) = fun_ext (λ k. grind (arith, nat_tests)) in
    let next : x + 1 - base ≡ x - base + 1 = omega arith in
    let m' : Bytes = with_byte m (x - base) (v % 256) in
    ap (λ (p : Bytes). store n p (x + 1) (v / 256)) first
    ∙ store_placed n base m' (x + 1) (v / 256) (omega arith)
    ∙ ap (λ (y : ℕ). placed base (store n m' y (v / 256))) next
