-- Laws of loading and storing, over the number of bytes.
use Rattle.std.proofs.Common.{◌≡◌, ℕ, zero, suc, ◌+◌, ◌-◌, ◌/◌, ◌%◌, ◌^◌, ◌<◌, Bool, true, false, cond, ◌⊎◌, sym, refl, ap, ◌∙◌, inl, inr, add-zero, pow-suc, div-one, arith, lit<}
use mathlib.Core.Path.{fun_ext}
use native.Mathlib.Nat.{div-div-eq-div-mul, pow-zero, pow-succ', one-le-pow}
use lib.Arith.{mod-mul}
use Rattle.std.proofs.lemmas.Bool.{cases_order}
use Rattle.std.proofs.lemmas.Bool.Decides.{nat_tests}
use Rattle.bus.specs.Access.{within}
use Rattle.bus.specs.Memory.{Bytes, with_byte, load, store}

-- n bytes make a number below 256 ^ n
pub load_below : (m : Bytes) → ((x : ℕ) → m x < 256) → (n x : ℕ) → load n m x < 256 ^ n
unfolding load
load_below m byte zero x = omega arith
load_below m byte (suc n) x = omega (arith, byte x, load_below m byte n (x + 1), pow-succ' 256 n)

div_next : (v i : ℕ) → v / 256 / 256 ^ i ≡ v / 256 ^ suc i
div_next v i = div-div-eq-div-mul v 256 (256 ^ i) ∙ ap (λ k. v / k) (sym (pow-succ' 256 i))

-- a store puts the i-th byte of v at x + i, and leaves every other byte
pub store_byte : (n : ℕ) (m : Bytes) (x v y : ℕ) → store n m x v y ≡ cond (within x n y) (v / 256 ^ (y - x) % 256) (m y)
unfolding store
store_byte zero m x v y = let outside : within x 0 y ≡ false = grind (arith, nat_tests) in rw outside
store_byte (suc n) m x v y = store_byte n (with_byte m x (v % 256)) (x + 1) (v / 256) y ∙ next (cases_order y x)
  where
    next : (y ≡ x) ⊎ ((y < x) ⊎ (x < y)) → cond (within (x + 1) n y) (v / 256 / 256 ^ (y - (x + 1)) % 256) (with_byte m x (v % 256) y) ≡ cond (within x (suc n) y) (v / 256 ^ (y - x) % 256) (m y)
    next (inl here) =
        let none : y - x ≡ 0 = omega arith in
        let lowest : v / 256 ^ (y - x) % 256 ≡ v % 256 = rw (none, pow-zero, div-one) in
        grind (arith, nat_tests)
    next (inr (inl below)) = grind (arith, nat_tests)
    next (inr (inr above)) =
        let one_more : suc (y - (x + 1)) ≡ y - x = omega arith in
        let same : v / 256 / 256 ^ (y - (x + 1)) ≡ v / 256 ^ (y - x) = div_next v (y - (x + 1)) ∙ ap (λ k. v / 256 ^ k) one_more in
        grind (arith, nat_tests)

-- a store leaves each byte that it does not cover
pub store_outside : (n : ℕ) (m : Bytes) (x v y : ℕ) → within x n y ≡ false → store n m x v y ≡ m y
store_outside n m x v y outside = rw (store_byte n m x v y, outside)

-- n bytes that are the bytes of v make v, as far as it fits
pub load_bytes : (n : ℕ) (m : Bytes) (x v : ℕ) → ((i : ℕ) → i < n → m (x + i) ≡ v / 256 ^ i % 256) → load n m x ≡ v % 256 ^ n
unfolding load
load_bytes zero m x v bytes = omega arith
load_bytes (suc n) m x v bytes =
    let first : m x ≡ v % 256 = ap m (sym (add-zero x)) ∙ bytes 0 (omega arith) ∙ rw (pow-zero, div-one) in
    let rest = load_bytes n m (x + 1) (v / 256) (λ i below. ap m (omega arith) ∙ bytes (suc i) (omega arith) ∙ ap (λ k. k % 256) (sym (div_next v i))) in
    let digits = ap (λ k. v % k) (pow-suc 256 n) ∙ mod-mul v (one-le-pow n 256 (lit< tt)) (lit< tt) in
    omega arith

-- what is loaded where it was stored is the value, as far as it fits
pub load_store : (n : ℕ) (m : Bytes) (x v : ℕ) → load n (store n m x v) x ≡ v % 256 ^ n
load_store n m x v = load_bytes n (store n m x v) x v (λ i below.
    let covered : within x n (x + i) ≡ true = grind (arith, nat_tests) in
    let nth : x + i - x ≡ i = omega arith in
    rw (store_byte n m x v (x + i), covered, nth))

-- memories that agree where a load looks give it the same
pub load_agree : (n : ℕ) (m m' : Bytes) (x : ℕ) → ((y : ℕ) → within x n y ≡ true → m y ≡ m' y) → load n m x ≡ load n m' x
unfolding load
load_agree zero m m' x agree = refl
load_agree (suc n) m m' x agree =
    let first = agree x (grind (arith, nat_tests)) in
    let rest = load_agree n m m' (x + 1) (λ y inside. agree y (grind (arith, nat_tests))) in
    omega arith

-- a store is the memory that has the bytes of v where it covers, and m elsewhere
pub store_unique : (n : ℕ) (m m' : Bytes) (x v : ℕ) → ((y : ℕ) → within x n y ≡ true → m' y ≡ v / 256 ^ (y - x) % 256) → ((y : ℕ) → within x n y ≡ false → m' y ≡ m y) → m' ≡ store n m x v
store_unique n m m' x v covered outside = fun_ext (λ y. go y (within x n y) refl ∙ sym (store_byte n m x v y))
  where
    go : (y : ℕ) (b : Bool) → within x n y ≡ b → m' y ≡ cond b (v / 256 ^ (y - x) % 256) (m y)
    go y true e = covered y e
    go y false e = outside y e
