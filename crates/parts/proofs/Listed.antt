-- Loads and stores in memory that is a list of bytes.
use Rattle.std.proofs.Common.{◌≡◌, ℕ, zero, suc, ◌+◌, ◌*◌, ◌/◌, ◌%◌, ◌<◌, ◌≤◌, List, length, set, refl, ap, ◌∙◌, add_assoc, arith, length-set, get_or-set_other, get_or-set_same}
use mathlib.Core.Path.{fun_ext}
use Rattle.std.proofs.lemmas.Bool.{cases_eq}
use Rattle.std.proofs.lemmas.Bool.Decides.{nat_tests}
use Rattle.bus.specs.Memory.{Bytes, with_byte, load, store}
use Rattle.parts.specs.Strip.{listed}

-- the lowest n bytes of v put into a list from i on
abbrev pub put : ℕ → List ℕ → ℕ → ℕ → List ℕ
put zero xs i v = xs
put (suc n) xs i v = put n (set xs i (v % 256)) (i + 1) (v / 256)

listed_set : (xs : List ℕ) (i b : ℕ) → i < length xs → listed (set xs i (b % 256)) ≡ with_byte (listed xs) i (b % 256)
listed_set xs i b within = fun_ext (λ k. grind (arith, nat_tests, get_or-set_same, get_or-set_other, cases_eq k i))

pub listed_put : (n : ℕ) (xs : List ℕ) (i v : ℕ) → i + n ≤ length xs → listed (put n xs i v) ≡ store n (listed xs) i v
unfolding store
listed_put zero xs i v within = refl
listed_put (suc n) xs i v within =
    let inside : i + 1 + n ≤ length (set xs i (v % 256)) = simp length-set (omega arith) in
    listed_put n (set xs i (v % 256)) (i + 1) (v / 256) inside ∙ ap (λ (m : Bytes). store n m (i + 1) (v / 256)) (listed_set xs i v (omega arith))

-- a word, byte by byte
pub load_word : (m : Bytes) (x : ℕ) → load 4 m x ≡ m x + 256 * (m (x + 1) + 256 * (m (x + 2) + 256 * m (x + 3)))
unfolding load
load_word m x = simp add_assoc (omega arith)

pub put_word : (xs : List ℕ) (i v : ℕ) → set (set (set (set xs i (v % 256)) (i + 1) (v / 256 % 256)) (i + 2) (v / 65536 % 256)) (i + 3) (v / 16777216 % 256) ≡ put 4 xs i v
put_word xs i v =
    let third : i + 1 + 1 ≡ i + 2 = omega arith in
    let fourth : i + 1 + 1 + 1 ≡ i + 3 = omega arith in
    let high : v / 256 / 256 ≡ v / 65536 = omega arith in
    let top : v / 256 / 256 / 256 ≡ v / 16777216 = omega arith in
    cc
