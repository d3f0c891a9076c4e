-- Some bits of x that are known, put in the place of those that x has.
use Rattle.std.proofs.Common.{◌≡◌, ℕ, ◌+◌, ◌-◌, ◌/◌, ◌%◌, ◌^◌, ◌<◌, ◌≤◌, Bool, true, false, cond, ◌&&◌, ltb, leb, List, [], ◌∷◌, sym, refl, ap, ◌∙◌, arith, shr-shr, ltb-true, leb-true}
use lib.Pow.{field, mod-mod-pow}
use Rattle.thumb.specs.Diagram.{Bits, bits_of}

-- what is known of x: all of its bits from a number up, or a field of it
pub data Fact : Type 0 where
  above : ℕ → ℕ → Fact
  slice : ℕ → ℕ → ℕ → Fact

abbrev pub Holds : ℕ → List Fact → Type 0
Holds x [] = Unit {0}
Holds x (above from value ∷ ks) = (x / 2 ^ from ≡ value) × Holds x ks
Holds x (slice from count value ∷ ks) = (x / 2 ^ from % 2 ^ count ≡ value) × Holds x ks

-- some bits, with those of x that are known in their places
abbrev pub sight : List Fact → Bits → Bits
sight [] b j = b j
sight (above from value ∷ ks) b j = cond (leb from j) (bits_of value (j - from)) (sight ks b j)
sight (slice from count value ∷ ks) b j = cond (leb from j && ltb j (from + count)) (bits_of value (j - from)) (sight ks b j)

bit_above : (x from j : ℕ) → from ≤ j → bits_of x j ≡ bits_of (x / 2 ^ from) (j - from)
bit_above x from j h =
    let e : from + (j - from) ≡ j = omega arith in
    ap (bits_of x) (sym e) ∙ ap (λ n. n % 2) (sym (shr-shr x from (j - from)))

bit_below : (y i m : ℕ) → bits_of y i ≡ bits_of (y % 2 ^ ((m + 1) + i)) i
bit_below y i m = sym (mod-mod-pow (y / 2 ^ i) m 1) ∙ ap (λ n. n % 2) (sym (field y (m + 1) i))

bit_within : (x from count j : ℕ) → from ≤ j → j < from + count
    → bits_of x j ≡ bits_of (x / 2 ^ from % 2 ^ count) (j - from)
bit_within x from count j h k =
    let e : ((count - (j - from) - 1) + 1) + (j - from) ≡ count = omega arith in
    bit_above x from j h ∙ bit_below (x / 2 ^ from) (j - from) (count - (j - from) - 1)
    ∙ ap (λ c. bits_of (x / 2 ^ from % 2 ^ c) (j - from)) e

pub sees : (ks : List Fact) (x : ℕ) → Holds x ks → (b : Bits) (j : ℕ) → bits_of x j ≡ b j → bits_of x j ≡ sight ks b j
sees [] x h b j e = e
sees (above from value ∷ ks) x h b j e = on (leb from j) refl (sees ks x h.1 b j e)
  where
    on : (a : Bool) → leb from j ≡ a → bits_of x j ≡ sight ks b j
        → bits_of x j ≡ cond a (bits_of value (j - from)) (sight ks b j)
    on false p r = r
    on true p r = bit_above x from j (leb-true _ _ p) ∙ ap (λ v. bits_of v (j - from)) h.0
sees (slice from count value ∷ ks) x h b j e = on (leb from j) refl (ltb j (from + count)) refl (sees ks x h.1 b j e)
  where
    on : (a : Bool) → leb from j ≡ a → (c : Bool) → ltb j (from + count) ≡ c → bits_of x j ≡ sight ks b j
        → bits_of x j ≡ cond (a && c) (bits_of value (j - from)) (sight ks b j)
    on false p c q r = r
    on true p false q r = r
    on true p true q r =
        bit_within x from count j (leb-true _ _ p) (ltb-true _ _ q) ∙ ap (λ v. bits_of v (j - from)) h.0
