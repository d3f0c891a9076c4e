-- No row of a table fits where a field has none of the values that are drawn.
use Rattle.std.proofs.Common.{◌≡◌, ℕ, zero, suc, ◌/◌, ◌%◌, ◌^◌, ◌<◌, Bool, true, false, cond, not, ◌&&◌, ◌||◌, eqb, List, [], ◌∷◌, length, Err, sym, refl, ◌∙◌, mod-lt, pow_pos, eq-eqb, eqb-true}
use Rattle.std.proofs.lemmas.Bool.{and_from, and_parts, both_ways, not-true}
use Rattle.std.proofs.lemmas.Bool.Decides.{Decides-below_and}
use Rattle.thumb.specs.Diagram.{bits_of, letter, agrees}
use Rattle.thumb.specs.Rows.{Row, narrow_rows, wide_rows}
use Rattle.thumb.specs.Decoded.{fits, answer, lookup}
use Rattle.thumb.specs.declared.instructions.Refusal.TheVariants.{Undefined}
use Rattle.thumb.proofs.Known.{Fact, slice, Holds, sight, sees}

-- the fixed bits of a diagram could be as drawn, for all that is known
possible : List Fact → List ℕ → Bool
possible ks [] = true
possible ks (c ∷ d) =
    cond (eqb c (letter "0")) (eqb (sight ks (λ _. 0) (length d)) 0)
    (cond (eqb c (letter "1")) (eqb (sight ks (λ _. 1) (length d)) 1) true)
    && possible ks d

possibly : (ks : List Fact) (x : ℕ) → Holds x ks → (d : List ℕ)
    → agrees (letter "0") (letter "1") d (bits_of x) ≡ true → possible ks d ≡ true
unfolding possible agrees
possibly ks x h [] e = refl
possibly ks x h (c ∷ d) e =
    let parts = and_parts _ (agrees (letter "0") (letter "1") d (bits_of x)) e in
    let seen : (v : ℕ) → eqb (bits_of x (length d)) v ≡ true → eqb (sight ks (λ _. v) (length d)) v ≡ true =
    λ v p. let q = eqb-true _ _ p in eq-eqb _ _ (sym (sees ks x h (λ _. v) (length d) q) ∙ q)
    in
    and_from _ _ (on (eqb c (letter "0")) (eqb c (letter "1")) (seen 0) (seen 1) parts.0) (possibly ks x h d parts.1)
  where
    on : (a b : Bool) {p q r s : Bool} → (p ≡ true → r ≡ true) → (q ≡ true → s ≡ true)
        → cond a p (cond b q true) ≡ true → cond a r (cond b s true) ≡ true
    on true b f g e = f e
    on false true f g e = g e
    on false false f g e = refl

nowhere : List Fact → List Row → Bool
nowhere ks [] = true
nowhere ks (r ∷ rs) = not (possible ks r.drawn) && nowhere ks rs

none_fits : (ks : List Fact) (x : ℕ) → Holds x ks → (rs : List Row) → nowhere ks rs ≡ true
    → lookup rs (bits_of x) ≡ Err Undefined
unfolding lookup nowhere
none_fits ks x h [] e = refl
none_fits ks x h (r ∷ rs) e =
    let parts = and_parts (not (possible ks r.drawn)) (nowhere ks rs) e in
    on (fits r (bits_of x)) (λ f. both_ways _ (not-true _ parts.0) (possibly ks x h r.drawn f))
    (none_fits ks x h rs parts.1)
  where
    on : (b : Bool) → (b ≡ true → ⊥) → lookup rs (bits_of x) ≡ Err Undefined
        → cond b (answer r (bits_of x)) (lookup rs (bits_of x)) ≡ Err Undefined
    on true f e = absurd (f refl)
    on false f e = e

every_below : ℕ → (ℕ → Bool) → Bool
every_below zero f = true
every_below (suc n) f = f n && every_below n f

each_below : (n : ℕ) (f : ℕ → Bool) → every_below n f ≡ true → (v : ℕ) → v < n → f v ≡ true
unfolding every_below
each_below n f =
    (Decides-below_and f (λ v. f v ≡ true) (λ m. every_below m f) (λ v. (λ e. e, λ e. e)) refl (λ m. refl) n).0

abbrev pub among : List ℕ → ℕ → Bool
among [] v = false
among (n ∷ ns) v = eqb v n || among ns v

-- the field has one of these values in every row that fits
unfoldable pub drawn_only : List Row → List Fact → ℕ → ℕ → List ℕ → Bool
unfolding narrow_rows wide_rows every_below nowhere possible
drawn_only rs ks from count values = every_below (2 ^ count) (λ v. among values v || nowhere (slice from count v ∷ ks) rs)

pub undefined : (rs : List Row) (ks : List Fact) (from count : ℕ) (values : List ℕ) → drawn_only rs ks from count values ≡ true
    → (x : ℕ) → Holds x ks → among values (x / 2 ^ from % 2 ^ count) ≡ false → Err Undefined ≡ lookup rs (bits_of x)
unfolding drawn_only
undefined rs ks from count values e x h a =
    let v : ℕ = x / 2 ^ from % 2 ^ count in
    let f : ℕ → Bool = λ n. among values n || nowhere (slice from count n ∷ ks) rs in
    let found : nowhere (slice from count v ∷ ks) rs ≡ true = rw a at (each_below (2 ^ count) f e v (mod-lt _ (pow_pos count))) in
    sym (none_fits (slice from count v ∷ ks) x (refl, h) rs found)
