-- A field of a diagram as a program reads it: by pieces of neighbouring bits, each a quotient and a remainder.
use Rattle.std.proofs.Common.{◌≡◌, ℕ, ◌+◌, ◌*◌, ◌/◌, ◌%◌, ◌^◌, Bool, true, false, cond, eqb, List, [], ◌∷◌, length, sym, refl, ap, ◌∙◌, add-zero, add_assoc, mul_assoc, add-mul, arith, pow-add, shr-shr, eqb-true}
use lib.Pow.{mod-pow-add}
use Rattle.thumb.specs.Diagram.{bits_of, size, spelled}

-- one bit more, the highest, which may lengthen the first piece (from, count)
abbrev grow : ℕ → List (ℕ × ℕ) → List (ℕ × ℕ)
grow j [] = (j, 1) ∷ []
grow j (p ∷ ps) = cond (eqb (p.0 + p.1) j) ((p.0, 1 + p.1) ∷ ps) ((j, 1) ∷ p ∷ ps)

-- the pieces of a letter, the highest first
abbrev pub pieces : ℕ → List ℕ → List (ℕ × ℕ)
pieces l [] = []
pieces l (c ∷ d) = cond (eqb c l) (grow (length d) (pieces l d)) (pieces l d)

abbrev total : List (ℕ × ℕ) → ℕ
total [] = 0
total (p ∷ ps) = p.1 + total ps

abbrev pub joined : List (ℕ × ℕ) → ℕ → ℕ
joined [] x = 0
joined (p ∷ []) x = x / 2 ^ p.0 % 2 ^ p.1
joined (p ∷ q ∷ ps) x = x / 2 ^ p.0 % 2 ^ p.1 * 2 ^ total (q ∷ ps) + joined (q ∷ ps) x

-- one bit more on top of a piece
longer : (x from count : ℕ)
    → x / 2 ^ from % 2 ^ (1 + count) ≡ bits_of x (from + count) * 2 ^ count + x / 2 ^ from % 2 ^ count
longer x from count =
    mod-pow-add (x / 2 ^ from) 1 count ∙ ap (λ y. y % 2 * 2 ^ count + x / 2 ^ from % 2 ^ count) (shr-shr x from count)

extended : (x : ℕ) (p : ℕ × ℕ) (ps : List (ℕ × ℕ))
    → bits_of x (p.0 + p.1) * 2 ^ total (p ∷ ps) + joined (p ∷ ps) x ≡ joined ((p.0, 1 + p.1) ∷ ps) x
extended x p [] = rw add-zero (sym (longer x p.0 p.1))
extended x p (q ∷ ps) =
    rw (longer x p.0 p.1, pow-add 2 p.1 (total (q ∷ ps)))
    (simp (add-mul, mul_assoc, add_assoc))

grown : (x j : ℕ) (ps : List (ℕ × ℕ)) → bits_of x j * 2 ^ total ps + joined ps x ≡ joined (grow j ps) x
grown x j [] = omega arith
grown x j (p ∷ ps) = on (eqb (p.0 + p.1) j) refl
  where
    on : (b : Bool) → eqb (p.0 + p.1) j ≡ b
        → bits_of x j * 2 ^ total (p ∷ ps) + joined (p ∷ ps) x
        ≡ joined (cond b ((p.0, 1 + p.1) ∷ ps) ((j, 1) ∷ p ∷ ps)) x
    on false e = refl
    on true e = rw (← eqb-true _ _ e) (extended x p ps)

grown_total : (j : ℕ) (ps : List (ℕ × ℕ)) → 1 + total ps ≡ total (grow j ps)
grown_total j [] = refl
grown_total j (p ∷ ps) = on (eqb (p.0 + p.1) j)
  where
    on : (b : Bool) → 1 + total (p ∷ ps) ≡ total (cond b ((p.0, 1 + p.1) ∷ ps) ((j, 1) ∷ p ∷ ps))
    on false = refl
    on true = omega arith

sized : (l : ℕ) (d : List ℕ) → size l d ≡ total (pieces l d)
unfolding size
sized l [] = refl
sized l (c ∷ d) = on (eqb c l) (sized l d)
  where
    on : (b : Bool) → size l d ≡ total (pieces l d)
        → cond b (1 + size l d) (size l d) ≡ total (cond b (grow (length d) (pieces l d)) (pieces l d))
    on false e = e
    on true e = ap (λ n. 1 + n) e ∙ grown_total (length d) (pieces l d)

pub joins : (l : ℕ) (d : List ℕ) (x : ℕ) → spelled l d (bits_of x) ≡ joined (pieces l d) x
unfolding spelled
joins l [] x = refl
joins l (c ∷ d) x = on (eqb c l) (joins l d x)
  where
    on : (b : Bool) → spelled l d (bits_of x) ≡ joined (pieces l d) x
        → cond b (bits_of x (length d) * 2 ^ size l d + spelled l d (bits_of x)) (spelled l d (bits_of x))
        ≡ joined (cond b (grow (length d) (pieces l d)) (pieces l d)) x
    on false e = e
    on true e = rw (e, sized l d) (grown x (length d) (pieces l d))
