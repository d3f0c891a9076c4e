-- No two rows of a table overlap, so that the order of the rows does not matter.
use Rattle.std.proofs.Common.{◌≡◌, ℕ, ◌+◌, ◌*◌, ◌^◌, Bool, true, false, cond, ◌&&◌, ◌||◌, eqb, List, [], ◌∷◌, length, Err, MatchBool, refl, inl, inr, arith}
use Rattle.std.proofs.lemmas.Bool.{and_parts, both_ways, or_cases}
use Rattle.std.proofs.lemmas.Bool.Decides.{nat_tests}
use Rattle.std.specs.List.{AllByRecursion}
use Rattle.thumb.specs.Diagram.{Bits, bits_of, letter, agrees}
use Rattle.thumb.specs.Rows.{Row, Answer, narrow_rows, wide_rows}
use Rattle.thumb.specs.Decoded.{decoded, decoded_narrow, decoded_wide, fits, answer, lookup, wide_first}
use Rattle.thumb.specs.Laws.{Apart, Told, ToldByItsTable}
use Rattle.thumb.specs.declared.instructions.Refusal.TheVariants.{Undefined}

-- some bit is drawn 0 in one diagram and 1 in the other
clash : List ℕ → List ℕ → Bool
clash [] e = false
clash (c ∷ d) [] = false
clash (c ∷ d) (k ∷ e) =
    (eqb (length d) (length e)
    && ((eqb c (letter "0") && eqb k (letter "1")) || (eqb c (letter "1") && eqb k (letter "0"))))
    || clash d e

here : (c k i j : ℕ) (b : Bits)
    → (eqb i j && ((eqb c (letter "0") && eqb k (letter "1")) || (eqb c (letter "1") && eqb k (letter "0")))) ≡ true
    → cond (eqb c (letter "0")) (eqb (b i) 0) (cond (eqb c (letter "1")) (eqb (b i) 1) true) ≡ true
    → cond (eqb k (letter "0")) (eqb (b j) 0) (cond (eqb k (letter "1")) (eqb (b j) 1) true) ≡ true → ⊥
here c k i j b p q r = grind (arith, nat_tests)

clashes : (d e : List ℕ) (b : Bits) → clash d e ≡ true → agrees (letter "0") (letter "1") d b ≡ true
    → agrees (letter "0") (letter "1") e b ≡ true → ⊥
unfolding clash agrees
clashes [] e b p q r = both_ways _ refl p
clashes (c ∷ d) [] b p q r = both_ways _ refl p
clashes (c ∷ d) (k ∷ e) b p q r =
    let q' = and_parts _ (agrees (letter "0") (letter "1") d b) q in
    let r' = and_parts _ (agrees (letter "0") (letter "1") e b) r in
    elim (or_cases _ (clash d e) p)
    [ inl h ↦ here c k (length d) (length e) b h q'.0 r'.0 | inr h ↦ clashes d e b h q'.1 r'.1 ]

-- the rest of a table clashes with a row
clash_all : Row → List Row → Bool
clash_all r [] = true
clash_all r (s ∷ rs) = clash r.drawn s.drawn && clash_all r rs

clash_pairs : List Row → Bool
clash_pairs [] = true
clash_pairs (r ∷ rs) = clash_all r rs && clash_pairs rs

apart_from : (r : Row) (rs : List Row) → clash_all r rs ≡ true
    → AllByRecursion (λ s. (b : Bits) → fits r b ≡ true → fits s b ≡ true → ⊥) rs
unfolding clash_all
apart_from r [] h = tt
apart_from r (s ∷ rs) h =
    let h' = and_parts (clash r.drawn s.drawn) (clash_all r rs) h in
    (λ b. clashes r.drawn s.drawn b h'.0, apart_from r rs h'.1)

apart : (rs : List Row) → clash_pairs rs ≡ true → Apart rs
unfolding clash_pairs
apart [] h = tt
apart (r ∷ rs) h =
    let h' = and_parts (clash_all r rs) (clash_pairs rs) h in
    (apart_from r rs h'.0, apart rs h'.1)

pub narrow_apart : Apart narrow_rows
unfolding narrow_rows clash clash_all clash_pairs
narrow_apart = apart narrow_rows refl

pub wide_apart : Apart wide_rows
unfolding wide_rows clash clash_all clash_pairs
wide_apart = apart wide_rows refl

-- what a row of the rest says, where no earlier row fits
later : (r : Row) (rs : List Row) (b : Bits) (ss : List Row)
    → AllByRecursion (λ s. (b : Bits) → fits r b ≡ true → fits s b ≡ true → ⊥) ss
    → AllByRecursion (λ s. fits s b ≡ true → lookup rs b ≡ answer s b) ss
    → AllByRecursion (λ s. fits s b ≡ true → lookup (r ∷ rs) b ≡ answer s b) ss
unfolding lookup
later r rs b [] h k = tt
later r rs b (s ∷ ss) h k = (λ f. on (fits r b) (λ e. h.0 b e f) (k.0 f), later r rs b ss h.1 k.1)
  where
    on : (t : Bool) → (t ≡ true → ⊥) → lookup rs b ≡ answer s b → cond t (answer r b) (lookup rs b) ≡ answer s b
    on true n e = absurd (n refl)
    on false n e = e

fitting : (rs : List Row) (b : Bits) → Apart rs → AllByRecursion (λ s. fits s b ≡ true → lookup rs b ≡ answer s b) rs
unfolding lookup
fitting [] b h = tt
fitting (r ∷ rs) b h = (λ f. rw f, later r rs b rs h.0 (fitting rs b h.1))

otherwise : (rs : List Row) (b : Bits) → AllByRecursion (λ s. fits s b ≡ false) rs → lookup rs b ≡ Err Undefined
unfolding lookup
otherwise [] b h = refl
otherwise (r ∷ rs) b h = rw h.0 (otherwise rs b h.1)

told : (rs : List Row) → Apart rs → (b : Bits) → Told rs b (lookup rs b)
told rs h b = record { fitting = fitting rs b h; otherwise = otherwise rs b }

-- the answer for two halfwords, by the table that they belong to
pub told_by_its_table : (first second : ℕ) (r : Answer) → r ≡ decoded first second → ToldByItsTable first second r
told_by_its_table first second r e = rw e (on (wide_first first) (first * 2 ^ 16 + second))
  where
    on : (b : Bool) (x : ℕ)
        → MatchBool b (Told wide_rows (bits_of x) (cond b (decoded_wide x) (decoded_narrow first)))
        (Told narrow_rows (bits_of first) (cond b (decoded_wide x) (decoded_narrow first)))
    on true x = told wide_rows wide_apart (bits_of x)
    on false x = told narrow_rows narrow_apart (bits_of first)
