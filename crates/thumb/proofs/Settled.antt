-- What a few known bits settle: which row of a table fits, by computation.
use Rattle.std.proofs.Common.{◌≡◌, ℕ, ◌/◌, ◌^◌, cond, List, [], ◌∷◌, Err, sym, refl, ap, ◌∙◌}
use mathlib.Core.Path.{fun_ext}
use Prim.Native.String.{String}
use Rattle.thumb.specs.Diagram.{Bits, bits_of, letter, agrees, spelled}
use Rattle.thumb.specs.Rows.{Row, Answer, narrow_rows, wide_rows}
use Rattle.thumb.specs.Decoded.{IsControl, answer, decoded_narrow, decoded_wide, fits, lookup, proper}
use Rattle.thumb.specs.declared.instructions.Refusal.TheVariants.{Undefined, Unpredictable}
use Rattle.thumb.proofs.Known.{Fact, above, slice, Holds, sight, sees}
use Rattle.thumb.proofs.Pieces.{joined, joins, pieces}

-- a lookup that tests the bits b and takes its fields from g
abbrev pub found : List Row → Bits → (String → List ℕ → ℕ) → Answer
found [] b g = Err Undefined
found (r ∷ rs) b g =
    cond (fits r b) (cond (proper r b) (r.means (λ l. g l r.drawn)) (Err Unpredictable)) (found rs b g)

finds : (rs : List Row) (b : Bits) → lookup rs b ≡ found rs b (λ l d. spelled (letter l) d b)
unfolding lookup
finds [] b = refl
finds (r ∷ rs) b = ap (cond (fits r b) (answer r b)) (finds rs b)

-- the answer of a table, with the bits that are known and the fields by pieces
unfoldable pub settled : List Row → List Fact → ℕ → Answer
unfolding narrow_rows wide_rows agrees
settled rs ks x = found rs (sight ks (bits_of x)) (λ l d. joined (pieces (letter l) d) x)

pub settles : (rs : List Row) (ks : List Fact) (x : ℕ) → Holds x ks → {r : Answer} → r ≡ settled rs ks x
    → r ≡ lookup rs (bits_of x)
unfolding settled
settles rs ks x h e =
    e
    ∙ sym
    (finds rs (bits_of x) ∙ ap (found rs (bits_of x)) (fun_ext λ l. fun_ext λ d. joins (letter l) d x)
    ∙ ap (λ b. found rs b (λ l d. joined (pieces (letter l) d) x)) (fun_ext λ j. sees ks x h (bits_of x) j refl))

-- the commonest case: the bits of a halfword from k up
pub by_prefix : (x k p : ℕ) → x / 2 ^ k ≡ p → {r : Answer} → r ≡ settled narrow_rows (above k p ∷ []) x
    → r ≡ decoded_narrow x
by_prefix x k p h e = settles narrow_rows (above k p ∷ []) x (h, tt) e

-- miscellaneous control: the bits from k up, and those of the second halfword that tell it from BL
abbrev pub control : ℕ → ℕ → List Fact
control k p = above k p ∷ slice 14 2 2 ∷ slice 12 1 0 ∷ []

pub held : (x k p : ℕ) → IsControl x k p → Holds x (control k p)
held x k p h = (h.prefix, (h.high, (h.low, tt)))

pub by_control : (x k p : ℕ) → IsControl x k p → {r : Answer} → r ≡ settled wide_rows (control k p) x → r ≡ decoded_wide x
by_control x k p h e = settles wide_rows (control k p) x (held x k p h) e
