-- Sums that are held at the greatest count.
use Rattle.std.specs.Prelude.{◌≡◌, ℕ, ◌+◌, ◌≤◌, max, Bool, true, false, nat_le, refl}
use Rattle.std.proofs.Common.{sym, ap, ◌∙◌, arith, leb-true, leb-false}
use Rattle.std.proofs.Math.Nat.{max_comm}
use Rattle.runs.specs.Counts.{top, held}

pub held_left : (x : ℕ) → held 0 x ≡ x
held_left x = omega arith

pub held_right : (x : ℕ) → held x 0 ≡ x
held_right x = omega arith

pub held_comm : (x y : ℕ) → held x y ≡ held y x
held_comm x y = omega arith

small : (x y : ℕ) → x + y ≤ top → held x y ≡ x + y
small x y h = omega arith

large : (x y : ℕ) → top ≤ x + y → held x y ≡ max top (max x y)
large x y h = omega arith

max_assoc : (x y z : ℕ) → max (max x y) z ≡ max x (max y z)
max_assoc x y z = omega arith

above : (x y : ℕ) → max top (held x y) ≡ max top (max x y)
above x y = omega arith

lifts : (x y z : ℕ) → top ≤ x + (y + z) → top ≤ held x y + z
lifts x y z h = omega arith

-- of three numbers, where the sum is held
three : (x y z : ℕ) → top ≤ x + (y + z) → held (held x y) z ≡ max top (max (max x y) z)
three x y z h =
    large (held x y) z (lifts x y z h) ∙ sym (max_assoc top (held x y) z) ∙ ap (λ n. max n z) (above x y) ∙ max_assoc top (max x y) z

assoc_if : (b : Bool) (x y z : ℕ) → nat_le (x + (y + z)) top ≡ b → held (held x y) z ≡ held x (held y z)
assoc_if true x y z e =
    let within : x + (y + z) ≤ top = leb-true _ _ e in
    ap (λ n. held n z) (small x y (omega arith)) ∙ small (x + y) z (omega arith) ∙ (omega arith) ∙ sym (small x (y + z) within) ∙ ap (held x) (sym (small y z (omega arith)))
assoc_if false x y z e =
    let beyond : top ≤ x + (y + z) = omega (arith, leb-false _ _ e) in
    three x y z beyond
    ∙ ap (max top) (max_assoc x y z ∙ max_comm x (max y z))
    ∙ sym (three y z x (omega arith))
    ∙ held_comm (held y z) x

pub held_assoc : (x y z : ℕ) → held (held x y) z ≡ held x (held y z)
held_assoc x y z = assoc_if (nat_le (x + (y + z)) top) x y z refl
