-- Every register that a row names is below 16, and every list is one of eight registers and not empty.
use Rattle.std.proofs.Common.{◌≡◌, ℕ, ◌+◌, ◌*◌, ◌^◌, ◌<◌, Bool, true, false, cond, ◌&&◌, ◌||◌, eqb, leb, List, [], ◌∷◌, length, Some, None, Ok, Err, Option, sym, refl, ◌∙◌, subst, lt_of_lt_of_le, mod-lt, mul_comm, arith, lit<, pow_mono, pow-add, leb-true}
use Prim.Native.String.{String}
use Rattle.std.proofs.lemmas.Nat.{mul-add-lt}
use Rattle.std.proofs.lemmas.Bool.{and_parts}
use Rattle.std.proofs.lemmas.Bool.Decides.{nat_tests}
use Rattle.std.specs.List.{AllByRecursion}
use Rattle.thumb.specs.Diagram.{Bits, bits_of, letter, size, spelled, agrees}
use Rattle.thumb.specs.Rows.{Row, Answer, Fields, chosen, special_access, unless, narrow_rows, wide_rows}
use Rattle.thumb.specs.Decoded.{decoded, decoded_narrow, decoded_wide, fits, lookup, wide_first}
use Rattle.thumb.specs.Operands.{listed, special_registers}
use Rattle.thumb.specs.Laws.{OperandsStand, registers, InstructionLists}
use Rattle.thumb.specs.declared.instructions.Instruction.{Instruction}
use Rattle.thumb.specs.declared.instructions.Instruction.TheVariants.{Basic, System}
use Rattle.thumb.specs.declared.instructions.Basic.TheVariants as basic
use Rattle.thumb.specs.declared.instructions.SpecialRegister.{SpecialRegister}
use Rattle.thumb.specs.declared.instructions.System.{System as SystemOp}
use Rattle.thumb.specs.declared.instructions.Refusal.TheVariants.{Unpredictable}

abbrev Binary : Bits → Type 0
Binary b = (j : ℕ) → b j < 2

below : (l : ℕ) (d : List ℕ) (b : Bits) → Binary b → spelled l d b < 2 ^ size l d
unfolding spelled size
below l [] b h = lit< tt
below l (c ∷ d) b h = on (eqb c l) (below l d b h)
  where
    on : (t : Bool) → spelled l d b < 2 ^ size l d
        → cond t (b (length d) * 2 ^ size l d + spelled l d b) (spelled l d b) < 2 ^ cond t (1 + size l d) (size l d)
    on false k = k
    on true k =
        subst (λ n. b (length d) * 2 ^ size l d + spelled l d b < n) (mul_comm (2 ^ size l d) 2 ∙ sym (pow-add 2 1 (size l d)))
        (mul-add-lt _ _ _ 2 (h (length d)) k)

-- the letters of registers, lists and their extra bits, and how many bits each may have
abbrev bounds : List (String × ℕ)
bounds = ("d", 4) ∷ ("n", 4) ∷ ("m", 4) ∷ ("t", 4) ∷ ("l", 8) ∷ ("M", 1) ∷ ("P", 1) ∷ []

within : List ℕ → List (String × ℕ) → Bool
within drawn [] = true
within drawn (p ∷ ps) = leb (size (letter p.0) drawn) p.1 && within drawn ps

abbrev Small : Fields → List (String × ℕ) → Type 0
Small f = AllByRecursion (λ p. f p.0 < 2 ^ p.1)

smalls : (drawn : List ℕ) (b : Bits) → Binary b → (ps : List (String × ℕ)) → within drawn ps ≡ true
    → Small (λ l. spelled (letter l) drawn b) ps
unfolding within
smalls drawn b h [] e = tt
smalls drawn b h (p ∷ ps) e =
    let e' = and_parts _ (within drawn ps) e in
    (lt_of_lt_of_le (below (letter p.0) drawn b h) (pow_mono (leb-true _ _ e'.0)), smalls drawn b h ps e'.1)

-- what a row means stands, whatever its small fields are
abbrev Stands : Row → Type 0
Stands r = (f : Fields) → Small f bounds → OperandsStand (r.means f)

-- the fields of registers, as the rows name them
d : (f : Fields) → Small f bounds → AllByRecursion (λ k. k < 16) (f "d" ∷ []) × Unit {0}
d f s = ((s.0, tt), tt)

n : (f : Fields) → Small f bounds → AllByRecursion (λ k. k < 16) (f "n" ∷ []) × Unit {0}
n f s = ((s.1.0, tt), tt)

m : (f : Fields) → Small f bounds → AllByRecursion (λ k. k < 16) (f "m" ∷ []) × Unit {0}
m f s = ((s.1.1.0, tt), tt)

d_m : (f : Fields) → Small f bounds → AllByRecursion (λ k. k < 16) (f "d" ∷ f "m" ∷ []) × Unit {0}
d_m f s = ((s.0, (s.1.1.0, tt)), tt)

d_n : (f : Fields) → Small f bounds → AllByRecursion (λ k. k < 16) (f "d" ∷ f "n" ∷ []) × Unit {0}
d_n f s = ((s.0, (s.1.0, tt)), tt)

n_m : (f : Fields) → Small f bounds → AllByRecursion (λ k. k < 16) (f "n" ∷ f "m" ∷ []) × Unit {0}
n_m f s = ((s.1.0, (s.1.1.0, tt)), tt)

d_n_m : (f : Fields) → Small f bounds → AllByRecursion (λ k. k < 16) (f "d" ∷ f "n" ∷ f "m" ∷ []) × Unit {0}
d_n_m f s = ((s.0, (s.1.0, (s.1.1.0, tt))), tt)

t : (f : Fields) → Small f bounds → AllByRecursion (λ k. k < 16) (f "t" ∷ []) × Unit {0}
t f s = ((s.1.1.1.0, tt), tt)

t_n : (f : Fields) → Small f bounds → AllByRecursion (λ k. k < 16) (f "t" ∷ f "n" ∷ []) × Unit {0}
t_n f s = ((s.1.1.1.0, (s.1.0, tt)), tt)

t_n_m : (f : Fields) → Small f bounds → AllByRecursion (λ k. k < 16) (f "t" ∷ f "n" ∷ f "m" ∷ []) × Unit {0}
t_n_m f s = ((s.1.1.1.0, (s.1.0, (s.1.1.0, tt))), tt)

guarded : (b : Bool) (i : Instruction) → (b ≡ false → AllByRecursion (λ n. n < 16) (registers i) × InstructionLists i) → OperandsStand (unless b i)
guarded true i h = tt
guarded false i h = h refl

infixr 20 ◌&◌
◌&◌ : {A B : Type 0} → A → B → A × B
◌&◌ a b = (a, b)

-- the two instructions of the first row
either : (b : Bool) (d m i : ℕ) → AllByRecursion (λ k. k < 16) (d ∷ m ∷ []) → OperandsStand (Ok (Basic (cond b (basic.Mov d m) (basic.Lsl d m i))))
either true d m i h = (h, tt)
either false d m i h = (h, tt)

-- an instruction that names no register
none : (f : Fields) → Small f bounds → Unit {0} × Unit {0}
none f s = (tt, tt)

-- a load or a store beside SP
t_sp : (f : Fields) → Small f bounds → AllByRecursion (λ k. k < 16) (f "t" ∷ 13 ∷ []) × Unit {0}
t_sp f s = ((s.1.1.1.0, (lit< tt, tt)), tt)

narrow_stand : AllByRecursion Stands narrow_rows
unfolding narrow_rows
narrow_stand =
    -- shift (immediate), add, subtract, move, and compare
    (λ f s. either (eqb (f "i") 0) (f "d") (f "m") (f "i") (d_m f s).0)
    & d_m & d_m & d_n_m & d_n_m & d_n & d_n & d & n & d & d
    -- data processing
    & d_m & d_m & d_m & d_m & d_m & d_m & d_m & d_m & n_m & d_n & n_m & n_m & d_m & d_n & d_m & d_m
    -- special data instructions and branch and exchange
    & (λ f s. guarded _ _ λ _. d_m f s) & (λ f s. guarded _ _ λ _. n_m f s) & d_m & (λ f s. guarded _ _ λ _. m f s) & (λ f s. guarded _ _ λ _. m f s)
    -- loads and stores
    & t & t_n_m & t_n_m & t_n_m & t_n_m & t_n_m & t_n_m & t_n_m & t_n_m & t_n & t_n & t_n & t_n & t_n & t_n & t_sp & t_sp
    -- addresses, and miscellaneous 16-bit instructions
    & d & d & none & none & d_m & d_m & d_m & d_m
    & (λ f s. guarded _ _ λ e. (tt, (s.1.1.1.1.0, λ z. grind (arith, nat_tests)))) & none & d_m & d_m & d_m
    & (λ f s. guarded _ _ λ e. (tt, (s.1.1.1.1.0, λ z. grind (arith, nat_tests)))) & none & none
    -- multiple registers, and branches
    & (λ f s. guarded _ _ λ e. ((n f s).0, (s.1.1.1.1.0, λ z. grind (arith, nat_tests))))
    & (λ f s. guarded _ _ λ e. ((n f s).0, (s.1.1.1.1.0, λ z. grind (arith, nat_tests))))
    & none & none & none & none & none & none & none & none & none & none & none & none & none & none & none & none & none & tt

-- MSR and MRS
accessed : (d sysm : ℕ) (make : SpecialRegister → SystemOp) → ((s : SpecialRegister) → OperandsStand (Ok (System (make s))))
    → OperandsStand (special_access d sysm make)
accessed d sysm make h = on (eqb d 13 || eqb d 15) (listed special_registers sysm)
  where
    on : (b : Bool) (o : Option SpecialRegister) → OperandsStand (cond b (Err Unpredictable) (chosen o make))
    on true o = tt
    on false None = tt
    on false (Some s) = h s

wide_stand : AllByRecursion Stands wide_rows
unfolding wide_rows
wide_stand =
    none & (λ f s. accessed (f "n") (f "s") _ λ _. n f s) & (λ f s. accessed (f "d") (f "s") _ λ _. d f s)
    & none & none & none & none & tt

rows_within : List Row → Bool
rows_within [] = true
rows_within (r ∷ rs) = within r.drawn bounds && rows_within rs

found_stands : (b : Bits) → Binary b → (rs : List Row) → rows_within rs ≡ true → AllByRecursion Stands rs → OperandsStand (lookup rs b)
unfolding lookup rows_within
found_stands b h [] e k = tt
found_stands b h (r ∷ rs) e k =
    let e' = and_parts (within r.drawn bounds) (rows_within rs) e in
    on (fits r b) (agrees (letter "z") (letter "w") r.drawn b) _ _
    (k.0 (λ l. spelled (letter l) r.drawn b) (smalls r.drawn b h bounds e'.0))
    (found_stands b h rs e'.1 k.1)
  where
    on : (f p : Bool) (i j : Answer) → OperandsStand i → OperandsStand j → OperandsStand (cond f (cond p i (Err Unpredictable)) j)
    on true true i j h k = h
    on true false i j h k = tt
    on false p i j h k = k

binary : (x : ℕ) → Binary (bits_of x)
binary x j = mod-lt _ (lit< tt)

stands_narrow : (x : ℕ) → OperandsStand (decoded_narrow x)
unfolding rows_within within size narrow_rows
stands_narrow x = found_stands (bits_of x) (binary x) narrow_rows refl narrow_stand

stands_wide : (x : ℕ) → OperandsStand (decoded_wide x)
unfolding rows_within within size wide_rows
stands_wide x = found_stands (bits_of x) (binary x) wide_rows refl wide_stand

pub operands_stand : (first second : ℕ) (r : Answer) → r ≡ decoded first second → OperandsStand r
operands_stand first second r e = rw e (on (wide_first first) (first * 2 ^ 16 + second))
  where
    on : (b : Bool) (x : ℕ) → OperandsStand (cond b (decoded_wide x) (decoded_narrow first))
    on true x = stands_wide x
    on false x = stands_narrow first
