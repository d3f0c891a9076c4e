-- What unprivileged code can see and change of a world.
use Rattle.std.specs.Prelude.{◌≡◌, ℕ, Bool, true, false, ◌⊎◌, None, Ok, Err}
use Rattle.bus.specs.Access.{is_write, covers}
use Rattle.bus.specs.Program.{World, Reply, Program, done, ask, run}
use Rattle.bus.specs.declared.access.Access.{Access}
use Rattle.bus.specs.declared.access.Right.TheVariants.{Unprivileged}
use Rattle.bus.specs.declared.fault.Fault.{Fault}

-- some allowed unprivileged fetch or read covers x
abbrev pub Readable : World → ℕ → Type 0
Readable w x = (a : Access) × (a.right ≡ Unprivileged) × (is_write a.usage ≡ false) × (w.verdict a ≡ None) × (covers a x ≡ true)

-- no allowed unprivileged write covers x
abbrev pub Unwritable : World → ℕ → Type 0
Unwritable w x = (a : Access) → a.right ≡ Unprivileged → is_write a.usage ≡ true → w.verdict a ≡ None → covers a x ≡ false

-- two worlds that unprivileged code cannot tell apart: equal verdicts, and equal bytes wherever readable
abbrev pub Alike : World → World → Type 0
Alike w u = (w.verdict ≡ u.verdict) × ((x : ℕ) → Readable w x → w.bytes x ≡ u.bytes x)

-- every access is unprivileged
abbrev pub UnprivilegedOnly : {A : Type 0} → Program A → Type 0
UnprivilegedOnly (done a) = Unit {0}
UnprivilegedOnly (ask a v k) = (a.right ≡ Unprivileged) × ((r : Reply) → UnprivilegedOnly (k r))

-- both programs are at their end, with answers that Left relates
abbrev pub Parted : {A : Type 0} → (A → A → Type 0) → Program A → Program A → Type 0
Parted Left (done a) (done b) = Left a b
Parted Left (done a) (ask b v k) = ⊥
Parted Left (ask a v k) (done b) = ⊥
Parted Left (ask a v k) (ask b u l) = ⊥

-- each access is unprivileged; or it is a read whose refusal leads on to such a program again, and whose granted replies, whatever they are, end in answers that Left relates
abbrev pub Guarded : {A : Type 0} → (A → A → Type 0) → Program A → Type 0
Guarded Left (done a) = Unit {0}
Guarded Left (ask a v k) =
    ((a.right ≡ Unprivileged) × ((r : Reply) → Guarded Left (k r)))
    ⊎ ((is_write a.usage ≡ false) × ((f : Fault) → Guarded Left (k (Err f))) × ((m n : ℕ) → Parted Left (k (Ok m)) (k (Ok n))))

-- what two runs came to: the same answer and alike worlds, or answers that Left relates
abbrev pub Twins : {A : Type 0} → (A → A → Type 0) → A × World → A × World → Type 0
Twins Left x y = ((x.0 ≡ y.0) × Alike x.1 y.1) ⊎ Left x.0 y.0

-- a guarded program cannot tell alike worlds apart, up to answers that a test relates
abbrev pub TwinsStand : Type 0 → Type 0
TwinsStand A = (parts : A → A → Bool) (p : Program A) (w u : World) → Guarded (λ a b. parts a b ≡ true) p → Alike w u → Twins (λ a b. parts a b ≡ true) (run p w) (run p u)

-- and it leaves each byte that unprivileged code cannot write as it was
abbrev pub ConfinedStands : Type 0 → Type 0
ConfinedStands A = (parts : A → A → Bool) (p : Program A) (w : World) (x : ℕ) → Guarded (λ a b. parts a b ≡ true) p → Unwritable w x → (run p w).1.bytes x ≡ w.bytes x
