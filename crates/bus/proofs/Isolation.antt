-- What a guarded program can see and change: what its unprivileged accesses can, whatever the verdicts are.
use Rattle.std.proofs.Common.{◌≡◌, ℕ, Bool, true, false, cond, Some, None, Ok, Err, sym, refl, ap, ◌∙◌, subst, inl, inr}
use Rattle.bus.proofs.Answer.{read_leaves}
use Rattle.bus.proofs.Memory.{store_byte, store_outside, load_agree}
use Rattle.bus.proofs.Programs.{always_all}
use Rattle.bus.specs.Access.{is_write, bytes_of}
use Rattle.bus.specs.Isolation.{Unwritable, Alike, UnprivilegedOnly, Parted, Guarded, Twins}
use Rattle.bus.specs.Meaning.{Verdict, answer, after, replied, written}
use Rattle.bus.specs.Memory.{Bytes, load, store}
use Rattle.bus.specs.Program.{World, Reply, Program, done, ask, bind, reply, left, run, Always}
use Rattle.bus.specs.declared.access.Access.{Access}
use Rattle.bus.specs.declared.access.Right.TheVariants.{Unprivileged}
use Rattle.bus.specs.declared.fault.Fault.{Fault}

-- Programs in sequence: `bind` where P holds of the first one's answers, `then` where nothing is asked of them.

pub unprivileged_bind : {A B : Type 0} (P : A → Type 0) (p : Program A) (next : A → Program B) → UnprivilegedOnly p → Always P p → ((a : A) → P a → UnprivilegedOnly (next a)) → UnprivilegedOnly (bind p next)
unprivileged_bind P (done a) next only h each = each a h
unprivileged_bind P (ask a v k) next only h each = (only.0, λ r. unprivileged_bind P (k r) next (only.1 r) (h r) each)

pub unprivileged_then : {A B : Type 0} (p : Program A) (next : A → Program B) → UnprivilegedOnly p → ((a : A) → UnprivilegedOnly (next a)) → UnprivilegedOnly (bind p next)
unprivileged_then p next only each = unprivileged_bind (λ a. Unit {0}) p next only (always_all (λ a. Unit {0}) p (λ a. tt)) (λ a h. each a)

pub unprivileged_guarded : {A : Type 0} (Left : A → A → Type 0) (p : Program A) → UnprivilegedOnly p → Guarded Left p
unprivileged_guarded Left (done a) only = tt
unprivileged_guarded Left (ask a v k) only = inl (only.0, λ r. unprivileged_guarded Left (k r) (only.1 r))

-- what holds of two ends that Left relates holds of parted programs
parted : {A : Type 0} (Left : A → A → Type 0) (P : Program A → Program A → Type 0) (p q : Program A) → ((a b : A) → Left a b → P (done a) (done b)) → Parted Left p q → P p q
parted Left P (done a) (done b) ends part = ends a b part
parted Left P (done a) (ask b v k) ends part = absurd part
parted Left P (ask a v k) (done b) ends part = absurd part
parted Left P (ask a v k) (ask b u l) ends part = absurd part

-- what follows is guarded, and ends where the first has parted
pub guarded_bind : {A B : Type 0} (P : A → Type 0) (L : A → A → Type 0) (R : B → B → Type 0) (p : Program A) (next : A → Program B) → Guarded L p → Always P p → ((a : A) → P a → Guarded R (next a)) → ((a b : A) → L a b → Parted R (next a) (next b)) → Guarded R (bind p next)
guarded_bind P L R (done a) next guard h each ends = each a h
guarded_bind P L R (ask a v k) next (inl guard) h each ends = inl (guard.0, λ r. guarded_bind P L R (k r) next (guard.1 r) (h r) each ends)
guarded_bind P L R (ask a v k) next (inr guard) h each ends = inr (
  guard.0,
  λ f. guarded_bind P L R (k (Err f)) next (guard.1 f) (h (Err f)) each ends,
  λ m n. parted L (λ p q. Parted R (bind p next) (bind q next)) (k (Ok m)) (k (Ok n)) ends (guard.2 m n),
)

pub guarded_then : {A B : Type 0} (Left : B → B → Type 0) (p : Program A) (next : A → Program B) → UnprivilegedOnly p → ((a : A) → Guarded Left (next a)) → Guarded Left (bind p next)
guarded_then Left p next only each = guarded_bind (λ a. Unit {0}) (λ a b. ⊥) Left p next (unprivileged_guarded (λ a b. ⊥) p only) (always_all (λ a. Unit {0}) p (λ a. tt)) (λ a h. each a) (λ a b part. absurd part)

-- One access.

-- an unprivileged access gets the same reply from alike worlds
alike_reply : (w u : World) (a : Access) → a.right ≡ Unprivileged → Alike w u → reply w a ≡ reply u a
alike_reply w u a low alike = go (w.verdict a) refl (is_write a.usage) refl ∙ ap (λ verdict. answer (verdict a) (replied u.bytes a)) alike.0
  where
    loaded : World → ℕ
    loaded world = load (bytes_of a) world.bytes a.address

    go : (d : Verdict) → w.verdict a ≡ d → (b : Bool) → is_write a.usage ≡ b → answer d (cond b 0 (loaded w)) ≡ answer d (cond b 0 (loaded u))
    go (Some f) told b writes = refl
    go None told true writes = refl
    go None told false reads = ap Ok (load_agree (bytes_of a) w.bytes u.bytes a.address (λ x inside. alike.1 x (a, low, reads, told, inside)))

-- and every access leaves alike worlds alike
alike_left : (w u : World) (a : Access) (v : ℕ) → Alike w u → Alike (left w a v) (left u a v)
alike_left w u a v alike = (alike.0, λ x readable. go x (w.verdict a) (is_write a.usage) (alike.1 x readable) ∙ ap (λ verdict. after (verdict a) (written u.bytes a v) u.bytes x) alike.0)
  where
    changed : Bool → Bytes → Bytes
    changed b m = cond b (store (bytes_of a) m a.address v) m

    go : (x : ℕ) (d : Verdict) (b : Bool) → w.bytes x ≡ u.bytes x → after d (changed b w.bytes) w.bytes x ≡ after d (changed b u.bytes) u.bytes x
    go x (Some f) b same = same
    go x None false same = same
    go x None true same = rw (store_byte (bytes_of a) w.bytes a.address v x, store_byte (bytes_of a) u.bytes a.address v x, same)

-- a byte that no allowed unprivileged write covers is as it was after an unprivileged access
unwritable_left : (w : World) (a : Access) (v x : ℕ) → a.right ≡ Unprivileged → Unwritable w x → (left w a v).bytes x ≡ w.bytes x
unwritable_left w a v x low unwritable = go (w.verdict a) refl (is_write a.usage) refl
  where
    go : (d : Verdict) → w.verdict a ≡ d → (b : Bool) → is_write a.usage ≡ b → after d (cond b (store (bytes_of a) w.bytes a.address v) w.bytes) w.bytes x ≡ w.bytes x
    go (Some f) told b writes = refl
    go None told false reads = refl
    go None told true writes = store_outside (bytes_of a) w.bytes a.address v x (unwritable a low writes told)

-- worlds of the same verdicts refuse an access with the same fault, or both grant it
replies : (P : Reply → Reply → Type 0) (w u : World) (a : Access) → w.verdict ≡ u.verdict → ((f : Fault) → P (Err f) (Err f)) → ((m n : ℕ) → P (Ok m) (Ok n)) → P (reply w a) (reply u a)
replies P w u a same refused granted = subst (λ verdict. P (reply w a) (answer (verdict a) (replied u.bytes a))) same (go (w.verdict a))
  where
    go : (d : Verdict) → P (answer d (replied w.bytes a)) (answer d (replied u.bytes a))
    go (Some f) = refused f
    go None = granted (replied w.bytes a) (replied u.bytes a)

-- Whole programs.

-- alike worlds: the same answer and alike worlds again, or answers that Left relates
pub twins : {A : Type 0} (Left : A → A → Type 0) (p : Program A) (w u : World) → Guarded Left p → Alike w u → Twins Left (run p w) (run p u)
twins Left (done a) w u guard alike = inl (refl, alike)
twins Left (ask a v k) w u (inl guard) alike =
    let rest = twins Left (k (reply w a)) (left w a v) (left u a v) (guard.1 (reply w a)) (alike_left w u a v alike) in
    subst (λ r. Twins Left (run (k (reply w a)) (left w a v)) (run (k r) (left u a v))) (alike_reply w u a guard.0 alike) rest
twins Left (ask a v k) w u (inr guard) alike =
    let refused = λ (f : Fault). twins Left (k (Err f)) (left w a v) (left u a v) (guard.1 f) (alike_left w u a v alike) in
    let granted = λ (m n : ℕ). parted Left (λ p q. Twins Left (run p (left w a v)) (run q (left u a v))) (k (Ok m)) (k (Ok n)) (λ a b part. inr part) (guard.2 m n) in
    replies (λ r s. Twins Left (run (k r) (left w a v)) (run (k s) (left u a v))) w u a alike.0 refused granted

-- each byte that no allowed unprivileged write covers is as it was
pub confined : {A : Type 0} (Left : A → A → Type 0) (p : Program A) (w : World) (x : ℕ) → Guarded Left p → Unwritable w x → (run p w).1.bytes x ≡ w.bytes x
confined Left (done a) w x guard unwritable = refl
confined Left (ask a v k) w x (inl guard) unwritable = confined Left (k (reply w a)) (left w a v) x (guard.1 (reply w a)) unwritable ∙ unwritable_left w a v x guard.0 unwritable
confined Left (ask a v k) w x (inr guard) unwritable =
    let same = ap (λ m. m x) (read_leaves (w.verdict a) w.bytes a v guard.0) in
    let refused = λ (f : Fault). confined Left (k (Err f)) (left w a v) x (guard.1 f) unwritable in
    let granted = λ (m n : ℕ). parted Left (λ p q. (run p (left w a v)).1.bytes x ≡ (left w a v).bytes x) (k (Ok m)) (k (Ok n)) (λ a b part. refl) (guard.2 m n) in
    replies (λ r s. (run (k r) (left w a v)).1.bytes x ≡ (left w a v).bytes x) w w a refl refused granted ∙ sym same
