-- Laws of programs of accesses.
use Rattle.std.proofs.Common.{◌≡◌, refl}
use Rattle.bus.specs.Program.{World, Program, done, ask, bind, reply, left, run, Always}

pub run_bind : {A B : Type 0} (p : Program A) (next : A → Program B) (w : World) → run (bind p next) w ≡ run (next (run p w).0) (run p w).1
run_bind (done a) next w = refl
run_bind (ask a v k) next w = run_bind (k (reply w a)) next (left w a v)

-- what always holds holds of the answer
pub run_always : {A : Type 0} (P : A → Type 0) (p : Program A) (w : World) → Always P p → P (run p w).0
run_always P (done a) w h = h
run_always P (ask a v k) w h = run_always P (k (reply w a)) (left w a v) (h (reply w a))

-- what holds of everything always holds
pub always_all : {A : Type 0} (P : A → Type 0) (p : Program A) → ((a : A) → P a) → Always P p
always_all P (done a) all = all a
always_all P (ask a v k) all = λ r. always_all P (k r) all

pub always_bind : {A B : Type 0} (P : A → Type 0) (Q : B → Type 0) (p : Program A) (next : A → Program B) → Always P p → ((a : A) → P a → Always Q (next a)) → Always Q (bind p next)
always_bind P Q (done a) next h each = each a h
always_bind P Q (ask a v k) next h each = λ r. always_bind P Q (k r) next (h r) each
