-- The laws of a machine under any list of calls.
use Rattle.std.proofs.Common.{◌≡◌, ℕ, ◌+◌, true, false, eqb, ◌⊎◌, List, [], ◌∷◌, Ok, Err, Result, sym, refl, ap, ◌∙◌, subst, inl, inr, arith}
use lib.Count.{ones}
use Rattle.std.proofs.lemmas.Bool.{cases_eq, eq-eqb, ne_eqb, false≢true}
use Rattle.std.proofs.lemmas.Nat.{zero_from_ones}
use Rattle.bus.specs.Isolation.{Alike, Twins as twin_runs}
use Rattle.bus.specs.Program.{World, Reply, done, run, Always}
use Rattle.bus.specs.declared.access.Right.TheVariants.{Privileged}
use Rattle.bus.specs.declared.access.Width.TheVariants.{Word}
use Rattle.bus.specs.declared.fault.Fault.{Fault}
use Rattle.bus.proofs.Isolation.{twins, confined}
use Rattle.bus.proofs.Programs.{run_always}
use Rattle.arch.specs.Accesses.{then, go_on, read}
use Rattle.arch.specs.Answers.{Response}
use Rattle.arch.specs.Laws.{Sound, Soundness, Twins, Isolation, IsolationStands}
use Rattle.arch.specs.Machine.{Machine, response, after_call, after_calls, responses, entry, return, how_many}
use Rattle.arch.specs.Registers.{privileged}
use Rattle.arch.specs.Step.{answer_to, fresh, reset}
use Rattle.arch.specs.declared.answers.Call.{Call}
use Rattle.arch.specs.declared.answers.Call.TheVariants.{Step}
use Rattle.arch.specs.declared.registers.Registers.{Registers}
use Rattle.arch.proofs.Counting.{ones_empty}
use Rattle.arch.proofs.Guarding.{BothEntered, guarded_call}
use Rattle.arch.proofs.Running.{even_half}
use Rattle.arch.proofs.Stepping.{Post, call_post}

-- what a call came to
came_to : (c : Call) (m : Machine) → Sound m.registers → Post m.registers (response c m, (after_call c m).registers)
came_to c m sound = run_always (Post m.registers) (answer_to c m.registers) m.world (call_post m.registers sound c)

pub soundness : Soundness
soundness c m sound = let post = came_to c m sound in record { sound = post.sound; kept = post.kept }

sound_after : (cs : List Call) (m : Machine) → Sound m.registers → Sound (after_calls cs m).registers
unfolding after_calls
sound_after [] m sound = sound
sound_after (c ∷ cs) m sound = sound_after cs (after_call c m) (came_to c m sound).sound

-- entries and returns keep the balance of active exceptions
balance : (cs : List Call) (m : Machine) → Sound m.registers → how_many entry (responses cs m) + ones m.registers.exceptions.active ≡ how_many return (responses cs m) + ones (after_calls cs m).registers.exceptions.active
unfolding after_calls responses how_many
balance [] m sound = refl
balance (c ∷ cs) m sound =
    let post = came_to c m sound in
    let rest = balance cs (after_call c m) post.sound in
    omega (arith, post.balanced, rest)

-- what one call came to in both machines, and what the calls after it come to
twins_here : (cs : List Call) (x y : (Response × Registers) × World) → twin_runs BothEntered x y → (entry x.0.0 ≡ true) ⊎ (privileged x.0.1 ≡ false) → (privileged x.0.1 ≡ false → Alike x.1 y.1 → Twins cs x.0.1 x.1 y.1) → (x.0.0 ≡ y.0.0) × ((entry x.0.0 ≡ true) ⊎ ((x.0.1 ≡ y.0.1) × Alike x.1 y.1 × Twins cs x.0.1 x.1 y.1))
twins_here cs x y (inl (same, alike)) (inl entered) rest = (ap (λ a. a.0) same, inl entered)
twins_here cs x y (inl (same, alike)) (inr low) rest = (ap (λ a. a.0) same, inr (ap (λ a. a.1) same, alike, rest low alike))
twins_here cs x y (inr (n, p, q)) stays rest = (p ∙ sym q, inl (ap entry p))

twins_after : (cs : List Call) (s : Registers) (w u : World) → Sound s → privileged s ≡ false → Alike w u → Twins cs s w u
twins_after [] s w u sound low alike = tt
twins_after (c ∷ cs) s w u sound low alike =
    let p = answer_to c s in
    let post = run_always (Post s) p w (call_post s sound c) in
    twins_here cs (run p w) (run p u) (twins BothEntered p w u (guarded_call s sound low c) alike) (post.unprivileged low) (twins_after cs (run p w).0.1 (run p w).1 (run p u).1 post.sound)

-- there is no active exception exactly where the set of them is empty
count_mode : (s : Registers) → Sound s → eqb (ones s.exceptions.active) 0 ≡ eqb s.current 0
count_mode s sound = go (cases_eq s.exceptions.active 0) ∙ sym sound.mode
  where
    go : (s.exceptions.active ≡ 0) ⊎ (s.exceptions.active ≡ 0 → ⊥) → eqb (ones s.exceptions.active) 0 ≡ eqb s.exceptions.active 0
    go (inl none) = ap (λ set. eqb (ones set) 0) none ∙ ap (λ n. eqb n 0) ones_empty ∙ sym (eq-eqb s.exceptions.active 0 none)
    go (inr some) = ne_eqb (ones s.exceptions.active) 0 (λ e. some (zero_from_ones s.exceptions.active e)) ∙ sym (ne_eqb s.exceptions.active 0 some)

module _ (m : Machine) (sound : Sound m.registers) (none : m.registers.exceptions.active ≡ 0) where
  pub isolation : (calls : List Call) → Isolation m calls
  isolation calls past future cut =
      let now = after_calls past m in
      let still = sound_after past m sound in
      record {
        twins = λ low u alike. twins_after future now.registers now.world u still low alike;
        confined = λ low x kept. confined BothEntered (answer_to Step now.registers) now.world x (guarded_call now.registers still low Step) kept;
        balanced = omega (arith, balance past m sound, ap ones none, ones_empty);
        thread = count_mode now.registers still;
      }

-- a reset that succeeds leaves a sound core with no active exception
abbrev Begins : Result Registers Fault → Type 0
Begins (Ok s) = Sound s × (s.exceptions.active ≡ 0)
Begins (Err f) = Unit {0}

fresh_begins : (msp start : ℕ) → Begins (Ok (fresh msp start))
fresh_begins msp start = (record { even = even_half start; main = omega arith; process = refl; mode = refl; current = λ e. absurd (false≢true e) }, refl)

start_begins : (msp : ℕ) (r : Reply) → Always Begins (go_on (λ start. done (Ok (fresh msp start))) r)
start_begins msp (Ok start) = fresh_begins msp start
start_begins msp (Err f) = tt

stack_begins : (r : Reply) → Always Begins (go_on (λ msp. then (read Word Privileged 4) (λ start. done (Ok (fresh msp start)))) r)
stack_begins (Ok msp) = start_begins msp
stack_begins (Err f) = tt

reset_begins : Always Begins reset
unfolding reset
reset_begins = stack_begins

-- a core just after a reset is sound, and no exception is active
pub begins : (before after : World) (s : Registers) → run reset before ≡ (Ok s, after) → Sound s × (s.exceptions.active ≡ 0)
begins before after s e = subst (λ x. Begins x.0) e (run_always Begins reset before reset_begins)

pub isolation_stands : IsolationStands
isolation_stands before after s calls e =
    let start = begins before after s e in
    isolation (record { registers = s; world = after }) start.0 start.1 calls
