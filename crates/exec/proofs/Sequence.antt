-- One program after another, run.
use Rattle.std.proofs.Common.{◌≡◌, Ok, Err, Result, sym, refl, ap, ◌∙◌}
use Rattle.bus.specs.Made.{Makes, world}
use Rattle.bus.specs.Program.{World, Program, done, ask, bind, reply, left, run}
use Rattle.bus.specs.declared.fault.Fault.{Fault}
use Rattle.bus.specs.declared.interface.Bus.{Ghosts as Bus}
use Rattle.bus.proofs.Programs.{run_bind}
use Rattle.arch.specs.Accesses.{Attempt, then, go_on}
use Rattle.arch.specs.declared.registers.Registers.{Registers}
use Rattle.exec.specs.Outcome.{Executes, KeptAt}

-- what the first came to, the second goes on from
pub run_on : {A B : Type 0} (p : Program A) (next : A → Program B) (w w' : World) (a : A) → run p w ≡ (a, w') → run (bind p next) w ≡ run (next a) w'
run_on {A} p next w w' a e = run_bind p next w ∙ ap (λ (x : A × World). run (next x.0) x.1) e

pub run_then : {A B : Type 0} (p : Attempt A) (next : A → Attempt B) (w w' : World) (r : Result A Fault) → run p w ≡ (r, w') → run (then p next) w ≡ run (go_on next r) w'
run_then p next w w' r e = run_on p (go_on next) w w' r e

-- of three, it does not matter which two are taken together
pub run_assoc : {A B C : Type 0} (p : Attempt A) (f : A → Attempt B) (next : B → Attempt C) (w : World) → run (then (then p f) next) w ≡ run (then p (λ a. then (f a) next)) w
run_assoc (done (Ok a)) f next w = refl
run_assoc (done (Err e)) f next w = refl
run_assoc (ask a v k) f next w = run_assoc (k (reply w a)) f next (left w a v)

-- a program at its end makes nothing more
pub makes_nothing : {S A : Type 0} {bus : Bus S} {here : S} {a : A} → Makes bus here here (done a) a
makes_nothing = record { runs = refl; settled = refl }

-- what is made, with the registers that a refusal leaves
pub executed : {S A R : Type 0} {bus : Bus S} {before after : S} {s t : Registers} {p : Attempt A} {told : Result R Fault → Registers → Result A Fault} {r : Result R Fault} → Makes bus before after p (told r t) → KeptAt r s t → Executes bus before after s t p told r
executed made kept = record { runs = made.runs; kept = kept; settled = made.settled }

-- and back
pub makes_of : {S A R : Type 0} {bus : Bus S} {before after : S} {s t : Registers} {p : Attempt A} {told : Result R Fault → Registers → Result A Fault} {r : Result R Fault} → Executes bus before after s t p told r → Makes bus before after p (told r t)
makes_of executes = record { runs = executes.runs; settled = executes.settled }

-- one program is made, and then what its answer leads to
pub makes_bind : {S A B : Type 0} {bus : Bus S} {old between new : S} {p : Program A} {a : A} {b : B} (next : A → Program B) → Makes bus old between p a → Makes bus between new (next a) b → Makes bus old new (bind p next) b
makes_bind {bus} {old} {between} {p} {a} next first second = record {
  runs = run_on p next (world bus old) (world bus between) a first.runs ∙ second.runs;
  settled = second.settled ∙ first.settled;
}

module _ {S A B : Type 0} {bus : Bus S} {p : Attempt A} {old new : S} (next : A → Attempt B) where
  -- the same where the first is not refused
  pub makes_then : {between : S} {a : A} {r : Result B Fault} → Makes bus old between p (Ok a) → Makes bus between new (next a) r → Makes bus old new (then p next) r
  makes_then first second = makes_bind (go_on next) first second

  -- and where it is, no more is made
  pub makes_no_more : {f : Fault} → Makes bus old new p (Err f) → Makes bus old new (then p next) (Err f)
  makes_no_more refused = makes_bind (go_on next) refused makes_nothing

-- what is left of a program, from here, comes to what the whole of it comes to from the start
pub record Continues {S A : Type 0} (bus : Bus S) (start here : S) (whole rest : Program A) : Type 0 where
  pub left : run rest (world bus here) ≡ run whole (world bus start)
  pub settled : bus.settings here ≡ bus.settings start

module _ {S A : Type 0} {bus : Bus S} {start here : S} {whole rest : Program A} (underway : Continues bus start here whole rest) where
  -- the rest, by another program that comes to the same
  pub continues_as : (rest' : Program A) → run rest (world bus here) ≡ run rest' (world bus here) → Continues bus start here whole rest'
  continues_as rest' same = record { left = sym same ∙ underway.left; settled = underway.settled }

  -- the rest is made, and so the whole is
  pub makes_whole : {end : S} {a : A} → Makes bus here end rest a → Makes bus start end whole a
  makes_whole made = record { runs = sym underway.left ∙ made.runs; settled = made.settled ∙ underway.settled }

-- the first of what is left is made
pub continues_on : {S A B : Type 0} {bus : Bus S} {start here there : S} {whole : Program B} {p : Program A} {a : A} (next : A → Program B) → Continues bus start here whole (bind p next) → Makes bus here there p a → Continues bus start there whole (next a)
continues_on {bus} {here} {there} {p} {a} next underway made = record {
  left = sym (run_on p next (world bus here) (world bus there) a made.runs) ∙ underway.left;
  settled = made.settled ∙ underway.settled;
}
