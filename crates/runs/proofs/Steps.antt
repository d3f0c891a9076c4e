-- What one step of a run comes to.
use Rattle.std.proofs.Common.{◌≡◌, ℕ, zero, suc, Bool, true, false, cond, ◌⊎◌, [], ◌∷◌, ◌++◌, pos, Some, None, Ok, Err, Option, Result, sym, refl, ap, ◌∙◌, subst, inl, inr, arith}
use lib.Signed.{lt_z}
use Rattle.std.proofs.lemmas.Bool.{true≢false}
use Rattle.bus.proofs.Programs.{run_always, always_all, always_bind}
use Rattle.bus.specs.Program.{World, Reply, done, run, Always}
use Rattle.bus.specs.declared.fault.Fault.{Fault}
use Rattle.bus.specs.declared.refusal.Refusal.{Refusal}
use Rattle.bus.specs.declared.refusal.Refusal.TheVariants.{CoreLocked}
use Rattle.arch.specs.Answers.{Response}
use Rattle.arch.specs.Accesses.{try_words}
use Rattle.arch.specs.Branches.{Done, ran, returned}
use Rattle.arch.specs.Entry.{frame_of, frame_words, is_last, or_lock, or_hard_fault, take}
use Rattle.arch.specs.Machine.{Machine, response, after_call}
use Rattle.arch.specs.Priorities.{execution_priority, chosen}
use Rattle.arch.specs.Registers.{right_of, pend, locked_core}
use Rattle.arch.specs.Step.{settle, instruction, begin, step, answer_to}
use Rattle.arch.specs.declared.answers.Answer.{Answer}
use Rattle.arch.specs.declared.answers.Answer.TheVariants.{Ran, Entered, Returned, Faulted, Locked}
use Rattle.arch.specs.declared.answers.Call.TheVariants.{Step}
use Rattle.arch.specs.declared.answers.Completed.TheVariants.{Stepped, Accepted}
use Rattle.arch.specs.declared.registers.Registers.{Registers}
use Rattle.runs.specs.Run.{answer_in, answers, left}
use Rattle.cpu.specs.Performed.{machine}
use Rattle.cpu.specs.Responses.{stepped}

-- what an answer says of the registers that it leaves
abbrev pub LeftBy : Answer → Registers → Type 0
LeftBy Ran t = Unit {0}
LeftBy (Entered n) t = Unit {0}
LeftBy Returned t = Unit {0}
LeftBy (Faulted f) t = Unit {0}
LeftBy (Locked f) t = t.locked ≡ true

-- a step was made, and one that locks leaves the lock mark
abbrev Made : Response × Registers → Type 0
Made (Ok (Stepped answer), t) = LeftBy answer t
Made (Ok Accepted, t) = ⊥
Made (Err refusal, t) = ⊥

module _ (s : Registers) where
  fault_made : (f : Fault) (low : Bool) → Made (Ok (Stepped (cond low (Locked f) (Faulted f))), cond low (locked_core s) (pend s 3))
  fault_made f true = refl
  fault_made f false = tt

  settled : (r : Result Done Fault) → Made (settle s r)
  settled (Ok (ran t)) = tt
  settled (Ok (returned t)) = tt
  settled (Err f) = fault_made f (lt_z (execution_priority s) (pos 0))

  last_made : (n : ℕ) (r : Reply) → Always Made (or_lock s n r)
  last_made n (Ok vector) = tt
  last_made n (Err f) = refl

  other_made : (n : ℕ) (r : Reply) → Always Made (or_hard_fault s n r)
  other_made n (Ok vector) = tt
  other_made n (Err f) = last_made 3

  take_made : (b : Bool) (n : ℕ) (refused : Option Fault) → Always Made (take b s n refused)
  take_made true n refused = last_made n
  take_made false n (Some f) = last_made 3
  take_made false n None = other_made n

  begin_made : (o : Option ℕ) → Always Made (begin false o s)
  begin_made (Some n) =
      let frame = try_words (right_of s) None (frame_words s) (frame_of s) in
      always_bind (λ _. Unit {0}) Made frame (take (is_last n) s n) (always_all (λ _. Unit {0}) frame (λ _. tt)) (λ refused _. take_made (is_last n) n refused)
  begin_made None = always_bind (λ _. Unit {0}) Made (instruction s) (λ r. done (settle s r)) (always_all (λ _. Unit {0}) (instruction s) (λ _. tt)) (λ r _. settled r)

  unless_locked : (b : Bool) → b ≡ false → Always Made (begin b (chosen s) s)
  unless_locked true e = absurd (true≢false e)
  unless_locked false e = begin_made (chosen s)

-- a core that is not locked makes its step
made : (m : Machine) → m.registers.locked ≡ false → Made (response Step m, (after_call Step m).registers)
unfolding answer_to
made m free = run_always Made (answer_to Step m.registers) m.world (unless_locked m.registers m.registers.locked free)

-- a machine that goes on: it is not locked, and a step of it gives this answer
pub record Goes (m : Machine) (answer : Answer) : Type 0 where
  pub free : m.registers.locked ≡ false
  pub answered : response Step m ≡ Ok (Stepped answer)
  pub locks : LeftBy answer (after_call Step m).registers

goes_with : (m : Machine) (r : Response) → m.registers.locked ≡ false → response Step m ≡ r → Made (r, (after_call Step m).registers) → (answer : Answer) × Goes m answer
goes_with m (Ok (Stepped answer)) free e h = (answer, record { free = free; answered = e; locks = h })
goes_with m (Ok Accepted) free e h = absurd h
goes_with m (Err refusal) free e h = absurd h

goes_if : (b : Bool) (m : Machine) → m.registers.locked ≡ b → (m.registers.locked ≡ true) ⊎ ((answer : Answer) × Goes m answer)
goes_if true m e = inl e
goes_if false m e = inr (goes_with m (response Step m) e refl (made m e))

-- a machine is locked, or it goes on
pub stops_or_goes : (m : Machine) → (m.registers.locked ≡ true) ⊎ ((answer : Answer) × Goes m answer)
stops_or_goes m = goes_if m.registers.locked m refl

pub no_answer : (n : ℕ) (m : Machine) → m.registers.locked ≡ true → answers n m ≡ []
unfolding answers
no_answer zero m e = refl
no_answer (suc n) m e = ap (λ b. cond b [] (answer_in (response Step m) ++ answers n (after_call Step m))) e

pub unmoved : (n : ℕ) (m : Machine) → m.registers.locked ≡ true → left n m ≡ m
unfolding left
unmoved zero m e = refl
unmoved (suc n) m e = ap (λ b. cond b m (left n (after_call Step m))) e

pub one_answer : (n : ℕ) (m : Machine) (answer : Answer) → Goes m answer → answers (suc n) m ≡ answer ∷ answers n (after_call Step m)
unfolding answers
one_answer n m answer goes =
    let rest = answers n (after_call Step m) in
    ap (λ b. cond b [] (answer_in (response Step m) ++ rest)) goes.free ∙ ap (λ r. answer_in r ++ rest) goes.answered

pub one_step : (n : ℕ) (m : Machine) (answer : Answer) → Goes m answer → left (suc n) m ≡ left n (after_call Step m)
unfolding left
one_step n m answer goes = ap (λ b. cond b m (left n (after_call Step m))) goes.free

-- a locked core turns a step away, and stays as it is
refused : (m : Machine) → m.registers.locked ≡ true → (response Step m ≡ Err CoreLocked) × (after_call Step m ≡ m)
unfolding answer_to
refused m locked =
    let begun : Bool → (Response × Registers) × World = λ b. run (begin b (chosen m.registers) m.registers) m.world in
    (ap (λ b. (begun b).0.0) locked, ap (λ b. machine (begun b).0.1 (begun b).1) locked)

module _ (m left : Machine) (r : Result Answer Refusal) (runs : run (step m.registers) m.world ≡ ((stepped r, left.registers), left.world)) where
  responds : response Step m ≡ stepped r
  unfolding answer_to
  responds = ap (λ x. x.0.0) runs

  pub leaves : after_call Step m ≡ left
  unfolding answer_to
  leaves = ap (λ x. machine x.0.1 x.1) runs

  -- a step with an answer goes on
  pub went : (answer : Answer) → r ≡ Ok answer → Goes m answer
  went answer e =
      let told : response Step m ≡ Ok (Stepped answer) = responds ∙ ap stepped e in
      elim (stops_or_goes m) [
        | inl locked ↦ let turned = (refused m locked).0 in let no : ◌≡◌ {A = ℕ} 0 1 = cc in absurd (omega arith)
        | inr on ↦ let goes = on.1.answered in let same : on.0 ≡ answer = cc in subst (Goes m) same on.1
      ]

  -- one that is refused was one of a locked core
  pub turned_away : (refusal : Refusal) → r ≡ Err refusal → (m.registers.locked ≡ true) × (left ≡ m)
  turned_away refusal e =
      let told : response Step m ≡ Err refusal = responds ∙ ap stepped e in
      elim (stops_or_goes m) [
        | inl locked ↦ (locked, sym leaves ∙ (refused m locked).1)
        | inr on ↦ let goes = on.1.answered in let no : ◌≡◌ {A = ℕ} 0 1 = cc in absurd (omega arith)
      ]
