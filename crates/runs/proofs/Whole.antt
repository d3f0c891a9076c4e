-- Laws over whole runs.
use Rattle.std.proofs.Common.{◌≡◌, ℕ, zero, suc, ◌+◌, ◌<◌, true, List, [], ◌∷◌, ◌++◌, map, length, sym, refl, ap, ◌∙◌, subst, ap₂, inl, inr, Ok, suc-add, zero-add, arith}
use Rattle.bus.specs.declared.fault.Fault.{Fault}
use Rattle.arch.specs.Machine.{Machine, after_call, after_calls, responses}
use Rattle.arch.specs.declared.answers.Answer.{Answer}
use Rattle.arch.specs.declared.answers.Answer.TheVariants.{Locked}
use Rattle.arch.specs.declared.answers.Call.TheVariants.{Step}
use Rattle.arch.specs.declared.answers.Completed.TheVariants.{Stepped}
use Rattle.runs.specs.Run.{answers, left, Joins, Stepwise}
use Rattle.runs.proofs.Steps.{LeftBy, Goes, stops_or_goes, no_answer, unmoved, one_answer, one_step}

-- a run of n steps and then of k
pub joins : (n k : ℕ) (m : Machine) → Joins n k m
unfolding answers left
joins zero k m = record { answered = ap (λ j. answers j m) (zero-add k); leaves = ap (λ j. left j m) (zero-add k) }
joins (suc n) k m =
    elim (stops_or_goes m) [
      | inl locked ↦ record {
        answered = no_answer (suc n + k) m locked ∙ sym (ap₂ ◌++◌ (no_answer (suc n) m locked) (ap (answers k) (unmoved (suc n) m locked) ∙ no_answer k m locked));
        leaves = unmoved (suc n + k) m locked ∙ sym (ap (left k) (unmoved (suc n) m locked) ∙ unmoved k m locked);
      }
      | inr on ↦
          let goes : Goes m on.0 = on.1 in
          let rest : Joins n k (after_call Step m) = joins n k (after_call Step m) in
          record {
            answered = ap (λ j. answers j m) (suc-add n k) ∙ one_answer (n + k) m on.0 goes ∙ ap (λ rest. on.0 ∷ rest) rest.answered ∙ sym (ap₂ (λ first u. first ++ answers k u) (one_answer n m on.0 goes) (one_step n m on.0 goes));
            leaves = ap (λ j. left j m) (suc-add n k) ∙ one_step (n + k) m on.0 goes ∙ rest.leaves ∙ sym (ap (left k) (one_step n m on.0 goes));
          }
    ]

-- nothing comes after an answer in no answers
none_after : (f : Fault) (before after : List Answer) → [] ≡ before ++ (Locked f ∷ after) → after ≡ []
none_after f [] after e = cc
none_after f (b ∷ before) after e = cc

-- a run that makes no step
no_step : (n : ℕ) (m : Machine) → answers n m ≡ [] → left n m ≡ m → (0 < n → m.registers.locked ≡ true) → Stepwise n m 0
unfolding after_calls responses
no_step n m none same locked = record {
  within = omega arith;
  stopped = λ h. ap (λ u. u.registers.locked) same ∙ locked h;
  answered = sym (ap (map (λ answer. Ok (Stepped answer))) none);
  leaves = sym same;
  last = λ f before after e. none_after f before after (sym none ∙ e);
}

last_here : (n : ℕ) (m : Machine) (answer : Answer) → Goes m answer → ((f : Fault) (before after : List Answer) → answers n (after_call Step m) ≡ before ++ (Locked f ∷ after) → after ≡ []) → (f : Fault) (before after : List Answer) → answer ∷ answers n (after_call Step m) ≡ before ++ (Locked f ∷ after) → after ≡ []
last_here n m answer goes later f [] after e =
    let same : answer ≡ Locked f = cc in
    let rest : answers n (after_call Step m) ≡ after = cc in
    sym rest ∙ no_answer n (after_call Step m) (subst (λ a. LeftBy a (after_call Step m).registers) same goes.locks)
last_here n m answer goes later f (b ∷ before) after e = later f before after (cc)

-- a step, and a run from where it leaves
step_first : (n : ℕ) (m : Machine) (answer : Answer) (k : ℕ) → Goes m answer → Stepwise n (after_call Step m) k → Stepwise (suc n) m (suc k)
unfolding after_calls responses
step_first n m answer k goes rest = record {
  within = omega arith;
  stopped = λ h. ap (λ u. u.registers.locked) (one_step n m answer goes) ∙ rest.stopped (omega arith);
  answered = ap₂ ◌∷◌ goes.answered rest.answered ∙ sym (ap (map (λ answer. Ok (Stepped answer))) (one_answer n m answer goes));
  leaves = rest.leaves ∙ sym (one_step n m answer goes);
  last = λ f before after e. last_here n m answer goes rest.last f before after (sym (one_answer n m answer goes) ∙ e);
}

pub stepwise : (n : ℕ) (m : Machine) → Stepwise n m (length (answers n m))
unfolding answers left
stepwise zero m = no_step 0 m refl refl (λ h. absurd (omega arith))
stepwise (suc n) m =
    elim (stops_or_goes m) [
      | inl locked ↦ subst (Stepwise (suc n) m) (sym (ap length (no_answer (suc n) m locked))) (no_step (suc n) m (no_answer (suc n) m locked) (unmoved (suc n) m locked) (λ _. locked))
      | inr on ↦ subst (Stepwise (suc n) m) (sym (ap length (one_answer n m on.0 on.1))) (step_first n m on.0 _ on.1 (stepwise n (after_call Step m)))
    ]
