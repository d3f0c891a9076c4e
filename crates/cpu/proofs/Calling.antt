-- A list of calls underway: what is left of it, from here, comes to what all of it comes to from the start.
use Rattle.std.proofs.Common.{◌≡◌, ℕ, ◌+◌, ◌<◌, ◌≤◌, List, [], ◌∷◌, ◌++◌, length, get_or, drop, sym, refl, ap, ◌∙◌, ap₂, append_assoc}
use Rattle.std.proofs.lemmas.List.{append-nil, drop_all, drop_more}
use Rattle.bus.specs.Program.{World, run}
use Rattle.arch.specs.Answers.{Response}
use Rattle.arch.specs.Machine.{Machine, after_call, after_calls, responses}
use Rattle.arch.specs.Step.{answer_to}
use Rattle.arch.specs.declared.answers.Call.{Call}
use Rattle.arch.specs.declared.answers.Call.TheVariants.{Step}
use Rattle.arch.specs.declared.registers.Registers.{Registers}
use Rattle.cpu.specs.Performed.{machine}

-- after i calls, with these answers, at this machine
pub record Underway (calls : List Call) (fresh : Machine) (i : ℕ) (items : List Response) (here : Machine) : Type 0 where
  pub after : after_calls (drop i calls) here ≡ after_calls calls fresh
  pub answers : items ++ responses (drop i calls) here ≡ responses calls fresh

module _ (calls : List Call) (fresh : Machine) where
  pub underway_none : (items : List Response) → items ≡ [] → Underway calls fresh 0 items fresh
  underway_none items none = record { after = refl; answers = ap (λ rs. rs ++ responses calls fresh) none }

  pub underway_all : (i : ℕ) (items : List Response) (here : Machine) → length calls ≤ i → Underway calls fresh i items here → (items ≡ responses calls fresh) × (here ≡ after_calls calls fresh)
  unfolding after_calls responses
  underway_all i items here past u =
      let end = drop_all i calls past in
      (sym (append-nil items) ∙ ap (λ cs. items ++ responses cs here) (sym end) ∙ u.answers, ap (λ cs. after_calls cs here) (sym end) ∙ u.after)

  -- one call more
  module _ (i : ℕ) (items : List Response) (s t : Registers) (w w' : World) (r : Response) (within : i < length calls) (e : run (answer_to (get_or calls i Step) s) w ≡ ((r, t), w')) where
    left : machine t w' ≡ after_call (get_or calls i Step) (machine s w)
    left = sym (ap (λ (x : (Response × Registers) × World). machine x.0.1 x.1) e)

    pub underway_more : Underway calls fresh i items (machine s w) → Underway calls fresh (i + 1) (items ++ r ∷ []) (machine t w')
    unfolding after_calls responses
    underway_more u =
        let rest = drop (i + 1) calls in
        let cut = drop_more calls i Step within in
        record {
          after = ap (after_calls rest) left ∙ ap (λ cs. after_calls cs (machine s w)) (sym cut) ∙ u.after;
          answers =
              append_assoc items (r ∷ []) (responses rest (machine t w'))
              ∙ ap₂ (λ a rs. items ++ a ∷ rs) (sym (ap (λ (x : (Response × Registers) × World). x.0.0) e)) (ap (responses rest) left)
              ∙ ap (λ cs. items ++ responses cs (machine s w)) (sym cut)
              ∙ u.answers;
        }
