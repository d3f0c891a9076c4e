-- One word of a frame, tried.
use Rattle.std.proofs.Common.{◌≡◌, ℕ, List, ◌∷◌, Some, None, Option, Result, sym, refl, ap, ◌∙◌}
use Rattle.std.specs.Option.{option_or}
use Rattle.std.specs.Result.{result_err}
use Rattle.bus.specs.Meaning.{Verdict, answer, writing}
use Rattle.bus.specs.Program.{World, left, run}
use Rattle.bus.specs.declared.access.Right.{Right}
use Rattle.bus.specs.declared.access.Width.TheVariants.{Word}
use Rattle.bus.specs.declared.fault.Fault.{Fault}
use Rattle.arch.specs.Accesses.{noting, try_words}
use Rattle.arch.specs.Registers.{plus}

-- what a write answers does not matter, but whether it is refused
noted : (first : Option Fault) (d : Verdict) (m : ℕ) → noting first (answer d m) ≡ option_or first (result_err (answer {V = Unit {0}} d tt))
noted (Some f) d m = refl
noted None (Some f) m = refl
noted None None m = refl

module _ (right : Right) (first : Option Fault) (v x : ℕ) (vs : List ℕ) (w w' : World) (r : Result (Unit {0}) Fault) where
  -- the first word is tried, and then the others
  pub try_step : r ≡ answer (w.verdict (writing Word right x)) tt → w' ≡ left w (writing Word right x) v → run (try_words right first (v ∷ vs) x) w ≡ run (try_words right (option_or first (result_err r)) vs (plus x 4)) w'
  unfolding try_words
  try_step value after =
      ap (λ (o : Option Fault). run (try_words right o vs (plus x 4)) (left w (writing Word right x) v)) (noted first (w.verdict (writing Word right x)) 0 ∙ ap (λ (a : Result (Unit {0}) Fault). option_or first (result_err a)) (sym value))
      ∙ ap (λ (u : World). run (try_words right (option_or first (result_err r)) vs (plus x 4)) u) (sym after)
