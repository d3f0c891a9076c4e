-- What a tally is, and what the answers of some steps come to.
use Rattle.std.specs.Prelude.{◌≡◌, List, [], ◌∷◌}
use Rattle.arch.specs.declared.answers.Answer.{Answer}

-- the join is associative, and none leaves what it is joined to
pub record Laws {T : Type 0} (none : T) (joined : T → T → T) : Type 0 where
  pub left : (x : T) → joined none x ≡ x
  pub right : (x : T) → joined x none ≡ x
  pub assoc : (x y z : T) → joined (joined x y) z ≡ joined x (joined y z)

abbrev pub Commuting : {T : Type 0} → (T → T → T) → Type 0
Commuting {T} joined = (x y : T) → joined x y ≡ joined y x

-- the tallies of the answers, joined in their order
unfoldable pub tally : {T : Type 0} → T → (Answer → T) → (T → T → T) → List Answer → T
tally none one joined [] = none
tally none one joined (a ∷ rest) = joined (one a) (tally none one joined rest)
