-- Two kinds of tally side by side keep the laws of each, and each says of the answers what it says alone.
use Rattle.std.specs.Prelude.{◌≡◌, List, [], ◌∷◌, refl}
use Rattle.std.proofs.Common.{ap, ap₂, sym, subst}
use Rattle.arch.specs.declared.answers.Answer.{Answer}
use Rattle.runs.specs.Tally.{Laws, Commuting, tally}

abbrev pub beside : {A B : Type 0} → (A → A → A) → (B → B → B) → A × B → A × B → A × B
beside joined also x y = (joined x.0 y.0, also x.1 y.1)

abbrev pub SayBoth : {A B : Type 0} → (A → List Answer → Type 0) → (B → List Answer → Type 0) → A × B → List Answer → Type 0
SayBoth Says Also t answers = Says t.0 answers × Also t.1 answers

pub laws_beside : {A B : Type 0} {none : A} {joined : A → A → A} {no : B} {also : B → B → B} → Laws none joined → Laws no also → Laws (none, no) (beside joined also)
laws_beside first second = record {
  left = λ x. ap₂ (λ a b. (a, b)) (first.left x.0) (second.left x.1);
  right = λ x. ap₂ (λ a b. (a, b)) (first.right x.0) (second.right x.1);
  assoc = λ x y z. ap₂ (λ a b. (a, b)) (first.assoc x.0 y.0 z.0) (second.assoc x.1 y.1 z.1);
}

pub commute_beside : {A B : Type 0} {joined : A → A → A} {also : B → B → B} → Commuting joined → Commuting also → Commuting (beside joined also)
commute_beside first second x y = ap₂ (λ a b. (a, b)) (first x.0 y.0) (second x.1 y.1)

module _ {A B : Type 0} (none : A) (one : Answer → A) (joined : A → A → A) (no : B) (of : Answer → B) (also : B → B → B) where
  -- both tallies of some answers are the tallies of each kind
  apart : (answers : List Answer) → tally (none, no) (λ a. (one a, of a)) (beside joined also) answers ≡ (tally none one joined answers, tally no of also answers)
  unfolding tally
  apart [] = refl
  apart (a ∷ rest) = ap (beside joined also (one a, of a)) (apart rest)

  pub say_both : (Says : A → List Answer → Type 0) (Also : B → List Answer → Type 0) → ((answers : List Answer) → Says (tally none one joined answers) answers) → ((answers : List Answer) → Also (tally no of also answers) answers) → (answers : List Answer) → SayBoth Says Also (tally (none, no) (λ a. (one a, of a)) (beside joined also) answers) answers
  say_both Says Also first second answers = subst (λ t. SayBoth Says Also t answers) (sym (apart answers)) (first answers, second answers)
