-- Counts keep the laws of a tally, and count the answers.
use Rattle.std.specs.Prelude.{◌≡◌, ℕ, ◌+◌, min, Bool, true, false, List, [], ◌∷◌, length, ◌==◌, refl}
use Rattle.std.proofs.Math.Path.{ap₂}
use Rattle.std.proofs.Common.{◌∙◌, arith}
use Rattle.word.specs.Sums.{one_if}
use Rattle.arch.specs.Answers.{answer_number}
use Rattle.arch.specs.declared.answers.Answer.{Answer}
use Rattle.arch.specs.declared.answers.Answer.TheVariants.{Ran, Entered, Returned, Faulted, Locked}
use Rattle.runs.specs.Counts.{counts, top, held, no_counts, added, one_of, count_of, counts_of, how_many, Counted}
use Rattle.runs.specs.Tally.{Laws, Commuting, tally}
use Rattle.runs.specs.declared.counts.Counts.{Counts}
use Rattle.runs.specs.Held.{held_left, held_right, held_assoc, held_comm}

-- counts are equal if each is
same : {a b c d e a' b' c' d' e' : ℕ} → a ≡ a' → b ≡ b' → c ≡ c' → d ≡ d' → e ≡ e' → counts a b c d e ≡ counts a' b' c' d' e'
same p q r s t = cc

pub counts_laws : Laws no_counts added
counts_laws = record {
  left = λ x. same (held_left _) (held_left _) (held_left _) (held_left _) (held_left _);
  right = λ x. same (held_right _) (held_right _) (held_right _) (held_right _) (held_right _);
  assoc = λ x y z. same (held_assoc x.ran _ _) (held_assoc x.entered _ _) (held_assoc x.returned _ _) (held_assoc x.faulted _ _) (held_assoc x.locked _ _);
}

pub counts_commute : Commuting added
counts_commute x y = same (held_comm x.ran _) (held_comm x.entered _) (held_comm x.returned _) (held_comm x.faulted _) (held_comm x.locked _)

one_more : (b : Bool) (n : ℕ) → held (one_if b) (min n top) ≡ min (one_if b + n) top
one_more true n = omega arith
one_more false n = omega arith

-- one of the counts, by the number of its answer
module _ (count : Counts → ℕ) (k : ℕ) (none : count no_counts ≡ 0) (sums : (x y : Counts) → count (added x y) ≡ held (count x) (count y)) (one : (a : Answer) → count (count_of a) ≡ one_of k a) where
  counted_one : (answers : List Answer) → count (counts_of answers) ≡ min (how_many k answers) top
  unfolding tally how_many
  counted_one [] = none
  counted_one (a ∷ rest) = sums (count_of a) (counts_of rest) ∙ ap₂ held (one a) (counted_one rest) ∙ one_more (answer_number a == k) (how_many k rest)

one_kind : (a : Answer) → one_of 0 a + one_of 1 a + one_of 2 a + one_of 3 a + one_of 4 a ≡ 1
one_kind Ran = refl
one_kind (Entered n) = refl
one_kind Returned = refl
one_kind (Faulted f) = refl
one_kind (Locked f) = refl

all_kinds : (answers : List Answer) → how_many 0 answers + how_many 1 answers + how_many 2 answers + how_many 3 answers + how_many 4 answers ≡ length answers
unfolding how_many
all_kinds [] = refl
all_kinds (a ∷ rest) = omega (arith, one_kind a, all_kinds rest)

pub counted : (answers : List Answer) → Counted (counts_of answers) answers
counted answers =
    let ran = counted_one (λ c. c.ran) 0 refl (λ x y. refl) (λ a. refl) answers in
    let entered = counted_one (λ c. c.entered) 1 refl (λ x y. refl) (λ a. refl) answers in
    let returned = counted_one (λ c. c.returned) 2 refl (λ x y. refl) (λ a. refl) answers in
    let faulted = counted_one (λ c. c.faulted) 3 refl (λ x y. refl) (λ a. refl) answers in
    let locked = counted_one (λ c. c.locked) 4 refl (λ x y. refl) (λ a. refl) answers in
    record { ran = ran; entered = entered; returned = returned; faulted = faulted; locked = locked; all = λ few. omega (arith, all_kinds answers) }
