-- The fourteen conditions.
use Rattle.std.specs.Prelude.{ℕ, ◌%◌, Bool, cond, not, ◌&&◌, List, [], ◌∷◌, Option, ◌==◌}
use Rattle.std.specs.Bool.{beq}
use Rattle.std.specs.List.{slice_get}
use Rattle.word.specs.declared.conditions.Condition.{Condition}
use Rattle.word.specs.declared.conditions.Condition.TheVariants.{Eq, Ne, Cs, Cc, Mi, Pl, Vs, Vc, Hi, Ls, Ge, Lt, Gt, Le}
use Rattle.word.specs.declared.flags.Flags.{Flags}

-- by their numbers, from 0
abbrev pub conditions : List Condition
conditions = Eq ∷ Ne ∷ Cs ∷ Cc ∷ Mi ∷ Pl ∷ Vs ∷ Vc ∷ Hi ∷ Ls ∷ Ge ∷ Lt ∷ Gt ∷ Le ∷ []

abbrev pub condition_of : ℕ → Option Condition
condition_of n = slice_get conditions n

-- the four bits that encode it
abbrev pub number : Condition → ℕ
number Eq = 0
number Ne = 1
number Cs = 2
number Cc = 3
number Mi = 4
number Pl = 5
number Vs = 6
number Vc = 7
number Hi = 8
number Ls = 9
number Ge = 10
number Lt = 11
number Gt = 12
number Le = 13

-- the base condition, one for each two
abbrev pub base : Condition → Flags → Bool
base Eq f = f.z
base Ne f = f.z
base Cs f = f.c
base Cc f = f.c
base Mi f = f.n
base Pl f = f.n
base Vs f = f.v
base Vc f = f.v
base Hi f = f.c && not f.z
base Ls f = f.c && not f.z
base Ge f = beq f.n f.v
base Lt f = beq f.n f.v
base Gt f = beq f.n f.v && not f.z
base Le f = beq f.n f.v && not f.z

-- ConditionPassed(): the low bit of the number inverts the base condition
abbrev pub passes : Condition → Flags → Bool
passes c f = cond (number c % 2 == 1) (not (base c f)) (base c f)
