-- What the flash takes is no longer than it.
use Rattle.std.proofs.Common.{◌≡◌, ℕ, ◌≤◌, cond, leb, Ok, Err, Result, arith}
use Rattle.std.proofs.lemmas.Bool.Decides.{nat_tests}
use Rattle.bus.specs.declared.refusal.Refusal.{Refusal}
use Rattle.bus.specs.declared.refusal.Refusal.TheVariants.{BadSetting}

pub fits : (n m : ℕ) → ◌≡◌ {A = Result (Unit {0}) Refusal} (Ok tt) (cond (leb n m) (Ok tt) (Err BadSetting)) → n ≤ m
fits n m e = grind (arith, nat_tests)
