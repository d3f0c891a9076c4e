use Rattle.std.proofs.Common.{◌≡◌, true}
use Rattle.bus.proofs.Isolation.{twins}
use Rattle.bus.proofs.guarded.twins_stand.Goals as goal

pub returns : goal.returns
returns g c parts = twins (λ a b. parts a b ≡ true)
