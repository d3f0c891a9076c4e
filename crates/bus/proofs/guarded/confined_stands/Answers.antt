use Rattle.std.proofs.Common.{◌≡◌, true}
use Rattle.bus.proofs.Isolation.{confined}
use Rattle.bus.proofs.guarded.confined_stands.Goals as goal

pub returns : goal.returns
returns g c parts = confined (λ a b. parts a b ≡ true)
