use Rattle.std.proofs.Common.{rules}
use Rattle.bus.proofs.Answer.{answer_value}
use Rattle.bus.proofs.Memory.{load_below}
use Rattle.bus.proofs.interface.Bus.fetch.Goals as goal

-- two bytes are below 2 ^ 16
pub overflow_cast-result : goal.overflow_cast-result
overflow_cast-result g c =
    let bus = g.Self.Bus in
    let s = c.args.self.now in
    let loaded = answer_value _ _ _ c.in_ok-halfword.ensures.value in
    let below = load_below (bus.bytes s) (bus.laws.byte s) 2 c.args.address in
    search rules
