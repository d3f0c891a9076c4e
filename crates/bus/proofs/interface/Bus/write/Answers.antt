use Rattle.std.proofs.Common.{ap, ◌∙◌}
use Rattle.bus.specs.Access.{size}
use Rattle.bus.specs.Meaning.{Verdict, after}
use Rattle.bus.specs.Memory.{Bytes, load, store}
use Rattle.bus.proofs.Answer.{answer_allowed}
use Rattle.bus.proofs.Memory.{store_outside, load_store}
use Rattle.bus.proofs.interface.Bus.write.Goals as goal

-- allowed, the bytes are those of the store, and the laws of a store say the rest
pub returns-clause-untouched : goal.returns-clause-untouched
returns-clause-untouched g c =
    let bus = g.Self.Bus in
    let m : Bytes = bus.bytes c.args.self.now in
    let n = size c.args.width in
    let kept = c.in_ok-access.ensures in
    let stored = kept.contents ∙ ap (λ (w : Verdict). after w (store n m c.args.address c.args.value) m) (answer_allowed _ _ _ kept.value) in
    λ k out. ap (λ (m' : Bytes). m' k) stored ∙ store_outside n m c.args.address c.args.value k out

pub returns-clause-stored : goal.returns-clause-stored
returns-clause-stored g c =
    let bus = g.Self.Bus in
    let m : Bytes = bus.bytes c.args.self.now in
    let n = size c.args.width in
    let kept = c.in_ok-access.ensures in
    let stored = kept.contents ∙ ap (λ (w : Verdict). after w (store n m c.args.address c.args.value) m) (answer_allowed _ _ _ kept.value) in
    λ _. ap (λ (m' : Bytes). load n m' c.args.address) stored ∙ load_store n m c.args.address c.args.value
