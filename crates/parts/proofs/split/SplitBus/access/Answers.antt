use Rattle.std.proofs.Common.{true, false, refl, ap, ◌∙◌, rules}
use Rattle.parts.specs.Hop.{handed_up_answer}
use Rattle.parts.proofs.Splits.{split_value, split_contents}
use Rattle.parts.proofs.split.SplitBus.access.Goals as goal

pub returns-then-access-self-clause-value : goal.returns-then-access-self-clause-value
returns-then-access-self-clause-value g c =
    let s = c.args.self.now in
    c.hand_up.ensures ∙ ap handed_up_answer c.access.ensures.value
    ∙ split_value s.limit (g.L.Bus.verdict s.lower) (g.U.Bus.verdict s.upper) c.args.access true (search rules) (search rules) (g.L.Bus.bytes s.lower) (g.U.Bus.bytes s.upper)

pub returns-then-access-self-clause-contents : goal.returns-then-access-self-clause-contents
returns-then-access-self-clause-contents g c =
    let s = c.args.self.now in
    let m₁ = g.L.Bus.bytes s.lower in
    let m₂ = g.U.Bus.bytes s.upper in
    split_contents s.limit (g.L.Bus.verdict s.lower) (g.U.Bus.verdict s.upper) c.args.access true (search rules) (search rules) m₁ m₂ (g.L.Bus.bytes c.access.new.self) m₂ c.args.value refl c.access.ensures.contents

pub returns-else-access-self-clause-value : goal.returns-else-access-self-clause-value
returns-else-access-self-clause-value g c =
    let s = c.args.self.now in
    c.hand_up-else-access-self.ensures ∙ ap handed_up_answer c.access-else-access-self.ensures.value
    ∙ split_value s.limit (g.L.Bus.verdict s.lower) (g.U.Bus.verdict s.upper) c.args.access false (search rules) (search rules) (g.L.Bus.bytes s.lower) (g.U.Bus.bytes s.upper)

pub returns-else-access-self-clause-contents : goal.returns-else-access-self-clause-contents
returns-else-access-self-clause-contents g c =
    let s = c.args.self.now in
    let m₁ = g.L.Bus.bytes s.lower in
    let m₂ = g.U.Bus.bytes s.upper in
    split_contents s.limit (g.L.Bus.verdict s.lower) (g.U.Bus.verdict s.upper) c.args.access false (search rules) (search rules) m₁ m₂ m₁ (g.U.Bus.bytes c.access-else-access-self.new.self) c.args.value refl c.access-else-access-self.ensures.contents
