use Rattle.std.proofs.Common.{length, ap, ◌∙◌}
use Rattle.parts.specs.RegionCheck.{covered_by, passes_by}
use Rattle.parts.proofs.Deciders.{greatest_of_none}
use Rattle.parts.proofs.Regions.{one_decider}
use Rattle.parts.proofs.region_check.RegionCheck.lets_pass.Goals as goal

pub returns-clause-uncovered : goal.returns-clause-uncovered
returns-clause-uncovered g c =
    let regions = c.args.self.now.table.regions in
    let background = c.args.self.now.background in
    let a = c.args.access in
    λ none. c.passes_regions.ensures ∙ ap (λ o. passes_by o regions background a) (greatest_of_none (covered_by regions a.address) (length regions) none)

pub returns-clause-whole : goal.returns-clause-whole
returns-clause-whole g c = one_decider c.args.self.now.table.regions c.args.access
