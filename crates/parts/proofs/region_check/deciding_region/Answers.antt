use Rattle.std.proofs.Common.{length, arith}
use Rattle.std.proofs.lemmas.Grind.{common_steps}
use Rattle.parts.specs.RegionCheck.{covered_by, Decides}
use Rattle.parts.proofs.Deciders.{decides_greatest}
use Rattle.parts.proofs.region_check.deciding_region.Goals as goal

pub returns : goal.returns
returns c =
    let test = covered_by c.args.regions.now c.args.address in
    let highest : Decides test (length c.args.regions.now) c.rposition.result = grind (arith, common_steps) in
    record { value = decides_greatest test (length c.args.regions.now) c.rposition.result highest; highest = highest }
