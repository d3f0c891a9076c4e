use Rattle.std.proofs.Common.{◌≡◌, sym, ap, ◌∙◌, subst, rules}
use Rattle.memory.specs.Flats.{neighbour, flat_regions, handed_to, Spare, Shut}
use Rattle.memory.specs.declared.regions.Turn.TheVariants.{Runs, Waits}
use Rattle.memory.proofs.Shut.{neighbour_shut, still_spare}
use Rattle.memory.proofs.regions.hand_to.Goals as goal

pub returns : goal.returns
returns g c =
    let shut : c.set_flat.new.hub.table.regions ≡ flat_regions c.args.hub.now.table.regions (neighbour c.args.flat) Waits = search rules in
    let handed : c.set_flat-2.new.hub.table.regions ≡ handed_to c.args.hub.now.table.regions c.args.flat =
    c.set_flat-2.ensures.regions ∙ ap (λ regions. flat_regions regions c.args.flat Runs) shut
    in record {
      value = search rules;
      regions = handed;
      shut = λ spare. (
        subst (Shut (neighbour c.args.flat)) (sym handed) (neighbour_shut c.args.flat _ spare),
        subst Spare (sym handed) (still_spare c.args.flat _ spare),
      );
      rest = search rules;
    }
