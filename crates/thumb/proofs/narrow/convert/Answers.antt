use Rattle.std.proofs.Common.{arith}
use Rattle.thumb.proofs.Settled.{settled, by_prefix}
use Rattle.thumb.proofs.narrow.convert.Goals as goal

pub returns-in-746 : goal.returns-in-746
unfolding settled
returns-in-746 c = by_prefix c.args.x 6 746 c.in-746.is (cc)

pub returns : goal.returns
unfolding settled
returns c =
    elim c.match-x-shr6.branch [
      | goal.in-712 w ↦ by_prefix c.args.x 6 712 (omega arith) (cc)
      | goal.in-713 w ↦ by_prefix c.args.x 6 713 (omega arith) (cc)
      | goal.in-714 w ↦ by_prefix c.args.x 6 714 (omega arith) (cc)
      | goal.in-715 w ↦ by_prefix c.args.x 6 715 (omega arith) (cc)
      | goal.in-744 w ↦ by_prefix c.args.x 6 744 (omega arith) (cc)
      | goal.in-745 w ↦ by_prefix c.args.x 6 745 (omega arith) (cc)
      | goal.in_default w ↦ by_prefix c.args.x 6 747 (omega arith) (cc)
    ]
