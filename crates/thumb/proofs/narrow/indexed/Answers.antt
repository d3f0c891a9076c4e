use Rattle.std.proofs.Common.{arith}
use Rattle.thumb.proofs.Settled.{settled, by_prefix}
use Rattle.thumb.proofs.narrow.indexed.Goals as goal

pub returns : goal.returns
unfolding settled
returns c =
    elim c.match-x-shr9.branch [
      | goal.in-40 w ↦ by_prefix c.args.x 9 40 (omega arith) (cc)
      | goal.in-41 w ↦ by_prefix c.args.x 9 41 (omega arith) (cc)
      | goal.in-42 w ↦ by_prefix c.args.x 9 42 (omega arith) (cc)
      | goal.in-43 w ↦ by_prefix c.args.x 9 43 (omega arith) (cc)
      | goal.in-44 w ↦ by_prefix c.args.x 9 44 (omega arith) (cc)
      | goal.in-45 w ↦ by_prefix c.args.x 9 45 (omega arith) (cc)
      | goal.in-46 w ↦ by_prefix c.args.x 9 46 (omega arith) (cc)
      | goal.in_default w ↦ by_prefix c.args.x 9 47 (omega arith) (cc)
    ]
