use Rattle.std.proofs.Common.{arith}
use Rattle.thumb.proofs.Settled.{settled, by_prefix}
use Rattle.thumb.proofs.narrow.data.Goals as goal

pub returns : goal.returns
unfolding settled
returns c =
    elim c.match-x-shr6.branch [
      | goal.in-256 w ↦ by_prefix c.args.x 6 256 (omega arith) (cc)
      | goal.in-257 w ↦ by_prefix c.args.x 6 257 (omega arith) (cc)
      | goal.in-258 w ↦ by_prefix c.args.x 6 258 (omega arith) (cc)
      | goal.in-259 w ↦ by_prefix c.args.x 6 259 (omega arith) (cc)
      | goal.in-260 w ↦ by_prefix c.args.x 6 260 (omega arith) (cc)
      | goal.in-261 w ↦ by_prefix c.args.x 6 261 (omega arith) (cc)
      | goal.in-262 w ↦ by_prefix c.args.x 6 262 (omega arith) (cc)
      | goal.in-263 w ↦ by_prefix c.args.x 6 263 (omega arith) (cc)
      | goal.in-264 w ↦ by_prefix c.args.x 6 264 (omega arith) (cc)
      | goal.in-265 w ↦ by_prefix c.args.x 6 265 (omega arith) (cc)
      | goal.in-266 w ↦ by_prefix c.args.x 6 266 (omega arith) (cc)
      | goal.in-267 w ↦ by_prefix c.args.x 6 267 (omega arith) (cc)
      | goal.in-268 w ↦ by_prefix c.args.x 6 268 (omega arith) (cc)
      | goal.in-269 w ↦ by_prefix c.args.x 6 269 (omega arith) (cc)
      | goal.in-270 w ↦ by_prefix c.args.x 6 270 (omega arith) (cc)
      | goal.in_default w ↦ by_prefix c.args.x 6 271 (omega arith) (cc)
    ]
