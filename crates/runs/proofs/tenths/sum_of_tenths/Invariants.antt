use Rattle.std.proofs.Common.{◌≡◌, ◌*◌, pos, neg_ℤ, ◌≤ℤ◌}
use Rattle.runs.specs.Tenths.{sum_of_first}
use Rattle.runs.proofs.tenths.sum_of_tenths.Given as goal

-- each word adds at most 2 ^ 32 on either side
abbrev pub invariant-loop-word : goal.invariant-loop-word
invariant-loop-word l = (l.sum ≡ sum_of_first l.word-index l.panel.words) × (l.sum ≤ℤ pos (4294967296 * l.word-index)) × (neg_ℤ (pos (4294967296 * l.word-index)) ≤ℤ l.sum)
