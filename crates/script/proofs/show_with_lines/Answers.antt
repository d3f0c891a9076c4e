use Rattle.std.proofs.Common.{arith}
use Rattle.script.proofs.Fits.{fits}
use Rattle.script.proofs.show_with_lines.Goals as goal

pub returns : goal.returns
returns c = let taken = fits _ _ c.in_ok-burn.ensures.value in omega (arith, taken, c.deref_mut.ensures.len, c.in_ok-flash.ensures.len)
