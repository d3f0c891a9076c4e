use Rattle.std.proofs.Common.{refl, arith}
use Rattle.script.proofs.Fits.{fits}
use Rattle.script.proofs.show_with.Goals as goal

pub returns-clause-fits : goal.returns-clause-fits
returns-clause-fits g c = let taken = fits _ _ c.in_ok-burn.ensures.value in omega (arith, taken, c.deref_mut.ensures.len, c.in_ok-flash_now.ensures.len)

pub returns-clause-printed : goal.returns-clause-printed
returns-clause-printed g c = (_, _, record { shown = _; shows = refl; left = _; met = c.in_ok-print_panel.ensures; leaves = refl })
