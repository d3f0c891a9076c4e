use Rattle.std.proofs.Common.{◌<◌, length, get_or, sym, refl, rules}
use Rattle.parts.proofs.Panels.{panel_read, panel_write}
use Rattle.parts.proofs.panel.PanelBus.access.Goals as goal

pub returns-then-is_write-clause-contents : goal.returns-then-is_write-clause-contents
returns-then-is_write-clause-contents c =
    let p = c.args.self.now in
    let at = c.in_ok-at.at in
    let short : at < length p.words = search rules in
    panel_write p c.args.access at c.in_ok-at.ensures c.args.value (sym c.if-is_write.ensures) short

pub returns-clause-value : goal.returns-clause-value
returns-clause-value c =
    let p = c.args.self.now in
    let at = c.in_ok-at.at in
    panel_read p c.args.access at c.in_ok-at.ensures (get_or p.words at 0) (sym c.if-is_write.ensures) refl (search rules)
