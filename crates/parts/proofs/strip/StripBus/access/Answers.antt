use Rattle.std.proofs.Common.{sym}
use Rattle.parts.proofs.Strips.{strip_read, strip_write}
use Rattle.parts.proofs.strip.StripBus.access.Goals as goal

pub returns-then-is_write-clause-contents : goal.returns-then-is_write-clause-contents
returns-then-is_write-clause-contents c =
    strip_write c.args.self.now c.args.access c.width-width.result c.in_ok-at.at c.in_ok-at.ensures c.width-width.ensures c.put.new.bytes c.args.value (sym c.if-is_write.ensures) c.put.ensures

pub returns-clause-value : goal.returns-clause-value
returns-clause-value c =
    strip_read c.args.self.now c.args.access c.width-width.result c.in_ok-at.at c.in_ok-at.ensures c.width-width.ensures c.value.result (sym c.if-is_write.ensures) c.value.ensures
