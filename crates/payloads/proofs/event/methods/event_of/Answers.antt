use Rattle.std.proofs.Common.{sym}
use Rattle.payloads.specs.Made.{checked-none}
use Rattle.payloads.specs.EventLaws.{event_of-parts}
use Rattle.payloads.proofs.event.methods.event_of.Goals as goal

pub returns-then-event_fits : goal.returns-then-event_fits
returns-then-event_fits c = sym (event_of-parts _)

pub returns-else-event_fits : goal.returns-else-event_fits
returns-else-event_fits c = sym (checked-none _ _ (sym c.if-event_fits.ensures))
