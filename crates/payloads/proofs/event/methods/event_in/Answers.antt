use Rattle.std.proofs.Common.{◌/◌, ◌%◌, ◌^◌, sym}
use Rattle.payloads.specs.EventLaws.{detail_far}
use Rattle.payloads.proofs.event.methods.event_in.Goals as goal

pub returns-then-detail-gt255 : goal.returns-then-detail-gt255
returns-then-detail-gt255 c =
    let w = c.args.first in
    sym (detail_far (w % 2 ^ 16) (w / 2 ^ 16) c.args.detail c.if-detail-gt255.true)
