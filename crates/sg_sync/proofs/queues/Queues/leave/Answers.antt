use Rattle.std.proofs.Common.{◌∙◌, ap}
use Rattle.sg_queues.specs.Rings.{Rings}
use Rattle.sg_sync.specs.kept.Slots.{waiting_in}
use Rattle.sg_sync.proofs.Slots.{left_is}
use Rattle.sg_sync.proofs.queues.Queues.leave.Goals as goal

pub returns : goal.returns
returns c =
    let inside = c.self.inside in
    rw (← c.self.view_is) (ap (λ queues. record { actors = inside.actors; queues = queues }) (ap (λ (r : Rings). waiting_in r.queues) c.leave.ensures.left ∙ left_is inside.rings.queues c.args.actor))
