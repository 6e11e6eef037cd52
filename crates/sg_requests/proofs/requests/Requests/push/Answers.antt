use Rattle.std.proofs.Common.{◌∙◌, ◌+◌, ◌-◌, ap}
use Rattle.sg_queues.specs.Queues.{values_of, queued}
use Rattle.sg_queues.proofs.Values.{queued_values}
use Rattle.sg_requests.proofs.requests.Requests.push.Goals as goal

pub returns : goal.returns
returns c =
    let inside = c.self.inside in
    rw (← c.self.view_is)
    (ap (λ l. record { queues = l; asked = inside.asked + 1; room = inside.room - 1; awaited = inside.awaited.items })
    (ap values_of c.push_back.ensures.queues ∙ ap (λ place. values_of (queued inside.queues.queues place (c.push_back.result, c.args.request))) c.index.ensures ∙ queued_values inside.queues.queues (c.args.actor.0 - 1) c.push_back.result c.args.request))
