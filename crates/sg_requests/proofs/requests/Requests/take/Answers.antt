use Rattle.std.proofs.Common.{◌-◌, ◌∙◌, List, ap}
use Rattle.sg_base.specs.declared.awaits.Await.{Await}
use Rattle.sg_queues.specs.Queues.{values_of, shortened}
use Rattle.sg_queues.proofs.Values.{shortened_values}
use Rattle.sg_requests.proofs.requests.Requests.take.Goals as goal

pub returns-clause-rest : goal.returns-clause-rest
returns-clause-rest c =
    let inside = c.self.inside in
    rw (← c.self.view_is)
    (ap (λ (l : List (List Await)). record { queues = l; asked = inside.asked; room = inside.room; awaited = inside.awaited.items })
    (ap values_of c.pop_front.ensures.rest ∙ ap (λ place. values_of (shortened inside.queues.queues place)) c.index.ensures ∙ shortened_values inside.queues.queues (c.args.actor.0 - 1)))
