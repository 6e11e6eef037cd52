use Rattle.std.proofs.Common.{ℕ, List, [], ◌∙◌, ap}
use Rattle.sg_base.specs.declared.awaits.Await.{Await}
use Rattle.sg_queues.specs.Queues.{values_of}
use Rattle.sg_queues.proofs.Values.{no_values}
use Rattle.sg_requests.proofs.requests.Requests.new.Goals as goal

pub returns : goal.returns
returns c =
    let kept : List (List Await) = values_of c.in_ok-queues_of.field-0.queues in
    ap (λ (l : List ℕ). record { queues = kept; asked = 0; room = 0; awaited = l }) c.in_ok-with_capacity.ensures.items
    ∙ ap (λ l. record { queues = values_of l; asked = 0; room = 0; awaited = [] }) (ap (λ q. q.queues) c.in_ok-queues_of.ensures)
    ∙ ap (λ l. record { queues = l; asked = 0; room = 0; awaited = [] }) (no_values c.args.actors)
