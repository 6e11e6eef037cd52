use Rattle.std.proofs.Common.{◌∙◌, ap, false, arith}
use Rattle.std.proofs.lemmas.List.{get_or_default}
use Rattle.std.specs.Int.{from_bool}
use Rattle.sg_sync.specs.Queues.{IsActor}
use Rattle.sg_sync.proofs.Leaving.{went}
use Rattle.sg_sync.proofs.arrivals.Arrivals.leave.Goals as goal

pub invariant_of-self : goal.invariant_of-self
invariant_of-self c =
    let inside = c.self.inside in
    let here = inside.here.items in
    let actor : IsActor inside.queues.actors c.args.actor = rw (← c.self.view_is) at c.requires in
    rw c.leave.ensures
    (went inside.queues here inside.len c.from.result c.args.actor c.self.invariant actor
    (c.from.ensures ∙ ap from_bool (c.index.ensures ∙ get_or_default here c.args.actor.0 c.index.result.now false (omega (arith, c.self.invariant.places, actor.1)))))
