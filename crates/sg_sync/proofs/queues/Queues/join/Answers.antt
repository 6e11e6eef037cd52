use Rattle.std.proofs.Common.{◌<◌, ◌≤◌, ◌∙◌, ap, suc, length, arith, rules}
use Rattle.std.specs.Prelude.{map}
use Rattle.std.proofs.lemmas.List.{length-map}
use Rattle.sg_queues.specs.Rings as rings
use Rattle.sg_queues.specs.Rings.{Rings}
use Rattle.sg_queues.proofs.Rows.{short}
use Rattle.sg_sync.specs.kept.Slots.{actor_of, waiting_in}
use Rattle.sg_queues.proofs.Lists.{joined_of}
use Rattle.sg_sync.proofs.Slots.{alone_is, waiting_at}
use Rattle.sg_sync.proofs.queues.Queues.join.Goals as goal

pub join-requires : goal.join-requires
join-requires c = record {
  slot = search rules;
  alone = alone_is c.self.inside.rings c.args.actor c.self.invariant.idle (rw (← c.self.view_is) at c.requires.joins.free);
  queue =
      let below : c.args.queue < length (waiting_in c.self.inside.rings.queues) = rw (← c.self.view_is) at c.requires.queue in
      omega (arith, below, length-map c.self.inside.rings.queues (map actor_of));
}

pub returns-clause-joined : goal.returns-clause-joined
returns-clause-joined c =
    let inside = c.self.inside in
    rw (← c.self.view_is)
    (ap (λ queues. record { actors = inside.actors; queues = queues }) (ap (λ (r : Rings). waiting_in r.queues) c.join.ensures.joined ∙ joined_of actor_of c.args.actor.0 c.args.queue inside.rings.queues))

pub returns-clause-few : goal.returns-clause-few
returns-clause-few c =
    let new = c.join.new.self in
    let few : length (rings.queue_at new.queues c.args.queue) ≤ new.nodes = short c.join.ensures.apart (suc c.args.queue) in
    rw (← c.self.view_is, waiting_at new.queues c.args.queue)
    (omega (arith, few, ap (λ (r : Rings). r.nodes) c.join.ensures.joined, c.self.invariant.nodes, length-map c.self.inside.rings.queues (map actor_of), length-map (rings.queue_at new.queues c.args.queue) actor_of))
