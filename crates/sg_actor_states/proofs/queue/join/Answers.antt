use Rattle.std.proofs.Common.{sym, subst, arith}
use Rattle.sg_actor_states.specs.Actors.{put_actor}
use Rattle.sg_actor_states.specs.kept.Standing.{IsQueued}
use Rattle.sg_actor_states.proofs.Joins.{queue_room}
use Rattle.sg_actor_states.proofs.Queues.{answered_room}
use Rattle.sg_actor_states.proofs.queue.join.Goals as goal

pub push_reserved-requires : goal.push_reserved-requires
push_reserved-requires c =
    let actors = c.args.actors.now in
    let queue = c.args.queue.now in
    let answered = subst (λ p. IsQueued p actors queue.items) c.if-passing.true c.requires.follows.queued in
    omega (arith, answered_room actors queue.items c.args.actor.0 c.requires.follows.actor.0 c.requires.follows.actor.1 c.requires.idle answered, c.requires.follows.room, queue.ok.0)

pub join_in_order-requires-clause-room : goal.join_in_order-requires-clause-room
join_in_order-requires-clause-room c = λ none.
    let actors = c.args.actors.now in
    let queue = c.args.queue.now in
    let queued = subst (λ p. IsQueued p actors queue.items) c.if-passing.false c.requires.follows.queued in
    omega (arith, queue_room actors queue.items c.args.actor queued c.requires.follows.actor none, c.requires.follows.room, queue.ok.0)

pub returns-else-passing : goal.returns-else-passing
returns-else-passing c = record {
  queued = λ next ready.
      let actors = c.args.actors.now in
      let actor = c.args.actor in
      let queued = subst (λ p. IsQueued p actors c.args.queue.now.items) c.if-passing.false c.requires.follows.queued in
      subst (λ p. IsQueued p (put_actor actors actor.0 next) c.join_in_order.new.queue.items) (sym c.if-passing.false) (c.join_in_order.ensures.queue actors next c.requires.follows.actor queued);
  capacity = c.join_in_order.ensures.capacity;
}
