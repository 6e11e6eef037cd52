use Rattle.std.proofs.Common.{subst, List}
use Rattle.std.specs.Prelude.{Contains}
use Rattle.sg_base.specs.declared.ids.ActorId.{ActorId}
use Rattle.sg_actor_states.specs.kept.Places.{IsPlace}
use Rattle.sg_actor_states.proofs.Joins.{id_of, queue_joined, queue_there}
use Rattle.sg_actor_states.proofs.queue.join_in_order.Goals as goal

pub returns-in-Ok-clause-queue : goal.returns-in-Ok-clause-queue
returns-in-Ok-clause-queue c = λ actors next id old.
    let found = subst (λ (queue : List ActorId). IsPlace id_of queue c.args.actor.0 c.in-Some.place × (Contains queue c.args.actor → ⊥)) c.deref.ensures.value c.in-Some.ensures in
    rw c.in-Ok.ensures.items (queue_joined actors c.args.queue.now.items c.args.actor next c.in-Some.place found.0 found.1 id old)

pub returns-in_default-clause-queue : goal.returns-in_default-clause-queue
returns-in_default-clause-queue c = λ actors next id old. queue_there actors c.args.queue.now.items c.args.actor next (subst (λ (queue : List ActorId). Contains queue c.args.actor) c.deref.ensures.value c.in_default.ensures) id old
