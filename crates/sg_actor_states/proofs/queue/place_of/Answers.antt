use Rattle.std.proofs.Common.{◌∙◌, ap, rules, arith, nat_lt}
use Rattle.std.proofs.lemmas.List.{get_or_default}
use Rattle.std.proofs.lemmas.List.Sorted.{IsPartitionPoint-from_clause, IsPartitionedBy-ltb}
use Rattle.sg_base.specs.declared.ids.ActorId.{ActorId}
use Rattle.sg_actor_states.specs.kept.Places.{IsPlace}
use Rattle.sg_actor_states.proofs.Joins.{id_of, nowhere}
use Rattle.sg_actor_states.proofs.Places.{rises_weakly, place_at}
use Rattle.sg_actor_states.proofs.queue.place_of.Goals as goal
use Rattle.sg_actor_states.proofs.queue.place_of.Goals.{else-place-queue-via-then-place-queue+else-queue-place, else-place-queue-via-else-place-queue}

pub returns : goal.returns
returns c =
    let queue = c.args.queue.now in
    let place = c.partition_point-place.result in
    let point = IsPartitionPoint-from_clause (λ (y : ActorId). nat_lt y.0 c.args.actor.0) queue place c.partition_point-place.ensures.partitioned (IsPartitionedBy-ltb id_of queue c.args.actor.0 (rises_weakly id_of queue c.requires)) (λ a r f k. search rules) in
    let is : IsPlace id_of queue c.args.actor.0 place = place_at id_of queue c.args.actor.0 place c.partition_point-place.ensures.bound point in
    elim c.else-place-queue.branch [
      | else-place-queue-via-then-place-queue+else-queue-place w ↦
          (is, nowhere queue c.args.actor place c.requires is (λ d within same. w.if-queue-place.false (ap id_of (get_or_default queue place (record { 0 = 0 }) d within) ∙ same)))
      | else-place-queue-via-else-place-queue w ↦
          (is, nowhere queue c.args.actor place c.requires is (λ d within same. omega (arith, within, w.if-place-queue.false)))
    ]
