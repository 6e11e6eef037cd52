use Rattle.std.proofs.Common.{rules, nat_lt}
use Rattle.std.proofs.lemmas.List.Sorted.{IsPartitionPoint-from_clause, IsPartitionedBy-ltb}
use Rattle.sg_actor_states.specs.declared.joiners.Joiner.{Joiner}
use Rattle.sg_actor_states.specs.kept.Waiting.{rank}
use Rattle.sg_actor_states.proofs.Places.{rises_weakly, place_at}
use Rattle.sg_actor_states.proofs.joiners.place_of.Goals as goal

pub returns : goal.returns
returns c =
    let list = c.args.list.now in
    let found = c.partition_point in
    let point = IsPartitionPoint-from_clause (λ (y : Joiner). nat_lt (rank y) (rank c.args.joiner)) list found.result found.ensures.partitioned (IsPartitionedBy-ltb rank list (rank c.args.joiner) (rises_weakly rank list c.requires)) (λ a r f k. search rules) in
    place_at rank list (rank c.args.joiner) found.result found.ensures.bound point
