use Rattle.std.proofs.Common.{arith}
use Rattle.sg_actor_states.proofs.Waits.{none_joined, waiting_room}
use Rattle.sg_actor_states.proofs.joiners.follow.Goals as goal

pub enter-requires-clause-room : goal.enter-requires-clause-room
enter-requires-clause-room c =
    let list = c.args.list.now in
    omega (arith, waiting_room c.args.actors.now list.items c.args.actor c.requires.actor (none_joined c.args.actors.now c.args.actor c.index.result _ c.joined.result c.requires.actor c.index.ensures c.joined.ensures c.in-None-Some.is-0) c.requires.waiting, c.requires.room, list.ok.0)
