use Rattle.std.proofs.Common.{List, subst}
use Rattle.sg_actor_states.specs.declared.joiners.Joiner.{Joiner}
use Rattle.sg_actor_states.specs.kept.Places.{IsPlace}
use Rattle.sg_actor_states.specs.kept.Waiting.{rank}
use Rattle.sg_actor_states.proofs.Waits.{waiting_entered}
use Rattle.sg_actor_states.proofs.joiners.enter.Goals as goal

pub returns-clause-waiting : goal.returns-clause-waiting
returns-clause-waiting c = λ actors next few is isnt now old.
    let place = c.place_of-place.result in
    let joiner : Joiner = record { of = c.args.of; actor = c.args.actor } in
    let found = subst (λ (list : List Joiner). IsPlace rank list (rank joiner) place) c.deref.ensures.value c.place_of-place.ensures in
    rw c.in-Ok.ensures.items (waiting_entered actors c.args.list.now.items c.args.of c.args.actor next place few is isnt now found old)
