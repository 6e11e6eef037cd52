use Rattle.std.proofs.Common.{refl, ap, arith}
use Rattle.sg_actor_states.specs.States.{ActorStates}
use Rattle.sg_kernel.proofs.Rooms.{whole_roomier}
use Rattle.sg_kernel.proofs.kernel.Kernel.reserve_round.Goals as goal

pub invariant_of-self : goal.invariant_of-self
invariant_of-self c =
    let fields = c.self.inside.fields in
    let states = c.keep_ready.ensures in
    let roomy = c.self.invariant.roomy in
    let room = ap (λ (s : ActorStates). s.room) states in
    whole_roomier fields fields.doing fields.whose fields.boxes fields.requests c.keep_ready.new.self (record {
      tasks = refl;
      owners = refl;
      mailboxes = λ mailbox. refl;
      queues = refl;
      asked = refl;
      actors = ap (λ (s : ActorStates). s.actors) states;
      extent_is = ap (λ (s : ActorStates). s.extent) states;
      passing = ap (λ (s : ActorStates). s.passing) states;
      starts_room = omega (arith, room, roomy.starts);
      owners_room = omega (arith, room, roomy.owners);
      mailboxes_room = omega (arith, room, roomy.mailboxes);
      requests_room = omega (arith, room, roomy.requests);
    }) c.self.invariant
