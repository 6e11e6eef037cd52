use Rattle.std.proofs.Common.{ap, arith}
use Rattle.sg_activity.specs.Doing.{Doing}
use Rattle.sg_requests.specs.Requested.{Requested}
use Rattle.sg_actor_states.specs.States.{ActorStates}
use Rattle.sg_mailbox.specs.Owners.{Owned}
use Rattle.sg_kernel.proofs.Rooms.{whole_roomier}
use Rattle.sg_kernel.proofs.kernel.Kernel.make_room.Goals as goal

pub invariant_of-self-2 : goal.invariant_of-self-2
invariant_of-self-2 c =
    let most = c.reserve_round.ensures.most in
    let states = c.reserve_round.ensures.kept in
    whole_roomier c.self.inside.fields c.reserve.new.self c.reserve-2.new.self c.reserve-3.new.self c.reserve-4.new.self c.reserve_round.new.self (record {
      tasks = ap (λ (d : Doing). d.under) c.reserve.ensures.kept;
      owners = ap (λ (o : Owned). o.whose) c.reserve-2.ensures.kept;
      mailboxes = c.reserve-3.ensures.kept;
      queues = ap (λ (r : Requested). r.queues) c.reserve-4.ensures.kept;
      asked = ap (λ (r : Requested). r.asked) c.reserve-4.ensures.kept;
      actors = ap (λ (s : ActorStates). s.actors) states;
      extent_is = ap (λ (s : ActorStates). s.extent) states;
      passing = ap (λ (s : ActorStates). s.passing) states;
      starts_room = omega (arith, most, (c.in_ok-reserve.ensures {u = tt}).room);
      owners_room = omega (arith, most, (c.in_ok-reserve-2.ensures {u = tt}).room);
      mailboxes_room = omega (arith, most, (c.in_ok-reserve-3.ensures {u = tt}).room);
      requests_room = omega (arith, most, (c.in_ok-reserve-4.ensures {u = tt}).room);
    }) c.self.invariant
