use Rattle.std.proofs.Common.{◌-◌, refl, sym, subst, ap, arith}
use Rattle.sg_actor_states.specs.Actors.{actor_at}
use Rattle.sg_actor_states.specs.Records.{IsTellable}
use Rattle.sg_actor_states.specs.States.{ActorStates, CanCall}
use Rattle.sg_actor_states.specs.declared.state.Actor.{Actor}
use Rattle.sg_actor_states.specs.declared.state.State.TheVariants.{Blocked}
use Rattle.sg_actor_states.specs.kept.Fields.{states_of}
use Rattle.sg_actor_states.specs.kept.Standing.{Standing}
use Rattle.sg_actor_states.proofs.Keeping.{answered_idle, kept_change}
use Rattle.sg_actor_states.proofs.states.States.block.Goals as goal

pub invariant_of-self : goal.invariant_of-self
invariant_of-self c =
    let o = c.self.inside in
    let id = c.args.actor.0 in
    let old = states_of o.actors o.mutexes o.semaphores o.crowd o.records.items o.room in
    let able : CanCall old id = subst (λ (s : ActorStates). CanCall s id) (sym c.self.view_is) c.requires.able in
    let what = subst (λ (s : ActorStates). IsTellable s.extent c.args.what) (sym c.self.view_is) c.requires.what in
    let next : Actor = record { state = Blocked c.args.what c.args.date c.args.on; suspended = (actor_at o.crowd.actors id).suspended } in
    let caller = able.caller in
    kept_change old _ _ _ _ id next _ o.records.items (o.room - 1) _ _ (record { from = caller.from; to = caller.to }) (ap (λ (s : Standing). s.actors) c.put_blocked.ensures) what c.self.invariant.records_limited
    refl (omega (arith, able.room, (answered_idle (actor_at o.crowd.actors id).state caller.ready).0)) c.self.invariant
