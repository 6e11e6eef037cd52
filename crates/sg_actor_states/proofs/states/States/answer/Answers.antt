use Rattle.std.proofs.Common.{◌-◌, sym, subst, ap, arith}
use Rattle.sg_base.specs.Limits.{IsAnswer}
use Rattle.sg_actor_states.specs.Actors.{actor_at}
use Rattle.sg_actor_states.specs.Records.{IsTellable}
use Rattle.sg_actor_states.specs.States.{ActorStates, CanCall}
use Rattle.sg_actor_states.specs.declared.state.Actor.{Actor}
use Rattle.sg_actor_states.specs.declared.state.State.TheVariants.{Ready}
use Rattle.sg_actor_states.specs.kept.Fields.{states_of}
use Rattle.sg_actor_states.specs.kept.Standing.{Standing}
use Rattle.sg_actor_states.proofs.Keeping.{answered_idle, kept_change}
use Rattle.sg_actor_states.proofs.MadeRecords.{record_limited, records_more}
use Rattle.sg_actor_states.proofs.states.States.answer.Goals as goal

pub invariant_of-self : goal.invariant_of-self
invariant_of-self c =
    let o = c.self.inside in
    let id = c.args.actor.0 in
    let old = states_of o.actors o.mutexes o.semaphores o.crowd o.records.items o.room in
    let able : CanCall old id = subst (λ (s : ActorStates). CanCall s id) (sym c.self.view_is) c.requires.able in
    let what = subst (λ (s : ActorStates). IsTellable s.extent c.args.what) (sym c.self.view_is) c.requires.what in
    let answer = subst (λ (s : ActorStates). IsAnswer s.extent c.args.answer) (sym c.self.view_is) c.requires.answer in
    let kept = c.self.invariant in
    let caller = able.caller in
    let made = record_limited old.extent c.args.actor c.args.what c.args.date c.args.bytes c.args.answer c.args.date (caller.from, omega (arith, caller.to, kept.number)) what c.requires.bytes c.requires.date in
    let next : Actor = record { state = Ready c.args.answer; suspended = (actor_at o.crowd.actors id).suspended } in
    kept_change old _ _ _ _ id next _ _ (o.room - 1) _ _ (record { from = caller.from; to = caller.to }) (ap (λ (s : Standing). s.actors) c.put_answer.ensures) answer
    (records_more old.extent o.records.items _ c.record_of.result _ c.push_reserved.ensures.items c.record_of.ensures made kept.records_limited)
    c.push_reserved.ensures.capacity (omega (arith, c.push_reserved.ensures.len, able.room, (answered_idle (actor_at o.crowd.actors id).state caller.ready).0)) kept
