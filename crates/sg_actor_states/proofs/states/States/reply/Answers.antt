use Rattle.std.proofs.Common.{IsTrue, sym, subst, ap, arith}
use Rattle.sg_base.specs.Limits.{IsAnswer}
use Rattle.sg_actor_states.specs.Actors.{actor_at, is_blocked, state_at, IsActor}
use Rattle.sg_actor_states.specs.Records.{IsTellable}
use Rattle.sg_actor_states.specs.States.{ActorStates}
use Rattle.sg_actor_states.specs.declared.state.Actor.{Actor}
use Rattle.sg_actor_states.specs.declared.state.State.TheVariants.{Ready}
use Rattle.sg_actor_states.specs.kept.Fields.{states_of}
use Rattle.sg_actor_states.specs.kept.Standing.{Standing}
use Rattle.sg_actor_states.proofs.Keeping.{kept_change, one_if}
use Rattle.sg_actor_states.proofs.MadeRecords.{record_limited, records_more}
use Rattle.sg_actor_states.proofs.states.States.reply.Goals as goal

pub invariant_of-self : goal.invariant_of-self
invariant_of-self c =
    let o = c.self.inside in
    let id = c.args.actor.0 in
    let old = states_of o.actors o.mutexes o.semaphores o.crowd o.records.items o.room in
    let is : IsActor old.actors id = subst (λ (s : ActorStates). IsActor s.actors id) (sym c.self.view_is) c.requires.actor in
    let blocked = subst (λ (s : ActorStates). IsTrue (is_blocked (state_at s.actors id))) (sym c.self.view_is) c.requires.blocked in
    let what = subst (λ (s : ActorStates). IsTellable s.extent c.args.blocking.what) (sym c.self.view_is) c.requires.what in
    let answer = subst (λ (s : ActorStates). IsAnswer s.extent c.args.answer) (sym c.self.view_is) c.requires.answer in
    let kept = c.self.invariant in
    let made = record_limited old.extent c.args.actor c.args.blocking.what c.args.blocking.since c.args.bytes c.args.answer c.args.date (is.from, omega (arith, is.to, kept.number)) what c.requires.bytes c.requires.date in
    let next : Actor = record { state = Ready c.args.answer; suspended = (actor_at o.crowd.actors id).suspended } in
    kept_change old _ _ _ _ id next _ _ o.room _ _ is (ap (λ (s : Standing). s.actors) c.put_reply.ensures) answer
    (records_more old.extent o.records.items _ c.record_of.result _ c.push_reserved.ensures.items c.record_of.ensures made kept.records_limited)
    c.push_reserved.ensures.capacity (omega (arith, c.push_reserved.ensures.len, ap one_if blocked)) kept
