use Rattle.std.proofs.Common.{◌≡◌, drop, refl, sym, ap, subst, ◌∙◌, arith, false, rules}
use Rattle.sg_base.specs.declared.call.Answer.TheVariants as answer
use Rattle.sg_actor_states.specs.declared.state.Actor.{Actor}
use Rattle.sg_actor_states.specs.declared.state.State.TheVariants.{Ready}
use Rattle.sg_actor_states.specs.Actors.{actor_at, joiners, state_at, IsActor}
use Rattle.sg_actor_states.specs.States.{ActorStates, KeepsLimits}
use Rattle.sg_actor_states.proofs.Joining.{joiners_rest}
use Rattle.sg_kernel_calls.specs.kept.Sound.{is_queued}
use Rattle.sg_kernel_calls.specs.kept.Whole.{IsWholeFor}
use Rattle.sg_kernel_calls.proofs.Limits.{date_below}
use Rattle.sg_kernel_calls.proofs.Moves.{callers_left, moves_replied, whole_answered}
use Rattle.sg_kernel_calls.proofs.Stated.{blocking_is, joiner_free}
use Rattle.sg_kernel_calls.proofs.joining.wake_joiner.Goals as goal

pub reply-requires-clause-what : goal.reply-requires-clause-what
reply-requires-clause-what c = subst (KeepsLimits c.args.fields.now.states.extent) (blocking_is c.state.result c.in-Some.blocking (sym c.blocking.ensures ∙ c.in-Some.is)) c.state.ensures.limited

pub reply-requires-clause-date : goal.reply-requires-clause-date
reply-requires-clause-date c =
    let old = c.args.fields.now in
    omega (arith, c.date-date.ensures, date_below old c.requires.whole.sound c.requires.whole.dated)

pub returns-in-Some-clause-rest : goal.returns-in-Some-clause-rest
returns-in-Some-clause-rest c =
    let old = c.args.fields.now.states in
    let first = c.requires.first in
    let next : Actor = record (actor_at old.actors c.args.actor.0) { state = Ready answer.Done } in
    ap (λ (s : ActorStates). joiners c.args.target.0 1 s.actors) c.reply.ensures
    ∙ joiners_rest c.args.target.0 old.actors c.args.actor first.rest next first.first refl
    ∙ sym (ap (drop 1) first.first)

pub returns-in-Some-clause-wakes : goal.returns-in-Some-clause-wakes
returns-in-Some-clause-wakes c = record {
  known = search rules;
  frees =
      let old = c.args.fields.now in
      let new = c.reply.new.self in
      let first = c.requires.first in
      let blocking = c.in-Some.blocking in
      let moves = moves_replied old.states new c.args.actor.0 blocking.what blocking.since 0 answer.Done c.date-date.result c.reply.ensures in
      let room = ap (λ (s : ActorStates). s.room) c.reply.ensures in
      callers_left old.states new c.args.actor.0 (Ready answer.Done) (record { from = first.from; to = first.to }) refl moves room;
  whole =
      let old = c.args.fields.now in
      let new = c.reply.new.self in
      let first = c.requires.first in
      let blocking = c.in-Some.blocking in
      let moves = moves_replied old.states new c.args.actor.0 blocking.what blocking.since 0 answer.Done c.date-date.result c.reply.ensures in
      let room = ap (λ (s : ActorStates). s.room) c.reply.ensures in
      let isnt : is_queued (state_at old.states.actors c.args.actor.0) ≡ false = joiner_free c.args.target.0 (state_at old.states.actors c.args.actor.0) first.joins in
      let is : IsActor old.states.actors c.args.actor.0 = record { from = first.from; to = first.to } in
      let keeps = whole_answered old new c.args.actor (Ready answer.Done) is refl isnt tt moves room c.requires.whole.sound in
      subst (λ n. IsWholeFor n (record old { states = new })) (sym room) (keeps.whole old.states.room c.requires.whole);
}
