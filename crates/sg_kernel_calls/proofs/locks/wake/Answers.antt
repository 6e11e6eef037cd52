use Rattle.std.proofs.Common.{subst, ap, refl, arith, sym, ◌∙◌}
use Rattle.sg_base.specs.declared.call.Answer.TheVariants as answer
use Rattle.sg_actor_states.specs.declared.state.State.TheVariants.{Ready}
use Rattle.sg_actor_states.specs.Actors.{is_blocked}
use Rattle.sg_actor_states.specs.States.{ActorStates, KeepsLimits}
use Rattle.sg_kernel_calls.proofs.Limits.{date_below}
use Rattle.sg_kernel_calls.proofs.Moves.{callers_left, moves_replied, steady_moved, waking_woken}
use Rattle.sg_kernel_calls.proofs.Stated.{blocking_is}
use Rattle.sg_kernel_calls.proofs.locks.wake.Goals as goal

pub reply-requires-clause-blocked : goal.reply-requires-clause-blocked
reply-requires-clause-blocked c = ap is_blocked (sym c.state.ensures.is ∙ blocking_is c.state.result c.in-Some.blocking (sym c.blocking.ensures ∙ c.in-Some.is))

pub reply-requires-clause-what : goal.reply-requires-clause-what
reply-requires-clause-what c = subst (KeepsLimits c.args.fields.now.states.extent) (blocking_is c.state.result c.in-Some.blocking (sym c.blocking.ensures ∙ c.in-Some.is)) c.state.ensures.limited

pub reply-requires-clause-date : goal.reply-requires-clause-date
reply-requires-clause-date c =
    let old = c.args.fields.now in
    omega (arith, c.date-date.ensures, date_below old c.requires.steady.sound c.requires.steady.dated)

pub returns-in-Some-clause-waking : goal.returns-in-Some-clause-waking
returns-in-Some-clause-waking c = λ comers others was.
    let old = c.args.fields.now in
    let new = c.reply.new.self in
    let moves = moves_replied old.states new c.args.actor.0 c.in-Some.blocking.what c.in-Some.blocking.since 0 answer.Done c.date-date.result c.reply.ensures in
    waking_woken old new c.args.actor (Ready answer.Done) comers others c.requires.actor.from moves was

pub returns-in-Some-clause-frees : goal.returns-in-Some-clause-frees
returns-in-Some-clause-frees c =
    let old = c.args.fields.now in
    let new = c.reply.new.self in
    let moves = moves_replied old.states new c.args.actor.0 c.in-Some.blocking.what c.in-Some.blocking.since 0 answer.Done c.date-date.result c.reply.ensures in
    callers_left old.states new c.args.actor.0 (Ready answer.Done) c.requires.actor refl moves (ap (λ (s : ActorStates). s.room) c.reply.ensures)

pub returns-in-Some-clause-steady : goal.returns-in-Some-clause-steady
returns-in-Some-clause-steady c =
    let old = c.args.fields.now in
    let new = c.reply.new.self in
    let moves = moves_replied old.states new c.args.actor.0 c.in-Some.blocking.what c.in-Some.blocking.since 0 answer.Done c.date-date.result c.reply.ensures in
    steady_moved old new c.args.actor.0 (Ready answer.Done) tt moves (omega (arith, ap (λ (s : ActorStates). s.room) c.reply.ensures)) c.requires.steady
