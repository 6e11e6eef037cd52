use Rattle.std.specs.Prelude.{is_some}
use Rattle.std.proofs.Common.{not, None, ap, subst, arith}
use Rattle.sg_base.specs.declared.call.Answer.TheVariants as answer
use Rattle.sg_actor_states.specs.declared.state.State.TheVariants.{Ready, Blocked}
use Rattle.sg_actor_states.specs.States.{ActorStates}
use Rattle.sg_sync.specs.declared.outcome.Outcome.{Outcome}
use Rattle.sg_sync.specs.Laws.{comers}
use Rattle.sg_kernel_calls.specs.kept.Waking.{AreWaking}
use Rattle.sg_kernel_calls.proofs.Limits.{date_below, states_tell}
use Rattle.sg_kernel_calls.proofs.Moves.{moves_answered, moves_called, steady_moved, waking_on, waking_waits}
use Rattle.sg_kernel_calls.proofs.locks.answer_caller.Goals as goal

pub answer-requires-clause-what : goal.answer-requires-clause-what
answer-requires-clause-what c = states_tell c.args.fields.now c.args.what c.requires.steady.sound c.requires.what

pub answer-requires-clause-date : goal.answer-requires-clause-date
answer-requires-clause-date c =
    let old = c.args.fields.now in
    omega (arith, c.date-date.ensures, date_below old c.requires.steady.sound c.requires.steady.dated)

pub answer-requires-in-Refused-clause-what : goal.answer-requires-in-Refused-clause-what
answer-requires-in-Refused-clause-what c = states_tell c.args.fields.now c.args.what c.requires.steady.sound c.requires.what

pub answer-requires-in-Refused-clause-date : goal.answer-requires-in-Refused-clause-date
answer-requires-in-Refused-clause-date c =
    let old = c.args.fields.now in
    omega (arith, c.date-date.ensures, date_below old c.requires.steady.sound c.requires.steady.dated)

pub block-requires-clause-what : goal.block-requires-clause-what
block-requires-clause-what c = states_tell c.args.fields.now c.args.what c.requires.steady.sound c.requires.what

pub returns-in-GoesOn-clause-waking : goal.returns-in-GoesOn-clause-waking
returns-in-GoesOn-clause-waking c = λ others was.
    let old = c.args.fields.now in
    let new = c.answer.new.self in
    let moves = moves_answered old.states new c.args.actor.0 c.args.what c.date-date.result 0 answer.Done c.date-date.result c.answer.ensures in
    waking_on old new c.args.actor (Ready answer.Done) others c.requires.able.caller moves (subst (λ (o : Outcome). AreWaking old (comers c.args.actor o) others) c.in-GoesOn.is was)

pub returns-in-GoesOn-clause-steady : goal.returns-in-GoesOn-clause-steady
returns-in-GoesOn-clause-steady c =
    let old = c.args.fields.now in
    let new = c.answer.new.self in
    let moves = moves_answered old.states new c.args.actor.0 c.args.what c.date-date.result 0 answer.Done c.date-date.result c.answer.ensures in
    steady_moved old new c.args.actor.0 (Ready answer.Done) tt moves (omega (arith, ap (λ (s : ActorStates). s.room) c.answer.ensures)) c.requires.steady

pub returns-in-Refused-clause-waking : goal.returns-in-Refused-clause-waking
returns-in-Refused-clause-waking c = λ others was.
    let old = c.args.fields.now in
    let new = c.answer-in-Refused.new.self in
    let moves = moves_answered old.states new c.args.actor.0 c.args.what c.date-date.result 0 answer.Refused c.date-date.result c.answer-in-Refused.ensures in
    waking_on old new c.args.actor (Ready answer.Refused) others c.requires.able.caller moves (subst (λ (o : Outcome). AreWaking old (comers c.args.actor o) others) c.in-Refused.is was)

pub returns-in-Refused-clause-steady : goal.returns-in-Refused-clause-steady
returns-in-Refused-clause-steady c =
    let old = c.args.fields.now in
    let new = c.answer-in-Refused.new.self in
    let moves = moves_answered old.states new c.args.actor.0 c.args.what c.date-date.result 0 answer.Refused c.date-date.result c.answer-in-Refused.ensures in
    steady_moved old new c.args.actor.0 (Ready answer.Refused) tt moves (omega (arith, ap (λ (s : ActorStates). s.room) c.answer-in-Refused.ensures)) c.requires.steady

pub returns-in-Waits-clause-waking : goal.returns-in-Waits-clause-waking
returns-in-Waits-clause-waking c = λ others was.
    let old = c.args.fields.now in
    let new = c.block.new.self in
    let state = Blocked c.args.what c.date-date.result None in
    waking_waits old new c.args.actor state others c.requires.steady.sound c.requires.able.caller (ap (λ o. not (is_some o)) c.requires.object) (moves_called old.states new c.args.actor.0 state c.block.ensures) (subst (λ (o : Outcome). AreWaking old (comers c.args.actor o) others) c.in-Waits.is was)

pub returns-in-Waits-clause-steady : goal.returns-in-Waits-clause-steady
returns-in-Waits-clause-steady c =
    let old = c.args.fields.now in
    let new = c.block.new.self in
    let state = Blocked c.args.what c.date-date.result None in
    steady_moved old new c.args.actor.0 state tt (moves_called old.states new c.args.actor.0 state c.block.ensures) (omega (arith, ap (λ (s : ActorStates). s.room) c.block.ensures)) c.requires.steady
