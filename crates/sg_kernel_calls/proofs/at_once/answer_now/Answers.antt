use Rattle.std.proofs.Common.{ap, arith, rules}
use Rattle.sg_actor_states.specs.declared.state.State.TheVariants.{Ready}
use Rattle.sg_actor_states.specs.States.{ActorStates}
use Rattle.sg_kernel_calls.proofs.Limits.{date_below, states_answer, states_tell}
use Rattle.sg_kernel_calls.proofs.Moves.{moves_answered, whole_concluded}
use Rattle.sg_kernel_calls.proofs.at_once.answer_now.Goals as goal

pub answer-requires-clause-what : goal.answer-requires-clause-what
answer-requires-clause-what c = states_tell c.args.fields.now c.args.what c.requires.able.whole.sound c.requires.what

pub answer-requires-clause-answer : goal.answer-requires-clause-answer
answer-requires-clause-answer c = states_answer c.args.fields.now c.args.answer c.requires.able.whole.sound c.requires.answer

pub answer-requires-clause-date : goal.answer-requires-clause-date
answer-requires-clause-date c =
    let old = c.args.fields.now in
    omega (arith, c.date-date.ensures, date_below old c.requires.able.whole.sound c.requires.able.whole.dated)

pub returns : goal.returns
returns c = record {
  known = search rules;
  whole =
      let old = c.args.fields.now in
      let new = c.answer.new.self in
      let moves = moves_answered old.states new c.args.actor.0 c.args.what c.date-date.result c.args.bytes c.args.answer c.date-date.result c.answer.ensures in
      whole_concluded old new c.args.actor (Ready c.args.answer) c.requires.able tt moves (ap (λ (s : ActorStates). s.room) c.answer.ensures);
}
