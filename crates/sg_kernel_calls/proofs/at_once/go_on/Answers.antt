use Rattle.std.proofs.Common.{ap, rules}
use Rattle.sg_actor_states.specs.declared.state.State.TheVariants.{Ready}
use Rattle.sg_actor_states.specs.States.{ActorStates}
use Rattle.sg_kernel_calls.proofs.Limits.{states_answer}
use Rattle.sg_kernel_calls.proofs.Moves.{moves_called, whole_concluded}
use Rattle.sg_kernel_calls.proofs.at_once.go_on.Goals as goal

pub go_on-requires : goal.go_on-requires
go_on-requires c = record {
  able = search rules;
  answer = states_answer c.args.fields.now c.args.answer c.requires.able.whole.sound c.requires.answer;
}

pub returns : goal.returns
returns c = record {
  known = search rules;
  whole =
      let old = c.args.fields.now in
      let new = c.go_on.new.self in
      whole_concluded old new c.args.actor (Ready c.args.answer) c.requires.able tt (moves_called old.states new c.args.actor.0 (Ready c.args.answer) c.go_on.ensures) (ap (λ (s : ActorStates). s.room) c.go_on.ensures);
}
