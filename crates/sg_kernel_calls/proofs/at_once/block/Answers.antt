use Rattle.std.proofs.Common.{ap, rules}
use Rattle.sg_actor_states.specs.declared.state.State.TheVariants.{Blocked}
use Rattle.sg_actor_states.specs.States.{ActorStates}
use Rattle.sg_kernel_calls.proofs.Limits.{states_tell}
use Rattle.sg_kernel_calls.proofs.Moves.{moves_called, whole_concluded}
use Rattle.sg_kernel_calls.proofs.at_once.block.Goals as goal

pub block-requires-clause-what : goal.block-requires-clause-what
block-requires-clause-what c = states_tell c.args.fields.now c.args.what c.requires.able.whole.sound c.requires.what

pub returns : goal.returns
returns c = record {
  known = search rules;
  whole =
      let old = c.args.fields.now in
      let new = c.block.new.self in
      let state = Blocked c.args.what c.date-date.result c.args.on in
      whole_concluded old new c.args.actor state c.requires.able c.requires.made (moves_called old.states new c.args.actor.0 state c.block.ensures) (ap (λ (s : ActorStates). s.room) c.block.ensures);
}
