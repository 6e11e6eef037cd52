use Rattle.std.proofs.Common.{ap, ◌∙◌, rules}
use Rattle.sg_actor_states.specs.declared.state.State.TheVariants.{Ended}
use Rattle.sg_actor_states.specs.States.{ActorStates}
use Rattle.sg_kernel_calls.specs.Known.{after}
use Rattle.sg_kernel_calls.specs.Locks.{joiners_wake}
use Rattle.sg_kernel_calls.specs.kept.Sound.{core_of, known_of}
use Rattle.sg_kernel_calls.proofs.Moves.{can_conclude, moves_called, whole_concluded}
use Rattle.sg_kernel_calls.proofs.joining.exit.Goals as goal

pub returns : goal.returns
returns c = record {
  known =
      let old = c.args.fields.now in
      c.wake_joiners.ensures.known
      ∙ ap (λ (s : ActorStates). after (joiners_wake c.args.actor.0 (core_of (record old { states = s }))) (known_of (record old { states = s }))) c.exit.ensures;
  whole = search rules;
}

pub wake_joiners-requires : goal.wake_joiners-requires
wake_joiners-requires c =
    let old = c.args.fields.now in
    let new = c.exit.new.self in
    whole_concluded old new c.args.actor Ended (can_conclude old c.args.actor.0 c.requires) tt (moves_called old.states new c.args.actor.0 Ended c.exit.ensures) (ap (λ (s : ActorStates). s.room) c.exit.ensures)
