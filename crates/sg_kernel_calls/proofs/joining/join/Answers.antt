use Rattle.std.proofs.Common.{◌≡◌, true, false, None, sym, ap, ◌∙◌, rules}
use Rattle.sg_base.specs.declared.call.Call.TheVariants as call
use Rattle.sg_actor_states.specs.Actors.{is_ended, state_at}
use Rattle.sg_kernel_calls.specs.Known.{after_call}
use Rattle.sg_kernel_calls.specs.Lives.{joins_by}
use Rattle.sg_kernel_calls.specs.Steps.{blocked_by}
use Rattle.sg_kernel_calls.specs.kept.Sound.{core_of, known_of}
use Rattle.sg_kernel_calls.proofs.Each.{called_alone}
use Rattle.sg_kernel_calls.proofs.Alone.{can_name}
use Rattle.sg_kernel_calls.proofs.Moves.{can_conclude}
use Rattle.sg_kernel_calls.proofs.joining.join.Goals as goal

pub state-requires : goal.state-requires
state-requires c = (can_name c.args.fields.now c.args.actor.0 c.args.target c.requires.able c.requires.call).target

pub returns-then-has_ended : goal.returns-then-has_ended
returns-then-has_ended c = record {
  known =
      let old = c.args.fields.now in
      let core = core_of old in
      let ended : is_ended (state_at old.states.actors c.args.target.0) ≡ true = sym (c.has_ended.ensures ∙ ap is_ended c.state.ensures.is) ∙ c.if-has_ended.true in
      c.answer_now.ensures.known
      ∙ sym (ap (λ b. after_call true (joins_by b c.args.actor.0 c.args.target core) (known_of old)) ended);
  whole = search rules;
}

pub returns-else-has_ended : goal.returns-else-has_ended
returns-else-has_ended c = record {
  known =
      let old = c.args.fields.now in
      let core = core_of old in
      let not_ended : is_ended (state_at old.states.actors c.args.target.0) ≡ false = sym (c.has_ended.ensures ∙ ap is_ended c.state.ensures.is) ∙ c.if-has_ended.false in
      c.block.ensures.known
      ∙ called_alone (known_of old) (blocked_by c.args.actor.0 (call.Join c.args.target) None core)
      ∙ sym (ap (λ b. after_call true (joins_by b c.args.actor.0 c.args.target core) (known_of old)) not_ended);
  whole = search rules;
}

pub answer_now-requires-clause-able : goal.answer_now-requires-clause-able
answer_now-requires-clause-able c = can_conclude c.args.fields.now c.args.actor.0 c.requires.able

pub block-requires-clause-able : goal.block-requires-clause-able
block-requires-clause-able c = can_conclude c.args.fields.now c.args.actor.0 c.requires.able
