use Rattle.std.proofs.Common.{◌≡◌, true, false, cond, sym, ap, ◌∙◌, rules}
use Rattle.sg_base.specs.declared.call.Answer.TheVariants as answer
use Rattle.sg_base.specs.declared.call.Call.TheVariants as call
use Rattle.sg_actor_states.specs.Actors.{is_alive, state_at}
use Rattle.sg_kernel_calls.specs.Kills.{awaited, gives_up, kills_alive, withdrawn}
use Rattle.sg_kernel_calls.specs.Known.{after, after_call}
use Rattle.sg_kernel_calls.specs.Locks.{joiners_wake}
use Rattle.sg_kernel_calls.specs.Steps.{at_once, each}
use Rattle.sg_kernel_calls.specs.kept.Sound.{core_of, known_of}
use Rattle.sg_kernel_calls.proofs.Alone.{can_name}
use Rattle.sg_kernel_calls.proofs.Killed.{kill_known}
use Rattle.sg_kernel_calls.proofs.Moves.{can_conclude}
use Rattle.sg_kernel_calls.proofs.killing.kill.Goals as goal

pub state-requires : goal.state-requires
state-requires c = (can_name c.args.fields.now c.args.actor.0 c.args.target c.requires.able c.requires.call).target

pub withdraw-requires-clause-named : goal.withdraw-requires-clause-named
withdraw-requires-clause-named c = can_name c.args.fields.now c.args.actor.0 c.args.target c.requires.able c.requires.call

pub withdraw-requires-clause-alive : goal.withdraw-requires-clause-alive
withdraw-requires-clause-alive c = sym (c.is_alive-alive.ensures ∙ ap is_alive c.state.ensures.is) ∙ c.if-alive.true

pub answer_now-requires-clause-what : goal.answer_now-requires-clause-what
answer_now-requires-clause-what c = record { told = tt; call = c.requires.call }

pub returns-then-alive : goal.returns-then-alive
returns-then-alive c = record {
  known =
      let old = c.args.fields.now in
      let mid = c.withdraw.new.fields in
      let actor = c.args.actor.0 in
      let target = c.args.target in
      let core = core_of old in
      let alive : is_alive (state_at old.states.actors target.0) ≡ true = sym (c.is_alive-alive.ensures ∙ ap is_alive c.state.ensures.is) ∙ c.if-alive.true in
      kill_known actor target (awaited target core) (joiners_wake target.0) (withdrawn target core) (known_of old) (known_of mid) (known_of c.give_up_all.new.fields) (known_of c.wake_joiners.new.fields)
      c.withdraw.ensures.answers.known
      (c.give_up_all.ensures.known ∙ ap (λ l. after (each gives_up l (core_of mid)) (known_of mid)) c.withdraw.ensures.awaited)
      c.wake_joiners.ensures.known
      ∙ sym (ap (λ b. after_call true (cond b (kills_alive actor target core) (at_once actor (call.Kill target) 0 answer.Done core)) (known_of old)) alive);
  whole = search rules;
}

pub returns-else-alive : goal.returns-else-alive
returns-else-alive c = record {
  known =
      let old = c.args.fields.now in
      let actor = c.args.actor.0 in
      let target = c.args.target in
      let core = core_of old in
      let dead : is_alive (state_at old.states.actors target.0) ≡ false = sym (c.is_alive-alive.ensures ∙ ap is_alive c.state.ensures.is) ∙ c.if-alive.false in
      c.answer_now.ensures.known
      ∙ sym (ap (λ b. after_call true (cond b (kills_alive actor target core) (at_once actor (call.Kill target) 0 answer.Done core)) (known_of old)) dead);
  whole = search rules;
}

pub answer_now-requires-clause-able : goal.answer_now-requires-clause-able
answer_now-requires-clause-able c = can_conclude c.args.fields.now c.args.actor.0 c.requires.able
