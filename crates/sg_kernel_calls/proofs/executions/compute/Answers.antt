use Rattle.std.proofs.Common.{◌≡◌, true, false, cond, sym, ap, ◌∙◌, arith, rules}
use Rattle.sg_base.specs.declared.call.Answer.TheVariants as answer
use Rattle.sg_base.specs.declared.call.Call.TheVariants as call
use Rattle.sg_activity.specs.Links.{is_off}
use Rattle.sg_kernel_calls.specs.Calls.{executes}
use Rattle.sg_kernel_calls.specs.Known.{after_call}
use Rattle.sg_kernel_calls.specs.Steps.{at_once}
use Rattle.sg_kernel_calls.specs.World.{host_of}
use Rattle.sg_kernel_calls.specs.kept.Sound.{core_of, known_of}
use Rattle.sg_kernel_calls.proofs.Each.{called_alone}
use Rattle.sg_kernel_calls.proofs.Moves.{can_conclude}
use Rattle.sg_kernel_calls.proofs.executions.compute.Goals as goal

pub execute-requires-clause-home : goal.execute-requires-clause-home
execute-requires-clause-home c = record { is = c.host-host.ensures.is; exists = omega (arith, c.host-host.ensures.exists, c.requires.able.whole.sound.hosts_counted) }

pub returns-then-is_host_off : goal.returns-then-is_host_off
returns-then-is_host_off c = record {
  known =
      let old = c.args.fields.now in
      let setup = old.setup in
      let core = core_of old in
      let actor = c.args.actor.0 in
      let off : is_off core.under.on.hosts (host_of setup actor) ≡ true = sym (ap (is_off core.under.on.hosts) c.host-host.ensures.is) ∙ sym c.is_host_off.ensures ∙ c.if-is_host_off.true in
      c.answer_now.ensures.known
      ∙ sym (ap (λ b. after_call true (cond b (at_once actor (call.Compute c.args.flops c.args.priority) 0 answer.Failed core) (executes setup actor c.args.flops c.args.priority core)) (known_of old)) off);
  whole = search rules;
}

pub returns-else-is_host_off : goal.returns-else-is_host_off
returns-else-is_host_off c = record {
  known =
      let old = c.args.fields.now in
      let setup = old.setup in
      let core = core_of old in
      let actor = c.args.actor.0 in
      let on : is_off core.under.on.hosts (host_of setup actor) ≡ false = sym (ap (is_off core.under.on.hosts) c.host-host.ensures.is) ∙ sym c.is_host_off.ensures ∙ c.if-is_host_off.false in
      c.execute.ensures.known
      ∙ called_alone (known_of old) (executes setup actor c.args.flops c.args.priority core).core
      ∙ sym (ap (λ b. after_call true (cond b (at_once actor (call.Compute c.args.flops c.args.priority) 0 answer.Failed core) (executes setup actor c.args.flops c.args.priority core)) (known_of old)) on);
  whole = search rules;
}

pub answer_now-requires-clause-able : goal.answer_now-requires-clause-able
answer_now-requires-clause-able c = can_conclude c.args.fields.now c.args.actor.0 c.requires.able
