use Rattle.std.proofs.Common.{◌≡◌, ℕ, ◌-◌, Bool, length, ap, ap₂, ◌∙◌, arith, rules}
use Rattle.std.proofs.lemmas.List.{length-set}
use Rattle.sg_actor_states.specs.declared.state.Actor.{Actor}
use Rattle.sg_kernel_calls.specs.Calls.{with_execution}
use Rattle.sg_kernel_calls.specs.Known.{Known}
use Rattle.sg_kernel_calls.specs.Suspensions.{held_if}
use Rattle.sg_kernel_calls.specs.World.{is_suspended}
use Rattle.sg_kernel_calls.specs.kept.Sound.{core_of, known_of}
use Rattle.sg_kernel_calls.proofs.Stated.{actor_same}
use Rattle.sg_kernel_calls.proofs.executions.execute.Goals as goal

pub hold_if-requires : goal.hold_if-requires
hold_if-requires c = record {
  actor =
      let may = c.requires.computes.able.call.caller in
      let long = ap (λ (k : Known). length k.core.actors) c.start-serial.ensures.becomes.known in
      let actors = c.args.fields.now.states.actors in
      let many : length (core_of c.start-serial.new.fields).actors ≡ length actors = long ∙ length-set actors (c.args.actor.0 - 1) _ in
      record { from = may.from; to = omega (arith, may.to, many) };
  from = omega (arith, c.start-serial.ensures.serial);
  computing = c.start-serial.ensures.computing;
  whole = c.start-serial.ensures.becomes.whole;
}

pub returns : goal.returns
returns c = record {
  known =
      let old = c.args.fields.now in
      let actor = c.args.actor.0 in
      let may = c.requires.computes.able.call.caller in
      let core = with_execution old.setup actor c.args.flops c.args.priority (core_of old) in
      let begun : Known = record (known_of old) { core = core; room = old.states.room - 1 } in
      let same : is_suspended core actor ≡ is_suspended (core_of old) actor = ap (λ (a : Actor). a.suspended) (actor_same old.states.actors actor _ (record { from = may.from; to = may.to })) in
      c.hold_if.ensures.known
      ∙ ap (λ (k : Known). record k { core = held_if (is_suspended k.core actor) c.start-serial.result.0 k.core }) c.start-serial.ensures.becomes.known
      ∙ ap₂ (λ (b : Bool) (n : ℕ). record begun { core = held_if b n core }) same c.start-serial.ensures.serial;
  whole = search rules;
}
