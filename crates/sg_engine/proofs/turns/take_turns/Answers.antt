use Rattle.std.proofs.Common.{◌∙◌, ap, sym, subst}
use Rattle.std.specs.Prelude.{All}
use Rattle.std.proofs.lemmas.List.{length-map}
use Rattle.sg_base.specs.Limits.{IsCall}
use Rattle.sg_kernel_calls.specs.World.{extent}
use Rattle.sg_engine.specs.declared.actor_call.ActorCall.{ActorCall}
use Rattle.sg_engine.specs.kept.CallList.{call_list}
use Rattle.sg_engine.proofs.Listing.{calls_limited}
use Rattle.sg_engine.proofs.SeatSteps.{calls_made, can_offered, limited_turned, minds_turned, queued_offered, queued_turned, seated_again}
use Rattle.sg_engine.proofs.turns.take_turns.Goals as goal

pub offer-requires-clause-limited : goal.offer-requires-clause-limited
offer-requires-clause-limited g c = λ k d within. (c.requires.seated k d within).limited

pub turn_all-requires-clause-queued : goal.turn_all-requires-clause-queued
turn_all-requires-clause-queued g c κs within = queued_offered (extent c.args.kernel.now.setup) _ _ c.args.kernel.now.core.actors c.offer.ensures.with_answer (sym c.requires.number ∙ sym (length-map c.args.seats.now _)) c.requires.seated

pub turn_all-requires-clause-can : goal.turn_all-requires-clause-can
turn_all-requires-clause-can g c κs within = can_offered (extent c.args.kernel.now.setup) _ _ _ c.offer.ensures.with_answer c.requires.seated

pub collect-requires-clause-queued : goal.collect-requires-clause-queued
collect-requires-clause-queued g c =
    queued_turned _ _ c.args.kernel.now.core.actors c.turn_all.ensures
    (queued_offered (extent c.args.kernel.now.setup) _ _ c.args.kernel.now.core.actors c.offer.ensures.with_answer (sym c.requires.number ∙ sym (length-map c.args.seats.now _)) c.requires.seated)

pub returns : goal.returns
returns g c =
    let extent = extent c.args.kernel.now.setup in
    let turned = limited_turned extent _ _ c.turn_all.ensures (c.seats_keep_limits.ensures extent) c.offer.ensures.limited in
    record {
      seated = seated_again extent _ _ c.collect.ensures.seats turned;
      minds = minds_turned extent _ _ _ _ _ c.offer.ensures.with_answer c.turn_all.ensures c.collect.ensures.seats c.requires.seated;
      calls = c.collect.ensures.calls ∙ ap (call_list 1) (calls_made extent _ _ _ _ c.offer.ensures.with_answer c.turn_all.ensures c.requires.seated);
      limited = subst (All (λ (made : ActorCall). IsCall extent made.call)) (sym c.collect.ensures.calls) (calls_limited extent 1 _ turned);
      room = c.collect.ensures.room;
    }
