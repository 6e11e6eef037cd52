use Rattle.std.proofs.Common.{◌-◌, arith, get_or, refl, sym, subst}
use Rattle.sg_actor.specs.Seats.{seat_view, KeepsLimits}
use Rattle.sg_kernel_calls.specs.World.{extent}
use Rattle.sg_engine.specs.kept.SeatRules.{with_answer}
use Rattle.sg_engine.proofs.Merging.{all_at, all_placed}
use Rattle.sg_engine.proofs.Queues.{last_id}
use Rattle.sg_engine.proofs.SeatSteps.{offered_limited}
use Rattle.sg_engine.proofs.Stepping.{answer_next, answers_end, id_at}
use Rattle.sg_engine.proofs.turns.offer.Goals as goal

pub loop-actor-init : goal.loop-actor-init
unfolding last_id
loop-actor-init g c = record { with_answer = refl; limited = c.requires.limited }

pub loop-actor-preserved : goal.loop-actor-preserved
loop-actor-preserved g c =
    let inv = c.loop-actor.invariant in
    let queue = c.run_queue-queue.result.now in
    let k = c.loop-actor.actor-index in
    let core = c.args.kernel.now.core in
    let ids = c.run_queue-queue.ensures.ids k (record { 0 = 0 }) c.loop-actor-test.true in
    let limits = extent c.args.kernel.now.setup in
    let mine : KeepsLimits limits (seat_view g.A.Actor.mind (get_or c.loop-actor.seats (id_at queue k - 1) c.index-seats-actor.result)) =
    all_at (seat_view g.A.Actor.mind) (KeepsLimits limits) c.loop-actor.seats (id_at queue k - 1) c.index-seats-actor.result (omega (arith, ids.0, ids.1, c.requires.number, c.loop-actor.auto.seats)) inv.limited in
    record {
      with_answer = answer_next _ with_answer (λ place. refl) c.args.seats.now c.loop-actor.seats core.actors queue k c.index-seats-actor.result c.offer_one.new.seat c.inbox.result c.run_queue-queue.ensures c.loop-actor-test.true c.requires.number inv.with_answer c.inbox.ensures.is c.offer_one.ensures;
      limited = all_placed (seat_view g.A.Actor.mind) (KeepsLimits limits) c.loop-actor.seats (id_at queue k - 1) c.offer_one.new.seat (subst (KeepsLimits limits) (sym c.offer_one.ensures) (offered_limited limits _ c.inbox.result mine c.inbox.ensures.limited)) inv.limited;
    }

pub returns-clause-with_answer : goal.returns-clause-with_answer
returns-clause-with_answer g c =
    answers_end _ with_answer (λ place. refl) c.args.seats.now c.loop-actor.seats c.args.kernel.now.core.actors c.run_queue-queue.result.now c.loop-actor.actor-index c.run_queue-queue.ensures c.loop-actor.auto.actor-index-end c.loop-actor-test.false c.requires.number c.loop-actor.invariant.with_answer
