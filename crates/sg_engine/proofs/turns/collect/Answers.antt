use Rattle.std.proofs.Common.{◌≡◌, ◌∙◌, arith, ap, length, map, refl, take}
use Rattle.std.proofs.lemmas.List.{length-map, length-take}
use Rattle.sg_actor.specs.Seats.{seat_views}
use Rattle.sg_engine.specs.kept.CallList.{call_list}
use Rattle.sg_engine.specs.kept.SeatRules.{call_in, at_rest}
use Rattle.sg_engine.proofs.Listing.{listed_short}
use Rattle.sg_engine.proofs.Queues.{last_id, last_before}
use Rattle.sg_engine.proofs.SeatSteps.{idle_rests}
use Rattle.sg_engine.proofs.Stepping.{change_next, changes_end, change_was, called_on, all_called}
use Rattle.sg_engine.proofs.turns.collect.Goals as goal

pub loop-actor-init : goal.loop-actor-init
unfolding last_id call_list
loop-actor-init g c = record { at_rest = refl; calls = c.clear.ensures.items; room = c.clear.ensures.capacity }

pub collect_one-requires : goal.collect_one-requires
collect_one-requires g c =
    let inv = c.loop-actor.invariant in
    let queue = c.run_queue-queue.result.now in
    let k = c.loop-actor.actor-index in
    let places = seat_views g.A.Actor.mind c.args.seats.now in
    let ids = c.run_queue-queue.ensures.ids k (record { 0 = 0 }) c.loop-actor-test.true in
    omega (
      arith,
      ap length inv.calls,
      listed_short 1 (take (last_id queue k) (map call_in places)),
      length-take (last_id queue k) (map call_in places),
      last_before c.args.kernel.now.core.actors queue k c.run_queue-queue.ensures c.loop-actor-test.true,
      ids.0,
      ids.1,
      c.requires.number,
      c.requires.room,
      inv.room,
    )

pub loop-actor-preserved : goal.loop-actor-preserved
loop-actor-preserved g c =
    let inv = c.loop-actor.invariant in
    let is = c.run_queue-queue.ensures in
    let queue = c.run_queue-queue.result.now in
    let k = c.loop-actor.actor-index in
    let states = c.args.kernel.now.core.actors in
    let places = seat_views g.A.Actor.mind c.args.seats.now in
    let long : length places ≡ length states = length-map c.args.seats.now _ ∙ c.requires.number in
    let mine = change_was _ at_rest idle_rests c.args.seats.now c.loop-actor.seats states queue k c.index-seats-actor.result is c.loop-actor-test.true c.requires.number c.requires.queued inv.at_rest in
    record {
      at_rest = change_next _ at_rest idle_rests c.args.seats.now c.loop-actor.seats states queue k c.index-seats-actor.result c.collect_one.new.seat is c.loop-actor-test.true c.requires.number c.requires.queued inv.at_rest c.collect_one.ensures.seat;
      calls = called_on places states queue k c.loop-actor.calls.items c.collect_one.new.calls.items _ _ is c.loop-actor-test.true c.requires.queued long inv.calls c.collect_one.ensures.items (ap call_in mine);
      room = c.collect_one.ensures.room ∙ inv.room;
    }

pub returns-clause-seats : goal.returns-clause-seats
returns-clause-seats g c =
    changes_end _ at_rest idle_rests c.args.seats.now c.loop-actor.seats c.args.kernel.now.core.actors c.run_queue-queue.result.now c.loop-actor.actor-index c.run_queue-queue.ensures c.loop-actor.auto.actor-index-end c.loop-actor-test.false c.requires.number c.requires.queued c.loop-actor.invariant.at_rest

pub returns-clause-calls : goal.returns-clause-calls
returns-clause-calls g c =
    c.loop-actor.invariant.calls
    ∙ all_called (seat_views g.A.Actor.mind c.args.seats.now) c.args.kernel.now.core.actors c.run_queue-queue.result.now c.loop-actor.actor-index c.run_queue-queue.ensures c.loop-actor.auto.actor-index-end c.loop-actor-test.false c.requires.queued
    (length-map c.args.seats.now _ ∙ c.requires.number)
