use Rattle.std.proofs.Common.{arith, refl, subst, sym}
use Rattle.std.specs.Prelude.{All}
use Rattle.sg_actor.specs.Seats.{after, CanTurn}
use Rattle.sg_engine.proofs.Merging.{all_merged}
use Rattle.sg_engine.proofs.Queues.{last_id}
use Rattle.sg_engine.proofs.SeatSteps.{all_after_can, idle_stays}
use Rattle.sg_engine.proofs.Stepping.{changes_end, turns_next}
use Rattle.sg_engine.proofs.turns.turn_all.Goals as goal

pub loop-from-init : goal.loop-from-init
unfolding last_id
loop-from-init g c = record { turned = refl; within = omega arith }

pub turn_some-requires-clause-ready : goal.turn_some-requires-clause-ready
turn_some-requires-clause-ready g c κs within =
    subst (All CanTurn) (sym c.loop-from.invariant.turned) (all_merged CanTurn _ _ _ (all_after_can _ c.requires.can) c.requires.can)

pub loop-from-preserved : goal.loop-from-preserved
loop-from-preserved g c = record {
  turned = turns_next _ c.args.seats.now c.loop-from.seats c.turn_some.new.seats c.args.kernel.now.core.actors c.run_queue-queue.result.now c.loop-from.from c.end_of_turns-to.result c.run_queue-queue.ensures c.end_of_turns-to.ensures.0 c.end_of_turns-to.ensures.1 c.requires.number c.requires.queued
      c.loop-from.invariant.turned c.turn_some.ensures;
  within = c.end_of_turns-to.ensures.1;
}

pub returns : goal.returns
returns g c =
    changes_end _ after idle_stays c.args.seats.now c.loop-from.seats c.args.kernel.now.core.actors c.run_queue-queue.result.now c.loop-from.from c.run_queue-queue.ensures c.loop-from.invariant.within c.loop-from-test.false c.requires.number c.requires.queued c.loop-from.invariant.turned
