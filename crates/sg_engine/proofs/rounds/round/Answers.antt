use Rattle.std.proofs.Common.{◌∙◌, ap, arith, length, refl}
use Rattle.std.proofs.lemmas.List.{with_items_is}
use Rattle.sg_kernel_calls.specs.World.{extent}
use Rattle.sg_engine.specs.Roles.{firsts_of}
use Rattle.sg_engine.specs.Run.{scene}
use Rattle.sg_engine.proofs.Parts.{calls_few, calls_may, calls_rise, round_as}
use Rattle.sg_engine.proofs.rounds.round.Goals as goal

pub answer_calls-requires-clause-callers : goal.answer_calls-requires-clause-callers
answer_calls-requires-clause-callers g c =
    calls_may _ c.args.sim.now.kernel.core (extent c.args.sim.now.kernel.setup) c.take_turns.new.calls.items c.take_turns.ensures.calls c.take_turns.ensures.limited

pub answer_calls-requires-clause-rises : goal.answer_calls-requires-clause-rises
answer_calls-requires-clause-rises g c = calls_rise _ c.args.sim.now.kernel.core c.take_turns.new.calls.items c.take_turns.ensures.calls

pub answer_calls-requires-clause-room : goal.answer_calls-requires-clause-room
answer_calls-requires-clause-room g c =
    calls_few _ c.as_mut_slice-seats.result.now c.args.sim.now.kernel.core c.take_turns.new.calls.items c.args.sim.now.kernel.room c.take_turns.ensures.calls (omega (arith, ap length c.as_mut_slice-seats.ensures.value, c.requires.room.room))

pub returns-clause-step : goal.returns-clause-step
returns-clause-step g c = λ taken world stands.
    let turned = with_items_is c.args.sim.now.seats c.take_turns.new.seats (c.take_turns.auto.seats ∙ c.as_mut_slice-seats.ensures.len) in
    let minds = rw c.as_mut_slice-seats.ensures.value at c.take_turns.ensures.minds in
    let calls = rw c.as_mut_slice-seats.ensures.value at c.take_turns.ensures.calls in
    round_as c.answer_calls.result _ (scene c.args.router.now c.args.sim.now.kernel.setup (firsts_of c.args.engine.now.plan.deployment.now) c.args.engine.now.plan.script) taken _ _ _ c.take_turns.new.calls.items world _ _ stands (rw turned minds) refl calls
    (λ next. c.answer_calls.ensures.step taken next)

pub answer_calls-requires-clause-can : goal.answer_calls-requires-clause-can
answer_calls-requires-clause-can g c =
    let turned = with_items_is c.args.sim.now.seats c.take_turns.new.seats (c.take_turns.auto.seats ∙ c.as_mut_slice-seats.ensures.len) in
    record {
      roads = c.requires.roads;
      fits = c.requires.fits;
      manned = record {
        number = ap length turned ∙ c.take_turns.auto.seats ∙ ap length c.as_mut_slice-seats.ensures.value ∙ c.requires.room.manned.number;
        seated = rw turned c.take_turns.ensures.seated;
        blank = c.requires.room.manned.blank;
      };
    }

pub returns-clause-goes : goal.returns-clause-goes
returns-clause-goes g c =
    let turned = with_items_is c.args.sim.now.seats c.take_turns.new.seats (c.take_turns.auto.seats ∙ c.as_mut_slice-seats.ensures.len) in
    let goes = c.answer_calls.ensures.goes in
    let seats = goes.seats in
    record {
      fits = goes.fits;
      seats = record {
        setup = seats.setup;
        number = seats.number ∙ ap length turned ∙ c.take_turns.auto.seats ∙ ap length c.as_mut_slice-seats.ensures.value;
        seated = seats.seated;
        crew = record { front = seats.crew.front; begun = seats.crew.begun };
        calls = seats.calls ∙ c.take_turns.ensures.room;
        buffer = seats.buffer;
      };
      script = goes.script;
    }
