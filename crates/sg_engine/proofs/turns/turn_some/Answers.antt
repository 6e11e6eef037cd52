use Rattle.sg_actor.specs.Seats.{after, CanTurn}
use Rattle.sg_engine.proofs.Merging.{part_on, part_all}
use Rattle.sg_engine.proofs.turns.turn_some.Goals as goal

pub run_round-requires-clause-ready : goal.run_round-requires-clause-ready
run_round-requires-clause-ready g c κs within =
    part_all _ CanTurn c.args.seats.now _ _ c.split_at_mut-some.result.0.now c.split_at_mut-some.result.1.now c.split_at_mut-rest.ensures.value c.split_at_mut-some.ensures.value c.requires.ready

pub returns : goal.returns
returns g c =
    part_on _ after c.args.seats.now c.split_at_mut-rest.result.0.now c.split_at_mut-rest.result.1.now c.split_at_mut-some.result.0.now c.split_at_mut-some.result.1.now c.run_round.new.seats c.args.from c.args.to c.split_at_mut-rest.ensures.value
    c.split_at_mut-rest.ensures.front_len c.split_at_mut-some.ensures.value c.split_at_mut-some.ensures.front_len c.requires.range.0 c.run_round.ensures
