use Rattle.std.proofs.Common.{◌≡◌, ◌+◌, ◌∙◌, ap, arith, length, None, sym, take}
use Rattle.std.specs.List.{count_by}
use Rattle.sg_platform_rows.specs.Deployment.{extent_of, starts}
use Rattle.sg_engine.proofs.Castings.{all_seated_more, function_can, function_is, function_of, left_some, minds_more, seats_more, starts_more, taken_more}
use Rattle.sg_engine.proofs.Crews.{front_all, front_less, front_then}
use Rattle.sg_engine.proofs.seating.seat_all.Goals as goal

pub seat-requires-clause-crew : goal.seat-requires-clause-crew
seat-requires-clause-crew g c = record {
  some = left_some c.actors-rows.result.now c.loop-i.i c.index-rows-i.result (length c.args.crew.now.items) (length c.loop-i.crew.items) c.loop-i-test.true c.index-rows-i.is (omega (arith, c.requires.enough, ap (count_by starts) c.actors-rows.ensures.rows)) c.loop-i.invariant.taken;
  blank = c.loop-i.invariant.blank;
}

pub loop-i-preserved : goal.loop-i-preserved
loop-i-preserved g c =
    let inv = c.loop-i.invariant in
    let i = c.loop-i.i in
    let rows = c.actors-rows.result.now in
    let extent = extent_of c.args.deployment.now in
    let mine = function_of extent c.args.deployment.now.actors rows i c.index-rows-i.result c.loop-i-test.true c.index-rows-i.is c.actors-rows.ensures.rows c.actors-rows.ensures.kept.functions in
    let less = front_less c.loop-i.crew.items c.seat.new.crew.items _ c.in_ok-seat.ensures.crew in
    record {
      blank = front_all (λ b. (goal.Actor-dyn g (b.vtable, b.value)).mind b.value ≡ None) c.loop-i.crew.items c.seat.new.crew.items less.0 inv.blank;
      front = front_then c.args.crew.now.items c.loop-i.crew.items c.seat.new.crew.items inv.front less.0;
      taken = taken_more c.index-rows-i.result.start (length c.seat.new.crew.items) (length c.loop-i.crew.items) (count_by starts (take (i + 1) rows)) (count_by starts (take i rows)) (length c.args.crew.now.items)
          (left_some rows i c.index-rows-i.result (length c.args.crew.now.items) (length c.loop-i.crew.items) c.loop-i-test.true c.index-rows-i.is (omega (arith, c.requires.enough, ap (count_by starts) c.actors-rows.ensures.rows)) inv.taken)
          inv.taken less.1 (starts_more rows i c.index-rows-i.result c.loop-i-test.true c.index-rows-i.is);
      room = omega (arith, c.push_reserved.ensures.capacity, inv.room);
      used = omega (arith, c.push_reserved.ensures.len, inv.used);
      minds = seats_more _ _ _ _ _ _ c.push_reserved.ensures.items inv.minds c.in_ok-seat.ensures.mind ∙ sym (minds_more rows i c.index-rows-i.result c.loop-i-test.true c.index-rows-i.is);
      seated = all_seated_more _ extent _ _ _ c.push_reserved.ensures.items inv.seated (c.in_ok-seat.ensures.seated extent (function_is extent (i + 1) _ (omega arith) (omega (arith, c.loop-i-test.true, ap length c.actors-rows.ensures.rows)) mine));
    }

pub seat-requires-clause-role : goal.seat-requires-clause-role
seat-requires-clause-role g c =
    let extent = extent_of c.args.deployment.now in
    function_can extent (c.loop-i.i + 1) _ (function_of extent c.args.deployment.now.actors c.actors-rows.result.now c.loop-i.i c.index-rows-i.result c.loop-i-test.true c.index-rows-i.is c.actors-rows.ensures.rows c.actors-rows.ensures.kept.functions)
