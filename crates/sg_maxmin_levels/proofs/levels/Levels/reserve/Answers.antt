use Rattle.std.proofs.Common.{◌≤◌, length, slice_index, ap, arith}
use Rattle.sg_maxmin_levels.proofs.Between.{between_extended, between_grown, no_more}
use Rattle.sg_maxmin_levels.proofs.levels.Levels.reserve.Goals as goal

pub returns-in_err-grow-clause-between : goal.returns-in_err-grow-clause-between
returns-in_err-grow-clause-between c = between_grown c.args.system.now c.is_sound.ensures c.args.self.now c.grow.new.self c.grow.ensures.kept c.requires

pub returns-clause-between : goal.returns-clause-between
returns-clause-between c =
    let s = c.args.system.now in
    let t = c.reserve-reserved.new.self in
    let out = c.reserve-reserved.ensures in
    let room = c.in_ok-grow.ensures.room in
    let n : length t.slots ≤ c.in-Some.n = omega (arith, out.few, c.numbers.ensures, c.in-Some.ensures, c.saturating_sub-more.ensures, c.spare.ensures) in
    between_extended s t c.is_sound.ensures c.is_sound-2.ensures c.grow.new.self (ap length out.capacities) (λ r. ap (λ cs. slice_index cs r) out.capacities) out.slots.same
    (record {
      levels = omega (arith, n, room.levels);
      parts = omega (arith, n, room.parts);
      moved = omega (arith, n, room.moved);
      stale = omega (arith, n, room.stale);
    }) (between_grown s c.is_sound.ensures c.args.self.now c.grow.new.self c.grow.ensures.kept c.requires)

pub returns-clause-within : goal.returns-clause-within
returns-clause-within c = no_more c.args.self.now c.grow.new.self c.grow.ensures.kept

pub returns-in_err-grow-clause-within : goal.returns-in_err-grow-clause-within
returns-in_err-grow-clause-within c = no_more c.args.self.now c.grow.new.self c.grow.ensures.kept
