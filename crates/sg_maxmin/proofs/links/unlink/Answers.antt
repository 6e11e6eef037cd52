use Rattle.std.proofs.Common.{sym, ◌∙◌, arith}
use Rattle.sg_maxmin.proofs.LinkLemmas.{Unlinks, unlink_same, unlink_loses}
use Rattle.sg_maxmin.proofs.links.unlink.Goals as goal

steps : (c : goal.After-point_prev) → Unlinks c.args.i c.args.slots.now.slots c.remove-slot.new.self.slots c.point_next.new.slots.slots c.point_prev.new.slots.slots c.remove-slot.result
steps c = record {
  gone = c.remove-slot.ensures.updates.changed;
  removed = c.remove-slot.ensures.updates.others;
  next_to = c.point_next.ensures.changed;
  next_not = c.point_next.ensures.others;
  prev_to = c.point_prev.ensures.changed;
  prev_not = c.point_prev.ensures.others;
}

pub point_next-requires-clause-in_range : goal.point_next-requires-clause-in_range
point_next-requires-clause-in_range c = c.requires.lists.in_range c.args.i c.remove-slot.result c.remove-slot.ensures.value

pub returns-clause-loses : goal.returns-clause-loses
returns-clause-loses c =
    unlink_loses c.args.i c.args.slots.now.slots c.remove-slot.new.self.slots c.point_next.new.slots.slots c.point_prev.new.slots.slots c.args.on.now c.point_next.new.on c.remove-slot.result
    c.requires.lists c.remove-slot.ensures.value c.point_next.auto.on c.point_next.ensures.first (steps c)

pub returns-clause-others : goal.returns-clause-others
returns-clause-others c = unlink_same c.args.i c.args.slots.now.slots c.remove-slot.new.self.slots c.point_next.new.slots.slots c.point_prev.new.slots.slots c.remove-slot.result (steps c)

pub returns-clause-less : goal.returns-clause-less
returns-clause-less c =
    let one = c.point_next.ensures.kept in
    let two = c.point_prev.ensures.kept in
    record { len = omega (arith, c.remove-slot.ensures.len, one.len, two.len); capacity = sym (two.capacity ∙ one.capacity ∙ c.remove-slot.ensures.capacity) }
