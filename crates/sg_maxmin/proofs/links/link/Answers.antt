use Rattle.std.proofs.Common.{None, Some, get_or, refl, ◌∙◌, arith}
use Rattle.sg_maxmin.specs.declared.slots.Slot.{Slot}
use Rattle.sg_maxmin.proofs.LinkLemmas.{head_small, lists_with, link_same, link_made}
use Rattle.sg_maxmin.proofs.links.link.Goals as goal

pub insert-i-requires-clause-small : goal.insert-i-requires-clause-small
insert-i-requires-clause-small c = record {
  resource = omega (arith, c.requires.in_range, c.requires.can.few);
  next_of_flow = c.requires.next;
  next_on = head_small c.args.slots.now.slots c.args.on.now c.args.resource c.requires.can.lists c.requires.in_range c.are_numbered.ensures;
  prev_on = tt;
}

pub returns-clause-gains : goal.returns-clause-gains
returns-clause-gains c =
    let i = c.insert-i.result in
    let slot : Slot = record { flow = c.args.flow; resource = c.args.resource; next_of_flow = c.args.next_of_flow; next_on = get_or c.args.on.now c.args.resource None; prev_on = None } in
    let ins = c.insert-i.ensures in
    let out = c.point_prev.ensures in
    let old = c.args.slots.now.slots in
    let one = c.insert-i.new.self.slots in
    let new = c.point_prev.new.slots.slots in
    lists_with i c.args.resource old one new c.args.on.now slot c.requires.can.lists c.requires.in_range ins.free refl refl refl
    ins.updates.changed ins.updates.others out.changed out.others (link_same i old one new slot.next_on (Some i) ins.updates.others out.changed out.others)

pub returns-clause-more : goal.returns-clause-more
returns-clause-more c =
    let ins = c.insert-i.ensures in
    let kept = c.point_prev.ensures.kept in
    record { len = kept.len ∙ ins.len; capacity = kept.capacity ∙ ins.capacity }

pub returns-clause-made : goal.returns-clause-made
returns-clause-made c =
    let i = c.insert-i.result in
    let slot : Slot = record { flow = c.args.flow; resource = c.args.resource; next_of_flow = c.args.next_of_flow; next_on = get_or c.args.on.now c.args.resource None; prev_on = None } in
    let ins = c.insert-i.ensures in
    link_made i c.insert-i.new.self.slots c.point_prev.new.slots.slots slot.next_on (Some i) slot ins.updates.changed c.point_prev.ensures.changed c.point_prev.ensures.others

pub returns-clause-others : goal.returns-clause-others
returns-clause-others c =
    let i = c.insert-i.result in
    let ins = c.insert-i.ensures in
    link_same i c.args.slots.now.slots c.insert-i.new.self.slots c.point_prev.new.slots.slots (get_or c.args.on.now c.args.resource None) (Some i) ins.updates.others c.point_prev.ensures.changed c.point_prev.ensures.others
