use Rattle.std.proofs.Common.{◌≡◌, ◌<◌, ◌∙◌, ap, sym, suc, length, Some, arith}
use Rattle.std.proofs.lemmas.List.{get_or_read}
use Rattle.sg_queues.specs.Rings.{front, queue_at}
use Rattle.sg_queues.specs.kept.Entries.{by_node, home, nowhere, value_in}
use Rattle.sg_queues.proofs.Entries.{front_in, front_entry, are_slots}
use Rattle.sg_queues.proofs.Homes.{node_read}
use Rattle.sg_queues.proofs.queues.Queues.front.Goals as goal

pub index-requires : goal.index-requires
index-requires g c =
    let inside = c.self.inside in
    omega (arith, (c.self.invariant.apart.slots (suc c.args.queue) c.in_ok-slot.slot (front_in (queue_at inside.rings.queues c.args.queue) c.in_ok-slot.slot (sym c.front.ensures ∙ c.in_ok-slot.was))).within, c.self.invariant.homes_fit, inside.homes.ok.0)

pub index-requires-2 : goal.index-requires-2
index-requires-2 g c =
    let inside = c.self.inside in
    let slot_is = c.self.invariant.apart.slots (suc c.args.queue) c.in_ok-slot.slot (front_in (queue_at inside.rings.queues c.args.queue) c.in_ok-slot.slot (sym c.front.ensures ∙ c.in_ok-slot.was)) in
    let within : c.in_ok-slot.slot < length inside.homes.items = omega (arith, slot_is.within, c.self.invariant.homes_fit) in
    omega (arith, c.self.invariant.homes_are.there c.in_ok-slot.slot slot_is, get_or_read inside.homes.items c.in_ok-slot.slot c.index.result.now within c.index.ensures nowhere, inside.values.ok.0)

pub returns-clause-first : goal.returns-clause-first
returns-clause-first g c =
    let inside = c.self.inside in
    let is : front (queue_at inside.rings.queues c.args.queue) ≡ Some c.in_ok-slot.slot = sym c.front.ensures ∙ c.in_ok-slot.was in
    let slot_is = c.self.invariant.apart.slots (suc c.args.queue) c.in_ok-slot.slot (front_in (queue_at inside.rings.queues c.args.queue) c.in_ok-slot.slot is) in
    let within : c.in_ok-slot.slot < length inside.homes.items = omega (arith, slot_is.within, c.self.invariant.homes_fit) in
    let at : c.index.result.now ≡ home inside.homes.items c.in_ok-slot.slot = get_or_read inside.homes.items c.in_ok-slot.slot c.index.result.now within c.index.ensures nowhere in
    let there : c.index.result.now < length inside.values.items = omega (arith, c.self.invariant.homes_are.there c.in_ok-slot.slot slot_is, at) in
    rw (← c.self.view_is)
    (ap (λ v. Some (c.in_ok-slot.slot, v))
    (get_or_read inside.values.items c.index.result.now c.index-2.result.now there c.index-2.ensures inside.blank
    ∙ ap (value_in inside.blank inside.values.items) at
    ∙ sym (node_read inside.blank inside.values.items inside.homes.items c.in_ok-slot.slot within))
    ∙ sym (front_entry inside.blank (by_node inside.blank inside.values.items inside.homes.items) inside.rings.queues c.args.queue c.in_ok-slot.slot is))

pub returns-clause-slots : goal.returns-clause-slots
returns-clause-slots g c =
    let inside = c.self.inside in
    rw (← c.self.view_is) (are_slots inside.blank (by_node inside.blank inside.values.items inside.homes.items) inside.rings c.self.invariant.apart)

pub returns-in_err-slot-clause-slots : goal.returns-in_err-slot-clause-slots
returns-in_err-slot-clause-slots g c =
    let inside = c.self.inside in
    rw (← c.self.view_is) (are_slots inside.blank (by_node inside.blank inside.values.items inside.homes.items) inside.rings c.self.invariant.apart)
