use Rattle.std.proofs.Common.{◌∙◌, ap, length, arith}
use Rattle.sg_queues.specs.Rings.{Rings}
use Rattle.sg_queues.specs.kept.Entries.{by_node, entries_of}
use Rattle.sg_queues.proofs.Entries.{are_slots, freed, held_slot, removed}
use Rattle.sg_queues.proofs.queues.Queues.remove.Goals as goal

pub leave-requires : goal.leave-requires
leave-requires g c =
    let inside = c.self.inside in
    (held_slot inside.blank (by_node inside.blank inside.values.items inside.homes.items) inside.rings c.args.slot c.self.invariant.apart (rw (← c.self.view_is) at c.requires)).0

pub retire-requires-clause-slot : goal.retire-requires-clause-slot
retire-requires-clause-slot g c =
    let inside = c.self.inside in
    rw c.leave.ensures.left (held_slot inside.blank (by_node inside.blank inside.values.items inside.homes.items) inside.rings c.args.slot c.self.invariant.apart (rw (← c.self.view_is) at c.requires)).0

pub invariant_of-self : goal.invariant_of-self
invariant_of-self g c =
    let inside = c.self.inside in
    (freed inside.blank (by_node inside.blank inside.values.items inside.homes.items) inside.homes.items inside.rings c.leave.new.self c.retire.new.self (length inside.values.items) inside.room c.args.slot c.self.invariant (rw (← c.self.view_is) at c.requires) c.retire.ensures.apart c.leave.ensures.left c.retire.ensures.idle).0

pub overflow_add-self : goal.overflow_add-self
overflow_add-self g c =
    let inside = c.self.inside in
    let few = (freed inside.blank (by_node inside.blank inside.values.items inside.homes.items) inside.homes.items inside.rings c.leave.new.self c.retire.new.self (length inside.values.items) inside.room c.args.slot c.self.invariant (rw (← c.self.view_is) at c.requires) c.retire.ensures.apart c.leave.ensures.left c.retire.ensures.idle).1 in
    record { fits = omega (arith, few, inside.homes.ok.0, inside.homes.small) }

pub returns-clause-queues : goal.returns-clause-queues
returns-clause-queues g c =
    let inside = c.self.inside in
    rw (← c.self.view_is)
    (ap (λ (r : Rings). entries_of inside.blank (by_node inside.blank inside.values.items inside.homes.items) r.queues) c.retire.ensures.idle
    ∙ ap (λ (r : Rings). entries_of inside.blank (by_node inside.blank inside.values.items inside.homes.items) r.queues) c.leave.ensures.left
    ∙ removed inside.blank (by_node inside.blank inside.values.items inside.homes.items) inside.rings.queues c.args.slot)

pub returns-clause-slots : goal.returns-clause-slots
returns-clause-slots g c = are_slots c.self.inside.blank (by_node c.self.inside.blank c.self.inside.values.items c.self.inside.homes.items) c.retire.new.self c.retire.ensures.apart
