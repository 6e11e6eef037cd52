use Rattle.std.proofs.Common.{◌≡◌, ◌∙◌, ℕ, Some, min, ap, sym, subst, arith}
use Rattle.slab.specs.Slab.{HasRoomFor, Updates}
use Rattle.sg_maxmin.specs.declared.slots.Slot.{Slot}
use Rattle.sg_maxmin.specs.kept.Slots.{link_of, nothing, slot_in, slots_in}
use Rattle.sg_maxmin.proofs.CellLemmas.{count_slots, slots_updated, taken_few}
use Rattle.sg_maxmin.proofs.slots.Slots.insert.Goals as goal

pub insert_below-requires : goal.insert_below-requires
insert_below-requires c =
    let slab = c.self.inside.slab in
    let room = subst (λ s. HasRoomFor s 1) (sym c.self.view_is) c.requires.room in
    omega (arith, taken_few (min slab.capacity nothing) slab.slots, count_slots slab.slots, room)

-- a cell of the codes of a slot has that slot
coded : (slot : Slot) (of on prev : ℕ) → link_of of ≡ slot.next_of_flow → link_of on ≡ slot.next_on → link_of prev ≡ slot.prev_on →
    slot_in (record { flow = slot.flow; resource = slot.resource; next_of_flow = of; next_on = on; prev_on = prev }) ≡ slot
coded slot of on prev is_of is_on is_prev =
    ap (λ link. record slot { next_of_flow = link; next_on = link_of on; prev_on = link_of prev }) is_of
    ∙ ap (λ link. record slot { next_on = link; prev_on = link_of prev }) is_on
    ∙ ap (λ link. record slot { prev_on = link }) is_prev

pub returns-clause-updates : goal.returns-clause-updates
returns-clause-updates c =
    let put = c.insert_below in
    let is : slot_in _ ≡ c.args.slot = coded c.args.slot c.code_of.result c.code_of-2.result c.code_of-3.result c.code_of.ensures c.code_of-2.ensures c.code_of-3.ensures in
    subst (λ s. Updates s (slots_in put.new.slab) put.result (Some c.args.slot)) c.self.view_is
    (subst (λ slot. Updates (slots_in c.self.inside.slab) (slots_in put.new.slab) put.result (Some slot)) is (slots_updated c.self.inside.slab put.new.slab put.result _ put.ensures.updates))
