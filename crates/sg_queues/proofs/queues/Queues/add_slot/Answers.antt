use Rattle.std.proofs.Common.{◌≡◌, ◌+◌, ◌∷◌, [], ◌++◌, ◌∙◌, ap, length, arith}
use Rattle.std.proofs.lemmas.List.{length_push}
use Rattle.sg_queues.specs.Rings.{Rings}
use Rattle.sg_queues.specs.kept.Entries.{by_node, entries_of}
use Rattle.sg_queues.proofs.Entries.{entries_grown}
use Rattle.sg_queues.proofs.Homes.{homes_grown, nodes_grown}
use Rattle.sg_queues.proofs.Rows.{short}
use Rattle.sg_queues.proofs.queues.Queues.add_slot.Goals as goal

pub overflow_add-self : goal.overflow_add-self
overflow_add-self g c =
    let inside = c.self.inside in
    let len : length c.push_reserved.new.self.items ≡ length inside.homes.items + 1 =
    ap length (c.push_reserved.ensures.items ∙ ap (λ l. l ++ c.len-place.result ∷ []) c.reserve.ensures.items) ∙ length_push inside.homes.items c.len-place.result in
    record { fits = omega (arith, len, c.self.invariant.free, short c.self.invariant.apart 0, c.self.invariant.homes_fit, c.push_reserved.new.self.ok.0, c.push_reserved.new.self.small) }

pub retire-requires-clause-slot : goal.retire-requires-clause-slot
retire-requires-clause-slot g c = rw c.in_ok-slot.ensures.number c.in_ok-slot.ensures.is

pub retire-requires-clause-alone : goal.retire-requires-clause-alone
retire-requires-clause-alone g c = rw c.in_ok-slot.ensures.number c.in_ok-slot.ensures.alone

pub invariant_of-self-2 : goal.invariant_of-self-2
invariant_of-self-2 g c =
    let inside = c.self.inside in
    let is = c.retire.ensures.idle in
    let was = c.in_ok-slot.ensures.slot in
    let places : c.len-place.result ≡ length inside.values.items = omega (arith, c.len-place.ensures, inside.values.ok.0) in
    let nodes : c.retire.new.self.nodes ≡ inside.rings.nodes + 1 = ap (λ (r : Rings). r.nodes) is ∙ ap (λ (r : Rings). r.nodes) was in
    let heads = ap (λ (r : Rings). r.heads) is ∙ ap (λ (r : Rings). r.heads) was in
    rw (c.push_reserved.ensures.items, c.reserve.ensures.items, c.push_reserved-2.ensures.items, c.reserve-2.ensures.items) (record {
      apart = c.retire.ensures.apart;
      homes_fit = omega (arith, length_push inside.homes.items c.len-place.result, c.self.invariant.homes_fit, nodes);
      homes_are = rw (places, length_push inside.values.items inside.blank)
          (homes_grown nodes heads c.self.invariant.homes_fit (omega (arith, places, c.if-place.false)) c.self.invariant.homes_are);
      free = omega (arith, c.self.invariant.free, ap (λ (r : Rings). length r.idle) is, ap (λ (r : Rings). length r.idle) was, length_push c.add_slot.new.self.idle c.in_ok-slot.slot);
    })

pub returns : goal.returns
returns g c =
    let inside = c.self.inside in
    let values = by_node inside.blank inside.values.items inside.homes.items in
    let places : c.len-place.result ≡ length inside.values.items = omega (arith, c.len-place.ensures, inside.values.ok.0) in
    rw (← c.self.view_is, c.push_reserved.ensures.items, c.reserve.ensures.items, c.push_reserved-2.ensures.items, c.reserve-2.ensures.items, places)
    (ap (λ q. record { queues = q; room = inside.room + 1 })
    (ap (λ l. entries_of inside.blank l c.retire.new.self.queues) (nodes_grown inside.blank inside.values.items inside.homes.items)
    ∙ ap (λ (r : Rings). entries_of inside.blank (values ++ inside.blank ∷ []) r.queues) (c.retire.ensures.idle ∙ ap (λ (r : Rings). record r { idle = r.idle ++ c.in_ok-slot.slot ∷ [] }) c.in_ok-slot.ensures.slot)
    ∙ entries_grown inside.blank values inside.rings.queues))
