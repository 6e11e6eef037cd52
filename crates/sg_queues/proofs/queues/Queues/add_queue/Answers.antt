use Rattle.std.proofs.Common.{◌∷◌, [], ◌++◌, ◌∙◌, ap, sym, length, arith}
use Rattle.std.proofs.lemmas.List.{length-map, length_push, map_push}
use Rattle.sg_queues.specs.Rings.{Rings}
use Rattle.sg_queues.specs.kept.Entries.{by_node, entries_of, entry, nowhere}
use Rattle.std.specs.Prelude.{map}
use Rattle.sg_queues.proofs.Entries.{are_slots, entries_grown}
use Rattle.sg_queues.proofs.Homes.{homes_headed, nodes_headed}
use Rattle.sg_queues.proofs.queues.Queues.add_queue.Goals as goal

pub invariant_of-self-2 : goal.invariant_of-self-2
invariant_of-self-2 g c =
    let inside = c.self.inside in
    let was = c.in_ok-number.ensures.queue in
    let nodes = ap (λ (r : Rings). r.nodes) was in
    rw (c.push_reserved.ensures.items, c.reserve.ensures.items) (record {
      apart = c.in_ok-number.ensures.apart;
      homes_fit = omega (arith, length_push inside.homes.items nowhere, c.self.invariant.homes_fit, nodes);
      homes_are = homes_headed nodes (ap (λ (r : Rings). r.heads) was) c.self.invariant.homes_fit c.self.invariant.homes_are;
      free = c.self.invariant.free ∙ sym (ap (λ (r : Rings). length r.idle) was);
    })

pub returns : goal.returns
returns g c =
    let inside = c.self.inside in
    let values = by_node inside.blank inside.values.items inside.homes.items in
    record {
      number = rw (← c.self.view_is) (c.in_ok-number.ensures.number ∙ sym (length-map inside.rings.queues (map (entry inside.blank values))));
      queue = rw (← c.self.view_is, c.push_reserved.ensures.items, c.reserve.ensures.items)
          (ap (λ q. record { queues = q; room = inside.room })
          (ap (λ l. entries_of inside.blank l c.add_queue.new.self.queues) (nodes_headed inside.blank inside.values.items inside.homes.items c.self.invariant.homes_are.few)
          ∙ ap (λ (r : Rings). entries_of inside.blank (values ++ inside.blank ∷ []) r.queues) c.in_ok-number.ensures.queue
          ∙ entries_grown inside.blank values (inside.rings.queues ++ [] ∷ [])
          ∙ map_push (map (entry inside.blank values)) inside.rings.queues []));
      slots = are_slots inside.blank _ c.add_queue.new.self c.in_ok-number.ensures.apart;
      kept = tt;
    }
