use Rattle.std.proofs.Common.{◌≡◌, ◌<◌, ◌∙◌, ap, sym, subst, length, set, Some, arith}
use Rattle.std.specs.Prelude.{map}
use Rattle.std.proofs.lemmas.List.{get_or_read, length-map, length-set}
use Rattle.sg_queues.specs.Rings.{Rings, front, joined, without}
use Rattle.sg_queues.specs.kept.Entries.{AreHomes, by_node, entries_of, entry, home, nowhere, value_in}
use Rattle.sg_queues.proofs.Lists.{left_none}
use Rattle.sg_queues.proofs.Entries.{front_in, in_idle, idle_apart, one_less, holds_at, are_slots, pushed}
use Rattle.sg_queues.proofs.Homes.{homes_stay, node_set}
use Rattle.sg_queues.proofs.queues.Queues.push_back.Goals as goal

pub index-requires : goal.index-requires
index-requires g c =
    let inside = c.self.inside in
    omega (arith, (in_idle inside.rings c.in-Some.slot c.self.invariant.apart (sym c.idle.ensures ∙ c.in-Some.is)).within, c.self.invariant.homes_fit, inside.homes.ok.0)

pub index_mut-requires : goal.index_mut-requires
index_mut-requires g c =
    let inside = c.self.inside in
    let slot_is = in_idle inside.rings c.in-Some.slot c.self.invariant.apart (sym c.idle.ensures ∙ c.in-Some.is) in
    let within : c.in-Some.slot < length inside.homes.items = omega (arith, slot_is.within, c.self.invariant.homes_fit) in
    omega (arith, c.self.invariant.homes_are.there c.in-Some.slot slot_is, get_or_read inside.homes.items c.in-Some.slot c.index.result.now within c.index.ensures nowhere, inside.values.ok.0)

pub leave-requires : goal.leave-requires
leave-requires g c = in_idle c.self.inside.rings c.in-Some.slot c.self.invariant.apart (sym c.idle.ensures ∙ c.in-Some.is)

pub join-requires : goal.join-requires
join-requires g c = record {
  slot = rw c.leave.ensures.left (in_idle c.self.inside.rings c.in-Some.slot c.self.invariant.apart (sym c.idle.ensures ∙ c.in-Some.is));
  alone = c.leave.ensures.alone;
  queue =
      let inside = c.self.inside in
      let values = by_node inside.blank inside.values.items inside.homes.items in
      let below : c.args.queue < length (entries_of inside.blank values inside.rings.queues) = rw (← c.self.view_is) at c.requires.queue in
      omega (arith, below, ap (λ (r : Rings). length r.queues) c.leave.ensures.left, length-map inside.rings.queues (without c.in-Some.slot), length-map inside.rings.queues (map (entry inside.blank values)));
}

pub invariant_of-self : goal.invariant_of-self
invariant_of-self g c =
    let inside = c.self.inside in
    let left = c.leave.ensures.left in
    let joined = c.join.ensures.joined in
    let nodes = ap (λ (r : Rings). r.nodes) joined ∙ ap (λ (r : Rings). r.nodes) left in
    let heads = ap (λ (r : Rings). r.heads) joined ∙ ap (λ (r : Rings). r.heads) left in
    record {
      apart = c.join.ensures.apart;
      homes_fit = c.self.invariant.homes_fit ∙ sym nodes;
      homes_are = subst (AreHomes c.join.new.self inside.homes.items) (sym (length-set inside.values.items c.index.result.now c.args.value)) (homes_stay nodes heads c.self.invariant.homes_are);
      free = omega (arith, c.self.invariant.free, ap (λ (r : Rings). length r.idle) joined, ap (λ (r : Rings). length r.idle) left, one_less inside.rings c.in-Some.slot c.self.invariant.apart (sym c.idle.ensures ∙ c.in-Some.is));
    }

pub returns-clause-queues : goal.returns-clause-queues
returns-clause-queues g c =
    let inside = c.self.inside in
    let kept = c.self.invariant in
    let is : front inside.rings.idle ≡ Some c.in-Some.slot = sym c.idle.ensures ∙ c.in-Some.is in
    let slot_is = in_idle inside.rings c.in-Some.slot kept.apart is in
    let within : c.in-Some.slot < length inside.homes.items = omega (arith, slot_is.within, kept.homes_fit) in
    let at : c.index.result.now ≡ home inside.homes.items c.in-Some.slot = get_or_read inside.homes.items c.in-Some.slot c.index.result.now within c.index.ensures nowhere in
    let values = by_node inside.blank inside.values.items inside.homes.items in
    let written : by_node inside.blank (set inside.values.items c.index.result.now c.args.value) inside.homes.items ≡ set values c.in-Some.slot c.args.value =
    ap (λ n. by_node inside.blank (set inside.values.items n c.args.value) inside.homes.items) at
    ∙ node_set inside.blank inside.values.items inside.homes.items c.in-Some.slot c.args.value kept.homes_are within (kept.homes_are.there c.in-Some.slot slot_is) in
    let alone = idle_apart inside.rings c.in-Some.slot kept.apart (front_in inside.rings.idle c.in-Some.slot is) in
    let queues = ap (λ (r : Rings). r.queues) c.leave.ensures.left ∙ left_none c.in-Some.slot inside.rings.queues alone in
    rw (← c.self.view_is)
    (ap (λ l. entries_of inside.blank l c.join.new.self.queues) written
    ∙ ap (λ (r : Rings). entries_of inside.blank (set values c.in-Some.slot c.args.value) r.queues) c.join.ensures.joined
    ∙ ap (λ l. entries_of inside.blank (set values c.in-Some.slot c.args.value) (joined c.in-Some.slot c.args.queue l)) queues
    ∙ pushed inside.blank values inside.rings.queues c.in-Some.slot c.args.queue c.args.value alone (omega (arith, within, length-map inside.homes.items (value_in inside.blank inside.values.items))))

pub returns-clause-fresh : goal.returns-clause-fresh
returns-clause-fresh g c =
    let inside = c.self.inside in
    rw (← c.self.view_is)
    (λ q. holds_at inside.blank (by_node inside.blank inside.values.items inside.homes.items) inside.rings.queues c.in-Some.slot q
    ∙ idle_apart inside.rings c.in-Some.slot c.self.invariant.apart (front_in inside.rings.idle c.in-Some.slot (sym c.idle.ensures ∙ c.in-Some.is)) q)

pub returns-clause-slots : goal.returns-clause-slots
returns-clause-slots g c = are_slots c.self.inside.blank _ c.join.new.self c.join.ensures.apart
