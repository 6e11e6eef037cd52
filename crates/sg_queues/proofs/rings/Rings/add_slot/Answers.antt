use Rattle.std.proofs.Common.{◌∙◌, ◌∷◌, ap, sym, subst, length, rules}
use Rattle.std.proofs.lemmas.List.{length_push}
use Rattle.sg_queues.specs.Rings.{IsAlone, IsSlot}
use Rattle.sg_queues.proofs.Moves.{as_walked, seen_is, walked_are, with_node}
use Rattle.sg_queues.proofs.Rows.{new_apart, new_slot}
use Rattle.sg_queues.proofs.rings.Rings.add_slot.Goals as goal

pub invariant_of-self-2 : goal.invariant_of-self-2
invariant_of-self-2 c = as_walked (with_node c.self.invariant c.in_ok-slot.ensures.few c.in_ok-slot.ensures.next c.in_ok-slot.ensures.prev)

pub returns : goal.returns
returns c =
    let inside = c.self.inside in
    let next = inside.links.next.items in
    let node = with_node c.self.invariant c.in_ok-slot.ensures.few c.in_ok-slot.ensures.next c.in_ok-slot.ensures.prev in
    record {
      number = search rules;
      slot = rw (← c.self.view_is) (seen_is node (ap length c.in_ok-slot.ensures.next ∙ length_push next (length next)));
      alone = rw (← c.self.view_is) (subst (IsAlone (length next)) (sym (walked_are node)) (new_apart c.self.invariant.apart));
      is = rw (← c.self.view_is) (subst (λ n. IsSlot n (0 ∷ inside.heads.items) (length next)) (sym (ap length c.in_ok-slot.ensures.next ∙ length_push next (length next))) (new_slot c.self.invariant.apart));
      apart = (invariant_of-self-2 c).apart;
      kept = tt;
    }
