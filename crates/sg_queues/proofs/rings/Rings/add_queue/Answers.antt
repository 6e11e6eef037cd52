use Rattle.std.proofs.Common.{◌∙◌, ◌++◌, ◌∷◌, [], ap, length, rules}
use Rattle.std.proofs.lemmas.List.{length_push}
use Rattle.sg_queues.proofs.Moves.{as_walked, seen_is, with_head, with_queue}
use Rattle.sg_queues.proofs.rings.Rings.add_queue.Goals as goal

pub invariant_of-self-2 : goal.invariant_of-self-2
invariant_of-self-2 c =
    let heads = c.self.inside.heads.items in
    as_walked (with_head c.self.invariant c.in_ok-head.ensures.few c.in_ok-head.ensures.next c.in_ok-head.ensures.prev
    (ap (λ l. 0 ∷ l) (c.push_reserved.ensures.items ∙ ap (λ l. l ++ c.in_ok-head.head ∷ []) c.reserve.ensures.items ∙ ap (λ n. heads ++ n ∷ []) c.in_ok-head.ensures.node)))

pub returns : goal.returns
returns c =
    let next = c.self.inside.links.next.items in
    record {
      number = search rules;
      queue = rw (← c.self.view_is, c.push_reserved.ensures.items, c.in_ok-head.ensures.node, c.in_ok-head.ensures.next, c.reserve.ensures.items)
          (seen_is (with_queue c.self.invariant c.in_ok-head.ensures.few) (length_push next (length next)));
      apart = (invariant_of-self-2 c).apart;
      kept = tt;
    }
