use Rattle.std.proofs.Common.{◌≡◌, ℕ, ◌+◌, [], cond, Option, None, length, refl, ap, sym, subst, not, ◌∙◌, arith}
use Rattle.std.specs.Prelude.{is_some}
use Rattle.std.specs.HashMap.{get, hash_map_len}
use Rattle.std.proofs.lemmas.List.{length_push}
use Rattle.sg_base.specs.declared.ids.BoxId.{BoxId}
use Rattle.sg_queues.specs.Rings.{queue_at}
use Rattle.sg_mailbox.specs.Posts.{box_eq}
use Rattle.sg_mailbox.specs.kept.Queues.{number, place, AreNumbered}
use Rattle.sg_mailbox.proofs.Lists.{nobody_first}
use Rattle.sg_mailbox.proofs.Numbers.{numbered_closed, closed_at, closed_keeps}
use Rattle.sg_mailbox.proofs.Places.{placed_like}
use Rattle.sg_mailbox.proofs.Steps.{closed_waiters}
use Rattle.sg_mailbox.proofs.box_queues.close.Goals as goal

pub returns-then-is_none : goal.returns-then-is_none
returns-then-is_none c =
    let old = c.args.kept.now in
    let was = c.requires.kept in
    let f : BoxId → Option ℕ = number old in
    let g : BoxId → Option ℕ = get box_eq c.remove.new.self in
    let is : (m : BoxId) → g m ≡ cond (box_eq c.args.mailbox m) None (f m) = c.remove.ensures.updates.0 in
    let none : queue_at old.queues.queues c.args.queue ≡ [] = nobody_first (queue_at old.queues.queues c.args.queue) (ap is_some (sym c.front.ensures.first) ∙ c.is_none.ensures ∙ ap not c.if-is_none.true) in
    let less : hash_map_len c.remove.new.self + 1 ≡ hash_map_len old.numbers = ap (λ o. hash_map_len c.remove.new.self + cond (is_some o) 1 0) (sym (c.remove.ensures.value ∙ c.requires.queue)) ∙ c.remove.ensures.len in
    let more : length c.push_reserved.new.self.items ≡ length old.empty.items + 1 = ap length c.push_reserved.ensures.items ∙ length_push old.empty.items c.args.queue in
    record {
      same = closed_waiters f g c.args.mailbox old.queues.queues c.args.queue c.requires.queue none is;
      room = refl;
      kept = record {
        roomy = record {
          numbers = omega (arith, was.roomy.numbers, c.remove.ensures.spare);
          empty = omega (arith, was.roomy.empty, more);
          places = was.roomy.places;
          queues = was.roomy.queues;
          stack = omega (arith, was.roomy.stack, less, more, c.push_reserved.ensures.capacity);
        };
        numbered = subst (λ l. AreNumbered g l old.queues.queues) (sym c.push_reserved.ensures.items) (numbered_closed f g c.args.mailbox old.queues.queues c.args.queue old.empty.items c.requires.queue none is was.numbered);
        placed = placed_like f g (place old) (place old) old.queues.queues old.queues.queues (λ q. refl) (λ s. refl) (closed_keeps f g c.args.mailbox old.queues.queues c.args.queue c.requires.queue none is) was.placed;
        slots = was.slots;
        ordered = was.ordered;
        filled = λ m q has empty. (let at = closed_at f g c.args.mailbox old.queues.queues is m q has in at.1 (was.filled m q at.0 empty));
      };
    }
