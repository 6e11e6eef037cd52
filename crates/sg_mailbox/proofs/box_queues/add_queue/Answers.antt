use Rattle.std.proofs.Common.{◌≡◌, ℕ, ◌+◌, ◌∷◌, ◌++◌, [], length, refl, ap, sym, subst, ◌∙◌, arith}
use Rattle.std.proofs.lemmas.List.{length_push}
use Rattle.sg_queues.specs.Rings.{queue_at}
use Rattle.sg_queues.proofs.Lists.{read_grown}
use Rattle.sg_mailbox.specs.kept.Queues.{number, place, AreNumbered}
use Rattle.sg_mailbox.proofs.Numbers.{numbered_added}
use Rattle.sg_mailbox.proofs.Places.{placed_like}
use Rattle.sg_mailbox.proofs.box_queues.add_queue.Goals as goal

pub returns-clause-kept : goal.returns-clause-kept
returns-clause-kept c =
    let old = c.args.kept.now in
    let was = c.requires.kept in
    let queues : c.add_queue.new.self.queues ≡ old.queues.queues ++ [] ∷ [] = ap (λ q. q.queues) c.in_ok-queue.ensures.queue in
    let at : (q : ℕ) → queue_at c.add_queue.new.self.queues q ≡ queue_at old.queues.queues q = λ q. ap (λ l. queue_at l q) queues ∙ read_grown old.queues.queues [] [] q (λ e. refl) in
    let items : c.push_reserved.new.self.items ≡ old.empty.items ++ length old.queues.queues ∷ [] = c.push_reserved.ensures.items ∙ ap (λ l. l ++ c.in_ok-queue.queue ∷ []) c.reserve.ensures.items ∙ ap (λ n. old.empty.items ++ n ∷ []) c.in_ok-queue.ensures.number in
    let more : length c.push_reserved.new.self.items ≡ length old.empty.items + 1 = ap length items ∙ length_push old.empty.items (length old.queues.queues) in
    record {
      roomy = record {
        numbers = was.roomy.numbers;
        empty = omega (arith, was.roomy.empty, more);
        places = was.roomy.places;
        queues = omega (arith, was.roomy.queues, ap (λ q. q.room) c.in_ok-queue.ensures.queue);
        stack = omega (arith, more, c.in_ok-reserve.ensures.ok, c.reserve.ensures.len, c.len.ensures.len, c.push_reserved.ensures.capacity);
      };
      numbered = subst (λ l. AreNumbered (number old) l c.add_queue.new.self.queues) (sym items) (rw queues (numbered_added (number old) old.empty.items old.queues.queues was.numbered));
      placed = placed_like (number old) (number old) (place old) (place old) old.queues.queues c.add_queue.new.self.queues at (λ s. refl) (λ m q slot has there. has) was.placed;
      slots = c.in_ok-queue.ensures.slots;
      ordered = λ q. rw (at q) (was.ordered q);
      filled = λ m q has none. was.filled m q has (sym (at q) ∙ none);
    }
