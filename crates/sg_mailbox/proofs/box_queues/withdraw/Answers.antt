use Rattle.std.proofs.Common.{◌≡◌, ◌≢◌, ℕ, ◌<◌, not, eqb, [], List, inl, inr, None, Some, ap, sym, ◌∙◌, arith}
use Rattle.std.specs.Prelude.{map, All}
use Rattle.sg_queues.specs.Serials as serials
use Rattle.std.proofs.lemmas.Bool.{cases_eq}
use Rattle.std.proofs.lemmas.List.{length-map}
use Rattle.std.proofs.lemmas.List.Kept.{AllPairs-filter}
use Rattle.sg_queues.specs.Rings.{queue_at}
use Rattle.sg_queues.specs.Queues.{value, values_of, without_slot, let_go}
use Rattle.sg_queues.proofs.Entries.{not_there}
use Rattle.sg_queues.proofs.Lists.{map_at, without_none}
use Rattle.sg_mailbox.specs.declared.sides.Post.{Post}
use Rattle.sg_mailbox.specs.Posts.{posts_in, waiters, posts_without}
use Rattle.sg_mailbox.specs.kept.Queues.{number, place, posts_of, IsPlace}
use Rattle.sg_mailbox.proofs.Numbers.{numbered_as}
use Rattle.sg_mailbox.proofs.Places.{placed_taken, posts_left}
use Rattle.sg_mailbox.proofs.Steps.{taken_in, unplaced}
use Rattle.sg_mailbox.proofs.box_queues.withdraw.Goals as goal

pub close-requires-clause-kept : goal.close-requires-clause-kept
close-requires-clause-kept c =
    let old = c.args.kept.now in
    let was = c.requires.kept in
    let gone = c.in-Some.place in
    let queues : List (List (ℕ × Post)) = old.queues.queues in
    let is : place old c.args.serial.0 ≡ Some gone = sym c.remove.ensures.was ∙ c.in-Some.is in
    let held : IsPlace (number old) queues gone = rw is at (was.placed.held c.args.serial.0) in
    let at : (q : ℕ) → queue_at (let_go gone.slot queues) q ≡ without_slot gone.slot (queue_at queues q) = λ q. map_at (without_slot gone.slot) [] queues q in
    let posts : (q : ℕ) → map value (without_slot gone.slot (queue_at queues q)) ≡ posts_without c.args.serial (map value (queue_at queues q)) =
    posts_left (number old) (place old) queues c.args.serial gone was.placed is in
    record {
      roomy = record {
        numbers = was.roomy.numbers;
        empty = was.roomy.empty;
        places = omega (arith, was.roomy.places, c.remove.ensures.room);
        queues = omega (arith, was.roomy.queues, c.remove-in-Some.ensures.room);
        stack = was.roomy.stack;
      };
      numbered = rw c.remove-in-Some.ensures.queues
          (numbered_as (number old) (number old) old.empty.items queues (let_go gone.slot queues) (λ m q is. is) (omega (arith, length-map queues (without_slot gone.slot))) (λ q free. at q ∙ ap (without_slot gone.slot) free.none) was.numbered);
      placed = rw c.remove-in-Some.ensures.queues (placed_taken (number old) (place old) (serials.at c.remove.new.self) queues c.args.serial.0 gone was.placed is c.remove.ensures.puts);
      slots = c.remove-in-Some.ensures.slots;
      ordered = λ q. rw (c.remove-in-Some.ensures.queues, at q, posts q) (AllPairs-filter (λ (first later : Post). (first.sends ≡ later.sends) × (first.serial.0 < later.serial.0)) (λ (post : Post). not (eqb post.serial.0 c.args.serial.0)) (map value (queue_at queues q)) (was.ordered q));
      filled = λ m q has none. elim (cases_eq q gone.queue) [
        | inl same ↦ was.numbered.once m gone.mailbox q has (held.queue ∙ ap (λ n. Some n) (sym same))
        | inr apart ↦
            let absent : All (λ (entry : ℕ × Post). entry.0 ≢ gone.slot) (queue_at queues q) = not_there queues gone.queue q gone.slot was.slots held.there apart in
            absurd (was.filled m q has (sym (without_none (λ (entry : ℕ × Post). entry.0) gone.slot (queue_at queues q) absent) ∙ sym (at q) ∙ ap (λ l. queue_at l q) (sym c.remove-in-Some.ensures.queues) ∙ none))
      ];
    }

pub returns-in-Some-clause-left : goal.returns-in-Some-clause-left
returns-in-Some-clause-left c = λ mailbox.
    let old = c.args.kept.now in
    let gone = c.in-Some.place in
    let queues : List (List (ℕ × Post)) = old.queues.queues in
    let is : place old c.args.serial.0 ≡ Some gone = sym c.remove.ensures.was ∙ c.in-Some.is in
    c.close.ensures.same mailbox
    ∙ ap (λ l. posts_in (values_of l) (number old mailbox)) c.remove-in-Some.ensures.queues
    ∙ taken_in queues gone.slot c.args.serial (posts_left (number old) (place old) queues c.args.serial gone c.requires.kept.placed is) (number old mailbox)

pub returns-in_default-clause-left : goal.returns-in_default-clause-left
returns-in_default-clause-left c = λ mailbox.
    let old = c.args.kept.now in
    let none : place old c.args.serial.0 ≡ None = sym c.remove.ensures.was ∙ c.in_default.is in
    sym (without_none (λ (post : Post). post.serial.0) c.args.serial.0 (waiters (posts_of old) mailbox) (unplaced old c.args.serial c.requires.kept none mailbox))
