use Rattle.std.proofs.Common.{◌≡◌, ◌≢◌, ℕ, ◌-◌, ◌<◌, ◌∷◌, ◌++◌, [], List, inl, inr, Some, length, set, refl, ap, sym, subst, ◌∙◌, arith}
use Rattle.std.specs.Prelude.{map, All}
use Rattle.sg_queues.specs.Serials as serials
use Rattle.std.proofs.lemmas.Bool.{cases_eq}
use Rattle.std.proofs.lemmas.List.{length-set, get_or-set_same, get_or-set_other, length-append, map-append}
use Rattle.std.proofs.lemmas.List.Quantifiers.{all_pairs_push}
use Rattle.sg_queues.specs.Rings.{queue_at}
use Rattle.sg_queues.specs.Queues.{value, values_of}
use Rattle.sg_queues.proofs.Values.{values_at}
use Rattle.sg_mailbox.specs.declared.sides.Post.{Post}
use Rattle.sg_mailbox.specs.declared.sides.Place.{Place}
use Rattle.sg_mailbox.specs.Posts.{posts_in, waiters}
use Rattle.sg_mailbox.specs.kept.Queues.{number, place, posts_of}
use Rattle.sg_mailbox.proofs.Numbers.{numbered_as}
use Rattle.sg_mailbox.proofs.Places.{placed_put}
use Rattle.sg_mailbox.proofs.Steps.{put_there, put_elsewhere, unknown}
use Rattle.sg_mailbox.proofs.box_queues.put.Goals as goal

pub returns : goal.returns
returns c =
    let old = c.args.kept.now in
    let was = c.requires.kept in
    let queue = c.args.queue in
    let queues : List (List (ℕ × Post)) = old.queues.queues in
    let new : ℕ × Post = (c.push_back-slot.result, c.args.post) in
    let longer : List (ℕ × Post) = queue_at queues queue ++ new ∷ [] in
    let below : queue < length queues = was.numbered.within c.args.mailbox queue c.requires.queue in
    let here : queue_at (set queues queue longer) queue ≡ longer = get_or-set_same queues queue longer [] below in
    let apart : (q : ℕ) → q ≢ queue → queue_at (set queues queue longer) q ≡ queue_at queues q = λ q other. get_or-set_other queues queue q longer [] other in
    let at : Place = record { mailbox = c.args.mailbox; queue = queue; slot = c.push_back-slot.result } in
    let seen : waiters (posts_of old) c.args.mailbox ≡ map value (queue_at queues queue) = ap (posts_in (values_of queues)) c.requires.queue ∙ values_at queues queue in
    let lower : All (λ (first : Post). first.serial.0 < c.args.post.serial.0) (map value (queue_at queues queue)) = subst (All (λ (first : Post). first.serial.0 < c.args.post.serial.0)) seen (c.requires.above c.args.mailbox) in
    let alike : All (λ (first : Post). first.sends ≡ c.args.post.sends) (map value (queue_at queues queue)) = subst (All (λ (first : Post). first.sends ≡ c.args.post.sends)) seen c.requires.alike in
    record {
      there = rw c.push_back-slot.ensures.queues (rw c.requires.queue (put_there queues queue c.push_back-slot.result c.args.post below));
      elsewhere = λ other apart.
          rw c.push_back-slot.ensures.queues
          (put_elsewhere queues queue c.push_back-slot.result c.args.post (number old other) (λ has. apart (was.numbered.once other c.args.mailbox queue has c.requires.queue)));
      room = refl;
      kept = record {
        roomy = record {
          numbers = was.roomy.numbers;
          empty = was.roomy.empty;
          places = omega (arith, was.roomy.places, c.insert.ensures.room);
          queues = omega (arith, was.roomy.queues, c.push_back-slot.ensures.room);
          stack = was.roomy.stack;
        };
        numbered = rw c.push_back-slot.ensures.queues
            (numbered_as (number old) (number old) old.empty.items queues (set queues queue longer) (λ m q is. is) (omega (arith, length-set queues queue longer)) (λ q free. apart q (λ e. free.nobodys c.args.mailbox (c.requires.queue ∙ ap (λ n. Some n) (sym e))) ∙ free.none) was.numbered);
        placed = rw c.push_back-slot.ensures.queues
            (placed_put (number old) (place old) (serials.at c.insert.new.self) queues at c.args.post c.requires.queue below (unknown (old.room - 1) (λ other. other ≡ c.args.mailbox) old c.args.post.serial was c.requires.above) c.push_back-slot.ensures.fresh c.insert.ensures.puts was.placed);
        slots = c.push_back-slot.ensures.slots;
        ordered = λ q. rw c.push_back-slot.ensures.queues (elim (cases_eq q queue) [
          | inl same ↦ rw (same, here, map-append)
              (all_pairs_push (λ (first later : Post). (first.sends ≡ later.sends) × (first.serial.0 < later.serial.0)) (map value (queue_at queues queue)) c.args.post (was.ordered queue) (λ k d less. (alike k d less, lower k d less)))
          | inr other ↦ rw (apart q other) (was.ordered q)
        ]);
        filled = λ m q has none. elim (cases_eq q queue) [
          | inl same ↦ absurd (let bad : longer ≡ [] = sym here ∙ ap (queue_at (set queues queue longer)) (sym same) ∙ ap (λ l. queue_at l q) (sym c.push_back-slot.ensures.queues) ∙ none in omega (arith, ap length bad, length-append (queue_at queues queue) (new ∷ [])))
          | inr other ↦ absurd (other (let mine : m ≡ c.args.mailbox = was.filled m q has (sym (apart q other) ∙ ap (λ l. queue_at l q) (sym c.push_back-slot.ensures.queues) ∙ none) in let same : Some q ≡ Some queue = sym has ∙ ap (number old) mine ∙ c.requires.queue in cc same))
        ];
      };
    }
