use Rattle.std.proofs.Common.{◌≡◌, ℕ, ◌+◌, ◌∷◌, ◌++◌, [], cond, inl, inr, Option, Some, refl, sym, ap, subst, length, ◌∙◌, arith}
use Rattle.std.specs.Prelude.{is_some, option_to_list}
use Rattle.std.specs.HashMap.{get, hash_map_len}
use Rattle.std.proofs.lemmas.List.{length_push}
use Rattle.sg_base.specs.declared.ids.BoxId.{BoxId}
use Rattle.sg_mailbox.specs.Posts.{box_eq}
use Rattle.sg_mailbox.specs.kept.Queues.{number, place, AreNumbered}
use Rattle.sg_mailbox.proofs.Lists.{box_same}
use Rattle.sg_mailbox.proofs.Numbers.{numbered_opened, opened_at, opened_keeps}
use Rattle.sg_mailbox.proofs.Places.{placed_like}
use Rattle.sg_mailbox.proofs.Steps.{opened_waiters}
use Rattle.sg_mailbox.proofs.box_queues.open.Goals as goal

pub returns : goal.returns
returns c =
    let old = c.args.kept.now in
    let was = c.requires.able.kept in
    let queue = c.in-Some.queue in
    let f : BoxId → Option ℕ = number old in
    let g : BoxId → Option ℕ = get box_eq c.insert.new.self in
    let is : (m : BoxId) → g m ≡ cond (box_eq c.args.mailbox m) (Some queue) (f m) = c.in-Ok.ensures.updates.0 in
    let items : old.empty.items ≡ c.pop.new.self.items ++ queue ∷ [] = c.pop.ensures.items ∙ ap (λ o. c.pop.new.self.items ++ option_to_list o) c.in-Some.is in
    let fewer : length c.pop.new.self.items + 1 ≡ length old.empty.items = sym (ap length items ∙ length_push c.pop.new.self.items queue) in
    let more : hash_map_len c.insert.new.self ≡ hash_map_len old.numbers + 1 = c.in-Ok.ensures.len ∙ ap (λ o. hash_map_len old.numbers + cond (is_some o) 0 1) (c.in-Ok.ensures.old ∙ c.requires.nobody) in
    let now : AreNumbered f (c.pop.new.self.items ++ queue ∷ []) old.queues.queues = subst (λ l. AreNumbered f l old.queues.queues) items was.numbered in
    record {
      queue = is c.args.mailbox ∙ ap (λ b. cond b (Some queue) (f c.args.mailbox)) (box_same c.args.mailbox);
      same = opened_waiters f g c.args.mailbox old.queues.queues queue c.pop.new.self.items c.requires.nobody is now;
      room = refl;
      kept = record {
        roomy = record {
          numbers = omega (arith, was.roomy.numbers, c.insert.ensures.spare);
          empty = omega (arith, was.roomy.empty, fewer);
          places = was.roomy.places;
          queues = was.roomy.queues;
          stack = omega (arith, was.roomy.stack, fewer, more, c.pop.ensures.capacity);
        };
        numbered = numbered_opened f g c.args.mailbox old.queues.queues queue c.pop.new.self.items is now;
        placed = placed_like f g (place old) (place old) old.queues.queues old.queues.queues (λ q. refl) (λ s. refl) (λ m q slot has there. opened_keeps f g c.args.mailbox old.queues.queues queue c.requires.nobody is m q has) was.placed;
        slots = was.slots;
        ordered = was.ordered;
        filled = λ m q has none. elim (opened_at f g c.args.mailbox old.queues.queues queue is m q has) [
          | inl here ↦ here.0
          | inr before ↦ absurd (was.filled m q before none)
        ];
      };
    }
