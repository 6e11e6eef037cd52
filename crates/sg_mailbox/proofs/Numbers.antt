-- Whose each queue is, as mailboxes get queues and leave them.
use Rattle.std.proofs.Common.{◌≡◌, ◌≢◌, ℕ, ◌+◌, ◌≤◌, ◌⊎◌, inl, inr, true, true≢false, cond, Option, None, Some, List, [], ◌∷◌, ◌++◌, length, get_or, refl, sym, ap, ◌∙◌, arith}
use Rattle.std.specs.Prelude.{All}
use Rattle.std.proofs.lemmas.Bool.{cases_Bool}
use Rattle.std.proofs.lemmas.List.{length_push, get_or_push, get_or_append_left}
use Rattle.std.proofs.lemmas.List.Elements.{All-pop, All-push, All-weaker}
use Rattle.std.proofs.lemmas.List.Quantifiers.{all_pairs_push}
use Rattle.sg_base.specs.declared.ids.BoxId.{BoxId}
use Rattle.sg_queues.specs.Rings.{queue_at}
use Rattle.sg_queues.specs.Queues.{holds}
use Rattle.sg_mailbox.specs.declared.sides.Post.{Post}
use Rattle.sg_mailbox.specs.Posts.{box_eq}
use Rattle.sg_mailbox.specs.kept.Queues.{IsFree, AreNumbered}
use Rattle.sg_mailbox.proofs.Lists.{box_found, box_same, pairs_before}

-- fewer mailboxes may have queues, and queues change, but those that are free stay empty
pub numbered_as : (f g : BoxId → Option ℕ) (empty : List ℕ) (queues moved : List (List (ℕ × Post))) → ((mailbox : BoxId) (queue : ℕ) → g mailbox ≡ Some queue → f mailbox ≡ Some queue) → length queues ≤ length moved
    → ((queue : ℕ) → IsFree f queues queue → queue_at moved queue ≡ []) → AreNumbered f empty queues → AreNumbered g empty moved
numbered_as f g empty queues moved less more stay old = record {
  within = λ m q is. omega (arith, more, old.within m q (less m q is));
  once = λ a b q a_is b_is. old.once a b q (less a q a_is) (less b q b_is);
  free = All-weaker (IsFree f queues) (IsFree g moved) (λ q free. record { within = omega (arith, more, free.within); none = stay q free; nobodys = λ m is. free.nobodys m (less m q is) }) empty old.free;
  distinct = old.distinct;
}

-- one more queue is free
numbered_free : (f : BoxId → Option ℕ) (empty : List ℕ) (queues : List (List (ℕ × Post))) (queue : ℕ) → AreNumbered f empty queues → IsFree f queues queue → All (λ other. other ≢ queue) empty → AreNumbered f (empty ++ queue ∷ []) queues
numbered_free f empty queues queue old free apart = record { within = old.within; once = old.once; free = All-push (IsFree f queues) empty queue old.free free; distinct = all_pairs_push (λ a b. a ≢ b) empty queue old.distinct apart }

pub numbered_added : (f : BoxId → Option ℕ) (empty : List ℕ) (queues : List (List (ℕ × Post))) → AreNumbered f empty queues → AreNumbered f (empty ++ length queues ∷ []) (queues ++ [] ∷ [])
numbered_added f empty queues old =
    let long : length (queues ++ [] ∷ []) ≡ length queues + 1 = length_push queues [] in
    numbered_free f empty (queues ++ [] ∷ []) (length queues) (numbered_as f f empty queues (queues ++ [] ∷ []) (λ m q is. is) (omega (arith, long)) (λ q free. get_or_append_left queues ([] ∷ []) [] q free.within ∙ free.none) old)
    (record { within = omega (arith, long); none = get_or_push queues [] [] (length queues) refl; nobodys = λ m is. omega (arith, old.within m (length queues) is) })
    (λ k d below same. omega (arith, (old.free k d below).within, same))

-- the last of the free queues is free
pub last_free : (f : BoxId → Option ℕ) (rest : List ℕ) (queues : List (List (ℕ × Post))) (queue : ℕ) → All (IsFree f queues) (rest ++ queue ∷ []) → IsFree f queues queue
last_free f rest queues queue free = (All-pop (IsFree f queues) (rest ++ queue ∷ []) rest (Some queue) refl free).1

-- ---- the queue of one mailbox changes
module _ (f g : BoxId → Option ℕ) (mailbox : BoxId) (queues : List (List (ℕ × Post))) where
  pub changed : (o : Option ℕ) → ((m : BoxId) → g m ≡ cond (box_eq mailbox m) o (f m)) → (m : BoxId) → ((m ≡ mailbox) × (g m ≡ o)) ⊎ ((m ≢ mailbox) × (g m ≡ f m))
  changed o is m = elim (cases_Bool (box_eq mailbox m)) [
    | inl here ↦ inl (sym (box_found mailbox m here), is m ∙ ap (λ b. cond b o (f m)) here)
    | inr apart ↦ inr (λ same. true≢false (sym (box_same mailbox) ∙ ap (box_eq mailbox) (sym same) ∙ apart), is m ∙ ap (λ b. cond b o (f m)) apart)
  ]

  pub opened_at : (queue : ℕ) → ((m : BoxId) → g m ≡ cond (box_eq mailbox m) (Some queue) (f m)) → (m : BoxId) (q : ℕ) → g m ≡ Some q → ((m ≡ mailbox) × (q ≡ queue)) ⊎ (f m ≡ Some q)
  opened_at queue is m q has = elim (changed (Some queue) is m) [
    | inl here ↦ inl (let same : Some queue ≡ Some q = sym here.1 ∙ has in (here.0, cc same))
    | inr apart ↦ inr (sym apart.1 ∙ has)
  ]

  pub opened_keeps : (queue : ℕ) → f mailbox ≡ None → ((m : BoxId) → g m ≡ cond (box_eq mailbox m) (Some queue) (f m)) → (m : BoxId) (q : ℕ) → f m ≡ Some q → g m ≡ Some q
  opened_keeps queue none is m q has = elim (changed (Some queue) is m) [
    | inl here ↦ absurd (let bad : None ≡ Some q = sym none ∙ ap f (sym here.0) ∙ has in cc bad)
    | inr apart ↦ apart.1 ∙ has
  ]

  -- it gets the last of the free queues
  pub numbered_opened : (queue : ℕ) (rest : List ℕ) → ((m : BoxId) → g m ≡ cond (box_eq mailbox m) (Some queue) (f m)) → AreNumbered f (rest ++ queue ∷ []) queues → AreNumbered g rest queues
  numbered_opened queue rest is old =
      let at = opened_at queue is in
      let apart = pairs_before (λ a b. a ≢ b) rest queue old.distinct in
      let frees = All-pop (IsFree f queues) (rest ++ queue ∷ []) rest (Some queue) refl old.free in
      let free : IsFree f queues queue = frees.1 in
      record {
        within = λ m q has. elim (at m q has) [ inl here ↦ omega (arith, free.within, here.1) | inr was ↦ old.within m q was ];
        once = λ a b q a_has b_has. elim (at a q a_has) [
          | inl here ↦ elim (at b q b_has) [ inl too ↦ here.0 ∙ sym too.0 | inr was ↦ absurd (free.nobodys b (was ∙ ap (λ n. Some n) here.1)) ]
          | inr was ↦ elim (at b q b_has) [ inl here ↦ absurd (free.nobodys a (was ∙ ap (λ n. Some n) here.1)) | inr too ↦ old.once a b q was too ]
        ];
        free = λ k d below.
            let was : IsFree f queues (get_or rest k d) = frees.0 k d below in
            record { within = was.within; none = was.none; nobodys = λ m has. elim (at m (get_or rest k d) has) [ inl here ↦ apart.1 k d below here.1 | inr is' ↦ was.nobodys m is' ] };
        distinct = apart.0;
      }

  pub closed_at : ((m : BoxId) → g m ≡ cond (box_eq mailbox m) None (f m)) → (m : BoxId) (q : ℕ) → g m ≡ Some q → (f m ≡ Some q) × (m ≢ mailbox)
  closed_at is m q has = elim (changed None is m) [
    | inl here ↦ absurd (let bad : None ≡ Some q = sym here.1 ∙ has in cc bad)
    | inr apart ↦ (sym apart.1 ∙ has, apart.0)
  ]

  pub closed_keeps : (queue : ℕ) → f mailbox ≡ Some queue → queue_at queues queue ≡ [] → ((m : BoxId) → g m ≡ cond (box_eq mailbox m) None (f m)) → (m : BoxId) (q slot : ℕ) → f m ≡ Some q → holds slot (queue_at queues q) ≡ true → g m ≡ Some q
  closed_keeps queue at none is m q slot has there = elim (changed None is m) [
    | inl here ↦ absurd (let same : Some q ≡ Some queue = sym has ∙ ap f here.0 ∙ at in let one : q ≡ queue = cc same in true≢false (sym there ∙ ap (λ n. holds slot (queue_at queues n)) one ∙ ap (holds slot) none))
    | inr apart ↦ apart.1 ∙ has
  ]

  -- it leaves its queue, which is empty
  pub numbered_closed : (queue : ℕ) (empty : List ℕ) → f mailbox ≡ Some queue → queue_at queues queue ≡ [] → ((m : BoxId) → g m ≡ cond (box_eq mailbox m) None (f m)) → AreNumbered f empty queues → AreNumbered g (empty ++ queue ∷ []) queues
  numbered_closed queue empty has none is old =
      let at = closed_at is in
      numbered_free g empty queues queue (numbered_as f g empty queues queues (λ m q has'. (at m q has').0) (omega arith) (λ q free. free.none) old)
      (record { within = old.within mailbox queue has; none = none; nobodys = λ m has'. (at m queue has').1 (old.once m mailbox queue (at m queue has').0 has) })
      (λ k d below same. (old.free k d below).nobodys mailbox (has ∙ ap (λ n. Some n) (sym same)))
