-- The place of each waiting endpoint, as one arrives and as one leaves.
use Rattle.std.proofs.Common.{◌≡◌, ◌≢◌, ℕ, ◌<◌, inl, inr, Bool, true, false, true≢false, not, ◌||◌, cond, eqb, nat_eq, Option, None, Some, List, [], ◌∷◌, ◌++◌, length, get_or, refl, sym, ap, subst, ◌∙◌}
use Rattle.std.specs.Prelude.{All, IfSome, filter, map}
use Rattle.std.proofs.lemmas.Bool.{cases_eq, eq-eqb, ne_eqb, eqb-true, not-true, or_left, or_right}
use Rattle.std.proofs.lemmas.List.{get_or-set_same, get_or-set_other}
use Rattle.std.proofs.lemmas.List.Elements.{All-push, All-head, All-filter, filter_passes}
use Rattle.std.proofs.lemmas.List.Folds.{list_any-append, list_any_at}
use Rattle.sg_base.specs.declared.ids.BoxId.{BoxId}
use Rattle.sg_base.specs.declared.ids.Serial.{Serial}
use Rattle.sg_queues.specs.Rings.{queue_at, front, behind}
use Rattle.sg_queues.specs.Queues.{holds, value, queued, let_go, without_slot, AreSlots}
use Rattle.sg_queues.proofs.Entries.{holds_front}
use Rattle.sg_queues.proofs.Lists.{map_at, from_front}
use Rattle.sg_mailbox.specs.declared.sides.Post.{Post}
use Rattle.sg_mailbox.specs.declared.sides.Place.{Place}
use Rattle.sg_mailbox.specs.Posts.{posts_without}
use Rattle.sg_mailbox.specs.kept.Queues.{is_at, IsPlace, ArePlaced}
use Rattle.sg_mailbox.proofs.Lists.{entry_in, holds_without, without_posts}

carried : (f g : BoxId → Option ℕ) (queues later : List (List (ℕ × Post))) (o : Option Place) → ((p : Place) → o ≡ Some p → IsPlace f queues p → IsPlace g later p) → IfSome o (IsPlace f queues) → IfSome o (IsPlace g later)
carried f g queues later None keep held = tt
carried f g queues later (Some p) keep held = keep p refl held

-- the same endpoints wait in the same places
pub placed_like : (f g : BoxId → Option ℕ) (place other : ℕ → Option Place) (queues same : List (List (ℕ × Post))) → ((queue : ℕ) → queue_at same queue ≡ queue_at queues queue) → ((serial : ℕ) → other serial ≡ place serial)
    → ((mailbox : BoxId) (queue slot : ℕ) → f mailbox ≡ Some queue → holds slot (queue_at queues queue) ≡ true → g mailbox ≡ Some queue) → ArePlaced f place queues → ArePlaced g other same
placed_like f g place other queues same like is keep old = record {
  told = λ q s. rw (like q, is s) (old.told q s);
  held = λ s. rw (is s) (carried f g queues same (place s) (λ p e held. record { queue = keep p.mailbox p.queue p.slot held.queue held.there; there = rw (like p.queue) held.there }) (old.held s));
}

-- the endpoint that waits in a place has its activity id
pub side_at : (f : BoxId → Option ℕ) (place : ℕ → Option Place) (queues : List (List (ℕ × Post))) (serial : ℕ) (p : Place) → ArePlaced f place queues → place serial ≡ Some p → IsPlace f queues p → (P : ℕ × Post → Type 0) → All P (queue_at queues p.queue)
    → (entry : ℕ × Post) × (entry.0 ≡ p.slot) × (entry.1.serial.0 ≡ serial) × P entry
side_at f place queues serial p were is held P all =
    let one = entry_in (λ (e : ℕ × Post). (is_at e.0 (place serial) ≡ eqb e.1.serial.0 serial) × P e) p.slot (queue_at queues p.queue) held.there (λ k d below. (were.told p.queue serial k d below, all k d below)) in
    (one.0, one.1, eqb-true one.0.1.serial.0 serial (sym one.2.0 ∙ ap (is_at one.0.0) is ∙ eq-eqb one.0.0 p.slot one.1), one.2.1)

-- no endpoint has a slot that holds nothing
unused : (f : BoxId → Option ℕ) (queues : List (List (ℕ × Post))) (slot : ℕ) → ((q : ℕ) → holds slot (queue_at queues q) ≡ false) → (o : Option Place) → IfSome o (IsPlace f queues) → is_at slot o ≡ false
unused f queues slot fresh None held = refl
unused f queues slot fresh (Some p) held = ne_eqb slot p.slot (λ e. true≢false (sym held.there ∙ ap (λ n. holds n (queue_at queues p.queue)) (sym e) ∙ fresh p.queue))

-- ---- an endpoint is put at the end of a queue
module _ (f : BoxId → Option ℕ) (old new : ℕ → Option Place) (queues : List (List (ℕ × Post))) (place : Place) (post : Post) where
  pub placed_put : f place.mailbox ≡ Some place.queue → place.queue < length queues → old post.serial.0 ≡ None → ((q : ℕ) → holds place.slot (queue_at queues q) ≡ false)
      → ((s : ℕ) → new s ≡ cond (nat_eq post.serial.0 s) (Some place) (old s)) → ArePlaced f old queues → ArePlaced f new (queued queues place.queue (place.slot, post))
  placed_put has below unknown fresh is were =
      let serial : ℕ = post.serial.0 in
      let later : List (List (ℕ × Post)) = queued queues place.queue (place.slot, post) in
      let here : new serial ≡ Some place = is serial ∙ ap (λ b. cond b (Some place) (old serial)) (eq-eqb serial serial refl) in
      let elsewhere : (s : ℕ) → s ≢ serial → new s ≡ old s = λ s apart. is s ∙ ap (λ b. cond b (Some place) (old s)) (ne_eqb serial s (λ e. apart (sym e))) in
      let at : queue_at later place.queue ≡ queue_at queues place.queue ++ (place.slot, post) ∷ [] = get_or-set_same queues place.queue (queue_at queues place.queue ++ (place.slot, post) ∷ []) [] below in
      let apart_at : (q : ℕ) → q ≢ place.queue → queue_at later q ≡ queue_at queues q = λ q apart. get_or-set_other queues place.queue q (queue_at queues place.queue ++ (place.slot, post) ∷ []) [] apart in
      let stale : (s : ℕ) → is_at place.slot (old s) ≡ false = λ s. unused f queues place.slot fresh (old s) (were.held s) in
      let told : (q s : ℕ) → All (λ (entry : ℕ × Post). is_at entry.0 (new s) ≡ eqb entry.1.serial.0 s) (queue_at queues q) = λ q s k d less.
      let entry : ℕ × Post = get_or (queue_at queues q) k d in
      elim (cases_eq s serial) [
        | inl same ↦
            let slot : entry.0 ≢ place.slot = λ e. true≢false (sym (list_any_at (λ (x : ℕ × Post). eqb place.slot x.0) (queue_at queues q) k d less (eq-eqb place.slot entry.0 (sym e))) ∙ fresh q) in
            rw (same, here, ne_eqb entry.0 place.slot slot) (sym (ap (is_at entry.0) unknown) ∙ were.told q serial k d less)
        | inr apart ↦ rw (elsewhere s apart) (were.told q s k d less)
      ] in
      record {
        told = λ q s. elim (cases_eq q place.queue) [
          | inl same ↦ rw (same, at) (All-push (λ (entry : ℕ × Post). is_at entry.0 (new s) ≡ eqb entry.1.serial.0 s) (queue_at queues place.queue) (place.slot, post) (told place.queue s) (elim (cases_eq s serial) [
            | inl is' ↦ rw (is', here) (eq-eqb place.slot place.slot refl ∙ sym (eq-eqb serial serial refl))
            | inr apart ↦ rw (elsewhere s apart, ne_eqb serial s (λ e. apart (sym e))) (stale s)
          ]))
          | inr apart ↦ rw (apart_at q apart) (told q s)
        ];
        held = λ s. elim (cases_eq s serial) [
          | inl same ↦ rw (same, here) (record { queue = has; there = rw (at, list_any-append) (or_right (holds place.slot (queue_at queues place.queue)) _ (ap (λ b. b || false) (eq-eqb place.slot place.slot refl))) })
          | inr apart ↦ rw (elsewhere s apart) (carried f f queues later (old s) (λ p e was. record {
            queue = was.queue;
            there = elim (cases_eq p.queue place.queue) [
              | inl same ↦ rw (same, at, list_any-append) (or_left (holds p.slot (queue_at queues place.queue)) _ (ap (λ q. holds p.slot (queue_at queues q)) (sym same) ∙ was.there))
              | inr other ↦ rw (apart_at p.queue other) was.there
            ];
          }) (were.held s))
        ];
      }

-- ---- the endpoint of an activity id leaves
-- its slot distinguishes it from all others
pub posts_left : (f : BoxId → Option ℕ) (place : ℕ → Option Place) (queues : List (List (ℕ × Post))) (serial : Serial) (gone : Place) → ArePlaced f place queues → place serial.0 ≡ Some gone → (q : ℕ) → map value (without_slot gone.slot (queue_at queues q)) ≡ posts_without serial (map value (queue_at queues q))
posts_left f place queues serial gone were is q =
    without_posts gone.slot serial (queue_at queues q) (subst (λ o. All (λ (entry : ℕ × Post). is_at entry.0 o ≡ eqb entry.1.serial.0 serial.0) (queue_at queues q)) is (were.told q serial.0))

pub placed_taken : (f : BoxId → Option ℕ) (place new : ℕ → Option Place) (queues : List (List (ℕ × Post))) (serial : ℕ) (gone : Place) → ArePlaced f place queues → place serial ≡ Some gone → ((s : ℕ) → new s ≡ cond (nat_eq serial s) None (place s))
    → ArePlaced f new (let_go gone.slot queues)
placed_taken f place new queues serial gone were is now =
    let elsewhere : (s : ℕ) → s ≢ serial → new s ≡ place s = λ s apart. now s ∙ ap (λ b. cond b None (place s)) (ne_eqb serial s (λ e. apart (sym e))) in
    let here : new serial ≡ None = now serial ∙ ap (λ b. cond b None (place serial)) (eq-eqb serial serial refl) in
    let test : ℕ × Post → Bool = λ entry. not (eqb entry.0 gone.slot) in
    let was : (q s : ℕ) → All (λ (e : ℕ × Post). is_at e.0 (place s) ≡ eqb e.1.serial.0 s) (filter test (queue_at queues q)) = λ q s. All-filter test (λ (e : ℕ × Post). is_at e.0 (place s) ≡ eqb e.1.serial.0 s) (queue_at queues q) (were.told q s) in
    record {
      told = λ q s. rw (map_at (without_slot gone.slot) [] queues q) (λ k d below.
          let entry : ℕ × Post = get_or (filter test (queue_at queues q)) k d in
          elim (cases_eq s serial) [
            | inl same ↦ rw (same, here) (sym (not-true (eqb entry.0 gone.slot) (filter_passes test (queue_at queues q) k d below)) ∙ sym (ap (is_at entry.0) is) ∙ was q serial k d below)
            | inr apart ↦ rw (elsewhere s apart) (was q s k d below)
          ]);
      held = λ s. elim (cases_eq s serial) [
        | inl same ↦ rw (same, here) tt
        | inr apart ↦ rw (elsewhere s apart) (carried f f queues (let_go gone.slot queues) (place s) (λ p e held.
            let one = side_at f place queues s p were e held (λ (x : ℕ × Post). is_at x.0 (place serial) ≡ eqb x.1.serial.0 serial) (were.told p.queue serial) in
            let other : p.slot ≢ gone.slot = λ same. apart (sym one.2 ∙ eqb-true one.0.1.serial.0 serial (sym one.3 ∙ ap (is_at one.0.0) is ∙ eq-eqb one.0.0 gone.slot (one.1 ∙ same))) in
            record { queue = held.queue; there = rw (map_at (without_slot gone.slot) [] queues p.queue, holds_without gone.slot p.slot (queue_at queues p.queue) other) held.there }) (were.held s))
      ];
    }

-- an endpoint of one activity id waits in one queue
pub one_queue : (f : BoxId → Option ℕ) (place : ℕ → Option Place) (queues : List (List (ℕ × Post))) (p q : ℕ) (first : ℕ × Post) → ArePlaced f place queues → AreSlots queues → front (queue_at queues p) ≡ Some first
    → All (λ (entry : ℕ × Post). entry.1.serial.0 ≡ first.1.serial.0 → p ≡ q) (queue_at queues q)
one_queue f place queues p q first were slots is k d below same =
    let serial : ℕ = first.1.serial.0 in
    let entry : ℕ × Post = get_or (queue_at queues q) k d in
    let told : All (λ (e : ℕ × Post). is_at e.0 (place serial) ≡ eqb e.1.serial.0 serial) (first ∷ behind (queue_at queues p)) = rw (from_front (queue_at queues p) first is) at (were.told p serial) in
    let slot : first.0 ≡ entry.0 = go (place serial) (All-head (λ (e : ℕ × Post). is_at e.0 (place serial) ≡ eqb e.1.serial.0 serial) first (behind (queue_at queues p)) told ∙ eq-eqb serial serial refl) (were.told q serial k d below ∙ eq-eqb entry.1.serial.0 serial same) in
    slots.apart p q first.0 (holds_front (queue_at queues p) first is) (list_any_at (λ (e : ℕ × Post). eqb first.0 e.0) (queue_at queues q) k d below (eq-eqb first.0 entry.0 slot))
  where
    go : {a b : ℕ} (o : Option Place) → is_at a o ≡ true → is_at b o ≡ true → a ≡ b
    go None a_is b_is = absurd (cc a_is)
    go {a = a} {b = b} (Some p) a_is b_is = eqb-true a p.slot a_is ∙ sym (eqb-true b p.slot b_is)
