-- Who waits in the mailboxes, as an endpoint arrives and as one leaves.
use Rattle.std.proofs.Common.{◌≡◌, ◌≢◌, ℕ, ◌<◌, ◌≤◌, Bool, cond, Option, None, Some, List, [], ◌∷◌, ◌++◌, inl, inr, length, get_or, refl, sym, ap, subst, ◌∙◌, arith}
use Rattle.std.specs.Prelude.{All, map, vec_capacity, IfSome}
use Rattle.std.specs.HashMap.{spare, hash_map_len}
use Rattle.std.specs.Map.{lookup}
use Rattle.std.proofs.lemmas.Bool.{eqb-false}
use Rattle.std.proofs.Math.Bool.{beq}
use Rattle.std.proofs.lemmas.List.{get_or-map, get_or-set_same, get_or-set_other, length-map}
use Rattle.std.proofs.lemmas.List.Elements.{All-nil, All-map}
use Rattle.sg_base.specs.declared.ids.BoxId.{BoxId}
use Rattle.sg_base.specs.declared.ids.Serial.{Serial}
use Rattle.sg_queues.specs.Serials as serials
use Rattle.sg_mailbox.specs.declared.sides.Side.{Side}
use Rattle.sg_queues.specs.Rings.{queue_at, front, behind}
use Rattle.sg_queues.specs.Queues.{value, values_of, queued, let_go, without_slot}
use Rattle.sg_queues.proofs.Lists.{map_at, from_front}
use Rattle.sg_queues.proofs.Values.{values_at, queued_values}
use Rattle.sg_mailbox.specs.declared.box_queues.Kept.{Kept}
use Rattle.sg_mailbox.specs.declared.sides.Post.{Post}
use Rattle.sg_mailbox.specs.declared.sides.Place.{Place}
use Rattle.sg_mailbox.specs.Posts.{box_eq, posts_in, waiters, partner, partner_side, posts_without, AreBelow, AreRising}
use Rattle.sg_mailbox.specs.kept.Acts.{Stays}
use Rattle.sg_mailbox.specs.kept.Queues.{number, place, posts_of, is_at, IsPlace, AreNumbered, AreOrdered, AreKept, IsKept}
use Rattle.sg_mailbox.proofs.Lists.{first_met}
use Rattle.sg_mailbox.proofs.Numbers.{changed, last_free, numbered_as}
use Rattle.sg_mailbox.proofs.Places.{placed_like, side_at, one_queue}

-- what holds of the posts of each queue holds of those in a mailbox
in_waiting : (P : List Post → Type 0) (kept : Kept) → P [] → ((q : ℕ) → P (map value (queue_at kept.queues.queues q))) → (mailbox : BoxId) → P (waiters (posts_of kept) mailbox)
in_waiting P kept none each mailbox = go (number kept mailbox)
  where
    go : (o : Option ℕ) → P (posts_in (values_of kept.queues.queues) o)
    go None = none
    go (Some q) = subst P (sym (values_at kept.queues.queues q)) (each q)

pub ordered_in : (kept : Kept) → ((q : ℕ) → AreOrdered (map value (queue_at kept.queues.queues q))) → (mailbox : BoxId) → AreOrdered (waiters (posts_of kept) mailbox)
ordered_in kept ordered = in_waiting AreOrdered kept (λ i j d less below. absurd (omega (arith, below))) ordered

pub rising_in : (kept : Kept) → IsKept kept → (mailbox : BoxId) → AreRising (waiters (posts_of kept) mailbox)
rising_in kept was mailbox = λ i j d less below. (ordered_in kept was.ordered mailbox i j d less below).1

-- no endpoint waits under an activity id that is above all
pub unknown : (more : ℕ) (may : BoxId → Type 0) (kept : Kept) (serial : Serial) → AreKept more may kept → AreBelow serial.0 (posts_of kept) → place kept serial.0 ≡ None
unknown more may kept serial was above = go (place kept serial.0) refl (was.placed.held serial.0)
  where
    go : (o : Option Place) → place kept serial.0 ≡ o → IfSome o (IsPlace (number kept) kept.queues.queues) → o ≡ None
    go None is held = refl
    go (Some p) is held =
        let queue : List (ℕ × Post) = queue_at kept.queues.queues p.queue in
        let below : All (λ (post : Post). post.serial.0 < serial.0) (map value queue) = subst (All (λ (post : Post). post.serial.0 < serial.0)) (ap (posts_in (values_of kept.queues.queues)) held.queue ∙ values_at kept.queues.queues p.queue) (above p.mailbox) in
        let one = side_at (number kept) (place kept) kept.queues.queues serial.0 p was.placed is held (λ (e : ℕ × Post). e.1.serial.0 < serial.0) (λ k d less. subst (λ (post : Post). post.serial.0 < serial.0) (get_or-map value queue k d d.1 less) (below k d.1 (omega (arith, less, length-map queue value)))) in
        absurd (omega (arith, one.2, one.3))

-- the same endpoints wait, in maps and queues with room for those that arrive, and the room is counted alike
pub alike : (old new : Kept) → IsKept old → ((m : BoxId) → number new m ≡ number old m) → hash_map_len new.numbers ≡ hash_map_len old.numbers → old.room ≤ spare new.numbers → ((s : ℕ) → place new s ≡ place old s) → old.room ≤ serials.room new.places
    → new.queues.queues ≡ old.queues.queues → old.queues.room ≤ new.queues.room → new.empty ≡ old.empty → new.room ≡ old.room → Stays old new
alike old new was numbers count numbers_fit places places_fit queues queues_fit empty room =
    let items : new.empty.items ≡ old.empty.items = ap (λ v. v.items) empty in
    record {
      same = λ m. ap (λ l. posts_in (values_of l) (number new m)) queues ∙ ap (posts_in (values_of old.queues.queues)) (numbers m);
      room = room;
      kept = record {
        roomy = record {
          numbers = omega (arith, numbers_fit, room);
          empty = omega (arith, was.roomy.empty, ap length items, room);
          places = omega (arith, places_fit, room);
          queues = omega (arith, was.roomy.queues, queues_fit, room);
          stack = omega (arith, was.roomy.stack, count, ap length items, ap (λ v. vec_capacity v) empty);
        };
        numbered = subst (λ l. AreNumbered (number new) l new.queues.queues) (sym items) (rw queues (numbered_as (number old) (number new) old.empty.items old.queues.queues old.queues.queues (λ m q is. sym (numbers m) ∙ is) (omega arith) (λ q free. free.none) was.numbered));
        placed = placed_like (number old) (number new) (place old) (place new) old.queues.queues new.queues.queues (λ q. ap (λ l. queue_at l q) queues) places (λ m q slot is there. numbers m ∙ is) was.placed;
        slots = rw queues was.slots;
        ordered = rw queues was.ordered;
        filled = rw queues (λ m q is none. was.filled m q (sym (numbers m) ∙ is) none);
      };
    }

-- there is more room
pub grown : (old new : Kept) → IsKept old → ((m : BoxId) → number new m ≡ number old m) → hash_map_len new.numbers ≡ hash_map_len old.numbers → spare old.numbers ≤ spare new.numbers → ((s : ℕ) → place new s ≡ place old s) → serials.room old.places ≤ serials.room new.places
    → new.queues.queues ≡ old.queues.queues → old.queues.room ≤ new.queues.room → new.empty ≡ old.empty → new.room ≡ old.room → Stays old new
grown old new was numbers count numbers_fit places places_fit queues queues_fit empty room =
    alike old new was numbers count (omega (arith, was.roomy.numbers, numbers_fit)) places (omega (arith, was.roomy.places, places_fit)) queues queues_fit empty room

-- nobody waits if no mailbox has a queue
pub nobody : (kept : Kept) → hash_map_len kept.numbers ≡ 0 → (mailbox : BoxId) → waiters (posts_of kept) mailbox ≡ []
nobody kept none mailbox = ap (posts_in (values_of kept.queues.queues)) (ap (λ (es : List (BoxId × ℕ)). lookup (box_eq mailbox) es) (empty kept.numbers.entries none))
  where
    empty : (es : List (BoxId × ℕ)) → length es ≡ 0 → es ≡ []
    empty [] h = refl
    empty (e ∷ es) h = absurd (omega (arith, h))

-- ---- an endpoint is put at the end of a queue
module _ (queues : List (List (ℕ × Post))) (queue slot : ℕ) (post : Post) where
  pub put_there : queue < length queues → queue_at (values_of (queued queues queue (slot, post))) queue ≡ queue_at (values_of queues) queue ++ post ∷ []
  put_there below =
      ap (λ l. queue_at l queue) (queued_values queues queue slot post) ∙ get_or-set_same (values_of queues) queue (queue_at (values_of queues) queue ++ post ∷ []) [] (omega (arith, below, length-map queues (map value)))

  pub put_elsewhere : (o : Option ℕ) → o ≢ Some queue → posts_in (values_of (queued queues queue (slot, post))) o ≡ posts_in (values_of queues) o
  put_elsewhere None apart = refl
  put_elsewhere (Some q) apart = ap (λ l. queue_at l q) (queued_values queues queue slot post) ∙ get_or-set_other (values_of queues) queue q (queue_at (values_of queues) queue ++ post ∷ []) [] (λ e. apart (ap (λ n. Some n) e))

-- ---- a mailbox gets an empty queue, or leaves it
module _ (f g : BoxId → Option ℕ) (mailbox : BoxId) (queues : List (List (ℕ × Post))) (queue : ℕ) where
  empty_there : queue_at queues queue ≡ [] → posts_in (values_of queues) (Some queue) ≡ []
  empty_there none = values_at queues queue ∙ ap (map value) none

  pub opened_waiters : (rest : List ℕ) → f mailbox ≡ None → ((m : BoxId) → g m ≡ cond (box_eq mailbox m) (Some queue) (f m)) → AreNumbered f (rest ++ queue ∷ []) queues → (m : BoxId) → posts_in (values_of queues) (g m) ≡ posts_in (values_of queues) (f m)
  opened_waiters rest nobody is numbered m = elim (changed f g mailbox queues (Some queue) is m) [
    | inl here ↦ ap (posts_in (values_of queues)) here.1 ∙ empty_there (last_free f rest queues queue numbered.free).none ∙ ap (posts_in (values_of queues)) (sym (ap f here.0 ∙ nobody))
    | inr apart ↦ ap (posts_in (values_of queues)) apart.1
  ]

  pub closed_waiters : f mailbox ≡ Some queue → queue_at queues queue ≡ [] → ((m : BoxId) → g m ≡ cond (box_eq mailbox m) None (f m)) → (m : BoxId) → posts_in (values_of queues) (g m) ≡ posts_in (values_of queues) (f m)
  closed_waiters has none is m = elim (changed f g mailbox queues None is m) [
    | inl here ↦ ap (posts_in (values_of queues)) here.1 ∙ sym (ap (posts_in (values_of queues)) (ap f here.0 ∙ has) ∙ empty_there none)
    | inr apart ↦ ap (posts_in (values_of queues)) apart.1
  ]

-- ---- an endpoint leaves
pub taken_in : (queues : List (List (ℕ × Post))) (slot : ℕ) (serial : Serial) → ((q : ℕ) → map value (without_slot slot (queue_at queues q)) ≡ posts_without serial (map value (queue_at queues q)))
    → (o : Option ℕ) → posts_in (values_of (let_go slot queues)) o ≡ posts_without serial (posts_in (values_of queues) o)
taken_in queues slot serial each None = refl
taken_in queues slot serial each (Some q) =
    values_at (let_go slot queues) q ∙ ap (map value) (map_at (without_slot slot) [] queues q) ∙ each q ∙ ap (posts_without serial) (sym (values_at queues q))

-- ---- an endpoint is matched
pub nobody_met : (o : Option Post) → None ≡ partner_side o → o ≡ None
nobody_met None e = refl
nobody_met (Some post) e = absurd (cc e)

pub somebody_met : (serial : Serial) (side : Side) (o : Option Post) → Some (serial, side) ≡ partner_side o → (post : Post) × (o ≡ Some post) × (post.serial ≡ serial)
somebody_met serial side None e = absurd (cc e)
somebody_met serial side (Some post) e =
    let mine : Serial × Side = (serial, side) in
    let theirs : Serial × Side = (post.serial, post.side) in
    let same : mine ≡ theirs = cc e in (post, refl, sym (ap (λ (p : Serial × Side). p.0) same))

front_value : (queue : List (ℕ × Post)) (post : Post) → front (map value queue) ≡ Some post → (first : ℕ × Post) × (front queue ≡ Some first) × (first.1 ≡ post)
front_value [] post is = absurd (cc is)
front_value (first ∷ rest) post is = (first, refl, cc is)

-- who is met waits in no other mailbox
pub only_there : (kept : Kept) → IsKept kept → (mailbox other : BoxId) → other ≢ mailbox → (post : Post) → front (waiters (posts_of kept) mailbox) ≡ Some post → All (λ (p : Post). p.serial.0 ≢ post.serial.0) (waiters (posts_of kept) other)
only_there kept was mailbox other apart post is = go (number kept mailbox) (number kept other) refl refl is
  where
    go : (a b : Option ℕ) → number kept mailbox ≡ a → number kept other ≡ b → front (posts_in (values_of kept.queues.queues) a) ≡ Some post → All (λ (p : Post). p.serial.0 ≢ post.serial.0) (posts_in (values_of kept.queues.queues) b)
    go None b a_is b_is e = absurd (cc e)
    go (Some p) None a_is b_is e = All-nil (λ (p : Post). p.serial.0 ≢ post.serial.0)
    go (Some p) (Some q) a_is b_is e =
        let first = front_value (queue_at kept.queues.queues p) post (ap front (sym (values_at kept.queues.queues p)) ∙ e) in
        let one = one_queue (number kept) (place kept) kept.queues.queues p q first.0 was.placed was.slots first.1 in
        subst (All (λ (p : Post). p.serial.0 ≢ post.serial.0)) (sym (values_at kept.queues.queues q))
        (All-map (λ (p : Post). p.serial.0 ≢ post.serial.0) value (queue_at kept.queues.queues q)
        (λ k d below same. apart (was.numbered.once other mailbox q b_is (a_is ∙ ap (λ n. Some n) (one k d below (same ∙ sym (ap (λ (p : Post). p.serial.0) first.2)))))))

-- no endpoint waits under an activity id that has no place
pub unplaced : (kept : Kept) (serial : Serial) → IsKept kept → place kept serial.0 ≡ None → (mailbox : BoxId) → All (λ (post : Post). post.serial.0 ≢ serial.0) (waiters (posts_of kept) mailbox)
unplaced kept serial was none =
    let differs : Post → Type 0 = λ post. post.serial.0 ≢ serial.0 in
    in_waiting (All differs) kept (All-nil differs) (λ q. All-map differs value (queue_at kept.queues.queues q) (λ k d below.
    let entry : ℕ × Post = get_or (queue_at kept.queues.queues q) k d in eqb-false entry.1.serial.0 serial.0 (sym (was.placed.told q serial.0 k d below) ∙ ap (is_at entry.0) none)))

-- the first of a queue decides whom an arriving endpoint matches
pub front_met : (kept : Kept) → IsKept kept → (mailbox : BoxId) (sends : Bool) (queue : ℕ) (first : ℕ × Post) → number kept mailbox ≡ Some queue → front (queue_at kept.queues.queues queue) ≡ Some first
    → partner sends (waiters (posts_of kept) mailbox) ≡ cond (beq first.1.sends sends) None (Some first.1)
front_met kept was mailbox sends queue first has is =
    let rest : List Post = map value (behind (queue_at kept.queues.queues queue)) in
    let list : map value (queue_at kept.queues.queues queue) ≡ first.1 ∷ rest = ap (map value) (from_front (queue_at kept.queues.queues queue) first is) in
    ap (λ o. partner sends (posts_in (values_of kept.queues.queues) o)) has ∙ ap (partner sends) (values_at kept.queues.queues queue ∙ list) ∙ first_met sends first.1 rest (subst AreOrdered list (was.ordered queue))
