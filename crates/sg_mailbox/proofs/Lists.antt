-- Who waits in a queue, as one comes and as one leaves.
use Rattle.std.proofs.Common.{◌≡◌, ◌≢◌, ℕ, zero, suc, ◌+◌, ◌<◌, inl, inr, Bool, true, false, not, cond, eqb, None, Some, List, [], ◌∷◌, ◌++◌, length, get_or, refl, sym, ap, subst, ◌∙◌, arith}
use Rattle.std.specs.Prelude.{All, AllPairs, map, is_some}
use Rattle.std.specs.List.{find}
use Rattle.std.proofs.lemmas.Bool.{cases_Bool, eq-eqb, ne_eqb, eqb-true}
use Rattle.std.proofs.lemmas.Bool.Decides.{nat_tests}
use Rattle.std.proofs.lemmas.List.{length_push, get_or_push, get_or_append_left}
use Rattle.std.proofs.lemmas.List.Elements.{All-nil, All-cons, All-head, All-tail}
use Rattle.std.proofs.lemmas.Map.Views.{any-filter_same}
use Rattle.std.proofs.Math.Bool.{beq}
use Rattle.sg_base.specs.declared.ids.BoxId.{BoxId}
use Rattle.sg_base.specs.declared.ids.BoxId.TheVariants.{Pair, Named}
use Rattle.sg_base.specs.declared.ids.Serial.{Serial}
use Rattle.sg_queues.specs.Rings.{front}
use Rattle.sg_queues.specs.Queues.{holds, value, without_slot}
use Rattle.sg_queues.proofs.Lists.{without_none}
use Rattle.sg_mailbox.specs.declared.sides.Post.{Post}
use Rattle.sg_mailbox.specs.Posts.{box_eq, is_other, without, posts_without}
use Rattle.sg_mailbox.specs.kept.Queues.{AreOrdered}

pub box_found : (a b : BoxId) → box_eq a b ≡ true → a ≡ b
box_found (Pair a b) (Pair c d) h = grind (arith, h, nat_tests)
box_found (Pair a b) (Named c) h = absurd (cc h)
box_found (Named a) (Pair b c) h = absurd (cc h)
box_found (Named a) (Named b) h = grind (arith, h, nat_tests)

pub box_same : (a : BoxId) → box_eq a a ≡ true
box_same (Pair a b) = grind (arith, nat_tests)
box_same (Named a) = grind (arith, nat_tests)

-- all except the last are pairs, too, each with the last
pub pairs_before : {X : Type 0} (R : X → X → Type 0) (xs : List X) (y : X) → AllPairs R (xs ++ y ∷ []) → AllPairs R xs × All (λ x. R x y) xs
pairs_before {X} R xs y all =
    let long : length (xs ++ y ∷ []) ≡ length xs + 1 = length_push xs y in
    let at : (k : ℕ) (d : X) → k < length xs → get_or (xs ++ y ∷ []) k d ≡ get_or xs k d = λ k d below. get_or_append_left xs (y ∷ []) d k below in (
      λ i j d less below. rw (← at i d (omega (arith, less, below)), ← at j d below) (all i j d less (omega (arith, below, long))),
      λ k d below. subst (R (get_or xs k d)) (get_or_push xs y d (length xs) refl) (subst (λ x. R x (get_or (xs ++ y ∷ []) (length xs) d)) (at k d below) (all k (length xs) d below (omega (arith, long)))),
    )

-- ---- whom an arriving endpoint matches
other_is : (sends : Bool) (post : Post) → is_other sends post ≡ not (beq post.sends sends)
other_is sends post = go sends post.sends
  where
    go : (sends kind : Bool) → is_other sends (record post { sends = kind }) ≡ not (beq kind sends)
    go true true = refl
    go true false = refl
    go false true = refl
    go false false = refl

none_other : (sends : Bool) (posts : List Post) → All (λ post. is_other sends post ≡ false) posts → find (is_other sends) posts ≡ None
none_other sends [] none = refl
none_other sends (post ∷ posts) none = rw (All-head (λ p. is_other sends p ≡ false) post posts none) (none_other sends posts (All-tail (λ p. is_other sends p ≡ false) post posts none))

-- those after the first are of its kind
alike : (sends : Bool) (first : Post) (rest : List Post) → AreOrdered (first ∷ rest) → is_other sends first ≡ false → find (is_other sends) rest ≡ None
alike sends first rest ordered isnt =
    none_other sends rest (λ k d below. other_is sends (get_or rest k d) ∙ ap (λ kind. not (beq kind sends)) (sym (ordered zero (suc k) d (omega arith) (omega (arith, below))).0) ∙ sym (other_is sends first) ∙ isnt)

-- the first of a queue is met, or nobody
pub first_met : (sends : Bool) (first : Post) (rest : List Post) → AreOrdered (first ∷ rest) → find (is_other sends) (first ∷ rest) ≡ cond (beq first.sends sends) None (Some first)
first_met sends first rest ordered = elim (cases_Bool (beq first.sends sends)) [
  | inl same ↦ (let isnt : is_other sends first ≡ false = other_is sends first ∙ ap not same in rw (same, isnt) (alike sends first rest ordered isnt))
  | inr apart ↦ (let is : is_other sends first ≡ true = other_is sends first ∙ ap not apart in rw (apart, is) refl)
]

-- who is met is the first of all, and to take it away is to withdraw it
pub met_first : (sends : Bool) (posts : List Post) (post : Post) → AreOrdered posts → find (is_other sends) posts ≡ Some post → (front posts ≡ Some post) × (without (is_other sends) posts ≡ posts_without post.serial posts)
unfolding without
met_first sends [] post ordered met = absurd (cc met)
met_first sends (first ∷ rest) post ordered met = elim (cases_Bool (is_other sends first)) [
  | inr isnt ↦ absurd (let none : None ≡ Some post = sym (alike sends first rest ordered isnt) ∙ (rw isnt at met) in cc none)
  | inl is ↦
      let same : Some first ≡ Some post = rw is at met in
      let eq : first ≡ post = cc same in
      let others : All (λ (p : Post). p.serial.0 ≢ post.serial.0) rest =
      λ k d below e. (let less = (ordered zero (suc k) d (omega arith) (omega (arith, below))).1 in omega (arith, less, e, ap (λ (p : Post). p.serial.0) eq)) in
      (same, rw (is, eq-eqb first.serial.0 post.serial.0 (ap (λ (p : Post). p.serial.0) eq)) (sym (without_none (λ (p : Post). p.serial.0) post.serial.0 rest others)))
]

-- ---- slots
-- an element of this slot, if there is one
pub entry_in : (P : ℕ × Post → Type 0) (slot : ℕ) (queue : List (ℕ × Post)) → holds slot queue ≡ true → All P queue → (entry : ℕ × Post) × (entry.0 ≡ slot) × P entry
entry_in P slot [] there all = absurd (cc there)
entry_in P slot (entry ∷ queue) there all = elim (cases_Bool (eqb slot entry.0)) [
  | inl is ↦ (entry, sym (eqb-true slot entry.0 is), All-head P entry queue all)
  | inr isnt ↦ entry_in P slot queue (rw isnt at there) (All-tail P entry queue all)
]

pub holds_without : (slot other : ℕ) (queue : List (ℕ × Post)) → other ≢ slot → holds other (without_slot slot queue) ≡ holds other queue
holds_without slot other queue apart =
    any-filter_same (λ (entry : ℕ × Post). eqb other entry.0) (λ (entry : ℕ × Post). not (eqb entry.0 slot)) true
    (λ entry same. ap not (ne_eqb entry.0 slot (λ e. apart (eqb-true other entry.0 same ∙ e)))) queue

-- without a slot the posts are those without its activity id
pub without_posts : (slot : ℕ) (serial : Serial) (queue : List (ℕ × Post)) → All (λ (entry : ℕ × Post). eqb entry.0 slot ≡ eqb entry.1.serial.0 serial.0) queue → map value (without_slot slot queue) ≡ posts_without serial (map value queue)
without_posts slot serial [] same = refl
without_posts slot serial (entry ∷ queue) same =
    let here = All-head (λ (e : ℕ × Post). eqb e.0 slot ≡ eqb e.1.serial.0 serial.0) entry queue same in
    let rest = without_posts slot serial queue (All-tail (λ (e : ℕ × Post). eqb e.0 slot ≡ eqb e.1.serial.0 serial.0) entry queue same) in
    elim (cases_Bool (eqb entry.0 slot)) [
      | inl is ↦ rw (is, sym here ∙ is) rest
      | inr isnt ↦ rw (isnt, sym here ∙ isnt) (ap (λ l. entry.1 ∷ l) rest)
    ]

-- if no other kind waits, all are of one kind
pub none_met : (sends : Bool) (posts : List Post) → find (is_other sends) posts ≡ None → All (λ (post : Post). post.sends ≡ sends) posts
none_met sends [] none = All-nil (λ (post : Post). post.sends ≡ sends)
none_met sends (first ∷ rest) none = elim (cases_Bool (is_other sends first)) [
  | inl is ↦ absurd (let bad : Some first ≡ None = rw is at none in cc bad)
  | inr isnt ↦ All-cons (λ (post : Post). post.sends ≡ sends) first rest (kind sends first.sends (sym (other_is sends first) ∙ isnt)) (none_met sends rest (rw isnt at none))
]
  where
    kind : (sends kind : Bool) → not (beq kind sends) ≡ false → kind ≡ sends
    kind true true e = refl
    kind true false e = absurd (cc e)
    kind false true e = absurd (cc e)
    kind false false e = refl

pub nobody_first : (queue : List (ℕ × Post)) → is_some (front queue) ≡ false → queue ≡ []
nobody_first [] none = refl
nobody_first (entry ∷ queue) none = absurd (cc none)
