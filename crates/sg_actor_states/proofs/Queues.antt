-- Queues of actors, as scheduling rounds and time advances change them.
use Rattle.std.proofs.Common.{◌≡◌, ◌≢◌, ℕ, zero, suc, ◌+◌, ◌-◌, ◌<◌, ◌≤◌, ◌==◌, Bool, true, false, true≢false, cond, List, [], ◌∷◌, ◌++◌, length, set, get_or, count_by, nat_lt, inl, inr, refl, sym, subst, ap, ◌∙◌, arith}
use Rattle.std.specs.Prelude.{Contains, filter}
use Rattle.std.specs.List.{list_any, remove}
use Rattle.std.specs.List.Sorted.{IsPermutation, IsNonDecreasingBy}
use Rattle.std.proofs.lemmas.Bool.{cases_eq, cases_lt, eqb-true, eq-eqb}
use Rattle.std.proofs.lemmas.List.{get_or_default, get_or_past, get_or-set_same, get_or-set_other, length-set, length-append}
use Rattle.std.proofs.lemmas.List.Edits.{length-remove}
use Rattle.std.proofs.lemmas.List.Elements.{All-filter, All-push, filter_passes}
use Rattle.std.proofs.lemmas.List.Kept.{AllPairs-filter}
use Rattle.std.proofs.lemmas.List.Sorted.{All-permutation, sum_by-IsPermutation}
use Rattle.std.proofs.lemmas.List.Sums.{length-filter, sum_by-append}
use Rattle.sg_base.specs.declared.ids.ActorId.{ActorId}
use Rattle.sg_actor_states.specs.declared.state.Actor.{Actor}
use Rattle.sg_actor_states.specs.declared.state.State.TheVariants.{Ended}
use Rattle.sg_actor_states.specs.Actors.{is_ready, not_suspended}
use Rattle.sg_actor_states.specs.Queue.{is_ready_in, AreReady, IsIdOf, IsQueue}
use Rattle.sg_actor_states.specs.kept.Standing.{HasAnswered}
use Rattle.sg_actor_states.proofs.Counts.{count-cons, count_any, count_set, counted_less, counted_one}
use Rattle.sg_actor_states.proofs.Sorted.{left_in}

-- ---- counts and places
counted_two : {X : Type 0} (p : X → Bool) (xs : List X) (i j : ℕ) (d : X) → i < j → j < length xs → p (get_or xs i d) ≡ true → p (get_or xs j d) ≡ true → 2 ≤ count_by p xs
counted_two p [] i j d less within first second = absurd (omega (arith, within))
counted_two p (x ∷ xs) i zero d less within first second = absurd (omega (arith, less))
counted_two p (x ∷ xs) zero (suc j) d less within first second =
    let one : ◌≡◌ {A = ℕ} (cond (p x) 1 0) 1 = ap (λ b. cond b 1 0) first in
    omega (arith, count-cons p x xs, one, counted_one p xs j d (omega (arith, within)) second)
counted_two p (x ∷ xs) (suc i) (suc j) d less within first second =
    omega (arith, count-cons p x xs, counted_two p xs i j d (omega (arith, less)) (omega (arith, within)) first second)

-- what is counted stands somewhere
counted_at : {X : Type 0} (p : X → Bool) (xs : List X) (d : X) → 0 < count_by p xs → (k : ℕ) × (k < length xs) × (p (get_or xs k d) ≡ true)
counted_at p [] d some = absurd (omega (arith, some))
counted_at p (x ∷ xs) d some = cases (p x) refl (counted_at p xs d)
  where
    cases : (b : Bool) → p x ≡ b → (0 < count_by p xs → (k : ℕ) × (k < length xs) × (p (get_or xs k d) ≡ true)) → (k : ℕ) × (k < length (x ∷ xs)) × (p (get_or (x ∷ xs) k d) ≡ true)
    cases true is more = (0, omega arith, is)
    cases false is more =
        let none : ◌≡◌ {A = ℕ} (cond (p x) 1 0) 0 = ap (λ b. cond b 1 0) is in
        let found = more (omega (arith, some, count-cons p x xs, none)) in
        (suc found.0, omega (arith, found.1), found.2)

contains_more : {X : Type 0} (x y : X) (xs : List X) → Contains xs y → Contains (x ∷ xs) y
contains_more x y xs has = (suc has.0, omega (arith, has.1), has.2)

contains_filter : {X : Type 0} (p : X → Bool) (xs : List X) (y : X) (k : ℕ) → k < length xs → get_or xs k y ≡ y → p y ≡ true → Contains (filter p xs) y
contains_filter p [] y k within at passes = absurd (omega (arith, within))
contains_filter p (x ∷ xs) y zero within at passes = cases (p x) (ap p at ∙ passes)
  where
    cases : (b : Bool) → b ≡ true → Contains (cond b (x ∷ filter p xs) (filter p xs)) y
    cases true is = (0, omega arith, at)
    cases false is = absurd (true≢false (sym is))
contains_filter p (x ∷ xs) y (suc k) within at passes = cases (p x) (contains_filter p xs y k (omega (arith, within)) at passes)
  where
    cases : (b : Bool) → Contains (filter p xs) y → Contains (cond b (x ∷ filter p xs) (filter p xs)) y
    cases true has = contains_more x y (filter p xs) has
    cases false has = has

abbrev pub has_number : ℕ → ActorId → Bool
has_number id actor = actor.0 == id

-- ---- in a scheduling round
-- an actor that doesn't get ready may become any other
pub queue_kept : (actors : List Actor) (queue : List ActorId) (id : ℕ) (next : Actor) → 0 < id → id ≤ length actors → (is_ready next ≡ true → is_ready_in actors id ≡ true) → IsQueue actors queue → IsQueue (set actors (id - 1) next) queue
queue_kept actors queue id next from to was old = record {
  rises = old.rises;
  ids = λ k d within. let here = old.ids k d within in (here.0, omega (arith, here.1, length-set actors (id - 1) next));
  has_ready = λ actor some ready.
      elim (cases_eq actor.0 id) [
        | inl same ↦
            let place : id - 1 < length actors = omega (arith, from, to) in
            let now : is_ready next ≡ true = sym (ap (is_ready_in (set actors (id - 1) next)) same ∙ ap is_ready (get_or-set_same actors (id - 1) next (not_suspended Ended) place)) ∙ ready in
            old.has_ready actor some (ap (is_ready_in actors) same ∙ was now)
        | inr apart ↦ old.has_ready actor some (sym (ap is_ready (get_or-set_other actors (id - 1) (actor.0 - 1) next (not_suspended Ended) (λ e. apart (omega (arith, e, from, some))))) ∙ ready)
      ];
}

-- those that aren't ready are removed
pub queue_filtered : (actors : List Actor) (queue : List ActorId) → IsQueue actors queue → IsQueue actors (filter (λ (actor : ActorId). is_ready_in actors actor.0) queue)
queue_filtered actors queue old = record {
  rises = AllPairs-filter (λ a b. a.0 < b.0) (λ (actor : ActorId). is_ready_in actors actor.0) queue old.rises;
  ids = All-filter (λ (actor : ActorId). is_ready_in actors actor.0) (IsIdOf actors) queue old.ids;
  has_ready = λ actor from ready. let has = old.has_ready actor from ready in contains_filter (λ (a : ActorId). is_ready_in actors a.0) queue actor has.0 has.1 has.2 ready;
}

-- what is left of a list without those that aren't ready
pub filter_ready : (actors : List Actor) (queue : List ActorId) → AreReady actors (filter (λ (actor : ActorId). is_ready_in actors actor.0) queue)
filter_ready actors queue = filter_passes (λ (actor : ActorId). is_ready_in actors actor.0) queue

-- each actor that is ready is in the queue, if the first of them has this id
abbrev HasReady : List Actor → ℕ → List ActorId → Type 0
HasReady actors first queue = (k : ℕ) → k < length actors → is_ready (get_or actors k (not_suspended Ended)) ≡ true → Contains queue (record { 0 = first + k })

-- then the queue is no shorter than there are ready actors
ready_listed : (actors : List Actor) (first : ℕ) (queue : List ActorId) → HasReady actors first queue → count_by is_ready actors ≤ length queue
ready_listed [] first queue has = omega arith
ready_listed (actor ∷ rest) first queue has = cases (is_ready actor) refl (count-cons is_ready actor rest) (ready_listed rest (first + 1))
  where
    others : HasReady rest (first + 1) queue
    others k less ready =
        let next : first + suc k ≡ first + 1 + k = omega arith in
        subst (λ id. Contains queue (record { 0 = id })) next (has (suc k) (omega (arith, less)) ready)

    apart : (k : ℕ) (one : Contains queue (record { 0 = first + 0 })) (other : Contains queue (record { 0 = first + 1 + k })) → other.0 ≢ one.0
    apart k one other same =
        let here : get_or queue other.0 (record { 0 = first + 0 }) ≡ record { 0 = first + 0 } = ap (λ n. get_or queue n (record { 0 = first + 0 })) same ∙ one.2 in
        let there = get_or_default queue other.0 (record { 0 = first + 0 }) (record { 0 = first + 1 + k }) other.1 in
        let ids : first + 0 ≡ first + 1 + k = ap (λ (a : ActorId). a.0) (sym here ∙ (there ∙ other.2)) in
        omega (arith, ids)

    cases : (b : Bool) → is_ready actor ≡ b → count_by is_ready (actor ∷ rest) ≡ cond b 1 0 + count_by is_ready rest → ((left : List ActorId) → HasReady rest (first + 1) left → count_by is_ready rest ≤ length left) → count_by is_ready (actor ∷ rest) ≤ length queue
    cases true is counts more =
        let one = has 0 (omega arith) is in
        let short = more (remove queue one.0) (λ k less ready. let other = others k less ready in left_in queue (record { 0 = first + 1 + k }) one.0 one.1 other (apart k one other)) in
        omega (arith, counts, short, length-remove queue one.0 one.1)
    cases false isnt counts more = omega (arith, counts, more queue others)

-- a queue that is as long as there are ready actors lists these alone
pub all_ready : (actors : List Actor) (queue : List ActorId) → IsQueue actors queue → length queue ≡ count_by is_ready actors → AreReady actors queue
all_ready actors queue old number = λ k d within. cases k d within (passes (get_or queue k d)) refl
  where
    passes : ActorId → Bool
    passes actor = is_ready_in actors actor.0

    listed : HasReady actors 1 (filter passes queue)
    listed k less ready =
        let back : 1 + k - 1 ≡ k = omega arith in
        (queue_filtered actors queue old).has_ready (record { 0 = 1 + k }) (omega arith) (ap (λ n. is_ready (get_or actors n (not_suspended Ended))) back ∙ ready)

    cases : (k : ℕ) (d : ActorId) → k < length queue → (b : Bool) → passes (get_or queue k d) ≡ b → b ≡ true
    cases k d within true is = refl
    cases k d within false isnt = absurd (omega (arith, number, length-filter passes queue, ready_listed actors 1 (filter passes queue) listed, counted_less passes queue k d within isnt))

-- ---- during a time advance
none_ready : (actors : List Actor) (i : ℕ) → count_by is_ready actors ≡ 0 → is_ready (get_or actors i (not_suspended Ended)) ≡ false
none_ready actors i none = elim (cases_lt i (length actors)) [
  | inl less ↦ cases (is_ready (get_or actors i (not_suspended Ended))) refl less
  | inr past ↦ ap is_ready (get_or_past actors i (not_suspended Ended) past)
]
  where
    cases : (b : Bool) → is_ready (get_or actors i (not_suspended Ended)) ≡ b → i < length actors → b ≡ false
    cases true is less = absurd (omega (arith, none, counted_one is_ready actors i (not_suspended Ended) less is))
    cases false is less = refl

zero_from : (n : ℕ) → nat_lt 0 n ≡ false → n ≡ 0
zero_from n e = grind (arith, e)

-- at first nobody is ready
pub answered_none : (actors : List Actor) → list_any is_ready actors ≡ false → HasAnswered actors []
answered_none actors idle =
    let none = zero_from (count_by is_ready actors) (count_any is_ready actors ∙ idle) in
    record {
      ids = λ k d within. absurd (omega (arith, within));
      once = λ id from. sym (ap (λ b. cond b 1 0) (none_ready actors (id - 1) none));
      number = sym none;
    }

-- one more gets ready
pub answered_more : (actors : List Actor) (queue : List ActorId) (actor : ActorId) (next : Actor) → IsIdOf actors actor → is_ready_in actors actor.0 ≡ false → is_ready next ≡ true → HasAnswered actors queue → HasAnswered (set actors (actor.0 - 1) next) (queue ++ actor ∷ [])
answered_more actors queue actor next is was now old =
    let place : actor.0 - 1 < length actors = omega (arith, is.0, is.1) in
    let long = length-set actors (actor.0 - 1) next in
    let before : ◌≡◌ {A = ℕ} (cond (is_ready_in actors actor.0) 1 0) 0 = ap (λ b. cond b 1 0) was in
    let after : ◌≡◌ {A = ℕ} (cond (is_ready next) 1 0) 1 = ap (λ b. cond b 1 0) now in
    record {
      ids = All-push (IsIdOf (set actors (actor.0 - 1) next)) queue actor (λ k d within. let here = old.ids k d within in (here.0, omega (arith, here.1, long))) (is.0, omega (arith, is.1, long));
      once = λ id from.
          let added = sum_by-append (λ (a : ActorId). cond (has_number id a) 1 0) queue (actor ∷ []) in
          let last = count-cons (has_number id) actor [] in
          elim (cases_eq id actor.0) [
            | inl same ↦
                let one : ◌≡◌ {A = ℕ} (cond (has_number id actor) 1 0) 1 = ap (λ b. cond b 1 0) (eq-eqb actor.0 id (sym same)) in
                let here : is_ready_in (set actors (actor.0 - 1) next) id ≡ true = ap (λ n. is_ready_in (set actors (actor.0 - 1) next) n) same ∙ ap is_ready (get_or-set_same actors (actor.0 - 1) next (not_suspended Ended) place) ∙ now in
                let there : is_ready_in actors id ≡ false = ap (is_ready_in actors) same ∙ was in
                let none : ◌≡◌ {A = ℕ} (cond (is_ready_in actors id) 1 0) 0 = ap (λ b. cond b 1 0) there in
                let some : ◌≡◌ {A = ℕ} (cond (is_ready_in (set actors (actor.0 - 1) next) id) 1 0) 1 = ap (λ b. cond b 1 0) here in
                omega (arith, added, last, one, none, some, old.once id from)
            | inr apart ↦
                let none : ◌≡◌ {A = ℕ} (cond (has_number id actor) 1 0) 0 = ap (λ b. cond b 1 0) (unlike actor.0 id (λ e. apart (sym e))) in
                let other : is_ready_in (set actors (actor.0 - 1) next) id ≡ is_ready_in actors id = ap is_ready (get_or-set_other actors (actor.0 - 1) (id - 1) next (not_suspended Ended) (λ e. apart (omega (arith, e, from, is.0)))) in
                let same : ◌≡◌ {A = ℕ} (cond (is_ready_in (set actors (actor.0 - 1) next) id) 1 0) (cond (is_ready_in actors id) 1 0) = ap (λ b. cond b 1 0) other in
                omega (arith, added, last, none, same, old.once id from)
          ];
      number = omega (arith, length-append queue (actor ∷ []), old.number, before, after, count_set is_ready actors (actor.0 - 1) next (not_suspended Ended) place);
    }
  where
    unlike : (a b : ℕ) → a ≢ b → (a == b) ≡ false
    unlike a b h = grind (arith, h)

-- one that isn't ready stays so
pub answered_same : (actors : List Actor) (queue : List ActorId) (actor : ActorId) (next : Actor) → IsIdOf actors actor → is_ready_in actors actor.0 ≡ false → is_ready next ≡ false → HasAnswered actors queue → HasAnswered (set actors (actor.0 - 1) next) queue
answered_same actors queue actor next is was now old =
    let place : actor.0 - 1 < length actors = omega (arith, is.0, is.1) in
    let long = length-set actors (actor.0 - 1) next in
    let before : ◌≡◌ {A = ℕ} (cond (is_ready_in actors actor.0) 1 0) 0 = ap (λ b. cond b 1 0) was in
    let after : ◌≡◌ {A = ℕ} (cond (is_ready next) 1 0) 0 = ap (λ b. cond b 1 0) now in
    record {
      ids = λ k d within. let here = old.ids k d within in (here.0, omega (arith, here.1, long));
      once = λ id from. old.once id from ∙ ap (λ b. cond b 1 0) (sym (alike id from place));
      number = omega (arith, old.number, before, after, count_set is_ready actors (actor.0 - 1) next (not_suspended Ended) place);
    }
  where
    alike : (id : ℕ) → 0 < id → actor.0 - 1 < length actors → is_ready_in (set actors (actor.0 - 1) next) id ≡ is_ready_in actors id
    alike id from place = elim (cases_eq id actor.0) [
      | inl same ↦ ap (is_ready_in (set actors (actor.0 - 1) next)) same ∙ (ap is_ready (get_or-set_same actors (actor.0 - 1) next (not_suspended Ended) place) ∙ (now ∙ sym (ap (is_ready_in actors) same ∙ was)))
      | inr apart ↦ ap is_ready (get_or-set_other actors (actor.0 - 1) (id - 1) next (not_suspended Ended) (λ e. apart (omega (arith, e, from, is.0))))
    ]

-- there is room for one more
pub answered_room : (actors : List Actor) (queue : List ActorId) (id : ℕ) → 0 < id → id ≤ length actors → is_ready_in actors id ≡ false → HasAnswered actors queue → length queue < length actors
answered_room actors queue id from to was old = omega (arith, old.number, counted_less is_ready actors (id - 1) (not_suspended Ended) (omega (arith, from, to)) was)

-- in rising order they are the queue
pub answered_sorted : (actors : List Actor) (queue sorted : List ActorId) → HasAnswered actors queue → IsPermutation queue sorted → IsNonDecreasingBy (λ (a : ActorId). a.0) sorted → IsQueue actors sorted
answered_sorted actors queue sorted old moves rises =
    let count : (id : ℕ) → count_by (has_number id) sorted ≡ count_by (has_number id) queue = λ id. sum_by-IsPermutation (λ (a : ActorId). cond (has_number id a) 1 0) queue sorted moves in
    let ids = All-permutation (IsIdOf actors) queue sorted moves old.ids in
    record {
      rises = λ i j d less within.
          elim (cases_eq (get_or sorted i d).0 (get_or sorted j d).0) [
            | inl same ↦
                let id = (get_or sorted j d).0 in
                let two = counted_two (has_number id) sorted i j d less within (eq-eqb (get_or sorted i d).0 id same) (eq-eqb id id refl) in
                absurd (omega (arith, two, count id, old.once id (ids j d within).0, at_most (is_ready_in actors id)))
            | inr apart ↦ omega (arith, apart, rises i j d (omega (arith, less)) within)
          ];
      ids = ids;
      has_ready = λ actor from ready.
          let one : ◌≡◌ {A = ℕ} (cond (is_ready_in actors actor.0) 1 0) 1 = ap (λ b. cond b 1 0) ready in
          let found = counted_at (has_number actor.0) sorted actor (omega (arith, count actor.0, old.once actor.0 from, one)) in
          (found.0, found.1, ap (λ id. record { 0 = id }) (eqb-true (get_or sorted found.0 actor).0 actor.0 found.2));
    }
  where
    at_most : (b : Bool) → ◌≤◌ (cond b 1 0) 1
    at_most true = omega arith
    at_most false = omega arith
