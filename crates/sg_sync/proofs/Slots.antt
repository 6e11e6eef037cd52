-- What a move of a slot does to the queues of actors.
use Rattle.std.proofs.Common.{◌≡◌, ◌≢◌, ◌<◌, ◌+◌, ◌∙◌, inl, inr, sym, ap, subst, refl, ℕ, zero, suc, false, not, eqb, List, [], ◌∷◌, ◌++◌, length, set, Some, arith}
use Rattle.std.specs.Prelude.{map, replicate}
use Rattle.std.proofs.lemmas.Bool.{cases_eq, cases_lt, eqb-false, ne_eqb, or_from, or_parts}
use Rattle.std.proofs.lemmas.List.{length-map, length_push, get_or_past, map-set}
use Rattle.std.proofs.lemmas.List.Folds.{list_any-append}
use Rattle.std.proofs.lemmas.List.Sums.{get_or-le-sum_by}
use Rattle.sg_base.specs.declared.ids.ActorId.{ActorId}
use Rattle.sg_queues.specs.Rings as rings
use Rattle.sg_queues.specs.Rings.{Rings, behind, is_in, queue_at, rows_of, IsAlone, IsApart, IsSlot}
use Rattle.sg_queues.proofs.Entries.{front_in}
use Rattle.sg_queues.proofs.Lists.{map_at, popped, none_of, left_of}
use Rattle.sg_queues.proofs.Rows.{absent_from}
use Rattle.sg_sync.specs.Queues.{left, shortened, times, waits}
use Rattle.sg_sync.specs.kept.Slots.{actor_of, actors_in, waiting_in, AreActors, AreKept}
use Rattle.sg_sync.proofs.Counts.{one_same, times_cons}

pub waiting_at : (queues : List (List ℕ)) (q : ℕ) → queue_at (waiting_in queues) q ≡ actors_in (queue_at queues q)
waiting_at queues q = map_at (map actor_of) [] queues q

-- who waits in none is in none
absent : (actor : ActorId) (slots : List ℕ) → times actor (actors_in slots) ≡ 0 → is_in actor.0 slots ≡ false
absent actor [] none = refl
absent actor (slot ∷ slots) none =
    let count = times_cons actor (actor_of slot) (actors_in slots) in
    elim (cases_eq slot actor.0) [
      | inl same ↦ absurd (omega (arith, none, count, one_same actor (actor_of slot) same))
      | inr apart ↦ rw (ne_eqb actor.0 slot (λ e. apart (sym e))) (absent actor slots (omega (arith, none, count)))
    ]

nowhere : (queues : List (List ℕ)) (actor : ActorId) → waits actor (waiting_in queues) ≡ 0 → (q : ℕ) → is_in actor.0 (queue_at queues q) ≡ false
nowhere queues actor free q = elim (cases_lt q (length queues)) [
  | inl below ↦
      absent actor (queue_at queues q)
      (omega (arith, get_or-le-sum_by (times actor) (waiting_in queues) q [] (omega (arith, below, length-map queues (map actor_of))), ap (times actor) (waiting_at queues q), free))
  | inr past ↦ ap (is_in actor.0) (get_or_past queues q [] past)
]

pub alone_is : (now : Rings) (actor : ActorId) → now.idle ≡ [] → waits actor (waiting_in now.queues) ≡ 0 → IsAlone actor.0 (rows_of now)
alone_is now actor none free zero = ap (is_in actor.0) none
alone_is now actor none free (suc q) = nowhere now.queues actor free q

-- an actor is alone
pub left_is : (queues : List (List ℕ)) (actor : ActorId) → waiting_in (rings.left actor.0 queues) ≡ left actor (waiting_in queues)
left_is queues actor = left_of actor_of (λ (other : ActorId). not (eqb other.0 actor.0)) queues

behind_is : (slots : List ℕ) → actors_in (behind slots) ≡ behind (actors_in slots)
behind_is [] = refl
behind_is (slot ∷ slots) = refl

-- the first leaves its queue alone
pub shortened_is : (now : Rings) (queue slot : ℕ) → IsApart now → queue < length now.queues → rings.front (queue_at now.queues queue) ≡ Some slot → waiting_in (rings.left slot now.queues) ≡ shortened (waiting_in now.queues) queue
shortened_is now queue slot apart within is =
    let slots : List ℕ = queue_at now.queues queue in
    ap waiting_in (popped (λ x. x) now.queues queue slot within is (apart.once (suc queue))
    (λ other differs. none_of slot (queue_at now.queues other) (absent_from apart (suc queue) (suc other) slot (front_in slots slot is) (λ e. differs (omega (arith, e))))))
    ∙ map-set (map actor_of) now.queues queue (behind slots) ∙ ap (set (waiting_in now.queues) queue) (behind_is slots ∙ ap behind (sym (waiting_at now.queues queue)))

-- one more head is no actor
pub head_more : (actors nodes : ℕ) (heads : List ℕ) → actors < nodes → AreActors actors nodes heads → AreActors actors (nodes + 1) (heads ++ nodes ∷ [])
head_more actors nodes heads few kept = record {
  slots = λ slot some below. record {
    within = omega (arith, below, few);
    moves = list_any-append (eqb slot) heads (nodes ∷ []) ∙ or_from (is_in slot heads) (is_in slot (nodes ∷ [])) (kept.slots slot some below).moves (or_from (eqb slot nodes) false (ne_eqb slot nodes (λ e. omega (arith, e, below, few))) refl);
  };
  all = λ slot is.
      let neither = or_parts (is_in slot heads) (is_in slot (nodes ∷ [])) (sym (list_any-append (eqb slot) heads (nodes ∷ [])) ∙ is.moves) in
      let old : slot ≢ nodes = eqb-false slot nodes ((or_parts (eqb slot nodes) false neither.1).0) in
      kept.all slot (record { within = omega (arith, is.within, old); moves = neither.0 });
}

pub queue_more : (actors : ℕ) (old new : Rings) → AreKept actors old → IsApart new → new ≡ record old { nodes = old.nodes + 1; heads = old.heads ++ old.nodes ∷ []; queues = old.queues ++ [] ∷ [] } → AreKept actors new
queue_more actors old new kept apart is = record {
  apart = apart;
  idle = ap (λ (r : Rings). r.idle) is ∙ kept.idle;
  nodes = omega (arith, kept.nodes, ap (λ (r : Rings). r.nodes) is, ap (λ (r : Rings). length r.queues) is, length_push old.queues []);
  slots = subst (λ (r : Rings). AreActors actors r.nodes r.heads) (sym is) (head_more actors old.nodes old.heads (omega (arith, kept.nodes)) kept.slots);
}

pub nobody_in : (n : ℕ) → waiting_in (replicate n []) ≡ replicate n []
nobody_in zero = refl
nobody_in (suc n) = ap (λ (l : List (List ActorId)). [] ∷ l) (nobody_in n)
