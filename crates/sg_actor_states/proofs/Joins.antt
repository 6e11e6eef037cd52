-- One more actor joins the run queue at its place.
use Rattle.std.proofs.Common.{◌≡◌, ◌≢◌, ℕ, zero, suc, ◌+◌, ◌-◌, ◌<◌, ◌≤◌, List, length, set, get_or, inl, inr, sym, subst, ap, ◌∙◌, arith}
use Rattle.std.specs.Prelude.{AllPairs, Contains}
use Rattle.std.specs.List.{insert}
use Rattle.std.proofs.lemmas.Bool.{cases_eq, cases_lt}
use Rattle.std.proofs.lemmas.List.{get_or-set_other, get_or_default, length-set}
use Rattle.sg_base.specs.declared.ids.ActorId.{ActorId}
use Rattle.sg_actor_states.specs.declared.state.Actor.{Actor}
use Rattle.sg_actor_states.specs.declared.state.State.TheVariants.{Ended}
use Rattle.sg_actor_states.specs.Actors.{is_ready, not_suspended}
use Rattle.sg_actor_states.specs.Queue.{IsIdOf, IsQueue}
use Rattle.sg_actor_states.specs.kept.Places.{IsPlace}
use Rattle.sg_actor_states.proofs.Sorted.{all_inserted, inserted, place_is, rises_inserted, still_in}

abbrev pub id_of : ActorId → ℕ
id_of actor = actor.0

pub same_id : (a b : ActorId) → a.0 ≡ b.0 → a ≡ b
same_id a b same = ap (λ (n : ℕ). record { 0 = n }) same

-- it is there, or nowhere
pub there : (queue : List ActorId) (actor d : ActorId) (place : ℕ) → place < length queue → (get_or queue place d).0 ≡ actor.0 → Contains queue actor
there queue actor d place within is = (place, within, get_or_default queue place actor d within ∙ same_id (get_or queue place d) actor is)

pub nowhere : (queue : List ActorId) (actor : ActorId) (place : ℕ) → AllPairs (λ (a : ActorId) (b : ActorId). a.0 < b.0) queue → IsPlace id_of queue actor.0 place → ((d : ActorId) → place < length queue → (get_or queue place d).0 ≢ actor.0) → Contains queue actor → ⊥
nowhere queue actor place rises is apart has =
    let at = place_is id_of queue actor place rises is has in
    apart actor (omega (arith, at, has.1)) (ap (λ k. (get_or queue k actor).0) (sym at) ∙ ap id_of has.2)

-- an actor that joins may become any other
pub queue_joined : (actors : List Actor) (queue : List ActorId) (actor : ActorId) (next : Actor) (place : ℕ) → IsPlace id_of queue actor.0 place → (Contains queue actor → ⊥) → IsIdOf actors actor → IsQueue actors queue → IsQueue (set actors (actor.0 - 1) next) (insert queue place actor)
queue_joined actors queue actor next place is none id old =
    let long = length-set actors (actor.0 - 1) next in
    record {
      rises = rises_inserted id_of queue actor place old.rises is (λ k d within same. none (there queue actor d k within same));
      ids = all_inserted (IsIdOf (set actors (actor.0 - 1) next)) queue actor place is.within (id.0, omega (arith, id.1, long)) (λ k d within. let here = old.ids k d within in (here.0, omega (arith, here.1, long)));
      has_ready = λ other some ready.
          elim (cases_eq other.0 actor.0) [
            | inl same ↦ subst (λ (a : ActorId). Contains (insert queue place actor) a) (sym (same_id other actor same)) (inserted queue actor place is.within)
            | inr apart ↦ still_in queue actor other place is.within (old.has_ready other some (sym (ap is_ready (get_or-set_other actors (actor.0 - 1) (other.0 - 1) next (not_suspended Ended) (λ e. apart (omega (arith, e, id.0, some))))) ∙ ready))
          ];
    }

-- it was there, and may become any other
pub queue_there : (actors : List Actor) (queue : List ActorId) (actor : ActorId) (next : Actor) → Contains queue actor → IsIdOf actors actor → IsQueue actors queue → IsQueue (set actors (actor.0 - 1) next) queue
queue_there actors queue actor next has id old =
    let long = length-set actors (actor.0 - 1) next in
    record {
      rises = old.rises;
      ids = λ k d within. let here = old.ids k d within in (here.0, omega (arith, here.1, long));
      has_ready = λ other some ready.
          elim (cases_eq other.0 actor.0) [
            | inl same ↦ subst (λ (a : ActorId). Contains queue a) (sym (same_id other actor same)) has
            | inr apart ↦ old.has_ready other some (sym (ap is_ready (get_or-set_other actors (actor.0 - 1) (other.0 - 1) next (not_suspended Ended) (λ e. apart (omega (arith, e, id.0, some))))) ∙ ready)
          ];
    }

-- ---- room in the queue
further : (queue : List ActorId) → AllPairs (λ (a : ActorId) (b : ActorId). a.0 < b.0) queue → (m i j : ℕ) (d : ActorId) → j ≡ i + m → j < length queue → (get_or queue i d).0 + m ≤ (get_or queue j d).0
further queue rises zero i j d at within =
    let same : j ≡ i = omega (arith, at) in
    omega (arith, ap (λ k. (get_or queue k d).0) same)
further queue rises (suc m) i j d at within =
    let short : j - 1 ≡ i + m = omega (arith, at) in
    let before = further queue rises m i (j - 1) d short (omega (arith, within)) in
    omega (arith, before, rises (j - 1) j d (omega (arith, at)) within)

-- of rising ids without this one there are fewer than actors
pub queue_room : (actors : List Actor) (queue : List ActorId) (actor : ActorId) → IsQueue actors queue → IsIdOf actors actor → (Contains queue actor → ⊥) → length queue < length actors
queue_room actors queue actor is id none = elim (cases_lt (length queue) (length actors)) [
  | inl less ↦ less
  | inr many ↦
      let within : actor.0 - 1 < length queue = omega (arith, many, id.0, id.1) in
      let low = further queue is.rises (actor.0 - 1) 0 (actor.0 - 1) actor (omega arith) within in
      let first = is.ids 0 actor (omega (arith, within)) in
      let high = further queue is.rises (length queue - 1 - (actor.0 - 1)) (actor.0 - 1) (length queue - 1) actor (omega (arith, within)) (omega (arith, within)) in
      let last = is.ids (length queue - 1) actor (omega (arith, within)) in
      absurd (none (there queue actor actor (actor.0 - 1) within (omega (arith, low, first.0, high, last.1, many, within, id.0))))
]
