-- What actors do, as the state of one changes.
use Rattle.std.proofs.Common.{◌≡◌, ◌≢◌, ℕ, ◌-◌, ◌<◌, ◌≤◌, ◌&&◌, not, Bool, true, false, true≢false, IsTrue, Option, None, Some, List, length, set, get_or, inl, inr, refl, sym, subst, ap, ◌∙◌, arith}
use Rattle.std.specs.Prelude.{is_some, IfSome}
use Rattle.std.proofs.lemmas.Bool.{cases_eq, cases_lt}
use Rattle.std.proofs.lemmas.List.{get_or-set_same, get_or-set_other, get_or_past, length-set}
use Rattle.sg_base.specs.declared.awaits.Await.{Await}
use Rattle.sg_base.specs.declared.ids.ActorId.{ActorId}
use Rattle.sg_actor_states.specs.declared.state.Actor.{Actor}
use Rattle.sg_actor_states.specs.declared.state.Blocking.{Blocking}
use Rattle.sg_actor_states.specs.declared.state.State.{State}
use Rattle.sg_actor_states.specs.declared.state.State.TheVariants.{Unstarted, Ready, Blocked, Ended}
use Rattle.sg_actor_states.specs.Actors.{actor_at, blocking_in, is_held, is_id, joined_in, joins, not_suspended, put_actor, put_state, state_at, IsActor}
use Rattle.sg_kernel_calls.specs.kept.Sound.{is_queued, AwaitsMade, IsMade}

-- ---- one actor
pub actor_same : (actors : List Actor) (actor : ℕ) (new : Actor) → IsActor actors actor → actor_at (put_actor actors actor new) actor ≡ new
actor_same actors actor new is = get_or-set_same actors (actor - 1) new (not_suspended Ended) (omega (arith, is.from, is.to))

pub actor_other : (actors : List Actor) (actor other : ℕ) (new : Actor) → 0 < actor → 0 < other → other ≢ actor → actor_at (put_actor actors actor new) other ≡ actor_at actors other
actor_other actors actor other new some one apart = get_or-set_other actors (actor - 1) (other - 1) new (not_suspended Ended) (λ e. apart (omega (arith, e, some, one)))

pub state_same : (actors : List Actor) (actor : ℕ) (state : State) → IsActor actors actor → state_at (put_state actors actor state) actor ≡ state
state_same actors actor state is = ap (λ (a : Actor). a.state) (actor_same actors actor (record (actor_at actors actor) { state = state }) is)

pub state_other : (actors : List Actor) (actor other : ℕ) (state : State) → 0 < actor → 0 < other → other ≢ actor → state_at (put_state actors actor state) other ≡ state_at actors other
state_other actors actor other state some one apart = ap (λ (a : Actor). a.state) (actor_other actors actor other (record (actor_at actors actor) { state = state }) some one apart)

-- ---- what actors are blocked on was made
pub awaits_more : (n more : ℕ) (blocking : Option Blocking) → n ≤ more → AwaitsMade n blocking → AwaitsMade more blocking
awaits_more n more None le was = was
awaits_more n more (Some blocking) le was = by blocking.on was
  where
    by : (on : Option Await) → IfSome on (IsMade n) → IfSome on (IsMade more)
    by None was = was
    by (Some on) was = record { from = was.from; to = omega (arith, le, was.to) }

abbrev pub AreAwaiting : ℕ → List Actor → Type 0
AreAwaiting n actors = (actor : ℕ) → AwaitsMade n (blocking_in (state_at actors actor))

pub awaiting_more : (n more : ℕ) (actors : List Actor) → n ≤ more → AreAwaiting n actors → AreAwaiting more actors
awaiting_more n more actors le was actor = awaits_more n more (blocking_in (state_at actors actor)) le (was actor)

-- an actor gets this one in its place, which is blocked on nothing or on what was made
pub awaiting_put : (n : ℕ) (actors : List Actor) (actor : ℕ) (new : Actor) → AwaitsMade n (blocking_in new.state) → AreAwaiting n actors → AreAwaiting n (put_actor actors actor new)
awaiting_put n actors actor new free was other = elim (cases_eq (other - 1) (actor - 1)) [
  | inl same ↦ elim (cases_lt (other - 1) (length actors)) [
    | inl within ↦
        let here : actor_at (put_actor actors actor new) other ≡ new = ap (λ k. get_or (set actors k new) (other - 1) (not_suspended Ended)) (sym same) ∙ get_or-set_same actors (other - 1) new (not_suspended Ended) within in
        subst (λ (a : Actor). AwaitsMade n (blocking_in a.state)) (sym here) free
    | inr past ↦
        let none : actor_at (put_actor actors actor new) other ≡ not_suspended Ended = get_or_past (set actors (actor - 1) new) (other - 1) (not_suspended Ended) (omega (arith, past, length-set actors (actor - 1) new)) in
        subst (λ (a : Actor). AwaitsMade n (blocking_in a.state)) (sym none) tt
  ]
  | inr apart ↦ subst (λ (a : Actor). AwaitsMade n (blocking_in a.state)) (sym (get_or-set_other actors (actor - 1) (other - 1) new (not_suspended Ended) apart)) (was other)
]

pub awaiting_state : (n : ℕ) (actors : List Actor) (actor : ℕ) (state : State) → AwaitsMade n (blocking_in state) → AreAwaiting n actors → AreAwaiting n (put_state actors actor state)
awaiting_state n actors actor state free was = awaiting_put n actors actor (record (actor_at actors actor) { state = state }) free was

-- ---- who is blocked
pub blocking_is : (state : State) (blocking : Blocking) → blocking_in state ≡ Some blocking → state ≡ Blocked blocking.what blocking.since blocking.on
blocking_is Unstarted blocking e = absurd (cc e)
blocking_is (Ready answer) blocking e = absurd (cc e)
blocking_is (Blocked what since on) blocking e =
    let same : record { what = what; since = since; on = on } ≡ blocking = cc e in
    ap (λ (b : Blocking). Blocked b.what b.since b.on) same
blocking_is Ended blocking e = absurd (cc e)

-- an actor that waits for the end of another waits at no object
pub joiner_free : (target : ℕ) (state : State) → IsTrue (joins target state) → is_queued state ≡ false
joiner_free target state e = by (joined_in state) e (is_held state)
  where
    by : (joined : Option ActorId) → IsTrue (is_id target joined) → (held : Bool) → (held && not (is_some joined)) ≡ false
    by None e held = absurd (true≢false (sym e))
    by (Some actor) e true = refl
    by (Some actor) e false = refl
