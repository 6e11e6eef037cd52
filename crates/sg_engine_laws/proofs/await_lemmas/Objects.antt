-- What names an actor is awaited by it, after the calls on mutexes, semaphores and the barrier.
use Rattle.std.proofs.Common.{◌≡◌, ◌≢◌, ℕ, ◌+◌, ◌-◌, ◌≤◌, ◌==◌, nat_lt, Bool, true, false, cond, inl, inr, Option, None, Some, option_to_list, [], ◌∷◌, ◌++◌, length, eqb, refl, sym, ap, subst, arith}
use Rattle.std.proofs.lemmas.Bool.{cases_lt, cases_Bool}
use Rattle.std.proofs.lemmas.List.{get_or_past, set_past}
use Rattle.sg_base.specs.declared.call.Answer.TheVariants as answer
use Rattle.sg_base.specs.declared.call.Call.{Call}
use Rattle.sg_base.specs.declared.ids.ActorId.{ActorId}
use Rattle.sg_actor_states.specs.declared.state.State.{State}
use Rattle.sg_actor_states.specs.declared.state.State.TheVariants.{Ready, Blocked}
use Rattle.sg_actor_states.specs.Actors.{joined_by}
use Rattle.sg_sync.specs.declared.outcome.Outcome.{Outcome}
use Rattle.sg_sync.specs.declared.outcome.Outcome.TheVariants.{GoesOn, Waits, Refused}
use Rattle.sg_sync.specs.Laws.{comers}
use Rattle.sg_sync.specs.Objects.{Objects, Done, acquired, arrived, count_of, locked, locked_by, owner_of, passed_on, refused, released, released_to, unlocked, unlocked_by, waiting}
use Rattle.sg_sync.specs.Queues.{behind, front, queue_at, times, waits}
use Rattle.sg_sync.proofs.Counts.{one, one_other, times_cons}
use Rattle.sg_sync.proofs.Losses.{acquired_keeps, arrived_keeps, locked_keeps, released_keeps, unlocked_keeps}
use Rattle.sg_kernel_calls.specs.Locks.{all_wake, caller_first, caller_gets, caller_last, with_objects}
use Rattle.sg_kernel_calls.specs.Steps.{each}
use Rattle.sg_kernel_calls.specs.World.{Core, state_of, with_state}
use Rattle.sg_kernel_laws.proofs.actor_lemmas.Kept.{all_kept}
use Rattle.sg_engine_laws.proofs.await_lemmas.Answered.{after_both, awaited_woken, caller_replying, woken_after}
use Rattle.sg_engine_laws.proofs.await_lemmas.Awaiting.{AreAwaited, IsCaller, JoinsAlone, MayStand, Nobody, awaited_put, awaited_ready, fewer_stand, places_for, put_at, put_long, put_there}
use Rattle.sg_engine_laws.proofs.await_lemmas.Over.{anything}
use Rattle.sg_base.specs.Turn.{actor_of}

-- ---- an actor that waits or is unblocked waited before, or is the caller
abbrev pub AtMost : ActorId → Objects → Done → Type 0
AtMost caller o done = (actor : ActorId) → waiting done.after actor + times actor done.woken ≤ waiting o actor + times actor (comers caller done.outcome)

pub locked_most : (o : Objects) (caller : ActorId) (mutex : ℕ) → AtMost caller o (locked caller mutex o)
locked_most o caller mutex = elim (cases_lt mutex (length o.locking)) [
  | inl below ↦ λ actor. omega (arith, locked_keeps o caller mutex below actor)
  | inr past ↦ by (owner_of o mutex) past
]
  where
    by : (owner : Option ActorId) → length o.locking ≤ mutex → AtMost caller o (locked_by owner caller mutex o)
    by None past actor = omega arith
    by (Some owner) past actor = omega (arith, ap (waits actor) (set_past o.locking mutex (queue_at o.locking mutex ++ caller ∷ []) past))

pub unlocked_most : (o : Objects) (caller : ActorId) (mutex : ℕ) → AtMost caller o (unlocked caller mutex o)
unlocked_most o caller mutex = elim (cases_lt mutex (length o.locking)) [
  | inl below ↦ λ actor. omega (arith, unlocked_keeps o caller mutex below actor)
  | inr past ↦ by (owner_of o mutex) past
]
  where
    cases : (b : Bool) → length o.locking ≤ mutex → AtMost caller o (cond b (passed_on mutex o) (refused o))
    cases true past actor =
        omega (arith, ap (waits actor) (set_past o.locking mutex (behind (queue_at o.locking mutex)) past), ap (λ q. times actor (option_to_list (front q))) (get_or_past o.locking mutex [] past))
    cases false past actor = omega arith

    by : (owner : Option ActorId) → length o.locking ≤ mutex → AtMost caller o (unlocked_by owner caller mutex o)
    by None past actor = omega arith
    by (Some owner) past actor = cases (owner.0 == caller.0) past actor

pub acquired_most : (o : Objects) (caller : ActorId) (semaphore : ℕ) → AtMost caller o (acquired caller semaphore o)
acquired_most o caller semaphore = elim (cases_lt semaphore (length o.acquiring)) [
  | inl below ↦ λ actor. omega (arith, acquired_keeps o caller semaphore below actor)
  | inr past ↦ λ actor. elim (cases_Bool (nat_lt 0 (count_of o semaphore))) [
    | inl some ↦ rw some (omega arith)
    | inr none ↦ rw none (omega (arith, ap (waits actor) (set_past o.acquiring semaphore (queue_at o.acquiring semaphore ++ caller ∷ []) past)))
  ]
]

pub released_most : (o : Objects) (caller : ActorId) (semaphore : ℕ) → AtMost caller o (released semaphore o)
released_most o caller semaphore = elim (cases_lt semaphore (length o.acquiring)) [
  | inl below ↦ λ actor. omega (arith, released_keeps o caller semaphore below actor)
  | inr past ↦ subst (λ q. AtMost caller o (released_to (front q) semaphore o)) (sym (get_or_past o.acquiring semaphore [] past)) (λ actor. omega arith)
]

one_few : (a b : ActorId) → one a b ≤ 1
one_few a b = by (eqb b.0 a.0)
  where
    by : (c : Bool) → cond c 1 0 ≤ 1
    by true = omega arith
    by false = omega arith

comers_few : (actor caller : ActorId) (outcome : Outcome) → times actor (comers caller outcome) ≤ length (comers caller outcome)
comers_few actor caller GoesOn = omega arith
comers_few actor caller Waits = omega (arith, times_cons actor caller [], one_few actor caller)
comers_few actor caller Refused = omega arith

pub no_comer : (actor caller : ActorId) (outcome : Outcome) → caller.0 ≢ actor.0 → times actor (comers caller outcome) ≡ 0
no_comer actor caller GoesOn apart = refl
no_comer actor caller Waits apart = omega (arith, times_cons actor caller [], one_other actor caller apart)
no_comer actor caller Refused apart = refl

-- ---- the caller gets its answer, or waits
awaited_called : (actor : ℕ) (new : State) (done : Done) (core : Core) → JoinsAlone new → ((n : ℕ) → n ≤ length (comers (actor_of actor) done.outcome) → MayStand new n)
    → AtMost (actor_of actor) core.objects done → IsCaller actor core → AreAwaited Nobody [] core → AreAwaited Nobody done.woken (with_state actor new (with_objects done core))
awaited_called actor new done core alone may most caller a = record {
  numbered = a.numbered;
  rooms = omega (arith, a.rooms, put_long core.actors actor new);
  named = (awaited_put Nobody [] actor new core alone caller.apart a).named;
  held = record {
    stand = λ other from.
        put_at (λ state. MayStand state (waiting done.after other + times other done.woken)) core.actors actor other.0 new caller.within
        (λ same. may (waiting done.after other + times other done.woken) (omega (arith, most other, caller.apart.idle other from same, comers_few other (actor_of actor) done.outcome)))
        (λ apart. fewer_stand (state_of core other.0) (waiting core.objects other + times other []) (waiting done.after other + times other done.woken) (omega (arith, most other, no_comer other (actor_of actor) done.outcome (λ e. apart (ap (λ n. n - 1) (sym e))))) (a.held.stand other from));
    real = λ other none.
        let differs : actor ≢ other.0 = (λ e. omega (arith, e, none, caller.from)) in
        omega (arith, most other, a.held.real other none, no_comer other (actor_of actor) done.outcome differs);
    joins = λ other. put_there JoinsAlone core.actors actor other new (λ same. alone) (a.held.joins other);
  };
}

-- by a call that is no join
awaited_gets : (outcome : Outcome) (done : Done) (actor : ℕ) (what : Call) (core : Core) → done.outcome ≡ outcome → joined_by what ≡ None
    → AtMost (actor_of actor) core.objects done → IsCaller actor core → AreAwaited Nobody [] core → AreAwaited Nobody done.woken (caller_gets outcome actor what (with_objects done core)).core
awaited_gets GoesOn done actor what core e none most caller a =
    awaited_called actor (Ready answer.Done) done core (λ target e. refl) (λ n le. omega (arith, le, ap (λ o. length (comers (actor_of actor) o)) e)) most caller a
awaited_gets Waits done actor what core e none most caller a =
    awaited_called actor (Blocked what core.under.date None) done core (λ target e. refl) (λ n le. omega (arith, le, ap (λ o. length (comers (actor_of actor) o)) e, ap places_for none)) most caller a
awaited_gets Refused done actor what core e none most caller a =
    awaited_called actor (Ready answer.Refused) done core (λ target e. refl) (λ n le. omega (arith, le, ap (λ o. length (comers (actor_of actor) o)) e)) most caller a

pub awaited_first : (done : Done) (actor : ℕ) (what : Call) (core : Core) → joined_by what ≡ None → AtMost (actor_of actor) core.objects done → IsCaller actor core → AreAwaited Nobody [] core → AreAwaited Nobody [] (caller_first done actor what core).core
awaited_first done actor what core none most caller a =
    let first = caller_gets done.outcome actor what (with_objects done core) in
    woken_after first done.woken (awaited_gets done.outcome done actor what core refl none most caller a) (awaited_woken done.woken first.core)

-- ---- the barrier, which answers the caller last
pub awaited_barrier : (actor : ℕ) (what : Call) (core : Core) → joined_by what ≡ None → IsCaller actor core → AreAwaited Nobody [] core → AreAwaited Nobody [] (caller_last (arrived (actor_of actor) core.objects) actor what core).core
unfolding each
awaited_barrier actor what core none caller a = by (nat_lt (length core.objects.arrived + 1) core.objects.members) (λ other. omega (arith, arrived_keeps core.objects (actor_of actor) other))
  where
    waits_there : Done
    waits_there = record { outcome = Waits; after = record core.objects { arrived = core.objects.arrived ++ actor_of actor ∷ [] }; woken = [] }

    all_go : Done
    all_go = record { outcome = GoesOn; after = record core.objects { arrived = [] }; woken = core.objects.arrived }

    opened : AtMost (actor_of actor) core.objects all_go → AreAwaited Nobody [] (caller_last all_go actor what core).core
    opened most =
        let start = with_objects all_go core in
        let calls : IsCaller actor start = record {
          from = caller.from;
          within = caller.within;
          apart = record { free = caller.apart.free; idle = λ other from same. omega (arith, most other, caller.apart.idle other from same) };
        } in
        let begun : AreAwaited Nobody core.objects.arrived start = record {
          numbered = a.numbered;
          rooms = a.rooms;
          named = a.named;
          held = record {
            stand = λ other from. fewer_stand (state_of core other.0) (waiting core.objects other + times other []) (waiting start.objects other + times other core.objects.arrived) (omega (arith, most other)) (a.held.stand other from);
            real = λ other zero. omega (arith, most other, a.held.real other zero);
            joins = a.held.joins;
          };
        } in
        let woken = all_wake core.objects.arrived start in
        after_both (AreAwaited Nobody []) woken (caller_gets GoesOn actor what) (awaited_woken core.objects.arrived start begun)
        (awaited_ready Nobody [] actor answer.Done woken.core (all_kept (IsCaller actor) anything (caller_replying actor) core.objects.arrived start calls).holds.apart)

    by : (b : Bool) → AtMost (actor_of actor) core.objects (cond b waits_there all_go) → AreAwaited Nobody [] (caller_last (cond b waits_there all_go) actor what core).core
    by true most = awaited_gets Waits waits_there actor what core refl none most caller a
    by false most = opened most
