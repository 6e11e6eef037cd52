-- What names an actor is awaited by it: what a run keeps of that, as the states of actors change.
use Rattle.std.proofs.Common.{◌≡◌, ◌⊎◌, ℕ, zero, suc, ◌+◌, ◌-◌, ◌<◌, ◌≤◌, ◌==◌, nat_lt, Bool, true, false, cond, IsTrue, inl, inr, Option, None, Some, option_to_list, List, [], ◌∷◌, ◌++◌, length, map, set, get_or, refl, sym, ap, subst, ◌∙◌, arith}
use Rattle.std.specs.List.{Contains}
use Rattle.std.proofs.lemmas.Bool.{cases_eq}
use Rattle.std.proofs.lemmas.List.{get_or-set_same, get_or-set_other, length-set}
use Rattle.sg_base.specs.declared.awaits.Await.{Await}
use Rattle.sg_base.specs.declared.call.Answer.{Answer}
use Rattle.sg_base.specs.declared.call.Call.{Call}
use Rattle.sg_base.specs.declared.ids.ActorId.{ActorId}
use Rattle.sg_activity.specs.Task.{Task}
use Rattle.sg_requests.specs.Requested.{rising_numbers_with, queue_at, rising_numbers, serial_of}
use Rattle.sg_actor_states.specs.declared.state.Actor.{Actor}
use Rattle.sg_actor_states.specs.declared.state.State.{State}
use Rattle.sg_actor_states.specs.declared.state.State.TheVariants.{Unstarted, Ready, Blocked, Ended}
use Rattle.sg_actor_states.specs.Actors.{actor_at, blocking_in, is_answered, joined_by, joined_in, not_suspended, put_state, state_at}
use Rattle.sg_sync.specs.Objects.{Objects, waiting}
use Rattle.sg_sync.specs.Queues.{times}
use Rattle.sg_mailbox.specs.declared.owners.How.TheVariants as how
use Rattle.sg_mailbox.specs.declared.owners.Whose.{Whose}
use Rattle.sg_mailbox.specs.declared.owners.Whose.TheVariants.{Over}
use Rattle.sg_kernel_calls.specs.Kills.{blocked_on}
use Rattle.sg_kernel_calls.specs.Steps.{blocked_by}
use Rattle.sg_kernel_calls.specs.World.{Core, MayCall, state_of, with_state}
use Rattle.sg_engine_laws.specs.awaits.Awaits.{names}
use Rattle.sg_kernel_laws.proofs.actor_lemmas.Others.{same_state, set_there}

-- ---- lists
-- whether the list has the number
abbrev pub Has : ℕ → List ℕ → Type 0
Has n [] = ⊥
Has n (m ∷ more) = (n ≡ m) ⊎ Has n more

has_entered : (n m : ℕ) (xs : List ℕ) → Has n (m ∷ xs) → Has n (rising_numbers_with m xs)
unfolding rising_numbers_with
has_entered n m [] h = h
has_entered n m (k ∷ xs) h = by (nat_lt m k) (m == k) refl (has_entered n m xs) h
  where
    by : (less same : Bool) → (m == k) ≡ same → (Has n (m ∷ xs) → Has n (rising_numbers_with m xs)) → Has n (m ∷ k ∷ xs) → Has n (cond less (m ∷ k ∷ xs) (cond same (k ∷ xs) (k ∷ rising_numbers_with m xs)))
    by true same e more h = h
    by false true e more (inl is) = inl (let one : m ≡ k = grind (arith, e) in is ∙ one)
    by false true e more (inr h) = h
    by false false e more (inl is) = inr (more (inl is))
    by false false e more (inr (inl is)) = inl is
    by false false e more (inr (inr h)) = inr (more (inr h))

pub has_rising : (n : ℕ) (xs : List ℕ) → Has n xs → Has n (rising_numbers xs)
unfolding rising_numbers
has_rising n [] h = h
has_rising n (m ∷ xs) (inl is) = has_entered n m (rising_numbers xs) (inl is)
has_rising n (m ∷ xs) (inr h) = has_entered n m (rising_numbers xs) (inr (has_rising n xs h))

pub has_contains : (n : ℕ) (xs : List ℕ) → Has n xs → Contains xs n
has_contains n [] h = absurd h
has_contains n (m ∷ xs) (inl is) = (zero, omega arith, sym is)
has_contains n (m ∷ xs) (inr h) = (let c = has_contains n xs h in (suc c.0, omega (arith, c.1), c.2))

-- one of a list takes another place
pub set_at : {X : Type 0} (P : X → Type 0) (xs : List X) (i place : ℕ) (new d : X) → i < length xs → (place ≡ i → P new) → ((place ≡ i → ⊥) → P (get_or xs place d)) → P (get_or (set xs i new) place d)
set_at P xs i place new d within p q = elim (cases_eq place i) [
  | inl same ↦ subst P (sym (ap (λ k. get_or (set xs i new) k d) same ∙ get_or-set_same xs i new d within)) (p same)
  | inr apart ↦ subst P (sym (get_or-set_other xs i place new d apart)) (q apart)
]

pub put_there : (P : State → Type 0) (actors : List Actor) (actor other : ℕ) (state : State) → (other - 1 ≡ actor - 1 → P state) → P (state_at actors other) → P (state_at (put_state actors actor state) other)
put_there P actors actor other state p q = set_there (λ (a : Actor). P a.state) actors (actor - 1) (other - 1) (record (actor_at actors actor) { state = state }) (not_suspended Ended) p q

pub put_at : (P : State → Type 0) (actors : List Actor) (actor other : ℕ) (state : State) → actor - 1 < length actors → (other - 1 ≡ actor - 1 → P state) → ((other - 1 ≡ actor - 1 → ⊥) → P (state_at actors other)) → P (state_at (put_state actors actor state) other)
put_at P actors actor other state within p q = set_at (λ (a : Actor). P a.state) actors (actor - 1) (other - 1) (record (actor_at actors actor) { state = state }) (not_suspended Ended) within p q

pub put_long : (actors : List Actor) (actor : ℕ) (state : State) → length (put_state actors actor state) ≡ length actors
put_long actors actor state = length-set actors (actor - 1) (record (actor_at actors actor) { state = state })

-- ---- what actors await
-- the ids of the activities that an actor in this state with these requests awaits
abbrev pub serials_in : State → List Await → List ℕ
serials_in state queue = map serial_of (option_to_list (blocked_on (blocking_in state)) ++ queue)

-- the actor awaits the activity with this id
abbrev pub IsAwaited : List Actor → List (List Await) → ActorId → ℕ → Type 0
IsAwaited actors requests actor serial = Has serial (serials_in (state_at actors actor.0) (queue_at requests actor.0))

-- all that name an actor are awaited by it, except for what it misses
abbrev pub AreNamed : (ActorId → ℕ → Type 0) → List Actor → List Whose → List (List Await) → Type 0
AreNamed Misses actors whose requests =
    (actor : ActorId) (serial : ℕ) → 0 < serial → IsTrue (names actor (get_or whose (serial - 1) (Over how.Done))) → IsAwaited actors requests actor serial ⊎ Misses actor serial

-- no actor misses anything
abbrev pub Nobody : ActorId → ℕ → Type 0
Nobody actor serial = ⊥

-- this actor misses the activity with this id
abbrev pub Lacks : ℕ → ℕ → ActorId → ℕ → Type 0
Lacks actor serial other missed = (other.0 - 1 ≡ actor - 1) × (missed ≡ serial)

-- an actor that is blocked on no activity loses none
pub has_free : (n : ℕ) (old new : State) (queue : List Await) → blocked_on (blocking_in old) ≡ None → Has n (serials_in old queue) → Has n (serials_in new queue)
has_free n old new queue free h = by (blocked_on (blocking_in new))
  where
    none : Has n (map serial_of queue)
    none = subst (λ (o : Option Await). Has n (map serial_of (option_to_list o ++ queue))) free h

    by : (o : Option Await) → Has n (map serial_of (option_to_list o ++ queue))
    by None = none
    by (Some on) = inr none

-- ---- where actors wait for the calls of others
abbrev pub places_for : Option ActorId → ℕ
places_for None = 1
places_for (Some target) = 0

abbrev pub places_on : Option Await → Option ActorId → ℕ
places_on None joined = places_for joined
places_on (Some on) joined = 0

-- Whether an actor in this state may stand so often in queues: once, if it is blocked by a call that is no join, and on
-- no activity. An actor that has ended is never woken.
abbrev pub MayStand : State → ℕ → Type 0
MayStand Unstarted n = n ≡ 0
MayStand (Ready answer) n = n ≡ 0
MayStand (Blocked what since on) n = n ≤ places_on on (joined_by what)
MayStand Ended n = Unit {0}

-- an actor that joins another is blocked on no activity
abbrev pub JoinsAlone : State → Type 0
JoinsAlone state = (target : ActorId) → joined_in state ≡ Some target → blocked_on (blocking_in state) ≡ None

-- So it is of all actors, with those that a call is still to unblock. Ids are from 1 on.
pub record AreHeld (going : List ActorId) (actors : List Actor) (objects : Objects) : Type 0 where
  pub stand : (actor : ActorId) → 0 < actor.0 → MayStand (state_at actors actor.0) (waiting objects actor + times actor going)
  pub real : (actor : ActorId) → actor.0 ≡ 0 → waiting objects actor + times actor going ≡ 0
  pub joins : (actor : ℕ) → JoinsAlone (state_at actors actor)

-- what a run keeps
pub record KeepsAwaited (Misses : ActorId → ℕ → Type 0) (going : List ActorId) (tasks : List (Option Task)) (actors : List Actor) (whose : List Whose) (requests : List (List Await)) (objects : Objects) : Type 0 where
  pub numbered : length whose ≡ length tasks
  pub rooms : length actors ≤ length requests
  pub named : AreNamed Misses actors whose requests
  pub held : AreHeld going actors objects

abbrev pub AreAwaited : (ActorId → ℕ → Type 0) → List ActorId → Core → Type 0
AreAwaited Misses going core = KeepsAwaited Misses going core.under.tasks core.actors core.whose core.requests core.objects

-- an actor is blocked on no activity, and stands in no queue
pub record StandsFree (going : List ActorId) (actor : ℕ) (actors : List Actor) (objects : Objects) : Type 0 where
  pub free : blocked_on (blocking_in (state_at actors actor)) ≡ None
  pub idle : (other : ActorId) → 0 < other.0 → other.0 - 1 ≡ actor - 1 → waiting objects other + times other going ≡ 0

abbrev pub IsFree : List ActorId → ℕ → Core → Type 0
IsFree going actor core = StandsFree going actor core.actors core.objects

-- so is the one that calls
pub record Calls (actor : ℕ) (actors : List Actor) (objects : Objects) : Type 0 where
  pub from : 0 < actor
  pub within : actor - 1 < length actors
  pub apart : StandsFree [] actor actors objects

abbrev pub IsCaller : ℕ → Core → Type 0
IsCaller actor core = Calls actor core.actors core.objects

pub zero_stands : (state : State) (n : ℕ) → n ≡ 0 → MayStand state n
zero_stands Unstarted n e = e
zero_stands (Ready answer) n e = e
zero_stands (Blocked what since on) n e = omega (arith, e)
zero_stands Ended n e = tt

pub fewer_stand : (state : State) (n m : ℕ) → m ≤ n → MayStand state n → MayStand state m
fewer_stand Unstarted n m le may = omega (arith, le, may)
fewer_stand (Ready answer) n m le may = omega (arith, le, may)
fewer_stand (Blocked what since on) n m le may = omega (arith, le, may)
fewer_stand Ended n m le may = tt

answered_free : (state : State) → is_answered state ≡ true → blocked_on (blocking_in state) ≡ None
answered_free Unstarted e = refl
answered_free (Ready answer) e = refl
answered_free (Blocked what since on) e = absurd (cc e)
answered_free Ended e = refl

answered_idle : (state : State) (n : ℕ) → is_answered state ≡ true → MayStand state n → n ≡ 0
answered_idle Unstarted n e may = may
answered_idle (Ready answer) n e may = may
answered_idle (Blocked what since on) n e may = absurd (cc e)
answered_idle Ended n e may = absurd (cc e)

pub caller_is : (Misses : ActorId → ℕ → Type 0) (actor : ℕ) (core : Core) → MayCall core actor → AreAwaited Misses [] core → IsCaller actor core
caller_is Misses actor core may a = record {
  from = may.from;
  within = omega (arith, may.from, may.to);
  apart = record {
    free = answered_free (state_of core actor) may.ready;
    idle = λ other from same. answered_idle (state_of core other.0) _ (ap is_answered (same_state core.actors other.0 actor same) ∙ may.ready) (a.held.stand other from);
  };
}

-- ---- an actor becomes something else
held_put : (going : List ActorId) (actor : ℕ) (new : State) (actors : List Actor) (objects : Objects) → JoinsAlone new → ((other : ActorId) → 0 < other.0 → other.0 - 1 ≡ actor - 1 → MayStand new (waiting objects other + times other going)) → AreHeld going actors objects → AreHeld going (put_state actors actor new) objects
held_put going actor new actors objects alone may held = record {
  stand = λ other from. put_there (λ state. MayStand state (waiting objects other + times other going)) actors actor other.0 new (may other from) (held.stand other from);
  real = held.real;
  joins = λ other. put_there JoinsAlone actors actor other new (λ same. alone) (held.joins other);
}

-- one that is free
pub awaited_put : (Misses : ActorId → ℕ → Type 0) (going : List ActorId) (actor : ℕ) (new : State) (core : Core) → JoinsAlone new → IsFree going actor core → AreAwaited Misses going core → AreAwaited Misses going (with_state actor new core)
awaited_put Misses going actor new core alone free a = record {
  numbered = a.numbered;
  rooms = omega (arith, a.rooms, put_long core.actors actor new);
  named = λ other serial from is.
      put_there (λ state. Has serial (serials_in state (queue_at core.requests other.0)) ⊎ Misses other serial) core.actors actor other.0 new
      (λ same. by other serial same (a.named other serial from is)) (a.named other serial from is);
  held = held_put going actor new core.actors core.objects alone (λ other from same. zero_stands new _ (free.idle other from same)) a.held;
}
  where
    by : (other : ActorId) (serial : ℕ) → other.0 - 1 ≡ actor - 1 → IsAwaited core.actors core.requests other serial ⊎ Misses other serial → Has serial (serials_in new (queue_at core.requests other.0)) ⊎ Misses other serial
    by other serial same (inl h) = inl (has_free serial (state_of core other.0) new (queue_at core.requests other.0) (ap (λ s. blocked_on (blocking_in s)) (same_state core.actors other.0 actor same) ∙ free.free) h)
    by other serial same (inr missed) = inr missed

pub awaited_ready : (Misses : ActorId → ℕ → Type 0) (going : List ActorId) (actor : ℕ) (answer : Answer) (core : Core) → IsFree going actor core → AreAwaited Misses going core → AreAwaited Misses going (with_state actor (Ready answer) core)
awaited_ready Misses going actor answer core = awaited_put Misses going actor (Ready answer) core (λ target e. refl)

-- the caller is blocked on the activity that it misses
pub awaited_blocked : (actor : ℕ) (what : Call) (on : Await) (core : Core) → joined_by what ≡ None → IsCaller actor core → AreAwaited (Lacks actor on.serial.0) [] core → AreAwaited Nobody [] (blocked_by actor what (Some on) core)
awaited_blocked actor what on core none caller a = record {
  numbered = a.numbered;
  rooms = omega (arith, a.rooms, put_long core.actors actor new);
  named = λ other serial from is.
      put_at (λ state. Has serial (serials_in state (queue_at core.requests other.0)) ⊎ ⊥) core.actors actor other.0 new caller.within
      (λ same. by other serial same (a.named other serial from is)) (λ apart. still other serial apart (a.named other serial from is));
  held = held_put [] actor new core.actors core.objects (λ target e. absurd (cc (sym none ∙ e))) (λ other from same. zero_stands new _ (caller.apart.idle other from same)) a.held;
}
  where
    new : State
    new = Blocked what core.under.date (Some on)

    by : (other : ActorId) (serial : ℕ) → other.0 - 1 ≡ actor - 1 → IsAwaited core.actors core.requests other serial ⊎ Lacks actor on.serial.0 other serial → Has serial (serials_in new (queue_at core.requests other.0)) ⊎ ⊥
    by other serial same (inl h) = inl (has_free serial (state_of core other.0) new (queue_at core.requests other.0) (ap (λ s. blocked_on (blocking_in s)) (same_state core.actors other.0 actor same) ∙ caller.apart.free) h)
    by other serial same (inr lacks) = inl (inl lacks.1)

    still : (other : ActorId) (serial : ℕ) → (other.0 - 1 ≡ actor - 1 → ⊥) → IsAwaited core.actors core.requests other serial ⊎ Lacks actor on.serial.0 other serial → IsAwaited core.actors core.requests other serial ⊎ ⊥
    still other serial apart (inl h) = inl h
    still other serial apart (inr lacks) = absurd (apart lacks.0)

-- the caller stays one, as another becomes such that it is blocked on no activity
pub caller_put : (actor other : ℕ) (new : State) (core : Core) → blocked_on (blocking_in new) ≡ None → IsCaller actor core → IsCaller actor (with_state other new core)
caller_put actor other new core none caller = record {
  from = caller.from;
  within = omega (arith, caller.within, put_long core.actors other new);
  apart = record {
    free = put_there (λ state. blocked_on (blocking_in state) ≡ None) core.actors other actor new (λ same. none) caller.apart.free;
    idle = caller.apart.idle;
  };
}
