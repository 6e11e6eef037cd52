-- What names an actor is awaited by it, after each call.
use Rattle.std.proofs.Common.{◌≡◌, ◌⊎◌, ℕ, ◌+◌, ◌-◌, ◌≤◌, ◌==◌, Bool, true, false, cond, IsTrue, inl, inr, Option, None, Some, List, [], ◌∷◌, ◌++◌, length, get_or, refl, sym, ap, subst, ◌∙◌, arith}
use Rattle.std.proofs.lemmas.Bool.{cases_eq}
use Rattle.std.proofs.lemmas.List.{get_or-set_other, length-append, length-set}
use Rattle.sg_base.specs.declared.awaits.Await.{Await}
use Rattle.sg_base.specs.declared.call.Action.{Action}
use Rattle.sg_base.specs.declared.call.Answer.TheVariants as answer
use Rattle.sg_base.specs.declared.call.Call.{Call}
use Rattle.sg_base.specs.declared.call.Call.TheVariants as call
use Rattle.sg_base.specs.declared.ids.ActorId.{ActorId}
use Rattle.sg_activity.specs.Links.{is_off}
use Rattle.sg_activity.specs.Task.{Task, exec_of, timer_of}
use Rattle.sg_activity.specs.Underway.{Underway, gone_on, held, is_computing, is_kept, started}
use Rattle.sg_requests.specs.Requested.{oldest, queue_at, without_requests}
use Rattle.sg_route.specs.Roads.{Roads}
use Rattle.sg_actor_states.specs.declared.state.Actor.{Actor}
use Rattle.sg_actor_states.specs.declared.state.Blocking.{Blocking}
use Rattle.sg_actor_states.specs.declared.state.State.{State}
use Rattle.sg_actor_states.specs.declared.state.State.TheVariants.{Unstarted, Ready, Blocked, Ended}
use Rattle.sg_actor_states.specs.Actors.{actor_at, blocking_in, is_alive, is_ended, is_unstarted, joined_by, not_suspended, put_state, put_suspended, state_at}
use Rattle.sg_sync.specs.Objects as sync
use Rattle.sg_sync.specs.Objects.{Objects, acquired, locked, released, unlocked, waiting}
use Rattle.sg_sync.specs.Queues.{times}
use Rattle.sg_sync.proofs.Counts.{id_same}
use Rattle.sg_sync.proofs.Leaving.{times_stays, waits_nowhere, waits_stays}
use Rattle.sg_mailbox.specs.declared.owners.How.TheVariants as how
use Rattle.sg_mailbox.specs.declared.owners.Whose.{Whose}
use Rattle.sg_mailbox.specs.declared.owners.Whose.TheVariants.{Over, Alone, Posted, Pair}
use Rattle.sg_kernel_calls.specs.declared.stop.Stop.TheVariants.{Budget}
use Rattle.sg_kernel_calls.specs.Answers.{finishes, side_of}
use Rattle.sg_kernel_calls.specs.Calls.{await_alone, answer_of_ask, answered, answered_call, blocks_on, computes, executes, told, with_execution}
use Rattle.sg_kernel_calls.specs.Kills.{awaited, blocked_on, gives_up, gives_up_by, kill_done, kill_stretches, kills, withdrawn}
use Rattle.sg_kernel_calls.specs.Lives.{begins, created, joins_by, with_actor_ended}
use Rattle.sg_kernel_calls.specs.Locks.{joiners_wake}
use Rattle.sg_kernel_calls.specs.Meetings.{receives_by, sends_by}
use Rattle.sg_kernel_calls.specs.Steps.{Step, goes_on, stops, counted, each, all_of, at_once, readied}
use Rattle.sg_kernel_calls.specs.Suspensions.{held_by, held_if, held_on, held_to, suspended_to}
use Rattle.sg_kernel_calls.specs.Setup.{Setup}
use Rattle.sg_kernel_calls.specs.World.{Core, MayCall, host_of, is_suspended, state_of, whose_at, with_suspended}
use Rattle.sg_kernel_calls.proofs.Each.{each_on}
use Rattle.sg_engine_laws.specs.awaits.Awaits.{names}
use Rattle.sg_engine_laws.proofs.await_lemmas.Answered.{after_both, awaited_finish, awaited_joiners}
use Rattle.sg_kernel_laws.proofs.actor_lemmas.Others.{same_marked, same_state}
use Rattle.sg_engine_laws.proofs.await_lemmas.Awaiting.{AreAwaited, Has, IsAwaited, IsCaller, IsFree, JoinsAlone, MayStand, Nobody, awaited_blocked, awaited_put, awaited_ready, caller_is, caller_put, fewer_stand, has_rising, put_there, serials_in}
use Rattle.sg_engine_laws.proofs.await_lemmas.Meeting.{awaited_comes, awaited_cond, awaited_waits}
use Rattle.sg_engine_laws.proofs.await_lemmas.Naming.{awaited_less, awaited_pushed, unnamed}
use Rattle.sg_engine_laws.proofs.await_lemmas.Objects.{acquired_most, awaited_barrier, awaited_first, locked_most, released_most, unlocked_most}
use Rattle.sg_engine_laws.proofs.await_lemmas.Over.{core_after, gives_up_goes, kill_done_goes, is_over}
use Rattle.sg_base.specs.Turn.{actor_of}

-- ---- executions and sleeps
-- phases become others
pub awaited_tasks : (Misses : ActorId → ℕ → Type 0) (going : List ActorId) (under : Underway) (core : Core) → length under.tasks ≡ length core.under.tasks → AreAwaited Misses going core → AreAwaited Misses going (record core { under = under })
awaited_tasks Misses going under core long a = record { numbered = a.numbered ∙ sym long; rooms = a.rooms; named = a.named; held = a.held }

held_long : (on : Bool) (serial : ℕ) (under : Underway) → length (held_to on serial under).tasks ≡ length under.tasks
held_long on serial under = by on
  where
    one : (b : Bool) (turned : Underway) → length turned.tasks ≡ length under.tasks → length (cond b turned under).tasks ≡ length under.tasks
    one true turned long = long
    one false turned long = refl

    by : (on : Bool) → length (held_to on serial under).tasks ≡ length under.tasks
    by true = one (is_computing under serial) (held serial under) (length-set under.tasks (serial - 1) _)
    by false = one (is_kept under serial) (gone_on serial under) (length-set under.tasks (serial - 1) _)

awaited_if : (b : Bool) (serial : ℕ) (core : Core) → AreAwaited Nobody [] core → AreAwaited Nobody [] (held_if b serial core)
awaited_if true serial core a = awaited_tasks Nobody [] (held serial core.under) core (length-set core.under.tasks (serial - 1) _) a
awaited_if false serial core a = a

awaited_begins : (task : Task) (actor : ℕ) (what : Call) (core : Core) → joined_by what ≡ None → IsCaller actor core → AreAwaited Nobody [] core → AreAwaited Nobody [] (blocks_on task actor what core)
awaited_begins task actor what core none caller a =
    awaited_blocked actor what (await_alone (length core.under.tasks + 1)) (record core { under = started task core.under; whose = core.whose ++ Alone (actor_of actor) ∷ [] }) none caller
    (awaited_pushed actor (started task core.under) (Alone (actor_of actor)) core (omega (arith, length-append core.under.tasks (Some task ∷ []))) only a)
  where
    only : (target : ActorId) → (actor == target.0) ≡ true → target.0 ≡ actor
    only target is = grind (arith, is)

awaited_computes : (setup : Setup) (actor flops priority : ℕ) (core : Core) → IsCaller actor core → AreAwaited Nobody [] core → AreAwaited Nobody [] (computes setup actor flops priority core).core
awaited_computes setup actor flops priority core caller a =
    awaited_cond (is_off core.under.on.hosts (host_of setup actor)) (at_once actor (call.Compute flops priority) 0 answer.Failed core) (executes setup actor flops priority core)
    (awaited_ready Nobody [] actor answer.Failed core caller.apart a)
    (awaited_if (is_suspended core actor) (length core.under.tasks + 1) (with_execution setup actor flops priority core)
    (awaited_begins (exec_of (host_of setup actor) flops priority) actor (call.Compute flops priority) core refl caller a))

-- ---- joins and creates
awaited_joins : (ended : Bool) (actor : ℕ) (target : ActorId) (core : Core) → IsCaller actor core → AreAwaited Nobody [] core → AreAwaited Nobody [] (joins_by ended actor target core).core
awaited_joins true actor target core caller a = awaited_ready Nobody [] actor answer.Done core caller.apart a
awaited_joins false actor target core caller a = awaited_put Nobody [] actor (Blocked (call.Join target) core.under.date None) core (λ of e. refl) caller.apart a

unstarted_free : (state : State) → is_unstarted state ≡ true → blocked_on (blocking_in state) ≡ None
unstarted_free Unstarted e = refl
unstarted_free (Ready answer) e = refl
unstarted_free (Blocked what since on) e = absurd (cc e)
unstarted_free Ended e = refl

unstarted_idle : (state : State) (n : ℕ) → is_unstarted state ≡ true → MayStand state n → n ≡ 0
unstarted_idle Unstarted n e may = may
unstarted_idle (Ready answer) n e may = may
unstarted_idle (Blocked what since on) n e may = absurd (cc e)
unstarted_idle Ended n e may = absurd (cc e)

pub awaited_created : (given : Bool) (actor : ℕ) (target : ActorId) (core : Core) → (IsTrue given → IsTrue (is_unstarted (state_of core target.0))) → IsCaller actor core → AreAwaited Nobody [] core → AreAwaited Nobody [] (created given actor target core).core
awaited_created true actor target core fresh caller a =
    awaited_ready Nobody [] actor answer.Done (begins target (counted core)) (caller_put actor target.0 (Ready answer.Start) core refl caller).apart (awaited_ready Nobody [] target.0 answer.Start core free a)
  where
    free : IsFree [] target.0 core
    free = record {
      free = unstarted_free (state_of core target.0) (fresh refl);
      idle = λ other from same. unstarted_idle (state_of core other.0) _ (ap is_unstarted (same_state core.actors other.0 target.0 same) ∙ fresh refl) (a.held.stand other from);
    }
awaited_created false actor target core fresh caller a = awaited_ready Nobody [] actor answer.Refused core caller.apart a

-- ---- suspensions
record Both (actor : ℕ) (core : Core) : Type 0 where
  calls : IsCaller actor core
  awaits : AreAwaited Nobody [] core

both_marked : (actor target : ℕ) (on : Bool) (core : Core) → IsCaller actor core → AreAwaited Nobody [] core → Both actor (with_suspended target on core)
both_marked actor target on core caller a = record {
  calls = record {
    from = caller.from;
    within = omega (arith, caller.within, long);
    apart = record { free = ap (λ s. blocked_on (blocking_in s)) (same_marked core.actors target actor on) ∙ caller.apart.free; idle = caller.apart.idle };
  };
  awaits = record {
    numbered = a.numbered;
    rooms = omega (arith, a.rooms, long);
    named = λ other serial from is. subst (λ s. Has serial (serials_in s (queue_at core.requests other.0)) ⊎ ⊥) (sym (same_marked core.actors target other.0 on)) (a.named other serial from is);
    held = record {
      stand = λ other from. subst (λ s. MayStand s (waiting core.objects other + times other [])) (sym (same_marked core.actors target other.0 on)) (a.held.stand other from);
      real = a.held.real;
      joins = λ other. subst JoinsAlone (sym (same_marked core.actors target other on)) (a.held.joins other);
    };
  };
}
  where
    long : length (put_suspended core.actors target on) ≡ length core.actors
    long = length-set core.actors (target - 1) (record { state = state_at core.actors target; suspended = on })

both_held : (actor : ℕ) (on : Bool) (found : Option Blocking) (core : Core) → Both actor core → Both actor (held_by on found core)
both_held actor on None core b = b
both_held actor on (Some blocking) core b = by blocking.on
  where
    by : (await : Option Await) → Both actor (held_on on await core)
    by None = b
    by (Some await) = record { calls = b.calls; awaits = awaited_tasks Nobody [] (held_to on await.serial.0 core.under) core (held_long on await.serial.0 core.under) b.awaits }

both_suspended : (actor : ℕ) (on : Bool) (target : ActorId) (core : Core) → IsCaller actor core → AreAwaited Nobody [] core → Both actor (suspended_to on target core)
both_suspended actor on target core caller a = by (is_alive (state_of core target.0))
  where
    by : (b : Bool) → Both actor (cond b (held_by on (blocking_in (state_of core target.0)) (with_suspended target.0 on core)) core)
    by true = both_held actor on (blocking_in (state_of core target.0)) (with_suspended target.0 on core) (both_marked actor target.0 on core caller a)
    by false = record { calls = caller; awaits = a }

awaited_suspends : (actor : ℕ) (on : Bool) (target : ActorId) (core : Core) → IsCaller actor core → AreAwaited Nobody [] core → AreAwaited Nobody [] (readied actor answer.Done (suspended_to on target core))
awaited_suspends actor on target core caller a = (let b = both_suspended actor on target core caller a in awaited_ready Nobody [] actor answer.Done (suspended_to on target core) b.calls.apart b.awaits)

-- ---- kills
pub withdrawn_fewer : (o : Objects) (target other : ActorId) → waiting (sync.after_withdrawal target o) other ≤ waiting o other
withdrawn_fewer o target other = elim (cases_eq other.0 target.0) [
  | inl same ↦ (let none : waiting (sync.after_withdrawal target o) other ≡ 0 = ap (waiting (sync.after_withdrawal target o)) (id_same other target same) ∙ waits_nowhere o target in omega (arith, none))
  | inr differs ↦ omega (arith, waits_stays target other o.locking differs, waits_stays target other o.acquiring differs, times_stays target other o.arrived differs)
]

-- what it awaited is missed
awaited_withdrawn : (target : ActorId) (core : Core) → AreAwaited Nobody [] core → AreAwaited (λ other serial. Has serial (awaited target core)) [] (withdrawn target core)
awaited_withdrawn target core a = record {
  numbered = a.numbered;
  rooms = omega (arith, a.rooms, length-set core.actors (target.0 - 1) ended, length-set core.requests (target.0 - 1) none);
  named = λ other serial from is. by other serial (cases_eq (other.0 - 1) (target.0 - 1)) (a.named other serial from is);
  held = record {
    stand = λ other from.
        put_there (λ state. MayStand state (waiting (sync.after_withdrawal target core.objects) other + times other [])) core.actors target.0 other.0 Ended (λ same. tt)
        (fewer_stand (state_of core other.0) (waiting core.objects other + times other []) (waiting (sync.after_withdrawal target core.objects) other + times other []) (omega (arith, withdrawn_fewer core.objects target other)) (a.held.stand other from));
    real = λ other zero. omega (arith, withdrawn_fewer core.objects target other, a.held.real other zero);
    joins = λ other. put_there JoinsAlone core.actors target.0 other Ended (λ same of e. refl) (a.held.joins other);
  };
}
  where
    none : List Await
    none = []

    ended : Actor
    ended = record { state = Ended; suspended = (actor_at core.actors target.0).suspended }

    Left : ActorId → ℕ → Type 0
    Left other serial = IsAwaited (put_state core.actors target.0 Ended) (without_requests core.requests target.0) other serial ⊎ Has serial (awaited target core)

    by : (other : ActorId) (serial : ℕ) → (other.0 - 1 ≡ target.0 - 1) ⊎ (other.0 - 1 ≡ target.0 - 1 → ⊥) → IsAwaited core.actors core.requests other serial ⊎ Nobody other serial → Left other serial
    by other serial (inl same) (inl h) =
        inr (has_rising serial (serials_in (state_of core target.0) (queue_at core.requests target.0))
        (subst (λ i. Has serial (serials_in (get_or core.actors i (not_suspended Ended)).state (get_or core.requests i []))) same h))
    by other serial (inr apart) (inl h) =
        let state : state_at (put_state core.actors target.0 Ended) other.0 ≡ state_of core other.0 = ap (λ (x : Actor). x.state) (get_or-set_other core.actors (target.0 - 1) (other.0 - 1) ended (not_suspended Ended) apart) in
        let queue : queue_at (without_requests core.requests target.0) other.0 ≡ queue_at core.requests other.0 = get_or-set_other core.requests (target.0 - 1) (other.0 - 1) none none apart in
        inl (subst (λ s. Has serial (serials_in s (queue_at (without_requests core.requests target.0) other.0))) (sym state) (subst (λ q. Has serial (serials_in (state_of core other.0) q)) (sym queue) h))
    by other serial either (inr missed) = absurd missed

awaited_given_up : (serial : ℕ) (rest : List ℕ) (core : Core) → AreAwaited (λ other n. Has n (serial ∷ rest)) [] core → AreAwaited (λ other n. Has n rest) [] (gives_up serial core).core
awaited_given_up serial rest core a = by (whose_at core serial) refl
  where
    fails : AreAwaited (λ other n. Has n rest) [] (finishes how.Failed serial core).core
    fails = awaited_finish (λ other n. Has n (serial ∷ rest)) (λ other n. Has n rest) [] how.Failed serial core (λ other n h. h) a

    less : is_over (whose_at core serial) ≡ true → (other : ActorId) (n : ℕ) → IsTrue (names other (whose_at core n)) → Has n (serial ∷ rest) → Has n rest
    less over other n is (inl same) = absurd (unnamed other (whose_at core n) (ap (λ k. is_over (whose_at core k)) same ∙ over) is)
    less over other n is (inr h) = h

    by : (whose : Whose) → whose_at core serial ≡ whose → AreAwaited (λ other n. Has n rest) [] (gives_up_by whose serial core).core
    by (Over before) e = awaited_less (λ other n. Has n (serial ∷ rest)) (λ other n. Has n rest) [] core (less (ap is_over e)) a
    by (Alone actor) e = fails
    by (Posted mailbox sends side) e = fails
    by (Pair sender receiver) e = fails

all_given_up : (serials : List ℕ) (core : Core) → AreAwaited (λ other n. Has n serials) [] core → AreAwaited Nobody [] (each gives_up serials core).core
unfolding each
all_given_up [] core a = a
all_given_up (serial ∷ rest) core a =
    subst (AreAwaited Nobody []) (sym (core_after (gives_up serial core) (each gives_up rest) (gives_up_goes serial core))) (all_given_up rest (gives_up serial core).core (awaited_given_up serial rest core a))

awaited_kills : (actor : ℕ) (target : ActorId) (core : Core) → IsCaller actor core → AreAwaited Nobody [] core → AreAwaited Nobody [] (kills actor target core).core
unfolding all_of
awaited_kills actor target core caller a =
    awaited_cond (is_alive (state_of core target.0)) (all_of (kill_stretches actor target serials) start) (at_once actor (call.Kill target) 0 answer.Done core)
    (subst (AreAwaited Nobody []) (sym (core_after told (all_of (each gives_up serials ∷ joiners_wake target.0 ∷ [])) (kill_done_goes actor target start)))
    (subst (AreAwaited Nobody []) (sym (core_after (each gives_up serials told.core) (all_of (joiners_wake target.0 ∷ [])) (each_on gives_up gives_up_goes serials told.core)))
    (after_both (AreAwaited Nobody []) (joiners_wake target.0 late) (all_of []) (awaited_joiners target.0 late (all_given_up serials told.core (telling (actor == target.0)))) (λ last. last))))
    (awaited_ready Nobody [] actor answer.Done core caller.apart a)
  where
    serials : List ℕ
    serials = awaited target core

    Misses : ActorId → ℕ → Type 0
    Misses other n = Has n serials

    start : Core
    start = withdrawn target core

    told : Step
    told = kill_done actor target start

    late : Core
    late = (each gives_up serials told.core).core

    free : IsFree [] actor start
    free = record {
      free = put_there (λ state. blocked_on (blocking_in state) ≡ None) core.actors target.0 actor Ended (λ same. refl) caller.apart.free;
      idle = λ other from same. omega (arith, withdrawn_fewer core.objects target other, caller.apart.idle other from same);
    }

    telling : (b : Bool) → AreAwaited Misses [] (cond b (goes_on start []) (at_once actor (call.Kill target) 0 answer.Done start)).core
    telling true = awaited_withdrawn target core a
    telling false = awaited_ready Misses [] actor answer.Done start free (awaited_withdrawn target core a)

-- ---- any call
awaited_call : (roads : Roads) (setup : Setup) (core : Core) (actor : ℕ) (what : Call) → IsCaller actor core → AreAwaited Nobody [] core → AreAwaited Nobody [] (answered_call roads setup core actor what).core
awaited_call roads setup core actor call.Ask caller a = awaited_ready Nobody [] actor answer.Refused core caller.apart a
awaited_call roads setup core actor (call.Compute n p) caller a = awaited_computes setup actor n p (counted core) caller a
awaited_call roads setup core actor (call.Sleep n) caller a = awaited_begins (timer_of n) actor (call.Sleep n) (counted core) refl caller a
awaited_call roads setup core actor (call.Send b n m r) caller a = awaited_comes roads setup (sends_by (side_of actor n m r) (call.Send b n m r) true b) core refl caller a
awaited_call roads setup core actor (call.Recv b) caller a = awaited_comes roads setup (receives_by actor (call.Recv b) true b) core refl caller a
awaited_call roads setup core actor (call.ISend b n m r) caller a = awaited_comes roads setup (sends_by (side_of actor n m r) (call.ISend b n m r) false b) core refl caller a
awaited_call roads setup core actor (call.IRecv b) caller a = awaited_comes roads setup (receives_by actor (call.IRecv b) false b) core refl caller a
awaited_call roads setup core actor call.Wait caller a = awaited_waits (oldest (queue_at core.requests actor)) actor (counted core) refl caller a
awaited_call roads setup core actor (call.Lock n) caller a = awaited_first (locked (actor_of actor) n core.objects) actor (call.Lock n) (counted core) refl (locked_most core.objects (actor_of actor) n) caller a
awaited_call roads setup core actor (call.Unlock n) caller a = awaited_first (unlocked (actor_of actor) n core.objects) actor (call.Unlock n) (counted core) refl (unlocked_most core.objects (actor_of actor) n) caller a
awaited_call roads setup core actor (call.Acquire n) caller a = awaited_first (acquired (actor_of actor) n core.objects) actor (call.Acquire n) (counted core) refl (acquired_most core.objects (actor_of actor) n) caller a
awaited_call roads setup core actor (call.Release n) caller a = awaited_first (released n core.objects) actor (call.Release n) (counted core) refl (released_most core.objects (actor_of actor) n) caller a
awaited_call roads setup core actor call.Barrier caller a = awaited_barrier actor call.Barrier (counted core) refl caller a
awaited_call roads setup core actor (call.Create n) caller a = awaited_ready Nobody [] actor answer.Refused core caller.apart a
awaited_call roads setup core actor (call.Join n) caller a = awaited_joins (is_ended (state_of core n.0)) actor n (counted core) caller a
awaited_call roads setup core actor (call.Kill n) caller a = awaited_kills actor n (counted core) caller a
awaited_call roads setup core actor (call.Suspend n) caller a = awaited_suspends actor true n (counted core) caller a
awaited_call roads setup core actor (call.Resume n) caller a = awaited_suspends actor false n (counted core) caller a
awaited_call roads setup core actor call.Yield caller a = awaited_ready Nobody [] actor answer.Done core caller.apart a
awaited_call roads setup core actor call.Exit caller a = awaited_joiners actor (with_actor_ended actor (counted core)) (awaited_put Nobody [] actor Ended core (λ target e. refl) caller.apart a)

pub awaited_answered : (roads : Roads) (setup : Setup) (core : Core) (actor : ℕ) (what : Call) → MayCall core actor → AreAwaited Nobody [] core → AreAwaited Nobody [] (answered roads setup core actor what).core
awaited_answered roads setup core actor what may a =
    awaited_cond (core.events == setup.budget) (stops core [] Budget) (answered_call roads setup core actor what) a (awaited_call roads setup core actor what (caller_is Nobody actor core may a) a)

pub awaited_told : (setup : Setup) (core : Core) (actor : ℕ) (action : Option Action) → MayCall core actor → AreAwaited Nobody [] core → AreAwaited Nobody [] (told setup core actor action).core
awaited_told setup core actor action may a =
    awaited_cond (core.events == setup.budget) (stops core [] Budget) (goes_on (readied actor (answer_of_ask action) (counted core)) []) a
    (awaited_ready Nobody [] actor (answer_of_ask action) core (caller_is Nobody actor core may a).apart a)
