-- Who waits at an object before a call, after it, and once all are answered.
use Rattle.std.proofs.Common.{◌≡◌, ◌≢◌, ℕ, ◌+◌, ◌-◌, ◌^◌, ◌<◌, ◌≤◌, true≢false, false, IsTrue, Option, None, Some, List, [], length, eqb, nat_lt, set, get_or, inl, inr, refl, sym, subst, ap, ◌∙◌, arith}
use Rattle.std.specs.Prelude.{All, Contains}
use Rattle.std.proofs.lemmas.Bool.{cases_Bool, cases_eq, cases_lt}
use Rattle.std.proofs.lemmas.List.{length-set}
use Rattle.std.proofs.lemmas.List.Elements.{All-set}
use Rattle.std.proofs.lemmas.List.Sums.{get_or-le-sum_by}
use Rattle.sg_base.specs.declared.ids.ActorId.{ActorId}
use Rattle.sg_base.specs.Limits.{IsActorIn}
use Rattle.sg_sync.specs.declared.outcome.Outcome.{Outcome}
use Rattle.sg_sync.specs.declared.outcome.Outcome.TheVariants.{GoesOn, Waits, Refused}
use Rattle.sg_sync.specs.Laws.{KeepsAll, comers}
use Rattle.sg_sync.specs.Objects.{Objects, Done, waiting, owner_of, count_of, locked, locked_by, unlocked, unlocked_by, acquired, released, released_to, arrived}
use Rattle.sg_sync.specs.Sync.{Does, SyncState}
use Rattle.sg_sync.specs.Queues.{front, queue_at, times}
use Rattle.sg_sync.proofs.Counts.{one, one_same, one_other, times_cons}
use Rattle.sg_kernel_calls.specs.declared.simulation_state.Fields.{Fields}
use Rattle.sg_actor_states.specs.declared.state.State.{State}
use Rattle.sg_actor_states.specs.declared.state.State.TheVariants.{Unstarted, Ready, Blocked, Ended}
use Rattle.sg_kernel_calls.specs.Setup.{Setup}
use Rattle.sg_kernel_calls.specs.World.{IsActor, MayCall, extent, state_of}
use Rattle.sg_actor_states.specs.declared.state.Actor.{Actor}
use Rattle.sg_actor_states.specs.Actors.{is_answered, put_state, state_at}
use Rattle.sg_kernel_calls.specs.kept.Sound.{core_of, is_queued, IsSound, AreHeld}
use Rattle.sg_kernel_calls.specs.kept.Waking.{AreWaking}
use Rattle.sg_kernel_calls.specs.kept.Whole.{IsFresh}
use Rattle.sg_kernel_calls.proofs.Stated.{state_other}

-- ---- who is blocked, and who is to be unblocked
pub still_held : (actors : List Actor) (a b : ActorId) (s : State) → 0 < a.0 → 0 < b.0 → b.0 ≢ a.0 → IsTrue (is_queued (state_at actors b.0)) → IsTrue (is_queued (state_at (put_state actors a.0 s) b.0))
still_held actors a b s some one apart held =
    ap is_queued (state_other actors a.0 b.0 s some one apart) ∙ held

-- one that waits at no object gets any state
pub others_held : (actors : List Actor) (a b : ActorId) (s : State) → 0 < a.0 → 0 < b.0 → is_queued (state_at actors a.0) ≡ false → IsTrue (is_queued (state_at actors b.0)) → IsTrue (is_queued (state_at (put_state actors a.0 s) b.0))
others_held actors a b s some one isnt held = elim (cases_eq b.0 a.0) [
  | inl same ↦ absurd (true≢false (sym held ∙ ap (λ k. is_queued (state_at actors k)) same ∙ isnt))
  | inr apart ↦ still_held actors a b s some one apart held
]

times_some : (actor : ActorId) (queue : List ActorId) → Contains queue actor → 0 < times actor queue
times_some actor queue has =
    let here : one actor (get_or queue has.0 actor) ≤ times actor queue = get_or-le-sum_by (one actor) queue has.0 actor has.1 in
    omega (arith, here, one_same actor (get_or queue has.0 actor) (ap (λ (a : ActorId). a.0) has.2))

comes_alone : (caller actor : ActorId) (outcome : Outcome) → actor.0 ≢ caller.0 → times actor (comers caller outcome) ≡ 0
comes_alone caller actor GoesOn apart = refl
comes_alone caller actor Refused apart = refl
comes_alone caller actor Waits apart = omega (arith, times_cons actor caller [], one_other actor caller (λ e. apart (sym e)))

comes_once : (caller actor : ActorId) (outcome : Outcome) → times actor (comers caller outcome) ≤ 1
comes_once caller actor GoesOn = omega arith
comes_once caller actor Refused = omega arith
comes_once caller actor Waits = elim (cases_eq actor.0 caller.0) [
  | inl same ↦ omega (arith, times_cons actor caller [], one_same actor caller (sym same))
  | inr apart ↦ omega (arith, comes_alone caller actor Waits apart)
]

actor_in : (fields : Fields) (actor : ActorId) → IsSound fields → IsActorIn (extent fields.setup) actor → IsActor (core_of fields) actor.0
actor_in fields actor sound is = record { from = is.0; to = omega (arith, is.1, sound.homes_known) }

pub wakers_exist : (fields : Fields) (caller : ActorId) (outcome : Outcome) (others : List ActorId) → IsSound fields → MayCall (core_of fields) caller.0 → AreWaking fields (comers caller outcome) others → (actor : ActorId) → Contains others actor → IsActor (core_of fields) actor.0
wakers_exist fields caller outcome others sound may waking actor has = elim (cases_eq actor.0 caller.0) [
  | inl same ↦ record { from = omega (arith, same, may.from); to = omega (arith, same, may.to) }
  | inr apart ↦ actor_in fields actor sound (waking.held actor (omega (arith, comes_alone caller actor outcome apart, times_some actor others has))).0
]

pub answered_wakers : (fields : Fields) (others : List ActorId) → IsSound fields → AreWaking fields [] others → (actor : ActorId) → Contains others actor → IsActor (core_of fields) actor.0
answered_wakers fields others sound waking actor has = actor_in fields actor sound (waking.held actor (omega (arith, times_some actor others has))).0

-- once all are answered
pub held_again : (fields : Fields) → AreWaking fields [] [] → AreHeld fields
held_again fields waking = record {
  owners = waking.owners;
  counts = waking.counts;
  actors = waking.actors;
  few = waking.few;
  once = λ actor. omega (arith, waking.once actor);
  held = λ actor some. waking.held actor (omega (arith, some));
  locking = waking.locking;
  acquiring = waking.acquiring;
}

-- ---- the call itself
-- what a call on objects keeps of their number, and how much its counts grow
pub record IsLike (before after : Objects) : Type 0 where
  pub owners : length after.owners ≡ length before.owners
  pub counts : length after.counts ≡ length before.counts
  pub actors : after.actors ≡ before.actors
  pub few : (bound : ℕ) → All (λ count. count ≤ bound) before.counts → All (λ count. count ≤ bound + 1) after.counts
  pub locking : length after.locking ≡ length before.locking
  pub acquiring : length after.acquiring ≡ length before.acquiring

few_more : (bound : ℕ) (counts : List ℕ) → All (λ count. count ≤ bound) counts → All (λ count. count ≤ bound + 1) counts
few_more bound counts few k d within = omega (arith, few k d within)

like_same : (o : Objects) → IsLike o o
like_same o = record { owners = refl; counts = refl; actors = refl; few = λ bound few. few_more bound o.counts few; locking = refl; acquiring = refl }

lock_like : (owner : Option ActorId) (actor : ActorId) (mutex : ℕ) (o : Objects) → IsLike o (locked_by owner actor mutex o).after
lock_like None actor mutex o = record { owners = length-set o.owners mutex (Some actor); counts = refl; actors = refl; few = λ bound few. few_more bound o.counts few; locking = refl; acquiring = refl }
lock_like (Some owner) actor mutex o = record { owners = refl; counts = refl; actors = refl; few = λ bound few. few_more bound o.counts few; locking = length-set o.locking mutex _; acquiring = refl }

pub locked_like : (actor : ActorId) (mutex : ℕ) (o : Objects) → IsLike o (locked actor mutex o).after
locked_like actor mutex o = lock_like (owner_of o mutex) actor mutex o

unlock_like : (owner : Option ActorId) (actor : ActorId) (mutex : ℕ) (o : Objects) → IsLike o (unlocked_by owner actor mutex o).after
unlock_like None actor mutex o = like_same o
unlock_like (Some owner) actor mutex o = elim (cases_Bool (eqb owner.0 actor.0)) [
  | inl is ↦ rw is (record { owners = length-set o.owners mutex _; counts = refl; actors = refl; few = λ bound few. few_more bound o.counts few; locking = length-set o.locking mutex _; acquiring = refl })
  | inr isnt ↦ rw isnt (like_same o)
]

pub unlocked_like : (actor : ActorId) (mutex : ℕ) (o : Objects) → IsLike o (unlocked actor mutex o).after
unlocked_like actor mutex o = unlock_like (owner_of o mutex) actor mutex o

-- a count that is put in
few_set : (bound : ℕ) (counts : List ℕ) (at n : ℕ) → n ≤ bound + 1 → All (λ count. count ≤ bound) counts → All (λ count. count ≤ bound + 1) (set counts at n)
few_set bound counts at n small few = All-set (λ count. count ≤ bound + 1) counts at n small (few_more bound counts few)

pub count_few : (bound : ℕ) (o : Objects) (semaphore : ℕ) → semaphore < length o.counts → All (λ count. count ≤ bound) o.counts → count_of o semaphore ≤ bound
count_few bound o semaphore within few = few semaphore 0 within

pub acquired_like : (actor : ActorId) (semaphore : ℕ) (o : Objects) → semaphore < length o.counts → IsLike o (acquired actor semaphore o).after
acquired_like actor semaphore o within = elim (cases_Bool (nat_lt 0 (count_of o semaphore))) [
  | inl some ↦ rw some (record {
    owners = refl;
    counts = length-set o.counts semaphore _;
    actors = refl;
    few = λ bound few. few_set bound o.counts semaphore (count_of o semaphore - 1) (omega (arith, count_few bound o semaphore within few)) few;
    locking = refl;
    acquiring = refl;
  })
  | inr none ↦ rw none (record { owners = refl; counts = refl; actors = refl; few = λ bound few. few_more bound o.counts few; locking = refl; acquiring = length-set o.acquiring semaphore _ })
]

release_like : (first : Option ActorId) (semaphore : ℕ) (o : Objects) → semaphore < length o.counts → IsLike o (released_to first semaphore o).after
release_like None semaphore o within = record {
  owners = refl;
  counts = length-set o.counts semaphore _;
  actors = refl;
  few = λ bound few. few_set bound o.counts semaphore (count_of o semaphore + 1) (omega (arith, count_few bound o semaphore within few)) few;
  locking = refl;
  acquiring = refl;
}
release_like (Some first) semaphore o within = record { owners = refl; counts = refl; actors = refl; few = λ bound few. few_more bound o.counts few; locking = refl; acquiring = length-set o.acquiring semaphore _ }

pub released_like : (semaphore : ℕ) (o : Objects) → semaphore < length o.counts → IsLike o (released semaphore o).after
released_like semaphore o within = release_like (front (queue_at o.acquiring semaphore)) semaphore o within

pub arrived_like : (actor : ActorId) (o : Objects) → IsLike o (arrived actor o).after
arrived_like actor o = elim (cases_Bool (nat_lt (length o.arrived + 1) o.members)) [
  | inl few ↦ rw few (record { owners = refl; counts = refl; actors = refl; few = λ bound few. few_more bound o.counts few; locking = refl; acquiring = refl })
  | inr all ↦ rw all (record { owners = refl; counts = refl; actors = refl; few = λ bound few. few_more bound o.counts few; locking = refl; acquiring = refl })
]

-- a ready actor waits nowhere
pub caller_free : (fields : Fields) (actor : ActorId) → MayCall (core_of fields) actor.0 → AreHeld fields → waiting fields.objects.objects actor ≡ 0
caller_free fields actor may held = elim (cases_lt 0 (waiting fields.objects.objects actor)) [
  | inl some ↦ absurd (never (state_of (core_of fields) actor.0) may.ready (held.held actor some).1)
  | inr none ↦ omega (arith, none)
]
  where
    never : (s : State) → IsTrue (is_answered s) → IsTrue (is_queued s) → ⊥
    never Unstarted ready held = true≢false (sym ready)
    never (Ready a) ready held = true≢false (sym held)
    never (Blocked what since on) ready held = true≢false (sym ready)
    never Ended ready held = true≢false (sym ready)

once_with : (o : Objects) (caller actor : ActorId) (outcome : Outcome) → waiting o caller ≡ 0 → waiting o actor ≤ 1 → waiting o actor + times actor (comers caller outcome) ≤ 1
once_with o caller actor outcome free once = elim (cases_eq actor.0 caller.0) [
  | inl same ↦ omega (arith, comes_once caller actor outcome, free, ap (λ (n : ℕ). waiting o (record { 0 = n })) same)
  | inr apart ↦ omega (arith, comes_alone caller actor outcome apart, once)
]

-- the call leaves some that are to be unblocked, and perhaps one that comes to wait
pub waking_after : (old fields : Fields) (actor : ActorId) (done : Done) → MayCall (core_of old) actor.0 → IsFresh old → AreHeld old → KeepsAll actor old.objects.objects done → IsLike old.objects.objects done.after → fields.objects.objects ≡ done.after →
    fields.setup ≡ old.setup → fields.states.actors ≡ old.states.actors → fields.events ≡ old.events →
    AreWaking fields (comers actor done.outcome) done.woken
waking_after old fields actor done may fresh held keeps like is setup states events =
    let mutexes = ap (λ (s : Setup). s.mutexes) setup in
    let semaphores = ap (λ (s : Setup). length s.semaphores) setup in
    let free = caller_free old actor may held in
    record {
      owners = ap (λ (o : Objects). length o.owners) is ∙ like.owners ∙ held.owners ∙ sym mutexes;
      counts = ap (λ (o : Objects). length o.counts) is ∙ like.counts ∙ held.counts ∙ sym semaphores;
      actors = ap (λ (o : Objects). o.actors) is ∙ like.actors ∙ held.actors ∙ sym (ap length states);
      few = λ k d within. omega (arith, like.few (10 ^ 9 + old.events - 1) (λ k d within. omega (arith, fresh.counts k d within)) k d (omega (arith, within, ap (λ (o : Objects). length o.counts) is)), ap (λ (o : Objects). get_or o.counts k d) is, events);
      once = λ b. omega (arith, keeps b, once_with old.objects.objects actor b done.outcome free (held.once b), ap (λ (o : Objects). waiting o b) is);
      held = λ b some.
          let was = held.held b (omega (arith, some, keeps b, ap (λ (o : Objects). waiting o b) is)) in
          ((was.0.0, omega (arith, was.0.1, ap (λ (s : Setup). length s.homes) setup)), ap (λ (xs : List Actor). is_queued (state_at xs b.0)) states ∙ was.1);
      locking = ap (λ (o : Objects). length o.locking) is ∙ like.locking ∙ held.locking ∙ sym mutexes;
      acquiring = ap (λ (o : Objects). length o.acquiring) is ∙ like.acquiring ∙ held.acquiring ∙ sym semaphores;
    }

pub waking_called : (old : Fields) (objects : SyncState) (outcome : Outcome) (actor : ActorId) (done : Done) → MayCall (core_of old) actor.0 → IsFresh old → AreHeld old → KeepsAll actor old.objects.objects done → IsLike old.objects.objects done.after
    → Does done outcome objects → AreWaking (record old { objects = objects }) (comers actor outcome) objects.others
waking_called old objects outcome actor done may fresh held keeps like does =
    let now = record old { objects = objects } in
    let waking = waking_after old now actor done may fresh held keeps like does.objects refl refl refl in
    let first = subst (λ (o : Outcome). AreWaking now (comers actor o) done.woken) (sym does.outcome) waking in
    subst (λ (q : List ActorId). AreWaking now (comers actor outcome) q) (sym does.others) first
