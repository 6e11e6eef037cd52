-- What names an actor is awaited by it, as activities are over and as those that are blocked are answered.
use Rattle.std.proofs.Common.{◌≡◌, ◌⊎◌, ℕ, suc, ◌+◌, ◌-◌, ◌<◌, ◌≤◌, ◌==◌, ◌&&◌, Bool, true, false, true≢false, cond, IsTrue, inl, inr, Option, None, Some, option_to_list, List, [], ◌∷◌, ◌++◌, map, get_or, refl, sym, ap, subst, ◌∙◌, arith}
use Rattle.std.specs.List.{All}
use Rattle.std.proofs.lemmas.Bool.{cases_eq}
use Rattle.std.proofs.lemmas.List.Elements.{All-nil, All-cons, All-head, All-tail}
use Rattle.sg_base.specs.declared.awaits.Await.{Await}
use Rattle.sg_base.specs.declared.awaits.Party.{Party}
use Rattle.sg_base.specs.declared.awaits.Party.TheVariants as party
use Rattle.sg_base.specs.declared.call.Answer.{Answer}
use Rattle.sg_base.specs.declared.call.Answer.TheVariants as answer
use Rattle.sg_base.specs.declared.ids.ActorId.{ActorId}
use Rattle.sg_mailbox.specs.declared.sides.Side.{Side}
use Rattle.sg_requests.specs.Requested.{queue_at, serial_of}
use Rattle.sg_actor_states.specs.declared.state.Actor.{Actor}
use Rattle.sg_actor_states.specs.declared.state.Blocking.{Blocking}
use Rattle.sg_actor_states.specs.declared.state.State.{State}
use Rattle.sg_actor_states.specs.declared.state.State.TheVariants.{Unstarted, Ready, Blocked, Ended}
use Rattle.sg_actor_states.specs.Actors.{blocking_in, is_id, joined_by, joined_in, joiners, joins, not_suspended, state_at}
use Rattle.sg_sync.specs.Objects.{Objects, waiting}
use Rattle.sg_sync.specs.Queues.{times}
use Rattle.sg_sync.proofs.Counts.{id_same, one_same, times_cons}
use Rattle.sg_mailbox.specs.declared.owners.How.{How}
use Rattle.sg_mailbox.specs.declared.owners.Whose.{Whose}
use Rattle.sg_mailbox.specs.declared.owners.Whose.TheVariants.{Over, Alone, Posted, Pair}
use Rattle.sg_kernel_calls.specs.declared.stop.Stop.{Stop}
use Rattle.sg_kernel_calls.specs.Answers.{answer_to, answers, answers_by, answers_side, bare_side, finishes, for_receiver, awaits_side, party_eq, tells_bytes, with_over}
use Rattle.sg_kernel_calls.specs.Kills.{blocked_on}
use Rattle.sg_kernel_calls.specs.Locks.{all_wake, joiners_wake, wakes, wakes_from}
use Rattle.sg_kernel_calls.specs.Steps.{Step, goes_on, follows, and_then, each, replied}
use Rattle.sg_kernel_calls.specs.World.{Core, state_of, whose_at, with_state}
use Rattle.sg_engine_laws.specs.awaits.Awaits.{names}
use Rattle.sg_kernel_laws.proofs.actor_lemmas.Others.{same_state}
use Rattle.sg_engine_laws.proofs.await_lemmas.Awaiting.{AreAwaited, AreHeld, Has, IsAwaited, IsCaller, IsFree, JoinsAlone, MayStand, Nobody, awaited_ready, caller_put, fewer_stand, places_for, put_long, put_there, serials_in}
use Rattle.sg_kernel_laws.proofs.actor_lemmas.Kept.{Replying, one_made, side_kept, wake_kept}
use Rattle.sg_engine_laws.proofs.await_lemmas.Over.{IsGone, anything, gone_replying, over_there, over_unnamed}
use Rattle.sg_engine_laws.proofs.await_lemmas.Naming.{awaited_over}

-- what holds after the first step, if it stops, holds after both
pub after_both : (P : Core → Type 0) (first : Step) (next : Core → Step) → P first.core → (P first.core → P (next first.core).core) → P (and_then first next).core
after_both P first next p more = by first.stop
  where
    by : (o : Option Stop) → P (follows o first (next first.core)).core
    by None = more p
    by (Some why) = p

pub caller_replying : (actor : ℕ) → Replying (IsCaller actor) anything
caller_replying actor = record { replies = λ other blocking bytes given core is caller. one_made (IsCaller actor) anything _ _ (caller_put actor other (Ready given) core refl caller) tt }

-- ---- an activity ends
-- an actor that is blocked on one that ended is unblocked
record IsOn (serial : ℕ) (on : Option Await) : Type 0 where
  side : Await
  is : on ≡ Some side
  of : side.serial.0 ≡ serial

on_is : (serial : ℕ) (side : Party) (on : Option Await) → awaits_side serial side on ≡ true → IsOn serial on
on_is serial side None e = absurd (cc e)
on_is serial side (Some on) e = record { side = on; is = refl; of = by (on.serial.0 == serial) refl e }
  where
    by : (b : Bool) → (on.serial.0 == serial) ≡ b → (b && party_eq on.party side) ≡ true → on.serial.0 ≡ serial
    by true same e = grind (arith, same)
    by false same e = absurd (cc e)

on_idle : (state : State) (on : Await) (n : ℕ) → blocked_on (blocking_in state) ≡ Some on → MayStand state n → n ≡ 0
on_idle Unstarted on n e may = may
on_idle (Ready answer) on n e may = may
on_idle (Blocked what since None) on n e may = absurd (cc e)
on_idle (Blocked what since (Some other)) on n e may = omega (arith, may)
on_idle Ended on n e may = absurd (cc e)

awaited_done : (Misses : ActorId → ℕ → Type 0) (going : List ActorId) (actor : ℕ) (on : Await) (given : Answer) (core : Core) → blocked_on (blocking_in (state_of core actor)) ≡ Some on → IsGone on.serial.0 core → AreAwaited Misses going core → AreAwaited Misses going (with_state actor (Ready given) core)
awaited_done Misses going actor on given core blocked gone a = record {
  numbered = a.numbered;
  rooms = omega (arith, a.rooms, put_long core.actors actor (Ready given));
  named = λ other serial from is.
      put_there (λ state. Has serial (serials_in state (queue_at core.requests other.0)) ⊎ Misses other serial) core.actors actor other.0 (Ready given)
      (λ same. by other serial is (on_too other same) (a.named other serial from is)) (a.named other serial from is);
  held = record {
    stand = λ other from.
        put_there (λ state. MayStand state (waiting core.objects other + times other going)) core.actors actor other.0 (Ready given)
        (λ same. on_idle (state_of core other.0) on _ (on_too other same) (a.held.stand other from)) (a.held.stand other from);
    real = a.held.real;
    joins = λ other. put_there JoinsAlone core.actors actor other (Ready given) (λ same target e. refl) (a.held.joins other);
  };
}
  where
    on_too : (other : ActorId) → other.0 - 1 ≡ actor - 1 → blocked_on (blocking_in (state_of core other.0)) ≡ Some on
    on_too other same = ap (λ s. blocked_on (blocking_in s)) (same_state core.actors other.0 actor same) ∙ blocked

    left : (other : ActorId) (serial : ℕ) (queue : List Await) → IsTrue (names other (whose_at core serial)) → Has serial (on.serial.0 ∷ map serial_of queue) → Has serial (map serial_of queue)
    left other serial queue is (inl same) = absurd (true≢false (sym is ∙ over_unnamed other (whose_at core serial) (subst (λ n. IsGone n core) (sym same) gone)))
    left other serial queue is (inr h) = h

    by : (other : ActorId) (serial : ℕ) → IsTrue (names other (whose_at core serial)) → blocked_on (blocking_in (state_of core other.0)) ≡ Some on → IsAwaited core.actors core.requests other serial ⊎ Misses other serial → Has serial (serials_in (Ready given) (queue_at core.requests other.0)) ⊎ Misses other serial
    by other serial is e (inl h) = inl (left other serial (queue_at core.requests other.0) is (subst (λ (o : Option Await). Has serial (map serial_of (option_to_list o ++ queue_at core.requests other.0))) e h))
    by other serial is e (inr missed) = inr missed

pub awaited_side : (Misses : ActorId → ℕ → Type 0) (going : List ActorId) (over : How) (serial : ℕ) (side : Party) (given : Side) (core : Core) → IsGone serial core → AreAwaited Misses going core → AreAwaited Misses going (answers_side over serial side given core).core
awaited_side Misses going over serial side given core gone a = by (blocking_in (state_of core given.actor.0)) refl
  where
    on : (blocking : Blocking) → blocking_in (state_of core given.actor.0) ≡ Some blocking → (b : Bool) → awaits_side serial side blocking.on ≡ b
        → AreAwaited Misses going (cond b (replied given.actor.0 blocking.what blocking.since (cond (tells_bytes blocking.what) given.bytes 0) (answer_to over blocking.what given.msg) core) (goes_on core [])).core
    on blocking e true there =
        let at : IsOn serial blocking.on = on_is serial side blocking.on there in
        awaited_done Misses going given.actor.0 at.side (answer_to over blocking.what given.msg) core (ap blocked_on e ∙ at.is) (subst (λ n. IsGone n core) (sym at.of) gone) a
    on blocking e false there = a

    by : (found : Option Blocking) → blocking_in (state_of core given.actor.0) ≡ found → AreAwaited Misses going (answers_by over serial side given found core).core
    by None e = a
    by (Some blocking) e = on blocking e (awaits_side serial side blocking.on) refl

pub awaited_finish : (Misses Less : ActorId → ℕ → Type 0) (going : List ActorId) (over : How) (serial : ℕ) (core : Core) → ((target : ActorId) (other : ℕ) → Misses target other → (other ≡ serial) ⊎ Less target other) → AreAwaited Misses going core → AreAwaited Less going (finishes over serial core).core
awaited_finish Misses Less going over serial core so before = by (whose_at core serial)
  where
    mid : Core
    mid = with_over over serial core

    a : AreAwaited Less going mid
    a = awaited_over Misses Less going over serial core so before

    gone : IsGone serial mid
    gone = over_there core.whose (serial - 1) over

    by : (whose : Whose) → AreAwaited Less going (answers over serial whose mid).core
    by (Over before) = a
    by (Alone actor) = awaited_side Less going over serial party.Alone (bare_side actor.0) mid gone a
    by (Posted mailbox sends side) = a
    by (Pair sender receiver) =
        after_both (AreAwaited Less going) (answers_side over serial party.Sender sender mid) (answers_side over serial party.Receiver (for_receiver sender receiver))
        (awaited_side Less going over serial party.Sender sender mid gone a)
        (awaited_side Less going over serial party.Receiver (for_receiver sender receiver) (answers_side over serial party.Sender sender mid).core
        (side_kept (IsGone serial) anything (gone_replying serial) over serial party.Sender sender mid gone).holds)

-- ---- those that a call unblocks
held_fewer : (going less : List ActorId) (actors : List Actor) (objects : Objects) → ((actor : ActorId) → times actor less ≤ times actor going) → AreHeld going actors objects → AreHeld less actors objects
held_fewer going less actors objects few held = record {
  stand = λ actor from. fewer_stand (state_at actors actor.0) (waiting objects actor + times actor going) (waiting objects actor + times actor less) (omega (arith, few actor)) (held.stand actor from);
  real = λ actor none. omega (arith, few actor, held.real actor none);
  joins = held.joins;
}

pub awaited_fewer : (Misses : ActorId → ℕ → Type 0) (going less : List ActorId) (core : Core) → ((actor : ActorId) → times actor less ≤ times actor going) → AreAwaited Misses going core → AreAwaited Misses less core
awaited_fewer Misses going less core few a = record { numbered = a.numbered; rooms = a.rooms; named = a.named; held = held_fewer going less core.actors core.objects few a.held }

few_places : (joined : Option ActorId) (n : ℕ) → n ≤ places_for joined → n ≤ 1
few_places None n le = le
few_places (Some target) n le = omega (arith, le)

-- an actor that stands in a queue and is blocked is blocked on no activity, and stands there once
stands_free : (state : State) (blocking : Blocking) (n : ℕ) → blocking_in state ≡ Some blocking → 0 < n → MayStand state n → (blocked_on (blocking_in state) ≡ None) × (n ≤ 1)
stands_free Unstarted blocking n e some may = absurd (cc e)
stands_free (Ready answer) blocking n e some may = absurd (cc e)
stands_free (Blocked what since None) blocking n e some may = (refl, few_places (joined_by what) n may)
stands_free (Blocked what since (Some on)) blocking n e some may = absurd (omega (arith, some, may))
stands_free Ended blocking n e some may = absurd (cc e)

woken_free : (first : ActorId) (rest : List ActorId) (blocking : Blocking) (core : Core) → blocking_in (state_of core first.0) ≡ Some blocking → AreHeld (first ∷ rest) core.actors core.objects → IsFree rest first.0 core
woken_free first rest blocking core e held = by (cases_eq first.0 0)
  where
    count : times first (first ∷ rest) ≡ 1 + times first rest
    count = omega (arith, times_cons first first rest, one_same first first refl)

    real : 0 < first.0 → IsFree rest first.0 core
    real from =
        let s = stands_free (state_of core first.0) blocking (waiting core.objects first + times first (first ∷ rest)) e (omega (arith, count)) (held.stand first from) in
        record {
          free = s.0;
          idle = λ other some same.
              let alike : other ≡ first = id_same other first (omega (arith, some, same, from)) in
              let zero : waiting core.objects first + times first rest ≡ 0 = omega (arith, s.1, count) in
              ap (λ x. waiting core.objects x + times x rest) alike ∙ zero;
        }

    by : (first.0 ≡ 0) ⊎ (first.0 ≡ 0 → ⊥) → IsFree rest first.0 core
    by (inl none) = absurd (omega (arith, held.real first none, count))
    by (inr some) = real (omega (arith, some))

awaited_wake : (first : ActorId) (rest : List ActorId) (core : Core) → AreAwaited Nobody (first ∷ rest) core → AreAwaited Nobody rest (wakes first core).core
awaited_wake first rest core a = by (blocking_in (state_of core first.0)) refl
  where
    less : AreAwaited Nobody rest core
    less = awaited_fewer Nobody (first ∷ rest) rest core (λ actor. omega (arith, times_cons actor first rest)) a

    by : (found : Option Blocking) → blocking_in (state_of core first.0) ≡ found → AreAwaited Nobody rest (wakes_from found first core).core
    by None e = less
    by (Some blocking) e = awaited_ready Nobody rest first.0 answer.Done core (woken_free first rest blocking core e a.held) less

pub woken_after : (first : Step) (going : List ActorId) → AreAwaited Nobody going first.core → (AreAwaited Nobody going first.core → AreAwaited Nobody [] (all_wake going first.core).core) → AreAwaited Nobody [] (and_then first (all_wake going)).core
woken_after first going a woken = by first.stop
  where
    by : (o : Option Stop) → AreAwaited Nobody [] (follows o first (all_wake going first.core)).core
    by None = woken a
    by (Some why) = awaited_fewer Nobody going [] first.core (λ actor. omega arith) a

pub awaited_woken : (going : List ActorId) (core : Core) → AreAwaited Nobody going core → AreAwaited Nobody [] (all_wake going core).core
unfolding each
awaited_woken [] core a = a
awaited_woken (first ∷ rest) core a = woken_after (wakes first core) rest (awaited_wake first rest core a) (awaited_woken rest (wakes first core).core)

-- ---- those that joined an actor
-- whoever is blocked joins
abbrev OnlyJoins : State → Type 0
OnlyJoins state = (blocking : Blocking) → blocking_in state ≡ Some blocking → (target : ActorId) × (joined_in state ≡ Some target)

join_idle : (state : State) (target : ActorId) (n : ℕ) → joined_in state ≡ Some target → MayStand state n → n ≡ 0
join_idle Unstarted target n e may = may
join_idle (Ready answer) target n e may = may
join_idle (Blocked what since None) target n e may = (let none : n ≤ places_for (Some target) = subst (λ o. n ≤ places_for o) e may in omega (arith, none))
join_idle (Blocked what since (Some on)) target n e may = omega (arith, may)
join_idle Ended target n e may = absurd (cc e)

awaited_joiner : (actor : ActorId) (core : Core) → OnlyJoins (state_of core actor.0) → AreAwaited Nobody [] core → AreAwaited Nobody [] (wakes actor core).core
awaited_joiner actor core only a = by (blocking_in (state_of core actor.0)) refl
  where
    joins : (blocking : Blocking) → blocking_in (state_of core actor.0) ≡ Some blocking → IsFree [] actor.0 core
    joins blocking e =
        let joined = only blocking e in
        record {
          free = a.held.joins actor.0 joined.0 joined.1;
          idle = λ other from same. join_idle (state_of core other.0) joined.0 _ (ap joined_in (same_state core.actors other.0 actor.0 same) ∙ joined.1) (a.held.stand other from);
        }

    by : (found : Option Blocking) → blocking_in (state_of core actor.0) ≡ found → AreAwaited Nobody [] (wakes_from found actor core).core
    by None e = a
    by (Some blocking) e = awaited_ready Nobody [] actor.0 answer.Done core (joins blocking e) a

abbrev AllJoin : List ActorId → Core → Type 0
AllJoin actors core = All (λ (actor : ActorId). OnlyJoins (state_of core actor.0)) actors

join_replying : (actors : List ActorId) → Replying (AllJoin actors) anything
join_replying actors = record {
  replies = λ other blocking bytes given core is all.
      one_made (AllJoin actors) anything _ _ (λ k d within. put_there OnlyJoins core.actors other (get_or actors k d).0 (Ready given) (λ same found e. absurd (cc e)) (all k d within)) tt;
}

all_joiners : (actors : List ActorId) (core : Core) → AllJoin actors core → AreAwaited Nobody [] core → AreAwaited Nobody [] (all_wake actors core).core
unfolding each
all_joiners [] core all a = a
all_joiners (actor ∷ rest) core all a =
    after_both (AreAwaited Nobody []) (wakes actor core) (all_wake rest) (awaited_joiner actor core (All-head (λ (x : ActorId). OnlyJoins (state_of core x.0)) actor rest all) a)
    (all_joiners rest (wakes actor core).core (wake_kept (AllJoin rest) anything (join_replying rest) actor core (All-tail (λ (x : ActorId). OnlyJoins (state_of core x.0)) actor rest all)).holds)

-- what holds of each place of one that joins the target holds of all of them
joiners_all : (P : ActorId → Type 0) (target id : ℕ) (actors : List Actor) (d : Actor) → ((k : ℕ) → joins target (get_or actors k d).state ≡ true → P (record { 0 = id + k })) → All P (joiners target id actors)
unfolding joiners
joiners_all P target id [] d one = All-nil P
joiners_all P target id (a ∷ rest) d one = by (joins target a.state) refl (joiners_all P target (id + 1) rest d later)
  where
    later : (k : ℕ) → joins target (get_or rest k d).state ≡ true → P (record { 0 = id + 1 + k })
    later k e = (let same : id + suc k ≡ id + 1 + k = omega arith in subst (λ n. P (record { 0 = n })) same (one (suc k) e))

    here : joins target a.state ≡ true → P (record { 0 = id })
    here e = (let same : id + 0 ≡ id = omega arith in subst (λ n. P (record { 0 = n })) same (one 0 e))

    by : (b : Bool) → joins target a.state ≡ b → All P (joiners target (id + 1) rest) → All P (cond b (record { 0 = id } ∷ joiners target (id + 1) rest) (joiners target (id + 1) rest))
    by true e more = All-cons P (record { 0 = id }) (joiners target (id + 1) rest) (here e) more
    by false e more = more

joined_some : (target : ℕ) (joined : Option ActorId) → is_id target joined ≡ true → (found : ActorId) × (joined ≡ Some found)
joined_some target None e = absurd (cc e)
joined_some target (Some found) e = (found, refl)

pub awaited_joiners : (target : ℕ) (core : Core) → AreAwaited Nobody [] core → AreAwaited Nobody [] (joiners_wake target core).core
awaited_joiners target core = all_joiners (joiners target 1 core.actors) core (joiners_all (λ (actor : ActorId). OnlyJoins (state_of core actor.0)) target 1 core.actors (not_suspended Ended) one)
  where
    one : (k : ℕ) → joins target (get_or core.actors k (not_suspended Ended)).state ≡ true → OnlyJoins (state_of core (1 + k))
    one k e blocking is =
        let place : 1 + k - 1 ≡ k = omega arith in
        joined_some target (joined_in (state_of core (1 + k))) (ap (λ i. joins target (get_or core.actors i (not_suspended Ended)).state) place ∙ e)
