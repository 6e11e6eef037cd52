-- Who is answered what by a kill.
use Rattle.std.proofs.Common.{◌≡◌, ◌≢◌, ℕ, zero, suc, ◌+◌, ◌-◌, ◌==◌, Bool, true, false, cond, inl, inr, Option, None, Some, List, [], ◌∷◌, set, get_or, refl, sym, ap, subst, ◌∙◌, arith}
use Rattle.std.specs.List.{All, Contains}
use Rattle.std.proofs.lemmas.List.Elements.{All-nil, All-cons, All-append, All-head, All-tail, All-contains_itself}
use Rattle.sg_base.specs.declared.awaits.Await.{Await}
use Rattle.sg_base.specs.declared.awaits.Party.{Party}
use Rattle.sg_base.specs.declared.awaits.Party.TheVariants as party
use Rattle.sg_base.specs.declared.call.Answer.{Answer}
use Rattle.sg_base.specs.declared.call.Answer.TheVariants as answer
use Rattle.sg_base.specs.declared.call.Call.{Call}
use Rattle.sg_base.specs.declared.call.Call.TheVariants as call
use Rattle.sg_base.specs.declared.ids.ActorId.{ActorId}
use Rattle.sg_base.specs.declared.trace_record.Record.{Record}
use Rattle.sg_mailbox.specs.declared.sides.Side.{Side}
use Rattle.sg_actor_states.specs.declared.state.Actor.{Actor}
use Rattle.sg_actor_states.specs.declared.state.Blocking.{Blocking}
use Rattle.sg_actor_states.specs.declared.state.State.{State}
use Rattle.sg_actor_states.specs.declared.state.State.TheVariants.{Unstarted, Ready, Blocked, Ended}
use Rattle.sg_actor_states.specs.Actors.{actor_at, blocking_in, is_alive, is_id, joined_by, joiners, joins, not_suspended, put_state, state_at}
use Rattle.sg_mailbox.specs.declared.owners.How.TheVariants as how
use Rattle.sg_mailbox.specs.declared.owners.Whose.{Whose}
use Rattle.sg_mailbox.specs.declared.owners.Whose.TheVariants.{Over, Alone, Posted, Pair}
use Rattle.sg_kernel_calls.specs.declared.stop.Stop.{Stop}
use Rattle.sg_kernel_calls.specs.Answers.{answers, answers_by, answers_side, bare_side, finishes, for_receiver, awaits_side, tells_bytes, with_over}
use Rattle.sg_kernel_calls.specs.Kills.{awaited, gives_up, gives_up_by, kill_done, kill_stretches, kills, withdrawn}
use Rattle.sg_kernel_calls.specs.Locks.{joiners_wake, wakes, wakes_from}
use Rattle.sg_kernel_calls.specs.Steps.{Step, goes_on, counted, follows, and_then, each, all_of, at_once, readied, replied}
use Rattle.sg_kernel_calls.specs.World.{Core, state_of, whose_at}
use Rattle.sg_kernel_calls.proofs.Each.{eq_yes}
use Rattle.sg_kernel_calls.proofs.Stated.{blocking_is}
use Rattle.sg_kernel_laws.specs.failures.Laws.{TellsJoiner, TellsKill, TellsKiller, TellsOther, is_over}
use Rattle.sg_kernel_laws.proofs.failure_lemmas.Passed.{Awaits, all_so, awaits, just, put_there, ready_after, set_there}

-- ---- what stays so in a kill
-- an actor that is blocked was so before, and isn't the killed one; what hasn't ended hadn't before, and what is an
-- actor's alone was so before
pub record Since (target : ActorId) (before now : Core) : Type 0 where
  pub blocked : (actor since : ℕ) (what : Call) (on : Option Await) → state_of now actor ≡ Blocked what since on → (state_of before actor ≡ Blocked what since on) × (actor ≢ target.0)
  pub goes : (serial : ℕ) → is_over (whose_at now serial) ≡ false → is_over (whose_at before serial) ≡ false
  pub alone : (serial : ℕ) (owner : ActorId) → whose_at now serial ≡ Alone owner → whose_at before serial ≡ Alone owner

pub record Goes (P : Record → Type 0) (target : ActorId) (before : Core) (step : Step) : Type 0 where
  pub since : Since target before step.core
  pub told : All P step.made

pub since_ready : (target : ActorId) (before core : Core) (actor : ℕ) (answer : Answer) → Since target before core → Since target before (readied actor answer core)
since_ready target before core actor answer s = record {
  blocked = λ other since what on e. s.blocked other since what on (ready_after core.actors actor other since answer what on e);
  goes = λ serial e. s.goes serial e;
  alone = λ serial owner e. s.alone serial owner e;
}

since_over : (target : ActorId) (before core : Core) (serial : ℕ) → Since target before core → Since target before (with_over how.Failed serial core)
since_over target before core serial s = record {
  blocked = λ other since what on e. s.blocked other since what on e;
  goes = λ other e. s.goes other (set_there (λ (w : Whose). is_over w ≡ false → is_over (whose_at core other) ≡ false) core.whose (serial - 1) (other - 1) (Over how.Failed) (Over how.Done) (λ same no. absurd (cc no)) (λ no. no) e);
  alone = λ other owner e. s.alone other owner (set_there (λ (w : Whose). w ≡ Alone owner → whose_at core other ≡ Alone owner) core.whose (serial - 1) (other - 1) (Over how.Failed) (Over how.Done) (λ same no. absurd (cc no)) (λ no. no) e);
}

-- ---- steps
stays : (P : Record → Type 0) (target : ActorId) (before core : Core) → Since target before core → Goes P target before (goes_on core [])
stays P target before core s = record { since = s; told = All-nil P }

either : (P : Record → Type 0) (target : ActorId) (before : Core) (b : Bool) (one other : Step) → (b ≡ true → Goes P target before one) → (b ≡ false → Goes P target before other) → Goes P target before (cond b one other)
either P target before true one other s t = s refl
either P target before false one other s t = t refl

both : (P : Record → Type 0) (target : ActorId) (before : Core) (first : Step) (next : Core → Step) → Goes P target before first → (Since target before first.core → Goes P target before (next first.core)) → Goes P target before (and_then first next)
both P target before first next s more = by first.stop
  where
    by : (o : Option Stop) → Goes P target before (follows o first (next first.core))
    by None = let t = more s.since in record { since = t.since; told = All-append P first.made (next first.core).made s.told t.told }
    by (Some why) = s

pub each_goes : {X : Type 0} (P : Record → Type 0) (target : ActorId) (before : Core) (Is : X → Type 0) (does : X → Core → Step) → ((x : X) (core : Core) → Is x → Since target before core → Goes P target before (does x core)) → (xs : List X) (core : Core) → All Is xs → Since target before core → Goes P target before (each does xs core)
unfolding each
each_goes P target before Is does one [] core are s = stays P target before core s
each_goes P target before Is does one (x ∷ xs) core are s =
    both P target before (does x core) (each does xs) (one x core (All-head Is x xs are) s)
    (each_goes P target before Is does one xs (does x core).core (All-tail Is x xs are))

none_goes : (P : Record → Type 0) (target : ActorId) (before core : Core) → Since target before core → Goes P target before (all_of [] core)
unfolding all_of
none_goes P target before core s = stays P target before core s

more_goes : (P : Record → Type 0) (target : ActorId) (before : Core) (first : Core → Step) (rest : List (Core → Step)) (core : Core) → Goes P target before (first core) → ((mid : Core) → Since target before mid → Goes P target before (all_of rest mid)) → Goes P target before (all_of (first ∷ rest) core)
unfolding all_of
more_goes P target before first rest core one more = both P target before (first core) (all_of rest) one (more (first core).core)

so_goes : (P Q : Record → Type 0) (target : ActorId) (before : Core) (step : Step) → ((told : Record) → P told → Q told) → Goes P target before step → Goes Q target before step
so_goes P Q target before step so s = record { since = s.since; told = all_so P Q so step.made s.told }

-- ---- the other endpoints of what the killed one awaited
other_tells : (target : ActorId) (before : Core) (serial : ℕ) (side : Party) (given : Side) (core : Core) → Contains (awaited target before) serial → is_over (whose_at before serial) ≡ false → Since target before core → Goes (TellsOther target before) target before (answers_side how.Failed serial side given core)
other_tells target before serial side given core within live s = by (blocking_in (state_of core given.actor.0)) refl
  where
    reply : (blocking : Blocking) → Step
    reply blocking = replied given.actor.0 blocking.what blocking.since (cond (tells_bytes blocking.what) given.bytes 0) answer.Failed core

    replies : (blocking : Blocking) → blocking_in (state_of core given.actor.0) ≡ Some blocking → Awaits serial blocking.on → Goes (TellsOther target before) target before (reply blocking)
    replies blocking e at =
        let was = s.blocked given.actor.0 blocking.since blocking.what (Some at.side) (blocking_is (state_of core given.actor.0) blocking e ∙ ap (λ o. Blocked blocking.what blocking.since o) at.is) in
        record {
          since = since_ready target before core given.actor.0 answer.Failed s;
          told = just (TellsOther target before) _ (record {
            apart = was.1;
            since = blocking.since;
            on = at.side;
            blocked = was.0;
            awaits = subst (Contains (awaited target before)) (sym at.of) within;
            goes = subst (λ n. is_over (whose_at before n) ≡ false) (sym at.of) live;
            fails = refl;
          });
        }

    by : (found : Option Blocking) → blocking_in (state_of core given.actor.0) ≡ found → Goes (TellsOther target before) target before (answers_by how.Failed serial side given found core)
    by None e = stays (TellsOther target before) target before core s
    by (Some blocking) e =
        either (TellsOther target before) target before (awaits_side serial side blocking.on) (reply blocking) (goes_on core [])
        (λ there. replies blocking e (awaits serial side blocking.on there)) (λ there. stays (TellsOther target before) target before core s)

pub gives_up_tells : (target : ActorId) (before : Core) (serial : ℕ) (core : Core) → Contains (awaited target before) serial → Since target before core → Goes (TellsOther target before) target before (gives_up serial core)
gives_up_tells target before serial core within s = by (whose_at core serial) refl
  where
    mid : Core
    mid = with_over how.Failed serial core

    since : Since target before mid
    since = since_over target before core serial s

    answered : is_over (whose_at before serial) ≡ false → (whose : Whose) → Goes (TellsOther target before) target before (answers how.Failed serial whose mid)
    answered live (Over way) = stays (TellsOther target before) target before mid since
    answered live (Alone actor) = other_tells target before serial party.Alone (bare_side actor.0) mid within live since
    answered live (Posted mailbox sends side) = stays (TellsOther target before) target before mid since
    answered live (Pair sender receiver) =
        both (TellsOther target before) target before (answers_side how.Failed serial party.Sender sender mid) (answers_side how.Failed serial party.Receiver (for_receiver sender receiver))
        (other_tells target before serial party.Sender sender mid within live since)
        (other_tells target before serial party.Receiver (for_receiver sender receiver) (answers_side how.Failed serial party.Sender sender mid).core within live)

    finish : is_over (whose_at core serial) ≡ false → Goes (TellsOther target before) target before (finishes how.Failed serial core)
    finish live = answered (s.goes serial live) (whose_at core serial)

    by : (whose : Whose) → whose_at core serial ≡ whose → Goes (TellsOther target before) target before (gives_up_by whose serial core)
    by (Over way) e = stays (TellsOther target before) target before core s
    by (Alone actor) e = finish (ap is_over e)
    by (Posted mailbox sends side) e = finish (ap is_over e)
    by (Pair sender receiver) e = finish (ap is_over e)

-- ---- those that joined it
join_is : (target : ActorId) (what : Call) → is_id target.0 (joined_by what) ≡ true → what ≡ call.Join target
join_is target call.Ask e = absurd (cc e)
join_is target (call.Compute n p) e = absurd (cc e)
join_is target (call.Sleep n) e = absurd (cc e)
join_is target (call.Send b n m r) e = absurd (cc e)
join_is target (call.Recv b) e = absurd (cc e)
join_is target (call.ISend b n m r) e = absurd (cc e)
join_is target (call.IRecv b) e = absurd (cc e)
join_is target call.Wait e = absurd (cc e)
join_is target (call.Lock n) e = absurd (cc e)
join_is target (call.Unlock n) e = absurd (cc e)
join_is target (call.Acquire n) e = absurd (cc e)
join_is target (call.Release n) e = absurd (cc e)
join_is target call.Barrier e = absurd (cc e)
join_is target (call.Create n) e = absurd (cc e)
join_is target (call.Join of) e =
    let same : of.0 ≡ target.0 = grind (arith, e) in
    ap (λ n. call.Join (record { 0 = n })) same
join_is target (call.Kill n) e = absurd (cc e)
join_is target (call.Suspend n) e = absurd (cc e)
join_is target (call.Resume n) e = absurd (cc e)
join_is target call.Yield e = absurd (cc e)
join_is target call.Exit e = absurd (cc e)

wake_tells : (target : ActorId) (before : Core) (actor : ActorId) (core : Core) → joins target.0 (state_of before actor.0) ≡ true → Since target before core → Goes (TellsJoiner target before) target before (wakes actor core)
wake_tells target before actor core is s = by (blocking_in (state_of core actor.0)) refl
  where
    by : (found : Option Blocking) → blocking_in (state_of core actor.0) ≡ found → Goes (TellsJoiner target before) target before (wakes_from found actor core)
    by None e = stays (TellsJoiner target before) target before core s
    by (Some blocking) e =
        let was = s.blocked actor.0 blocking.since blocking.what blocking.on (blocking_is (state_of core actor.0) blocking e) in
        record {
          since = since_ready target before core actor.0 answer.Done s;
          told = just (TellsJoiner target before) _ (record {
            apart = was.1;
            since = blocking.since;
            on = blocking.on;
            blocked = was.0;
            call = join_is target blocking.what (sym (ap (joins target.0) was.0) ∙ is);
            done = refl;
          });
        }

-- what holds of each place of one that joins the target holds of all of them
joiners_all : (P : ActorId → Type 0) (target id : ℕ) (actors : List Actor) (d : Actor) → ((k : ℕ) → joins target (get_or actors k d).state ≡ true → P (record { 0 = id + k })) → All P (joiners target id actors)
unfolding joiners
joiners_all P target id [] d one = All-nil P
joiners_all P target id (a ∷ rest) d one = by (joins target a.state) refl (joiners_all P target (id + 1) rest d later)
  where
    later : (k : ℕ) → joins target (get_or rest k d).state ≡ true → P (record { 0 = id + 1 + k })
    later k e =
        let same : id + suc k ≡ id + 1 + k = omega arith in
        subst (λ n. P (record { 0 = n })) same (one (suc k) e)

    here : joins target a.state ≡ true → P (record { 0 = id })
    here e =
        let same : id + 0 ≡ id = omega arith in
        subst (λ n. P (record { 0 = n })) same (one 0 e)

    by : (b : Bool) → joins target a.state ≡ b → All P (joiners target (id + 1) rest) → All P (cond b (record { 0 = id } ∷ joiners target (id + 1) rest) (joiners target (id + 1) rest))
    by true e more = All-cons P (record { 0 = id }) (joiners target (id + 1) rest) (here e) more
    by false e more = more

-- an actor that joins it now did so before
joined_before : (target : ActorId) (before core : Core) (actor : ℕ) → Since target before core → joins target.0 (state_of core actor) ≡ true → joins target.0 (state_of before actor) ≡ true
joined_before target before core actor s is = by (state_of core actor) refl is
  where
    by : (state : State) → state_of core actor ≡ state → joins target.0 state ≡ true → joins target.0 (state_of before actor) ≡ true
    by Unstarted e joined = absurd (cc joined)
    by (Ready answer) e joined = absurd (cc joined)
    by (Blocked what since on) e joined = ap (joins target.0) (s.blocked actor since what on e).0 ∙ joined
    by Ended e joined = absurd (cc joined)

pub joiners_tell : (target : ActorId) (before core : Core) → Since target before core → Goes (TellsJoiner target before) target before (joiners_wake target.0 core)
joiners_tell target before core s =
    each_goes (TellsJoiner target before) target before Joined wakes (wake_tells target before) (joiners target.0 1 core.actors) core
    (joiners_all Joined target.0 1 core.actors (not_suspended Ended) one) s
  where
    Joined : ActorId → Type 0
    Joined actor = joins target.0 (state_of before actor.0) ≡ true

    one : (k : ℕ) → joins target.0 (get_or core.actors k (not_suspended Ended)).state ≡ true → Joined (record { 0 = 1 + k })
    one k e =
        let place : 1 + k - 1 ≡ k = omega arith in
        joined_before target before core (1 + k) s (ap (λ i. joins target.0 (get_or core.actors i (not_suspended Ended)).state) place ∙ e)

-- ---- a kill
ended_there : (actors : List Actor) (i : ℕ) (on : Bool) → (get_or (set actors i (record { state = Ended; suspended = on })) i (not_suspended Ended)).state ≡ Ended
ended_there [] i on = refl
ended_there (a ∷ actors) zero on = refl
ended_there (a ∷ actors) (suc i) on = ended_there actors i on

pub since_withdrawn : (target : ActorId) (core : Core) (events : ℕ) → Since target core (withdrawn target (record core { events = events }))
since_withdrawn target core events = record {
  blocked = λ actor since what on e. (
    put_there (λ state. state ≡ Blocked what since on → state_of core actor ≡ Blocked what since on) core.actors target.0 actor Ended (λ same no. absurd (cc no)) (λ was. was) e,
    λ same. absurd (cc (sym (ap (λ n. state_at (put_state core.actors target.0 Ended) n) same ∙ ended_there core.actors (target.0 - 1) (actor_at core.actors target.0).suspended) ∙ e)),
  );
  goes = λ serial e. e;
  alone = λ serial owner e. e;
}

pub killer_tells : (actor : ℕ) (target : ActorId) (before core : Core) → Since target before core → Goes (TellsKiller actor target) target before (kill_done actor target core)
killer_tells actor target before core s =
    either (TellsKiller actor target) target before (actor == target.0) (goes_on core []) (at_once actor (call.Kill target) 0 answer.Done core)
    (λ same. stays (TellsKiller actor target) target before core s)
    (λ no. record {
      since = since_ready target before core actor answer.Done s;
      told = just (TellsKiller actor target) _ (record { caller = refl; apart = λ same. absurd (cc (sym no ∙ eq_yes actor target.0 same)); call = refl; done = refl });
    })

stretches_tell : (actor : ℕ) (target : ActorId) (core : Core) → Goes (TellsKill actor target core) target core (all_of (kill_stretches actor target (awaited target core)) (withdrawn target (counted core)))
stretches_tell actor target core =
    more_goes Q target core (kill_done actor target) (each gives_up serials ∷ joiners_wake target.0 ∷ []) start
    (so_goes (TellsKiller actor target) Q target core (kill_done actor target start) (λ told k. inl k) (killer_tells actor target core start (since_withdrawn target core (core.events + 1))))
    (λ mid s. more_goes Q target core (each gives_up serials) (joiners_wake target.0 ∷ []) mid
    (so_goes (TellsOther target core) Q target core (each gives_up serials mid) (λ told k. inr (inl k))
    (each_goes (TellsOther target core) target core (Contains serials) gives_up (gives_up_tells target core) serials mid (All-contains_itself serials) s))
    (λ late t. more_goes Q target core (joiners_wake target.0) [] late
    (so_goes (TellsJoiner target core) Q target core (joiners_wake target.0 late) (λ told k. inr (inr k)) (joiners_tell target core late t))
    (none_goes Q target core)))
  where
    Q : Record → Type 0
    Q = TellsKill actor target core

    serials : List ℕ
    serials = awaited target core

    start : Core
    start = withdrawn target (counted core)

pub kill_tells : (actor : ℕ) (target : ActorId) (core : Core) → is_alive (state_of core target.0) ≡ true → All (TellsKill actor target core) (kills actor target (counted core)).made
kill_tells actor target core alive =
    let ends = all_of (kill_stretches actor target (awaited target core)) (withdrawn target (counted core)) in
    let stays = at_once actor (call.Kill target) 0 answer.Done (counted core) in
    subst (λ b. All (TellsKill actor target core) (cond b ends stays).made) (sym alive) (stretches_tell actor target core).told
