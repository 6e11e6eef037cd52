-- What a call leaves as it was: the date, how far the profiles are, who has begun; and it is one event, or stops the run.
use Rattle.std.proofs.Common.{◌≡◌, ℕ, ◌+◌, ◌-◌, ◌==◌, Bool, true, false, true≢false, cond, Option, None, Some, Result, Ok, Err, List, [], ◌∷◌, length, set, get_or, refl, sym, ap, ◌∙◌}
use Rattle.std.proofs.lemmas.List.{length-set}
use Rattle.sg_base.specs.declared.awaits.Await.{Await}
use Rattle.sg_base.specs.declared.awaits.Party.TheVariants.{Sender, Receiver}
use Rattle.sg_base.specs.declared.call.Answer.{Answer}
use Rattle.sg_base.specs.declared.call.Answer.TheVariants as answer
use Rattle.sg_base.specs.declared.call.Call.{Call}
use Rattle.sg_base.specs.declared.call.Call.TheVariants as call
use Rattle.sg_base.specs.declared.ids.ActorId.{ActorId}
use Rattle.sg_base.specs.declared.trace_record.Record.{Record}
use Rattle.sg_activity.specs.Links.{is_off}
use Rattle.sg_activity.specs.Task.{is_cut}
use Rattle.sg_activity.specs.Underway.{gone_on, held, is_computing, is_kept}
use Rattle.sg_mailbox.specs.declared.sides.Post.{Post}
use Rattle.sg_mailbox.specs.declared.sides.Side.{Side}
use Rattle.sg_mailbox.specs.Posts.{partner}
use Rattle.sg_requests.specs.Requested.{oldest, queue_at, queues_without_oldest}
use Rattle.sg_route.specs.declared.router.RouteFault.{RouteFault}
use Rattle.sg_route.specs.declared.router.RouteFault.TheVariants as fault
use Rattle.sg_route.specs.Roads.{Roads}
use Rattle.sg_route.specs.Route.{Route}
use Rattle.sg_actor_states.specs.declared.state.Actor.{Actor}
use Rattle.sg_actor_states.specs.declared.state.Blocking.{Blocking}
use Rattle.sg_actor_states.specs.declared.state.State.{State}
use Rattle.sg_actor_states.specs.declared.state.State.TheVariants.{Unstarted, Ready, Blocked, Ended}
use Rattle.sg_actor_states.specs.Actors.{actor_at, blocking_in, is_alive, is_ended, is_unstarted, not_suspended}
use Rattle.sg_actor_states.specs.Records.{record_of}
use Rattle.sg_sync.specs.declared.outcome.Outcome.{Outcome}
use Rattle.sg_sync.specs.declared.outcome.Outcome.TheVariants.{GoesOn, Waits, Refused}
use Rattle.sg_sync.specs.Objects.{Done, locked, unlocked, acquired, released, arrived}
use Rattle.sg_kernel_calls.specs.declared.meetings.Comer.{Comer}
use Rattle.sg_mailbox.specs.declared.owners.How.TheVariants as how
use Rattle.sg_kernel_calls.specs.declared.stop.Stop.{Stop}
use Rattle.sg_kernel_calls.specs.declared.stop.Stop.TheVariants as stop
use Rattle.sg_kernel_calls.specs.Answers.{answers_side, for_receiver, side_of, with_over}
use Rattle.sg_kernel_calls.specs.Calls.{answered_call, computes, executes, with_execution}
use Rattle.sg_kernel_calls.specs.Kills.{awaited, gives_up, kill_done, kills, kills_alive, withdrawn}
use Rattle.sg_kernel_calls.specs.Lives.{joins_by, with_actor_ended}
use Rattle.sg_kernel_calls.specs.Locks.{all_wake, caller_first, caller_gets, caller_last, joiners_wake, with_objects}
use Rattle.sg_kernel_calls.specs.Meetings.{answer_of_over, both_fail, comer_fails, comer_of, comes, comes_by, fails_with, joined, joins_over, joins_with, other_fails, point_of, posted, posts_at, receiver_of, receives_by, route_between, sender_of, sends_by, stop_of, takes_part, takes_part_failed, waits_by, waits_until, way_with}
use Rattle.sg_kernel.specs.Passes.{pass_of}
use Rattle.sg_kernel_calls.specs.Steps.{Step, goes_on, counted, and_then, each, at_once, blocked_by}
use Rattle.sg_kernel_calls.specs.Suspensions.{held_by, held_if, held_on, held_to, suspended_to}
use Rattle.sg_kernel_calls.specs.Setup.{Setup}
use Rattle.sg_kernel_calls.specs.World.{Core, host_of, is_suspended, state_of, whose_at, with_suspended, with_state}
use Rattle.sg_kernel_calls.proofs.Alone.{alone_goes}
use Rattle.sg_kernel_calls.proofs.Each.{both_on}
use Rattle.sg_kernel_calls.proofs.Finishes.{answers_side_goes}
use Rattle.sg_engine.specs.Run.{created_by}
use Rattle.sg_kernel_laws.proofs.actor_lemmas.Kept.{Kept, Closed, Replying, still, one_made, either, both, each_kept, none_kept, more_kept, all_kept, joiners_kept, side_kept, gives_up_kept, finishes_kept, pass_kept}
use Rattle.sg_kernel_laws.proofs.actor_lemmas.Others.{set_there}
use Rattle.sg_base.specs.Turn.{actor_of}
use Rattle.sg_engine_laws.specs.endings.Creating.{created_in, is_done}

-- ---- what actors keep
abbrev pub nobody : Actor
nobody = not_suspended Ended

abbrev pub place_state : List Actor → ℕ → State
place_state actors i = (get_or actors i nobody).state

-- the actor that this one is blocked until it has created
abbrev pub creating : State → Option ActorId
creating Unstarted = None
creating (Ready given) = None
creating (Blocked what since on) = created_by what
creating Ended = None

-- as many actors have begun as before, and no actor is blocked by a create
pub record Keeps (old new : List Actor) : Type 0 where
  pub long : length new ≡ length old
  pub begun : (i : ℕ) → is_unstarted (place_state new i) ≡ is_unstarted (place_state old i)
  pub waits : (i : ℕ) → creating (place_state new i) ≡ None

pub put_keeps : (old actors : List Actor) (i : ℕ) (new : Actor) → is_unstarted new.state ≡ false → creating new.state ≡ None → is_unstarted (place_state actors i) ≡ false → Keeps old actors → Keeps old (set actors i new)
put_keeps old actors i new begun free up k = record {
  long = length-set actors i new ∙ k.long;
  begun = λ j. set_there (λ (a : Actor). is_unstarted a.state ≡ is_unstarted (place_state old j)) actors i j new nobody
      (λ same. begun ∙ sym up ∙ ap (λ (n : ℕ). is_unstarted (place_state actors n)) (sym same) ∙ k.begun j) (k.begun j);
  waits = λ j. set_there (λ (a : Actor). creating a.state ≡ None) actors i j new nobody (λ same. free) (k.waits j);
}

blocked_up : (state : State) (blocking : Blocking) → blocking_in state ≡ Some blocking → (is_unstarted state ≡ false) × (creating state ≡ created_by blocking.what)
blocked_up Unstarted blocking e = absurd (cc e)
blocked_up (Ready given) blocking e = absurd (cc e)
blocked_up (Blocked what since on) blocking e =
    let same : record { what = what; since = since; on = on } ≡ blocking = cc e in
    (refl, ap (λ (b : Blocking). created_by b.what) same)
blocked_up Ended blocking e = absurd (cc e)

alive_up : (state : State) → is_alive state ≡ true → is_unstarted state ≡ false
alive_up Unstarted e = absurd (true≢false (sym e))
alive_up (Ready given) e = refl
alive_up (Blocked what since on) e = refl
alive_up Ended e = refl

-- a record of no create
abbrev pub TellsNone : Record → Type 0
TellsNone r = created_in r ≡ None

pub tells_none : (r : Record) → created_by r.what ≡ None → TellsNone r
tells_none r e = by (is_done r.end)
  where
    by : (b : Bool) → cond b (created_by r.what) None ≡ None
    by true = e
    by false = refl

-- ---- what a core keeps
pub record Leaves (before core : Core) : Type 0 where
  pub events : core.events ≡ before.events
  pub date : core.under.date ≡ before.under.date
  pub turns : core.turns ≡ before.turns
  pub actors : Keeps before.actors core.actors

abbrev pub Keeping : Core → Step → Type 0
Keeping before step = Kept (Leaves before) TellsNone step

module _ (before : Core) where
  -- an actor that has begun has another state
  puts : (actor : ℕ) (state : State) (core : Core) → is_unstarted (state_of core actor) ≡ false → is_unstarted state ≡ false → creating state ≡ None → Leaves before core → Leaves before (with_state actor state core)
  puts actor state core up begun free l = record {
    events = l.events;
    date = l.date;
    turns = l.turns;
    actors = put_keeps before.actors core.actors (actor - 1) (record (actor_at core.actors actor) { state = state }) begun free up l.actors;
  }

  still_up : (actor : ℕ) (core : Core) → is_unstarted (state_of before actor) ≡ false → Leaves before core → is_unstarted (state_of core actor) ≡ false
  still_up actor core up l = l.actors.begun (actor - 1) ∙ up

  replying : Replying (Leaves before) TellsNone
  replying = record {
    replies = λ actor blocking bytes given core is l.
        let b = blocked_up (state_of core actor) blocking is in
        one_made (Leaves before) TellsNone _ _ (puts actor (Ready given) core b.0 refl refl l) (tells_none (record_of actor blocking.what blocking.since bytes given core.under.date) (sym b.1 ∙ l.actors.waits (actor - 1)));
  }

  pub closed : Closed (Leaves before) TellsNone
  closed = record { answered = replying; over = λ over serial core l. record { events = l.events; date = l.date; turns = l.turns; actors = l.actors } }

  -- ---- the caller
  module _ (actor : ℕ) (up : is_unstarted (state_of before actor) ≡ false) where
    now : (what : Call) (bytes : ℕ) (given : Answer) (core : Core) → created_by what ≡ None → Leaves before core → Keeping before (at_once actor what bytes given core)
    now what bytes given core none l =
        one_made (Leaves before) TellsNone _ _ (puts actor (Ready given) core (still_up actor core up l) refl refl l) (tells_none (record_of actor what core.under.date bytes given core.under.date) none)

    blocks : (what : Call) (on : Option Await) (core : Core) → created_by what ≡ None → Leaves before core → Keeping before (goes_on (blocked_by actor what on core) [])
    blocks what on core none l = still (Leaves before) TellsNone _ None (puts actor (Blocked what core.under.date on) core (still_up actor core up l) refl none l)

    gets : (outcome : Outcome) (what : Call) (core : Core) → created_by what ≡ None → Leaves before core → Keeping before (caller_gets outcome actor what core)
    gets GoesOn what core none l = now what 0 answer.Done core none l
    gets Waits what core none l = blocks what None core none l
    gets Refused what core none l = now what 0 answer.Refused core none l

    with_others : (done : Done) (core : Core) → Leaves before core → Leaves before (with_objects done core)
    with_others done core l = record { events = l.events; date = l.date; turns = l.turns; actors = l.actors }

    first : (done : Done) (what : Call) (core : Core) → created_by what ≡ None → Leaves before core → Keeping before (caller_first done actor what core)
    first done what core none l =
        let one = caller_gets done.outcome actor what (with_objects done core) in
        both (Leaves before) TellsNone one (all_wake done.woken) (gets done.outcome what (with_objects done core) none (with_others done core l)) (all_kept (Leaves before) TellsNone replying done.woken one.core)

    last : (done : Done) (what : Call) (core : Core) → created_by what ≡ None → Leaves before core → Keeping before (caller_last done actor what core)
    last done what core none l =
        let one = all_wake done.woken (with_objects done core) in
        both (Leaves before) TellsNone one (caller_gets done.outcome actor what) (all_kept (Leaves before) TellsNone replying done.woken (with_objects done core) (with_others done core l)) (gets done.outcome what one.core none)

    until : (over : Option Answer) (on : Await) (core : Core) → Leaves before core → Keeping before (waits_until over actor on core)
    until (Some over) on core l = now call.Wait 0 over core refl l
    until None on core l = blocks call.Wait (Some on) core refl l

    waits : (found : Option Await) (core : Core) → Leaves before core → Keeping before (waits_by found actor core)
    waits None core l = now call.Wait 0 answer.Refused core refl l
    waits (Some on) core l =
        until (answer_of_over (whose_at core on.serial.0)) on (record core { requests = queues_without_oldest core.requests actor }) (record { events = l.events; date = l.date; turns = l.turns; actors = l.actors })

    held_on_leaves : (b : Bool) (serial : ℕ) (core : Core) → Leaves before core → Leaves before (held_if b serial core)
    held_on_leaves true serial core l = record { events = l.events; date = l.date; turns = l.turns; actors = l.actors }
    held_on_leaves false serial core l = l

    joins : (ended : Bool) (target : ActorId) (core : Core) → Leaves before core → Keeping before (joins_by ended actor target core)
    joins true target core l = now (call.Join target) 0 answer.Done core refl l
    joins false target core l = blocks (call.Join target) None core refl l

  -- ---- executions and sleeps
  computing : (setup : Setup) (actor flops priority : ℕ) (core : Core) → is_unstarted (state_of before actor) ≡ false → Leaves before core → Keeping before (computes setup actor flops priority core)
  computing setup actor flops priority core up l =
      either (Leaves before) TellsNone (is_off core.under.on.hosts (host_of setup actor)) (at_once actor (call.Compute flops priority) 0 answer.Failed core) (executes setup actor flops priority core)
      (now actor up (call.Compute flops priority) 0 answer.Failed core refl l)
      (still (Leaves before) TellsNone _ None (held_on_leaves actor up (is_suspended core actor) (length core.under.tasks + 1) (with_execution setup actor flops priority core) (begun l)))
    where
      begun : Leaves before core → Leaves before (with_execution setup actor flops priority core)
      begun l =
          let p = put_keeps before.actors core.actors (actor - 1) (record (actor_at core.actors actor) { state = Blocked (call.Compute flops priority) core.under.date _ }) refl refl (still_up actor core up l) l.actors in
          record { events = l.events; date = l.date; turns = l.turns; actors = p }

  -- ---- kills
  withdrawn_leaves : (target : ActorId) (core : Core) → is_alive (state_of core target.0) ≡ true → Leaves before core → Leaves before (withdrawn target core)
  withdrawn_leaves target core alive l = record {
    events = l.events;
    date = l.date;
    turns = l.turns;
    actors = put_keeps before.actors core.actors (target.0 - 1) (record (actor_at core.actors target.0) { state = Ended }) refl refl (alive_up (state_of core target.0) alive) l.actors;
  }

  kill_told : (actor : ℕ) (target : ActorId) (core : Core) → is_unstarted (state_of before actor) ≡ false → Leaves before core → Keeping before (kill_done actor target core)
  kill_told actor target core up l =
      either (Leaves before) TellsNone (actor == target.0) (goes_on core []) (at_once actor (call.Kill target) 0 answer.Done core) (still (Leaves before) TellsNone core None l) (now actor up (call.Kill target) 0 answer.Done core refl l)

  killing : (actor : ℕ) (target : ActorId) (core : Core) → is_unstarted (state_of before actor) ≡ false → Leaves before core → Keeping before (kills actor target core)
  killing actor target core up l = by (is_alive (state_of core target.0)) refl
    where
      serials : List ℕ
      serials = awaited target core

      gone : Leaves before (withdrawn target core) → Keeping before (kills_alive actor target core)
      gone m =
          more_kept (Leaves before) TellsNone (kill_done actor target) (each gives_up serials ∷ joiners_wake target.0 ∷ []) (withdrawn target core) (kill_told actor target (withdrawn target core) up m)
          (λ one p. more_kept (Leaves before) TellsNone (each gives_up serials) (joiners_wake target.0 ∷ []) one (each_kept (Leaves before) TellsNone gives_up (gives_up_kept (Leaves before) TellsNone closed) serials one p)
          (λ two q. more_kept (Leaves before) TellsNone (joiners_wake target.0) [] two (joiners_kept (Leaves before) TellsNone replying target.0 two q)
          (none_kept (Leaves before) TellsNone)))

      by : (b : Bool) → is_alive (state_of core target.0) ≡ b → Keeping before (cond b (kills_alive actor target core) (at_once actor (call.Kill target) 0 answer.Done core))
      by true alive = gone (withdrawn_leaves target core alive l)
      by false alive = now actor up (call.Kill target) 0 answer.Done core refl l

  -- ---- suspensions
  suspended_leaves : (on : Bool) (target : ActorId) (core : Core) → Leaves before core → Leaves before (suspended_to on target core)
  suspended_leaves on target core l = by (is_alive (state_of core target.0))
    where
      marked : Leaves before (with_suspended target.0 on core)
      marked = record {
        events = l.events;
        date = l.date;
        turns = l.turns;
        actors = record {
          long = length-set core.actors (target.0 - 1) (record { state = state_of core target.0; suspended = on }) ∙ l.actors.long;
          begun = λ j. set_there (λ (a : Actor). is_unstarted a.state ≡ is_unstarted (place_state before.actors j)) core.actors (target.0 - 1) j (record { state = state_of core target.0; suspended = on }) nobody
              (λ same. ap (λ (n : ℕ). is_unstarted (place_state core.actors n)) (sym same) ∙ l.actors.begun j) (l.actors.begun j);
          waits = λ j. set_there (λ (a : Actor). creating a.state ≡ None) core.actors (target.0 - 1) j (record { state = state_of core target.0; suspended = on }) nobody (λ same. l.actors.waits (target.0 - 1)) (l.actors.waits j);
        };
      }

      tasks : (b : Bool) (serial : ℕ) (mid : Core) → Leaves before mid → Leaves before (record mid { under = held_to b serial mid.under })
      tasks true serial mid m = kinds (is_computing mid.under serial)
        where
          kinds : (c : Bool) → Leaves before (record mid { under = cond c (held serial mid.under) mid.under })
          kinds true = record { events = m.events; date = m.date; turns = m.turns; actors = m.actors }
          kinds false = record { events = m.events; date = m.date; turns = m.turns; actors = m.actors }
      tasks false serial mid m = kinds (is_kept mid.under serial)
        where
          kinds : (c : Bool) → Leaves before (record mid { under = cond c (gone_on serial mid.under) mid.under })
          kinds true = record { events = m.events; date = m.date; turns = m.turns; actors = m.actors }
          kinds false = record { events = m.events; date = m.date; turns = m.turns; actors = m.actors }

      on_one : (await : Option Await) (mid : Core) → Leaves before mid → Leaves before (held_on on await mid)
      on_one None mid m = m
      on_one (Some await) mid m = tasks on await.serial.0 mid m

      blocked : (found : Option Blocking) (mid : Core) → Leaves before mid → Leaves before (held_by on found mid)
      blocked None mid m = m
      blocked (Some blocking) mid m = on_one blocking.on mid m

      by : (b : Bool) → Leaves before (cond b (held_by on (blocking_in (state_of core target.0)) (with_suspended target.0 on core)) core)
      by true = blocked (blocking_in (state_of core target.0)) (with_suspended target.0 on core) marked
      by false = l

  -- ---- communications
  module _ (comer : Comer) (up : is_unstarted (state_of before comer.side.actor.0) ≡ false) (none : created_by comer.what ≡ None) where
    part : (waits : Bool) (serial : ℕ) (core : Core) → Leaves before core → Keeping before (takes_part waits comer serial core)
    part true serial core l = blocks comer.side.actor.0 up comer.what _ core none l
    part false serial core l = now comer.side.actor.0 up comer.what comer.side.bytes answer.Done _ none (record { events = l.events; date = l.date; turns = l.turns; actors = l.actors })

    failed : (waits : Bool) (serial bytes : ℕ) (core : Core) → Leaves before core → Keeping before (takes_part_failed waits comer serial bytes core)
    failed true serial bytes core l = now comer.side.actor.0 up comer.what bytes answer.Failed core none l
    failed false serial bytes core l = part false serial core l

    others : (serial : ℕ) (other : Side) (core : Core) → Leaves before core → Keeping before (other_fails comer serial other core)
    others serial other core l =
        either (Leaves before) TellsNone comer.sends (answers_side how.Failed serial Receiver (for_receiver comer.side other) core) (answers_side how.Failed serial Sender other core)
        (side_kept (Leaves before) TellsNone replying how.Failed serial Receiver (for_receiver comer.side other) core l) (side_kept (Leaves before) TellsNone replying how.Failed serial Sender other core l)

    fail : (serial : ℕ) (other : Side) (core : Core) → Leaves before core → Keeping before (both_fail comer serial other core)
    fail serial other core l =
        let own = comer_fails comer serial other core in
        let theirs = other_fails comer serial other core in
        either (Leaves before) TellsNone comer.sends (and_then own (other_fails comer serial other)) (and_then theirs (comer_fails comer serial other))
        (both (Leaves before) TellsNone own (other_fails comer serial other) (failed comer.waits serial (sender_of comer other).bytes core l) (others serial other own.core))
        (both (Leaves before) TellsNone theirs (comer_fails comer serial other) (others serial other core l) (failed comer.waits serial (sender_of comer other).bytes theirs.core))

-- ---- whether it continues
part_goes : (waits : Bool) (comer : Comer) (serial : ℕ) (core : Core) → (takes_part waits comer serial core).stop ≡ None
part_goes true comer serial core = refl
part_goes false comer serial core = refl

failed_goes : (waits : Bool) (comer : Comer) (serial bytes : ℕ) (core : Core) → (takes_part_failed waits comer serial bytes core).stop ≡ None
failed_goes true comer serial bytes core = refl
failed_goes false comer serial bytes core = refl

cond_goes : (b : Bool) (one other : Step) → one.stop ≡ None → other.stop ≡ None → (cond b one other).stop ≡ None
cond_goes true one other e f = e
cond_goes false one other e f = f

others_go : (comer : Comer) (serial : ℕ) (other : Side) (core : Core) → (other_fails comer serial other core).stop ≡ None
others_go comer serial other core =
    cond_goes comer.sends (answers_side how.Failed serial Receiver (for_receiver comer.side other) core) (answers_side how.Failed serial Sender other core)
    (answers_side_goes how.Failed serial Receiver (for_receiver comer.side other) core) (answers_side_goes how.Failed serial Sender other core)

fail_goes : (comer : Comer) (serial : ℕ) (other : Side) (core : Core) → (both_fail comer serial other core).stop ≡ None
fail_goes comer serial other core =
    cond_goes comer.sends (and_then (comer_fails comer serial other core) (other_fails comer serial other)) (and_then (other_fails comer serial other core) (comer_fails comer serial other))
    (both_on (comer_fails comer serial other core) (other_fails comer serial other) (failed_goes comer.waits comer serial (sender_of comer other).bytes core) (others_go comer serial other))
    (both_on (other_fails comer serial other core) (comer_fails comer serial other) (others_go comer serial other core) (λ c. failed_goes comer.waits comer serial (sender_of comer other).bytes c))

-- ---- a call is one event, or stops the run with all as it was
abbrev pub is_budget : Stop → Bool
is_budget stop.Budget = true
is_budget (stop.NoRoute from to zone a b) = false
is_budget (stop.TooLong from to) = false
is_budget stop.Deadlock = false
is_budget stop.Starved = false

pub data Happens (core : Core) (step : Step) : Type 0 where
  counts : step.stop ≡ None → Keeping (counted core) step → Happens core step
  faults : (why : Stop) → step ≡ record { core = core; made = []; stop = Some why } → is_budget why ≡ false → Happens core step

fault_so : (setup : Setup) (comer : Comer) (side : Side) (why : RouteFault) → is_budget (stop_of (point_of setup (sender_of comer side)) (point_of setup (receiver_of comer side)) why) ≡ false
fault_so setup comer side (fault.NoRoute zone a b) = refl
fault_so setup comer side fault.TooLong = refl

counted_up : (core : Core) → Keeps core.actors core.actors → Leaves (counted core) (counted core)
counted_up core k = record { events = refl; date = refl; turns = refl; actors = k }

meeting : (found : Result Route RouteFault) (setup : Setup) (comer : Comer) (post : Post) (core : Core) → is_unstarted (state_of core comer.side.actor.0) ≡ false → created_by comer.what ≡ None → Keeps core.actors core.actors → Happens core (joins_over found setup comer post core)
meeting (Err why) setup comer post core up none k = faults _ refl (fault_so setup comer post.side why)
meeting (Ok route) setup comer post core up none k =
    let over = with_over how.Failed post.serial.0 (counted core) in
    let begun = joined setup post.serial.0 route (sender_of comer post.side) (receiver_of comer post.side) (counted core) in
    let l = counted_up core k in
    counts
    (cond_goes (is_cut core.under.on (way_with route setup comer post.side)) (fails_with comer post.serial post.side (counted core)) (joins_with route setup comer post.serial post.side (counted core))
    (fail_goes comer post.serial.0 post.side over) (part_goes comer.waits comer post.serial.0 begun))
    (either (Leaves (counted core)) TellsNone (is_cut core.under.on (way_with route setup comer post.side)) (fails_with comer post.serial post.side (counted core)) (joins_with route setup comer post.serial post.side (counted core))
    (fail (counted core) comer up none post.serial.0 post.side over (record { events = l.events; date = l.date; turns = l.turns; actors = l.actors }))
    (part (counted core) comer up none comer.waits post.serial.0 begun (record { events = l.events; date = l.date; turns = l.turns; actors = l.actors })))

coming : (found : Option Post) (roads : Roads) (setup : Setup) (comer : Comer) (core : Core) → is_unstarted (state_of core comer.side.actor.0) ≡ false → created_by comer.what ≡ None → Keeps core.actors core.actors → Happens core (comes_by found roads setup comer core)
coming None roads setup comer core up none k =
    let l = counted_up core k in
    counts (part_goes comer.waits comer (length core.under.tasks + 1) (posted comer (counted core)))
    (part (counted core) comer up none comer.waits (length core.under.tasks + 1) (posted comer (counted core)) (record { events = l.events; date = l.date; turns = l.turns; actors = l.actors }))
coming (Some post) roads setup comer core up none k = meeting (route_between roads setup (sender_of comer post.side) (receiver_of comer post.side)) setup comer post core up none k

module _ (roads : Roads) (setup : Setup) (core : Core) (actor : ℕ) (up : is_unstarted (state_of core actor) ≡ false) (k : Keeps core.actors core.actors) where
  one : Leaves (counted core) (counted core)
  one = counted_up core k

  comes_so : (comer : Comer) → is_unstarted (state_of core comer.side.actor.0) ≡ false → created_by comer.what ≡ None → Happens core (comes roads setup comer core)
  comes_so comer comer_up none = coming (partner comer.sends (posts_at comer.mailbox core)) roads setup comer core comer_up none k

  alone : (what : Call) → comer_of actor what ≡ None → Keeping (counted core) (answered_call roads setup core actor what) → Happens core (answered_call roads setup core actor what)
  alone what none kept = counts (alone_goes roads setup core actor what none) kept

  pub call_happens : (what : Call) → Happens core (answered_call roads setup core actor what)
  call_happens call.Ask = alone call.Ask refl (still (Leaves (counted core)) TellsNone _ None (puts (counted core) actor (Ready answer.Refused) (counted core) up refl refl one))
  call_happens (call.Compute n p) = alone (call.Compute n p) refl (computing (counted core) setup actor n p (counted core) up one)
  call_happens (call.Sleep n) =
      alone (call.Sleep n) refl (still (Leaves (counted core)) TellsNone _ None
      (let p = put_keeps core.actors core.actors (actor - 1) (record (actor_at core.actors actor) { state = Blocked (call.Sleep n) core.under.date _ }) refl refl up k in
      record { events = refl; date = refl; turns = refl; actors = p }))
  call_happens (call.Send b n m r) = comes_so (sends_by (side_of actor n m r) (call.Send b n m r) true b) up refl
  call_happens (call.Recv b) = comes_so (receives_by actor (call.Recv b) true b) up refl
  call_happens (call.ISend b n m r) = comes_so (sends_by (side_of actor n m r) (call.ISend b n m r) false b) up refl
  call_happens (call.IRecv b) = comes_so (receives_by actor (call.IRecv b) false b) up refl
  call_happens call.Wait = alone call.Wait refl (waits (counted core) actor up (oldest (queue_at core.requests actor)) (counted core) one)
  call_happens (call.Lock n) = alone (call.Lock n) refl (first (counted core) actor up (locked (actor_of actor) n core.objects) (call.Lock n) (counted core) refl one)
  call_happens (call.Unlock n) = alone (call.Unlock n) refl (first (counted core) actor up (unlocked (actor_of actor) n core.objects) (call.Unlock n) (counted core) refl one)
  call_happens (call.Acquire n) = alone (call.Acquire n) refl (first (counted core) actor up (acquired (actor_of actor) n core.objects) (call.Acquire n) (counted core) refl one)
  call_happens (call.Release n) = alone (call.Release n) refl (first (counted core) actor up (released n core.objects) (call.Release n) (counted core) refl one)
  call_happens call.Barrier = alone call.Barrier refl (last (counted core) actor up (arrived (actor_of actor) core.objects) call.Barrier (counted core) refl one)
  call_happens (call.Create n) =
      alone (call.Create n) refl (one_made (Leaves (counted core)) TellsNone _ _ (puts (counted core) actor (Ready answer.Refused) (counted core) up refl refl one) refl)
  call_happens (call.Join n) = alone (call.Join n) refl (joins (counted core) actor up (is_ended (state_of core n.0)) n (counted core) one)
  call_happens (call.Kill n) = alone (call.Kill n) refl (killing (counted core) actor n (counted core) up one)
  call_happens (call.Suspend n) = alone (call.Suspend n) refl (now (counted core) actor up (call.Suspend n) 0 answer.Done (suspended_to true n (counted core)) refl (suspended_leaves (counted core) true n (counted core) one))
  call_happens (call.Resume n) = alone (call.Resume n) refl (now (counted core) actor up (call.Resume n) 0 answer.Done (suspended_to false n (counted core)) refl (suspended_leaves (counted core) false n (counted core) one))
  call_happens call.Yield = alone call.Yield refl (now (counted core) actor up call.Yield 0 answer.Done (counted core) refl one)
  call_happens call.Exit =
      alone call.Exit refl (joiners_kept (Leaves (counted core)) TellsNone (replying (counted core)) actor (with_actor_ended actor (counted core)) (puts (counted core) actor Ended (counted core) up refl refl one))

-- ---- a time advance
pass_replying : (old : List Actor) → Replying (λ core. Keeps old core.actors) TellsNone
pass_replying old = record {
  replies = λ actor blocking bytes given core is k.
      let b = blocked_up (state_of core actor) blocking is in
      one_made (λ c. Keeps old c.actors) TellsNone _ _ (put_keeps old core.actors (actor - 1) (record (actor_at core.actors actor) { state = Ready given }) refl refl b.0 k)
      (tells_none (record_of actor blocking.what blocking.since bytes given core.under.date) (sym b.1 ∙ k.waits (actor - 1)));
}

pub pass_keeps : (setup : Setup) (core : Core) → Keeps core.actors core.actors → Kept (λ c. Keeps core.actors c.actors) TellsNone (pass_of setup core)
pass_keeps setup core k =
    pass_kept (λ c. Keeps core.actors c.actors) TellsNone (finishes_kept (λ c. Keeps core.actors c.actors) TellsNone (record { answered = pass_replying core.actors; over = λ over serial mid l. l }))
    (record { moved = λ under turns mid long l. l; counted = λ mid l. l }) setup core k
