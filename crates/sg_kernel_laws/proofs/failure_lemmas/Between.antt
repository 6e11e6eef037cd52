-- What holds between the cores before and behind a step, with the records that it makes.
use Rattle.std.proofs.Common.{◌≡◌, ℕ, ◌+◌, ◌==◌, Bool, true, false, cond, Option, None, Some, Result, Ok, Err, List, [], ◌∷◌, ◌++◌, length, refl}
use Rattle.sg_base.specs.declared.awaits.Await.{Await}
use Rattle.sg_base.specs.declared.awaits.Party.{Party}
use Rattle.sg_base.specs.declared.awaits.Party.TheVariants as party
use Rattle.sg_base.specs.declared.call.Action.{Action}
use Rattle.sg_base.specs.declared.call.Answer.{Answer}
use Rattle.sg_base.specs.declared.call.Answer.TheVariants as answer
use Rattle.sg_base.specs.declared.call.Call.{Call}
use Rattle.sg_base.specs.declared.call.Call.TheVariants as call
use Rattle.sg_base.specs.declared.ids.ActorId.{ActorId}
use Rattle.sg_base.specs.declared.trace_record.Record.{Record}
use Rattle.sg_activity.specs.Links.{is_off}
use Rattle.sg_activity.specs.Task.{Task, is_cut, phase_after, task_at}
use Rattle.sg_activity.specs.Underway.{due_in, hits}
use Rattle.sg_base.specs.Turn.{actor_of}
use Rattle.sg_mailbox.specs.declared.sides.Post.{Post}
use Rattle.sg_mailbox.specs.declared.sides.Side.{Side}
use Rattle.sg_mailbox.specs.Posts.{partner}
use Rattle.sg_profile.specs.Profiles.{rows_due}
use Rattle.sg_requests.specs.Requested.{oldest, queue_at, queues_without_oldest}
use Rattle.sg_route.specs.declared.router.RouteFault.{RouteFault}
use Rattle.sg_route.specs.Roads.{Roads}
use Rattle.sg_route.specs.Route.{Route}
use Rattle.sg_actor_states.specs.declared.state.Blocking.{Blocking}
use Rattle.sg_actor_states.specs.declared.state.State.TheVariants.{Ended}
use Rattle.sg_actor_states.specs.Actors.{blocking_in, is_alive, is_ended, joiners, put_state}
use Rattle.sg_actor_states.specs.Records.{record_of}
use Rattle.sg_sync.specs.declared.outcome.Outcome.{Outcome}
use Rattle.sg_sync.specs.declared.outcome.Outcome.TheVariants.{GoesOn, Waits, Refused}
use Rattle.sg_sync.specs.Objects.{Done, locked, unlocked, acquired, released, arrived}
use Rattle.sg_mailbox.specs.declared.owners.How.{How}
use Rattle.sg_mailbox.specs.declared.owners.How.TheVariants as how
use Rattle.sg_mailbox.specs.declared.owners.Whose.{Whose}
use Rattle.sg_mailbox.specs.declared.owners.Whose.TheVariants.{Over, Alone, Posted, Pair}
use Rattle.sg_kernel_calls.specs.declared.meetings.Comer.{Comer}
use Rattle.sg_kernel_calls.specs.declared.stop.Stop.{Stop}
use Rattle.sg_kernel_calls.specs.declared.stop.Stop.TheVariants.{Budget}
use Rattle.sg_kernel_calls.specs.Answers.{answer_to, answers, answers_by, answers_side, bare_side, finishes, for_receiver, awaits_side, side_of, tells_bytes, with_over}
use Rattle.sg_kernel_calls.specs.Calls.{answer_of_ask, answered, answered_call, computes, executed, executes, told, with_execution}
use Rattle.sg_kernel_calls.specs.Kills.{awaited, gives_up, gives_up_by, kill_done, kills, kills_alive, withdrawn}
use Rattle.sg_kernel_calls.specs.Lives.{begins, created, joins_by, with_actor_ended}
use Rattle.sg_kernel_calls.specs.Locks.{all_wake, caller_first, caller_gets, caller_last, joiners_wake, wakes, wakes_from, with_objects}
use Rattle.sg_kernel_calls.specs.Meetings.{answer_of_over, both_fail, comer_fails, comes, comes_by, fails_with, joined, joins_over, joins_with, other_fails, posted, posts_at, receiver_of, receives_by, route_between, sender_of, sends_by, takes_part, takes_part_failed, waits_by, waits_until, way_with}
use Rattle.sg_kernel_calls.specs.Steps.{Step, all_of, and_then, at_once, blocked_by, counted, each, follows, goes_on, readied, replied, stops}
use Rattle.sg_kernel_calls.specs.Suspensions.{held_by, held_if, held_on, suspended_to}
use Rattle.sg_kernel.specs.Passes.{all_fail, changes, core_later, ends, ends_by, ends_in, ends_one, enters_one, entry_stretches, fails, fails_one, next_span, pass_at, pass_of, settled, stretches}
use Rattle.sg_kernel_calls.specs.Setup.{Setup}
use Rattle.sg_kernel_calls.specs.World.{Core, host_of, is_suspended, state_of, whose_at, with_suspended}

-- it holds where the actors do the same and no record is made, for one stretch and the next, and for an answer to an actor that is blocked
pub record Between (R : Core → Core → List Record → Type 0) : Type 0 where
  pub still : (core later : Core) → later.actors ≡ core.actors → R core later []
  pub next : (a b c : Core) (first second : List Record) → R a b first → R b c second → R a c (first ++ second)
  pub replies : (actor : ℕ) (blocking : Blocking) (bytes : ℕ) (given : Answer) (core : Core) → blocking_in (state_of core actor) ≡ Some blocking → R core (readied actor given core) (record_of actor blocking.what blocking.since bytes given core.under.date ∷ [])

abbrev pub Holds : (Core → Core → List Record → Type 0) → Core → Step → Type 0
Holds R core step = R core step.core step.made

module _ (R : Core → Core → List Record → Type 0) (b : Between R) where
  pub same : (core : Core) (why : Option Stop) → Holds R core (record { core = core; made = []; stop = why })
  same core why = b.still core core refl

  pub either : (core : Core) (t : Bool) (one other : Step) → Holds R core one → Holds R core other → Holds R core (cond t one other)
  either core true one other h k = h
  either core false one other h k = k

  pub both : (core : Core) (first : Step) (more : Core → Step) → Holds R core first → Holds R first.core (more first.core) → Holds R core (and_then first more)
  both core first more h k = by first.stop
    where
      by : (o : Option Stop) → Holds R core (follows o first (more first.core))
      by None = b.next core first.core (more first.core).core first.made (more first.core).made h k
      by (Some why) = h

  -- from a core whose actors do the same
  pub from : (core other : Core) (step : Step) → other.actors ≡ core.actors → Holds R other step → Holds R core step
  from core other step is h = b.next core other step.core [] step.made (b.still core other is) h

  pub each_so : {X : Type 0} (does : X → Core → Step) → ((x : X) (core : Core) → Holds R core (does x core)) → (xs : List X) (core : Core) → Holds R core (each does xs core)
  unfolding each
  each_so does one [] core = same core None
  each_so does one (x ∷ xs) core = both core (does x core) (each does xs) (one x core) (each_so does one xs (does x core).core)

  pub none_so : (core : Core) → Holds R core (all_of [] core)
  unfolding all_of
  none_so core = same core None

  pub more_so : (first : Core → Step) (rest : List (Core → Step)) (core : Core) → Holds R core (first core) → ((mid : Core) → Holds R mid (all_of rest mid)) → Holds R core (all_of (first ∷ rest) core)
  unfolding all_of
  more_so first rest core h k = both core (first core) (all_of rest) h (k (first core).core)

  pub unless : (setup : Setup) (core : Core) (step : Step) → Holds R core step → Holds R core (cond (core.events == setup.budget) (stops core [] Budget) step)
  unless setup core step h = either core (core.events == setup.budget) (stops core [] Budget) step (same core (Some Budget)) h

  -- ---- those that are blocked are answered
  pub wake_so : (actor : ActorId) (core : Core) → Holds R core (wakes actor core)
  wake_so actor core = by (blocking_in (state_of core actor.0)) refl
    where
      by : (found : Option Blocking) → blocking_in (state_of core actor.0) ≡ found → Holds R core (wakes_from found actor core)
      by None e = same core None
      by (Some blocking) e = b.replies actor.0 blocking 0 answer.Done core e

  pub all_so : (actors : List ActorId) (core : Core) → Holds R core (all_wake actors core)
  all_so actors core = each_so wakes wake_so actors core

  pub joiners_so : (target : ℕ) (core : Core) → Holds R core (joiners_wake target core)
  joiners_so target core = all_so (joiners target 1 core.actors) core

  pub side_so : (over : How) (serial : ℕ) (side : Party) (given : Side) (core : Core) → Holds R core (answers_side over serial side given core)
  side_so over serial side given core = by (blocking_in (state_of core given.actor.0)) refl
    where
      by : (found : Option Blocking) → blocking_in (state_of core given.actor.0) ≡ found → Holds R core (answers_by over serial side given found core)
      by None e = same core None
      by (Some blocking) e =
          either core (awaits_side serial side blocking.on)
          (replied given.actor.0 blocking.what blocking.since (cond (tells_bytes blocking.what) given.bytes 0) (answer_to over blocking.what given.msg) core) (goes_on core [])
          (b.replies given.actor.0 blocking (cond (tells_bytes blocking.what) given.bytes 0) (answer_to over blocking.what given.msg) core e) (same core None)

  pub answers_so : (over : How) (serial : ℕ) (whose : Whose) (core : Core) → Holds R core (answers over serial whose core)
  answers_so over serial (Over before) core = same core None
  answers_so over serial (Alone actor) core = side_so over serial party.Alone (bare_side actor.0) core
  answers_so over serial (Posted mailbox sends side) core = same core None
  answers_so over serial (Pair sender receiver) core =
      let first = answers_side over serial party.Sender sender core in
      both core first (answers_side over serial party.Receiver (for_receiver sender receiver)) (side_so over serial party.Sender sender core) (side_so over serial party.Receiver (for_receiver sender receiver) first.core)

  pub finish_so : (over : How) (serial : ℕ) (core : Core) → Holds R core (finishes over serial core)
  finish_so over serial core = from core (with_over over serial core) (finishes over serial core) refl (answers_so over serial (whose_at core serial) (with_over over serial core))

  pub give_up_so : (serial : ℕ) (core : Core) → Holds R core (gives_up serial core)
  give_up_so serial core = by (whose_at core serial)
    where
      by : (whose : Whose) → Holds R core (gives_up_by whose serial core)
      by (Over before) = same core None
      by (Alone actor) = finish_so how.Failed serial core
      by (Posted mailbox sends side) = finish_so how.Failed serial core
      by (Pair sender receiver) = finish_so how.Failed serial core

  -- ---- a time advance
  counted_so : (over : How) (serial : ℕ) (core : Core) → Holds R core (finishes over serial (counted core))
  counted_so over serial core = from core (counted core) (finishes over serial (counted core)) refl (finish_so over serial (counted core))

  fail_so : (setup : Setup) (serial : ℕ) (core : Core) → Holds R core (fails setup serial core)
  fail_so setup serial core = unless setup core (fails_one serial core) (counted_so how.Failed serial core)

  change_so : (setup : Setup) (row : ℕ) (core : Core) → Holds R core (changes setup row core)
  change_so setup row core =
      unless setup core (all_of (entry_stretches setup row) core)
      (more_so (enters_one setup row) (all_fail setup ∷ []) core (b.still core (enters_one setup row core).core refl)
      (λ mid. more_so (all_fail setup) [] mid (each_so (fails setup) (fail_so setup) (hits mid.under) mid) none_so))

  end_so : (setup : Setup) (serial : ℕ) (core : Core) → Holds R core (ends setup serial core)
  end_so setup serial core = by (task_at core.under.tasks serial)
    where
      next : (after : Option Task) → Holds R core (ends_in serial after (counted core))
      next None = counted_so how.Done serial core
      next (Some task) = b.still core (ends_in serial (Some task) (counted core)).core refl

      by : (o : Option Task) → Holds R core (ends_by setup serial o core)
      by None = same core None
      by (Some task) = unless setup core (ends_one serial core) (next (phase_after (task_at core.under.tasks serial)))

  date_so : (setup : Setup) (core : Core) (span : Option ℕ) → Holds R core (pass_at setup core span)
  date_so setup core None = b.still core core refl
  date_so setup core (Some span) =
      let rows = rows_due (core.under.date + span) setup.profiles core.turns in
      let due = due_in span core.under in
      let moved = core_later span core in
      unless setup core (all_of (stretches setup span core) moved)
      (from core moved (all_of (stretches setup span core) moved) refl
      (more_so (each (changes setup) rows) (each (ends setup) due ∷ []) moved (each_so (changes setup) (change_so setup) rows moved)
      (λ mid. more_so (each (ends setup) due) [] mid (each_so (ends setup) (end_so setup) due mid) none_so)))

  pub pass_so : (setup : Setup) (core : Core) → Holds R core (pass_of setup core)
  pass_so setup core = from core (settled core) (pass_of setup core) refl (date_so setup (settled core) (next_span setup (settled core)))

-- ---- calls
-- whether the answer is that the call failed
abbrev pub fails_by : Answer → Bool
fails_by answer.Failed = true
fails_by other = false

-- it holds too of an answer to the caller, in a record, or without one where that doesn't fail; and where an actor is blocked, has ended, begins, or is suspended
pub record Calling (R : Core → Core → List Record → Type 0) : Type 0 where
  pub between : Between R
  pub now : (actor : ℕ) (what : Call) (bytes : ℕ) (given : Answer) (core : Core) → R core (readied actor given core) (record_of actor what core.under.date bytes given core.under.date ∷ [])
  pub silent : (actor : ℕ) (given : Answer) (core : Core) → fails_by given ≡ false → R core (readied actor given core) []
  pub blocks : (actor : ℕ) (what : Call) (on : Option Await) (core : Core) → R core (blocked_by actor what on core) []
  pub gone : (actor : ℕ) (core later : Core) → later.actors ≡ put_state core.actors actor Ended → R core later []
  pub marks : (actor : ℕ) (on : Bool) (core : Core) → R core (with_suspended actor on core) []

module _ (R : Core → Core → List Record → Type 0) (c : Calling R) where
  abbrev b : Between R
  b = c.between

  -- from a core whose actors do the same
  now_from : (core other : Core) (actor : ℕ) (what : Call) (bytes : ℕ) (given : Answer) → other.actors ≡ core.actors → Holds R core (at_once actor what bytes given other)
  now_from core other actor what bytes given is = from R b core other (at_once actor what bytes given other) is (c.now actor what bytes given other)

  blocks_from : (core other : Core) (actor : ℕ) (what : Call) (on : Option Await) → other.actors ≡ core.actors → Holds R core (goes_on (blocked_by actor what on other) [])
  blocks_from core other actor what on is = from R b core other (goes_on (blocked_by actor what on other) []) is (c.blocks actor what on other)

  caller_so : (outcome : Outcome) (actor : ℕ) (what : Call) (core : Core) → Holds R core (caller_gets outcome actor what core)
  caller_so GoesOn actor what core = c.now actor what 0 answer.Done core
  caller_so Waits actor what core = c.blocks actor what None core
  caller_so Refused actor what core = c.now actor what 0 answer.Refused core

  first_so : (done : Done) (actor : ℕ) (what : Call) (core : Core) → Holds R core (caller_first done actor what (counted core))
  first_so done actor what core =
      let start = with_objects done (counted core) in
      let first = caller_gets done.outcome actor what start in
      from R b core start (caller_first done actor what (counted core)) refl
      (both R b start first (all_wake done.woken) (caller_so done.outcome actor what start) (all_so R b done.woken first.core))

  last_so : (done : Done) (actor : ℕ) (what : Call) (core : Core) → Holds R core (caller_last done actor what (counted core))
  last_so done actor what core =
      let start = with_objects done (counted core) in
      let first = all_wake done.woken start in
      from R b core start (caller_last done actor what (counted core)) refl
      (both R b start first (caller_gets done.outcome actor what) (all_so R b done.woken start) (caller_so done.outcome actor what first.core))

  -- ---- communications
  part_so : (waits : Bool) (comer : Comer) (serial : ℕ) (core other : Core) → other.actors ≡ core.actors → Holds R core (takes_part waits comer serial other)
  part_so true comer serial core other is = blocks_from core other comer.side.actor.0 comer.what _ is
  part_so false comer serial core other is = now_from core _ comer.side.actor.0 comer.what comer.side.bytes answer.Done is

  failed_so : (waits : Bool) (comer : Comer) (serial bytes : ℕ) (core : Core) → Holds R core (takes_part_failed waits comer serial bytes core)
  failed_so true comer serial bytes core = c.now comer.side.actor.0 comer.what bytes answer.Failed core
  failed_so false comer serial bytes core = part_so false comer serial core core refl

  other_so : (comer : Comer) (serial : ℕ) (other : Side) (core : Core) → Holds R core (other_fails comer serial other core)
  other_so comer serial other core =
      either R b core comer.sends (answers_side how.Failed serial party.Receiver (for_receiver comer.side other) core) (answers_side how.Failed serial party.Sender other core)
      (side_so R b how.Failed serial party.Receiver (for_receiver comer.side other) core) (side_so R b how.Failed serial party.Sender other core)

  both_so : (comer : Comer) (serial : ℕ) (other : Side) (core : Core) → Holds R core (both_fail comer serial other core)
  both_so comer serial other core =
      let own = comer_fails comer serial other core in
      let theirs = other_fails comer serial other core in
      either R b core comer.sends (and_then own (other_fails comer serial other)) (and_then theirs (comer_fails comer serial other))
      (both R b core own (other_fails comer serial other) (failed_so comer.waits comer serial (sender_of comer other).bytes core) (other_so comer serial other own.core))
      (both R b core theirs (comer_fails comer serial other) (other_so comer serial other core) (failed_so comer.waits comer serial (sender_of comer other).bytes theirs.core))

  route_so : (found : Result Route RouteFault) (setup : Setup) (comer : Comer) (post : Post) (core : Core) → Holds R core (joins_over found setup comer post core)
  route_so (Err why) setup comer post core = c.between.still core core refl
  route_so (Ok route) setup comer post core =
      either R b core (is_cut core.under.on (way_with route setup comer post.side)) (fails_with comer post.serial post.side (counted core)) (joins_with route setup comer post.serial post.side (counted core))
      (from R b core (with_over how.Failed post.serial.0 (counted core)) (fails_with comer post.serial post.side (counted core)) refl (both_so comer post.serial.0 post.side (with_over how.Failed post.serial.0 (counted core))))
      (part_so comer.waits comer post.serial.0 core (joined setup post.serial.0 route (sender_of comer post.side) (receiver_of comer post.side) (counted core)) refl)

  comes_so : (roads : Roads) (setup : Setup) (comer : Comer) (core : Core) → Holds R core (comes roads setup comer core)
  comes_so roads setup comer core = by (partner comer.sends (posts_at comer.mailbox core))
    where
      by : (found : Option Post) → Holds R core (comes_by found roads setup comer core)
      by None = part_so comer.waits comer (length core.under.tasks + 1) core (posted comer (counted core)) refl
      by (Some post) = route_so (route_between roads setup (sender_of comer post.side) (receiver_of comer post.side)) setup comer post core

  until_so : (over : Option Answer) (actor : ℕ) (on : Await) (core other : Core) → other.actors ≡ core.actors → Holds R core (waits_until over actor on other)
  until_so (Some over) actor on core other is = now_from core other actor call.Wait 0 over is
  until_so None actor on core other is = blocks_from core other actor call.Wait (Some on) is

  wait_so : (found : Option Await) (actor : ℕ) (core : Core) → Holds R core (waits_by found actor (counted core))
  wait_so None actor core = now_from core (counted core) actor call.Wait 0 answer.Refused refl
  wait_so (Some on) actor core = until_so (answer_of_over (whose_at core on.serial.0)) actor on core (record (counted core) { requests = queues_without_oldest core.requests actor }) refl

  -- ---- executions
  held_so : (t : Bool) (serial : ℕ) (core : Core) → (held_if t serial core).actors ≡ core.actors
  held_so true serial core = refl
  held_so false serial core = refl

  compute_so : (setup : Setup) (actor flops priority : ℕ) (core : Core) → Holds R core (computes setup actor flops priority (counted core))
  compute_so setup actor flops priority core =
      let began = with_execution setup actor flops priority (counted core) in
      either R b core (is_off core.under.on.hosts (host_of setup actor)) (at_once actor (call.Compute flops priority) 0 answer.Failed (counted core)) (executes setup actor flops priority (counted core))
      (now_from core (counted core) actor (call.Compute flops priority) 0 answer.Failed refl)
      (b.next core began (executed setup actor flops priority (counted core)) [] []
      (blocks_from core _ actor (call.Compute flops priority) _ refl)
      (b.still began (executed setup actor flops priority (counted core)) (held_so (is_suspended core actor) (length core.under.tasks + 1) began)))

  -- ---- other actors
  join_so : (ended : Bool) (actor : ℕ) (target : ActorId) (core : Core) → Holds R core (joins_by ended actor target (counted core))
  join_so true actor target core = now_from core (counted core) actor (call.Join target) 0 answer.Done refl
  join_so false actor target core = blocks_from core (counted core) actor (call.Join target) None refl

  done_so : (actor : ℕ) (target : ActorId) (core : Core) → Holds R core (kill_done actor target core)
  done_so actor target core = either R b core (actor == target.0) (goes_on core []) (at_once actor (call.Kill target) 0 answer.Done core) (same R b core None) (c.now actor (call.Kill target) 0 answer.Done core)

  kill_so : (actor : ℕ) (target : ActorId) (core : Core) → Holds R core (kills actor target (counted core))
  kill_so actor target core =
      let start = withdrawn target (counted core) in
      let serials = awaited target (counted core) in
      either R b core (is_alive (state_of core target.0)) (kills_alive actor target (counted core)) (at_once actor (call.Kill target) 0 answer.Done (counted core))
      (b.next core start (kills_alive actor target (counted core)).core [] (kills_alive actor target (counted core)).made (c.gone target.0 core start refl)
      (more_so R b (kill_done actor target) (each gives_up serials ∷ joiners_wake target.0 ∷ []) start (done_so actor target start)
      (λ one. more_so R b (each gives_up serials) (joiners_wake target.0 ∷ []) one (each_so R b gives_up (give_up_so R b) serials one)
      (λ two. more_so R b (joiners_wake target.0) [] two (joiners_so R b target.0 two) (none_so R b)))))
      (now_from core (counted core) actor (call.Kill target) 0 answer.Done refl)

  held_on_so : (on : Bool) (found : Option Blocking) (core : Core) → (held_by on found core).actors ≡ core.actors
  held_on_so on None core = refl
  held_on_so on (Some blocking) core = by blocking.on
    where
      by : (await : Option Await) → (held_on on await core).actors ≡ core.actors
      by None = refl
      by (Some await) = refl

  suspended_so : (on : Bool) (target : ActorId) (core : Core) → R core (suspended_to on target core) []
  suspended_so on target core = by (is_alive (state_of core target.0))
    where
      marked : Core
      marked = with_suspended target.0 on core

      by : (t : Bool) → R core (cond t (held_by on (blocking_in (state_of core target.0)) marked) core) []
      by true = b.next core marked (held_by on (blocking_in (state_of core target.0)) marked) [] [] (c.marks target.0 on core) (b.still marked _ (held_on_so on (blocking_in (state_of core target.0)) marked))
      by false = b.still core core refl

  suspend_so : (on : Bool) (what : Call) (actor : ℕ) (target : ActorId) (core : Core) → Holds R core (at_once actor what 0 answer.Done (suspended_to on target (counted core)))
  suspend_so on what actor target core =
      let turned = suspended_to on target (counted core) in
      b.next core turned (readied actor answer.Done turned) [] _ (b.next core (counted core) turned [] [] (b.still core (counted core) refl) (suspended_so on target (counted core))) (c.now actor what 0 answer.Done turned)

  pub call_so : (roads : Roads) (setup : Setup) (core : Core) (actor : ℕ) (what : Call) → Holds R core (answered_call roads setup core actor what)
  call_so roads setup core actor call.Ask = from R b core (counted core) (goes_on (readied actor answer.Refused (counted core)) []) refl (c.silent actor answer.Refused (counted core) refl)
  call_so roads setup core actor (call.Compute n p) = compute_so setup actor n p core
  call_so roads setup core actor (call.Sleep n) = blocks_from core _ actor (call.Sleep n) _ refl
  call_so roads setup core actor (call.Send m n g r) = comes_so roads setup (sends_by (side_of actor n g r) (call.Send m n g r) true m) core
  call_so roads setup core actor (call.Recv m) = comes_so roads setup (receives_by actor (call.Recv m) true m) core
  call_so roads setup core actor (call.ISend m n g r) = comes_so roads setup (sends_by (side_of actor n g r) (call.ISend m n g r) false m) core
  call_so roads setup core actor (call.IRecv m) = comes_so roads setup (receives_by actor (call.IRecv m) false m) core
  call_so roads setup core actor call.Wait = wait_so (oldest (queue_at core.requests actor)) actor core
  call_so roads setup core actor (call.Lock n) = first_so (locked (actor_of actor) n core.objects) actor (call.Lock n) core
  call_so roads setup core actor (call.Unlock n) = first_so (unlocked (actor_of actor) n core.objects) actor (call.Unlock n) core
  call_so roads setup core actor (call.Acquire n) = first_so (acquired (actor_of actor) n core.objects) actor (call.Acquire n) core
  call_so roads setup core actor (call.Release n) = first_so (released n core.objects) actor (call.Release n) core
  call_so roads setup core actor call.Barrier = last_so (arrived (actor_of actor) core.objects) actor call.Barrier core
  call_so roads setup core actor (call.Create n) = now_from core (counted core) actor (call.Create n) 0 answer.Refused refl
  call_so roads setup core actor (call.Join n) = join_so (is_ended (state_of core n.0)) actor n core
  call_so roads setup core actor (call.Kill n) = kill_so actor n core
  call_so roads setup core actor (call.Suspend n) = suspend_so true (call.Suspend n) actor n core
  call_so roads setup core actor (call.Resume n) = suspend_so false (call.Resume n) actor n core
  call_so roads setup core actor call.Yield = now_from core (counted core) actor call.Yield 0 answer.Done refl
  call_so roads setup core actor call.Exit =
      (let gone = with_actor_ended actor (counted core) in b.next core gone (joiners_wake actor gone).core [] (joiners_wake actor gone).made (c.gone actor core gone refl) (joiners_so R b actor gone))

  pub answered_so : (roads : Roads) (setup : Setup) (core : Core) (actor : ℕ) (what : Call) → Holds R core (answered roads setup core actor what)
  answered_so roads setup core actor what = unless R b setup core (answered_call roads setup core actor what) (call_so roads setup core actor what)

  ask_answer : (action : Option Action) → fails_by (answer_of_ask action) ≡ false
  ask_answer None = refl
  ask_answer (Some action) = refl

  pub told_so : (setup : Setup) (core : Core) (actor : ℕ) (action : Option Action) → Holds R core (told setup core actor action)
  told_so setup core actor action =
      unless R b setup core (goes_on (readied actor (answer_of_ask action) (counted core)) [])
      (from R b core (counted core) (goes_on (readied actor (answer_of_ask action) (counted core)) []) refl (c.silent actor (answer_of_ask action) (counted core) (ask_answer action)))

  pub created_so : (given : Bool) (actor : ℕ) (target : ActorId) (core : Core) → Holds R core (created given actor target core)
  created_so true actor target core =
      (let begun = begins target (counted core) in
      b.next core begun (readied actor answer.Done begun) [] _
      (b.next core (counted core) begun [] [] (b.still core (counted core) refl) (c.silent target.0 answer.Start (counted core) refl)) (c.now actor (call.Create target) 0 answer.Done begun))
  created_so false actor target core = now_from core (counted core) actor (call.Create target) 0 answer.Refused refl
