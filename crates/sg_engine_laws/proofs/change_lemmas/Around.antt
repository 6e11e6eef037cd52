-- What stays as phases change and as objects are called on stays with each call, and from the date of a time advance
-- on.
use Rattle.std.proofs.Common.{◌≡◌, ℕ, ◌+◌, ◌==◌, Bool, true, false, cond, List, [], ◌∷◌, length, Option, None, Some, Result, Ok, Err, refl, arith}
use Rattle.sg_base.specs.declared.awaits.Await.{Await}
use Rattle.sg_base.specs.declared.awaits.Party.TheVariants as party
use Rattle.sg_base.specs.declared.call.Action.{Action}
use Rattle.sg_base.specs.declared.call.Answer.{Answer}
use Rattle.sg_base.specs.declared.call.Answer.TheVariants as answer
use Rattle.sg_base.specs.declared.call.Call.{Call}
use Rattle.sg_base.specs.declared.call.Call.TheVariants as call
use Rattle.sg_base.specs.declared.ids.ActorId.{ActorId}
use Rattle.sg_activity.specs.Links.{is_off}
use Rattle.sg_activity.specs.Task.{Task, is_cut, phase_after, task_at}
use Rattle.sg_activity.specs.Underway.{Underway, gone_on, held, hits, is_computing, is_kept, with_bandwidth, with_host_on, with_link_on, with_speed, with_task}
use Rattle.sg_mailbox.specs.declared.sides.Post.{Post}
use Rattle.sg_mailbox.specs.declared.sides.Side.{Side}
use Rattle.sg_mailbox.specs.Posts.{partner}
use Rattle.sg_profile.specs.declared.entry.Entry.{Entry}
use Rattle.sg_profile.specs.declared.entry.Entry.TheVariants as entry
use Rattle.sg_profile.specs.Profiles.{entry_at}
use Rattle.sg_requests.specs.Requested.{oldest, queue_at, queues_without_oldest}
use Rattle.sg_route.specs.declared.router.RouteFault.{RouteFault}
use Rattle.sg_route.specs.Roads.{Roads}
use Rattle.sg_route.specs.Route.{Route}
use Rattle.sg_platform_rows.specs.declared.network.Network.{Network}
use Rattle.sg_platform_rows.specs.Network.{bandwidth_over}
use Rattle.sg_actor_states.specs.declared.state.Blocking.{Blocking}
use Rattle.sg_actor_states.specs.Actors.{blocking_in, is_alive, is_ended}
use Rattle.sg_sync.specs.declared.outcome.Outcome.{Outcome}
use Rattle.sg_sync.specs.declared.outcome.Outcome.TheVariants.{GoesOn, Waits, Refused}
use Rattle.sg_sync.specs.Objects as sync
use Rattle.sg_sync.specs.Objects.{Done, Objects, locked, unlocked, acquired, released, arrived}
use Rattle.sg_sync.proofs.Losses.{arrived_keeps}
use Rattle.sg_base.specs.declared.trace_record.Record.{Record}
use Rattle.sg_kernel_calls.specs.declared.meetings.Comer.{Comer}
use Rattle.sg_mailbox.specs.declared.owners.How.TheVariants as how
use Rattle.sg_kernel_calls.specs.declared.stop.Stop.{Stop}
use Rattle.sg_kernel_calls.specs.declared.stop.Stop.TheVariants.{Budget}
use Rattle.sg_kernel_calls.specs.Answers.{answers_side, for_receiver, side_of, with_over}
use Rattle.sg_kernel_calls.specs.Calls.{answer_of_ask, answered, answered_call, computes, executes, told, with_execution, with_sleep}
use Rattle.sg_kernel_calls.specs.Kills.{awaited, gives_up, kill_done, kills, kills_alive, withdrawn}
use Rattle.sg_kernel_calls.specs.Lives.{created, joins_by, with_actor_ended}
use Rattle.sg_kernel_calls.specs.Locks.{all_wake, caller_first, caller_gets, caller_last, joiners_wake, with_objects}
use Rattle.sg_kernel_calls.specs.Meetings.{answer_of_over, both_fail, comer_fails, comes, comes_by, fails_with, joined, joins_over, joins_with, other_fails, posted, posts_at, receiver_of, receives_by, route_between, sender_of, sends_by, takes_part, takes_part_failed, waits_by, waits_until, way_with}
use Rattle.sg_kernel.specs.Passes.{all_fail, applied_if, changes, ends, ends_by, ends_in, ends_one, enters_one, entry_stretches, fails}
use Rattle.sg_kernel_calls.specs.Steps.{Step, goes_on, stops, counted, and_then, each, all_of, at_once, readied}
use Rattle.sg_kernel_calls.specs.Suspensions.{held_by, held_if, held_on, held_to, suspended_to}
use Rattle.sg_kernel_calls.specs.Setup.{Setup}
use Rattle.sg_kernel_calls.specs.World.{Core, host_of, is_suspended, state_of, whose_at, with_suspended}
use Rattle.sg_kernel_laws.proofs.actor_lemmas.Kept.{Closed, Kept, Replying, all_kept, both, each_kept, either, finishes_kept, gives_up_kept, joiners_kept, more_kept, none_kept, one_made, side_kept}
use Rattle.sg_engine_laws.proofs.await_lemmas.Objects.{AtMost, acquired_most, locked_most, released_most, unlocked_most}
use Rattle.sg_engine_laws.proofs.await_lemmas.Over.{anything}
use Rattle.sg_base.specs.Turn.{actor_of}

-- what stays as phases change, at one date and with the energies that hosts have used
abbrev pub Lasting : (Underway → Objects → Type 0) → Type 0
Lasting R = (under later : Underway) (objects : Objects) → later.date ≡ under.date → later.energy ≡ under.energy → R under objects → R later objects

-- what stays as this caller calls on objects, and as one leaves their queues
pub record Served (R : Underway → Objects → Type 0) (caller : ℕ) : Type 0 where
  pub does : (under : Underway) (objects : Objects) (done : Done) → AtMost (actor_of caller) objects done → R under objects → R under done.after
  pub left : (under : Underway) (objects : Objects) (target : ActorId) → R under objects → R under (sync.after_withdrawal target objects)

module _ (R : Underway → Objects → Type 0) (lasting : Lasting R) (May : ℕ → Type 0) (served : (caller : ℕ) → May caller → Served R caller) where
  abbrev pub P : Core → Type 0
  P core = R core.under core.objects

  abbrev pub Still : Step → Type 0
  Still step = Kept P anything step

  well : (core : Core) (made : List Record) (why : Option Stop) → P core → Still (record { core = core; made = made; stop = why })
  well core made why p = record { holds = p; made = λ i d within. tt }

  replying : Replying P anything
  replying = record { replies = λ actor blocking bytes given core is p. one_made P anything _ _ p tt }

  closed : Closed P anything
  closed = record { answered = replying; over = λ over serial core p. lasting core.under (with_over over serial core).under core.objects refl refl p }

  -- ---- executions
  held_kept : (b : Bool) (serial : ℕ) (core : Core) → P core → P (held_if b serial core)
  held_kept true serial core p = lasting core.under (held serial core.under) core.objects refl refl p
  held_kept false serial core p = p

  computes_kept : (setup : Setup) (actor flops priority : ℕ) (core : Core) → P core → Still (computes setup actor flops priority core)
  computes_kept setup actor flops priority core p =
      either P anything (is_off core.under.on.hosts (host_of setup actor)) (at_once actor (call.Compute flops priority) 0 answer.Failed core) (executes setup actor flops priority core)
      (well _ _ None p) (well _ _ None (held_kept (is_suspended core actor) (length core.under.tasks + 1) with_one (lasting core.under with_one.under core.objects refl refl p)))
    where
      with_one : Core
      with_one = with_execution setup actor flops priority core

  -- ---- communications
  part_kept : (waits : Bool) (comer : Comer) (serial : ℕ) (core : Core) → P core → Still (takes_part waits comer serial core)
  part_kept true comer serial core p = well _ _ None p
  part_kept false comer serial core p = well _ _ None p

  part_failed_kept : (waits : Bool) (comer : Comer) (serial bytes : ℕ) (core : Core) → P core → Still (takes_part_failed waits comer serial bytes core)
  part_failed_kept true comer serial bytes core p = well _ _ None p
  part_failed_kept false comer serial bytes core p = well _ _ None p

  other_kept : (comer : Comer) (serial : ℕ) (other : Side) (core : Core) → P core → Still (other_fails comer serial other core)
  other_kept comer serial other core p =
      either P anything comer.sends (answers_side how.Failed serial party.Receiver (for_receiver comer.side other) core) (answers_side how.Failed serial party.Sender other core)
      (side_kept P anything replying how.Failed serial party.Receiver (for_receiver comer.side other) core p) (side_kept P anything replying how.Failed serial party.Sender other core p)

  fails_kept : (comer : Comer) (serial : ℕ) (other : Side) (core : Core) → P core → Still (both_fail comer serial other core)
  fails_kept comer serial other core p =
      let own = comer_fails comer serial other in
      let theirs = other_fails comer serial other in
      either P anything comer.sends (and_then (own core) theirs) (and_then (theirs core) own)
      (both P anything (own core) theirs (part_failed_kept comer.waits comer serial (sender_of comer other).bytes core p) (other_kept comer serial other (own core).core))
      (both P anything (theirs core) own (other_kept comer serial other core p) (part_failed_kept comer.waits comer serial (sender_of comer other).bytes (theirs core).core))

  route_kept : (found : Result Route RouteFault) (setup : Setup) (comer : Comer) (post : Post) (core : Core) → P core → Still (joins_over found setup comer post core)
  route_kept (Err why) setup comer post core p = well _ _ (Some _) p
  route_kept (Ok route) setup comer post core p =
      either P anything (is_cut core.under.on (way_with route setup comer post.side)) (fails_with comer post.serial post.side (counted core)) (joins_with route setup comer post.serial post.side (counted core))
      (fails_kept comer post.serial.0 post.side over (lasting core.under over.under core.objects refl refl p))
      (part_kept comer.waits comer post.serial.0 begun (lasting core.under begun.under core.objects refl refl p))
    where
      over : Core
      over = with_over how.Failed post.serial.0 (counted core)

      begun : Core
      begun = joined setup post.serial.0 route (sender_of comer post.side) (receiver_of comer post.side) (counted core)

  comes_kept : (roads : Roads) (setup : Setup) (comer : Comer) (core : Core) → P core → Still (comes roads setup comer core)
  comes_kept roads setup comer core p = by (partner comer.sends (posts_at comer.mailbox core))
    where
      by : (found : Option Post) → Still (comes_by found roads setup comer core)
      by None = (let new = posted comer (counted core) in part_kept comer.waits comer (length core.under.tasks + 1) new (lasting core.under new.under core.objects refl refl p))
      by (Some post) = route_kept (route_between roads setup (sender_of comer post.side) (receiver_of comer post.side)) setup comer post core p

  waits_kept : (found : Option Await) (actor : ℕ) (core : Core) → P core → Still (waits_by found actor core)
  waits_kept None actor core p = well _ _ None p
  waits_kept (Some on) actor core p = by (answer_of_over (whose_at core on.serial.0))
    where
      by : (over : Option Answer) → Still (waits_until over actor on (record core { requests = queues_without_oldest core.requests actor }))
      by (Some over) = well _ _ None p
      by None = well _ _ None p

  unless_kept : (budget : ℕ) (core : Core) (step : Step) → P core → Still step → Still (cond (core.events == budget) (stops core [] Budget) step)
  unless_kept budget core step p s = either P anything (core.events == budget) (stops core [] Budget) step (well core [] (Some Budget) p) s

  pub told_then : (setup : Setup) (core : Core) (actor : ℕ) (action : Option Action) → P core → Still (told setup core actor action)
  told_then setup core actor action p = unless_kept setup.budget core (goes_on (readied actor (answer_of_ask action) (counted core)) []) p (well _ _ None p)

  pub created_then : (given : Bool) (actor : ℕ) (target : ActorId) (core : Core) → P core → Still (created given actor target core)
  created_then true actor target core p = well _ _ None p
  created_then false actor target core p = well _ _ None p

  -- ---- what comes at the date of a time advance
  entry_then : (network : Network) (found : Option Entry) (under : Underway) (objects : Objects) → R under objects → R (applied_if network found under) objects
  entry_then network None under objects p = p
  entry_then network (Some (entry.Speed host speed)) under objects p = lasting under (with_speed host.0 speed under) objects refl refl p
  entry_then network (Some (entry.Bandwidth link bandwidth)) under objects p = lasting under (with_bandwidth link.0 (bandwidth_over network bandwidth) under) objects refl refl p
  entry_then network (Some (entry.HostOn host on)) under objects p = lasting under (with_host_on host.0 on under) objects refl refl p
  entry_then network (Some (entry.LinkOn link on)) under objects p = lasting under (with_link_on link.0 on under) objects refl refl p

  fail_then : (setup : Setup) (serial : ℕ) (core : Core) → P core → Still (fails setup serial core)
  fail_then setup serial core p = unless_kept setup.budget core _ p (finishes_kept P anything closed how.Failed serial (counted core) p)

  change_then : (setup : Setup) (row : ℕ) (core : Core) → P core → Still (changes setup row core)
  change_then setup row core p =
      unless_kept setup.budget core (all_of (entry_stretches setup row) core) p
      (more_kept P anything (enters_one setup row) (all_fail setup ∷ []) core (well _ _ None (entry_then setup.network (entry_at setup.profiles core.turns row) core.under core.objects p))
      (λ mid q. more_kept P anything (all_fail setup) [] mid (each_kept P anything (fails setup) (fail_then setup) (hits mid.under) mid q) (none_kept P anything)))

  end_then : (setup : Setup) (serial : ℕ) (core : Core) → P core → Still (ends setup serial core)
  end_then setup serial core p = by (task_at core.under.tasks serial)
    where
      next : (after : Option Task) → Still (ends_in serial after (counted core))
      next None = finishes_kept P anything closed how.Done serial (counted core) p
      next (Some task) = (let under = with_task serial (Some task) core.under in well (record (counted core) { under = under }) [] None (lasting core.under under core.objects refl refl p))

      by : (o : Option Task) → Still (ends_by setup serial o core)
      by None = well _ _ None p
      by (Some task) = unless_kept setup.budget core (ends_one serial core) p (next (phase_after (task_at core.under.tasks serial)))

  pub stretches_then : (setup : Setup) (rows serials : List ℕ) (core : Core) → P core → Still (all_of (each (changes setup) rows ∷ each (ends setup) serials ∷ []) core)
  stretches_then setup rows serials core p =
      more_kept P anything (each (changes setup) rows) (each (ends setup) serials ∷ []) core (each_kept P anything (changes setup) (change_then setup) rows core p)
      (λ mid q. more_kept P anything (each (ends setup) serials) [] mid (each_kept P anything (ends setup) (end_then setup) serials mid q) (none_kept P anything))

  -- ---- objects
  gets_kept : (outcome : Outcome) (actor : ℕ) (what : Call) (core : Core) → P core → Still (caller_gets outcome actor what core)
  gets_kept GoesOn actor what core p = well _ _ None p
  gets_kept Waits actor what core p = well _ _ None p
  gets_kept Refused actor what core p = well _ _ None p

  first_kept : (actor : ℕ) → May actor → (done : Done) (what : Call) (core : Core) → AtMost (actor_of actor) core.objects done → P core → Still (caller_first done actor what core)
  first_kept actor may done what core most p =
      let gets = caller_gets done.outcome actor what (with_objects done core) in
      both P anything gets (all_wake done.woken) (gets_kept done.outcome actor what (with_objects done core) ((served actor may).does core.under core.objects done most p)) (all_kept P anything replying done.woken gets.core)

  last_kept : (actor : ℕ) → May actor → (done : Done) (what : Call) (core : Core) → AtMost (actor_of actor) core.objects done → P core → Still (caller_last done actor what core)
  last_kept actor may done what core most p =
      let woken = all_wake done.woken (with_objects done core) in
      both P anything woken (caller_gets done.outcome actor what) (all_kept P anything replying done.woken (with_objects done core) ((served actor may).does core.under core.objects done most p)) (gets_kept done.outcome actor what woken.core)

  -- ---- other actors
  joins_kept : (ended : Bool) (actor : ℕ) (target : ActorId) (core : Core) → P core → Still (joins_by ended actor target core)
  joins_kept true actor target core p = well _ _ None p
  joins_kept false actor target core p = well _ _ None p

  kills_kept : (actor : ℕ) → May actor → (target : ActorId) (core : Core) → P core → Still (kills actor target core)
  kills_kept actor may target core p =
      let serials = awaited target core in
      let start = withdrawn target core in
      let gone : P start = (served actor may).left core.under core.objects target p in
      either P anything (is_alive (state_of core target.0)) (kills_alive actor target core) (at_once actor (call.Kill target) 0 answer.Done core)
      (more_kept P anything (kill_done actor target) (each gives_up serials ∷ joiners_wake target.0 ∷ []) start
      (either P anything (actor == target.0) (goes_on start []) (at_once actor (call.Kill target) 0 answer.Done start) (well _ _ None gone) (well _ _ None gone))
      (λ mid q. more_kept P anything (each gives_up serials) (joiners_wake target.0 ∷ []) mid (each_kept P anything gives_up (gives_up_kept P anything closed) serials mid q)
      (λ late r. more_kept P anything (joiners_wake target.0) [] late (joiners_kept P anything replying target.0 late r) (none_kept P anything))))
      (well _ _ None p)

  to_kept : (on : Bool) (serial : ℕ) (core : Core) → P core → P (record core { under = held_to on serial core.under })
  to_kept true serial core p = by (is_computing core.under serial)
    where
      by : (b : Bool) → P (record core { under = cond b (held serial core.under) core.under })
      by true = lasting core.under (held serial core.under) core.objects refl refl p
      by false = p
  to_kept false serial core p = by (is_kept core.under serial)
    where
      by : (b : Bool) → P (record core { under = cond b (gone_on serial core.under) core.under })
      by true = lasting core.under (gone_on serial core.under) core.objects refl refl p
      by false = p

  on_kept : (on : Bool) (found : Option Blocking) (core : Core) → P core → P (held_by on found core)
  on_kept on None core p = p
  on_kept on (Some blocking) core p = by blocking.on
    where
      by : (await : Option Await) → P (held_on on await core)
      by None = p
      by (Some await) = to_kept on await.serial.0 core p

  suspended_kept : (on : Bool) (target : ActorId) (core : Core) → P core → P (suspended_to on target core)
  suspended_kept on target core p = by (is_alive (state_of core target.0))
    where
      by : (b : Bool) → P (cond b (held_by on (blocking_in (state_of core target.0)) (with_suspended target.0 on core)) core)
      by true = on_kept on (blocking_in (state_of core target.0)) (with_suspended target.0 on core) p
      by false = p

  -- ---- any call
  call_kept : (roads : Roads) (setup : Setup) (core : Core) (actor : ℕ) → May actor → (what : Call) → P core → Still (answered_call roads setup core actor what)
  call_kept roads setup core actor may call.Ask p = well _ _ None p
  call_kept roads setup core actor may (call.Compute n w) p = computes_kept setup actor n w (counted core) p
  call_kept roads setup core actor may (call.Sleep n) p = (let slept = with_sleep actor n (counted core) in well slept [] None (lasting core.under slept.under core.objects refl refl p))
  call_kept roads setup core actor may (call.Send b n m r) p = comes_kept roads setup (sends_by (side_of actor n m r) (call.Send b n m r) true b) core p
  call_kept roads setup core actor may (call.Recv b) p = comes_kept roads setup (receives_by actor (call.Recv b) true b) core p
  call_kept roads setup core actor may (call.ISend b n m r) p = comes_kept roads setup (sends_by (side_of actor n m r) (call.ISend b n m r) false b) core p
  call_kept roads setup core actor may (call.IRecv b) p = comes_kept roads setup (receives_by actor (call.IRecv b) false b) core p
  call_kept roads setup core actor may call.Wait p = waits_kept (oldest (queue_at core.requests actor)) actor (counted core) p
  call_kept roads setup core actor may (call.Lock n) p = first_kept actor may (locked (actor_of actor) n core.objects) (call.Lock n) (counted core) (locked_most core.objects (actor_of actor) n) p
  call_kept roads setup core actor may (call.Unlock n) p = first_kept actor may (unlocked (actor_of actor) n core.objects) (call.Unlock n) (counted core) (unlocked_most core.objects (actor_of actor) n) p
  call_kept roads setup core actor may (call.Acquire n) p = first_kept actor may (acquired (actor_of actor) n core.objects) (call.Acquire n) (counted core) (acquired_most core.objects (actor_of actor) n) p
  call_kept roads setup core actor may (call.Release n) p = first_kept actor may (released n core.objects) (call.Release n) (counted core) (released_most core.objects (actor_of actor) n) p
  call_kept roads setup core actor may call.Barrier p = last_kept actor may (arrived (actor_of actor) core.objects) call.Barrier (counted core) (λ other. omega (arith, arrived_keeps core.objects (actor_of actor) other)) p
  call_kept roads setup core actor may (call.Create n) p = well _ _ None p
  call_kept roads setup core actor may (call.Join n) p = joins_kept (is_ended (state_of core n.0)) actor n (counted core) p
  call_kept roads setup core actor may (call.Kill n) p = kills_kept actor may n (counted core) p
  call_kept roads setup core actor may (call.Suspend n) p = well _ _ None (suspended_kept true n (counted core) p)
  call_kept roads setup core actor may (call.Resume n) p = well _ _ None (suspended_kept false n (counted core) p)
  call_kept roads setup core actor may call.Yield p = well _ _ None p
  call_kept roads setup core actor may call.Exit p = joiners_kept P anything replying actor (with_actor_ended actor (counted core)) p

  pub answered_then : (roads : Roads) (setup : Setup) (core : Core) (actor : ℕ) → May actor → (what : Call) → P core → Still (answered roads setup core actor what)
  answered_then roads setup core actor may what p = unless_kept setup.budget core (answered_call roads setup core actor what) p (call_kept roads setup core actor may what p)
