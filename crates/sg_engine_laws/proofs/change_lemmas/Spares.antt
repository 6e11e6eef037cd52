-- Which calls end no activity.
use Rattle.std.proofs.Common.{◌≡◌, ℕ, ◌+◌, ◌-◌, ◌<◌, ◌==◌, Bool, true, false, true≢false, cond, inl, inr, Option, None, Some, Result, Ok, Err, List, [], ◌∷◌, ◌++◌, length, set, get_or, refl, sym, ap, subst, ◌∙◌}
use Rattle.std.proofs.lemmas.Bool.{cases_lt}
use Rattle.std.proofs.lemmas.List.{get_or_append_left, get_or_past}
use Rattle.sg_base.specs.Turn.{actor_of}
use Rattle.sg_base.specs.declared.awaits.Await.{Await}
use Rattle.sg_base.specs.declared.call.Answer.{Answer}
use Rattle.sg_base.specs.declared.call.Answer.TheVariants as answer
use Rattle.sg_base.specs.declared.call.Call.{Call}
use Rattle.sg_base.specs.declared.call.Call.TheVariants as call
use Rattle.sg_base.specs.declared.ids.ActorId.{ActorId}
use Rattle.sg_activity.specs.Links.{is_off}
use Rattle.sg_mailbox.specs.declared.sides.Post.{Post}
use Rattle.sg_mailbox.specs.Posts.{partner}
use Rattle.sg_requests.specs.Requested.{oldest, queue_at, queues_without_oldest}
use Rattle.sg_route.specs.declared.router.RouteFault.{RouteFault}
use Rattle.sg_route.specs.Roads.{Roads}
use Rattle.sg_route.specs.Route.{Route}
use Rattle.sg_actor_states.specs.declared.state.Blocking.{Blocking}
use Rattle.sg_actor_states.specs.Actors.{blocking_in, is_alive, is_ended}
use Rattle.sg_sync.specs.declared.outcome.Outcome.{Outcome}
use Rattle.sg_sync.specs.declared.outcome.Outcome.TheVariants.{GoesOn, Waits, Refused}
use Rattle.sg_sync.specs.Objects.{Done, locked, unlocked, acquired, released, arrived}
use Rattle.sg_mailbox.specs.declared.owners.How.TheVariants as how
use Rattle.sg_mailbox.specs.declared.owners.Whose.{Whose}
use Rattle.sg_mailbox.specs.declared.owners.Whose.TheVariants.{Over, Alone, Posted, Pair}
use Rattle.sg_kernel_calls.specs.declared.meetings.Comer.{Comer}
use Rattle.sg_kernel_calls.specs.declared.stop.Stop.TheVariants.{Budget}
use Rattle.sg_kernel_calls.specs.Answers.{side_of}
use Rattle.sg_kernel_calls.specs.Calls.{answer_of_ask, answered_call, computes, executes, with_execution}
use Rattle.sg_kernel_calls.specs.Kills.{kills_alive}
use Rattle.sg_kernel_calls.specs.Lives.{created, joins_by, with_actor_ended}
use Rattle.sg_kernel_calls.specs.Locks.{all_wake, caller_first, caller_gets, caller_last, with_objects}
use Rattle.sg_kernel_calls.specs.Meetings.{answer_of_over, comer_of, comes, comes_by, fails_with, joined, joins_over, joins_with, posted, posts_at, receiver_of, receives_by, route_between, sender_of, sends_by, takes_part, waits_by, waits_until}
use Rattle.sg_kernel_calls.specs.Steps.{Step, at_once, counted, goes_on, readied, stops}
use Rattle.sg_kernel_calls.specs.Suspensions.{held_by, held_if, held_on, suspended_to}
use Rattle.sg_kernel_calls.specs.World.{Core, host_of, is_suspended, state_of, whose_at, with_suspended}
use Rattle.sg_kernel_calls.specs.Setup.{Setup}
use Rattle.sg_kernel_laws.specs.failures.Laws.{is_over, kills_one, meeting_fails, side_fails, way_fails}
use Rattle.sg_kernel_laws.proofs.failure_lemmas.Passed.{set_there}
use Rattle.sg_kernel_laws.proofs.actor_lemmas.Kept.{Kept, Replying, all_kept, both, either, joiners_kept, one_made, still}
use Rattle.sg_engine_laws.proofs.await_lemmas.Over.{anything}
use Rattle.sg_engine_laws.specs.changes.Spares.{OtherCallsEndNothing}

-- the activity at this place has not ended
module _ (place : ℕ) where
  abbrev Lasts : List Whose → Type 0
  Lasts whose = is_over (get_or whose place (Over how.Done)) ≡ false

  abbrev Live : Core → Type 0
  Live core = Lasts core.whose

  abbrev Keeps : Step → Type 0
  Keeps step = Kept Live anything step

  live_within : (whose : List Whose) → Lasts whose → place < length whose
  live_within whose p = elim (cases_lt place (length whose)) [
    | inl less ↦ less
    | inr past ↦ absurd (true≢false (sym (ap is_over (get_or_past whose place (Over how.Done) past)) ∙ p))
  ]

  live_pushed : (whose : List Whose) (w : Whose) → Lasts whose → Lasts (whose ++ w ∷ [])
  live_pushed whose w p = ap is_over (get_or_append_left whose (w ∷ []) (Over how.Done) place (live_within whose p)) ∙ p

  live_set : (whose : List Whose) (i : ℕ) (w : Whose) → is_over w ≡ false → Lasts whose → Lasts (set whose i w)
  live_set whose i w live p = set_there (λ (x : Whose). is_over x ≡ false) whose i place w (Over how.Done) (λ same. live) p

  live_replies : Replying Live anything
  live_replies = record { replies = λ actor blocking bytes given core blocked p. one_made Live anything _ _ p tt }

  -- ---- mutexes, semaphores and the barrier
  caller_live : (outcome : Outcome) (actor : ℕ) (what : Call) (core : Core) → Live core → Keeps (caller_gets outcome actor what core)
  caller_live GoesOn actor what core p = one_made Live anything _ _ p tt
  caller_live Waits actor what core p = still Live anything _ None p
  caller_live Refused actor what core p = one_made Live anything _ _ p tt

  first_live : (done : Done) (actor : ℕ) (what : Call) (core : Core) → Live core → Keeps (caller_first done actor what core)
  first_live done actor what core p =
      let start = with_objects done core in
      let first = caller_gets done.outcome actor what start in
      both Live anything first (all_wake done.woken) (caller_live done.outcome actor what start p) (all_kept Live anything live_replies done.woken first.core)

  last_live : (done : Done) (actor : ℕ) (what : Call) (core : Core) → Live core → Keeps (caller_last done actor what core)
  last_live done actor what core p =
      let start = with_objects done core in
      let first = all_wake done.woken start in
      both Live anything first (caller_gets done.outcome actor what) (all_kept Live anything live_replies done.woken start p) (caller_live done.outcome actor what first.core)

  -- ---- communications
  part_live : (waits : Bool) (comer : Comer) (serial : ℕ) (core : Core) → Live core → Keeps (takes_part waits comer serial core)
  part_live true comer serial core p = still Live anything _ None p
  part_live false comer serial core p = one_made Live anything _ _ p tt

  route_live : (found : Result Route RouteFault) (setup : Setup) (comer : Comer) (post : Post) (core : Core) → way_fails found setup comer post core ≡ false → Live core → Keeps (joins_over found setup comer post core)
  route_live (Err why) setup comer post core whole p = still Live anything core _ p
  route_live (Ok route) setup comer post core whole p =
      let begun = joined setup post.serial.0 route (sender_of comer post.side) (receiver_of comer post.side) (counted core) in
      subst (λ (b : Bool). Keeps (cond b (fails_with comer post.serial post.side (counted core)) (joins_with route setup comer post.serial post.side (counted core)))) (sym whole)
      (part_live comer.waits comer post.serial.0 begun (live_set core.whose (post.serial.0 - 1) (Pair (sender_of comer post.side) (receiver_of comer post.side)) refl p))

  comes_live : (roads : Roads) (setup : Setup) (comer : Comer) (core : Core) → side_fails (Some comer) roads setup core ≡ false → Live core → Keeps (comes roads setup comer core)
  comes_live roads setup comer core whole p = by (partner comer.sends (posts_at comer.mailbox core)) whole
    where
      by : (found : Option Post) → meeting_fails found roads setup comer core ≡ false → Keeps (comes_by found roads setup comer core)
      by None e = part_live comer.waits comer (length core.under.tasks + 1) (posted comer (counted core)) (live_pushed core.whose (Posted comer.mailbox comer.sends comer.side) p)
      by (Some post) e = route_live (route_between roads setup (sender_of comer post.side) (receiver_of comer post.side)) setup comer post core e p

  until_live : (over : Option Answer) (actor : ℕ) (on : Await) (core : Core) → Live core → Keeps (waits_until over actor on core)
  until_live (Some over) actor on core p = one_made Live anything _ _ p tt
  until_live None actor on core p = still Live anything _ None p

  wait_live : (found : Option Await) (actor : ℕ) (core : Core) → Live core → Keeps (waits_by found actor core)
  wait_live None actor core p = one_made Live anything _ _ p tt
  wait_live (Some on) actor core p = until_live (answer_of_over (whose_at core on.serial.0)) actor on (record core { requests = queues_without_oldest core.requests actor }) p

  -- ---- executions, and other actors
  held_live : (t : Bool) (serial : ℕ) (core : Core) → Live core → Live (held_if t serial core)
  held_live true serial core p = p
  held_live false serial core p = p

  compute_live : (setup : Setup) (actor flops priority : ℕ) (core : Core) → Live core → Keeps (computes setup actor flops priority core)
  compute_live setup actor flops priority core p =
      let began = with_execution setup actor flops priority core in
      either Live anything (is_off core.under.on.hosts (host_of setup actor)) (at_once actor (call.Compute flops priority) 0 answer.Failed core) (executes setup actor flops priority core)
      (one_made Live anything _ _ p tt)
      (still Live anything _ None (held_live (is_suspended core actor) (length core.under.tasks + 1) began (live_pushed core.whose (Alone (actor_of actor)) p)))

  join_live : (ended : Bool) (actor : ℕ) (target : ActorId) (core : Core) → Live core → Keeps (joins_by ended actor target core)
  join_live true actor target core p = one_made Live anything _ _ p tt
  join_live false actor target core p = still Live anything _ None p

  held_by_live : (on : Bool) (found : Option Blocking) (core : Core) → Live core → Live (held_by on found core)
  held_by_live on None core p = p
  held_by_live on (Some blocking) core p = by blocking.on
    where
      by : (await : Option Await) → Live (held_on on await core)
      by None = p
      by (Some await) = p

  suspended_live : (on : Bool) (target : ActorId) (core : Core) → Live core → Live (suspended_to on target core)
  suspended_live on target core p = by (is_alive (state_of core target.0))
    where
      by : (t : Bool) → Live (cond t (held_by on (blocking_in (state_of core target.0)) (with_suspended target.0 on core)) core)
      by true = held_by_live on (blocking_in (state_of core target.0)) (with_suspended target.0 on core) p
      by false = p

  -- ---- calls
  call_live : (roads : Roads) (setup : Setup) (core : Core) (actor : ℕ) (what : Call) → kills_one core what ≡ false → side_fails (comer_of actor what) roads setup core ≡ false → Live core → Keeps (answered_call roads setup core actor what)
  call_live roads setup core actor call.Ask none whole p = still Live anything _ None p
  call_live roads setup core actor (call.Compute n q) none whole p = compute_live setup actor n q (counted core) p
  call_live roads setup core actor (call.Sleep n) none whole p = still Live anything _ None (live_pushed core.whose (Alone (actor_of actor)) p)
  call_live roads setup core actor (call.Send m n g r) none whole p = comes_live roads setup (sends_by (side_of actor n g r) (call.Send m n g r) true m) core whole p
  call_live roads setup core actor (call.Recv m) none whole p = comes_live roads setup (receives_by actor (call.Recv m) true m) core whole p
  call_live roads setup core actor (call.ISend m n g r) none whole p = comes_live roads setup (sends_by (side_of actor n g r) (call.ISend m n g r) false m) core whole p
  call_live roads setup core actor (call.IRecv m) none whole p = comes_live roads setup (receives_by actor (call.IRecv m) false m) core whole p
  call_live roads setup core actor call.Wait none whole p = wait_live (oldest (queue_at core.requests actor)) actor (counted core) p
  call_live roads setup core actor (call.Lock n) none whole p = first_live (locked (actor_of actor) n core.objects) actor (call.Lock n) (counted core) p
  call_live roads setup core actor (call.Unlock n) none whole p = first_live (unlocked (actor_of actor) n core.objects) actor (call.Unlock n) (counted core) p
  call_live roads setup core actor (call.Acquire n) none whole p = first_live (acquired (actor_of actor) n core.objects) actor (call.Acquire n) (counted core) p
  call_live roads setup core actor (call.Release n) none whole p = first_live (released n core.objects) actor (call.Release n) (counted core) p
  call_live roads setup core actor call.Barrier none whole p = last_live (arrived (actor_of actor) core.objects) actor call.Barrier (counted core) p
  call_live roads setup core actor (call.Create n) none whole p = one_made Live anything _ _ p tt
  call_live roads setup core actor (call.Join n) none whole p = join_live (is_ended (state_of core n.0)) actor n (counted core) p
  call_live roads setup core actor (call.Kill n) none whole p =
      subst (λ (b : Bool). Keeps (cond b (kills_alive actor n (counted core)) (at_once actor (call.Kill n) 0 answer.Done (counted core)))) (sym none) (one_made Live anything _ _ p tt)
  call_live roads setup core actor (call.Suspend n) none whole p = one_made Live anything _ _ (suspended_live true n (counted core) p) tt
  call_live roads setup core actor (call.Resume n) none whole p = one_made Live anything _ _ (suspended_live false n (counted core) p) tt
  call_live roads setup core actor call.Yield none whole p = one_made Live anything _ _ p tt
  call_live roads setup core actor call.Exit none whole p = joiners_kept Live anything live_replies actor (with_actor_ended actor (counted core)) p

  -- a call that the budget stops
  unless_live : (b : Bool) (core : Core) (step : Step) → Live core → Live step.core → Live (cond b (stops core [] Budget) step).core
  unless_live true core step p q = p
  unless_live false core step p q = q

  create_live : (given : Bool) (actor : ℕ) (target : ActorId) (core : Core) → Live core → Live (created given actor target core).core
  create_live true actor target core p = p
  create_live false actor target core p = p

pub other_calls_end_nothing : OtherCallsEndNothing
other_calls_end_nothing = record {
  calls = λ roads setup core actor what none whole serial p.
      unless_live (serial - 1) (core.events == setup.budget) core (answered_call roads setup core actor what) p (call_live (serial - 1) roads setup core actor what none whole p).holds;
  creates = λ given actor target core serial p. create_live (serial - 1) given actor target core p;
  asks = λ setup core actor action serial p. unless_live (serial - 1) (core.events == setup.budget) core (goes_on (readied actor (answer_of_ask action) (counted core)) []) p p;
}
