-- No other call is answered as failed.
use Rattle.std.proofs.Common.{◌≡◌, ℕ, zero, suc, ◌+◌, ◌-◌, ◌*◌, ◌<◌, ◌≤◌, ◌==◌, ◌&&◌, nat_lt, Bool, true, false, cond, inl, inr, Option, None, Some, option_map, option_to_list, Result, Ok, Err, List, [], ◌∷◌, ◌++◌, length, map, replicate, set, get_or, refl, sym, ap, subst, ◌∙◌, arith}
use Rattle.std.proofs.lemmas.Bool.{cases_eq, cases_lt}
use Rattle.std.proofs.lemmas.List.{get_or-set_same, get_or-set_other, get_or_past, get_or_append_left, get_or-append-add, get_or-replicate, length-set, length-append, length-map, length-replicate}
use Rattle.std.specs.List.{All, Contains}
use Rattle.std.proofs.lemmas.List.Elements.{All-nil, All-cons, All-append, All-head, All-tail, All-contains_itself}
use Rattle.sg_base.specs.declared.awaits.Await.{Await}
use Rattle.sg_base.specs.declared.awaits.Party.{Party}
use Rattle.sg_base.specs.declared.awaits.Party.TheVariants as party
use Rattle.sg_base.specs.declared.call.Action.{Action}
use Rattle.sg_base.specs.declared.call.Answer.{Answer}
use Rattle.sg_base.specs.declared.call.Answer.TheVariants as answer
use Rattle.sg_base.specs.declared.call.Call.{Call}
use Rattle.sg_base.specs.declared.call.Call.TheVariants as call
use Rattle.sg_base.specs.declared.ids.ActorId.{ActorId}
use Rattle.sg_base.specs.declared.ids.Serial.{Serial}
use Rattle.sg_base.specs.declared.trace_record.End.{End}
use Rattle.sg_base.specs.declared.trace_record.End.TheVariants as end
use Rattle.sg_activity_table.specs.declared.kinds.PhaseKind.{PhaseKind}
use Rattle.sg_activity_table.specs.declared.kinds.PhaseKind.TheVariants as phase
use Rattle.sg_activity.specs.Links.{Capacities, Switches, is_off}
use Rattle.sg_activity_table.specs.Slots.{passes, serials}
use Rattle.sg_activity.specs.Task.{Place, Task, exec_of, is_cut, is_hit, next_phase, nowhere, on_host, over, phase_after, rekinded, task_at, timer_of, uses_off}
use Rattle.sg_activity.specs.Underway.{Underway, due_in, gone_on, held, hits, is_computing, is_kept, passed, with_phase_kind}
use Rattle.sg_base.specs.Turn.{actor_of}
use Rattle.sg_mailbox.specs.declared.sides.Post.{Post}
use Rattle.sg_mailbox.specs.declared.sides.Side.{Side}
use Rattle.sg_mailbox.specs.Posts.{is_other, partner}
use Rattle.sg_profile.specs.Profiles.{entry_at, rows_due}
use Rattle.sg_requests.specs.Requested.{rising_numbers_with, oldest, queue_at, rest_of, rising_numbers, serial_of, queues_without_oldest, without_requests}
use Rattle.sg_route.specs.declared.router.RouteFault.{RouteFault}
use Rattle.sg_route.specs.Roads.{Roads}
use Rattle.sg_route.specs.Route.{Route}
use Rattle.sg_actor_states.specs.declared.state.Actor.{Actor}
use Rattle.sg_actor_states.specs.declared.state.Blocking.{Blocking}
use Rattle.sg_actor_states.specs.declared.state.State.{State}
use Rattle.sg_actor_states.specs.declared.state.State.TheVariants.{Ready, Blocked, Ended}
use Rattle.sg_actor_states.specs.Actors.{blocking_in, first_actor, is_alive, is_ended, joiners, not_suspended, put_state, put_suspended, state_at}
use Rattle.sg_actor_states.specs.Records.{end_by}
use Rattle.sg_sync.specs.declared.outcome.Outcome.{Outcome}
use Rattle.sg_sync.specs.declared.outcome.Outcome.TheVariants.{GoesOn, Waits, Refused}
use Rattle.sg_sync.specs.Objects.{Done, locked, unlocked, acquired, released, arrived}
use Rattle.sg_kernel_calls.specs.declared.meetings.Comer.{Comer}
use Rattle.sg_mailbox.specs.declared.owners.How.{How}
use Rattle.sg_mailbox.specs.declared.owners.How.TheVariants as how
use Rattle.sg_mailbox.specs.declared.owners.Whose.{Whose}
use Rattle.sg_mailbox.specs.declared.owners.Whose.TheVariants.{Over, Alone, Posted, Pair}
use Rattle.sg_kernel_calls.specs.declared.stop.Stop.{Stop}
use Rattle.sg_kernel_calls.specs.declared.stop.Stop.TheVariants.{Budget}
use Rattle.sg_kernel_calls.specs.Answers.{answer_to, answers, answers_by, answers_side, bare_side, finishes, for_receiver, awaits_side, party_eq, side_of, tells_bytes, with_over}
use Rattle.sg_kernel_calls.specs.Calls.{await_alone, answer_of_ask, answered, answered_call, blocks_on, computes, executed, executes, told, with_execution, with_sleep}
use Rattle.sg_kernel_calls.specs.Kills.{awaited, blocked_on, gives_up, gives_up_by, kill_done, kill_stretches, kills, withdrawn}
use Rattle.sg_kernel_calls.specs.Lives.{begins, answers_create, created, joins_by, with_actor_ended}
use Rattle.sg_kernel_calls.specs.Locks.{all_wake, caller_first, caller_gets, caller_last, joiners_wake, wakes, wakes_from, with_objects}
use Rattle.sg_kernel_calls.specs.Meetings.{answer_of_over, asks_for, await, both_fail, comer_fails, comes, comes_by, fails_with, joined, joins_on, joins_over, joins_with, other_fails, posted, posts_at, receiver_of, receives_by, route_between, sender_of, sends_by, takes_part, takes_part_failed, waits_by, waits_until, way_with}
use Rattle.sg_kernel.specs.Passes.{all_fail, changes, core_later, ends, ends_by, ends_in, ends_one, enters_one, entry_stretches, fails, fails_one, next_span, pass_at, settled, stretches}
use Rattle.sg_kernel.specs.Start.{first_core}
use Rattle.sg_kernel_calls.specs.Steps.{Step, goes_on, stops, counted, follows, and_then, each, all_of, at_once, blocked_by, readied, replied}
use Rattle.sg_kernel_calls.specs.Suspensions.{held_by, held_if, held_on, held_to, suspended_to}
use Rattle.sg_kernel_calls.specs.Setup.{Setup}
use Rattle.sg_kernel_calls.specs.World.{Core, host_of, is_suspended, state_of, whose_at, with_suspended}
use Rattle.sg_kernel.proofs.Hits.{rest_is_hit}
use Rattle.sg_kernel_calls.proofs.Postings.{found_post}
use Rattle.sg_kernel.proofs.Skips.{finishes_leaves}
use Rattle.sg_kernel_calls.proofs.Stated.{blocking_is}
use Rattle.sg_kernel_laws.specs.failures.Laws.{is_failed, over_by}
use Rattle.sg_kernel_laws.specs.failures.Others.{AreFit, IsFit, IsOwn, IsSleep, MayTell, NoOtherFails, Suits, TellsFew, is_nowhere, is_nowhere_at, may_fail}
use Rattle.sg_kernel_laws.proofs.failure_lemmas.Killed.{Since, gives_up_tells, killer_tells, since_withdrawn}
use Rattle.sg_kernel_laws.proofs.failure_lemmas.Passed.{Awaits, answer_tells, awaits, entry_leaves, put_there, set_there}

-- ---- calls that suit activities
suits_where : (tasks later : List (Option Task)) (whose after : List Whose) (on : Await) → (IsSleep tasks whose on → IsSleep later after on) → (what : Call) → Suits tasks whose what on → Suits later after what on
suits_where tasks later whose after on sleeps call.Ask s = s
suits_where tasks later whose after on sleeps (call.Compute n p) s = s
suits_where tasks later whose after on sleeps (call.Sleep n) s = sleeps s
suits_where tasks later whose after on sleeps (call.Send b n m r) s = s
suits_where tasks later whose after on sleeps (call.Recv b) s = s
suits_where tasks later whose after on sleeps (call.ISend b n m r) s = s
suits_where tasks later whose after on sleeps (call.IRecv b) s = s
suits_where tasks later whose after on sleeps call.Wait s = s
suits_where tasks later whose after on sleeps (call.Lock n) s = s
suits_where tasks later whose after on sleeps (call.Unlock n) s = s
suits_where tasks later whose after on sleeps (call.Acquire n) s = s
suits_where tasks later whose after on sleeps (call.Release n) s = s
suits_where tasks later whose after on sleeps call.Barrier s = s
suits_where tasks later whose after on sleeps (call.Create n) s = s
suits_where tasks later whose after on sleeps (call.Join n) s = s
suits_where tasks later whose after on sleeps (call.Kill n) s = s
suits_where tasks later whose after on sleeps (call.Suspend n) s = s
suits_where tasks later whose after on sleeps (call.Resume n) s = s
suits_where tasks later whose after on sleeps call.Yield s = s
suits_where tasks later whose after on sleeps call.Exit s = s

-- one that isn't a sleep
suits_awake : (tasks : List (Option Task)) (whose : List Whose) (on : Await) → (IsSleep tasks whose on → ⊥) → (what : Call) → Suits tasks whose what on → may_fail what ≡ true
suits_awake tasks whose on awake call.Ask s = s
suits_awake tasks whose on awake (call.Compute n p) s = s
suits_awake tasks whose on awake (call.Sleep n) s = absurd (awake s)
suits_awake tasks whose on awake (call.Send b n m r) s = s
suits_awake tasks whose on awake (call.Recv b) s = s
suits_awake tasks whose on awake (call.ISend b n m r) s = s
suits_awake tasks whose on awake (call.IRecv b) s = s
suits_awake tasks whose on awake call.Wait s = s
suits_awake tasks whose on awake (call.Lock n) s = s
suits_awake tasks whose on awake (call.Unlock n) s = s
suits_awake tasks whose on awake (call.Acquire n) s = s
suits_awake tasks whose on awake (call.Release n) s = s
suits_awake tasks whose on awake call.Barrier s = s
suits_awake tasks whose on awake (call.Create n) s = s
suits_awake tasks whose on awake (call.Join n) s = s
suits_awake tasks whose on awake (call.Kill n) s = s
suits_awake tasks whose on awake (call.Suspend n) s = s
suits_awake tasks whose on awake (call.Resume n) s = s
suits_awake tasks whose on awake call.Yield s = s
suits_awake tasks whose on awake call.Exit s = s

suits_any : (tasks : List (Option Task)) (whose : List Whose) (on : Await) (what : Call) → may_fail what ≡ true → Suits tasks whose what on
suits_any tasks whose on call.Ask e = e
suits_any tasks whose on (call.Compute n p) e = e
suits_any tasks whose on (call.Sleep n) e = absurd (cc e)
suits_any tasks whose on (call.Send b n m r) e = e
suits_any tasks whose on (call.Recv b) e = e
suits_any tasks whose on (call.ISend b n m r) e = e
suits_any tasks whose on (call.IRecv b) e = e
suits_any tasks whose on call.Wait e = e
suits_any tasks whose on (call.Lock n) e = e
suits_any tasks whose on (call.Unlock n) e = e
suits_any tasks whose on (call.Acquire n) e = e
suits_any tasks whose on (call.Release n) e = e
suits_any tasks whose on call.Barrier e = e
suits_any tasks whose on (call.Create n) e = e
suits_any tasks whose on (call.Join n) e = e
suits_any tasks whose on (call.Kill n) e = e
suits_any tasks whose on (call.Suspend n) e = e
suits_any tasks whose on (call.Resume n) e = e
suits_any tasks whose on call.Yield e = e
suits_any tasks whose on call.Exit e = e

-- ---- what activities become
-- an activity that was made, and is no actor's alone
record IsShared (whose : List Whose) (serial : ℕ) : Type 0 where
  made : serial - 1 < length whose
  shared : (owner : ActorId) → get_or whose (serial - 1) (Over how.Done) ≡ Alone owner → ⊥

own_shared : (whose : List Whose) (actor serial : ℕ) (on : Await) → on.serial.0 ≡ serial → IsShared whose serial → IsOwn whose actor on
own_shared whose actor serial on same s = record {
  made = omega (arith, s.made, same);
  own = λ owner e. absurd (s.shared owner (ap (λ n. get_or whose (n - 1) (Over how.Done)) (sym same) ∙ e));
}

-- of one at the same place
own_same : (whose : List Whose) (actor other : ℕ) (on : Await) → other - 1 ≡ actor - 1 → IsOwn whose actor on → IsOwn whose other on
own_same whose actor other on same o = record { made = o.made; own = λ owner e. o.own owner e ∙ sym same }

record Lasts (tasks : List (Option Task)) (whose : List Whose) (later : List (Option Task)) (after : List Whose) : Type 0 where
  numbered : length after ≡ length later
  sleeps : (on : Await) → IsSleep tasks whose on → IsSleep later after on
  owns : (actor : ℕ) (on : Await) → IsOwn whose actor on → IsOwn after actor on

all_own : (whose after : List Whose) (actor : ℕ) → ((on : Await) → IsOwn whose actor on → IsOwn after actor on) → (queue : List Await) → All (IsOwn whose actor) queue → All (IsOwn after actor) queue
all_own whose after actor so queue all k d within = so (get_or queue k d) (all k d within)

fit_lasts : (actors : List Actor) (tasks later : List (Option Task)) (whose after : List Whose) (requests : List (List Await)) → Lasts tasks whose later after → AreFit actors tasks whose requests → AreFit actors later after requests
fit_lasts actors tasks later whose after requests lasts fit = record {
  numbered = lasts.numbered;
  waits = λ actor since what on e. suits_where tasks later whose after on (lasts.sleeps on) what (fit.waits actor since what on e);
  own = λ actor since what on e. lasts.owns actor on (fit.own actor since what on e);
  asked = λ actor. all_own whose after actor (lasts.owns actor) (queue_at requests actor) (fit.asked actor);
}

-- one becomes another's, and is no actor's alone
lasts_set : (tasks : List (Option Task)) (whose : List Whose) (place : ℕ) (slot : Option Task) (w : Whose) → length whose ≡ length tasks → ((owner : ActorId) → w ≡ Alone owner → ⊥) → Lasts tasks whose (set tasks place slot) (set whose place w)
lasts_set tasks whose place slot w even shared = record {
  numbered = length-set whose place w ∙ even ∙ sym (length-set tasks place slot);
  sleeps = λ on s. record { alone = s.alone; made = omega (arith, s.made, length-set whose place w); free = by on s };
  owns = λ actor on o. record {
    made = omega (arith, o.made, length-set whose place w);
    own = λ owner. set_there (λ (x : Whose). x ≡ Alone owner → owner.0 - 1 ≡ actor - 1) whose place (on.serial.0 - 1) w (Over how.Done) (λ same e. absurd (shared owner e)) (o.own owner);
  };
}
  where
    by : (on : Await) → IsSleep tasks whose on → (owner : ActorId) → get_or (set whose place w) (on.serial.0 - 1) (Over how.Done) ≡ Alone owner → is_nowhere (get_or (set tasks place slot) (on.serial.0 - 1) None) ≡ true
    by on s owner e = elim (cases_eq (on.serial.0 - 1) place) [
      | inl same ↦
          let less : place < length whose = omega (arith, same, s.made) in
          absurd (shared owner (sym (get_or-set_same whose place w (Over how.Done) less) ∙ ap (λ k. get_or (set whose place w) k (Over how.Done)) (sym same) ∙ e))
      | inr apart ↦
          ap is_nowhere (get_or-set_other tasks place (on.serial.0 - 1) slot None apart)
          ∙ s.free owner (sym (get_or-set_other whose place (on.serial.0 - 1) w (Over how.Done) apart) ∙ e)
    ]

-- another phase follows, which uses as much
lasts_next : (tasks : List (Option Task)) (whose : List Whose) (place : ℕ) (slot : Option Task) → length whose ≡ length tasks → is_nowhere slot ≡ is_nowhere (get_or tasks place None) → Lasts tasks whose (set tasks place slot) whose
lasts_next tasks whose place slot even like = record {
  numbered = even ∙ sym (length-set tasks place slot);
  sleeps = λ on s. record { alone = s.alone; made = s.made; free = by on s };
  owns = λ actor on o. o;
}
  where
    by : (on : Await) → IsSleep tasks whose on → (owner : ActorId) → get_or whose (on.serial.0 - 1) (Over how.Done) ≡ Alone owner → is_nowhere (get_or (set tasks place slot) (on.serial.0 - 1) None) ≡ true
    by on s owner e = elim (cases_eq (on.serial.0 - 1) place) [
      | inl same ↦
          let there : place < length tasks = omega (arith, same, s.made, even) in
          ap (λ k. is_nowhere (get_or (set tasks place slot) k None)) same ∙ ap is_nowhere (get_or-set_same tasks place slot None there)
          ∙ like ∙ ap (λ k. is_nowhere (get_or tasks k None)) (sym same) ∙ s.free owner e
      | inr apart ↦ ap is_nowhere (get_or-set_other tasks place (on.serial.0 - 1) slot None apart) ∙ s.free owner e
    ]

lasts_push : (tasks : List (Option Task)) (whose : List Whose) (slot : Option Task) (w : Whose) → length whose ≡ length tasks → Lasts tasks whose (tasks ++ slot ∷ []) (whose ++ w ∷ [])
lasts_push tasks whose slot w even = record {
  numbered = length-append whose (w ∷ []) ∙ ap (λ n. n + 1) even ∙ sym (length-append tasks (slot ∷ []));
  sleeps = λ on s. record { alone = s.alone; made = omega (arith, s.made, length-append whose (w ∷ [])); free = by on s };
  owns = λ actor on o. record {
    made = omega (arith, o.made, length-append whose (w ∷ []));
    own = λ owner e. o.own owner (sym (get_or_append_left whose (w ∷ []) (Over how.Done) (on.serial.0 - 1) o.made) ∙ e);
  };
}
  where
    by : (on : Await) → IsSleep tasks whose on → (owner : ActorId) → get_or (whose ++ w ∷ []) (on.serial.0 - 1) (Over how.Done) ≡ Alone owner → is_nowhere (get_or (tasks ++ slot ∷ []) (on.serial.0 - 1) None) ≡ true
    by on s owner e =
        ap is_nowhere (get_or_append_left tasks (slot ∷ []) None (on.serial.0 - 1) (omega (arith, s.made, even)))
        ∙ s.free owner (sym (get_or_append_left whose (w ∷ []) (Over how.Done) (on.serial.0 - 1) s.made) ∙ e)

nowhere_mapped : (change : Task → Task) → ((task : Task) → is_nowhere_at (change task).place ≡ is_nowhere_at task.place) → (slot : Option Task) → is_nowhere (option_map change slot) ≡ is_nowhere slot
nowhere_mapped change like None = refl
nowhere_mapped change like (Some task) = like task

nowhere_map : (change : Task → Task) → ((task : Task) → is_nowhere_at (change task).place ≡ is_nowhere_at task.place) → (tasks : List (Option Task)) (place : ℕ) → is_nowhere (get_or (map (option_map change) tasks) place None) ≡ is_nowhere (get_or tasks place None)
nowhere_map change like [] place = refl
nowhere_map change like (slot ∷ tasks) zero = nowhere_mapped change like slot
nowhere_map change like (slot ∷ tasks) (suc place) = nowhere_map change like tasks place

lasts_map : (change : Task → Task) → ((task : Task) → is_nowhere_at (change task).place ≡ is_nowhere_at task.place) → (tasks : List (Option Task)) (whose : List Whose) → length whose ≡ length tasks → Lasts tasks whose (map (option_map change) tasks) whose
lasts_map change like tasks whose even = record {
  numbered = even ∙ sym (length-map tasks (option_map change));
  sleeps = λ on s. record { alone = s.alone; made = s.made; free = λ owner e. nowhere_map change like tasks (on.serial.0 - 1) ∙ s.free owner e };
  owns = λ actor on o. o;
}

-- ---- what actors do
-- an actor that is blocked on an activity was so before
fit_fewer : (old new : List Actor) (tasks : List (Option Task)) (whose : List Whose) (requests : List (List Await)) → ((actor since : ℕ) (what : Call) (on : Await) → state_at new actor ≡ Blocked what since (Some on) → state_at old actor ≡ Blocked what since (Some on)) → AreFit old tasks whose requests → AreFit new tasks whose requests
fit_fewer old new tasks whose requests so fit = record {
  numbered = fit.numbered;
  waits = λ actor since what on e. fit.waits actor since what on (so actor since what on e);
  own = λ actor since what on e. fit.own actor since what on (so actor since what on e);
  asked = fit.asked;
}

-- one becomes so that it isn't blocked on an activity
fit_put : (actors : List Actor) (tasks : List (Option Task)) (whose : List Whose) (requests : List (List Await)) (actor : ℕ) (state : State) → ((since : ℕ) (what : Call) (on : Await) → state ≡ Blocked what since (Some on) → ⊥) → AreFit actors tasks whose requests → AreFit (put_state actors actor state) tasks whose requests
fit_put actors tasks whose requests actor state free =
    fit_fewer actors (put_state actors actor state) tasks whose requests
    (λ other since what on. put_there (λ now. now ≡ Blocked what since (Some on) → state_at actors other ≡ Blocked what since (Some on)) actors actor other state (λ same e. absurd (free since what on e)) (λ e. e))

fit_ready : (core : Core) (actor : ℕ) (answer : Answer) → IsFit core → IsFit (readied actor answer core)
fit_ready core actor answer fit = fit_put core.actors core.under.tasks core.whose core.requests actor (Ready answer) (λ since what on e. absurd (cc e)) fit

-- one is blocked on what is its own, by a call that suits it
fit_blocked_in : (actors : List Actor) (tasks : List (Option Task)) (whose : List Whose) (requests : List (List Await)) (actor date : ℕ) (what : Call) (on : Await) → Suits tasks whose what on → IsOwn whose actor on → AreFit actors tasks whose requests → AreFit (put_state actors actor (Blocked what date (Some on))) tasks whose requests
fit_blocked_in actors tasks whose requests actor date what on suits owned fit = record {
  numbered = fit.numbered;
  waits = λ other since which side.
      put_there (λ state. state ≡ Blocked which since (Some side) → Suits tasks whose which side) actors actor other (Blocked what date (Some on))
      (λ same e. by since which side e) (fit.waits other since which side);
  own = λ other since which side.
      put_there (λ state. state ≡ Blocked which since (Some side) → IsOwn whose other side) actors actor other (Blocked what date (Some on))
      (λ same e. owns other since which side same e) (fit.own other since which side);
  asked = fit.asked;
}
  where
    by : (since : ℕ) (which : Call) (side : Await) → Blocked what date (Some on) ≡ Blocked which since (Some side) → Suits tasks whose which side
    by since which side e =
        let call : what ≡ which = cc e in
        let await : on ≡ side = cc e in
        subst (λ c. Suits tasks whose c side) call (subst (λ a. Suits tasks whose what a) await suits)

    owns : (other since : ℕ) (which : Call) (side : Await) → other - 1 ≡ actor - 1 → Blocked what date (Some on) ≡ Blocked which since (Some side) → IsOwn whose other side
    owns other since which side same e =
        let await : on ≡ side = cc e in
        subst (λ a. IsOwn whose other a) await (own_same whose actor other on same owned)

fit_blocked : (core : Core) (actor : ℕ) (what : Call) (on : Await) → Suits core.under.tasks core.whose what on → IsOwn core.whose actor on → IsFit core → IsFit (blocked_by actor what (Some on) core)
fit_blocked core actor what on = fit_blocked_in core.actors core.under.tasks core.whose core.requests actor core.under.date what on

-- ---- what actors asked for
fit_asked : (core : Core) (actor : ℕ) (queue : List Await) → All (IsOwn core.whose actor) queue → IsFit core → IsFit (record core { requests = set core.requests (actor - 1) queue })
fit_asked core actor queue are fit = record {
  numbered = fit.numbered;
  waits = fit.waits;
  own = fit.own;
  asked = λ other.
      set_there (λ (q : List Await). All (IsOwn core.whose other) q) core.requests (actor - 1) (other - 1) queue []
      (λ same. all_so (IsOwn core.whose actor) (IsOwn core.whose other) (λ on. own_same core.whose actor other on same) queue are) (fit.asked other);
}
  where
    all_so : (P Q : Await → Type 0) → ((on : Await) → P on → Q on) → (queue : List Await) → All P queue → All Q queue
    all_so P Q so queue all k d within = so (get_or queue k d) (all k d within)

fit_asks : (core : Core) (actor : ℕ) (on : Await) → IsOwn core.whose actor on → IsFit core → IsFit (asks_for actor on core)
fit_asks core actor on owned fit =
    let P = IsOwn core.whose actor in
    fit_asked core actor (queue_at core.requests actor ++ on ∷ []) (All-append P (queue_at core.requests actor) (on ∷ []) (fit.asked actor) (All-cons P on [] owned (All-nil P))) fit

rest_own : (P : Await → Type 0) (queue : List Await) → All P queue → All P (rest_of queue)
rest_own P [] all = All-nil P
rest_own P (on ∷ queue) all = All-tail P on queue all

oldest_own : (P : Await → Type 0) (queue : List Await) (on : Await) → oldest queue ≡ Some on → All P queue → P on
oldest_own P [] on e all = absurd (cc e)
oldest_own P (first ∷ queue) on e all = (let same : first ≡ on = cc e in subst P same (All-head P first queue all))

fit_taken : (core : Core) (actor : ℕ) → IsFit core → IsFit (record core { requests = queues_without_oldest core.requests actor })
fit_taken core actor fit = fit_asked core actor (rest_of (queue_at core.requests actor)) (rest_own (IsOwn core.whose actor) (queue_at core.requests actor) (fit.asked actor)) fit

-- ---- steps
few_still : (core : Core) (why : Option Stop) → IsFit core → TellsFew (record { core = core; made = []; stop = why })
few_still core why fit = record { fit = fit; made = All-nil MayTell }

few_cond : (b : Bool) (one other : Step) → TellsFew one → TellsFew other → TellsFew (cond b one other)
few_cond true one other s t = s
few_cond false one other s t = t

few_both : (first : Step) (next : Core → Step) → TellsFew first → (IsFit first.core → TellsFew (next first.core)) → TellsFew (and_then first next)
few_both first next s t = by first.stop
  where
    by : (o : Option Stop) → TellsFew (follows o first (next first.core))
    by None = let u = t s.fit in record { fit = u.fit; made = All-append MayTell first.made (next first.core).made s.made u.made }
    by (Some why) = s

few_each : {X : Type 0} (does : X → Core → Step) → ((x : X) (core : Core) → IsFit core → TellsFew (does x core)) → (xs : List X) (core : Core) → IsFit core → TellsFew (each does xs core)
unfolding each
few_each does one [] core fit = few_still core None fit
few_each does one (x ∷ xs) core fit = few_both (does x core) (each does xs) (one x core fit) (few_each does one xs (does x core).core)

few_two : (first second : Core → Step) (core : Core) → TellsFew (first core) → ((mid : Core) → IsFit mid → TellsFew (second mid)) → TellsFew (all_of (first ∷ second ∷ []) core)
unfolding all_of
few_two first second core one two = few_both (first core) (all_of (second ∷ [])) one (λ fit. few_both (second (first core).core) (all_of []) (two (first core).core fit) (λ last. few_still (second (first core).core).core None last))

few_replied : (core : Core) (actor since bytes : ℕ) (what : Call) (answer : Answer) → IsFit core → (is_failed (end_by answer (core.under.date - since)) ≡ true → may_fail what ≡ true) → TellsFew (replied actor what since bytes answer core)
few_replied core actor since bytes what answer fit may = record { fit = fit_ready core actor answer fit; made = All-cons MayTell _ [] may (All-nil MayTell) }

-- ---- who is answered
failed_is : (end : End) → is_failed end ≡ true → over_by end ≡ how.Failed
failed_is (end.Done ns) e = absurd (cc e)
failed_is end.Refused e = absurd (cc e)
failed_is end.Failed e = refl

few_side : (manner : How) (serial : ℕ) (side : Party) (given : Side) (core : Core) → IsFit core → ((since : ℕ) (what : Call) (on : Await) → state_of core given.actor.0 ≡ Blocked what since (Some on) → awaits_side serial side (Some on) ≡ true → manner ≡ how.Failed → may_fail what ≡ true) → TellsFew (answers_side manner serial side given core)
few_side manner serial side given core fit may = by (blocking_in (state_of core given.actor.0)) refl
  where
    reply : (blocking : Blocking) → Step
    reply blocking = replied given.actor.0 blocking.what blocking.since (cond (tells_bytes blocking.what) given.bytes 0) (answer_to manner blocking.what given.msg) core

    on : (blocking : Blocking) → blocking_in (state_of core given.actor.0) ≡ Some blocking → (b : Bool) → awaits_side serial side blocking.on ≡ b → TellsFew (cond b (reply blocking) (goes_on core []))
    on blocking e true there =
        let at : Awaits serial blocking.on = awaits serial side blocking.on there in
        let state = blocking_is (state_of core given.actor.0) blocking e ∙ ap (λ o. Blocked blocking.what blocking.since o) at.is in
        few_replied core given.actor.0 blocking.since _ blocking.what _ fit
        (λ failed. may blocking.since blocking.what at.side state (ap (awaits_side serial side) (sym at.is) ∙ there)
        (sym (answer_tells manner blocking.what given.msg (core.under.date - blocking.since)) ∙ failed_is _ failed))
    on blocking e false there = few_still core None fit

    by : (found : Option Blocking) → blocking_in (state_of core given.actor.0) ≡ found → TellsFew (answers_by manner serial side given found core)
    by None e = few_still core None fit
    by (Some blocking) e = on blocking e (awaits_side serial side blocking.on) refl

both_true : (a b : Bool) → (a && b) ≡ true → b ≡ true
both_true true b e = e
both_true false b e = absurd (cc e)

-- whoever waits for an endpoint of a communication doesn't sleep
few_party : (manner : How) (serial : ℕ) (side : Party) (given : Side) (core : Core) → party_eq party.Alone side ≡ false → IsFit core → TellsFew (answers_side manner serial side given core)
few_party manner serial side given core apart fit = few_side manner serial side given core fit by
  where
    by : (since : ℕ) (what : Call) (on : Await) → state_of core given.actor.0 ≡ Blocked what since (Some on) → awaits_side serial side (Some on) ≡ true → manner ≡ how.Failed → may_fail what ≡ true
    by since what on e there failed =
        suits_awake core.under.tasks core.whose on
        (λ s. absurd (cc (sym apart ∙ ap (λ p. party_eq p side) (sym s.alone) ∙ both_true (on.serial.0 == serial) (party_eq on.party side) there)))
        what (fit.waits given.actor.0 since what on e)

fit_over : (manner : How) (serial : ℕ) (core : Core) → IsFit core → IsFit (with_over manner serial core)
fit_over manner serial core fit =
    fit_lasts core.actors core.under.tasks _ core.whose _ core.requests (lasts_set core.under.tasks core.whose (serial - 1) None (Over manner) fit.numbered (λ owner e. absurd (cc e))) fit

-- what an actor waits for alone by a call that may fail, if it fails
abbrev IsLone : How → ℕ → Core → Type 0
IsLone manner serial core = (owner : ActorId) → whose_at core serial ≡ Alone owner → (since : ℕ) (what : Call) (on : Await) → state_of core owner.0 ≡ Blocked what since (Some on) → awaits_side serial party.Alone (Some on) ≡ true → manner ≡ how.Failed → may_fail what ≡ true

lone_used : (manner : How) (serial : ℕ) (core : Core) → (manner ≡ how.Failed → is_nowhere (task_at core.under.tasks serial) ≡ false) → IsFit core → IsLone manner serial core
lone_used manner serial core used fit owner e since what on state there failed =
    let at : Awaits serial (Some on) = awaits serial party.Alone (Some on) there in
    let same : on ≡ at.side = cc at.is in
    let number : on.serial.0 ≡ serial = ap (λ (a : Await). a.serial.0) same ∙ at.of in
    suits_awake core.under.tasks core.whose on
    (λ s. absurd (cc (sym (used failed) ∙ ap (λ n. is_nowhere (task_at core.under.tasks n)) (sym number) ∙ s.free owner (ap (λ n. whose_at core n) number ∙ e))))
    what (fit.waits owner.0 since what on state)

few_finish : (manner : How) (serial : ℕ) (core : Core) → IsLone manner serial core → IsFit core → TellsFew (finishes manner serial core)
few_finish manner serial core lone fit = by (whose_at core serial) refl
  where
    mid : Core
    mid = with_over manner serial core

    fit_mid : IsFit mid
    fit_mid = fit_over manner serial core fit

    by : (whose : Whose) → whose_at core serial ≡ whose → TellsFew (answers manner serial whose mid)
    by (Over before) e = few_still mid None fit_mid
    by (Alone owner) e = few_side manner serial party.Alone (bare_side owner.0) mid fit_mid (lone owner e)
    by (Posted mailbox sends side) e = few_still mid None fit_mid
    by (Pair sender receiver) e =
        few_both (answers_side manner serial party.Sender sender mid) (answers_side manner serial party.Receiver (for_receiver sender receiver))
        (few_party manner serial party.Sender sender mid refl fit_mid)
        (few_party manner serial party.Receiver (for_receiver sender receiver) (answers_side manner serial party.Sender sender mid).core refl)

-- ---- calls
few_wakes : (actor : ActorId) (core : Core) → IsFit core → TellsFew (wakes actor core)
few_wakes actor core fit = by (blocking_in (state_of core actor.0))
  where
    by : (blocking : Option Blocking) → TellsFew (wakes_from blocking actor core)
    by None = few_still core None fit
    by (Some blocking) = few_replied core actor.0 blocking.since 0 blocking.what answer.Done fit (λ e. absurd (cc e))

few_gets : (outcome : Outcome) (actor : ℕ) (what : Call) (core : Core) → IsFit core → TellsFew (caller_gets outcome actor what core)
few_gets GoesOn actor what core fit = few_replied core actor core.under.date 0 what answer.Done fit (λ e. absurd (cc e))
few_gets Waits actor what core fit = few_still (blocked_by actor what None core) None (fit_put core.actors core.under.tasks core.whose core.requests actor (Blocked what core.under.date None) (λ since other on e. absurd (cc e)) fit)
few_gets Refused actor what core fit = few_replied core actor core.under.date 0 what answer.Refused fit (λ e. absurd (cc e))

few_first : (done : Done) (actor : ℕ) (what : Call) (core : Core) → IsFit core → TellsFew (caller_first done actor what core)
few_first done actor what core fit =
    few_both (caller_gets done.outcome actor what (with_objects done core)) (all_wake done.woken) (few_gets done.outcome actor what (with_objects done core) fit)
    (few_each wakes few_wakes done.woken (caller_gets done.outcome actor what (with_objects done core)).core)

few_last : (done : Done) (actor : ℕ) (what : Call) (core : Core) → IsFit core → TellsFew (caller_last done actor what core)
few_last done actor what core fit =
    few_both (all_wake done.woken (with_objects done core)) (caller_gets done.outcome actor what) (few_each wakes few_wakes done.woken (with_objects done core) fit)
    (few_gets done.outcome actor what (all_wake done.woken (with_objects done core)).core)

-- one that waits comes by a call that may fail
abbrev MayWait : Comer → Type 0
MayWait comer = comer.waits ≡ true → may_fail comer.what ≡ true

few_part : (comer : Comer) (serial : ℕ) (core : Core) → MayWait comer → IsShared core.whose serial → IsFit core → TellsFew (takes_part comer.waits comer serial core)
few_part comer serial core may shared fit = by comer.waits may
  where
    own : IsOwn core.whose comer.side.actor.0 (await serial comer.sends)
    own = own_shared core.whose comer.side.actor.0 serial (await serial comer.sends) refl shared

    by : (b : Bool) → (b ≡ true → may_fail comer.what ≡ true) → TellsFew (takes_part b comer serial core)
    by true is = few_still _ None (fit_blocked core comer.side.actor.0 comer.what (await serial comer.sends) (suits_any core.under.tasks core.whose (await serial comer.sends) comer.what (is refl)) own fit)
    by false is =
        few_replied (asks_for comer.side.actor.0 (await serial comer.sends) core) comer.side.actor.0 core.under.date comer.side.bytes comer.what answer.Done
        (fit_asks core comer.side.actor.0 (await serial comer.sends) own fit) (λ e. absurd (cc e))

few_comer : (comer : Comer) (serial : ℕ) (other : Side) (core : Core) → MayWait comer → IsShared core.whose serial → IsFit core → TellsFew (comer_fails comer serial other core)
few_comer comer serial other core may shared fit = by comer.waits may
  where
    own : IsOwn core.whose comer.side.actor.0 (await serial comer.sends)
    own = own_shared core.whose comer.side.actor.0 serial (await serial comer.sends) refl shared

    by : (b : Bool) → (b ≡ true → may_fail comer.what ≡ true) → TellsFew (takes_part_failed b comer serial (sender_of comer other).bytes core)
    by true is = few_replied core comer.side.actor.0 core.under.date (sender_of comer other).bytes comer.what answer.Failed fit (λ e. is refl)
    by false is =
        few_replied (asks_for comer.side.actor.0 (await serial comer.sends) core) comer.side.actor.0 core.under.date comer.side.bytes comer.what answer.Done
        (fit_asks core comer.side.actor.0 (await serial comer.sends) own fit) (λ e. absurd (cc e))

few_other : (comer : Comer) (serial : ℕ) (other : Side) (core : Core) → IsFit core → TellsFew (other_fails comer serial other core)
few_other comer serial other core fit =
    few_cond comer.sends (answers_side how.Failed serial party.Receiver (for_receiver comer.side other) core) (answers_side how.Failed serial party.Sender other core)
    (few_party how.Failed serial party.Receiver (for_receiver comer.side other) core refl fit) (few_party how.Failed serial party.Sender other core refl fit)

-- the waiters of activities stay as one endpoint is answered
side_owners : (manner : How) (serial : ℕ) (side : Party) (given : Side) (core : Core) → (answers_side manner serial side given core).core.whose ≡ core.whose
side_owners manner serial side given core = by (blocking_in (state_of core given.actor.0))
  where
    cases : (b : Bool) (one other : Step) → one.core.whose ≡ core.whose → other.core.whose ≡ core.whose → (cond b one other).core.whose ≡ core.whose
    cases true one other e f = e
    cases false one other e f = f

    by : (found : Option Blocking) → (answers_by manner serial side given found core).core.whose ≡ core.whose
    by None = refl
    by (Some blocking) = cases (awaits_side serial side blocking.on) _ _ refl refl

other_owners : (comer : Comer) (serial : ℕ) (other : Side) (core : Core) → (other_fails comer serial other core).core.whose ≡ core.whose
other_owners comer serial other core = by comer.sends
  where
    by : (b : Bool) → (cond b (answers_side how.Failed serial party.Receiver (for_receiver comer.side other) core) (answers_side how.Failed serial party.Sender other core)).core.whose ≡ core.whose
    by true = side_owners how.Failed serial party.Receiver (for_receiver comer.side other) core
    by false = side_owners how.Failed serial party.Sender other core

few_fail : (comer : Comer) (serial : ℕ) (other : Side) (core : Core) → MayWait comer → IsShared core.whose serial → IsFit core → TellsFew (both_fail comer serial other core)
few_fail comer serial other core may shared fit =
    few_cond comer.sends (and_then (comer_fails comer serial other core) (other_fails comer serial other)) (and_then (other_fails comer serial other core) (comer_fails comer serial other))
    (few_both (comer_fails comer serial other core) (other_fails comer serial other) (few_comer comer serial other core may shared fit) (few_other comer serial other (comer_fails comer serial other core).core))
    (few_both (other_fails comer serial other core) (comer_fails comer serial other) (few_other comer serial other core fit)
    (few_comer comer serial other (other_fails comer serial other core).core may (subst (λ w. IsShared w serial) (sym (other_owners comer serial other core)) shared)))

shared_set : (whose : List Whose) (serial : ℕ) (w : Whose) → serial - 1 < length whose → ((owner : ActorId) → w ≡ Alone owner → ⊥) → IsShared (set whose (serial - 1) w) serial
shared_set whose serial w made shared = record {
  made = omega (arith, made, length-set whose (serial - 1) w);
  shared = λ owner e. shared owner (sym (get_or-set_same whose (serial - 1) w (Over how.Done) made) ∙ e);
}

few_joins : (route : Route) (setup : Setup) (comer : Comer) (serial : Serial) (other : Side) (core : Core) → MayWait comer → serial.0 - 1 < length core.whose → IsFit core → TellsFew (joins_on route setup comer serial other core)
few_joins route setup comer serial other core may made fit =
    few_cond (is_cut core.under.on (way_with route setup comer other)) (fails_with comer serial other core) (joins_with route setup comer serial other core)
    (few_fail comer serial.0 other (with_over how.Failed serial.0 core) may (shared_set core.whose serial.0 (Over how.Failed) made (λ owner e. absurd (cc e))) (fit_over how.Failed serial.0 core fit))
    (few_part comer serial.0 (joined setup serial.0 route (sender_of comer other) (receiver_of comer other) core) may
    (shared_set core.whose serial.0 (Pair (sender_of comer other) (receiver_of comer other)) made (λ owner e. absurd (cc e)))
    (fit_lasts core.actors core.under.tasks _ core.whose _ core.requests (lasts_set core.under.tasks core.whose (serial.0 - 1) (Some _) (Pair (sender_of comer other) (receiver_of comer other)) fit.numbered (λ owner e. absurd (cc e))) fit))

few_comes : (roads : Roads) (setup : Setup) (comer : Comer) (core : Core) → MayWait comer → IsFit core → TellsFew (comes roads setup comer core)
few_comes roads setup comer core may fit = by (partner comer.sends (posts_at comer.mailbox core)) refl
  where
    joins : (post : Post) → post.serial.0 - 1 < length core.whose → (r : Result Route RouteFault) → TellsFew (joins_over r setup comer post core)
    joins post made (Err why) = few_still core (Some _) fit
    joins post made (Ok route) = few_joins route setup comer post.serial post.side (counted core) may made fit

    place : length core.under.tasks + 1 - 1 ≡ length core.whose + 0
    place = omega (arith, fit.numbered)

    new : Whose
    new = Posted comer.mailbox comer.sends comer.side

    shared : IsShared (core.whose ++ new ∷ []) (length core.under.tasks + 1)
    shared = record {
      made = omega (arith, fit.numbered, length-append core.whose (new ∷ []));
      shared = λ owner e. absurd (cc (sym (ap (λ k. get_or (core.whose ++ new ∷ []) k (Over how.Done)) place ∙ get_or-append-add core.whose (new ∷ []) 0 (Over how.Done)) ∙ e));
    }

    by : (found : Option Post) → partner comer.sends (posts_at comer.mailbox core) ≡ found → TellsFew (comes_by found roads setup comer core)
    by None e = few_part comer (length core.under.tasks + 1) (posted comer (counted core)) may shared
        (fit_lasts core.actors core.under.tasks _ core.whose _ core.requests (lasts_push core.under.tasks core.whose None new fit.numbered) fit)
    by (Some post) e =
        let found = found_post (is_other comer.sends) comer.mailbox 1 core.whose post e in
        joins post (omega (arith, found.from, found.to)) (route_between roads setup (sender_of comer post.side) (receiver_of comer post.side))

few_waits : (actor : ℕ) (core : Core) (found : Option Await) → oldest (queue_at core.requests actor) ≡ found → IsFit core → TellsFew (waits_by found actor core)
few_waits actor core None e fit = few_replied core actor core.under.date 0 call.Wait answer.Refused fit (λ e. refl)
few_waits actor core (Some on) e fit = until (answer_of_over (whose_at core on.serial.0))
  where
    rest : Core
    rest = record core { requests = queues_without_oldest core.requests actor }

    fit_rest : IsFit rest
    fit_rest = fit_taken core actor fit

    until : (manner : Option Answer) → TellsFew (waits_until manner actor on rest)
    until (Some manner) = few_replied rest actor core.under.date 0 call.Wait manner fit_rest (λ e. refl)
    until None = few_still _ None (fit_blocked rest actor call.Wait on refl (oldest_own (IsOwn core.whose actor) (queue_at core.requests actor) on e (fit.asked actor)) fit_rest)

-- a new activity is the caller's alone, which is blocked on it
fit_begins : (slot : Task) (actor : ℕ) (what : Call) (core : Core) → Suits (core.under.tasks ++ Some slot ∷ []) (core.whose ++ Alone (actor_of actor) ∷ []) what (await_alone (length core.under.tasks + 1)) → IsFit core → IsFit (blocks_on slot actor what core)
fit_begins slot actor what core suits fit =
    fit_blocked_in core.actors (core.under.tasks ++ Some slot ∷ []) after core.requests actor core.under.date what on suits own
    (fit_lasts core.actors core.under.tasks _ core.whose _ core.requests (lasts_push core.under.tasks core.whose (Some slot) (Alone (actor_of actor)) fit.numbered) fit)
  where
    after : List Whose
    after = core.whose ++ Alone (actor_of actor) ∷ []

    on : Await
    on = await_alone (length core.under.tasks + 1)

    place : length core.under.tasks + 1 - 1 ≡ length core.whose + 0
    place = omega (arith, fit.numbered)

    last : get_or after (length core.under.tasks + 1 - 1) (Over how.Done) ≡ Alone (actor_of actor)
    last = ap (λ k. get_or after k (Over how.Done)) place ∙ get_or-append-add core.whose (Alone (actor_of actor) ∷ []) 0 (Over how.Done)

    by : (owner : ActorId) → Alone (actor_of actor) ≡ Alone owner → owner.0 - 1 ≡ actor - 1
    by owner e = (let same : actor_of actor ≡ owner = cc e in ap (λ (a : ActorId). a.0 - 1) (sym same))

    own : IsOwn after actor on
    own = record {
      made = omega (arith, fit.numbered, length-append core.whose (Alone (actor_of actor) ∷ []));
      own = λ owner e. by owner (sym last ∙ e);
    }

-- ---- executions that are suspended
fit_turned : (kind : PhaseKind) (serial : ℕ) (core : Core) → IsFit core → IsFit (record core { under = with_phase_kind kind serial core.under })
fit_turned kind serial core fit =
    fit_lasts core.actors core.under.tasks _ core.whose core.whose core.requests
    (lasts_next core.under.tasks core.whose (serial - 1) _ fit.numbered (nowhere_mapped (rekinded kind) (λ task. refl) (task_at core.under.tasks serial))) fit

fit_held_if : (suspended : Bool) (serial : ℕ) (core : Core) → IsFit core → IsFit (held_if suspended serial core)
fit_held_if true serial core fit = fit_turned phase.Kept serial core fit
fit_held_if false serial core fit = fit

fit_cond : (b : Bool) (core : Core) (one other : Underway) → IsFit (record core { under = one }) → IsFit (record core { under = other }) → IsFit (record core { under = cond b one other })
fit_cond true core one other p q = p
fit_cond false core one other p q = q

fit_held_to : (on : Bool) (serial : ℕ) (core : Core) → IsFit core → IsFit (record core { under = held_to on serial core.under })
fit_held_to true serial core fit = fit_cond (is_computing core.under serial) core (held serial core.under) core.under (fit_turned phase.Kept serial core fit) fit
fit_held_to false serial core fit = fit_cond (is_kept core.under serial) core (gone_on serial core.under) core.under (fit_turned phase.Exec serial core fit) fit

fit_held_on : (on : Bool) (await : Option Await) (core : Core) → IsFit core → IsFit (held_on on await core)
fit_held_on on None core fit = fit
fit_held_on on (Some await) core fit = fit_held_to on await.serial.0 core fit

fit_held_by : (on : Bool) (blocking : Option Blocking) (core : Core) → IsFit core → IsFit (held_by on blocking core)
fit_held_by on None core fit = fit
fit_held_by on (Some blocking) core fit = fit_held_on on blocking.on core fit

fit_suspended : (target : ℕ) (on : Bool) (core : Core) → IsFit core → IsFit (with_suspended target on core)
fit_suspended target on core =
    fit_fewer core.actors (put_suspended core.actors target on) core.under.tasks core.whose core.requests
    (λ other since what side.
    set_there (λ (a : Actor). a.state ≡ Blocked what since (Some side) → state_at core.actors other ≡ Blocked what since (Some side)) core.actors (target - 1) (other - 1) (record { state = state_at core.actors target; suspended = on }) (not_suspended Ended)
    (λ same e. ap (λ i. (get_or core.actors i (not_suspended Ended)).state) same ∙ e) (λ e. e))

fit_suspended_to : (on : Bool) (target : ActorId) (core : Core) → IsFit core → IsFit (suspended_to on target core)
fit_suspended_to on target core fit = by (is_alive (state_of core target.0))
  where
    changed : Core
    changed = held_by on (blocking_in (state_of core target.0)) (with_suspended target.0 on core)

    by : (b : Bool) → IsFit (cond b changed core)
    by true = fit_held_by on (blocking_in (state_of core target.0)) (with_suspended target.0 on core) (fit_suspended target.0 on core fit)
    by false = fit

few_computes : (setup : Setup) (actor flops priority : ℕ) (core : Core) → IsFit core → TellsFew (computes setup actor flops priority core)
few_computes setup actor flops priority core fit =
    few_cond (is_off core.under.on.hosts (host_of setup actor)) (at_once actor (call.Compute flops priority) 0 answer.Failed core) (executes setup actor flops priority core)
    (few_replied core actor core.under.date 0 (call.Compute flops priority) answer.Failed fit (λ e. refl))
    (few_still (executed setup actor flops priority core) None
    (fit_held_if (is_suspended core actor) (length core.under.tasks + 1) (with_execution setup actor flops priority core)
    (fit_begins (exec_of (host_of setup actor) flops priority) actor (call.Compute flops priority) core refl fit)))

few_sleeps : (actor ns : ℕ) (core : Core) → IsFit core → TellsFew (goes_on (with_sleep actor ns core) [])
few_sleeps actor ns core fit = few_still (with_sleep actor ns core) None (fit_begins (timer_of ns) actor (call.Sleep ns) core sleep fit)
  where
    later : List (Option Task)
    later = core.under.tasks ++ Some (timer_of ns) ∷ []

    after : List Whose
    after = core.whose ++ Alone (actor_of actor) ∷ []

    place : length core.under.tasks + 1 - 1 ≡ length core.under.tasks + 0
    place = omega arith

    sleep : IsSleep later after (await_alone (length core.under.tasks + 1))
    sleep = record {
      alone = refl;
      made = omega (arith, fit.numbered, length-append core.whose (Alone (actor_of actor) ∷ []));
      free = λ owner e. ap (λ k. is_nowhere (get_or later k None)) place ∙ ap is_nowhere (get_or-append-add core.under.tasks (Some (timer_of ns) ∷ []) 0 None);
    }

-- ---- lives of actors
few_joiners : (target : ℕ) (core : Core) → IsFit core → TellsFew (joiners_wake target core)
few_joiners target core = few_each wakes few_wakes (joiners target 1 core.actors) core

few_joined : (ended : Bool) (actor : ℕ) (target : ActorId) (core : Core) → IsFit core → TellsFew (joins_by ended actor target core)
few_joined true actor target core fit = few_replied core actor core.under.date 0 (call.Join target) answer.Done fit (λ e. absurd (cc e))
few_joined false actor target core fit = few_still (blocked_by actor (call.Join target) None core) None (fit_put core.actors core.under.tasks core.whose core.requests actor (Blocked (call.Join target) core.under.date None) (λ since other on e. absurd (cc e)) fit)

few_creates : (given : Bool) (actor : ℕ) (target : ActorId) (core : Core) → IsFit core → TellsFew (answers_create given actor target core)
few_creates true actor target core fit = few_replied (begins target core) actor core.under.date 0 (call.Create target) answer.Done (fit_ready core target.0 answer.Start fit) (λ e. absurd (cc e))
few_creates false actor target core fit = few_replied core actor core.under.date 0 (call.Create target) answer.Refused fit (λ e. absurd (cc e))

few_created : (given : Bool) (actor : ℕ) (target : ActorId) (core : Core) → IsFit core → TellsFew (created given actor target core)
few_created given actor target core fit = few_creates given actor target (counted core) fit

-- ---- kills
-- what each of the numbers that enter a list satisfies
pub entered_all : (P : ℕ → Type 0) (n : ℕ) (list : List ℕ) → P n → All P list → All P (rising_numbers_with n list)
unfolding rising_numbers_with
entered_all P n [] p all = All-cons P n [] p (All-nil P)
entered_all P n (m ∷ more) p all = by (nat_lt n m) (n == m) (entered_all P n more p (All-tail P m more all))
  where
    by : (below same : Bool) → All P (rising_numbers_with n more) → All P (cond below (n ∷ m ∷ more) (cond same (m ∷ more) (m ∷ rising_numbers_with n more)))
    by true same rest = All-cons P n (m ∷ more) p all
    by false true rest = all
    by false false rest = All-cons P m (rising_numbers_with n more) (All-head P m more all) rest

pub rising_all : (P : ℕ → Type 0) (list : List ℕ) → All P list → All P (rising_numbers list)
unfolding rising_numbers
rising_all P [] all = All-nil P
rising_all P (n ∷ more) all = entered_all P n (rising_numbers more) (All-head P n more all) (rising_all P more (All-tail P n more all))

-- what is an actor's alone and the target awaits is the target's own
abbrev IsOwnAt : ActorId → Core → ℕ → Type 0
IsOwnAt target core serial = (owner : ActorId) → whose_at core serial ≡ Alone owner → owner.0 - 1 ≡ target.0 - 1

serials_own : (target : ActorId) (core : Core) (queue : List Await) → All (IsOwn core.whose target.0) queue → All (IsOwnAt target core) (map serial_of queue)
serials_own target core [] all = All-nil (IsOwnAt target core)
serials_own target core (on ∷ queue) all =
    let P = IsOwn core.whose target.0 in
    All-cons (IsOwnAt target core) on.serial.0 (map serial_of queue) (All-head P on queue all).own (serials_own target core queue (All-tail P on queue all))

blocked_own : (target : ActorId) (core : Core) → IsFit core → All (IsOwn core.whose target.0) (option_to_list (blocked_on (blocking_in (state_of core target.0))))
blocked_own target core fit = by (blocking_in (state_of core target.0)) refl
  where
    P : Await → Type 0
    P = IsOwn core.whose target.0

    on : (blocking : Blocking) (o : Option Await) → blocking.on ≡ o → blocking_in (state_of core target.0) ≡ Some blocking → All P (option_to_list o)
    on blocking None is e = All-nil P
    on blocking (Some side) is e =
        let state = blocking_is (state_of core target.0) blocking e ∙ ap (λ o. Blocked blocking.what blocking.since o) is in
        All-cons P side [] (fit.own target.0 blocking.since blocking.what side state) (All-nil P)

    by : (found : Option Blocking) → blocking_in (state_of core target.0) ≡ found → All P (option_to_list (blocked_on found))
    by None e = All-nil P
    by (Some blocking) e = on blocking blocking.on refl e

awaited_own : (target : ActorId) (core : Core) → IsFit core → All (IsOwnAt target core) (awaited target core)
awaited_own target core fit =
    let here = option_to_list (blocked_on (blocking_in (state_of core target.0))) in
    let queue = queue_at core.requests target.0 in
    let P = IsOwn core.whose target.0 in
    rising_all (IsOwnAt target core) (map serial_of (here ++ queue)) (serials_own target core (here ++ queue) (All-append P here queue (blocked_own target core fit) (fit.asked target.0)))

fit_withdrawn : (target : ActorId) (core : Core) → IsFit core → IsFit (withdrawn target core)
fit_withdrawn target core fit =
    let fewer = fit_asked core target.0 [] (All-nil (IsOwn core.whose target.0)) fit in
    let ended = fit_put core.actors core.under.tasks core.whose (without_requests core.requests target.0) target.0 Ended (λ since what on e. absurd (cc e)) fewer in
    record { numbered = ended.numbered; waits = ended.waits; own = ended.own; asked = ended.asked }

few_gives_up : (target : ActorId) (before : Core) (serial : ℕ) (core : Core) → IsOwnAt target before serial → Since target before core → IsFit core → TellsFew (gives_up serial core)
few_gives_up target before serial core own s fit = by (whose_at core serial) refl
  where
    lone : IsLone how.Failed serial core
    lone owner e since what on state there failed =
        let place = own owner (s.alone serial owner e) in
        let dead = (s.blocked target.0 since what (Some on) (ap (λ i. (get_or core.actors i (not_suspended Ended)).state) (sym place) ∙ state)).1 in
        absurd (dead refl)

    by : (whose : Whose) → whose_at core serial ≡ whose → TellsFew (gives_up_by whose serial core)
    by (Over way) e = few_still core None fit
    by (Alone owner) e = few_finish how.Failed serial core lone fit
    by (Posted mailbox sends side) e = few_finish how.Failed serial core lone fit
    by (Pair sender receiver) e = few_finish how.Failed serial core lone fit

few_give_up : (target : ActorId) (before : Core) (serials : List ℕ) (core : Core) → All (Contains (awaited target before)) serials → All (IsOwnAt target before) serials → Since target before core → IsFit core → TellsFew (each gives_up serials core)
unfolding each
few_give_up target before [] core among own s fit = few_still core None fit
few_give_up target before (serial ∷ more) core among own s fit =
    let within = All-head (Contains (awaited target before)) serial more among in
    few_both (gives_up serial core) (each gives_up more) (few_gives_up target before serial core (All-head (IsOwnAt target before) serial more own) s fit)
    (few_give_up target before more (gives_up serial core).core (All-tail (Contains (awaited target before)) serial more among) (All-tail (IsOwnAt target before) serial more own) (gives_up_tells target before serial core within s).since)

few_three : (first second third : Core → Step) (core : Core) → TellsFew (first core) → (IsFit (first core).core → TellsFew (second (first core).core)) → ((late : Core) → IsFit late → TellsFew (third late)) → TellsFew (all_of (first ∷ second ∷ third ∷ []) core)
unfolding all_of
few_three first second third core one two three =
    let mid = (first core).core in
    let late = (second mid).core in
    few_both (first core) (all_of (second ∷ third ∷ [])) one
    (λ fit. few_both (second mid) (all_of (third ∷ [])) (two fit)
    (λ more. few_both (third late) (all_of []) (three late more) (λ last. few_still (third late).core None last)))

few_kills : (actor : ℕ) (target : ActorId) (core : Core) → IsFit core → TellsFew (kills actor target core)
few_kills actor target core fit =
    few_cond (is_alive (state_of core target.0)) (all_of (kill_stretches actor target serials) start) (at_once actor (call.Kill target) 0 answer.Done core)
    (few_three (kill_done actor target) (each gives_up serials) (joiners_wake target.0) start killer
    (few_give_up target core serials (kill_done actor target start).core (All-contains_itself serials) (awaited_own target core fit) since) (few_joiners target.0))
    (few_replied core actor core.under.date 0 (call.Kill target) answer.Done fit (λ e. absurd (cc e)))
  where
    serials : List ℕ
    serials = awaited target core

    start : Core
    start = withdrawn target core

    fit_start : IsFit start
    fit_start = fit_withdrawn target core fit

    killer : TellsFew (kill_done actor target start)
    killer =
        few_cond (actor == target.0) (goes_on start []) (at_once actor (call.Kill target) 0 answer.Done start) (few_still start None fit_start)
        (few_replied start actor core.under.date 0 (call.Kill target) answer.Done fit_start (λ e. absurd (cc e)))

    since : Since target core (kill_done actor target start).core
    since = (killer_tells actor target core start (since_withdrawn target core core.events)).since

-- ---- any call
few_call : (roads : Roads) (setup : Setup) (core : Core) (actor : ℕ) (what : Call) → IsFit core → TellsFew (answered_call roads setup core actor what)
few_call roads setup core actor call.Ask fit = few_still _ None (fit_ready (counted core) actor answer.Refused fit)
few_call roads setup core actor (call.Compute n p) fit = few_computes setup actor n p (counted core) fit
few_call roads setup core actor (call.Sleep n) fit = few_sleeps actor n (counted core) fit
few_call roads setup core actor (call.Send b n m r) fit = few_comes roads setup (sends_by (side_of actor n m r) (call.Send b n m r) true b) core (λ e. refl) fit
few_call roads setup core actor (call.Recv b) fit = few_comes roads setup (receives_by actor (call.Recv b) true b) core (λ e. refl) fit
few_call roads setup core actor (call.ISend b n m r) fit = few_comes roads setup (sends_by (side_of actor n m r) (call.ISend b n m r) false b) core (λ e. absurd (cc e)) fit
few_call roads setup core actor (call.IRecv b) fit = few_comes roads setup (receives_by actor (call.IRecv b) false b) core (λ e. absurd (cc e)) fit
few_call roads setup core actor call.Wait fit = few_waits actor (counted core) (oldest (queue_at core.requests actor)) refl fit
few_call roads setup core actor (call.Lock n) fit = few_first (locked (actor_of actor) n core.objects) actor (call.Lock n) (counted core) fit
few_call roads setup core actor (call.Unlock n) fit = few_first (unlocked (actor_of actor) n core.objects) actor (call.Unlock n) (counted core) fit
few_call roads setup core actor (call.Acquire n) fit = few_first (acquired (actor_of actor) n core.objects) actor (call.Acquire n) (counted core) fit
few_call roads setup core actor (call.Release n) fit = few_first (released n core.objects) actor (call.Release n) (counted core) fit
few_call roads setup core actor call.Barrier fit = few_last (arrived (actor_of actor) core.objects) actor call.Barrier (counted core) fit
few_call roads setup core actor call.Yield fit = few_replied (counted core) actor core.under.date 0 call.Yield answer.Done fit (λ e. absurd (cc e))
few_call roads setup core actor (call.Create n) fit = few_created false actor n core fit
few_call roads setup core actor (call.Join n) fit = few_joined (is_ended (state_of core n.0)) actor n (counted core) fit
few_call roads setup core actor (call.Kill n) fit = few_kills actor n (counted core) fit
few_call roads setup core actor (call.Suspend n) fit = few_replied (suspended_to true n (counted core)) actor _ 0 (call.Suspend n) answer.Done (fit_suspended_to true n (counted core) fit) (λ e. absurd (cc e))
few_call roads setup core actor (call.Resume n) fit = few_replied (suspended_to false n (counted core)) actor _ 0 (call.Resume n) answer.Done (fit_suspended_to false n (counted core) fit) (λ e. absurd (cc e))
few_call roads setup core actor call.Exit fit =
    few_joiners actor (with_actor_ended actor (counted core)) (fit_put core.actors core.under.tasks core.whose core.requests actor Ended (λ since what on e. absurd (cc e)) fit)

few_answered : (roads : Roads) (setup : Setup) (core : Core) (actor : ℕ) (what : Call) → IsFit core → TellsFew (answered roads setup core actor what)
few_answered roads setup core actor what fit = few_cond (core.events == setup.budget) (stops core [] Budget) (answered_call roads setup core actor what) (few_still core (Some Budget) fit) (few_call roads setup core actor what fit)

few_told : (setup : Setup) (core : Core) (actor : ℕ) (action : Option Action) → IsFit core → TellsFew (told setup core actor action)
few_told setup core actor action fit =
    few_cond (core.events == setup.budget) (stops core [] Budget) (goes_on (readied actor (answer_of_ask action) (counted core)) []) (few_still core (Some Budget) fit)
    (few_still _ None (fit_ready (counted core) actor (answer_of_ask action) fit))

-- ---- failures
-- the first that meets a condition meets it at its place
pub record IsThere {X : Type 0} (test : X → Bool) (n serial : ℕ) (xs : List (Option X)) : Type 0 where
  pub from : n ≤ serial
  pub there : passes test (get_or xs (serial - n) None) ≡ true

pub first_there : {X : Type 0} (test : X → Bool) (n serial : ℕ) (xs : List (Option X)) (rest : List ℕ) → serials test n xs ≡ serial ∷ rest → IsThere test n serial xs
unfolding serials
first_there test n serial [] rest e = absurd (cc e)
first_there test n serial (x ∷ xs) rest e = by (passes test x) refl e (first_there test (n + 1) serial xs rest)
  where
    by : (b : Bool) → passes test x ≡ b → cond b (n ∷ serials test (n + 1) xs) (serials test (n + 1) xs) ≡ serial ∷ rest → (serials test (n + 1) xs ≡ serial ∷ rest → IsThere test (n + 1) serial xs) → IsThere test n serial (x ∷ xs)
    by true is e more =
        let same : n ≡ serial = cc e in
        let none : serial - n ≡ 0 = omega (arith, same) in
        record { from = omega (arith, same); there = ap (λ k. passes test (get_or (x ∷ xs) k None)) none ∙ is }
    by false is e more =
        let m = more e in
        let next : serial - n ≡ suc (serial - (n + 1)) = omega (arith, m.from) in
        record { from = omega (arith, m.from); there = ap (λ k. passes test (get_or (x ∷ xs) k None)) next ∙ m.there }

hit_somewhere : (on : Switches) (slot : Option Task) → passes (is_hit on) slot ≡ true → is_nowhere slot ≡ false
hit_somewhere on None e = absurd (cc e)
hit_somewhere on (Some task) e = by task.place e
  where
    by : (place : Place) → uses_off on place ≡ true → is_nowhere_at place ≡ false
    by nowhere e = absurd (cc e)
    by (on_host host) e = refl
    by (over way) e = refl

few_fails : (setup : Setup) (serials : List ℕ) (core : Core) → hits core.under ≡ serials → IsFit core → TellsFew (each (fails setup) serials core)
unfolding each
few_fails setup [] core e fit = few_still core None fit
few_fails setup (serial ∷ rest) core e fit = by (core.events == setup.budget) (few_fails setup rest)
  where
    failed : Step
    failed = fails_one serial core

    used : how.Failed ≡ how.Failed → is_nowhere (task_at core.under.tasks serial) ≡ false
    used same = hit_somewhere core.under.on (task_at core.under.tasks serial) (first_there (is_hit core.under.on) 1 serial core.under.tasks rest e).there

    left : hits failed.core.under ≡ rest
    left = ap hits (finishes_leaves how.Failed serial (counted core)) ∙ rest_is_hit core.under serial rest e

    by : (b : Bool) → ((core : Core) → hits core.under ≡ rest → IsFit core → TellsFew (each (fails setup) rest core)) → TellsFew (and_then (cond b (stops core [] Budget) failed) (each (fails setup) rest))
    by true more = few_still core (Some Budget) fit
    by false more = few_both failed (each (fails setup) rest) (few_finish how.Failed serial (counted core) (lone_used how.Failed serial (counted core) used fit) fit) (more failed.core left)

few_changes : (setup : Setup) (row : ℕ) (core : Core) → IsFit core → TellsFew (changes setup row core)
few_changes setup row core fit =
    few_cond (core.events == setup.budget) (stops core [] Budget) (all_of (entry_stretches setup row) core) (few_still core (Some Budget) fit)
    (few_two (enters_one setup row) (all_fail setup) core
    (few_still _ None (subst (λ tasks. AreFit core.actors tasks core.whose core.requests) (sym (entry_leaves setup.network (entry_at setup.profiles core.turns row) core.under)) fit))
    (λ mid. few_fails setup (hits mid.under) mid refl))

-- ---- ends of phases
next_like : (task next : Task) → next_phase task.kind task ≡ Some next → is_nowhere_at next.place ≡ is_nowhere_at task.place
next_like task next e = by task.kind e
  where
    by : (kind : PhaseKind) → next_phase kind task ≡ Some next → is_nowhere_at next.place ≡ is_nowhere_at task.place
    by phase.Latency e = (let same : record task { kind = phase.Flow; left = task.bytes * 1000000000 } ≡ next = cc e in sym (ap (λ (t : Task). is_nowhere_at t.place) same))
    by phase.Flow e = absurd (cc e)
    by phase.Exec e = absurd (cc e)
    by phase.Timer e = absurd (cc e)
    by phase.Kept e = absurd (cc e)

few_ends : (setup : Setup) (serial : ℕ) (core : Core) → IsFit core → TellsFew (ends setup serial core)
few_ends setup serial core fit = by (task_at core.under.tasks serial) refl
  where
    ended : (task : Task) → task_at core.under.tasks serial ≡ Some task → (after : Option Task) → phase_after (Some task) ≡ after → TellsFew (ends_in serial after (counted core))
    ended task at None e = few_finish how.Done serial (counted core) (λ owner e since what on state there failed. absurd (cc failed)) fit
    ended task at (Some next) e =
        few_still _ None (fit_lasts core.actors core.under.tasks _ core.whose _ core.requests (lasts_next core.under.tasks core.whose (serial - 1) (Some next) fit.numbered (next_like task next e ∙ sym (ap is_nowhere at))) fit)

    one : (task : Task) → task_at core.under.tasks serial ≡ Some task → TellsFew (ends_one serial core)
    one task at = subst (λ o. TellsFew (ends_in serial (phase_after o) (counted core))) (sym at) (ended task at (phase_after (Some task)) refl)

    by : (o : Option Task) → task_at core.under.tasks serial ≡ o → TellsFew (ends_by setup serial o core)
    by None at = few_still core None fit
    by (Some task) at = few_cond (core.events == setup.budget) (stops core [] Budget) (ends_one serial core) (few_still core (Some Budget) fit) (one task at)

-- ---- a time advance
few_pass : (setup : Setup) (core : Core) (span : Option ℕ) → IsFit core → TellsFew (pass_at setup core span)
few_pass setup core None fit = few_still core (Some _) fit
few_pass setup core (Some span) fit =
    few_cond (core.events == setup.budget) (stops core [] Budget) (all_of (stretches setup span core) (core_later span core)) (few_still core (Some Budget) fit)
    (few_two (each (changes setup) (rows_due (core.under.date + span) setup.profiles core.turns)) (each (ends setup) (due_in span core.under)) (core_later span core)
    (few_each (changes setup) (few_changes setup) (rows_due (core.under.date + span) setup.profiles core.turns) (core_later span core)
    (fit_lasts core.actors core.under.tasks _ core.whose core.whose core.requests (lasts_map (passed core.under span) (λ task. refl) core.under.tasks core.whose fit.numbered) fit))
    (few_each (ends setup) (few_ends setup) (due_in span core.under)))

-- no actor is blocked at first
pub none_blocked : (starts : List Bool) (i since : ℕ) (what : Call) (on : Await) → (get_or (map first_actor starts) i (not_suspended Ended)).state ≡ Blocked what since (Some on) → ⊥
none_blocked [] i since what on e = absurd (cc e)
none_blocked (true ∷ starts) zero since what on e = absurd (cc e)
none_blocked (false ∷ starts) zero since what on e = absurd (cc e)
none_blocked (b ∷ starts) (suc i) since what on e = none_blocked starts i since what on e

-- no actor has asked for anything
pub none_asked : (P : Await → Type 0) (many i : ℕ) → All P (get_or (replicate many []) i [])
none_asked P many i = elim (cases_lt i many) [
  | inl less ↦ subst (λ (q : List Await). All P q) (sym (get_or-replicate many i none none less)) (All-nil P)
  | inr past ↦ subst (λ (q : List Await). All P q) (sym (get_or_past (replicate many none) i none (omega (arith, past, length-replicate many none)))) (All-nil P)
]
  where
    none : List Await
    none = []

first_fit : (capacities : Capacities) (setup : Setup) → IsFit (first_core capacities setup)
first_fit capacities setup = record {
  numbered = refl;
  waits = λ actor since what on e. absurd (none_blocked setup.starts (actor - 1) since what on e);
  own = λ actor since what on e. absurd (none_blocked setup.starts (actor - 1) since what on e);
  asked = λ actor. none_asked (IsOwn [] actor) (length setup.homes) (actor - 1);
}

pub no_other_fails : NoOtherFails
no_other_fails = record { first = first_fit; calls = few_answered; creates = few_created; asks = few_told; passes = λ setup core. few_pass setup (settled core) (next_span setup (settled core)) }
