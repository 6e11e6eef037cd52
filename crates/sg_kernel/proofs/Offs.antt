-- No running activity uses what is off, from step to step.
use Rattle.std.proofs.Common.{◌≡◌, ℕ, zero, suc, ◌+◌, ◌-◌, ◌*◌, ◌==◌, Bool, true, false, cond, inl, inr, Option, None, Some, option_map, Result, Ok, Err, List, [], ◌∷◌, ◌++◌, length, map, set, get_or, refl, sym, ap, subst, ◌∙◌, arith}
use Rattle.std.proofs.lemmas.Bool.{cases_eq, cases_lt}
use Rattle.std.proofs.lemmas.List.{get_or-set_same, get_or-set_other, get_or_past, length-set}
use Rattle.sg_base.specs.declared.awaits.Await.{Await}
use Rattle.sg_base.specs.declared.awaits.Party.TheVariants.{Sender, Receiver}
use Rattle.sg_base.specs.declared.call.Action.{Action}
use Rattle.sg_base.specs.declared.call.Answer.{Answer}
use Rattle.sg_base.specs.declared.call.Answer.TheVariants as answer
use Rattle.sg_base.specs.declared.call.Call.{Call}
use Rattle.sg_base.specs.declared.call.Call.TheVariants as call
use Rattle.sg_base.specs.declared.ids.ActorId.{ActorId}
use Rattle.sg_base.specs.declared.ids.Serial.{Serial}
use Rattle.sg_activity_table.specs.declared.kinds.PhaseKind.{PhaseKind}
use Rattle.sg_activity_table.specs.declared.kinds.PhaseKind.TheVariants as phase
use Rattle.sg_activity.specs.Links.{Capacities, Switches, is_off}
use Rattle.sg_activity_table.specs.Slots.{passes, serials}
use Rattle.sg_activity.specs.Task.{Task, exec_of, is_cut, is_hit, next_phase, phase_after, rekinded, task_at, timer_of}
use Rattle.sg_activity.specs.Underway.{Underway, due_in, gone_on, held, hits, is_computing, is_kept, passed, with_phase_kind}
use Rattle.sg_base.specs.Turn.{actor_of}
use Rattle.sg_mailbox.specs.declared.sides.Post.{Post}
use Rattle.sg_mailbox.specs.declared.sides.Side.{Side}
use Rattle.sg_mailbox.specs.Posts.{partner}
use Rattle.sg_profile.specs.Profiles.{rows_due}
use Rattle.sg_requests.specs.Requested.{oldest, queue_at, queues_without_oldest}
use Rattle.sg_route.specs.declared.router.RouteFault.{RouteFault}
use Rattle.sg_route.specs.Roads.{Roads}
use Rattle.sg_route.specs.Route.{Route}
use Rattle.sg_actor_states.specs.declared.state.Blocking.{Blocking}
use Rattle.sg_actor_states.specs.Actors.{blocking_in, is_alive, is_ended, joiners}
use Rattle.sg_sync.specs.declared.outcome.Outcome.{Outcome}
use Rattle.sg_sync.specs.declared.outcome.Outcome.TheVariants.{GoesOn, Waits, Refused}
use Rattle.sg_sync.specs.Objects.{Done, locked, unlocked, acquired, released, arrived}
use Rattle.sg_kernel_calls.specs.declared.meetings.Comer.{Comer}
use Rattle.sg_mailbox.specs.declared.owners.How.TheVariants as how
use Rattle.sg_kernel_calls.specs.declared.stop.Stop.{Stop}
use Rattle.sg_kernel_calls.specs.declared.stop.Stop.TheVariants.{Budget}
use Rattle.sg_mailbox.specs.declared.owners.Whose.{Whose}
use Rattle.sg_mailbox.specs.declared.owners.Whose.TheVariants.{Over, Alone, Posted, Pair}
use Rattle.sg_kernel_calls.specs.Answers.{answers_side, finishes, for_receiver, side_of, with_over}
use Rattle.sg_kernel_calls.specs.Calls.{answer_of_ask, answered, answered_call, computes, executes, told, with_execution}
use Rattle.sg_kernel_calls.specs.Lives.{created, exits, joins_by, with_actor_ended}
use Rattle.sg_kernel_calls.specs.Kills.{awaited, gives_up, gives_up_by, kill_done, kill_stretches, kills, kills_alive, withdrawn}
use Rattle.sg_kernel_calls.specs.Suspensions.{held_by, held_if, held_on, held_to, suspended_to}
use Rattle.sg_kernel.specs.Failures.{UsesNothingOff}
use Rattle.sg_kernel_calls.specs.Locks.{all_wake, caller_first, caller_gets, caller_last, joiners_wake, wakes, wakes_from, with_objects}
use Rattle.sg_kernel_calls.specs.Meetings.{answer_of_over, both_fail, comer_fails, comes, comes_by, fails_with, joined, joins_on, joins_over, joins_with, other_fails, posts_at, receiver_of, route_between, sender_of, sends_by, receives_by, takes_part, takes_part_failed, waits_by, waits_until, way_with}
use Rattle.sg_kernel.specs.Passes.{all_fail, changes, core_later, ends, ends_by, ends_in, ends_one, enters_one, entry_stretches, fails, fails_one, next_span, pass_at, pass_of, settled, stretches}
use Rattle.sg_kernel.specs.Start.{first_core}
use Rattle.sg_kernel_calls.specs.Steps.{Step, goes_on, stops, counted, follows, and_then, each, all_of, readied, at_once}
use Rattle.sg_kernel_calls.specs.Setup.{Setup}
use Rattle.sg_kernel_calls.specs.World.{Core, host_of, is_suspended, state_of, whose_at, with_suspended}
use Rattle.sg_kernel_calls.proofs.Each.{all_of-two}
use Rattle.sg_kernel.proofs.Hits.{rest_is_hit}
use Rattle.sg_kernel_calls.proofs.Meets.{pushed_at}
use Rattle.sg_kernel.proofs.Skips.{both_leave, finishes_leaves, side_leaves}

-- ---- lists of tasks
-- none uses what is off
abbrev AreClear : Switches → List (Option Task) → Type 0
AreClear on tasks = (place : ℕ) → passes (is_hit on) (get_or tasks place None) ≡ false

abbrev IsClear : Underway → Type 0
IsClear under = AreClear under.on under.tasks

none_hits : (on : Switches) (n : ℕ) (tasks : List (Option Task)) → AreClear on tasks → serials (is_hit on) n tasks ≡ []
unfolding serials
none_hits on n [] clear = refl
none_hits on n (task ∷ tasks) clear =
    let rest = serials (is_hit on) (n + 1) tasks in
    ap (λ b. cond b (n ∷ rest) rest) (clear zero) ∙ none_hits on (n + 1) tasks (λ place. clear (suc place))

hits_none : (on : Switches) (n : ℕ) (tasks : List (Option Task)) → serials (is_hit on) n tasks ≡ [] → AreClear on tasks
unfolding serials
hits_none on n [] e place = refl
hits_none on n (task ∷ tasks) e place = by (passes (is_hit on) task) refl e place (hits_none on (n + 1) tasks)
  where
    by : (b : Bool) → passes (is_hit on) task ≡ b → cond b (n ∷ serials (is_hit on) (n + 1) tasks) (serials (is_hit on) (n + 1) tasks) ≡ [] → (place : ℕ) → (serials (is_hit on) (n + 1) tasks ≡ [] → AreClear on tasks) → passes (is_hit on) (get_or (task ∷ tasks) place None) ≡ false
    by true is e place more = absurd (cc e)
    by false is e zero more = is
    by false is e (suc place) more = more e place

hits_of : (under : Underway) → IsClear under → hits under ≡ []
hits_of under clear = none_hits under.on 1 under.tasks clear

clear_of : (under : Underway) → hits under ≡ [] → IsClear under
clear_of under none = hits_none under.on 1 under.tasks none

clear_set : (on : Switches) (tasks : List (Option Task)) (place : ℕ) (slot : Option Task) → passes (is_hit on) slot ≡ false → AreClear on tasks → AreClear on (set tasks place slot)
clear_set on tasks place slot is clear other = elim (cases_eq other place) [
  | inl same ↦ elim (cases_lt other (length tasks)) [
    | inl less ↦ ap (λ k. passes (is_hit on) (get_or (set tasks k slot) other None)) (sym same) ∙ ap (passes (is_hit on)) (get_or-set_same tasks other slot None less) ∙ is
    | inr past ↦ ap (passes (is_hit on)) (get_or_past (set tasks place slot) other None (omega (arith, past, length-set tasks place slot)))
  ]
  | inr apart ↦ ap (passes (is_hit on)) (get_or-set_other tasks place other slot None apart) ∙ clear other
]

clear_push : (on : Switches) (tasks : List (Option Task)) (slot : Option Task) → passes (is_hit on) slot ≡ false → AreClear on tasks → AreClear on (tasks ++ slot ∷ [])
clear_push on tasks slot is clear place = elim (pushed_at tasks slot None place) [
  | inl same ↦ ap (passes (is_hit on)) same ∙ clear place
  | inr last ↦ ap (passes (is_hit on)) last.1 ∙ is
]

clear_map : (on : Switches) (change : Task → Task) → ((task : Task) → is_hit on (change task) ≡ is_hit on task) → (tasks : List (Option Task)) → AreClear on tasks → AreClear on (map (option_map change) tasks)
clear_map on change same [] clear place = refl
clear_map on change same (slot ∷ tasks) clear zero = by slot (clear zero)
  where
    by : (slot : Option Task) → passes (is_hit on) slot ≡ false → passes (is_hit on) (option_map change slot) ≡ false
    by None e = refl
    by (Some task) e = same task ∙ e
clear_map on change same (slot ∷ tasks) clear (suc place) = clear_map on change same tasks (λ k. clear (suc k)) place

-- ---- steps that leave the running activities as they are
cond_leaves : (b : Bool) (one other : Step) (under : Underway) → one.core.under ≡ under → other.core.under ≡ under → (cond b one other).core.under ≡ under
cond_leaves true one other under e f = e
cond_leaves false one other under e f = f

each_leaves : {X : Type 0} (does : X → Core → Step) → ((x : X) (core : Core) → (does x core).core.under ≡ core.under) → (xs : List X) (core : Core) → (each does xs core).core.under ≡ core.under
unfolding each
each_leaves does leaves [] core = refl
each_leaves does leaves (x ∷ xs) core = both_leave (does x core) (each does xs) core.under (leaves x core) (λ next. each_leaves does leaves xs next)

wakes_leave : (actor : ActorId) (core : Core) → (wakes actor core).core.under ≡ core.under
wakes_leave actor core = by (blocking_in (state_of core actor.0))
  where
    by : (blocking : Option Blocking) → (wakes_from blocking actor core).core.under ≡ core.under
    by None = refl
    by (Some blocking) = refl

gets_leaves : (outcome : Outcome) (actor : ℕ) (what : Call) (core : Core) → (caller_gets outcome actor what core).core.under ≡ core.under
gets_leaves GoesOn actor what core = refl
gets_leaves Waits actor what core = refl
gets_leaves Refused actor what core = refl

first_leaves : (done : Done) (actor : ℕ) (what : Call) (core : Core) → (caller_first done actor what core).core.under ≡ core.under
first_leaves done actor what core = both_leave (caller_gets done.outcome actor what (with_objects done core)) (all_wake done.woken) core.under (gets_leaves done.outcome actor what (with_objects done core)) (each_leaves wakes wakes_leave done.woken)

last_leaves : (done : Done) (actor : ℕ) (what : Call) (core : Core) → (caller_last done actor what core).core.under ≡ core.under
last_leaves done actor what core = both_leave (all_wake done.woken (with_objects done core)) (caller_gets done.outcome actor what) core.under (each_leaves wakes wakes_leave done.woken (with_objects done core)) (gets_leaves done.outcome actor what)

waits_leaves : (actor : ℕ) (core : Core) → (waits_by (oldest (queue_at core.requests actor)) actor core).core.under ≡ core.under
waits_leaves actor core = by (oldest (queue_at core.requests actor))
  where
    until : (over : Option Answer) (on : Await) (core : Core) → (waits_until over actor on core).core.under ≡ core.under
    until None on core = refl
    until (Some over) on core = refl

    by : (found : Option Await) → (waits_by found actor core).core.under ≡ core.under
    by None = refl
    by (Some on) = until (answer_of_over (whose_at core on.serial.0)) on (record core { requests = queues_without_oldest core.requests actor })

part_leaves : (waits : Bool) (comer : Comer) (serial : ℕ) (core : Core) → (takes_part waits comer serial core).core.under ≡ core.under
part_leaves true comer serial core = refl
part_leaves false comer serial core = refl

comer_leaves : (comer : Comer) (serial : ℕ) (other : Side) (core : Core) → (comer_fails comer serial other core).core.under ≡ core.under
comer_leaves comer serial other core = by comer.waits
  where
    by : (b : Bool) → (takes_part_failed b comer serial (sender_of comer other).bytes core).core.under ≡ core.under
    by true = refl
    by false = refl

other_leaves : (comer : Comer) (serial : ℕ) (other : Side) (core : Core) → (other_fails comer serial other core).core.under ≡ core.under
other_leaves comer serial other core =
    cond_leaves comer.sends (answers_side how.Failed serial Receiver (for_receiver comer.side other) core) (answers_side how.Failed serial Sender other core) core.under (side_leaves how.Failed serial Receiver (for_receiver comer.side other) core) (side_leaves how.Failed serial Sender other core)

both_leaves : (comer : Comer) (serial : ℕ) (other : Side) (core : Core) → (both_fail comer serial other core).core.under ≡ core.under
both_leaves comer serial other core =
    cond_leaves comer.sends (and_then (comer_fails comer serial other core) (other_fails comer serial other)) (and_then (other_fails comer serial other core) (comer_fails comer serial other)) core.under
    (both_leave (comer_fails comer serial other core) (other_fails comer serial other) core.under (comer_leaves comer serial other core) (other_leaves comer serial other))
    (both_leave (other_fails comer serial other core) (comer_fails comer serial other) core.under (other_leaves comer serial other core) (comer_leaves comer serial other))

-- ---- calls
clear_cond : (b : Bool) (one other : Step) → IsClear one.core.under → IsClear other.core.under → IsClear (cond b one other).core.under
clear_cond true one other e f = e
clear_cond false one other e f = f

kept : (core : Core) (step : Step) → IsClear core.under → step.core.under ≡ core.under → IsClear step.core.under
kept core step clear same = subst IsClear (sym same) clear

-- one phase that becomes another of the same activity stays where it is
same_place : (on : Switches) (kind : PhaseKind) (slot : Option Task) → passes (is_hit on) (option_map (rekinded kind) slot) ≡ passes (is_hit on) slot
same_place on kind None = refl
same_place on kind (Some task) = refl

turned_clear : (kind : PhaseKind) (serial : ℕ) (under : Underway) → IsClear under → IsClear (with_phase_kind kind serial under)
turned_clear kind serial under clear =
    let slot = task_at under.tasks serial in
    clear_set under.on under.tasks (serial - 1) (option_map (rekinded kind) slot) (same_place under.on kind slot ∙ clear (serial - 1)) clear

held_if_clear : (suspended : Bool) (serial : ℕ) (core : Core) → IsClear core.under → IsClear (held_if suspended serial core).under
held_if_clear true serial core clear = turned_clear phase.Kept serial core.under clear
held_if_clear false serial core clear = clear

suspended_clear : (on : Bool) (target : ActorId) (core : Core) → IsClear core.under → IsClear (suspended_to on target core).under
suspended_clear on target core clear = alive (is_alive (state_of core target.0))
  where
    flagged : Core
    flagged = with_suspended target.0 on core

    chosen : (b : Bool) (one other : Underway) → IsClear one → IsClear other → IsClear (cond b one other)
    chosen true one other e f = e
    chosen false one other e f = f

    held_clear : (on : Bool) (serial : ℕ) → IsClear (held_to on serial core.under)
    held_clear true serial = chosen (is_computing core.under serial) (held serial core.under) core.under (turned_clear phase.Kept serial core.under clear) clear
    held_clear false serial = chosen (is_kept core.under serial) (gone_on serial core.under) core.under (turned_clear phase.Exec serial core.under clear) clear

    on_clear : (await : Option Await) → IsClear (held_on on await flagged).under
    on_clear None = clear
    on_clear (Some await) = held_clear on await.serial.0

    by_clear : (blocking : Option Blocking) → IsClear (held_by on blocking flagged).under
    by_clear None = clear
    by_clear (Some blocking) = on_clear blocking.on

    alive : (b : Bool) → IsClear (cond b (held_by on (blocking_in (state_of core target.0)) flagged) core).under
    alive true = by_clear (blocking_in (state_of core target.0))
    alive false = clear

joins_leave : (ended : Bool) (actor : ℕ) (target : ActorId) (core : Core) → (joins_by ended actor target core).core.under ≡ core.under
joins_leave true actor target core = refl
joins_leave false actor target core = refl

-- one step, and then another
then_clear : (first : Step) (next : Core → Step) → IsClear first.core.under → ((core : Core) → IsClear core.under → IsClear (next core).core.under) → IsClear (and_then first next).core.under
then_clear first next clear more = by first.stop
  where
    by : (o : Option Stop) → IsClear (follows o first (next first.core)).core.under
    by None = more first.core clear
    by (Some why) = clear

gives_up_clear : (serial : ℕ) (core : Core) → IsClear core.under → IsClear (gives_up serial core).core.under
gives_up_clear serial core clear = by (whose_at core serial)
  where
    over : IsClear (finishes how.Failed serial core).core.under
    over = subst IsClear (sym (finishes_leaves how.Failed serial core)) (clear_set core.under.on core.under.tasks (serial - 1) None refl clear)

    by : (whose : Whose) → IsClear (gives_up_by whose serial core).core.under
    by (Over before) = clear
    by (Alone actor) = over
    by (Posted mailbox sends side) = over
    by (Pair sender receiver) = over

give_up_all_clear : (serials : List ℕ) (core : Core) → IsClear core.under → IsClear (each gives_up serials core).core.under
unfolding each
give_up_all_clear [] core clear = clear
give_up_all_clear (serial ∷ rest) core clear = then_clear (gives_up serial core) (each gives_up rest) (gives_up_clear serial core clear) (give_up_all_clear rest)

stretches_clear : (actor : ℕ) (target : ActorId) (serials : List ℕ) (core : Core) → IsClear core.under → IsClear (all_of (kill_stretches actor target serials) core).core.under
unfolding all_of
stretches_clear actor target serials core clear =
    then_clear (kill_done actor target core) (all_of (each gives_up serials ∷ joiners_wake target.0 ∷ [])) (clear_cond (actor == target.0) (goes_on core []) (at_once actor (call.Kill target) 0 answer.Done core) clear clear)
    (λ c more. then_clear (each gives_up serials c) (all_of (joiners_wake target.0 ∷ [])) (give_up_all_clear serials c more)
    (λ d last. then_clear (joiners_wake target.0 d) (all_of []) (kept d (joiners_wake target.0 d) last (each_leaves wakes wakes_leave (joiners target.0 1 d.actors) d)) (λ e end. end)))

kills_clear : (actor : ℕ) (target : ActorId) (core : Core) → IsClear core.under → IsClear (kills actor target core).core.under
kills_clear actor target core clear =
    clear_cond (is_alive (state_of core target.0)) (kills_alive actor target core) (at_once actor (call.Kill target) 0 answer.Done core)
    (stretches_clear actor target (awaited target core) (withdrawn target core) clear)
    clear

computes_clear : (setup : Setup) (actor flops priority : ℕ) (core : Core) → IsClear core.under → IsClear (computes setup actor flops priority core).core.under
computes_clear setup actor flops priority core clear = by (is_off core.under.on.hosts (host_of setup actor)) refl
  where
    failed : Step
    failed = at_once actor (call.Compute flops priority) 0 answer.Failed core

    begun : Step
    begun = executes setup actor flops priority core

    by : (b : Bool) → is_off core.under.on.hosts (host_of setup actor) ≡ b → IsClear (cond b failed begun).core.under
    by true off = clear
    by false on = held_if_clear (is_suspended core actor) (length core.under.tasks + 1) (with_execution setup actor flops priority core) (clear_push core.under.on core.under.tasks (Some (exec_of (host_of setup actor) flops priority)) on clear)

joins_clear : (route : Route) (setup : Setup) (comer : Comer) (serial : Serial) (other : Side) (core : Core) → IsClear core.under → IsClear (joins_on route setup comer serial other core).core.under
joins_clear route setup comer serial other core clear = by (is_cut core.under.on (way_with route setup comer other)) refl
  where
    failed : Step
    failed = fails_with comer serial other core

    begun : Step
    begun = joins_with route setup comer serial other core

    join : Core
    join = joined setup serial.0 route (sender_of comer other) (receiver_of comer other) core

    by : (b : Bool) → is_cut core.under.on (way_with route setup comer other) ≡ b → IsClear (cond b failed begun).core.under
    by true cut = subst IsClear (sym (both_leaves comer serial.0 other (with_over how.Failed serial.0 core))) (clear_set core.under.on core.under.tasks (serial.0 - 1) None refl clear)
    by false on = subst IsClear (sym (part_leaves comer.waits comer serial.0 join)) (clear_set core.under.on core.under.tasks (serial.0 - 1) (Some _) on clear)

comes_clear : (roads : Roads) (setup : Setup) (comer : Comer) (core : Core) → IsClear core.under → IsClear (comes roads setup comer core).core.under
comes_clear roads setup comer core clear = by (partner comer.sends (posts_at comer.mailbox core))
  where
    over : (post : Post) (r : Result Route RouteFault) → IsClear (joins_over r setup comer post core).core.under
    over post (Err why) = clear
    over post (Ok route) = joins_clear route setup comer post.serial post.side (counted core) clear

    by : (found : Option Post) → IsClear (comes_by found roads setup comer core).core.under
    by None = subst IsClear (sym (part_leaves comer.waits comer _ _)) (clear_push core.under.on core.under.tasks None refl clear)
    by (Some post) = over post (route_between roads setup (sender_of comer post.side) (receiver_of comer post.side))

call_clear : (roads : Roads) (setup : Setup) (core : Core) (actor : ℕ) (what : Call) → IsClear core.under → IsClear (answered_call roads setup core actor what).core.under
call_clear roads setup core actor call.Ask clear = clear
call_clear roads setup core actor (call.Compute n p) clear = computes_clear setup actor n p (counted core) clear
call_clear roads setup core actor (call.Sleep n) clear = clear_push core.under.on core.under.tasks (Some (timer_of n)) refl clear
call_clear roads setup core actor (call.Send b n m r) clear = comes_clear roads setup (sends_by (side_of actor n m r) (call.Send b n m r) true b) core clear
call_clear roads setup core actor (call.Recv b) clear = comes_clear roads setup (receives_by actor (call.Recv b) true b) core clear
call_clear roads setup core actor (call.ISend b n m r) clear = comes_clear roads setup (sends_by (side_of actor n m r) (call.ISend b n m r) false b) core clear
call_clear roads setup core actor (call.IRecv b) clear = comes_clear roads setup (receives_by actor (call.IRecv b) false b) core clear
call_clear roads setup core actor call.Wait clear = kept core (waits_by (oldest (queue_at core.requests actor)) actor (counted core)) clear (waits_leaves actor (counted core))
call_clear roads setup core actor (call.Lock n) clear = kept core (caller_first (locked (actor_of actor) n core.objects) actor (call.Lock n) (counted core)) clear (first_leaves (locked (actor_of actor) n core.objects) actor (call.Lock n) (counted core))
call_clear roads setup core actor (call.Unlock n) clear = kept core (caller_first (unlocked (actor_of actor) n core.objects) actor (call.Unlock n) (counted core)) clear (first_leaves (unlocked (actor_of actor) n core.objects) actor (call.Unlock n) (counted core))
call_clear roads setup core actor (call.Acquire n) clear = kept core (caller_first (acquired (actor_of actor) n core.objects) actor (call.Acquire n) (counted core)) clear (first_leaves (acquired (actor_of actor) n core.objects) actor (call.Acquire n) (counted core))
call_clear roads setup core actor (call.Release n) clear = kept core (caller_first (released n core.objects) actor (call.Release n) (counted core)) clear (first_leaves (released n core.objects) actor (call.Release n) (counted core))
call_clear roads setup core actor call.Barrier clear = kept core (caller_last (arrived (actor_of actor) core.objects) actor call.Barrier (counted core)) clear (last_leaves (arrived (actor_of actor) core.objects) actor call.Barrier (counted core))
call_clear roads setup core actor (call.Create n) clear = clear
call_clear roads setup core actor (call.Join n) clear = kept core (joins_by (is_ended (state_of core n.0)) actor n (counted core)) clear (joins_leave (is_ended (state_of core n.0)) actor n (counted core))
call_clear roads setup core actor (call.Kill n) clear = kills_clear actor n (counted core) clear
call_clear roads setup core actor (call.Suspend n) clear = suspended_clear true n (counted core) clear
call_clear roads setup core actor (call.Resume n) clear = suspended_clear false n (counted core) clear
call_clear roads setup core actor call.Yield clear = clear
call_clear roads setup core actor call.Exit clear = kept core (exits actor (counted core)) clear (each_leaves wakes wakes_leave (joiners actor 1 (with_actor_ended actor core).actors) (with_actor_ended actor (counted core)))

pub creates_clear : (given : Bool) (actor : ℕ) (target : ActorId) (core : Core) → UsesNothingOff core → UsesNothingOff (created given actor target core).core
creates_clear true actor target core none = none
creates_clear false actor target core none = none

pub first_clear : (capacities : Capacities) (setup : Setup) → UsesNothingOff (first_core capacities setup)
unfolding serials
first_clear capacities setup = refl

pub calls_clear : (roads : Roads) (setup : Setup) (core : Core) (actor : ℕ) (what : Call) → UsesNothingOff core → UsesNothingOff (answered roads setup core actor what).core
calls_clear roads setup core actor what none =
    let clear = clear_of core.under none in
    let step = answered roads setup core actor what in
    hits_of step.core.under (clear_cond (core.events == setup.budget) (stops core [] Budget) (answered_call roads setup core actor what) clear (call_clear roads setup core actor what clear))

pub asks_clear : (setup : Setup) (core : Core) (actor : ℕ) (action : Option Action) → UsesNothingOff core → UsesNothingOff (told setup core actor action).core
asks_clear setup core actor action none = by (core.events == setup.budget)
  where
    by : (b : Bool) → hits (cond b (stops core [] Budget) (goes_on (readied actor (answer_of_ask action) (counted core)) [])).core.under ≡ []
    by true = none
    by false = none

-- ---- what continues if nothing stops
pub record Went (first : Step) (next : Core → Step) : Type 0 where
  pub first_on : first.stop ≡ None
  pub next_on : (next first.core).stop ≡ None
  pub core_is : (and_then first next).core ≡ (next first.core).core

went : (first : Step) (next : Core → Step) → (and_then first next).stop ≡ None → Went first next
went first next on = by first.stop refl on
  where
    by : (o : Option Stop) → first.stop ≡ o → (follows o first (next first.core)).stop ≡ None → Went first next
    by None e on = record { first_on = e; next_on = on; core_is = ap (λ o. (follows o first (next first.core)).core) e }
    by (Some why) e on = absurd (cc (sym e ∙ on))

unused : (b : Bool) (core : Core) (step : Step) → (cond b (stops core [] Budget) step).stop ≡ None → cond b (stops core [] Budget) step ≡ step
unused true core step on = absurd (cc on)
unused false core step on = refl

-- after its failures, none uses what is off
fail_clear : (setup : Setup) (serials : List ℕ) (core : Core) → hits core.under ≡ serials → (each (fails setup) serials core).stop ≡ None → hits (each (fails setup) serials core).core.under ≡ []
unfolding each
fail_clear setup [] core e on = e
fail_clear setup (serial ∷ rest) core e on =
    let w = went (fails setup serial core) (each (fails setup) rest) on in
    let is = unused (core.events == setup.budget) core (fails_one serial core) w.first_on in
    let under = ap (λ (s : Step). s.core.under) is ∙ finishes_leaves how.Failed serial (counted core) in
    let left : hits (fails setup serial core).core.under ≡ rest = ap hits under ∙ rest_is_hit core.under serial rest e in
    ap (λ (c : Core). hits c.under) w.core_is ∙ fail_clear setup rest (fails setup serial core).core left w.next_on

change_clear : (setup : Setup) (row : ℕ) (core : Core) → (changes setup row core).stop ≡ None → hits (changes setup row core).core.under ≡ []
change_clear setup row core on =
    let is = unused (core.events == setup.budget) core (all_of (entry_stretches setup row) core) on ∙ all_of-two (enters_one setup row) (all_fail setup) core in
    let entered = (enters_one setup row core).core in
    let w = went (enters_one setup row core) (all_fail setup) (sym (ap (λ (s : Step). s.stop) is) ∙ on) in
    ap (λ (s : Step). hits s.core.under) is ∙ ap (λ (c : Core). hits c.under) w.core_is ∙ fail_clear setup (hits entered.under) entered refl w.next_on

changes_clear : (setup : Setup) (rows : List ℕ) (core : Core) → hits core.under ≡ [] → (each (changes setup) rows core).stop ≡ None → hits (each (changes setup) rows core).core.under ≡ []
unfolding each
changes_clear setup [] core none on = none
changes_clear setup (row ∷ rest) core none on =
    let w = went (changes setup row core) (each (changes setup) rest) on in
    ap (λ (c : Core). hits c.under) w.core_is ∙ changes_clear setup rest (changes setup row core).core (change_clear setup row core w.first_on) w.next_on

-- ---- ends of phases
next_clear : (on : Switches) (task next : Task) → next_phase task.kind task ≡ Some next → is_hit on next ≡ is_hit on task
next_clear on task next e = by task.kind e
  where
    by : (kind : PhaseKind) → next_phase kind task ≡ Some next → is_hit on next ≡ is_hit on task
    by phase.Latency e = (let same : record task { kind = phase.Flow; left = task.bytes * 1000000000 } ≡ next = cc e in sym (ap (is_hit on) same))
    by phase.Flow e = absurd (cc e)
    by phase.Exec e = absurd (cc e)
    by phase.Timer e = absurd (cc e)
    by phase.Kept e = absurd (cc e)

end_clear : (setup : Setup) (serial : ℕ) (core : Core) → IsClear core.under → IsClear (ends setup serial core).core.under
end_clear setup serial core clear = by (task_at core.under.tasks serial) refl
  where
    ended : (task : Task) → task_at core.under.tasks serial ≡ Some task → (after : Option Task) → phase_after (Some task) ≡ after → IsClear (ends_in serial after (counted core)).core.under
    ended task at None e = subst IsClear (sym (finishes_leaves how.Done serial (counted core))) (clear_set core.under.on core.under.tasks (serial - 1) None refl clear)
    ended task at (Some next) e =
        let there : is_hit core.under.on task ≡ false = sym (ap (passes (is_hit core.under.on)) at) ∙ clear (serial - 1) in
        clear_set core.under.on core.under.tasks (serial - 1) (Some next) (next_clear core.under.on task next e ∙ there) clear

    one : (task : Task) → task_at core.under.tasks serial ≡ Some task → IsClear (ends_one serial core).core.under
    one task at = subst (λ o. IsClear (ends_in serial (phase_after o) (counted core)).core.under) (sym at) (ended task at (phase_after (Some task)) refl)

    by : (o : Option Task) → task_at core.under.tasks serial ≡ o → IsClear (ends_by setup serial o core).core.under
    by None at = clear
    by (Some task) at = clear_cond (core.events == setup.budget) (stops core [] Budget) (ends_one serial core) clear (one task at)

all_end_clear : (setup : Setup) (serials : List ℕ) (core : Core) → IsClear core.under → (each (ends setup) serials core).stop ≡ None → IsClear (each (ends setup) serials core).core.under
unfolding each
all_end_clear setup [] core clear on = clear
all_end_clear setup (serial ∷ rest) core clear on =
    let w = went (ends setup serial core) (each (ends setup) rest) on in
    subst (λ (c : Core). IsClear c.under) (sym w.core_is) (all_end_clear setup rest (ends setup serial core).core (end_clear setup serial core clear) w.next_on)

-- ---- a time advance
at_clear : (setup : Setup) (core : Core) (span : Option ℕ) → IsClear core.under → (pass_at setup core span).stop ≡ None → hits (pass_at setup core span).core.under ≡ []
at_clear setup core None clear on = absurd (cc on)
at_clear setup core (Some span) clear on =
    let moved = core_later span core in
    let entries = each (changes setup) (rows_due (core.under.date + span) setup.profiles core.turns) in
    let phases = each (ends setup) (due_in span core.under) in
    let is = unused (core.events == setup.budget) core (all_of (stretches setup span core) moved) on ∙ all_of-two entries phases moved in
    let w = went (entries moved) phases (sym (ap (λ (s : Step). s.stop) is) ∙ on) in
    let before = hits_of moved.under (clear_map core.under.on (passed core.under span) (λ task. refl) core.under.tasks clear) in
    let mid = (entries moved).core in
    let entered = changes_clear setup (rows_due (core.under.date + span) setup.profiles core.turns) moved before w.first_on in
    ap (λ (s : Step). hits s.core.under) is
    ∙ ap (λ (c : Core). hits c.under) w.core_is
    ∙ hits_of (phases mid).core.under (all_end_clear setup (due_in span core.under) mid (clear_of mid.under entered) w.next_on)

pub passes_clear : (setup : Setup) (core : Core) → UsesNothingOff core → (pass_of setup core).stop ≡ None → UsesNothingOff (pass_of setup core).core
passes_clear setup core none on = at_clear setup (settled core) (next_span setup (settled core)) (clear_of core.under none) on
