-- No actor is blocked by the call of another, and no actor goes back to before its beginning.
use Rattle.std.proofs.Common.{◌≡◌, ◌≢◌, ◌∙◌, sym, ap, subst, refl, inl, inr, ℕ, zero, suc, ◌+◌, ◌-◌, ◌==◌, ◌<◌, ◌≤◌, Bool, true, false, cond, IsTrue, List, [], ◌∷◌, length, get_or, set, Option, None, Some, Result, Ok, Err, arith}
use Rattle.std.specs.List.{count_by}
use Rattle.std.specs.Prelude.{◌||◌, All}
use Rattle.std.proofs.lemmas.Bool.{cases_eq, cases_lt}
use Rattle.std.proofs.lemmas.List.{get_or_default, length-set, get_or-set_other}
use Rattle.std.proofs.lemmas.List.Sums.{sum_by-set}
use Rattle.std.proofs.lemmas.Grind.{get_or-set_at}
use Rattle.sg_activity.specs.Links.{is_off}
use Rattle.sg_activity.specs.Task.{Task, is_cut, phase_after, task_at}
use Rattle.sg_activity.specs.Underway.{due_in}
use Rattle.sg_base.specs.declared.awaits.Party.{Party}
use Rattle.sg_base.specs.declared.awaits.Party.TheVariants as party
use Rattle.sg_base.specs.declared.awaits.Party.TheVariants.{Sender, Receiver}
use Rattle.sg_base.specs.declared.call.Answer.{Answer}
use Rattle.sg_base.specs.declared.call.Answer.TheVariants as answer
use Rattle.sg_base.specs.declared.call.Call.{Call}
use Rattle.sg_base.specs.declared.call.Call.TheVariants as call
use Rattle.sg_base.specs.declared.ids.ActorId.{ActorId}
use Rattle.sg_base.specs.Mind.{Mind}
use Rattle.sg_edge.specs.Files.{PartView}
use Rattle.sg_kernel_calls.specs.declared.meetings.Comer.{Comer}
use Rattle.sg_actor_states.specs.declared.state.Actor.{Actor}
use Rattle.sg_actor_states.specs.declared.state.Blocking.{Blocking}
use Rattle.sg_actor_states.specs.declared.state.State.{State}
use Rattle.sg_actor_states.specs.declared.state.State.TheVariants.{Ready, Ended}
use Rattle.sg_kernel_calls.specs.declared.stop.Stop.{Stop}
use Rattle.sg_kernel_calls.specs.Known.{Known, after, after_call}
use Rattle.sg_mailbox.specs.declared.owners.How.{How}
use Rattle.sg_mailbox.specs.declared.owners.How.TheVariants as how
use Rattle.sg_kernel_calls.specs.Answers.{answers, answers_by, answers_side, bare_side, finishes, for_receiver, awaits_side, with_over}
use Rattle.sg_kernel_calls.specs.Setup.{Setup}
use Rattle.sg_kernel_calls.specs.World.{Core, IsActor, extent, host_of, is_suspended, state_of, whose_at, with_suspended}
use Rattle.sg_actor_states.specs.Actors.{actor_at, blocking_in, is_alive, is_answered, is_ended, is_unstarted, joiners, not_suspended, put_state, put_suspended, state_at}
use Rattle.sg_kernel_calls.specs.Steps.{Step, all_of, at_once, counted, each, follows, goes_on, and_then}
use Rattle.sg_kernel_calls.specs.Calls.{answered, answered_call, executes, with_execution}
use Rattle.sg_kernel_calls.specs.Locks.{caller_gets, wakes_from, wakes, all_wake, caller_first, caller_last, joiners_wake}
use Rattle.sg_kernel_calls.specs.Kills.{awaited, gives_up, gives_up_by, kill_done, kills, kills_alive, withdrawn}
use Rattle.sg_kernel_calls.specs.Lives.{begins, created, joins_by, with_actor_ended}
use Rattle.sg_kernel.specs.Passes.{all_fail, changes, core_later, ends, ends_by, ends_in, ends_one, enters_one, entry_stretches, fails, fails_one, next_span, pass_at, pass_of, settled, stretches}
use Rattle.sg_kernel_calls.specs.Suspensions.{held_by, held_if, held_on, suspended_to}
use Rattle.sg_mailbox.specs.declared.owners.Whose.{Whose}
use Rattle.sg_mailbox.specs.declared.owners.Whose.TheVariants.{Over, Alone, Posted, Pair}
use Rattle.sg_kernel_calls.specs.Meetings.{takes_part, takes_part_failed, comer_fails, other_fails, both_fail, fails_with, joins_with, joins_over, way_with, comes_by, waits_until, waits_by}
use Rattle.sg_mailbox.specs.declared.sides.Post.{Post}
use Rattle.sg_mailbox.specs.declared.sides.Side.{Side}
use Rattle.sg_platform_rows.specs.Deployment.{Deployed}
use Rattle.sg_base.specs.declared.awaits.Await.{Await}
use Rattle.sg_route.specs.declared.router.RouteFault.{RouteFault}
use Rattle.sg_route.specs.Roads.{Roads}
use Rattle.sg_route.specs.Route.{Route}
use Rattle.sg_script.specs.Stands.{Kept}
use Rattle.sg_sync.specs.declared.outcome.Outcome.{Outcome}
use Rattle.sg_sync.specs.declared.outcome.Outcome.TheVariants.{GoesOn, Waits, Refused}
use Rattle.sg_sync.specs.Objects.{Done}
use Rattle.sg_engine.specs.declared.simulation.Simulation.{Simulation}
use Rattle.sg_engine.specs.kept.Invariant.{has_not_begun, places_in, unstarted, IsManned, KeepsOthers}
use Rattle.sg_engine.specs.kept.Moments.{moment, Fits, LeavesFree}
use Rattle.sg_engine.specs.kept.SeatRules.{IsSeated}
use Rattle.sg_engine.proofs.Crews.{crew_same}

-- an actor that has an answer or has ended isn't blocked
abbrev is_free : Actor → Bool
is_free actor = is_answered actor.state || is_ended actor.state

-- there are as many actors, each other one that wasn't blocked still isn't, and no more haven't begun
record Leaves (actor : ℕ) (old new : List Actor) : Type 0 where
  pub number : length new ≡ length old
  pub free : (other : ℕ) → 0 < other → other ≤ length old → other ≢ actor → IsTrue (is_free (actor_at old other)) → IsTrue (is_free (actor_at new other))
  pub begun : count_by has_not_begun new ≤ count_by has_not_begun old

none : (actor : ℕ) (actors : List Actor) → Leaves actor actors actors
none actor actors = record { number = refl; free = λ other from to isnt is. is; begun = omega arith }

then : (actor : ℕ) (old mid new : List Actor) → Leaves actor old mid → Leaves actor mid new → Leaves actor old new
then actor old mid new first second = record {
  number = second.number ∙ first.number;
  free = λ other from to isnt is. second.free other from (omega (arith, to, first.number)) isnt (first.free other from to isnt is);
  begun = omega (arith, first.begun, second.begun);
}

-- if one is put that has begun, no more haven't
by_length : (actors : List Actor) (i : ℕ) (next : Actor) → length actors ≤ i → set actors i next ≡ actors
by_length [] zero next past = refl
by_length [] (suc i) next past = refl
by_length (actor ∷ actors) zero next past = absurd (omega (arith, past))
by_length (actor ∷ actors) (suc i) next past = ap (λ (l : List Actor). actor ∷ l) (by_length actors i next (omega (arith, past)))

begun_by : (actors : List Actor) (i : ℕ) (next : Actor) → has_not_begun next ≡ false → count_by has_not_begun (set actors i next) ≤ count_by has_not_begun actors
begun_by actors i next begun = elim (cases_lt i (length actors)) [
  | inl within ↦
      let one : ◌≡◌ {A = ℕ} (cond (has_not_begun next) 1 0) 0 = ap {B = ℕ} (λ (b : Bool). cond b 1 0) begun in
      omega (arith, sum_by-set (λ (a : Actor). cond (has_not_begun a) 1 0) actors i next next within, one)
  | inr past ↦ omega (arith, ap (count_by has_not_begun) (by_length actors i next past))
]

-- if one is put in the place of one that hadn't begun, one less hasn't
pub one_less : (actors : List Actor) (i : ℕ) (d next : Actor) → i < length actors → has_not_begun (get_or actors i d) ≡ true → has_not_begun next ≡ false → count_by has_not_begun (set actors i next) + 1 ≡ count_by has_not_begun actors
one_less actors i d next within was is =
    let old : ◌≡◌ {A = ℕ} (cond (has_not_begun (get_or actors i d)) 1 0) 1 = ap {B = ℕ} (λ (b : Bool). cond b 1 0) was in
    let new : ◌≡◌ {A = ℕ} (cond (has_not_begun next) 1 0) 0 = ap {B = ℕ} (λ (b : Bool). cond b 1 0) is in
    omega (arith, sum_by-set (λ (a : Actor). cond (has_not_begun a) 1 0) actors i next d within, old, new)

-- an actor that has begun in the place of this one, or a free one in that of any
put : (actor who : ℕ) (actors : List Actor) (next : Actor) → ((other : ℕ) → 0 < other → other ≢ actor → other - 1 ≡ who - 1 → IsTrue (is_free next)) → has_not_begun next ≡ false → Leaves actor actors (set actors (who - 1) next)
put actor who actors next free begun = record {
  number = length-set actors (who - 1) next;
  free = λ other from to isnt is. elim (cases_eq (other - 1) (who - 1)) [
    | inl same ↦ subst (λ (a : Actor). IsTrue (is_free a)) (sym (get_or-set_at actors (who - 1) (other - 1) next (not_suspended Ended) same (omega (arith, same, from, to)))) (free other from isnt same)
    | inr apart ↦ subst (λ (a : Actor). IsTrue (is_free a)) (sym (get_or-set_other actors (who - 1) (other - 1) next (not_suspended Ended) apart)) is
  ];
  begun = begun_by actors (who - 1) next begun;
}

-- another state of the actor itself
own : (actor : ℕ) (actors : List Actor) (state : State) → 0 < actor → is_unstarted state ≡ false → Leaves actor actors (put_state actors actor state)
own actor actors state from_one begun =
    put actor actor actors (record { state = state; suspended = (actor_at actors actor).suspended })
    (λ other from isnt same. absurd (isnt (let back : other ≡ actor = omega (arith, from_one, from, same) in back))) begun

-- any actor is answered, or ends
readied : (actor who : ℕ) (actors : List Actor) (answer : Answer) → Leaves actor actors (put_state actors who (Ready answer))
readied actor who actors answer = put actor who actors (record { state = Ready answer; suspended = (actor_at actors who).suspended }) (λ other from isnt same. refl) refl

ended : (actor who : ℕ) (actors : List Actor) → Leaves actor actors (put_state actors who Ended)
ended actor who actors = put actor who actors (record { state = Ended; suspended = (actor_at actors who).suspended }) (λ other from isnt same. refl) refl

-- one is suspended, or isn't any more
same_begun : (actors : List Actor) (i : ℕ) (next : Actor) → (i < length actors → has_not_begun next ≡ has_not_begun (get_or actors i next)) → count_by has_not_begun (set actors i next) ≤ count_by has_not_begun actors
same_begun actors i next same = elim (cases_lt i (length actors)) [
  | inl within ↦
      let alike : ◌≡◌ {A = ℕ} (cond (has_not_begun next) 1 0) (cond (has_not_begun (get_or actors i next)) 1 0) = ap {B = ℕ} (λ (b : Bool). cond b 1 0) (same within) in
      omega (arith, sum_by-set (λ (a : Actor). cond (has_not_begun a) 1 0) actors i next next within, alike)
  | inr past ↦ omega (arith, ap (count_by has_not_begun) (by_length actors i next past))
]

suspended : (actor who : ℕ) (actors : List Actor) (on : Bool) → Leaves actor actors (put_suspended actors who on)
suspended actor who actors on =
    let next : Actor = record { state = state_at actors who; suspended = on } in
    record {
      number = length-set actors (who - 1) next;
      free = λ other from to isnt is. elim (cases_eq (other - 1) (who - 1)) [
        | inl same ↦
            let here : IsTrue (is_free (get_or actors (who - 1) (not_suspended Ended))) = subst (λ (n : ℕ). IsTrue (is_free (get_or actors n (not_suspended Ended)))) same is in
            subst (λ (a : Actor). IsTrue (is_free a)) (sym (get_or-set_at actors (who - 1) (other - 1) next (not_suspended Ended) same (omega (arith, same, from, to)))) here
        | inr apart ↦ subst (λ (a : Actor). IsTrue (is_free a)) (sym (get_or-set_other actors (who - 1) (other - 1) next (not_suspended Ended) apart)) is
      ];
      begun = same_begun actors (who - 1) next (λ within. ap has_not_begun (get_or_default actors (who - 1) (not_suspended Ended) next within));
    }

-- ---- one step after another
followed : (actor : ℕ) (old : List Actor) (stop : Option Stop) (first second : Step) → Leaves actor old first.core.actors → Leaves actor first.core.actors second.core.actors → Leaves actor old (follows stop first second).core.actors
followed actor old None first second before after = then actor old first.core.actors second.core.actors before after
followed actor old (Some why) first second before after = before

next : (actor : ℕ) (old : List Actor) (first : Step) (rest : Core → Step) → Leaves actor old first.core.actors → ((core : Core) → Leaves actor core.actors (rest core).core.actors) → Leaves actor old (and_then first rest).core.actors
next actor old first rest before after = followed actor old first.stop first (rest first.core) before (after first.core)

-- either step
unless : (b : Bool) (actor : ℕ) (old : List Actor) (used step : Step) → Leaves actor old used.core.actors → Leaves actor old step.core.actors → Leaves actor old (cond b used step).core.actors
unless true actor old used step before after = before
unless false actor old used step before after = after

each_one : {X : Type 0} (actor : ℕ) (does : X → Core → Step) → ((x : X) (core : Core) → Leaves actor core.actors (does x core).core.actors) → (xs : List X) (core : Core) → Leaves actor core.actors (each does xs core).core.actors
unfolding each
each_one actor does one [] core = none actor core.actors
each_one actor does one (x ∷ xs) core = next actor core.actors (does x core) (each does xs) (one x core) (λ c. each_one actor does one xs c)

-- one stretch after another
last_of : (actor : ℕ) (core : Core) → Leaves actor core.actors (all_of [] core).core.actors
unfolding all_of
last_of actor core = none actor core.actors

more_of : (actor : ℕ) (first : Core → Step) (rest : List (Core → Step)) → ((core : Core) → Leaves actor core.actors (first core).core.actors) → ((core : Core) → Leaves actor core.actors (all_of rest core).core.actors) → (core : Core) → Leaves actor core.actors (all_of (first ∷ rest) core).core.actors
unfolding all_of
more_of actor first rest before after core = next actor core.actors (first core) (all_of rest) (before core) after

-- ---- mutexes, semaphores and the barrier
gets : (outcome : Outcome) (actor : ℕ) (what : Call) (core : Core) → 0 < actor → Leaves actor core.actors (caller_gets outcome actor what core).core.actors
gets GoesOn actor what core from = own actor core.actors _ from refl
gets Waits actor what core from = own actor core.actors _ from refl
gets Refused actor what core from = own actor core.actors _ from refl

woken_from : (blocking : Option Blocking) (actor : ℕ) (who : ActorId) (core : Core) → Leaves actor core.actors (wakes_from blocking who core).core.actors
woken_from None actor who core = none actor core.actors
woken_from (Some blocking) actor who core = readied actor who.0 core.actors _

woken : (actor : ℕ) (others : List ActorId) (core : Core) → Leaves actor core.actors (all_wake others core).core.actors
woken actor others core = each_one actor wakes (λ who c. woken_from (blocking_in (state_of c who.0)) actor who c) others core

first : (done : Done) (actor : ℕ) (what : Call) (core : Core) → 0 < actor → Leaves actor core.actors (caller_first done actor what core).core.actors
first done actor what core from = next actor core.actors _ (all_wake done.woken) (gets done.outcome actor what _ from) (λ c. woken actor done.woken c)

last : (done : Done) (actor : ℕ) (what : Call) (core : Core) → 0 < actor → Leaves actor core.actors (caller_last done actor what core).core.actors
last done actor what core from = next actor core.actors _ (caller_gets done.outcome actor what) (woken actor done.woken _) (λ c. gets done.outcome actor what c from)

-- ---- communications
taking : (waits : Bool) (comer : Comer) (serial : ℕ) (core : Core) → 0 < comer.side.actor.0 → Leaves comer.side.actor.0 core.actors (takes_part waits comer serial core).core.actors
taking true comer serial core from = own comer.side.actor.0 core.actors _ from refl
taking false comer serial core from = own comer.side.actor.0 core.actors _ from refl

failing : (waits : Bool) (comer : Comer) (serial bytes : ℕ) (core : Core) → 0 < comer.side.actor.0 → Leaves comer.side.actor.0 core.actors (takes_part_failed waits comer serial bytes core).core.actors
failing true comer serial bytes core from = own comer.side.actor.0 core.actors _ from refl
failing false comer serial bytes core from = taking false comer serial core from

told : (over : How) (serial : ℕ) (party : Party) (given : Side) (actor : ℕ) (blocking : Option Blocking) (core : Core) → Leaves actor core.actors (answers_by over serial party given blocking core).core.actors
told over serial party given actor None core = none actor core.actors
told over serial party given actor (Some blocking) core =
    unless (awaits_side serial party blocking.on) actor core.actors _ (goes_on core []) (readied actor given.actor.0 core.actors _) (none actor core.actors)

other_failing : (comer : Comer) (serial : ℕ) (other : Side) (core : Core) → Leaves comer.side.actor.0 core.actors (other_fails comer serial other core).core.actors
other_failing comer serial other core =
    let actor = comer.side.actor.0 in
    unless comer.sends actor core.actors (answers_side how.Failed serial Receiver (for_receiver comer.side other) core) (answers_side how.Failed serial Sender other core)
    (told how.Failed serial Receiver (for_receiver comer.side other) actor _ core) (told how.Failed serial Sender other actor _ core)

both_failing : (comer : Comer) (serial : ℕ) (other : Side) (core : Core) → 0 < comer.side.actor.0 → Leaves comer.side.actor.0 core.actors (both_fail comer serial other core).core.actors
both_failing comer serial other core from =
    let actor = comer.side.actor.0 in
    let own_fails : (c : Core) → Leaves actor c.actors (comer_fails comer serial other c).core.actors = λ c. failing comer.waits comer serial _ c from in
    let its_fails : (c : Core) → Leaves actor c.actors (other_fails comer serial other c).core.actors = λ c. other_failing comer serial other c in
    unless comer.sends actor core.actors (and_then (comer_fails comer serial other core) (other_fails comer serial other)) (and_then (other_fails comer serial other core) (comer_fails comer serial other))
    (next actor core.actors (comer_fails comer serial other core) (other_fails comer serial other) (own_fails core) its_fails)
    (next actor core.actors (other_fails comer serial other core) (comer_fails comer serial other) (its_fails core) own_fails)

joining : (route : Result Route RouteFault) (setup : Setup) (comer : Comer) (post : Post) (core : Core) → 0 < comer.side.actor.0 → Leaves comer.side.actor.0 core.actors (joins_over route setup comer post core).core.actors
joining (Ok route) setup comer post core from =
    unless (is_cut core.under.on (way_with route setup comer post.side)) comer.side.actor.0 core.actors
    (fails_with comer post.serial post.side (counted core)) (joins_with route setup comer post.serial post.side (counted core))
    (both_failing comer post.serial.0 post.side (with_over how.Failed post.serial.0 (counted core)) from) (taking comer.waits comer post.serial.0 _ from)
joining (Err why) setup comer post core from = none comer.side.actor.0 core.actors

coming : (post : Option Post) (roads : Roads) (setup : Setup) (comer : Comer) (core : Core) → 0 < comer.side.actor.0 → Leaves comer.side.actor.0 core.actors (comes_by post roads setup comer core).core.actors
coming None roads setup comer core from = taking comer.waits comer (length core.under.tasks + 1) _ from
coming (Some post) roads setup comer core from = joining _ setup comer post core from

until : (over : Option Answer) (actor : ℕ) (on : Await) (core : Core) → 0 < actor → Leaves actor core.actors (waits_until over actor on core).core.actors
until (Some over) actor on core from = own actor core.actors _ from refl
until None actor on core from = own actor core.actors _ from refl

waiting : (on : Option Await) (actor : ℕ) (core : Core) → 0 < actor → Leaves actor core.actors (waits_by on actor core).core.actors
waiting None actor core from = own actor core.actors _ from refl
waiting (Some on) actor core from = until _ actor on _ from

-- ---- executions that are suspended
executing : (held : Bool) (actor serial : ℕ) (core : Core) → Leaves actor core.actors (held_if held serial core).actors
executing true actor serial core = none actor core.actors
executing false actor serial core = none actor core.actors

-- ---- actors begin, end and wait for each other
creating : (given : Bool) (actor : ℕ) (target : ActorId) (core : Core) → 0 < actor → Leaves actor core.actors (created given actor target core).core.actors
creating true actor target core from = then actor core.actors (begins target core).actors _ (readied actor target.0 core.actors answer.Start) (own actor (begins target core).actors _ from refl)
creating false actor target core from = own actor core.actors _ from refl

joining_one : (over : Bool) (actor : ℕ) (target : ActorId) (core : Core) → 0 < actor → Leaves actor core.actors (joins_by over actor target core).core.actors
joining_one true actor target core from = own actor core.actors _ from refl
joining_one false actor target core from = own actor core.actors _ from refl

finishing_by : (whose : Whose) (actor : ℕ) (over : How) (serial : ℕ) (core : Core) → Leaves actor core.actors (answers over serial whose core).core.actors
finishing_by (Over before) actor over serial core = none actor core.actors
finishing_by (Alone owner) actor over serial core = told over serial party.Alone (bare_side owner.0) actor _ core
finishing_by (Posted mailbox sends side) actor over serial core = none actor core.actors
finishing_by (Pair sender receiver) actor over serial core =
    next actor core.actors (answers_side over serial Sender sender core) (answers_side over serial Receiver (for_receiver sender receiver))
    (told over serial Sender sender actor _ core) (λ c. told over serial Receiver (for_receiver sender receiver) actor _ c)

finishing : (actor : ℕ) (over : How) (serial : ℕ) (core : Core) → Leaves actor core.actors (finishes over serial core).core.actors
finishing actor over serial core = finishing_by (whose_at core serial) actor over serial (with_over over serial core)

giving_up : (whose : Whose) (actor serial : ℕ) (core : Core) → Leaves actor core.actors (gives_up_by whose serial core).core.actors
giving_up (Over before) actor serial core = none actor core.actors
giving_up (Alone owner) actor serial core = finishing actor how.Failed serial core
giving_up (Posted mailbox sends side) actor serial core = finishing actor how.Failed serial core
giving_up (Pair sender receiver) actor serial core = finishing actor how.Failed serial core

killing_alive : (actor : ℕ) (target : ActorId) (core : Core) → 0 < actor → Leaves actor core.actors (kills_alive actor target core).core.actors
killing_alive actor target core from =
    let gone = withdrawn target core in
    let serials = awaited target core in
    then actor core.actors gone.actors _ (ended actor target.0 core.actors)
    (more_of actor (kill_done actor target) (each gives_up serials ∷ joiners_wake target.0 ∷ []) (λ c. unless (actor == target.0) actor c.actors (goes_on c []) (at_once actor (call.Kill target) 0 answer.Done c) (none actor c.actors) (own actor c.actors _ from refl))
    (more_of actor (each gives_up serials) (joiners_wake target.0 ∷ []) (each_one actor gives_up (λ serial c. giving_up (whose_at c serial) actor serial c) serials)
    (more_of actor (joiners_wake target.0) [] (λ c. woken actor (joiners target.0 1 c.actors) c) (last_of actor))) gone)

killing : (actor : ℕ) (target : ActorId) (core : Core) → 0 < actor → Leaves actor core.actors (kills actor target core).core.actors
killing actor target core from =
    unless (is_alive (state_of core target.0)) actor core.actors (kills_alive actor target core) (at_once actor (call.Kill target) 0 answer.Done core) (killing_alive actor target core from) (own actor core.actors _ from refl)

-- ---- actors are suspended and resumed
holding_on : (on : Bool) (await : Option Await) (actor : ℕ) (core : Core) → Leaves actor core.actors (held_on on await core).actors
holding_on on None actor core = none actor core.actors
holding_on on (Some await) actor core = none actor core.actors

holding : (on : Bool) (blocking : Option Blocking) (actor : ℕ) (core : Core) → Leaves actor core.actors (held_by on blocking core).actors
holding on None actor core = none actor core.actors
holding on (Some blocking) actor core = holding_on on blocking.on actor core

either : (b : Bool) (actor : ℕ) (old : List Actor) (c d : Core) → Leaves actor old c.actors → Leaves actor old d.actors → Leaves actor old (cond b c d).actors
either true actor old c d before after = before
either false actor old c d before after = after

suspending : (on : Bool) (actor : ℕ) (target : ActorId) (core : Core) → Leaves actor core.actors (suspended_to on target core).actors
suspending on actor target core =
    let put_so = with_suspended target.0 on core in
    either (is_alive (state_of core target.0)) actor core.actors (held_by on (blocking_in (state_of core target.0)) put_so) core
    (then actor core.actors put_so.actors _ (suspended actor target.0 core.actors on) (holding on (blocking_in (state_of core target.0)) actor put_so)) (none actor core.actors)

-- after that the caller is answered
answering : (actor : ℕ) (what : Call) (old : List Actor) (core : Core) → 0 < actor → Leaves actor old core.actors → Leaves actor old (at_once actor what 0 answer.Done core).core.actors
answering actor what old core from before = then actor old core.actors _ before (own actor core.actors _ from refl)

-- ---- any call
called : (roads : Roads) (setup : Setup) (core : Core) (actor : ℕ) (what : Call) → 0 < actor → Leaves actor core.actors (answered_call roads setup core actor what).core.actors
called roads setup core actor call.Ask from = own actor core.actors _ from refl
called roads setup core actor (call.Compute flops priority) from =
    unless (is_off core.under.on.hosts (host_of setup actor)) actor core.actors
    (at_once actor (call.Compute flops priority) 0 answer.Failed (counted core)) (executes setup actor flops priority (counted core))
    (own actor core.actors _ from refl)
    (then actor core.actors (with_execution setup actor flops priority (counted core)).actors _ (own actor core.actors _ from refl)
    (executing (is_suspended (counted core) actor) actor (length core.under.tasks + 1) (with_execution setup actor flops priority (counted core))))
called roads setup core actor (call.Sleep ns) from = own actor core.actors _ from refl
called roads setup core actor (call.Send mailbox bytes message rate) from = coming _ roads setup _ core from
called roads setup core actor (call.Recv mailbox) from = coming _ roads setup _ core from
called roads setup core actor (call.ISend mailbox bytes message rate) from = coming _ roads setup _ core from
called roads setup core actor (call.IRecv mailbox) from = coming _ roads setup _ core from
called roads setup core actor call.Wait from = waiting _ actor (counted core) from
called roads setup core actor (call.Lock mutex) from = first _ actor (call.Lock mutex) (counted core) from
called roads setup core actor (call.Unlock mutex) from = first _ actor (call.Unlock mutex) (counted core) from
called roads setup core actor (call.Acquire semaphore) from = first _ actor (call.Acquire semaphore) (counted core) from
called roads setup core actor (call.Release semaphore) from = first _ actor (call.Release semaphore) (counted core) from
called roads setup core actor call.Barrier from = last _ actor call.Barrier (counted core) from
called roads setup core actor (call.Create target) from = creating false actor target core from
called roads setup core actor (call.Join target) from = joining_one _ actor target (counted core) from
called roads setup core actor (call.Kill target) from = killing actor target (counted core) from
called roads setup core actor (call.Suspend target) from = answering actor (call.Suspend target) core.actors (suspended_to true target (counted core)) from (suspending true actor target (counted core))
called roads setup core actor (call.Resume target) from = answering actor (call.Resume target) core.actors (suspended_to false target (counted core)) from (suspending false actor target (counted core))
called roads setup core actor call.Yield from = own actor core.actors _ from refl
called roads setup core actor call.Exit from = then actor core.actors (with_actor_ended actor (counted core)).actors _ (own actor core.actors _ from refl) (woken actor (joiners actor 1 (with_actor_ended actor (counted core)).actors) (with_actor_ended actor (counted core)))

answered_leaves : (roads : Roads) (setup : Setup) (core : Core) (actor : ℕ) (what : Call) → 0 < actor → Leaves actor core.actors (answered roads setup core actor what).core.actors
answered_leaves roads setup core actor what from = unless (core.events == setup.budget) actor core.actors _ (answered_call roads setup core actor what) (none actor core.actors) (called roads setup core actor what from)

-- ---- a time advance
entering : (setup : Setup) (row : ℕ) (core : Core) → Leaves 0 core.actors (changes setup row core).core.actors
entering setup row core =
    unless (core.events == setup.budget) 0 core.actors _ (all_of (entry_stretches setup row) core) (none 0 core.actors)
    (more_of 0 (enters_one setup row) (all_fail setup ∷ []) (λ c. none 0 c.actors)
    (more_of 0 (all_fail setup) [] (λ c. each_one 0 (fails setup) (λ serial k. unless (k.events == setup.budget) 0 k.actors _ (fails_one serial k) (none 0 k.actors) (finishing 0 how.Failed serial (counted k))) _ c) (last_of 0)) core)

ending_in : (next : Option Task) (serial : ℕ) (core : Core) → Leaves 0 core.actors (ends_in serial next core).core.actors
ending_in None serial core = finishing 0 how.Done serial core
ending_in (Some task) serial core = none 0 core.actors

ending_by : (task : Option Task) (setup : Setup) (serial : ℕ) (core : Core) → Leaves 0 core.actors (ends_by setup serial task core).core.actors
ending_by None setup serial core = none 0 core.actors
ending_by (Some task) setup serial core =
    unless (core.events == setup.budget) 0 core.actors _ (ends_one serial core) (none 0 core.actors) (ending_in (phase_after (task_at core.under.tasks serial)) serial (counted core))

passing_at : (span : Option ℕ) (setup : Setup) (core : Core) → Leaves 0 core.actors (pass_at setup core span).core.actors
passing_at None setup core = none 0 core.actors
passing_at (Some span) setup core =
    unless (core.events == setup.budget) 0 core.actors _ (all_of (stretches setup span core) (core_later span core)) (none 0 core.actors)
    (more_of 0 (each (changes setup) _) (each (ends setup) (due_in span core.under) ∷ []) (each_one 0 (changes setup) (entering setup) _)
    (more_of 0 (each (ends setup) (due_in span core.under)) [] (each_one 0 (ends setup) (λ serial c. ending_by (task_at c.under.tasks serial) setup serial c) (due_in span core.under)) (last_of 0)) (core_later span core))

pub passed_begun : (setup : Setup) (core : Core) → count_by has_not_begun (pass_of setup core).core.actors ≤ count_by has_not_begun core.actors
passed_begun setup core = (passing_at (next_span setup (settled core)) setup (settled core)).begun

-- ---- a kernel that has answered
by_step : (actor : ℕ) (old new : Known) (step : Step) (room : ℕ) → new ≡ record (after step old) { room = room } → Leaves actor old.core.actors step.core.actors → Leaves actor old.core.actors new.core.actors
by_step actor old new step room is leaves = subst (λ (k : Known). Leaves actor old.core.actors k.core.actors) (sym is) leaves

fits_by : (deployed : Deployed) (part : PartView) (kept : Kept) (actor : ℕ) (old new : Known) (step : Step) (room : ℕ) → new ≡ record (after step old) { room = room } → Leaves actor old.core.actors step.core.actors → Fits deployed (moment part kept old) → Fits deployed (moment part kept new)
fits_by deployed part kept actor old new step room is leaves fits = record {
  actors = (by_step actor old new step room is leaves).number ∙ fits.actors;
  queues = fits.queues;
  begun = fits.begun;
  extent = ap (λ (k : Known). extent k.setup) is ∙ fits.extent;
  waiting = fits.waiting;
}

free_by : (actor : ℕ) (old new : Known) → Leaves actor old.core.actors new.core.actors → LeavesFree actor old.core new.core
free_by actor old new leaves other isnt is = record {
  is = record { from = is.is.from; to = omega (arith, is.is.to, leaves.number) };
  free = leaves.free other is.is.from is.is.to isnt is.free;
}

pub created_free : (given : Bool) (old new : Known) (actor : ℕ) (target : ActorId) (room : ℕ) → 0 < actor → new ≡ record (after (created given actor target old.core) old) { room = room } → LeavesFree actor old.core new.core
created_free given old new actor target room from is =
    free_by actor old new (by_step actor old new (created given actor target old.core) room is (creating given actor target old.core from))

pub created_number : (given : Bool) (old new : Known) (actor : ℕ) (target : ActorId) (room : ℕ) → 0 < actor → new ≡ record (after (created given actor target old.core) old) { room = room } → length new.core.actors ≡ length old.core.actors
created_number given old new actor target room from is = (by_step actor old new (created given actor target old.core) room is (creating given actor target old.core from)).number

-- if it is given one more has begun
pub created_begun : (old new : Known) (actor : ℕ) (target : ActorId) (room : ℕ) → 0 < actor → IsActor old.core target.0 → is_unstarted (state_of old.core target.0) ≡ true → new ≡ record (after (created true actor target old.core) old) { room = room } →
    unstarted new.core + 1 ≤ unstarted old.core
created_begun old new actor target room from exists fresh is =
    let mid = (begins target old.core).actors in
    let less : count_by has_not_begun mid + 1 ≡ unstarted old.core = one_less old.core.actors (target.0 - 1) (not_suspended Ended) _ (omega (arith, exists.from, exists.to)) fresh refl in
    omega (arith, less, (own actor mid (Ready answer.Done) from refl).begun, ap (λ (k : Known). unstarted k.core) is)

pub created_same : (old new : Known) (actor : ℕ) (target : ActorId) (room : ℕ) → 0 < actor → new ≡ record (after (created false actor target old.core) old) { room = room } → unstarted new.core ≤ unstarted old.core
created_same old new actor target room from is = (by_step actor old new (created false actor target old.core) room is (creating false actor target old.core from)).begun

-- an actor hasn't begun if one hasn't
pub some_unstarted : (core : Core) (actor : ℕ) → IsActor core actor → is_unstarted (state_of core actor) ≡ true → 0 < unstarted core
some_unstarted core actor exists fresh = omega (arith, one_less core.actors (actor - 1) (not_suspended Ended) (not_suspended Ended) (omega (arith, exists.from, exists.to)) fresh refl)

pub answered_fits : (deployed : Deployed) (part : PartView) (kept : Kept) (roads : Roads) (old new : Known) (actor : ℕ) (what : Call) (room : ℕ) → 0 < actor → new ≡ record (after (answered roads old.setup old.core actor what) old) { room = room } →
    Fits deployed (moment part kept old) → Fits deployed (moment part kept new)
answered_fits deployed part kept roads old new actor what room from is fits =
    fits_by deployed part kept actor old new (answered roads old.setup old.core actor what) room is (answered_leaves roads old.setup old.core actor what from) fits

-- except for the kernel nothing of the simulation has changed
room_left : (b : Bool) (old new : Known) (step : Step) → new ≡ after_call b step old → old.room ≤ new.room + 1
room_left true old new step is = omega (arith, ap (λ (k : Known). k.room) is)
room_left false old new step is = omega (arith, ap (λ (k : Known). k.room) is)

pub answered_others : {A : Type 0} (mind : A → Option Mind) (roads : Roads) (sim : Simulation A) (new : Known) (actor : ℕ) (what : Call) (b : Bool) → 0 < actor → IsManned mind sim → new ≡ after_call b (answered roads sim.kernel.setup sim.kernel.core actor what) sim.kernel →
    KeepsOthers mind actor false sim (record sim { kernel = new })
answered_others mind roads sim new actor what b from manned is =
    let old = sim.kernel in
    let step = answered roads old.setup old.core actor what in
    let leaves : Leaves actor old.core.actors new.core.actors = by_step actor old new step _ is (answered_leaves roads old.setup old.core actor what from) in
    let setup : new.setup ≡ old.setup = ap (λ (k : Known). k.setup) is in
    record {
      setup = setup;
      room = room_left b old new step is;
      free = free_by actor old new leaves;
      seats = refl;
      manned = record {
        number = manned.number ∙ sym leaves.number;
        seated = subst (λ (s : Setup). All (IsSeated (extent s)) (places_in mind sim)) (sym setup) manned.seated;
        blank = manned.blank;
      };
      crew = crew_same sim (record sim { kernel = new }) refl leaves.begun;
      calls = refl;
      buffer = refl;
    }
