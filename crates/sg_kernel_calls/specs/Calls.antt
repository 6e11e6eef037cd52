-- How a call is answered. Each call is one event.
use Rattle.std.specs.Prelude.{ℕ, ◌+◌, Option, Some, true, false, if◌then◌else◌, [], ◌∷◌, ◌++◌, length}
use Rattle.std.specs.Option.{option_map_or}
use Rattle.sg_base.specs.declared.call.Call.{Call}
use Rattle.sg_base.specs.declared.call.Call.TheVariants as call
use Rattle.sg_base.specs.declared.call.Answer.{Answer}
use Rattle.sg_base.specs.declared.call.Answer.TheVariants as answer
use Rattle.sg_base.specs.declared.call.Action.{Action}
use Rattle.sg_activity.specs.Links.{is_off}
use Rattle.sg_activity.specs.Task.{Task, exec_of, timer_of}
use Rattle.sg_activity.specs.Underway.{started}
use Rattle.sg_base.specs.Turn.{actor_of}
use Rattle.sg_base.specs.declared.awaits.Await.{Await}
use Rattle.sg_base.specs.declared.awaits.Party.TheVariants as party
use Rattle.sg_requests.specs.Requested.{oldest, queue_at}
use Rattle.sg_route.specs.Roads.{Roads}
use Rattle.sg_actor_states.specs.declared.state.State.TheVariants.{Ended}
use Rattle.sg_actor_states.specs.Actors.{actor_at, is_ended}
use Rattle.sg_sync.specs.Objects.{locked, unlocked, acquired, released, arrived}
use Rattle.sg_mailbox.specs.declared.owners.Whose.TheVariants.{Alone}
use Rattle.sg_kernel_calls.specs.Setup.{Setup}
use Rattle.sg_kernel_calls.specs.World.{Core, host_of, is_suspended, state_of, with_state}
use Rattle.sg_kernel_calls.specs.Steps.{Step, goes_on, counted, unless_used, readied, blocked_by, at_once}
use Rattle.sg_kernel_calls.specs.Meetings.{Meeting, arrives, comer_of, meeting_of, unless_unrouted, waits_by}
use Rattle.sg_kernel_calls.specs.Locks.{caller_first, caller_last, joiners_wake}
use Rattle.sg_kernel_calls.specs.Lives.{answers_create, joins_by}
use Rattle.sg_kernel_calls.specs.Kills.{kills}
use Rattle.sg_kernel_calls.specs.Suspensions.{held_if, suspended_to}

-- a new activity, an execution or a sleep, on which this actor alone is blocked by this call
abbrev pub blocks_on : Task → ℕ → Call → Core → Core
blocks_on task actor what core =
    blocked_by actor what (Some (record { serial = record { 0 = length core.under.tasks + 1 }; party = party.Alone }))
    (record core { under = started task core.under; whose = core.whose ++ Alone (actor_of actor) ∷ [] })

-- ---- what calls lead to, once they are counted
-- A Compute call: an execution begins on the host of the actor, as heavy there as its priority. That of a suspended
-- actor is suspended as soon as it begins. On a host that is off the call fails at once.
abbrev pub computes : Setup → ℕ → ℕ → ℕ → Core → Step
computes setup actor flops priority core =
    let begun = blocks_on (exec_of (host_of setup actor) flops priority) actor (call.Compute flops priority) core in
    if is_off core.under.on.hosts (host_of setup actor)
    then at_once actor (call.Compute flops priority) 0 answer.Failed core
    else goes_on (held_if (actor_at core.actors actor).suspended (length core.under.tasks + 1) begun) []

-- What a call leads to once it is counted. A call that fetches the next line is refused if nobody gives the actor that
-- line, and a Create if nobody gives the named actor a context. The calls of the last row bring an endpoint, which arrives.
abbrev pub acts : Option Meeting → Setup → ℕ → Call → Core → Step
acts meeting setup actor call.Ask core = goes_on (readied actor answer.Refused core) []
acts meeting setup actor (call.Compute flops priority) core = computes setup actor flops priority core
acts meeting setup actor (call.Sleep ns) core = goes_on (blocks_on (timer_of ns) actor (call.Sleep ns) core) []
acts meeting setup actor call.Wait core = waits_by (oldest (queue_at core.requests actor)) actor core
acts meeting setup actor (call.Lock mutex) core = caller_first (locked (actor_of actor) mutex core.objects) actor (call.Lock mutex) core
acts meeting setup actor (call.Unlock mutex) core = caller_first (unlocked (actor_of actor) mutex core.objects) actor (call.Unlock mutex) core
acts meeting setup actor (call.Acquire semaphore) core = caller_first (acquired (actor_of actor) semaphore core.objects) actor (call.Acquire semaphore) core
acts meeting setup actor (call.Release semaphore) core = caller_first (released semaphore core.objects) actor (call.Release semaphore) core
acts meeting setup actor call.Barrier core = caller_last (arrived (actor_of actor) core.objects) actor call.Barrier core
acts meeting setup actor (call.Create target) core = answers_create false actor target core
acts meeting setup actor (call.Join target) core = joins_by (is_ended (state_of core target.0)) actor target core
acts meeting setup actor (call.Kill target) core = kills actor target core
acts meeting setup actor (call.Suspend target) core =
    at_once actor (call.Suspend target) 0 answer.Done (suspended_to true target core)
acts meeting setup actor (call.Resume target) core =
    at_once actor (call.Resume target) 0 answer.Done (suspended_to false target core)
acts meeting setup actor call.Yield core = at_once actor call.Yield 0 answer.Done core
acts meeting setup actor call.Exit core = joiners_wake actor (with_state actor Ended core)
acts meeting setup actor other core =
    option_map_or (λ comer. arrives meeting setup comer core) (comer_of actor other) (goes_on core [])

-- The answer to a call: the route comes first, then the count, and then what the call leads to. A missing or too long
-- route stops the run before the count.
abbrev pub answered_call : Roads → Setup → Core → ℕ → Call → Step
answered_call roads setup core actor what =
    unless_unrouted (meeting_of roads setup core (comer_of actor what)) core (λ meeting. acts meeting setup actor what (counted core))

-- a call is answered as one event; with the budget used up the run stops before it
abbrev pub answered : Roads → Setup → Core → ℕ → Call → Step
answered roads setup core actor what = unless_used setup.budget core (answered_call roads setup core actor what)

-- the answer to a fetch: the next action, or that there is none
abbrev pub answer_of_ask : Option Action → Answer
answer_of_ask action = option_map_or answer.Act action answer.NoMore

-- the answer to a call that fetches the next line, if that line is known, or that there is none
abbrev pub told : Setup → Core → ℕ → Option Action → Step
told setup core actor action = unless_used setup.budget core (goes_on (readied actor (answer_of_ask action) (counted core)) [])

-- ---- parts, as contracts and proofs name them
-- the wait for an execution or a sleep
abbrev pub await_alone : ℕ → Await
await_alone serial = record { serial = record { 0 = serial }; party = party.Alone }

-- an execution begins
abbrev pub with_execution : Setup → ℕ → ℕ → ℕ → Core → Core
with_execution setup actor flops priority core =
    blocks_on (exec_of (host_of setup actor) flops priority) actor (call.Compute flops priority) core

-- it is suspended if its actor is
abbrev pub executed : Setup → ℕ → ℕ → ℕ → Core → Core
executed setup actor flops priority core =
    held_if (is_suspended core actor) (length core.under.tasks + 1) (with_execution setup actor flops priority core)

-- a Compute call on a host that is on
abbrev pub executes : Setup → ℕ → ℕ → ℕ → Core → Step
executes setup actor flops priority core = goes_on (executed setup actor flops priority core) []

-- a sleep begins
abbrev pub with_sleep : ℕ → ℕ → Core → Core
with_sleep actor ns core = blocks_on (timer_of ns) actor (call.Sleep ns) core
