-- How an actor is killed. All of it is one event.
use Rattle.std.specs.Prelude.{ℕ, ◌==◌, Option, option_and_then, if◌then◌else◌, List, [], ◌∷◌}
use Rattle.sg_base.specs.declared.awaits.Await.{Await}
use Rattle.sg_base.specs.declared.call.Answer.TheVariants as answer
use Rattle.sg_base.specs.declared.call.Call.TheVariants as call
use Rattle.sg_base.specs.declared.ids.ActorId.{ActorId}
use Rattle.sg_requests.specs.Requested.{awaited_with, queue_at, without_requests}
use Rattle.sg_actor_states.specs.declared.state.Blocking.{Blocking}
use Rattle.sg_actor_states.specs.declared.state.State.TheVariants.{Ended}
use Rattle.sg_actor_states.specs.Actors.{blocking_in, is_alive, put_state}
use Rattle.sg_sync.specs.Objects as sync
use Rattle.sg_mailbox.specs.declared.owners.How.TheVariants as how
use Rattle.sg_mailbox.specs.declared.owners.Whose.{Whose}
use Rattle.sg_mailbox.specs.declared.owners.Whose.TheVariants.{Over}
use Rattle.sg_kernel_calls.specs.World.{Core, state_of, whose_at}
use Rattle.sg_kernel_calls.specs.Steps.{Step, goes_on, each, all_of, at_once}
use Rattle.sg_kernel_calls.specs.Answers.{finishes}
use Rattle.sg_kernel_calls.specs.Locks.{joiners_wake}

-- the activity on which an actor is blocked
abbrev pub blocked_on : Option Blocking → Option Await
blocked_on blocking = option_and_then (λ (by : Blocking). by.on) blocking

-- the ids of the activity on which an actor is blocked and of its requests, in rising order, each
-- once
abbrev pub awaited : ActorId → Core → List ℕ
awaited target core =
    awaited_with (blocked_on (blocking_in (state_of core target.0))) (queue_at core.requests target.0)

-- the actor has ended, waits nowhere, and has no requests; it keeps the mutexes that it owns
abbrev pub withdrawn : ActorId → Core → Core
withdrawn target core = record core {
  actors = put_state core.actors target.0 Ended;
  requests = without_requests core.requests target.0;
  objects = sync.after_withdrawal target core.objects;
}

-- an activity that hasn't ended fails, and the other endpoint is answered
abbrev pub gives_up_by : Whose → ℕ → Core → Step
gives_up_by (Over before) serial core = goes_on core []
gives_up_by other serial core = finishes how.Failed serial core

-- an activity that a killed actor awaited fails, unless it had ended already
abbrev pub gives_up : ℕ → Core → Step
gives_up serial core = gives_up_by (whose_at core serial) serial core

-- the record of the kill of another; an actor that kills itself gets no answer
abbrev pub kill_done : ℕ → ActorId → Core → Step
kill_done actor target core =
    if actor == target.0 then goes_on core []
    else at_once actor (call.Kill target) 0 answer.Done core

-- A living actor is killed: the record of the kill comes first, then what the actor awaited before fails, and then
-- those that joined it are unblocked. One that isn't alive stays as it is.
abbrev pub kills : ℕ → ActorId → Core → Step
kills actor target core =
    let fails = each gives_up (awaited target core) in
    if is_alive (state_of core target.0)
    then all_of (kill_done actor target ∷ fails ∷ joiners_wake target.0 ∷ []) (withdrawn target core)
    else at_once actor (call.Kill target) 0 answer.Done core

-- ---- parts, as proofs name them
-- what follows a kill, in this order
abbrev pub kill_stretches : ℕ → ActorId → List ℕ → List (Core → Step)
kill_stretches actor target serials =
    kill_done actor target ∷
    each gives_up serials ∷
    joiners_wake target.0 ∷
    []

-- a living actor is killed
abbrev pub kills_alive : ℕ → ActorId → Core → Step
kills_alive actor target core =
    all_of (kill_stretches actor target (awaited target core)) (withdrawn target core)
