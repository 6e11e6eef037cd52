-- How calls on mutexes, semaphores and the barrier are answered, and how those that wait for
-- another are unblocked.
use Rattle.std.specs.Prelude.{ℕ, Option, None, Some, List, []}
use Rattle.sg_base.specs.declared.call.Answer.TheVariants as answer
use Rattle.sg_base.specs.declared.call.Call.{Call}
use Rattle.sg_base.specs.declared.ids.ActorId.{ActorId}
use Rattle.sg_sync.specs.declared.outcome.Outcome.{Outcome}
use Rattle.sg_sync.specs.declared.outcome.Outcome.TheVariants.{GoesOn, Waits, Refused}
use Rattle.sg_sync.specs.Objects.{Done}
use Rattle.sg_kernel_calls.specs.World.{Core, state_of}
use Rattle.sg_actor_states.specs.declared.state.Blocking.{Blocking}
use Rattle.sg_actor_states.specs.Actors.{blocking_in, joiners}
use Rattle.sg_kernel_calls.specs.Steps.{Step, goes_on, and_then, each, blocked_by, replied, at_once}

-- the one that made the call
abbrev pub caller_gets : Outcome → ℕ → Call → Core → Step
caller_gets GoesOn actor what core = at_once actor what 0 answer.Done core
caller_gets Waits actor what core = goes_on (blocked_by actor what None core) []
caller_gets Refused actor what core = at_once actor what 0 answer.Refused core

-- one that waited is unblocked
abbrev pub wakes_from : Option Blocking → ActorId → Core → Step
wakes_from None actor core = goes_on core []
wakes_from (Some blocking) actor core = replied actor.0 blocking.what blocking.since 0 answer.Done core

-- an actor that waited on an object, or for another's end, is answered that its call is done
abbrev pub wakes : ActorId → Core → Step
wakes actor core = wakes_from (blocking_in (state_of core actor.0)) actor core

-- these actors are unblocked, one after another in this order
abbrev pub all_wake : List ActorId → Core → Step
all_wake actors core = each wakes actors core

-- those that joined an actor are unblocked, in order of id
abbrev pub joiners_wake : ℕ → Core → Step
joiners_wake target core = all_wake (joiners target 1 core.actors) core

-- ---- what a call on an object leads to, once it is counted
-- the core, in which the mutexes, semaphores and the barrier are as this call leaves them
abbrev pub with_objects : Done → Core → Core
with_objects done core = record core { objects = done.after }

-- what a call on a mutex or semaphore leads to: its caller is answered before those that its call unblocks
abbrev pub caller_first : Done → ℕ → Call → Core → Step
caller_first done actor what core =
    and_then (caller_gets done.outcome actor what (with_objects done core)) (all_wake done.woken)

-- what a call on the barrier leads to: its caller is answered after those that its call unblocks
abbrev pub caller_last : Done → ℕ → Call → Core → Step
caller_last done actor what core =
    and_then (all_wake done.woken (with_objects done core)) (caller_gets done.outcome actor what)
