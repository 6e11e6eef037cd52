-- How actors are suspended and resumed.
use Rattle.std.specs.Prelude.{ℕ, Bool, true, false, Option, None, Some, if◌then◌else◌}
use Rattle.sg_base.specs.declared.awaits.Await.{Await}
use Rattle.sg_base.specs.declared.ids.ActorId.{ActorId}
use Rattle.sg_activity.specs.Underway.{Underway, gone_on, held, is_computing, is_kept}
use Rattle.sg_actor_states.specs.declared.state.Blocking.{Blocking}
use Rattle.sg_actor_states.specs.Actors.{blocking_in, is_alive, put_suspended}
use Rattle.sg_kernel_calls.specs.World.{Core, state_of}

-- the execution with this id is suspended if its actor is
abbrev pub held_if : Bool → ℕ → Core → Core
held_if on serial core = if on then record core { under = held serial core.under } else core

-- a running execution is suspended, or a suspended one resumes; anything else stays as it is
abbrev pub held_to : Bool → ℕ → Underway → Underway
held_to true serial under = if is_computing under serial then held serial under else under
held_to false serial under = if is_kept under serial then gone_on serial under else under

-- the activity on which an actor is blocked is suspended, or resumes
abbrev pub held_on : Bool → Option Await → Core → Core
held_on on None core = core
held_on on (Some await) core = record core { under = held_to on await.serial.0 core.under }

-- the activity of a blocked call is suspended, or resumes, if it is an execution
abbrev pub held_by : Bool → Option Blocking → Core → Core
held_by on None core = core
held_by on (Some blocking) core = held_on on blocking.on core

-- One that is alive is suspended, or resumed: suspended, it takes no turn, and its execution keeps its remaining work.
abbrev pub suspended_to : Bool → ActorId → Core → Core
suspended_to on target core =
    let marked : Core = record core { actors = put_suspended core.actors target.0 on } in
    let state = state_of core target.0 in
    if is_alive state then held_by on (blocking_in state) marked else core
