-- While an actor is killed.
use Rattle.std.specs.Prelude.{ℕ, ◌-◌, ◌<◌, ◌≤◌, ◌==◌, if◌then◌else◌, List, All}
use Rattle.sg_base.specs.declared.call.Answer.TheVariants as answer
use Rattle.sg_base.specs.declared.call.Call.TheVariants as call
use Rattle.sg_base.specs.declared.ids.ActorId.{ActorId}
use Rattle.sg_actor_states.specs.declared.state.State.TheVariants.{Ended}
use Rattle.sg_actor_states.specs.States.{ActorStates, by_call, with_reply, with_state}

-- the states once a target has ended by the call of an actor, at this date
abbrev pub killed_by : ℕ → ActorId → ℕ → ActorStates → ActorStates
killed_by actor target date states =
    if actor == target.0 then by_call actor Ended states
    else record (with_reply actor (call.Kill target) date 0 answer.Done date (with_state target.0 Ended states)) { room = states.room - 1 }

-- each is the id of an activity, of which so many were made
abbrev pub AreSerials : ℕ → List ℕ → Type 0
AreSerials made serials = All (λ serial. (0 < serial) × (serial ≤ made)) serials
