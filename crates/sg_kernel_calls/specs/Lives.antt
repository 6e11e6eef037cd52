-- How actors begin and end, and how others wait for their end.
use Rattle.std.specs.Prelude.{ℕ, Bool, true, false, None, []}
use Rattle.sg_base.specs.declared.call.Answer.TheVariants as answer
use Rattle.sg_base.specs.declared.call.Call.TheVariants as call
use Rattle.sg_base.specs.declared.ids.ActorId.{ActorId}
use Rattle.sg_actor_states.specs.declared.state.State.TheVariants.{Ready, Ended}
use Rattle.sg_kernel_calls.specs.World.{Core, with_state}
use Rattle.sg_kernel_calls.specs.Steps.{Step, goes_on, counted, blocked_by, at_once}
use Rattle.sg_kernel_calls.specs.Locks.{joiners_wake}

-- an actor that has not started begins
abbrev pub begins : ActorId → Core → Core
begins target core = with_state target.0 (Ready answer.Start) core

-- whether the named actor was given a context
abbrev pub answers_create : Bool → ℕ → ActorId → Core → Step
answers_create true actor target core = at_once actor (call.Create target) 0 answer.Done (begins target core)
answers_create false actor target core = at_once actor (call.Create target) 0 answer.Refused core

-- a create, which is counted
abbrev pub created : Bool → ℕ → ActorId → Core → Step
created given actor target core = answers_create given actor target (counted core)

-- A join: the caller is answered at once if the named actor has ended, else it waits until it has.
abbrev pub joins_by : Bool → ℕ → ActorId → Core → Step
joins_by true actor target core = at_once actor (call.Join target) 0 answer.Done core
joins_by false actor target core = goes_on (blocked_by actor (call.Join target) None core) []

-- ---- parts, as contracts and proofs name them
-- the actor has made its last call
abbrev pub with_actor_ended : ℕ → Core → Core
with_actor_ended actor core = with_state actor Ended core

-- the actor ends, and those that joined it are unblocked
abbrev pub exits : ℕ → Core → Step
exits actor core = joiners_wake actor (with_actor_ended actor core)
