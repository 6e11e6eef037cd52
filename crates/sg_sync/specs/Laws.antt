-- What every call keeps.
use Rattle.std.specs.Prelude.{◌≡◌, ◌+◌, ◌≤◌, List, [], ◌∷◌}
use Rattle.sg_base.specs.declared.ids.ActorId.{ActorId}
use Rattle.sg_sync.specs.declared.outcome.Outcome.{Outcome}
use Rattle.sg_sync.specs.declared.outcome.Outcome.TheVariants.{GoesOn, Waits, Refused}
use Rattle.sg_sync.specs.Queues.{times}
use Rattle.sg_sync.specs.Objects.{Objects, Done, waiting}

-- who comes to wait by a call of this actor
abbrev pub comers : ActorId → Outcome → List ActorId
comers caller GoesOn = []
comers caller Waits = caller ∷ []
comers caller Refused = []

-- Nobody is lost, and nobody continues who didn't wait: who waits after the call or continues by it waited before, or begins to wait.
abbrev pub KeepsAll : ActorId → Objects → Done → Type 0
KeepsAll caller o done = (actor : ActorId) → waiting done.after actor + times actor done.woken ≡ waiting o actor + times actor (comers caller done.outcome)

-- an actor waits in one queue at most, and once there
abbrev pub WaitsOnce : Objects → Type 0
WaitsOnce o = (actor : ActorId) → waiting o actor ≤ 1
