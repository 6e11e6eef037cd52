-- What contracts see of `Sync`, and how a call changes it.
use Rattle.std.specs.Prelude.{◌≡◌, List}
use Rattle.sg_base.specs.declared.ids.ActorId.{ActorId}
use Rattle.sg_sync.specs.declared.outcome.Outcome.{Outcome}
use Rattle.sg_sync.specs.Objects.{Done, Objects}

-- the objects, and who else continues by the last call, in order
pub record SyncState : Type 0 where
  pub objects : Objects
  pub others : List ActorId

-- the call of the code returns the answer of this one, leaves the objects so, and lists whom it wakes
pub record Does (done : Done) (result : Outcome) (new : SyncState) : Type 0 where
  pub outcome : result ≡ done.outcome
  pub objects : new.objects ≡ done.after
  pub others : new.others ≡ done.woken
