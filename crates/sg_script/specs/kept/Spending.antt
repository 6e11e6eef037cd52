-- What the steps of a fetch have read, and what is needed from then on.
use Rattle.std.specs.Prelude.{◌≡◌, ◌≢◌, ◌+◌, ◌++◌, ℕ, Bool, List, [], length}
use Rattle.sg_edge.specs.declared.files.Stage.{Stage}
use Rattle.sg_script.specs.Frugal.{IsNear, Suffices}
use Rattle.sg_script.specs.Known.{ScriptNames}
use Rattle.sg_script.specs.Needed.{need_from}
use Rattle.sg_script.specs.Rest.{May}
use Rattle.sg_script.specs.Stands.{Kept}
use Rattle.sg_script.specs.kept.Queues.{waits}

-- A piece was read, lines with so many actions of each actor were taken off the front, and so many
-- fetches of each were answered: what is needed after these actions is less by what was taken off.
pub record Spends (known : ScriptNames) (stage : Stage) (piece : List ℕ) (asked : ℕ → ℕ)
    (old new : Kept) : Type 0 where
  pub own : ℕ → ℕ
  pub queued : (actor : ℕ) → asked actor + length (waits known.members new.queues actor)
      ≡ length (waits known.members old.queues actor) + own actor
  pub cost : (rest : List ℕ) (broken : Bool) → May stage rest broken → (actor later : ℕ) →
      need_from known broken actor old.lines (old.pending ++ (piece ++ rest)) (own actor + later)
      + length new.pending
      ≡ length old.pending + length piece
      + need_from known broken actor new.lines (new.pending ++ rest) later

-- from this stage on a fetch of this actor read nothing, or less than a piece more than it needs,
-- whatever may still come; nothing if it has its answer, and no further after its answer
pub record IsThrifty (known : ScriptNames) (actor : ℕ) (start stage : Stage) (piece : List ℕ)
    (old : Kept) : Type 0 where
  pub near : (rest : List ℕ) (broken : Bool) → May stage rest broken →
      IsNear known actor piece old rest broken
  pub idle : waits known.members old.queues actor ≢ [] → (piece ≡ []) × (stage ≡ start)
  pub enough : Suffices known actor old [] → piece ≡ []
  pub last : Suffices known actor old piece → stage ≡ start
