-- Only what is needed is read, except for less than a piece, and it is asked for only if it is
-- needed.
use Rattle.std.specs.Prelude.{◌≡◌, ◌≢◌, [], ◌≤◌, ◌⊎◌, ℕ, Bool, ◌+◌, ◌++◌, List, length}
use Rattle.sg_edge.specs.Files.{PartView}
use Rattle.sg_script.specs.Known.{ScriptNames}
use Rattle.sg_script.specs.Rest.{May}
use Rattle.sg_script.specs.Needed.{need_from}
use Rattle.sg_script.specs.kept.Queues.{waits}
use Rattle.sg_script.specs.Stands.{Kept, Reads}

-- the bytes that the next fetch of an actor without a queue needs, from those that are kept on
abbrev pub cost_from : ScriptNames → Kept → List ℕ → Bool → ℕ → ℕ
cost_from known kept rest broken actor =
    need_from known broken actor kept.lines (kept.pending ++ rest) 0

-- nothing was read, or less than a piece more than is needed
abbrev pub IsNear : ScriptNames → ℕ → List ℕ → Kept → List ℕ → Bool → Type 0
IsNear known actor piece old rest broken = (length piece ≡ 0)
    ⊎ (length old.pending + length piece ≤ cost_from known old (piece ++ rest) broken actor + 4095)

-- what is kept, with a piece after it, answers the next fetch of an actor without a queue,
-- whatever follows
abbrev pub Suffices : ScriptNames → ℕ → Kept → List ℕ → Type 0
Suffices known actor kept piece = (rest : List ℕ) (broken : Bool) →
    cost_from known kept (piece ++ rest) broken actor ≤ length kept.pending + length piece

-- A fetch read nothing, or less than a piece more than it needs, whatever may still come. It made no
-- read if an action waits for the actor, and took nothing if what is kept suffices. After a piece
-- that suffices no read follows, which may meet the end or fail.
pub record Frugal (known : ScriptNames) (actor : ℕ) (old_part new_part : PartView)
    (old : Kept) : Type 0 where
  pub piece : List ℕ
  pub reads : Reads piece old_part new_part
  pub near : (rest : List ℕ) (broken : Bool) → May new_part.stage rest broken →
      IsNear known actor piece old rest broken
  pub idle : waits known.members old.queues actor ≢ [] →
      (piece ≡ []) × (new_part.stage ≡ old_part.stage)
  pub enough : Suffices known actor old [] → piece ≡ []
  pub last : Suffices known actor old piece → new_part.stage ≡ old_part.stage
