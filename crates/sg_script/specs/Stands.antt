-- What is kept of a script that was read in part, what whole scripts it stands for, and what a
-- fetch does.
use Rattle.std.specs.Prelude.{◌≡◌, ℕ, Bool, ◌+◌, ◌-◌, ◌++◌, List, [], length, slice_get, Option, Result, ◌≢◌, ◌<◌, ◌⊎◌, Ok, Err, ◌≤◌, IfOk, IfSome, ⊤}
use Rattle.std.specs.List.{All}
use Rattle.sg_base.specs.Limits.{Extent, IsAction}
use Rattle.sg_edge.specs.Files.{before, PartView}
use Rattle.sg_edge.specs.declared.files.Part.{Part}
use Rattle.sg_edge.specs.declared.files.Stage.{Stage}
use Rattle.sg_base.specs.declared.call.Action.{Action}
use Rattle.sg_script.specs.Known.{ScriptNames}
use Rattle.sg_script.specs.Fetched.{fetches_of, one_more}
use Rattle.sg_script.specs.declared.waiting.Waiting.{Waiting}
use Rattle.sg_script.specs.declared.script.Script.{Script}
use Rattle.sg_script.specs.declared.fault.ScriptFault.{ScriptFault}
use Rattle.sg_script.specs.Answer.{answer_of, judgements}
use Rattle.sg_script.specs.kept.Answers.{answered_by, first_bad, script_actions}
use Rattle.sg_edge.specs.Sources.{Source}
use Rattle.sg_script.specs.Needed.{need_from, need_of}
use Rattle.sg_script.specs.Rest.{GoesOn, May}
use Rattle.sg_script.specs.kept.Queues.{AreOperations, waits}
use Rattle.sg_edge.specs.declared.files.Stage.TheVariants.{Fresh, Broken, Begun}
use Rattle.sg_script.specs.declared.fault.ScriptFault.TheVariants.{Line, Read, Memory}

-- what a script keeps: the lines that wait for each actor, how many lines were read, and the bytes
-- after them
pub record Kept : Type 0 where
  pub queues : List (List Waiting)
  pub lines : ℕ
  pub pending : List ℕ

abbrev pub kept_of : Script → Kept
kept_of script = record { queues = script.queues; lines = script.before; pending = script.pending }

-- how many actors it was made for
abbrev pub actors_of : Script → ℕ
actors_of script = length script.queues - 1

-- nothing was read
abbrev pub nothing_read : Kept
nothing_read = record { queues = []; lines = 0; pending = [] }

-- the answer to a fetch after so many others, by what is kept and the bytes still to come
abbrev pub answer_from : ScriptNames → Kept → List ℕ → Bool → ℕ → ℕ → Result (Option Action) ScriptFault
answer_from known kept rest broken actor earlier =
    let more = judgements known kept.lines (kept.pending ++ rest) broken in
    answered_by broken (first_bad kept.lines more)
    (slice_get (waits known.members kept.queues actor ++ script_actions known actor more) earlier)

-- The script stands for these bytes and fetches: whatever may still come, each later fetch has its
-- answer by what is kept. If no action waits for it, what it needs follows what was taken off the
-- front.
pub record Stands (known : ScriptNames) (taken : List ℕ) (stage : Stage) (fetched : List ℕ)
    (kept : Kept) : Type 0 where
  pub answers : (rest : List ℕ) (broken : Bool) → May stage rest broken → (actor later : ℕ) →
      answer_of known (record { bytes = taken ++ rest; broken = broken }) actor (fetches_of fetched actor + later)
      ≡ answer_from known kept rest broken actor later
  pub needs : (rest : List ℕ) (broken : Bool) → May stage rest broken → (actor later : ℕ) →
      need_of known (record { bytes = taken ++ rest; broken = broken }) actor
      (fetches_of fetched actor + length (waits known.members kept.queues actor) + later) + length kept.pending
      ≡ length taken + need_from known broken actor kept.lines (kept.pending ++ rest) later

-- this piece was taken, and the name stays; the part broke only by a call that failed
pub record Reads (piece : List ℕ) (old new : PartView) : Type 0 where
  pub name : new.name ≡ old.name
  pub left : old.left ≡ before piece new.left
  pub broke : new.stage ≡ Broken → (old.stage ≡ Broken) ⊎ (old.faults < new.faults)
  pub sound : new.stage ≢ Broken → new.faults ≡ old.faults
  pub rising : old.faults ≤ new.faults
  pub stayed : old.stage ≢ Begun → (piece ≡ []) × (new.stage ≡ old.stage)
  pub begun : new.stage ≢ Fresh

-- for this fetch nothing was read, or what was taken in all is less than a piece more than it
-- needs
abbrev pub IsNearNeed : ScriptNames → List ℕ → List ℕ → Stage → ℕ → ℕ → Type 0
IsNearNeed known taken piece stage actor earlier =
    (source : Source) → GoesOn (taken ++ piece) stage source → (piece ≡ [])
    ⊎ (length (taken ++ piece) ≤ need_of known source actor earlier + 4095)

-- what was taken answers this fetch, whatever follows it
abbrev pub IsEnough : ScriptNames → List ℕ → ℕ → ℕ → Type 0
IsEnough known taken actor earlier = (rest : List ℕ) (broken : Bool) →
    need_of known (record { bytes = taken ++ rest; broken = broken }) actor earlier ≤ length taken

-- the answer is the whole script's, and the script stands for what was read and fetched; if what was
-- taken answers the fetch, no read of it met the end or failed
pub record IsFetched (known : ScriptNames) (taken fetched : List ℕ) (actor : ℕ)
    (answer : Result (Option Action) ScriptFault) (old_part new_part : PartView)
    (new : Kept) : Type 0 where
  pub piece : List ℕ
  pub reads : Reads piece old_part new_part
  pub near : IsNearNeed known taken piece new_part.stage actor (fetches_of fetched actor)
  pub last : IsEnough known (taken ++ piece) actor (fetches_of fetched actor) → new_part.stage ≡ old_part.stage
  pub answer_is : (rest : List ℕ) (broken : Bool) → May new_part.stage rest broken →
      answer_of known (record { bytes = (taken ++ piece) ++ rest; broken = broken }) actor
      (fetches_of fetched actor) ≡ answer
  pub stands : Stands known (taken ++ piece) new_part.stage (one_more actor fetched) new

-- memory ran out, so the fetch wasn't answered, and the script stands for what was read
pub record IsCut (known : ScriptNames) (taken fetched : List ℕ) (actor : ℕ)
    (old_part new_part : PartView) (new : Kept) : Type 0 where
  pub piece : List ℕ
  pub reads : Reads piece old_part new_part
  pub near : IsNearNeed known taken piece new_part.stage actor (fetches_of fetched actor)
  pub last : IsEnough known (taken ++ piece) actor (fetches_of fetched actor) → new_part.stage ≡ old_part.stage
  pub stands : Stands known (taken ++ piece) new_part.stage fetched new

-- What a fetch did that had this answer. Before it these bytes were taken, and so many fetches of
-- each actor answered.
abbrev pub FetchIs : ScriptNames → List ℕ → List ℕ → ℕ → Result (Option Action) ScriptFault → PartView →
    PartView → Kept → Type 0
FetchIs known taken fetched actor (Ok answer) = IsFetched known taken fetched actor (Ok answer)
FetchIs known taken fetched actor (Err (Line n kind)) =
    IsFetched known taken fetched actor (Err (Line n kind))
FetchIs known taken fetched actor (Err Read) = IsFetched known taken fetched actor (Err Read)
FetchIs known taken fetched actor (Err Memory) = IsCut known taken fetched actor

-- what a fetch did, whatever was taken and fetched before it
abbrev pub LeadsFetch : ScriptNames → ℕ → Result (Option Action) ScriptFault → PartView → PartView → Kept →
    Kept → Type 0
LeadsFetch known actor answer old_part new_part old new = (taken fetched : List ℕ) →
    Stands known taken old_part.stage fetched old →
    FetchIs known taken fetched actor answer old_part new_part new

-- so many bytes are less than a piece more than one of so many fetches of each actor needs
pub record HasNeed (known : ScriptNames) (source : Source) (fetched : List ℕ) (count : ℕ) : Type 0 where
  pub actor : ℕ
  pub earlier : ℕ
  pub made : earlier < fetches_of fetched actor
  pub few : count ≤ need_of known source actor earlier + 4095

-- they are, or they are none
abbrev pub IsWithinNeed : ScriptNames → Source → List ℕ → ℕ → Type 0
IsWithinNeed known source fetched count = (count ≡ 0) ⊎ HasNeed known source fetched count

-- so it is with what was taken, whatever may still come
abbrev pub AreNeeded : ScriptNames → List ℕ → Stage → List ℕ → Type 0
AreNeeded known taken stage fetched =
    (source : Source) → GoesOn taken stage source →
    IsWithinNeed known source fetched (length taken)

-- a read fault is reported only if the part is broken
abbrev pub IsRead : Result (Option Action) ScriptFault → PartView → Type 0
IsRead (Ok answer) part = ⊤
IsRead (Err (Line n kind)) part = ⊤
IsRead (Err Read) part = part.stage ≡ Broken
IsRead (Err Memory) part = ⊤

-- a part breaks only by a call that failed, and keeps its name
pub record BreaksOnFailure (part : Part) (old new : Part → PartView) : Type 0 where
  pub name : (new part).name ≡ (old part).name
  pub broke : (new part).stage ≡ Broken → ((old part).stage ≡ Broken) ⊎ ((old part).faults < (new part).faults)
  pub sound : (new part).stage ≢ Broken → (new part).faults ≡ (old part).faults
  pub begun : (new part).stage ≢ Fresh

-- an action that is answered keeps to the limits, and what it names exists
abbrev pub IsLimited : Extent → Result (Option Action) ScriptFault → Type 0
IsLimited extent answer = IfOk answer (λ found. IfSome found (IsAction extent))

-- so do all lines that wait
pub record AreLimited (extent : Extent) (kept : Kept) : Type 0 where
  pub queues : All (AreOperations extent) kept.queues
