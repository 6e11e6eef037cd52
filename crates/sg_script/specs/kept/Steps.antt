-- The steps by which a fetch is answered: taking a line, and reading a piece.
use Rattle.std.specs.Prelude.{◌≡◌, ℕ, Bool, ◌+◌, ◌-◌, ◌++◌, List, [], length, Option, Result, ◌≢◌, ◌<◌, suc, Ok, Err, ◌≤◌, ◌*◌, slice_set, None, Some, drop, IfNone, if◌then◌else◌, ◌==◌, ⊤}
use Rattle.sg_edge.specs.Files.{PartView}
use Rattle.sg_edge.specs.declared.files.Stage.{Stage}
use Rattle.sg_base.specs.declared.call.Action.{Action}
use Rattle.sg_script.specs.Known.{ScriptNames}
use Rattle.sg_script.specs.declared.fault.ScriptFault.{ScriptFault}
use Rattle.sg_script.specs.Rest.{May}
use Rattle.sg_script.specs.kept.Queues.{queue_at, waits, with_first, with_line}
use Rattle.sg_edge.specs.declared.files.Stage.TheVariants.{Fresh, Broken, Begun, Over}
use Rattle.sg_script.specs.declared.fault.ScriptFault.TheVariants.{Line, Read, Memory}
use Rattle.sg_script.specs.declared.line.Entry.{Entry}
use Rattle.sg_script.specs.declared.waiting.Waiting.{Waiting}
use Rattle.sg_script.specs.Line.{Judgement}
use Rattle.sg_script.specs.Stands.{Kept, answer_from, Reads, IsRead}
use Rattle.sg_script.specs.kept.Spending.{IsThrifty, Spends}

-- reading this piece, and moving lines into queues, changed no answer
abbrev pub Moves : ScriptNames → Stage → List ℕ → Kept → Kept → Type 0
Moves known stage piece old new = (rest : List ℕ) (broken : Bool) → May stage rest broken →
    (actor later : ℕ) →
    answer_from known old (piece ++ rest) broken actor later
    ≡ answer_from known new rest broken actor later

-- after this piece was read an actor's fetch has this answer; the later ones have their answers by
-- what is kept then
pub record Tells (known : ScriptNames) (actor : ℕ) (answer : Result (Option Action) ScriptFault)
    (stage : Stage) (piece : List ℕ) (old new : Kept) : Type 0 where
  pub now : (rest : List ℕ) (broken : Bool) → May stage rest broken →
      answer_from known old (piece ++ rest) broken actor 0 ≡ answer
  pub later : (rest : List ℕ) (broken : Bool) → May stage rest broken → (later : ℕ) →
      answer_from known old (piece ++ rest) broken actor (suc later)
      ≡ answer_from known new rest broken actor later
  pub others : (rest : List ℕ) (broken : Bool) → May stage rest broken → (other later : ℕ) →
      other ≢ actor → answer_from known old (piece ++ rest) broken other later
      ≡ answer_from known new rest broken other later

-- no fetch of any actor, and one of this actor
abbrev pub no_fetch : ℕ → ℕ
no_fetch other = 0

abbrev pub one_fetch : ℕ → ℕ → ℕ
one_fetch actor other = if other == actor then 1 else 0

-- for this actor's fetch the script continues as it was, except for what was read
pub record Goes (known : ScriptNames) (actor : ℕ) (old_part new_part : PartView)
    (old new : Kept) : Type 0 where
  pub piece : List ℕ
  pub reads : Reads piece old_part new_part
  pub thrifty : IsThrifty known actor old_part.stage new_part.stage piece old
  pub spends : Spends known new_part.stage piece no_fetch old new
  pub moves : Moves known new_part.stage piece old new
  pub queues : length new.queues ≡ length old.queues

-- a piece was read, and the fetch has this answer
pub record Answers (known : ScriptNames) (actor : ℕ) (answer : Result (Option Action) ScriptFault)
    (old_part new_part : PartView) (old new : Kept) : Type 0 where
  pub piece : List ℕ
  pub reads : Reads piece old_part new_part
  pub thrifty : IsThrifty known actor old_part.stage new_part.stage piece old
  pub spends : Spends known new_part.stage piece (one_fetch actor) old new
  pub tells : Tells known actor answer new_part.stage piece old new
  pub queues : length new.queues ≡ length old.queues

-- memory ran out: no fetch was answered and no byte is lost
abbrev pub Ends : ScriptNames → ℕ → Result (Option Action) ScriptFault → PartView → PartView → Kept → Kept
    → Type 0
Ends known actor (Ok answer) = Answers known actor (Ok answer)
Ends known actor (Err (Line n kind)) = Answers known actor (Err (Line n kind))
Ends known actor (Err Read) = Answers known actor (Err Read)
Ends known actor (Err Memory) = Goes known actor

-- whether a read may still come
abbrev pub once : Stage → ℕ
once Fresh = 1
once Begun = 1
once Over = 0
once Broken = 0

-- what is still to do, which falls with each step: lines that may still come, then bytes that
-- may still be pending
abbrev pub to_do : Stage → Kept → ℕ
to_do stage kept = (100000000 - kept.lines) * 20000 + (8192 - length kept.pending) + once stage

-- what a step did: without an answer it continued, and less remains to do
abbrev pub StepIs : ScriptNames → ℕ → Option (Result (Option Action) ScriptFault) → PartView → PartView →
    Kept → Kept → Type 0
StepIs known actor None old_part new_part old new = Goes known actor old_part new_part old new
    × (waits known.members new.queues actor ≡ [])
    × (to_do new_part.stage new < to_do old_part.stage old)
StepIs known actor (Some answer) old_part new_part old new =
    Ends known actor answer old_part new_part old new × IsRead answer new_part

-- the queues with what a line said
abbrev pub queues_with : Option Entry → List (List Waiting) → List (List Waiting)
queues_with None queues = queues
queues_with (Some entry) queues = with_line entry.actor.0 entry.operation queues

-- the actor of an entry has a queue
abbrev pub HasQueue : ℕ → Option Entry → Type 0
HasQueue actors None = ⊤
HasQueue actors (Some entry) = entry.actor.0 < actors

-- the line's bytes are gone
pub record Passes (queues : List (List Waiting)) (end : ℕ) (old new : Kept) : Type 0 where
  pub queued : new.queues ≡ queues
  pub lines : new.lines ≡ old.lines + 1
  pub pending : new.pending ≡ drop end old.pending

-- what taking a line of that judgement did: without a fault it went to its actor's queue, or was
-- passed over
abbrev pub LineIs : Judgement → ℕ → Option ScriptFault → Kept → Kept → Type 0
LineIs said end None old new = (entry : Option Entry) × (said ≡ Ok entry)
    × HasQueue (length old.queues) entry × Passes (queues_with entry old.queues) end old new
LineIs said end (Some (Line n kind)) old new =
    (said ≡ Err kind) × (n ≡ old.lines + 1) × (new ≡ old)
LineIs said end (Some Read) old new = ⊥
LineIs said end (Some Memory) old new = new ≡ old

-- the first action that waits for an actor was taken, if one does
pub record Pops (known : ScriptNames) (actor : ℕ) (first : Option Action) (old new : Kept) : Type 0 where
  pub first_is : waits known.members old.queues actor
      ≡ with_first first (waits known.members new.queues actor)
  pub empty : IfNone first (waits known.members old.queues actor ≡ [])
  pub others : new.queues ≡ slice_set old.queues actor (queue_at new.queues actor)
  pub lines : new.lines ≡ old.lines
  pub pending : new.pending ≡ old.pending

-- what a line did for a fetch: it was taken, and then the first action that waits for the actor
abbrev pub LineTells : ScriptNames → Judgement → ℕ → ℕ → Option (Result (Option Action) ScriptFault) →
    Kept → Kept → Type 0
LineTells known said end actor None old new = (mid : Kept) × LineIs said end None old mid
    × Pops known actor None mid new
LineTells known said end actor (Some (Ok None)) old new = ⊥
LineTells known said end actor (Some (Ok (Some action))) old new =
    (mid : Kept) × LineIs said end None old mid × Pops known actor (Some action) mid new
LineTells known said end actor (Some (Err fault)) old new = LineIs said end (Some fault) old new

-- what reading one piece did
pub record ReadIs (old_part new_part : PartView) (old new : Kept) : Type 0 where
  pub piece : List ℕ
  pub reads : Reads piece old_part new_part
  pub queues : new.queues ≡ old.queues
  pub lines : new.lines ≡ old.lines
  pub pending : new.pending ≡ old.pending ++ piece
  pub short : length piece ≤ 4096
  pub some : 0 < length piece → new_part.stage ≡ old_part.stage
  pub less : to_do new_part.stage new < to_do old_part.stage old
