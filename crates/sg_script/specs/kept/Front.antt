-- What stands at the front of bytes that were read, whatever is still to come.
use Rattle.std.specs.Prelude.{◌≡◌, Option, Ok, ◌≤◌, ◌<◌, ℕ, Bool, true, false, not, ◌||◌, ◌+◌, ◌++◌, List, [], ◌∷◌, length, take, drop, None, IsOk, ⊤}
use Rattle.std.specs.List.{list_all, position}
use Rattle.sg_edge.specs.declared.files.Stage.{Stage}
use Rattle.sg_edge.specs.declared.files.Stage.TheVariants.{Begun, Over, Broken as IsBroken}
use Rattle.sg_script.specs.declared.line.Entry.{Entry}
use Rattle.sg_script.specs.Known.{ScriptNames}
use Rattle.sg_script.specs.Needed.{need_from}
use Rattle.sg_script.specs.Operation.{line_actions}
use Rattle.sg_script.specs.Rest.{May}
use Rattle.sg_script.specs.Answer.{is_newline, is_last_line, judgement_of, judgements}
use Rattle.sg_script.specs.Line.{is_plain, Judgement}
use Rattle.sg_script.specs.declared.front.Front.{Front}
use Rattle.sg_script.specs.declared.front.Front.TheVariants.{Line, Unread, End, Broken}

-- how many actions of the actor a line gives
abbrev pub own_actions : ScriptNames → ℕ → Option Entry → ℕ
own_actions known actor said = length (line_actions known actor said)

-- the first line is judged as these bytes of it are; if it is good or skipped, the others are
-- those after it
pub record Leads (known : ScriptNames) (before : ℕ) (bytes : List ℕ) (len end : ℕ) (rest : List ℕ)
    (broken : Bool) : Type 0 where
  pub others : List Judgement
  pub all : judgements known before (bytes ++ rest) broken
      ≡ judgement_of known (before + 1) (take len bytes) ∷ others
  pub behind : IsOk (judgement_of known (before + 1) (take len bytes)) →
      others ≡ judgements known (before + 1) (drop end bytes ++ rest) broken
  pub needs : (actor later : ℕ) (said : Option Entry) →
      judgement_of known (before + 1) (take len bytes) ≡ Ok said →
      need_from known broken actor before (bytes ++ rest) (own_actions known actor said + later)
      ≡ end + need_from known broken actor (before + 1) (drop end bytes ++ rest) later

-- no line is whole, and none is bad however it continues
pub record IsOpen (before : ℕ) (bytes : List ℕ) : Type 0 where
  pub unended : position is_newline bytes ≡ None
  pub short : length bytes ≤ 4096
  pub not_bad : is_last_line true before bytes ≡ false

abbrev pub FrontIs : Stage → ℕ → List ℕ → Front → Type 0
FrontIs stage before bytes (Line len end) = (len ≤ end) × (end ≤ length bytes) × (0 < end)
    × ((known : ScriptNames) (rest : List ℕ) (broken : Bool) → May stage rest broken →
    Leads known before bytes len end rest broken)
FrontIs stage before bytes Unread = (stage ≡ Begun) × IsOpen before bytes
FrontIs stage before bytes End = (stage ≡ Over) × (bytes ≡ [])
FrontIs stage before bytes Broken = (stage ≡ IsBroken) × IsOpen before bytes

-- a byte that may stand in a line, or ends one
abbrev pub is_text : ℕ → Bool
is_text b = is_plain b || is_newline b

abbrev pub is_within : ℕ → Bool
is_within b = not (is_newline b)

-- no newline stands in the line at the front
abbrev pub IsUnbroken : List ℕ → Front → Type 0
IsUnbroken bytes (Line len end) = list_all is_within (take len bytes) ≡ true
IsUnbroken bytes Unread = ⊤
IsUnbroken bytes End = ⊤
IsUnbroken bytes Broken = ⊤
