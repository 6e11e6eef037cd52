-- The answer to an actor's j-th fetch, by the whole script.
use Rattle.std.specs.Prelude.{ℕ, suc, Bool, true, false, ◌+◌, ◌-◌, ◌==◌, ◌||◌, ◌&&◌, List, [], ◌∷◌, length, slice_get, Option, None, Some, option_map, Result, Ok, Err, if◌then◌else◌, nat_lt}
use Rattle.std.specs.List.{slice_split}
use Rattle.sg_edge.specs.Sources.{Source}
use Rattle.sg_base.specs.declared.call.Action.{Action}
use Rattle.sg_script.specs.declared.fault.LineFault.{LineFault}
use Rattle.sg_script.specs.declared.fault.LineFault.TheVariants.{TooManyLines}
use Rattle.sg_script.specs.Known.{ScriptNames}
use Rattle.sg_script.specs.Line.{Judgement, line_judgement}
use Rattle.sg_script.specs.Operation.{line_actions}
use Rattle.sg_script.specs.declared.fault.ScriptFault.{ScriptFault}
use Rattle.sg_script.specs.declared.fault.ScriptFault.TheVariants.{Line, Read}

-- whether a byte ends a line
abbrev pub is_newline : ℕ → Bool
is_newline b = b == 10

-- whether what follows the last newline is a line, if so many lines precede it: at the end of the
-- input if it isn't empty; before a failed read only if it is bad however it might have continued
abbrev pub is_last_line : Bool → ℕ → List ℕ → Bool
is_last_line false before rest = nat_lt 0 (length rest)
is_last_line true before rest =
    nat_lt 4096 (length rest) || (nat_lt 0 (length rest) && (before == 100000000))

-- the lines among parts that newlines separate
abbrev pub lines_among : Bool → ℕ → List (List ℕ) → List (List ℕ)
lines_among broken before [] = []
lines_among broken before (rest ∷ []) = if is_last_line broken before rest then rest ∷ [] else []
lines_among broken before (line ∷ part ∷ parts) =
    line ∷ lines_among broken (before + 1) (part ∷ parts)

-- the judgement of the line of that number
abbrev pub judgement_of : ScriptNames → ℕ → List ℕ → Judgement
judgement_of known number line =
    if nat_lt 100000000 number then Err TooManyLines else line_judgement known line

-- the judgements of these lines, if so many lines stand before them
abbrev pub line_judgements : ScriptNames → ℕ → List (List ℕ) → List Judgement
line_judgements known before [] = []
line_judgements known before (line ∷ more) =
    judgement_of known (before + 1) line ∷ line_judgements known (before + 1) more

-- the judgements of a source's lines, if so many lines stand before these bytes
abbrev pub judgements : ScriptNames → ℕ → List ℕ → Bool → List Judgement
judgements known before bytes broken =
    line_judgements known before (lines_among broken before (slice_split is_newline bytes))

-- The line that decides an actor's fetch after so many of its fetches: the one from which its action comes, or a bad
-- one before that. How many lines precede it, and the action or why it is bad.
abbrev pub deciding_line : ScriptNames → ℕ → ℕ → List Judgement → Option (ℕ × Result (Option Action) LineFault)
deciding_line known actor earlier [] = None
deciding_line known actor earlier (Err kind ∷ more) = Some (0, Err kind)
deciding_line known actor earlier (Ok said ∷ more) =
    let own = line_actions known actor said in
    if nat_lt earlier (length own) then Some (0, Ok (slice_get own earlier))
    else option_map (λ at. (suc at.0, at.1)) (deciding_line known actor (earlier - length own) more)

-- the answer to a fetch, by the line that decides it; without one the read fault, else that there is no more
abbrev pub answer_by : Bool → Option (ℕ × Result (Option Action) LineFault) → Result (Option Action) ScriptFault
answer_by broken None = if broken then Err Read else Ok None
answer_by broken (Some (before, Ok action)) = Ok action
answer_by broken (Some (before, Err kind)) = Err (Line (before + 1) kind)

-- the answer to an actor's fetch after so many of its fetches
abbrev pub answer_of : ScriptNames → Source → ℕ → ℕ → Result (Option Action) ScriptFault
answer_of known source actor earlier =
    answer_by source.broken (deciding_line known actor earlier (judgements known 0 source.bytes source.broken))
