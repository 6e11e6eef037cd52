-- How many bytes of a script the answer to a fetch needs: those through the line that decides it.
use Rattle.std.specs.Prelude.{ℕ, zero, suc, Bool, true, false, ◌+◌, List, length, take, max, min, sum_by, Option, None, Some, Result, Err, nat_lt}
use Rattle.std.specs.List.{slice_split}
use Rattle.sg_edge.specs.Sources.{Source}
use Rattle.sg_base.specs.declared.call.Action.{Action}
use Rattle.sg_script.specs.declared.fault.LineFault.{LineFault}
use Rattle.sg_script.specs.declared.fault.LineFault.TheVariants.{TooLong}
use Rattle.sg_script.specs.Known.{ScriptNames}
use Rattle.sg_script.specs.Answer.{deciding_line, is_newline, judgements}
use Rattle.sg_script.specs.Fetched.{fetches_of}

-- ---- the bytes through the line that decides
-- the bytes through so many first lines, each with its newline; the last may have none
abbrev pub through : List ℕ → ℕ → ℕ
through bytes count = min (sum_by (λ line. length line + 1) (take count (slice_split is_newline bytes))) (length bytes)

-- where the judgement of a line from here to there is known: one too many at its first byte, one
-- that is too long at its byte 4,097, and any other at its end
abbrev pub told_at : Bool → ℕ → ℕ → Result (Option Action) LineFault → ℕ
told_at true start end found = start + 1
told_at false start end (Err TooLong) = start + 4097
told_at false start end other = end

-- through the deciding line, or to the end; so many lines stand before these bytes
abbrev pub need_by : ℕ → List ℕ → Option (ℕ × Result (Option Action) LineFault) → ℕ
need_by before bytes None = length bytes
need_by before bytes (Some at) =
    told_at (nat_lt 100000000 (before + at.0 + 1)) (through bytes at.0)
    (through bytes (suc at.0)) at.1

-- what a fetch needs of bytes before which so many lines were
abbrev pub need_from : ScriptNames → Bool → ℕ → ℕ → List ℕ → ℕ → ℕ
need_from known broken actor before bytes earlier =
    need_by before bytes (deciding_line known actor earlier (judgements known before bytes broken))

-- how many bytes of a whole script an actor's fetch needs, after so many of its fetches
abbrev pub need_of : ScriptNames → Source → ℕ → ℕ → ℕ
need_of known source actor earlier = need_from known source.broken actor 0 source.bytes earlier

-- ---- the fetches of a run
-- the greatest of so many first values, 0 of none
abbrev pub greatest : ℕ → (ℕ → ℕ) → ℕ
greatest zero value = 0
greatest (suc n) value = max (value n) (greatest n value)

-- the bytes that so many fetches of each actor need: the most that one of them needs
abbrev pub needed_by : ScriptNames → Source → List ℕ → ℕ
needed_by known source fetched =
    greatest (length fetched) (λ actor. greatest (fetches_of fetched actor) (need_of known source actor))
