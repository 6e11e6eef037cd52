-- What input streams in memory show, and when their calls fail.
use Rattle.std.specs.Prelude.{◌≡◌, ◌≢◌, ◌+◌, ◌==◌, ◌&&◌, ℕ, Bool, not, List, [], length, min, Option, None, Some, unwrap_or, is_some}
use Rattle.std.specs.List.{list_any}
use Rattle.sg_edge.specs.declared.files.Part.{Part}
use Rattle.sg_edge.specs.declared.files.Part.TheVariants.{Platform, Deployment, Script}
use Rattle.sg_edge.specs.declared.files.Stage.TheVariants.{Fresh, Over}
use Rattle.sg_edge.specs.declared.mem_part.MemPart.{MemPart}
use Rattle.sg_edge.specs.declared.mem_files.MemFiles.{MemFiles}
use Rattle.sg_edge.specs.Files.{PartView, NoneLeft, fresh_view}
use Rattle.sg_edge.specs.kept.Parts.{part_name, part_view, part_left, takes_name, greatest_count, part_over, part_unnamed}

abbrev pub mem_part : MemFiles → Part → MemPart
mem_part m Platform = m.platform
mem_part m Deployment = m.deployment
mem_part m Script = m.script

abbrev pub mem_view : MemFiles → Part → PartView
mem_view m part = part_view (mem_part m part)

-- the bytes that were not taken
abbrev pub mem_left : MemFiles → Part → List ℕ
mem_left m part = part_left (mem_part m part)

-- whether there is such an input stream
abbrev pub is_there : MemFiles → Part → Bool
is_there m part = (mem_part m part).there

-- the only name under which an input stream can be begun, if it was given one
abbrev pub name_of : MemFiles → Part → Option (List ℕ)
name_of m part = part_name (mem_part m part)

-- the greatest count that one read of an input stream gives
abbrev pub piece_of : MemFiles → Part → ℕ
piece_of m part = (mem_part m part).piece

-- how many bytes a read takes into a buffer of so many, if it doesn't fail
abbrev pub read_count : MemFiles → Part → ℕ → ℕ
read_count m part room = min (min room (piece_of m part)) (length (mem_left m part))

-- how many calls there were
abbrev pub calls_of : MemFiles → ℕ
calls_of m = m.calls

-- the numbers of the calls that are to fail
abbrev pub failing_of : MemFiles → List ℕ
failing_of m = m.failing.items

-- the next call is among those that are to fail
abbrev pub call_fails : MemFiles → Bool
call_fails m = list_any (λ n. n == calls_of m + 1) (failing_of m)

-- an input stream can be begun under this name: it is there, that is its name or it has none, and
-- the call is none of those that are to fail
abbrev pub can_begin : MemFiles → Part → List ℕ → Bool
can_begin m part name = is_there m part && (takes_name (name_of m part) name && not (call_fails m))

-- the input stream holds these bytes, or none, and has no name, a read gives as many as there are,
-- and nothing was done to it
pub record StartsAs (part : Part) (bytes : Option (List ℕ)) (m : MemFiles) : Type 0 where
  pub shows : mem_view m part ≡ fresh_view (unwrap_or bytes [])
  pub there : is_there m part ≡ is_some bytes
  pub unnamed : name_of m part ≡ None
  pub piece : piece_of m part ≡ greatest_count

-- one more call was made, and all that decides which calls fail, and how much they give, stays
pub record CountsCall (old new : MemFiles) : Type 0 where
  pub calls : calls_of new ≡ calls_of old + 1
  pub failing : failing_of new ≡ failing_of old
  pub there : (part : Part) → is_there new part ≡ is_there old part
  pub names : (part : Part) → name_of new part ≡ name_of old part
  pub pieces : (part : Part) → piece_of new part ≡ piece_of old part

-- no call was made: what was read, what is there and which calls fail stays
pub record MakesNoCall (old new : MemFiles) : Type 0 where
  pub shows : (part : Part) → mem_view new part ≡ mem_view old part
  pub there : (part : Part) → is_there new part ≡ is_there old part
  pub calls : calls_of new ≡ calls_of old
  pub failing : failing_of new ≡ failing_of old

-- the input stream has this name now, and all else stays
pub record Renames (part : Part) (name : List ℕ) (old new : MemFiles) : Type 0 where
  pub name_is : name_of new part ≡ Some name
  pub others : (q : Part) → q ≢ part → name_of new q ≡ name_of old q
  pub pieces : (q : Part) → piece_of new q ≡ piece_of old q
  pub rest : MakesNoCall old new

-- a read of the input stream gives at most so many bytes now, and all else stays
pub record SetsPiece (part : Part) (n : ℕ) (old new : MemFiles) : Type 0 where
  pub piece_is : piece_of new part ≡ n
  pub others : (q : Part) → q ≢ part → piece_of new q ≡ piece_of old q
  pub names : (q : Part) → name_of new q ≡ name_of old q
  pub rest : MakesNoCall old new

-- no bytes remain of an input stream that is `Over`
pub mem_over : (files : MemFiles) (part : Part)
    → (mem_view files part).stage ≡ Over → NoneLeft (mem_view files part).left
mem_over files part over = part_over (mem_part files part) over

-- one that isn't begun has no name
pub mem_unnamed : (files : MemFiles) (part : Part)
    → (mem_view files part).stage ≡ Fresh → (mem_view files part).name ≡ None
mem_unnamed files part fresh = part_unnamed (mem_part files part) fresh
