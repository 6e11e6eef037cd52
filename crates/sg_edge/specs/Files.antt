-- What the input streams show, and what the calls do to them.
use Rattle.std.specs.Prelude.{◌≡◌, ◌≢◌, ◌<◌, ◌≤◌, ◌++◌, ℕ, List, [], length, Option, None, Some, if◌then◌else◌, ◌==◌, IsSome, IfSome, ⊤}
use Rattle.sg_edge.specs.declared.files.Part.{Part}
use Rattle.sg_edge.specs.declared.files.Part.TheVariants.{Platform, Deployment, Script}
use Rattle.sg_edge.specs.declared.files.Stage.{Stage}
use Rattle.sg_edge.specs.declared.files.Stage.TheVariants.{Fresh, Begun, Over, Broken}

-- the stage of an input stream, the name under which it was begun and the remaining bytes, if these are known,
-- and how many of its calls have failed
pub record PartView : Type 0 where
  pub stage : Stage
  pub name : Option (List ℕ)
  pub left : Option (List ℕ)
  pub faults : ℕ

-- these bytes, and then the remaining ones, if those are known
abbrev pub before : List ℕ → Option (List ℕ) → Option (List ℕ)
before bytes None = None
before bytes (Some rest) = Some (bytes ++ rest)

-- no bytes remain, if the remaining ones are known
abbrev pub NoneLeft : Option (List ℕ) → Type 0
NoneLeft None = ⊤
NoneLeft (Some rest) = rest ≡ []

-- an input stream with a known name was begun under this one
abbrev pub IsNamed : List ℕ → PartView → Type 0
IsNamed name part = IfSome part.name (λ told. told ≡ name)

-- the input stream is open under this name and has lost nothing
pub record Begins (name : List ℕ) (old new : PartView) : Type 0 where
  pub stage : new.stage ≡ Begun
  pub name_is : IsNamed name new
  pub left : new.left ≡ old.left
  pub faults : new.faults ≡ old.faults

-- a call failed at the input stream and took nothing
pub record Breaks (old new : PartView) : Type 0 where
  pub stage : new.stage ≡ Broken
  pub name : new.name ≡ old.name
  pub left : new.left ≡ old.left
  pub faults : old.faults < new.faults

-- these bytes were taken; if there are none, that is the end
pub record Takes (bytes : List ℕ) (old new : PartView) : Type 0 where
  pub left : old.left ≡ before bytes new.left
  pub stage : new.stage ≡ (if length bytes == 0 then Over else Begun)
  pub end : length bytes ≡ 0 → NoneLeft new.left
  pub name : new.name ≡ old.name
  pub faults : new.faults ≡ old.faults

-- no other input stream changed
abbrev pub Only : Part → (Part → PartView) → (Part → PartView) → Type 0
Only part old new = (q : Part) → q ≢ part → new q ≡ old q

-- from this input stream on nothing changed
abbrev pub SameFrom : Part → (Part → PartView) → (Part → PartView) → Type 0
SameFrom Platform old new =
    (new Platform ≡ old Platform) × (new Deployment ≡ old Deployment) × (new Script ≡ old Script)
SameFrom Deployment old new = (new Deployment ≡ old Deployment) × (new Script ≡ old Script)
SameFrom Script old new = new Script ≡ old Script

-- some input stream is broken, and its count rose
abbrev pub SomeBroke : (Part → PartView) → (Part → PartView) → Type 0
SomeBroke old new =
    (part : Part) × ((new part).stage ≡ Broken) × ((old part).faults < (new part).faults)

-- at most so many bytes were taken
pub record TakesUpTo (most : ℕ) (old new : PartView) : Type 0 where
  pub bytes : List ℕ
  pub left : old.left ≡ before bytes new.left
  pub few : length bytes ≤ most

-- exactly so many bytes were taken
pub record TakesJust (count : ℕ) (old new : PartView) : Type 0 where
  pub bytes : List ℕ
  pub left : old.left ≡ before bytes new.left
  pub just : length bytes ≡ count

-- these bytes were taken, and they are all or as many as the limit
pub record ReadsWhole (limit : ℕ) (bytes : List ℕ) (old new : PartView) : Type 0 where
  pub left : old.left ≡ before bytes new.left
  pub most : length bytes ≤ limit
  pub whole : length bytes < limit → NoneLeft new.left
  pub not_broken : new.stage ≢ Broken
  pub faults : new.faults ≡ old.faults

-- a read failed, after fewer bytes than the limit
pub record ReadsFault (limit : ℕ) (old new : PartView) : Type 0 where
  pub stage : new.stage ≡ Broken
  pub bytes : List ℕ
  pub left : old.left ≡ before bytes new.left
  pub fewer : length bytes < limit
  pub faults : old.faults < new.faults

-- how many calls of an input stream have failed that fails at most once, since no call of it
-- follows one that failed
abbrev pub fault_count : Stage → ℕ
fault_count Fresh = 0
fault_count Begun = 0
fault_count Over = 0
fault_count Broken = 1

-- an input stream with these bytes, none of them taken
abbrev pub fresh_view : List ℕ → PartView
fresh_view bytes = record { stage = Fresh; name = None; left = Some bytes; faults = 0 }

-- an input stream with known contents keeps them known
abbrev pub KeepsTelling : PartView → PartView → Type 0
KeepsTelling old new = IsSome old.left → IsSome new.left
