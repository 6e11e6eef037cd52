-- What an input stream in memory shows by its fields, and what of them its calls leave.
use Rattle.std.specs.Prelude.{◌≡◌, ◌<◌, ◌+◌, ◌^◌, ◌-◌, ℕ, List, [], drop, length, min, Option, Some, None, option_map, unwrap_or, is_some, Bool, true, bytes_eq, if◌then◌else◌, string_bytes}
use Rattle.std.specs.Option.{option_map_or}
use Rattle.std.proofs.Common.{arith, refl}
use Rattle.std.proofs.lemmas.List.{drop_all}
use Rattle.sg_edge.specs.declared.files.Stage.{Stage}
use Rattle.sg_edge.specs.declared.files.Stage.TheVariants.{Fresh, Begun, Over, Broken}
use Rattle.sg_edge.specs.declared.mem_part.MemPart.{MemPart}
use Rattle.sg_edge.specs.Files.{PartView, fault_count}

-- how many calls of an input stream there can have been that took no byte: its begin, and the last
-- call of all
abbrev pub stage_steps : Stage → ℕ
stage_steps Fresh = 0
stage_steps Begun = 1
stage_steps Over = 2
stage_steps Broken = 2

-- how many calls of it there can have been at most
abbrev pub part_steps : MemPart → ℕ
part_steps p = p.taken + stage_steps p.stage

-- the name of an input stream that was given one
abbrev pub part_name : MemPart → Option (List ℕ)
part_name p = option_map (λ name. string_bytes name) p.name

-- the input stream can be begun under this name: under any, if it has none of its own
abbrev pub takes_name : Option (List ℕ) → List ℕ → Bool
takes_name own name = option_map_or (λ held. bytes_eq held name) own true

-- the name of an input stream that was begun, since it is begun under no other, if it has one
abbrev pub name_begun : MemPart → Option (List ℕ)
name_begun p = if p.begun then part_name p else None

-- the bytes that were not taken
abbrev pub part_left : MemPart → List ℕ
part_left p = drop p.taken p.bytes.items

abbrev pub part_view : MemPart → PartView
part_view p = record {
  stage = p.stage;
  name = name_begun p;
  left = Some (part_left p);
  faults = fault_count p.stage;
}

-- how many bytes a read takes into a buffer of so many, if it doesn't fail
abbrev pub part_read : MemPart → ℕ → ℕ
part_read p room = min (min room p.piece) (length (part_left p))

-- any count that a read can give
abbrev pub greatest_count : ℕ
greatest_count = 2 ^ 64 - 1

-- the input stream has these bytes, or there is none, and no name, a read gives as many as there
-- are, and nothing was done to it
pub record IsFreshPart (bytes : Option (List ℕ)) (p : MemPart) : Type 0 where
  pub bytes_are : p.bytes.items ≡ unwrap_or bytes []
  pub there : p.there ≡ is_some bytes
  pub unnamed : p.name ≡ None
  pub piece_is : p.piece ≡ greatest_count
  pub taken : p.taken ≡ 0
  pub stage : p.stage ≡ Fresh

-- what no call of an input stream changes
pub record KeepsPart (old new : MemPart) : Type 0 where
  pub there : new.there ≡ old.there
  pub name_is : new.name ≡ old.name
  pub piece_is : new.piece ≡ old.piece

-- the input stream is there under any name, and a read gives as many bytes as there are
pub record IsSurePart (p : MemPart) : Type 0 where
  pub there : p.there ≡ true
  pub unnamed : p.name ≡ None
  pub piece_is : p.piece ≡ greatest_count

-- no bytes remain of an input stream that is `Over`
pub part_over : (p : MemPart) → p.stage ≡ Over → part_left p ≡ []
part_over p over = drop_all p.taken p.bytes.items (omega (arith, p.ended over))

-- one that isn't begun has no name
pub part_unnamed : (p : MemPart) → p.stage ≡ Fresh → name_begun p ≡ None
part_unnamed p fresh = rw (p.unbegun fresh) refl

-- a read may follow: it is open, and so many bytes, at least one, have room
pub record CanRead (part : MemPart) (room : ℕ) : Type 0 where
  pub begun : part.stage ≡ Begun
  pub some : 0 < room
