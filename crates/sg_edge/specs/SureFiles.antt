-- What input streams that never fail show. They can be begun under any name and keep none.
use Rattle.std.specs.Prelude.{◌≡◌, ℕ, List, None, Some, refl}
use Rattle.sg_edge.specs.declared.files.Part.{Part}
use Rattle.sg_edge.specs.declared.files.Part.TheVariants.{Platform, Deployment, Script}
use Rattle.sg_edge.specs.declared.files.Stage.TheVariants.{Fresh, Over}
use Rattle.sg_edge.specs.declared.mem_part.MemPart.{MemPart}
use Rattle.sg_edge.specs.declared.sure_files.SureFiles.{SureFiles}
use Rattle.sg_edge.specs.Files.{PartView, NoneLeft}
use Rattle.sg_edge.specs.kept.Parts.{part_left, part_over}

abbrev pub sure_part : SureFiles → Part → MemPart
sure_part m Platform = m.platform
sure_part m Deployment = m.deployment
sure_part m Script = m.script

-- the bytes that were not taken
abbrev pub sure_left : SureFiles → Part → List ℕ
sure_left m part = part_left (sure_part m part)

abbrev pub sure_view : SureFiles → Part → PartView
sure_view m part = record {
  stage = (sure_part m part).stage;
  name = None;
  left = Some (sure_left m part);
  faults = 0;
}

-- no bytes remain of an input stream that is `Over`
pub sure_over : (files : SureFiles) (part : Part)
    → (sure_view files part).stage ≡ Over → NoneLeft (sure_view files part).left
sure_over files part over = part_over (sure_part files part) over

-- no input stream has a name
pub sure_unnamed : (files : SureFiles) (part : Part)
    → (sure_view files part).stage ≡ Fresh → (sure_view files part).name ≡ None
sure_unnamed files part fresh = refl
