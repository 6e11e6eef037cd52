-- Files of which the script's part is read.
use Rattle.std.proofs.Common.{◌∙◌, refl, Bool}
use Rattle.sg_edge.specs.declared.files.Part.{Part}
use Rattle.sg_edge.specs.Files.{PartView}
use Rattle.sg_engine.specs.kept.Moments.{ReadsScript}

-- nothing was read
pub script_unread : {F : Type 0} (shows : F → Part → PartView) (script : Bool) (files : F) → ReadsScript shows script files files
script_unread shows script files = record { others = λ q away. refl; unscripted = λ isnt. refl }

-- it was read, and then again
pub script_then : {F : Type 0} (shows : F → Part → PartView) (script : Bool) (old mid new : F) → ReadsScript shows script old mid → ReadsScript shows script mid new → ReadsScript shows script old new
script_then shows script old mid new first then = record {
  others = λ q away. then.others q away ∙ first.others q away;
  unscripted = λ isnt. then.unscripted isnt ∙ first.unscripted isnt;
}
