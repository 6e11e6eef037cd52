-- What the real parts show: no bytes, and one fault if a call failed.
use Rattle.std.specs.Prelude.{◌≡◌, ℕ, List, Bool, true, false, None, codes, refl}
use Rattle.std.specs.Str.{bytes_eq}
use Rattle.sg_edge.specs.declared.files.Part.{Part}
use Rattle.sg_edge.specs.declared.files.Part.TheVariants.{Platform, Deployment, Script}
use Rattle.sg_edge.specs.declared.files.Stage.TheVariants.{Fresh, Over}
use Rattle.sg_edge.specs.Files.{PartView, NoneLeft}
use Rattle.sg_edge.specs.Files.{fault_count}
use Rattle.simgrid_replay.specs.declared.real_files.RealPart.{RealPart}
use Rattle.simgrid_replay.specs.declared.real_files.RealFiles.{RealFiles}
use Rattle.simgrid_replay.specs.declared.real_files.Origin.{Origin}
use Rattle.simgrid_replay.specs.declared.real_files.Origin.TheVariants.{Closed, Opened, Input}

-- a part of this name is standard input: the script alone, under the name `-`
abbrev pub is_input : Part → List ℕ → Bool
is_input Platform name = false
is_input Deployment name = false
is_input Script name = bytes_eq name (codes "-")

abbrev pub comes_from_input : Origin → Bool
comes_from_input Closed = false
comes_from_input (Opened file) = false
comes_from_input Input = true

abbrev pub real_view : RealPart → PartView
real_view p = record { stage = p.stage; name = None; left = None; faults = fault_count p.stage }

abbrev pub real_files : RealFiles → Part → PartView
real_files m Platform = real_view m.platform
real_files m Deployment = real_view m.deployment
real_files m Script = real_view m.script

pub real_over : (files : RealFiles) (part : Part) → (real_files files part).stage ≡ Over → NoneLeft (real_files files part).left
real_over files Platform over = tt
real_over files Deployment over = tt
real_over files Script over = tt

pub real_unnamed : (files : RealFiles) (part : Part) → (real_files files part).stage ≡ Fresh → (real_files files part).name ≡ None
real_unnamed files Platform fresh = refl
real_unnamed files Deployment fresh = refl
real_unnamed files Script fresh = refl
