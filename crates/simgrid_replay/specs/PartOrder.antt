-- What a call does to the parts: how far they are read, and which are not begun.
use Rattle.std.specs.Prelude.{◌≡◌, ◌≢◌, ◌+◌, ◌⊎◌, ℕ, false, IsErr, List, []}
use Rattle.sg_base.specs.declared.status.Status.{Status}
use Rattle.sg_base.specs.declared.status.Status.TheVariants as status
use Rattle.sg_platform.specs.PlatformOf.{greatest_text}
use Rattle.sg_edge.specs.Files.{before, KeepsTelling, Only, PartView, TakesUpTo}
use Rattle.sg_edge.specs.Sources.{Source, Gives}
use Rattle.sg_edge.specs.declared.files.Part.{Part}
use Rattle.sg_edge.specs.declared.files.Part.TheVariants as part
use Rattle.sg_edge.specs.declared.files.Stage.TheVariants.{Broken, Over}
use Rattle.sg_engine.specs.RunContract.{AreEnough}
use Rattle.sg_words.specs.CommandLine.{Request}
use Rattle.simgrid_replay.specs.PartSources.{IsNamedBy, TextsGive}
use Rattle.simgrid_replay.specs.Requests.{has_parts, has_script}
use Rattle.simgrid_replay.specs.Settings.{platform_given, setting}

-- If the bytes that were taken are enough, whatever follows them, no read met the end, and none failed: what is broken
-- then couldn't be begun, and nothing of it was taken.
pub record StopsOnDemand (need : Source → ℕ) (old new : PartView) : Type 0 where
  pub taken : List ℕ
  pub left : old.left ≡ before taken new.left
  pub unended : AreEnough need taken → new.stage ≢ Over
  pub unbroken : AreEnough need taken → new.stage ≡ Broken → taken ≡ []

-- No part is begun after one that can't be read or is refused, and no script if the request has none.
pub record AreInOrder (request : Request) (contexts : ℕ) (old new : Part → PartView) : Type 0 where
  pub platform_first : (new part.Platform).stage ≡ Broken → Only part.Platform old new
  pub deployment_first : (new part.Deployment).stage ≡ Broken → new part.Script ≡ old part.Script
  pub platform_refused : (p : Source) → Gives (old part.Platform) (new part.Platform) p → IsErr (platform_given p) → Only part.Platform old new
  pub refused_first : (p d : Source) → TextsGive request old new p d → IsErr (setting request contexts p d) → new part.Script ≡ old part.Script
  pub unscripted : has_script request ≡ false → new part.Script ≡ old part.Script

-- of a platform and of a deployment one byte more than the greatest has is taken at most
abbrev pub AreBounded : (Part → PartView) → (Part → PartView) → Type 0
AreBounded old new = (which : Part) → which ≢ part.Script → TakesUpTo (greatest_text + 1) (old which) (new which)

-- What a call has done to the input streams: each is begun under its name and is bounded, one with known contents keeps
-- them known, and nothing is read if the request has no input.
pub record TakesParts {F : Type 0} (shows : F → Part → PartView) (request : Request) (contexts : ℕ) (old new : F) : Type 0 where
  pub named : (which : Part) → IsNamedBy request which (shows new which)
  pub bounded : AreBounded (shows old) (shows new)
  pub order : AreInOrder request contexts (shows old) (shows new)
  pub telling : (which : Part) → KeepsTelling (shows old which) (shows new which)
  pub unread : has_parts request ≡ false → new ≡ old

-- the platform or the deployment couldn't be begun or read
abbrev pub IsTextBroken : (Part → PartView) → Type 0
IsTextBroken view = ((view part.Platform).stage ≡ Broken) ⊎ ((view part.Deployment).stage ≡ Broken)

-- nothing was done after the platform or the deployment if the status is that of its refusal
pub record SparesRest (how : Status) (old new : Part → PartView) : Type 0 where
  pub platform : how ≡ status.Platform → Only part.Platform old new
  pub deployment : how ≡ status.Deployment → new part.Script ≡ old part.Script
