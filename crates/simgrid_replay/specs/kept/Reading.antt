-- What the steps of a call do to the parts and the contexts, in the order in which they are judged.
use Rattle.std.specs.Prelude.{◌≡◌, ◌≢◌, ◌<◌, ◌≤◌, ◌+◌, ℕ, Bool, false, MatchBool, List, All, length, ⊤, Option, None, Result, IsErr, IsOk, IfErr, IsTrue}
use Rattle.sg_base.specs.Mind.{Mind}
use Rattle.sg_base.specs.declared.status.Status.{Status}
use Rattle.sg_base.specs.declared.status.Status.TheVariants as status
use Rattle.sg_edge.specs.Cause.{HasCause}
use Rattle.sg_edge.specs.Files.{PartView, KeepsTelling, Only, SomeBroke}
use Rattle.sg_edge.specs.Sources.{Source, Gives}
use Rattle.sg_edge.specs.declared.files.Part.{Part}
use Rattle.sg_edge.specs.declared.files.Part.TheVariants as part
use Rattle.sg_edge.specs.declared.files.Stage.TheVariants.{Fresh, Broken}
use Rattle.sg_edge.specs.declared.sinks.Stream.{Stream}
use Rattle.sg_engine.specs.RunContract.{IsReadOnDemand}
use Rattle.sg_words.specs.CommandLine.{Asked, Request}
use Rattle.simgrid_replay.specs.PartOrder.{IsTextBroken, StopsOnDemand}
use Rattle.simgrid_replay.specs.PartSources.{IsNamedBy, TextsGive}
use Rattle.simgrid_replay.specs.Contexts.{TakesFirst, TakesFront}
use Rattle.simgrid_replay.specs.Outcome.{Outcome, Prints, cuts_output_short, is_refusal}
use Rattle.simgrid_replay.specs.Settings.{platform_given, setting}
use Rattle.simgrid_replay.specs.Requests.{has_script}
use Rattle.simgrid_replay.specs.declared.refusal.Refusal.{Refusal}
use Rattle.simgrid_replay.specs.declared.refusal.Refusal.TheVariants as refusal
use Rattle.sg_engine.specs.declared.setup.Setup.{Setup}

-- Nothing was done yet: no part is begun, all contexts are blank, and no write has failed.
pub record IsStart {A : Type 0} (shows : Part → PartView) (mind : A → Option Mind) (crew : List A) (faults : ℕ) : Type 0 where
  pub fresh : (which : Part) → (shows which).stage ≡ Fresh
  pub blank : All (λ context. mind context ≡ None) crew
  pub sound : faults ≡ 0

-- why a call ended by a failed write, or by a failed read of what broke
abbrev pub IsCallCause : Status → ℕ → ℕ → Type 0 → Type 0
IsCallCause how had faults broke = HasCause (how ≡ status.WriteFault) (how ≡ status.ReadFault) had faults broke

-- of so many contexts in the pool so many remain: the call took as many as its outcome takes, or was cut off and took
-- no more
abbrev pub LeavesContexts : ℕ → Status → ℕ → ℕ → Type 0
LeavesContexts want how crew left = MatchBool (cuts_output_short how) (crew ≤ left + want) (crew ≡ left + want)

-- The result of a call: it printed its outcome for this script, with no more visits than its work, so many contexts left
-- in the pool, and the script read on demand.
pub record ComesTo (want : Source → Outcome) (script : Source) (how : Status) (old new : Stream → Option (List ℕ)) (crew left start count : ℕ) (before after : Part → PartView) : Type 0 where
  pub prints : Prints (want script) how old new
  pub counts : count ≤ start + (want script).work
  pub contexts : LeavesContexts (want script).contexts how crew left
  pub needed : IsReadOnDemand (want script).need before after
  pub last : StopsOnDemand (λ other. (want other).need) (before part.Script) (after part.Script)

-- this part is broken, and its count rose
abbrev pub Broke : Part → (Part → PartView) → (Part → PartView) → Type 0
Broke part old new = ((new part).stage ≡ Broken) × ((old part).faults < (new part).faults)

-- a refusal of the platform, or a failed read of it
abbrev pub IsOfPlatform : Refusal → Type 0
IsOfPlatform (refusal.Platform fault) = ⊤
IsOfPlatform (refusal.Zones fault) = ⊤
IsOfPlatform refusal.ReadPlatform = ⊤
IsOfPlatform other = ⊥

-- a failed read, reported for its part
abbrev pub IsReadFault : Refusal → Type 0
IsReadFault refusal.ReadPlatform = ⊤
IsReadFault refusal.ReadDeployment = ⊤
IsReadFault other = ⊥

-- neither of these: a refusal of the deployment, or out of memory
abbrev pub IsOfDeployment : Refusal → Type 0
IsOfDeployment why = (¬ IsOfPlatform why) × (¬ IsReadFault why)

-- What is known of the parts, before the script is begun, whether their contents are known or not.
pub record AreRead (result : Result Setup Refusal) (old new : Part → PartView) : Type 0 where
  pub unbegun : new part.Script ≡ old part.Script
  pub platform_first : (new part.Platform).stage ≡ Broken → new part.Deployment ≡ old part.Deployment
  pub platform_refused : IfErr result (λ why. IsOfPlatform why → new part.Deployment ≡ old part.Deployment)
  pub platform_whole : IsOk result → (new part.Platform).stage ≢ Broken
  pub deployment_whole : IsOk result → (new part.Deployment).stage ≢ Broken
  pub cause : IfErr result (λ why. IsReadFault why → SomeBroke old new)

-- If what the platform gave is refused, no deployment is begun after it, and what is read from parts has no setup.
pub record PlatformDecides (parts : Bool) (result : Result Setup Refusal) (old new : Part → PartView) : Type 0 where
  pub refused : (p : Source) → Gives (old part.Platform) (new part.Platform) p → IsErr (platform_given p) → IsOk result → parts ≡ false
  pub behind : (p : Source) → Gives (old part.Platform) (new part.Platform) p → IsErr (platform_given p) → new part.Deployment ≡ old part.Deployment

-- Of all parts the script alone was begun and read, and without a script none; it was begun under its name, and if its
-- contents were known they still are.
pub record BeginsScript {F : Type 0} (shows : F → Part → PartView) (request : Request) (old new : F) : Type 0 where
  pub others : Only part.Script (shows old) (shows new)
  pub unscripted : has_script request ≡ false → new ≡ old
  pub named : IsNamedBy request part.Script (shows new part.Script)
  pub telling : KeepsTelling (shows old part.Script) (shows new part.Script)

-- What a job's call has done to the contexts: its run has taken the first of them; if it is refused, or an input stream
-- before the run is broken, no actor has one.
pub record SeatsJob {A : Type 0} (job : Asked) (how : Status) (old new : Part → PartView) (had has : List A) : Type 0 where
  pub first : (p d : Source) → TextsGive job.request old new p d → TakesFirst (setting job.request (length had) p d) how had has
  pub refused : IsTrue (is_refusal how) → has ≡ had
  pub broken : IsTextBroken new → has ≡ had
  pub front : TakesFront had has
