-- What a whole run has done, in the words of its contract.
use Rattle.std.specs.Prelude.{◌≡◌, ◌≢◌, ◌<◌, ◌≤◌, ◌+◌, ◌⊎◌, ℕ, Bool, true, false, IsTrue, MatchBool, List, [], ◌++◌, length, drop, All, Option, None}
use Rattle.sg_base.specs.Mind.{Mind}
use Rattle.sg_edge.specs.Cause.{HasCause}
use Rattle.sg_edge.specs.Files.{before, PartView, Only, KeepsTelling, TakesUpTo}
use Rattle.sg_edge.specs.declared.files.Part.{Part}
use Rattle.sg_edge.specs.declared.files.Part.TheVariants.{Script}
use Rattle.sg_edge.specs.declared.files.Stage.TheVariants.{Begun, Broken}
use Rattle.sg_edge.specs.Sources.{Source, Gives}
use Rattle.sg_edge.specs.declared.sinks.Stream.{Stream}
use Rattle.sg_edge.specs.declared.sinks.Stream.TheVariants.{Err}
use Rattle.sg_engine.specs.declared.ended.Ended.{Ended}
use Rattle.sg_engine.specs.declared.ended.Ended.TheVariants as ended
use Rattle.sg_engine.specs.declared.setup.Setup.{Setup}
use Rattle.sg_engine.specs.declared.show.Show.{Show}
use Rattle.sg_engine.specs.Gains.{GainsAll, GainsFronts}
use Rattle.sg_engine.specs.Output.{Output, run_output}
use Rattle.sg_platform_rows.specs.Deployment.{Deployed, started_number}

-- a failed write or running out of memory cuts the run off
abbrev pub is_cut : Ended → Bool
is_cut ended.WriteFault = true
is_cut ended.Memory = true
is_cut other = false

-- the run ended so and both texts are written, or it was cut off and prefixes of them are
abbrev pub Ends : List ℕ → List ℕ → Ended → Ended → (Stream → Option (List ℕ)) → (Stream → Option (List ℕ)) → Type 0
Ends out err want how old new = MatchBool (is_cut how) (GainsFronts out err old new) ((want ≡ how) × GainsAll out err old new)

-- the part is broken, and was before or has broken since
abbrev pub IsBroken : PartView → PartView → Type 0
IsBroken old new = (new.stage ≡ Broken) × (old.faults ≤ new.faults) × ((old.stage ≡ Broken) ⊎ (old.faults < new.faults))

-- if so many bytes are needed, less than a piece of 4,096 bytes more of the script was taken
abbrev pub IsReadOnDemand : ℕ → (Part → PartView) → (Part → PartView) → Type 0
IsReadOnDemand need old new = TakesUpTo (need + 4095) (old Script) (new Script)

-- these bytes are enough for what needs so many: it needs no more of them and what follows, whatever that is
abbrev pub AreEnough : (Source → ℕ) → List ℕ → Type 0
AreEnough need bytes = (rest : List ℕ) (broken : Bool) → need (record { bytes = bytes ++ rest; broken = broken }) ≤ length bytes

-- If the bytes that were taken are enough, no read met the end or failed. None were taken of a part that wasn't open.
pub record EndsOnDemand (need : Source → ℕ) (old new : PartView) : Type 0 where
  pub taken : List ℕ
  pub left : old.left ≡ before taken new.left
  pub shut : old.stage ≢ Begun → taken ≡ []
  pub last : AreEnough need taken → new.stage ≡ old.stage

-- of so many contexts in the pool so many remain: its run took all that it takes, or was cut off and took no more
abbrev pub TakesContexts : ℕ → Ended → ℕ → ℕ → Type 0
TakesContexts want how crew left = MatchBool (is_cut how) (crew ≤ left + want) (crew ≡ left + want)

-- What was written is what is wanted for this source, and the end, and so many contexts remain in the pool. The count
-- rose by its work at most, and the script was read on demand, even if the run was cut off: no read followed one after
-- which the fetches of the run had their answers, whatever came next.
pub record IsRun (want : Source → Output) (source : Source) (how : Ended) (old new : Stream → Option (List ℕ)) (crew left start count : ℕ) (before after : Part → PartView) : Type 0 where
  pub ends : Ends (want source).out (want source).err (want source).ended how old new
  pub contexts : TakesContexts (want source).contexts how crew left
  pub work : count ≤ start + (want source).work
  pub needed : IsReadOnDemand (want source).need before after
  pub last : EndsOnDemand (λ other. (want other).need) (before Script) (after Script)

-- a fact for each source that the script's part may have given; without a script, for any
abbrev pub ForSources : Bool → (Part → PartView) → (Part → PartView) → (Source → Type 0) → Type 0
ForSources script old new P = (source : Source) → (IsTrue script → Gives (old Script) (new Script) source) → P source

-- it is this run for each source that the script's part may have given
abbrev pub RunsAs : Bool → (Source → Output) → Ended → (Stream → Option (List ℕ)) → (Stream → Option (List ℕ)) → ℕ → ℕ → ℕ → ℕ → (Part → PartView) → (Part → PartView) → Type 0
RunsAs script want how old new crew left start count before after =
    ForSources script before after (λ source. IsRun want source how old new crew left start count before after)

-- why a run ended by a failed write or a failed read: a write has failed; the script's part is broken, and was before or
-- has broken since
abbrev pub IsRunCause : Ended → ℕ → ℕ → (Part → PartView) → (Part → PartView) → Type 0
IsRunCause how had faults old new = HasCause (how ≡ ended.WriteFault) (how ≡ ended.ReadFault) had faults (IsBroken (old Script) (new Script))

-- the pool has a blank context for each actor that starts, and maybe more
pub record HasContexts {A : Type 0} (mind : A → Option Mind) (crew : List A) (deployed : Deployed) : Type 0 where
  pub blank : All (λ context. mind context ≡ None) crew
  pub enough : started_number deployed ≤ length crew

-- Of the pool the first contexts were taken: one for each actor that starts, unless memory ran out, and one at most for
-- each actor.
pub record TakesFirst {A : Type 0} (deployed : Deployed) (how : Ended) (old new : List A) : Type 0 where
  pub taken : ℕ
  pub least : how ≢ ended.Memory → started_number deployed ≤ taken
  pub most : taken ≤ length deployed.actors
  pub within : taken ≤ length old
  pub left : new ≡ drop taken old

-- of all files only the script's part was read, and without a script none; it keeps its name, and its bytes stay known
-- if they were
pub record TakesScript {F : Type 0} (shows : F → Part → PartView) (script : Bool) (old new : F) : Type 0 where
  pub others : Only Script (shows old) (shows new)
  pub unscripted : script ≡ false → new ≡ old
  pub name : (shows new Script).name ≡ (shows old Script).name
  pub telling : KeepsTelling (shows old Script) (shows new Script)

-- How a run has ended: why a write or a read failed, that running out of memory leaves Err as it was, and that of all
-- files only the script's part was read.
pub record IsEnding {F : Type 0} (shows : F → Part → PartView) (script : Bool) (how : Ended) (before after : F) (old new : Stream → Option (List ℕ)) (had faults : ℕ) : Type 0 where
  pub cause : IsRunCause how had faults (shows before) (shows after)
  pub memory : how ≡ ended.Memory → new Err ≡ old Err
  pub reads : TakesScript shows script before after

-- a setup stands for what it stood for
pub record StandsAsBefore (old new : Setup) : Type 0 where
  pub platform : new.platform ≡ old.platform
  pub deployment : new.deployment ≡ old.deployment
  pub router : new.router ≡ old.router
  pub script : new.script ≡ old.script

-- what the run of a setup writes and how it ends, with so many contexts, by what the script's part gives
abbrev pub output_of : Setup → ℕ → ℕ → Show → Source → Output
output_of setup budget crew show source = run_output setup.platform setup.deployment setup.script budget crew show source
