-- What the words ask for, and what the parts gave.
use Rattle.std.specs.Prelude.{◌≡◌, ℕ, List, [], Option, Some, None, IsTrue, IfSome}
use Rattle.sg_edge.specs.Files.{PartView}
use Rattle.sg_edge.specs.Sources.{Source, Gives}
use Rattle.sg_edge.specs.declared.files.Part.{Part}
use Rattle.sg_edge.specs.declared.files.Part.TheVariants as part
use Rattle.sg_words.specs.CommandLine.{Asked, Request, replay, run, asked_of, refusals}
use Rattle.sg_words.specs.Views.{Text, command_view}
use Rattle.sg_words.specs.declared.job.Job.{Job}
use Rattle.simgrid_replay.specs.Requests.{has_parts, has_script}

-- the words are accepted, and ask for this job
pub record AskFor (words : List Text) (asked : Asked) : Type 0 where
  pub accepted : refusals words ≡ []
  pub job : asked_of words ≡ Some asked

-- what a job requests
abbrev pub request_of : Job → Request
request_of job = command_view job.command

-- this is what the platform and the deployment gave, if the request has them
pub record TextsGive (request : Request) (old new : Part → PartView) (p d : Source) : Type 0 where
  pub platform : IsTrue (has_parts request) → Gives (old part.Platform) (new part.Platform) p
  pub deployment : IsTrue (has_parts request) → Gives (old part.Deployment) (new part.Deployment) d

-- this is what the script gave, if the request has one
abbrev pub ScriptGives : Request → (Part → PartView) → (Part → PartView) → Source → Type 0
ScriptGives request old new s = IsTrue (has_script request) → Gives (old part.Script) (new part.Script) s

-- this is what the three parts gave, as far as the request has them
pub record PartsGive (request : Request) (old new : Part → PartView) (p d s : Source) : Type 0 where
  pub texts : TextsGive request old new p d
  pub script : ScriptGives request old new s

-- a fact for the job that the words ask for, and whatever its parts may have given
abbrev pub ForJob : List Text → (Part → PartView) → (Part → PartView) → (Asked → Source → Source → Source → Type 0) → Type 0
ForJob words old new P = (job : Asked) → AskFor words job → (p d s : Source) → PartsGive job.request old new p d s → P job p d s

-- the name that the words have for a part, if they have one
abbrev pub source_name : Request → Part → Option (List ℕ)
source_name (replay p d s) part.Platform = Some p
source_name (replay p d s) part.Deployment = Some d
source_name (replay p d s) part.Script = Some s
source_name (run p d) part.Platform = Some p
source_name (run p d) part.Deployment = Some d
source_name request part = None

-- if the name under which the part was begun is known, it is the one that the words have for it
abbrev pub IsNamedBy : Request → Part → PartView → Type 0
IsNamedBy request part view = IfSome (source_name request part) (λ name. IfSome view.name (λ told. told ≡ name))
