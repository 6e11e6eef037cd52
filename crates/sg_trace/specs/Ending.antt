-- The lines that report how the run ended.
use Rattle.std.specs.Prelude.{⊤, ℕ, ◌<◌, ◌^◌, List, ◌++◌, decimal, codes, length, None}
use Rattle.sg_base.specs.Limits.{IsActorIn, IsCall}
use Rattle.sg_base.specs.Lines.{HasLine}
use Rattle.sg_platform_rows.specs.Deployment.{Deployed, extent_of}
use Rattle.sg_platform_rows.specs.Platform.{Platform}
use Rattle.sg_units.specs.Date.{date_of}
use Rattle.sg_trace.specs.declared.last.Last.{Last}
use Rattle.sg_trace.specs.declared.last.Last.TheVariants.{Time, Deadlock, Starved, Budget, Blocked, Suspended, Summary, Energy}
use Rattle.sg_trace.specs.Call.{call_text}
use Rattle.sg_trace.specs.Energy.{energy_of}
use Rattle.sg_trace.specs.Line.{IsDate}
use Rattle.sg_trace.specs.Names.{actor_label, host_name}

-- what a line reports, without its newline
abbrev pub last_text : Last → Platform → Deployed → List ℕ
last_text (Time date) platform deployed = codes "Simulation time " ++ date_of date
last_text (Deadlock date) platform deployed = codes "deadlock at " ++ date_of date
last_text (Starved date) platform deployed = codes "starved at " ++ date_of date
last_text (Budget events date) platform deployed = codes "budget of " ++ decimal events ++ codes " events used at " ++ date_of date
last_text (Blocked actor call) platform deployed =
    codes "blocked [" ++ actor_label platform deployed actor ++ codes "] " ++ call_text deployed None call
last_text (Suspended actor) platform deployed = codes "suspended [" ++ actor_label platform deployed actor ++ codes "]"
last_text (Summary actors events) platform deployed = decimal actors ++ codes " actors, " ++ decimal events ++ codes " events"
last_text (Energy host joules rest) platform deployed = codes "energy " ++ host_name platform host ++ codes " " ++ energy_of joules rest

-- a line that reports the end of a run, with its newline
abbrev pub ending_of : Last → Platform → Deployed → List ℕ
ending_of last platform deployed = last_text last platform deployed ++ codes "\n"

-- what a line reports is of this platform and this deployment, its date is one, and the rest of its energy is below a
-- joule
abbrev pub IsLastOf : Platform → Deployed → Last → Type 0
IsLastOf platform deployed (Time date) = IsDate date
IsLastOf platform deployed (Deadlock date) = IsDate date
IsLastOf platform deployed (Starved date) = IsDate date
IsLastOf platform deployed (Budget events date) = IsDate date
IsLastOf platform deployed (Blocked actor call) = IsActorIn (extent_of deployed) actor × HasLine call × IsCall (extent_of deployed) call
IsLastOf platform deployed (Suspended actor) = IsActorIn (extent_of deployed) actor
IsLastOf platform deployed (Summary actors events) = ⊤
IsLastOf platform deployed (Energy host joules rest) = (host.0 < length platform.hosts) × (rest < 10 ^ 12)
