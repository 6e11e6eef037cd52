-- The lists of the definition from any place on, and the report of the end by its parts, for loops and branches.
use Rattle.std.specs.Prelude.{ℕ, ◌+◌, ◌++◌, ⊤, IfSome, Option, None, Some, if◌then◌else◌, List, [], ◌∷◌, map, slice_index_or}
use Rattle.std.specs.List.{enumerate_from}
use Rattle.std.specs.Option.{option_map_or}
use Rattle.sg_base.specs.Mind.{Mind}
use Rattle.sg_kernel_calls.specs.World.{Core}
use Rattle.sg_platform_rows.specs.Deployment.{Deployed}
use Rattle.sg_platform_rows.specs.Platform.{Platform}
use Rattle.sg_platform_rows.specs.declared.rows.ActorRow.{ActorRow}
use Rattle.sg_platform_rows.specs.declared.rows.HostRow.{HostRow}
use Rattle.sg_actor_states.specs.declared.state.Actor.{Actor}
use Rattle.sg_trace.specs.Ending.{IsLastOf, ending_of}
use Rattle.sg_trace.specs.declared.last.Last.{Last}
use Rattle.sg_engine.specs.Output.{Report as Told, lasts, fault, nothing, energy_last, stuck, stuck_last}
use Rattle.sg_engine.specs.Roles.{mind_at}
use Rattle.sg_engine.specs.declared.report.Lasts.{Lasts}
use Rattle.sg_engine.specs.declared.report.Report.{Report}
use Rattle.sg_engine.specs.declared.report.Report.TheVariants as report

-- what an actor has in mind at first: nothing yet if it doesn't start
abbrev pub first_mind : ℕ → ActorRow → Option Mind
first_mind me row = if row.start then Some (mind_at me row) else None

-- what the actors of these rows have in mind at first, if the first row is this actor's
abbrev pub minds_from : ℕ → List ActorRow → List (Option Mind)
minds_from me rows = map (λ p. first_mind p.0 p.1) (enumerate_from me rows)

-- the minds with which they begin, whenever they begin
abbrev pub firsts_from : ℕ → List ActorRow → List Mind
firsts_from me rows = map (λ p. mind_at p.0 p.1) (enumerate_from me rows)

-- the text of a line, if there is one
abbrev pub line_if : Platform → Deployed → Option Last → List ℕ
line_if platform deployed told = option_map_or (λ what. ending_of what platform deployed) told []

-- a line for each actor that is suspended or blocked, in rising id from this one on
abbrev pub stuck_lines : Platform → Deployed → ℕ → List Actor → List ℕ
stuck_lines platform deployed id [] = []
stuck_lines platform deployed id (actor ∷ more) = line_if platform deployed (stuck_last id actor) ++ stuck_lines platform deployed (id + 1) more

-- a line for each host with power, in declared order from this one on
abbrev pub energy_lines : Platform → Deployed → List ℕ → ℕ → List HostRow → List ℕ
energy_lines platform deployed energies host [] = []
energy_lines platform deployed energies host (row ∷ rows) =
    line_if platform deployed (energy_last host row (slice_index_or energies host 0)) ++ energy_lines platform deployed energies (host + 1) rows

-- the energy that each host with power has used at the end of the run, a line each
abbrev pub all_energy : Platform → Deployed → Core → List ℕ
all_energy platform deployed core = energy_lines platform deployed core.under.energy 0 platform.hosts

-- ---- what is reported of the end
-- a line, if there is one
abbrev pub listed : Option Last → List Last
listed None = []
listed (Some what) = what ∷ []

-- these lasts: perhaps one ahead, and perhaps the actors that can't continue
abbrev pub lasts_of : Core → Lasts → List Last
lasts_of core told = listed told.ahead ++ told.last ∷ (if told.stuck then stuck core.actors else [])

-- what such a report says of a run that ended with this core
abbrev pub report_as : Core → Report → Told
report_as core (report.Lasts told) = lasts (lasts_of core told)
report_as core (report.Fault line) = fault line.bytes
report_as core report.Nothing = nothing

-- the lines of how the run has ended
abbrev pub how_lines : Platform → Deployed → Core → Lasts → List ℕ
how_lines platform deployed core told =
    line_if platform deployed told.ahead ++ (ending_of told.last platform deployed ++ (if told.stuck then stuck_lines platform deployed 1 core.actors else []))

-- its lines can be written
abbrev pub AreLastsOf : Platform → Deployed → Lasts → Type 0
AreLastsOf platform deployed told = IfSome told.ahead (IsLastOf platform deployed) × IsLastOf platform deployed told.last

abbrev pub IsReportOf : Platform → Deployed → Report → Type 0
IsReportOf platform deployed (report.Lasts told) = AreLastsOf platform deployed told
IsReportOf platform deployed other = ⊤
