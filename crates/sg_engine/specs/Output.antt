-- What a run writes, and how it ends.
use Rattle.std.specs.Prelude.{ℕ, ◌-◌, ◌/◌, ◌%◌, ◌^◌, ◌&&◌, ◌++◌, unwrap_or, Bool, Option, Some, option_map, if◌then◌else◌, List, [], ◌∷◌, length, filter_map, slice_index_or, codes}
use Rattle.std.specs.List.{enumerate_from, flat_map}
use Rattle.sg_base.specs.declared.trace_record.Record.{Record}
use Rattle.sg_edge.specs.Sources.{Source}
use Rattle.sg_actor_states.specs.declared.state.Actor.{Actor}
use Rattle.sg_kernel.specs.Start.{capacities_in}
use Rattle.sg_kernel_calls.specs.Setup.{setup_of}
use Rattle.sg_kernel_calls.specs.World.{Core}
use Rattle.sg_actor_states.specs.Actors.{blocked_of, is_alive}
use Rattle.sg_platform_rows.specs.Platform.{Platform}
use Rattle.sg_platform_rows.specs.Deployment.{Deployed, started_number}
use Rattle.sg_platform_rows.specs.declared.rows.HostRow.{HostRow}
use Rattle.sg_route.specs.Roads.{roads_of}
use Rattle.sg_script.specs.Answer.{answer_of}
use Rattle.sg_script.specs.Known.{known_in}
use Rattle.sg_script.specs.Needed.{needed_by}
use Rattle.sg_engine.specs.FaultLines.{script_line, no_route_line, too_long_line}
use Rattle.sg_trace.specs.Ending.{ending_of}
use Rattle.sg_trace.specs.Line.{line_of}
use Rattle.sg_trace.specs.declared.last.Last.{Last}
use Rattle.sg_trace.specs.declared.last.Last.TheVariants as last
use Rattle.sg_engine.specs.declared.ended.Ended.{Ended}
use Rattle.sg_engine.specs.declared.ended.Ended.TheVariants as ended
use Rattle.sg_engine.specs.declared.show.Show.{Show}
use Rattle.sg_engine.specs.declared.show.Show.TheVariants as show
use Rattle.sg_engine.specs.Roles.{first_minds, firsts_of}
use Rattle.sg_engine.specs.Run.{Scene, scene, Progress, first_world, run_of}
use Rattle.sg_engine.specs.World.{World}

-- What a run is of: of a platform its hosts, links, network and profiles come with its setup, and its zones and routes with its roads.
abbrev pub scene_of : Platform → Deployed → Bool → ℕ → Scene
scene_of platform deployed script budget = scene (roads_of platform) (setup_of platform deployed budget) (firsts_of deployed) script

-- the world in which it begins, with so many contexts in the pool, of which each actor that starts takes one
abbrev pub first_of : Platform → Deployed → ℕ → ℕ → World
first_of platform deployed budget crew = first_world (first_minds deployed) (crew - started_number deployed) (capacities_in platform) (setup_of platform deployed budget)

-- a trace line for each record, if all is shown
abbrev pub trace_of : Show → Platform → Deployed → List Record → List ℕ
trace_of show.All platform deployed records = flat_map (λ r. line_of r platform deployed) records
trace_of other platform deployed records = []

-- how many actors and events there were, if that is shown
abbrev pub summary : Show → ℕ → ℕ → List Last
summary show.Summary actors events = last.Summary actors events ∷ []
summary other actors events = []

-- what is reported of an actor that can't continue: that it is suspended, or else on what it is blocked
abbrev pub stuck_last : ℕ → Actor → Option Last
stuck_last id actor =
    if actor.suspended && is_alive actor.state then Some (last.Suspended (record { 0 = id }))
    else option_map (λ what. last.Blocked (record { 0 = id }) what) (blocked_of actor.state)

-- the actors that can't continue, in rising id
abbrev pub stuck : List Actor → List Last
stuck actors = filter_map (λ p. stuck_last p.0 p.1) (enumerate_from 1 actors)

-- the energy that a host with power has used: whole joules, and the rest in 10^-12 J
abbrev pub energy_last : ℕ → HostRow → ℕ → Option Last
energy_last host row energy = option_map (λ power. last.Energy (record { 0 = host }) (energy / 10 ^ 12) (energy % 10 ^ 12)) row.power

-- the energies of the hosts with power, in declared order
abbrev pub energies_used : List ℕ → List HostRow → List Last
energies_used energies rows = filter_map (λ p. energy_last p.0 p.1 (slice_index_or energies p.0 0)) (enumerate_from 0 rows)

-- what is reported of the end of a run: how it has ended, by lines on Out, or which fault has ended it, by a line on Err;
-- nothing if it was cut off
pub data Report : Type 0 where
  lasts : List Last → Report
  fault : List ℕ → Report
  nothing : Report

-- what is reported of a run of so many actors that ended so, by its state then
abbrev pub report_of : Show → Platform → ℕ → ℕ → Core → Ended → Report
report_of show platform actors budget core ended.Completed = lasts (summary show actors core.events ++ last.Time core.under.date ∷ [])
report_of show platform actors budget core ended.Deadlock = lasts (last.Deadlock core.under.date ∷ stuck core.actors)
report_of show platform actors budget core ended.Starved = lasts (last.Starved core.under.date ∷ stuck core.actors)
report_of show platform actors budget core ended.Budget = lasts (last.Budget budget core.under.date ∷ [])
report_of show platform actors budget core (ended.NoRoute from to zone a b) = fault (no_route_line platform from to zone a b)
report_of show platform actors budget core (ended.TooLong from to) = fault (too_long_line platform from to)
report_of show platform actors budget core (ended.Script number kind) = fault (script_line number kind)
report_of show platform actors budget core ended.ReadFault = fault (codes "cannot read the script\n")
report_of show platform actors budget core other = nothing

-- what stands on Out after the trace lines, a line each: how the run has ended, and then the energies; nothing if a
-- fault has ended it
abbrev pub last_lines : Platform → Deployed → Core → Report → List ℕ
last_lines platform deployed core (lasts told) = flat_map (λ what. ending_of what platform deployed) (told ++ energies_used core.under.energy platform.hosts)
last_lines platform deployed core other = []

-- what stands on Err
abbrev pub fault_line : Report → List ℕ
fault_line (fault line) = line
fault_line other = []

-- What a run writes, how it ends, how many contexts its actors take, how many visits to uses its time advances may
-- make, and how many bytes of its script its fetches need.
pub record Output : Type 0 where
  pub out : List ℕ
  pub err : List ℕ
  pub ended : Ended
  pub contexts : ℕ
  pub work : ℕ
  pub need : ℕ

-- how a run ended (each run has an end)
abbrev pub end_of : Progress → Ended
end_of progress = unwrap_or progress.ended ended.Budget

-- what is reported of the end of a run
abbrev pub report_at : Show → Platform → Deployed → ℕ → Progress → Report
report_at show platform deployed budget progress = report_of show platform (length deployed.actors) budget progress.world.core (end_of progress)

-- what a run writes and uses, by the world and the records at its end
abbrev pub written_of : Show → Platform → Deployed → ℕ → ℕ → Source → Progress → Output
written_of show platform deployed budget crew source progress = record {
  out = trace_of show platform deployed progress.made ++ last_lines platform deployed progress.world.core (report_at show platform deployed budget progress);
  err = fault_line (report_at show platform deployed budget progress);
  ended = end_of progress;
  contexts = crew - progress.world.contexts;
  work = progress.world.work;
  need = needed_by (known_in deployed) source progress.world.fetched;
}

-- what a run writes and how it ends, with so many contexts in the pool, with or without a script, by what that gives
abbrev pub run_output : Platform → Deployed → Bool → ℕ → ℕ → Show → Source → Output
run_output platform deployed script budget crew show source =
    written_of show platform deployed budget crew source (run_of (scene_of platform deployed script budget) (first_of platform deployed budget crew) (answer_of (known_in deployed) source))
