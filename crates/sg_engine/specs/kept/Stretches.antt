-- Stretches of a run, and what is written of them.
use Rattle.std.specs.Prelude.{◌≡◌, ◌≤◌, ◌+◌, ℕ, MatchBool, List, [], ◌++◌, length, Option, Some}
use Rattle.sg_base.specs.declared.trace_record.Record.{Record}
use Rattle.sg_edge.specs.Files.{PartView}
use Rattle.sg_edge.specs.declared.files.Part.{Part}
use Rattle.sg_edge.specs.declared.sinks.Stream.{Stream}
use Rattle.sg_edge.specs.declared.sinks.Stream.TheVariants.{Out, Err}
use Rattle.sg_edge.specs.Sinks.{gain, GainsFront}
use Rattle.sg_edge.specs.Sources.{Source}
use Rattle.sg_kernel_calls.specs.World.{Core}
use Rattle.sg_engine.specs.World.{World}
use Rattle.sg_script.specs.Answer.{answer_of}
use Rattle.sg_script.specs.Known.{ScriptNames as Names, known_in}
use Rattle.sg_script.specs.Stands.{Reads}
use Rattle.sg_script.specs.Rest.{GoesOn}
use Rattle.sg_engine.specs.declared.ended.Ended.{Ended}
use Rattle.sg_engine.specs.declared.plan.Plan.{Plan}
use Rattle.sg_engine.specs.declared.simulation.Simulation.{Simulation}
use Rattle.sg_engine.specs.RunContract.{is_cut}
use Rattle.sg_engine.specs.Output.{Output, Report, first_of, last_lines, report_of, run_output, trace_of, scene_of}
use Rattle.sg_trace.specs.Ending.{ending_of}
use Rattle.sg_trace.specs.declared.last.Last.{Last}
use Rattle.sg_engine.specs.Pace.{Pace, first_parts, pace_of}
use Rattle.sg_engine.specs.Run.{Answering, Progress, run_of}
use Rattle.sg_engine.specs.declared.report.Lasts.{Lasts}
use Rattle.sg_engine.specs.kept.Listed.{all_energy, how_lines, stuck_lines}
use Rattle.sg_engine.specs.kept.Moments.{AreNeededBy, StaysOpen, Cast, LeavesContexts, Moment, moment, IsStretch, ending, names_of, script_in}

-- how records are written as lines
abbrev pub Trace : Type 0
Trace = List Record → List ℕ

-- a text was gained, and something after it
abbrev pub GainsBehind : List ℕ → Option (List ℕ) → Option (List ℕ) → Type 0
GainsBehind text before after = (behind : List ℕ) × (after ≡ gain before (text ++ behind))

-- A part of a run was made, and its trace lines are written. The kernel has cleared its records since.
pub record Advances (spent : ℕ) (names : Names) (trace : Trace) (whole : Answering → Progress) (how : Option Ended) (taken : List ℕ) (had : Cast) (old new : Moment) (before after : Option (List ℕ)) : Type 0 where
  pub records : List Record
  pub reached : IsStretch spent names whole (ending how) taken had old (moment new.part new.kept (record new.kernel { records = records }))
  pub printed : after ≡ gain before (trace records)

-- A part of a run was cut off with so many contexts left, and a prefix of its trace lines is written.
pub record CutsOff (names : Names) (trace : Trace) (whole : Answering → Progress) (taken : List ℕ) (left : ℕ) (old new : PartView) (before after : Option (List ℕ)) : Type 0 where
  pub piece : List ℕ
  pub reads : Reads piece old new
  pub last : StaysOpen names whole (taken ++ piece) old.stage new.stage
  pub needed : AreNeededBy names whole (taken ++ piece) new.stage
  pub contexts : LeavesContexts names whole (taken ++ piece) new.stage left
  pub front : (source : Source) → GoesOn (taken ++ piece) new.stage source → GainsFront (trace (whole (answer_of names source)).made) before after

-- The run was cut off, and a prefix of its trace lines is written; the count rose from this start by the work of the
-- whole run at most.
pub record IsCutOff (start count left : ℕ) (names : Names) (trace : Trace) (whole : Answering → Progress) (old new : PartView) (before after : Option (List ℕ)) : Type 0 where
  pub cut : CutsOff names trace whole [] left old new before after
  pub worked : (source : Source) → GoesOn cut.piece new.stage source → count ≤ start + (whole (answer_of names source)).world.work

-- The run came to this end with so many contexts left, and all its trace lines are written; the count rose from this
-- start by the work at most.
pub record IsOver (start count left : ℕ) (names : Names) (trace : Trace) (whole : Answering → Progress) (how : Ended) (core : Core) (old new : PartView) (before after : Option (List ℕ)) : Type 0 where
  pub piece : List ℕ
  pub reads : Reads piece old new
  pub last : StaysOpen names whole piece old.stage new.stage
  pub needed : AreNeededBy names whole piece new.stage
  pub world : World
  pub core_is : core ≡ world.core
  pub contexts : left ≡ world.contexts
  pub worked : count ≤ start + world.work
  pub made : List Record
  pub printed : after ≡ gain before (trace made)
  pub is : (source : Source) → GoesOn piece new.stage source → whole (answer_of names source) ≡ record { world = world; made = made; ended = Some how }

-- The trace lines of so many parts of a run are all written, whatever stands after them, and what was taken of the
-- script is near to what these and the next one need.
pub record IsPaced (names : Names) (trace : Trace) (parts : ℕ → Answering → Progress) (old new : PartView) (before after : Option (List ℕ)) : Type 0 where
  pub piece : List ℕ
  pub reads : Reads piece old new
  pub number : ℕ
  pub written : (source : Source) → GoesOn piece new.stage source → GainsBehind (trace (parts number (answer_of names source)).made) before after
  pub last : StaysOpen names (parts (number + 1)) piece old.stage new.stage
  pub needed : AreNeededBy names (parts (number + 1)) piece new.stage

-- ---- in the words of contracts
abbrev pub trace_in : Plan → Trace
trace_in plan = trace_of plan.terms.show plan.platform.now plan.deployment.now

-- a line of the end, those of actors that can't continue, those of the energies, those of how the run has ended, and all
-- lines after the trace lines
abbrev pub ending_in : Plan → Last → List ℕ
ending_in plan last = ending_of last plan.platform.now plan.deployment.now

abbrev pub stuck_in : Plan → Core → List ℕ
stuck_in plan core = stuck_lines plan.platform.now plan.deployment.now 1 core.actors

abbrev pub energy_in : Plan → Core → List ℕ
energy_in plan core = all_energy plan.platform.now plan.deployment.now core

abbrev pub how_in : Plan → Core → Lasts → List ℕ
how_in plan core told = how_lines plan.platform.now plan.deployment.now core told

abbrev pub last_in : Plan → Core → Report → List ℕ
last_in plan core report = last_lines plan.platform.now plan.deployment.now core report

-- what is reported if it ended so
abbrev pub reported : Plan → Core → Ended → Report
reported plan core how = report_of plan.terms.show plan.platform.now (length plan.deployment.now.actors) plan.terms.budget core how

-- the run of a plan with so many contexts in the pool, by its script
abbrev pub run_by : Plan → ℕ → Answering → Progress
run_by plan crew answers = run_of (scene_of plan.platform.now plan.deployment.now plan.script plan.terms.budget) (first_of plan.platform.now plan.deployment.now plan.terms.budget crew) answers

-- what it writes and how it ends, by what the script's part gives
abbrev pub planned_output : Plan → ℕ → Source → Output
planned_output plan crew source = run_output plan.platform.now plan.deployment.now plan.script plan.terms.budget crew plan.terms.show source

-- its first scheduling rounds and time advances, so many
abbrev pub parts_by : Plan → ℕ → ℕ → Answering → Progress
parts_by plan crew parts answers = first_parts plan.platform.now plan.deployment.now plan.script plan.terms.budget crew parts answers

-- how far it has come then, by what the script's part gives
abbrev pub planned_pace : Plan → ℕ → Source → ℕ → Pace
planned_pace plan crew source = pace_of plan.platform.now plan.deployment.now plan.script plan.terms.budget crew plan.terms.show source

-- The run was cut off after a prefix of its trace lines, or this simulation has reached this end after all of them.
abbrev pub HasRun : {A : Type 0} → Plan → ℕ → Ended → Simulation A → ℕ → ℕ → PartView → PartView → Option (List ℕ) → Option (List ℕ) → Type 0
HasRun plan crew how sim start count old new before after =
    MatchBool (is_cut how)
    (IsCutOff start count (length sim.crew.items) (known_in plan.deployment.now) (trace_in plan) (run_by plan crew) old new before after)
    (IsOver start count (length sim.crew.items) (known_in plan.deployment.now) (trace_in plan) (run_by plan crew) how sim.kernel.core old new before after)

-- What simulating to the end has done, with so many contexts in the pool: the run, and its pace. Err stays.
pub record Simulates {A : Type 0} (plan : Plan) (crew : ℕ) (how : Ended) (sim : Simulation A) (start count : ℕ) (before after : Part → PartView) (old new : Stream → Option (List ℕ)) : Type 0 where
  pub run : HasRun plan crew how sim start count (script_in plan before) (script_in plan after) (old Out) (new Out)
  pub pace : IsPaced (names_of plan) (trace_in plan) (parts_by plan crew) (script_in plan before) (script_in plan after) (old Out) (new Out)
  pub err : new Err ≡ old Err
