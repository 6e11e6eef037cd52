-- What holds of a simulation between the parts of a run.
use Rattle.std.specs.Prelude.{◌≡◌, ◌≢◌, ◌+◌, ◌<◌, ◌≤◌, ◌&&◌, nat_lt, ℕ, ⊤, Bool, List, [], length, take, All, Option, None, Result, Err as Error, MatchBool, IsTrue, true, false, vec_capacity}
use Rattle.std.specs.List.{count_by}
use Rattle.std.specs.Borrow.{MutBor}
use Rattle.sg_base.specs.declared.ids.ActorId.{ActorId}
use Rattle.sg_base.specs.Limits.{IsActorIn}
use Rattle.sg_base.specs.Mind.{Mind}
use Rattle.sg_actor.specs.Seats.{SeatView, seat_views}
use Rattle.sg_edge.specs.Files.{PartView}
use Rattle.sg_edge.specs.declared.files.Part.{Part}
use Rattle.sg_edge.specs.declared.files.Part.TheVariants.{Script}
use Rattle.sg_edge.specs.declared.files.Stage.TheVariants.{Broken}
use Rattle.sg_edge.specs.declared.sinks.Stream.{Stream}
use Rattle.sg_edge.specs.declared.sinks.Stream.TheVariants.{Out, Err}
use Rattle.sg_platform_rows.specs.Deployment.{Deployed, extent_of, started_number}
use Rattle.sg_platform_rows.specs.Ends.{link_ends}
use Rattle.sg_platform_rows.specs.Platform.{Platform}
use Rattle.sg_script.specs.Known.{ScriptNames as Names, known_in}
use Rattle.sg_script.specs.Stands.{kept_of}
use Rattle.sg_engine.specs.declared.ended.Ended.{Ended}
use Rattle.sg_engine.specs.declared.ended.Ended.TheVariants as ended
use Rattle.sg_engine.specs.declared.plan.Plan.{Plan}
use Rattle.sg_engine.specs.declared.simulation.Simulation.{Simulation}
use Rattle.sg_kernel_calls.specs.Known.{Known}
use Rattle.sg_kernel_calls.specs.Setup.{setup_of}
use Rattle.sg_kernel_calls.specs.World.{Core, MayCall, extent, state_of}
use Rattle.sg_actor_states.specs.Actors.{is_unstarted}
use Rattle.sg_actor_states.specs.declared.state.Actor.{Actor}
use Rattle.sg_engine.specs.World.{World}
use Rattle.sg_engine.specs.Output.{first_of}
use Rattle.sg_engine.specs.RunContract.{IsBroken, TakesScript}
use Rattle.sg_engine.specs.kept.Moments.{Cast, Moment, moment, moment_in, names_of, part_at, script_in, cuts, end_in, Fits, Leads, LeavesFree, StandsFor, UsesScript}
use Rattle.sg_engine.specs.kept.SeatRules.{IsSeated, minds_of}
use Rattle.sg_engine.specs.Run.{Answering, Progress, are_completed, work_behind}
use Rattle.sg_engine.specs.kept.Stretches.{Trace, trace_in, Advances, CutsOff}
use Rattle.sg_engine.specs.kept.Writing.{HasReason}
use Rattle.sg_route.specs.Roads.{Roads, roads_of}
use Rattle.sg_kernel_calls.specs.Roads.{AreOver}

-- what the slots of a simulation show, if this shows the minds of actors, and what the actors there have in mind
abbrev pub places_in : {A : Type 0} → (A → Option Mind) → Simulation A → List SeatView
places_in mind sim = seat_views mind sim.seats.items

abbrev pub minds_in : {A : Type 0} → (A → Option Mind) → Simulation A → List (Option Mind)
minds_in mind sim = minds_of (places_in mind sim)

abbrev pub cast_in : {A : Type 0} → (A → Option Mind) → Simulation A → Cast
cast_in mind sim = record { minds = minds_in mind sim; contexts = length sim.crew.items }

abbrev pub at_moment : {A : Type 0} → PartView → Simulation A → Moment
at_moment part sim = moment part (kept_of sim.script) sim.kernel

-- a moment of the run of a plan
abbrev pub now_at : {A : Type 0} → Plan → (Part → PartView) → Simulation A → Moment
now_at plan shows sim = moment_in plan shows sim.script sim.kernel

-- the contexts that are left are blank
abbrev pub AreBlank : {A : Type 0} → (A → Option Mind) → List A → Type 0
AreBlank mind crew = All (λ context. mind context ≡ None) crew

-- a pool has a blank context for an actor, if that is given one
pub record CanTake {A : Type 0} (mind : A → Option Mind) (given : Bool) (crew : List A) : Type 0 where
  pub some : IsTrue given → 0 < length crew
  pub blank : AreBlank mind crew

-- contexts were taken from the end of a pool, one for each actor that starts
pub record StartsFrom {A : Type 0} (deployed : Deployed) (old new : List A) : Type 0 where
  pub front : new ≡ take (length new) old
  pub number : length new + started_number deployed ≡ length old

-- the same, up to one for each
pub record StartsUpTo {A : Type 0} (deployed : Deployed) (old new : List A) : Type 0 where
  pub front : new ≡ take (length new) old
  pub most : length old ≤ length new + started_number deployed

-- there is a slot for each actor of a deployment
pub record AreSeatsOf (deployed : Deployed) (places : List SeatView) : Type 0 where
  pub number : length places ≡ length deployed.actors
  pub seated : All (IsSeated (extent_of deployed)) places

-- there is a slot for each actor, and the remaining contexts are blank
pub record IsManned {A : Type 0} (mind : A → Option Mind) (sim : Simulation A) : Type 0 where
  pub number : length sim.seats.items ≡ length sim.kernel.core.actors
  pub seated : All (IsSeated (extent sim.kernel.setup)) (places_in mind sim)
  pub blank : AreBlank mind sim.crew.items

-- the same, and there is room for a call of each
pub record HasRoom {A : Type 0} (mind : A → Option Mind) (sim : Simulation A) : Type 0 where
  pub manned : IsManned mind sim
  pub calls : length sim.seats.items ≤ vec_capacity sim.calls
  pub room : length sim.seats.items ≤ sim.kernel.room

-- how many actors haven't begun
abbrev pub has_not_begun : Actor → Bool
has_not_begun actor = is_unstarted actor.state

abbrev pub unstarted : Core → ℕ
unstarted core = count_by has_not_begun core.actors

-- an actor may call that creates another: the kernel is of these actors and has room, and there is a slot for each
pub record CanCreate {A : Type 0} (mind : A → Option Mind) (plan : Plan) (actor target : ActorId) (sim : Simulation A) : Type 0 where
  pub caller : MayCall sim.kernel.core actor.0
  pub target_is : IsActorIn (extent sim.kernel.setup) target
  pub room : 0 < sim.kernel.room
  pub number : length sim.kernel.core.actors ≡ length plan.deployment.now.actors
  pub limits : extent sim.kernel.setup ≡ extent_of plan.deployment.now
  pub manned : IsManned mind sim

-- it is given if the other has never begun and a context is left
abbrev pub may_be_given : {A : Type 0} → ℕ → Simulation A → Bool
may_be_given target sim = is_unstarted (state_of sim.kernel.core target) && nat_lt 0 (length sim.crew.items)

-- how many actors haven't begun after a stretch that wasn't cut off; after a cut nothing is said of them
abbrev pub still_unstarted : Bool → Core → ℕ
still_unstarted true core = 0
still_unstarted false core = unstarted core

-- Contexts were taken from the end of the pool, each by an actor that has begun since; if the stretch was cut off, by
-- one that could begin.
pub record TakesCrew {A : Type 0} (cut : Bool) (old new : Simulation A) : Type 0 where
  pub front : new.crew.items ≡ take (length new.crew.items) old.crew.items
  pub begun : length old.crew.items + still_unstarted cut new.kernel.core ≤ length new.crew.items + unstarted old.kernel.core

-- the setup is the same, and contexts were taken from the end of the pool, by actors that hadn't begun
pub record TakesInAll {A : Type 0} (old new : Simulation A) : Type 0 where
  pub setup : new.kernel.setup ≡ old.kernel.setup
  pub front : new.crew.items ≡ take (length new.crew.items) old.crew.items
  pub most : length old.crew.items ≤ length new.crew.items + unstarted old.kernel.core

-- contexts were taken from the end of a pool: one for each actor that starts, unless memory ran out, and one at most
-- for each actor
pub record TakesLast {A : Type 0} (deployed : Deployed) (how : Ended) (old new : List A) : Type 0 where
  pub front : new ≡ take (length new) old
  pub least : how ≢ ended.Memory → length new + started_number deployed ≤ length old
  pub most : length old ≤ length new + length deployed.actors

-- The call of this actor was answered: nobody else was blocked, and except for the kernel, the slots and the pool
-- nothing has changed.
pub record KeepsOthers {A : Type 0} (mind : A → Option Mind) (actor : ℕ) (cut : Bool) (old new : Simulation A) : Type 0 where
  pub setup : new.kernel.setup ≡ old.kernel.setup
  pub room : old.kernel.room ≤ new.kernel.room + 1
  pub free : LeavesFree actor old.kernel.core new.kernel.core
  pub seats : length new.seats.items ≡ length old.seats.items
  pub manned : IsManned mind new
  pub crew : TakesCrew cut old new
  pub calls : new.calls ≡ old.calls
  pub buffer : new.buffer ≡ old.buffer

-- after a scheduling round or a time advance there is a slot for each actor again, and except for moments and records
-- nothing has changed
pub record KeepsSeats {A : Type 0} (mind : A → Option Mind) (cut : Bool) (old new : Simulation A) : Type 0 where
  pub setup : new.kernel.setup ≡ old.kernel.setup
  pub number : length new.seats.items ≡ length old.seats.items
  pub seated : All (IsSeated (extent new.kernel.setup)) (places_in mind new)
  pub crew : TakesCrew cut old new
  pub calls : vec_capacity new.calls ≡ vec_capacity old.calls
  pub buffer : new.buffer ≡ old.buffer

-- what the kernel knows is of these hosts and these actors
pub record IsOfSetup (platform : Platform) (deployed : Deployed) (known : Known) : Type 0 where
  pub hosts : length platform.hosts ≡ known.setup.hosts
  pub number : length known.core.actors ≡ length deployed.actors
  pub extent : extent known.setup ≡ extent_of deployed
  pub few : length known.core.actors ≤ 65536

-- all lists are of the deployment's actors, who have their slots; there is room for a call of each, and no record and
-- no line waits
pub record IsKept {A : Type 0} (mind : A → Option Mind) (deployed : Deployed) (part : PartView) (sim : Simulation A) : Type 0 where
  pub fits : Fits deployed (at_moment part sim)
  pub homes : length sim.kernel.setup.homes ≡ length deployed.actors
  pub number : length sim.seats.items ≡ length deployed.actors
  pub seated : All (IsSeated (extent_of deployed)) (places_in mind sim)
  pub blank : AreBlank mind sim.crew.items
  pub calls : length deployed.actors ≤ vec_capacity sim.calls
  pub few : length deployed.actors ≤ 65536
  pub cleared : sim.kernel.records ≡ []
  pub empty : sim.buffer ≡ []

-- how a stretch leads from one simulation to another
abbrev pub LeadsTo : {A : Type 0} → (A → Option Mind) → Plan → (World → ℕ) → (Answering → World → Progress) → Result (Unit {0}) Ended → (Part → PartView) → (Part → PartView) → Simulation A → Simulation A → Type 0
LeadsTo mind plan spends whole result shows shown old new = Leads plan spends whole result (cast_in mind old) (cast_in mind new) (now_at plan shows old) (now_at plan shown new)

-- the router has the routes of the platform, over its links
pub record AreRoadsOf (platform : Platform) (roads : Roads) : Type 0 where
  pub are : roads ≡ roads_of platform
  pub over : AreOver (length (link_ends platform.links)) roads

-- the simulation of a setup at its beginning, with so many contexts in the pool and nothing of the script taken
pub record IsFirst {A : Type 0} (mind : A → Option Mind) (platform : Platform) (deployed : Deployed) (budget crew : ℕ) (part : PartView) (sim : Simulation A) : Type 0 where
  pub kept : IsKept mind deployed part sim
  pub setup : sim.kernel.setup ≡ setup_of platform deployed budget
  pub stands : StandsFor (known_in deployed) [] (cast_in mind sim) (at_moment part sim) (first_of platform deployed budget crew)

-- how many contexts the pool had before any actor started
abbrev pub crew_in : {A : Type 0} → Plan → Simulation A → ℕ
crew_in plan sim = length sim.crew.items + started_number plan.deployment.now

-- the beginning of the run of a plan: the simulation of its setup, over the roads of its platform
pub record IsBeginning {A : Type 0} (mind : A → Option Mind) (plan : Plan) (shows : Part → PartView) (router : Roads) (sim : Simulation A) : Type 0 where
  pub first : IsFirst mind plan.platform.now plan.deployment.now plan.terms.budget (crew_in plan sim) (script_in plan shows) sim
  pub roads : AreRoadsOf plan.platform.now router

-- what a part of a run has done
abbrev pub PartIs : ℕ → Names → Trace → (Answering → Progress) → Result (Unit {0}) Ended → List ℕ → Cast → Moment → Moment → Option (List ℕ) → Option (List ℕ) → Type 0
PartIs spent names trace whole result taken had old new before after =
    MatchBool (cuts result) (CutsOff names trace whole taken had.contexts old.part new.part before after) (Advances spent names trace whole (end_in result) taken had old new before after)

-- so it is in the run of a plan
abbrev pub Holds : {A : Type 0} → (A → Option Mind) → Plan → (Part → PartView) → Simulation A → Type 0
Holds mind plan shows sim = IsKept mind plan.deployment.now (script_in plan shows) sim

abbrev pub FitsNow : {A : Type 0} → Plan → (Part → PartView) → Simulation A → Type 0
FitsNow plan shows sim = Fits plan.deployment.now (now_at plan shows sim)

-- calls can be answered: reader and kernel are of the plan's actors, who have their slots, over the roads of the
-- kernel's links
pub record CanAnswer {A : Type 0} (mind : A → Option Mind) (plan : Plan) (shows : Part → PartView) (router : Roads) (sim : Simulation A) : Type 0 where
  pub roads : AreOver sim.kernel.setup.links router
  pub fits : FitsNow plan shows sim
  pub manned : IsManned mind sim

-- a scheduling round or a time advance can be made: there is room besides
pub record CanPlay {A : Type 0} (mind : A → Option Mind) (plan : Plan) (shows : Part → PartView) (router : Roads) (sim : Simulation A) : Type 0 where
  pub roads : AreOver sim.kernel.setup.links router
  pub fits : FitsNow plan shows sim
  pub room : HasRoom mind sim

-- What holds after calls, a scheduling round or a time advance: all is of the plan's actors still, who have their
-- slots, and except for the script nothing was read.
pub record GoesOn {A F : Type 0} (mind : A → Option Mind) (plan : Plan) (shows : F → Part → PartView) (result : Result (Unit {0}) Ended) (before after : F) (had has : Roads) (old new : Simulation A) : Type 0 where
  pub fits : FitsNow plan (shows after) new
  pub seats : KeepsSeats mind (cuts result) old new
  pub script : UsesScript shows plan.script result before after had has

-- a part more can be made: an actor hasn't ended
pub record CanAdvance {A : Type 0} (mind : A → Option Mind) (plan : Plan) (shows : Part → PartView) (router : Roads) (sim : Simulation A) : Type 0 where
  pub kept : Holds mind plan shows sim
  pub roads : AreOver sim.kernel.setup.links router
  pub going : are_completed sim.kernel.core ≡ false

-- contexts were taken as they may be; after a part that didn't cut the run off all of that holds again, of the same
-- setup
pub record StaysKept {A : Type 0} (mind : A → Option Mind) (plan : Plan) (result : Result (Unit {0}) Ended) (shows : Part → PartView) (old new : Simulation A) : Type 0 where
  pub crew : TakesCrew (cuts result) old new
  pub setup : new.kernel.setup ≡ old.kernel.setup
  pub kept : MatchBool (cuts result) ⊤ (Holds mind plan shows new)

-- a part that ended a run by a failed write or read has its cause
abbrev pub IsCaused : {O : Type 0} → (O → ℕ) → Plan → Result (Unit {0}) Ended → (Part → PartView) → MutBor O → MutBor O → Type 0
IsCaused faults plan result shows old new = HasReason faults (result ≡ Error ended.WriteFault) (result ≡ Error ended.ReadFault) ((script_in plan shows).stage ≡ Broken) old new

-- How the run of a plan has ended: the cause of a failed write or read, that running out of memory leaves Err as it was,
-- that of all files only the script's part was read, and that the roads stay.
pub record HasEnded {O F : Type 0} (contents : O → Stream → Option (List ℕ)) (faults : O → ℕ) (shows : F → Part → PartView) (script : Bool) (how : Ended) (before after : F) (old new : MutBor O) (had has : Roads) : Type 0 where
  pub cause : HasReason faults (how ≡ ended.WriteFault) (how ≡ ended.ReadFault) (IsBroken (shows before Script) (shows after Script)) old new
  pub memory : how ≡ ended.Memory → contents new.now Err ≡ contents old.now Err
  pub reads : TakesScript shows script before after
  pub roads : has ≡ had

-- ---- with what is written
-- a moment of a run, its `Cast`, and what the streams hold
pub record Snapshot : Type 0 where
  pub now : Moment
  pub cast : Cast
  pub streams : Stream → Option (List ℕ)

abbrev pub snapshot_of : {A : Type 0} → (A → Option Mind) → Plan → (Part → PartView) → (Stream → Option (List ℕ)) → Simulation A → Snapshot
snapshot_of mind plan shows streams sim = record { now = now_at plan shows sim; cast = cast_in mind sim; streams = streams }

-- How a part of a run leads from one moment to another, with its lines on Out: of each world for which the first moment
-- stands. Err stays.
abbrev pub LeadsPart : Plan → Roads → Result (Unit {0}) Ended → Snapshot → Snapshot → Type 0
LeadsPart plan roads result old new = (new.streams Err ≡ old.streams Err) × ((taken : List ℕ) (world : World) → StandsFor (names_of plan) taken old.cast old.now world →
    PartIs (work_behind world) (names_of plan) (trace_in plan) (λ answers. part_at plan roads old.now.kernel answers world) result taken new.cast old.now new.now (old.streams Out) (new.streams Out))
