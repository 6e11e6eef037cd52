-- The lists that a run begins with.
use Rattle.std.proofs.Common.{◌≡◌, ◌≢◌, ◌≤◌, length, ◌∙◌, sym, subst, ap, ap₂, refl, ℕ, suc, ◌+◌, ◌-◌, Bool, true, false, cond, List, map, [], ◌∷◌, All, Option, arith}
use Rattle.std.specs.List.{count_by}
use Rattle.std.specs.Prelude.{vec_capacity}
use Rattle.std.proofs.lemmas.List.{length-map}
use Rattle.std.proofs.lemmas.List.Sums.{sum_by-cons}
use Rattle.sg_actor.specs.Seats.{seat_view}
use Rattle.sg_base.specs.Mind.{Mind}
use Rattle.sg_edge.specs.Files.{PartView}
use Rattle.sg_edge.specs.declared.files.Part.{Part}
use Rattle.sg_edge.specs.declared.files.Stage.TheVariants.{Fresh}
use Rattle.sg_edge.specs.declared.sinks.Stream.{Stream}
use Rattle.sg_edge.specs.Sources.{Source}
use Rattle.sg_kernel_calls.specs.Known.{Known}
use Rattle.sg_kernel.specs.Start.{first_known, capacities_in}
use Rattle.sg_kernel_calls.specs.Setup.{setup_of, home_of, capacity_of}
use Rattle.sg_actor_states.specs.Actors.{first_actor}
use Rattle.sg_actor_states.specs.declared.state.Actor.{Actor}
use Rattle.sg_kernel_calls.specs.World.{extent}
use Rattle.sg_platform_rows.specs.Deployment.{Deployed, extent_of, started_number, starts}
use Rattle.sg_platform_rows.specs.declared.rows.ActorRow.{ActorRow}
use Rattle.sg_platform_rows.specs.Platform.{Platform}
use Rattle.sg_script.specs.Known.{known_in}
use Rattle.sg_script.specs.Stands.{AreLimited, Stands, kept_of, actors_of}
use Rattle.sg_script.proofs.AllNeeds.{needed_none}
use Rattle.sg_route.specs.Roads.{Roads}
use Rattle.sg_engine.proofs.Crews.{last_taken}
use Rattle.sg_engine.specs.declared.ended.Ended.{Ended}
use Rattle.sg_engine.specs.declared.setup.Setup.{Setup as Asked}
use Rattle.sg_engine.specs.declared.show.Show.{Show}
use Rattle.sg_engine.specs.declared.plan.Plan.{Plan}
use Rattle.sg_engine.specs.declared.simulation.Simulation.{Simulation}
use Rattle.sg_engine.specs.kept.Invariant.{at_moment, has_not_begun, minds_in, places_in, unstarted, AreBlank, AreRoadsOf, IsBeginning, IsFirst, IsKept, StartsFrom, TakesInAll, TakesLast}
use Rattle.sg_engine.specs.kept.Moments.{script_in, Fits}
use Rattle.sg_engine.specs.kept.Stretches.{planned_output, planned_pace}
use Rattle.sg_engine.specs.Pace.{IsInPace, pace_in}
use Rattle.sg_engine.specs.RunContract.{IsRun, output_of}
use Rattle.sg_engine.specs.Roles.{first_minds}
use Rattle.sg_engine.specs.kept.Listed.{minds_from}
use Rattle.sg_engine.specs.kept.SeatRules.{mind_in, IsSeated}

pub length-minds_from : (me : ℕ) (rows : List ActorRow) → length (minds_from me rows) ≡ length rows
length-minds_from me [] = refl
length-minds_from me (row ∷ rows) = let more = length-minds_from (me + 1) rows in omega (arith, more)

-- each actor starts or hasn't begun
one_more : (b : Bool) (fresh starting all : ℕ) → fresh + starting ≡ all → (cond (has_not_begun (first_actor b)) 1 0 + fresh) + (cond b 1 0 + starting) ≡ suc all
one_more true fresh starting all is = omega (arith, is)
one_more false fresh starting all is = omega (arith, is)

first_unstarted : (rows : List ActorRow) → count_by has_not_begun (map first_actor (map starts rows)) + count_by starts rows ≡ length rows
first_unstarted [] = refl
first_unstarted (row ∷ rows) =
    ap₂ (λ (a b : ℕ). a + b) (sum_by-cons (λ (a : Actor). cond (has_not_begun a) 1 0) (first_actor (starts row)) (map first_actor (map starts rows))) (sum_by-cons (λ (r : ActorRow). cond (starts r) 1 0) row rows)
    ∙ one_more (starts row) (count_by has_not_begun (map first_actor (map starts rows))) (count_by starts rows) (length rows) (first_unstarted rows)

-- a kernel of a platform and a deployment has what the deployment has
pub extent_is : (platform : Platform) (deployed : Deployed) (budget : ℕ) → extent (setup_of platform deployed budget) ≡ extent_of deployed
extent_is platform deployed budget =
    ap₂ (λ (a s : ℕ). record { actors = a; mutexes = length deployed.mutexes; semaphores = s }) (length-map deployed.actors home_of) (length-map deployed.semaphores capacity_of)

actors_are : (platform : Platform) (deployed : Deployed) (budget : ℕ) → length (first_known (capacities_in platform) (setup_of platform deployed budget)).core.actors ≡ length deployed.actors
actors_are platform deployed budget = length-map (map starts deployed.actors) first_actor ∙ length-map deployed.actors starts

first_fits : {A : Type 0} (platform : Platform) (deployed : Deployed) (budget : ℕ) (part : PartView) (sim : Simulation A) → sim.kernel ≡ first_known (capacities_in platform) (setup_of platform deployed budget) → actors_of sim.script ≡ length deployed.actors →
    part.stage ≢ Fresh → AreLimited (extent_of deployed) (kept_of sim.script) → Fits deployed (at_moment part sim)
first_fits platform deployed budget part sim new queues begun waiting = record {
  actors = ap (λ (k : Known). length k.core.actors) new ∙ actors_are platform deployed budget;
  queues = queues;
  begun = begun;
  extent = ap (λ (k : Known). extent k.setup) new ∙ extent_is platform deployed budget;
  waiting = waiting;
}

first_kept : {A : Type 0} (mind : A → Option Mind) (platform : Platform) (deployed : Deployed) (budget : ℕ) (part : PartView) (sim : Simulation A) → sim.kernel ≡ first_known (capacities_in platform) (setup_of platform deployed budget) → Fits deployed (at_moment part sim) →
    minds_in mind sim ≡ first_minds deployed → All (IsSeated (extent_of deployed)) (places_in mind sim) → length deployed.actors ≤ vec_capacity sim.calls → length deployed.actors ≤ 65536 → AreBlank mind sim.crew.items → sim.buffer ≡ [] → IsKept mind deployed part sim
first_kept mind platform deployed budget part sim new fits minds seated calls few blank empty = record {
  fits = fits;
  homes = ap (λ (k : Known). length k.setup.homes) new ∙ length-map deployed.actors home_of;
  number = sym (length-map (places_in mind sim) mind_in ∙ length-map sim.seats.items (seat_view mind)) ∙ ap length minds ∙ length-minds_from 1 deployed.actors;
  seated = seated;
  blank = blank;
  calls = calls;
  few = few;
  cleared = ap (λ (k : Known). k.records) new;
  empty = empty;
}

-- the simulation at its beginning
pub is_first : {A : Type 0} (mind : A → Option Mind) (platform : Platform) (deployed : Deployed) (budget crew : ℕ) (part : PartView) (sim : Simulation A) → sim.kernel ≡ first_known (capacities_in platform) (setup_of platform deployed budget) → actors_of sim.script ≡ length deployed.actors →
    part.stage ≢ Fresh → AreLimited (extent_of deployed) (kept_of sim.script) → Stands (known_in deployed) [] part.stage [] (kept_of sim.script) →
    minds_in mind sim ≡ first_minds deployed → length sim.crew.items + started_number deployed ≡ crew → All (IsSeated (extent_of deployed)) (places_in mind sim) → AreBlank mind sim.crew.items →
    length deployed.actors ≤ vec_capacity sim.calls → length deployed.actors ≤ 65536 → sim.buffer ≡ [] → IsFirst mind platform deployed budget crew part sim
is_first mind platform deployed budget crew part sim new queues begun waiting stands minds left seated blank calls few empty =
    let contexts : length sim.crew.items ≡ crew - started_number deployed = omega (arith, left) in
    record {
      kept = first_kept mind platform deployed budget part sim new (first_fits platform deployed budget part sim new queues begun waiting) minds seated calls few blank empty;
      setup = ap (λ (k : Known). k.setup) new;
      stands = record {
        script = record { stands = stands; needed = needed_none (known_in deployed) part.stage [] };
        core = ap (λ (k : Known). k.core) new;
        cast = ap₂ (λ (m : List (Option Mind)) (n : ℕ). record { minds = m; contexts = n }) minds contexts;
      };
    }

-- the beginning of a run, when the actors that start have taken their contexts from the whole pool
pub begins_with : {A : Type 0} (mind : A → Option Mind) (plan : Plan) (shows : Part → PartView) (router : Roads) (crew : List A) (sim : Simulation A) → IsFirst mind plan.platform.now plan.deployment.now plan.terms.budget (length crew) (script_in plan shows) sim →
    StartsFrom plan.deployment.now crew sim.crew.items → AreRoadsOf plan.platform.now router → IsBeginning mind plan shows router sim
begins_with mind plan shows router crew sim first starts roads = record {
  first = subst (λ (n : ℕ). IsFirst mind plan.platform.now plan.deployment.now plan.terms.budget n (script_in plan shows) sim) (sym starts.number) first;
  roads = roads;
}

-- from there on at most one is taken for each actor that doesn't start
pub first_taken_in_all : {A : Type 0} (mind : A → Option Mind) (platform : Platform) (deployed : Deployed) (budget : ℕ) (how : Ended) (part : PartView) (crew : List A) (old new : Simulation A) → IsFirst mind platform deployed budget (length crew) part old →
    StartsFrom deployed crew old.crew.items → TakesInAll old new → TakesLast deployed how crew new.crew.items
first_taken_in_all mind platform deployed budget how part crew old new first starts_from takes =
    let begun : unstarted old.kernel.core + started_number deployed ≡ length deployed.actors = omega (arith, ap unstarted first.stands.core, first_unstarted deployed.actors) in
    last_taken deployed how crew old.crew.items new.crew.items starts_from takes.front (omega (arith, takes.most, begun)) (omega (arith, begun))

-- a run with the whole pool is one with the contexts that remain and those that were taken
pub same_run : (plan : Plan) (source : Source) (how : Ended) (old new : Stream → Option (List ℕ)) (crew whole left rest start count : ℕ) (before after : Part → PartView) → whole ≡ crew → rest ≡ left →
    IsRun (planned_output plan crew) source how old new crew left start count before after → IsRun (planned_output plan whole) source how old new whole rest start count before after
same_run plan source how old new crew whole left rest start count before after same same_left run = rw (same, same_left) run

-- so is its pace
pub same_pace : (plan : Plan) (source : Source) (old new : Stream → Option (List ℕ)) (crew whole : ℕ) (before after : Part → PartView) → whole ≡ crew → IsInPace (planned_pace plan crew) source old new before after → IsInPace (planned_pace plan whole) source old new before after
same_pace plan source old new crew whole before after same pace = rw same pace

-- the same of the run of a setup
pub run_of_as : (setup : Asked) (budget : ℕ) (show : Show) (source : Source) (how : Ended) (old new : Stream → Option (List ℕ)) (crew whole left rest start count : ℕ) (before after : Part → PartView) → whole ≡ crew → rest ≡ left →
    IsRun (output_of setup budget crew show) source how old new crew left start count before after → IsRun (output_of setup budget whole show) source how old new whole rest start count before after
run_of_as setup budget show source how old new crew whole left rest start count before after same same_left run = rw (same, same_left) run

pub pace_in_as : (setup : Asked) (budget : ℕ) (show : Show) (source : Source) (old new : Stream → Option (List ℕ)) (crew whole : ℕ) (before after : Part → PartView) → whole ≡ crew → IsInPace (pace_in setup budget crew show) source old new before after → IsInPace (pace_in setup budget whole show) source old new before after
pace_in_as setup budget show source old new crew whole before after same pace = rw same pace
