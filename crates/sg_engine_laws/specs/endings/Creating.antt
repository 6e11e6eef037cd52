-- Which creates are given, by what a run did before.
use Rattle.std.specs.Prelude.{◌≡◌, ℕ, ◌+◌, ◌-◌, ◌≤◌, ◌==◌, nat_lt, ◌&&◌, ◌||◌, not, Bool, true, false, if◌then◌else◌, Option, None, Some, List, [], ◌∷◌, ◌++◌, count_by, map, slice_index_or}
use Rattle.std.specs.List.{list_any}
use Rattle.sg_base.specs.declared.call.Call.TheVariants as call
use Rattle.sg_base.specs.declared.ids.ActorId.{ActorId}
use Rattle.sg_base.specs.declared.trace_record.End.{End}
use Rattle.sg_base.specs.declared.trace_record.End.TheVariants as end
use Rattle.sg_base.specs.declared.trace_record.Record.{Record}
use Rattle.sg_platform_rows.specs.Deployment.{Deployed, started_number, starts}
use Rattle.sg_actor_states.specs.Actors.{is_ended, is_unstarted}
use Rattle.sg_actor_states.specs.Records.{record_of}
use Rattle.sg_kernel_calls.specs.World.{state_of}
use Rattle.sg_engine.specs.Run.{Progress, created_by}
use Rattle.sg_kernel_laws.specs.actors.Creates.{answer_of_create}
use Rattle.sg_engine_laws.specs.awaits.Runs.{Run, calls_in, parts_in, run_to, whole}

-- ---- what records say of creates
abbrev pub is_done : End → Bool
is_done (end.Done ns) = true
is_done end.Refused = false
is_done end.Failed = false

-- the actor that was created, if one was
abbrev pub created_in : Record → Option ActorId
created_in r = if is_done r.end then created_by r.what else None

-- whether it stands at this place; an actor stands at the place before its id
abbrev pub is_placed : ℕ → Option ActorId → Bool
is_placed place None = false
is_placed place (Some other) = (other.0 - 1) == place

abbrev pub is_some_actor : Option ActorId → Bool
is_some_actor None = false
is_some_actor (Some other) = true

abbrev pub creates_at : ℕ → Record → Bool
creates_at place r = is_placed place (created_in r)

abbrev pub is_create : Record → Bool
is_create r = is_some_actor (created_in r)

-- ---- what stands after these records
-- An actor began: it starts with the run, or was created. One that doesn't exist counts as begun.
abbrev pub has_begun : Deployed → List Record → ActorId → Bool
has_begun deployed made target = slice_index_or (map starts deployed.actors) (target.0 - 1) true || list_any (creates_at (target.0 - 1)) made

-- so many actors began, each of which took a context
abbrev pub begun_number : Deployed → List Record → ℕ
begun_number deployed made = started_number deployed + count_by is_create made

-- the actor has never begun, and a context is left
abbrev pub may_begin : Run → List Record → ActorId → Bool
may_begin run made target = not (has_begun run.deployed made target) && nat_lt (begun_number run.deployed made) run.crew

-- ---- creates in runs
-- The actor that is next there calls for the create of this one, and is answered: it wasn't killed in this
-- scheduling round, and the run doesn't end.
pub record CreatesAt (run : Run) (parts actors : ℕ) (target : ActorId) : Type 0 where
  pub calls : slice_index_or (calls_in (parts_in parts run).world) actors None ≡ Some (call.Create target)
  pub caller : is_ended (state_of (run_to parts actors run).world.core (actors + 1)) ≡ false
  pub goes_on : (run_to parts (actors + 1) run).ended ≡ None

-- it is answered so, in one record
abbrev pub IsTold : Bool → ℕ → ActorId → Progress → Progress → Type 0
IsTold given actor target before after =
    after.made ≡ before.made ++ record_of actor (call.Create target) before.world.core.under.date 0 (answer_of_create given) before.world.core.under.date ∷ []

-- Each create in a run is refused exactly if the named actor began before, or no context is left.
abbrev pub CreatesAreGiven : Type 0
CreatesAreGiven = (run : Run) (parts actors : ℕ) (target : ActorId) → CreatesAt run parts actors target → IsTold (may_begin run (run_to parts actors run).made target) (actors + 1) target (run_to parts actors run) (run_to parts (actors + 1) run)

-- Those that began took a context each, and the others are left; and who never began is unstarted.
pub record TellsWhoBegan (run : Run) (progress : Progress) : Type 0 where
  pub left : started_number run.deployed ≤ run.crew → progress.world.contexts + begun_number run.deployed progress.made ≡ run.crew
  pub begun : (target : ActorId) → is_unstarted (state_of progress.world.core target.0) ≡ not (has_begun run.deployed progress.made target)

-- after so many parts of a run and so many actors of the scheduling round after them, and at its end
pub record ContextsAreTaken : Type 0 where
  pub within : (run : Run) (parts actors : ℕ) → TellsWhoBegan run (run_to parts actors run)
  pub whole : (run : Run) → TellsWhoBegan run (whole run)
