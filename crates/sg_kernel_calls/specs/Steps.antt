-- What a step of a simulation leads to. Each call that is answered and each end of a phase is one event.
use Rattle.std.specs.Prelude.{ℕ, ◌+◌, ◌==◌, Option, None, Some, Ok, Err, Result, if◌then◌else◌, List, [], ◌∷◌, ◌++◌}
use Rattle.sg_base.specs.declared.call.Call.{Call}
use Rattle.sg_base.specs.declared.call.Answer.{Answer}
use Rattle.sg_base.specs.declared.trace_record.Record.{Record}
use Rattle.sg_base.specs.declared.awaits.Await.{Await}
use Rattle.sg_actor_states.specs.declared.state.State.TheVariants.{Ready, Blocked}
use Rattle.sg_actor_states.specs.Records.{record_of}
use Rattle.sg_kernel_calls.specs.declared.stop.Stop.{Stop}
use Rattle.sg_kernel_calls.specs.declared.stop.Stop.TheVariants.{Budget}
use Rattle.sg_kernel_calls.specs.World.{Core, with_state}

-- the core, the records made, and why it stopped, if it did
pub record Step : Type 0 where
  pub core : Core
  pub made : List Record
  pub stop : Option Stop

-- a step after which the run continues, with the records that it made
abbrev pub goes_on : Core → List Record → Step
goes_on core made = record { core = core; made = made; stop = None }

-- a step after which the run stops for this reason, with the records that it made
abbrev pub stops : Core → List Record → Stop → Step
stops core made stop = record { core = core; made = made; stop = Some stop }

abbrev pub result_of : Option Stop → Result Unit Stop
result_of None = Ok tt
result_of (Some stop) = Err stop

-- the core, whose count of events is one higher
abbrev pub counted : Core → Core
counted core = record core { events = core.events + 1 }

-- an event is next: with the budget used up it isn't begun
abbrev pub unless_used : ℕ → Core → Step → Step
unless_used budget core step = if core.events == budget then stops core [] Budget else step

-- one step, and if it didn't stop, the next one after it
abbrev pub follows : Option Stop → Step → Step → Step
follows None first second = record second { made = first.made ++ second.made }
follows (Some stop) first second = first

-- two steps in turn: the next one begins after the first, unless that stopped the run
abbrev pub and_then : Step → (Core → Step) → Step
and_then first next = follows first.stop first (next first.core)

-- one after another, for each of these
unfoldable pub each : {X : Type 0} → (X → Core → Step) → List X → Core → Step
each does [] core = goes_on core []
each does (x ∷ more) core = and_then (does x core) (each does more)

-- one stretch after another
unfoldable pub all_of : List (Core → Step) → Core → Step
all_of [] core = goes_on core []
all_of (first ∷ rest) core = and_then (first core) (all_of rest)

-- ---- an actor is answered, or blocked
-- the actor is ready with this answer
abbrev pub readied : ℕ → Answer → Core → Core
readied actor answer core = with_state actor (Ready answer) core

-- the actor is blocked by this call until its endpoint of an activity is done or, with none, until another's call
-- releases it
abbrev pub blocked_by : ℕ → Call → Option Await → Core → Core
blocked_by actor what on core = with_state actor (Blocked what core.under.date on) core

-- The call that it made at that date is answered now. No record is made elsewhere.
abbrev pub replied : ℕ → Call → ℕ → ℕ → Answer → Core → Step
replied actor what since bytes answer core = goes_on (readied actor answer core) (record_of actor what since bytes answer core.under.date ∷ [])

-- the call that it makes is answered at once
abbrev pub at_once : ℕ → Call → ℕ → Answer → Core → Step
at_once actor what bytes answer core = replied actor what core.under.date bytes answer core
