-- How time advances: the date moves to where the next phases complete or the next entries of profiles come. First the
-- entries of that date come, in order of rows, each followed by its failures, and then the phases that complete end, in
-- order of activity id. Each entry, each failure and each phase end is one event.
use Rattle.std.specs.Prelude.{ℕ, ◌+◌, ◌-◌, Option, None, Some, option_map, if◌then◌else◌, List, [], ◌∷◌}
use Rattle.sg_activity_table.specs.Slots.{sooner}
use Rattle.sg_activity.specs.Task.{Task, phase_after, task_at}
use Rattle.sg_activity.specs.Underway as underway
use Rattle.sg_activity.specs.Underway.{Underway, due_in, hits, is_running, later, next_in, with_bandwidth, with_host_on, with_link_on, with_speed, with_task}
use Rattle.sg_profile.specs.declared.entry.Entry.{Entry}
use Rattle.sg_profile.specs.declared.entry.Entry.TheVariants as entry
use Rattle.sg_profile.specs.Profiles.{entry_at, next_date, rows_due, turns_after_row}
use Rattle.sg_platform_rows.specs.declared.network.Network.{Network}
use Rattle.sg_platform_rows.specs.Network.{bandwidth_over}
use Rattle.sg_mailbox.specs.declared.owners.How.TheVariants as how
use Rattle.sg_kernel_calls.specs.declared.stop.Stop.TheVariants.{Deadlock, Starved}
use Rattle.sg_kernel_calls.specs.Setup.{Setup}
use Rattle.sg_kernel_calls.specs.World.{Core}
use Rattle.sg_kernel_calls.specs.Steps.{Step, goes_on, stops, counted, unless_used, each, all_of}
use Rattle.sg_kernel_calls.specs.Answers.{finishes}

-- ---- entries of profiles come
-- what an entry changes, if there is one: a bandwidth has the network's factor
abbrev pub applied_if : Network → Option Entry → Underway → Underway
applied_if network None under = under
applied_if network (Some (entry.Speed host speed)) under = with_speed host.0 speed under
applied_if network (Some (entry.Bandwidth link bandwidth)) under =
    with_bandwidth link.0 (bandwidth_over network bandwidth) under
applied_if network (Some (entry.HostOn host on)) under = with_host_on host.0 on under
applied_if network (Some (entry.LinkOn link on)) under = with_link_on link.0 on under

-- the next entry of this row comes, and the row moves past it
abbrev pub enters : Setup → ℕ → Core → Core
enters setup row core = record core {
  under = applied_if setup.network (entry_at setup.profiles core.turns row) core.under;
  turns = turns_after_row setup.profiles row core.turns;
}

-- the next entry of this row comes, as one event
abbrev pub enters_one : Setup → ℕ → Core → Step
enters_one setup row core = goes_on (counted (enters setup row core)) []

-- an activity that uses something off fails, as one event; a used-up budget stops the run before
abbrev pub fails : Setup → ℕ → Core → Step
fails setup serial core = unless_used setup.budget core (finishes how.Failed serial (counted core))

-- all that use something that is off, in order of activity id
abbrev pub all_fail : Setup → Core → Step
all_fail setup core = each (fails setup) (hits core.under) core

-- the next entry of a row comes, and then activities that use something off fail; a used-up budget stops the run
abbrev pub changes : Setup → ℕ → Core → Step
changes setup row core = unless_used setup.budget core (all_of (enters_one setup row ∷ all_fail setup ∷ []) core)

-- ---- phases end
-- after the phase of the activity with this id the activity is done, or another phase follows
abbrev pub ends_in : ℕ → Option Task → Core → Step
ends_in serial None core = finishes how.Done serial core
ends_in serial (Some next) core = goes_on (record core { under = with_task serial (Some next) core.under }) []

-- the running phase of the activity with this id ends
abbrev pub ends_one : ℕ → Core → Step
ends_one serial core = ends_in serial (phase_after (task_at core.under.tasks serial)) (counted core)

-- one that no longer runs is skipped, and is no event
abbrev pub ends_by : Setup → ℕ → Option Task → Core → Step
ends_by setup serial None core = goes_on core []
ends_by setup serial (Some task) core = unless_used setup.budget core (ends_one serial core)

-- a phase completes as one event, if it still runs; a used-up budget stops the run
abbrev pub ends : Setup → ℕ → Core → Step
ends setup serial core = ends_by setup serial (task_at core.under.tasks serial) core

-- in how many nanoseconds the next phase completes or the next entry comes; none: never
abbrev pub next_span : Setup → Core → Option ℕ
next_span setup core =
    sooner (next_in core.under) (option_map (λ date. date - core.under.date) (next_date setup.profiles core.turns))

-- Time advances by this span: every amount falls, then the entries of that date come, and then the phases that complete
-- end; the world before decides which. Without a span the run stops: starved if activities run, else a deadlock.
abbrev pub pass_at : Setup → Core → Option ℕ → Step
pass_at setup core None = stops core [] (if is_running core.under then Starved else Deadlock)
pass_at setup core (Some span) =
    let entries = each (changes setup) (rows_due (core.under.date + span) setup.profiles core.turns) in
    let phases = each (ends setup) (due_in span core.under) in
    unless_used setup.budget core (all_of (entries ∷ phases ∷ []) (record core { under = later span core.under }))

-- Before all else the rates are updated. That marks all changes as seen, whatever stops the time advance, and changes
-- nothing else.
abbrev pub settled : Core → Core
settled core = record core { under = underway.with_rates_updated core.under }

-- a time advance: the rates are updated, then time moves to the next date
abbrev pub pass_of : Setup → Core → Step
pass_of setup core = pass_at setup (settled core) (next_span setup (settled core))

-- ---- parts, as contracts, laws and proofs name them
-- what an entry changes
abbrev pub applied : Network → Entry → Underway → Underway
applied network entry under = applied_if network (Some entry) under

-- the activity with this id uses something that is off, and fails
abbrev pub fails_one : ℕ → Core → Step
fails_one serial core = finishes how.Failed serial (counted core)

-- what comes with an entry, in this order
abbrev pub entry_stretches : Setup → ℕ → List (Core → Step)
entry_stretches setup row =
    enters_one setup row ∷
    all_fail setup ∷
    []

-- the core so many nanoseconds later: every amount has fallen
abbrev pub core_later : ℕ → Core → Core
core_later span core = record core { under = later span core.under }

-- in how many nanoseconds this date is
abbrev pub span_to : Core → Option ℕ → Option ℕ
span_to core date = option_map (λ date. date - core.under.date) date

-- what comes at the date of a time advance, in this order; the world before it decides which
abbrev pub stretches : Setup → ℕ → Core → List (Core → Step)
stretches setup span core =
    each (changes setup) (rows_due (core.under.date + span) setup.profiles core.turns) ∷
    each (ends setup) (due_in span core.under) ∷
    []

-- a time advance of a world whose rates are up to date
abbrev pub settled_pass : Setup → Core → Step
settled_pass setup core = pass_at setup core (next_span setup core)
