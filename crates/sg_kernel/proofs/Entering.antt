-- An entry of a profile comes.
use Rattle.std.proofs.Common.{◌≡◌, ◌≢◌, ℕ, ◌++◌, cond, None, List, [], length, drop, get_or, refl, sym, ap, subst, ◌∙◌, append-nil, arith}
use Rattle.std.specs.Prelude.{is_some}
use Rattle.std.proofs.lemmas.List.{length-set}
use Rattle.sg_activity.specs.Doing.{Doing}
use Rattle.sg_activity.specs.Underway.{Underway}
use Rattle.sg_profile.specs.declared.entry.Entry.{Entry}
use Rattle.sg_profile.specs.declared.entry.Entry.TheVariants.{Speed, Bandwidth, HostOn, LinkOn}
use Rattle.sg_profile.specs.Profiles.{Timetable, past_next, rows_due}
use Rattle.sg_profile.proofs.Ahead.{rows_are_left, ahead_steps}
use Rattle.sg_platform_rows.specs.declared.network.Network.{Network}
use Rattle.sg_base.specs.declared.trace_record.Record.{Record}
use Rattle.sg_kernel_calls.specs.declared.simulation_state.Fields.{Fields}
use Rattle.sg_kernel_calls.specs.declared.stop.Stop.TheVariants.{Budget}
use Rattle.sg_kernel_calls.specs.Known.{Known, after}
use Rattle.sg_kernel_calls.specs.Setup.{Setup}
use Rattle.sg_kernel_calls.specs.World.{Core}
use Rattle.sg_kernel_calls.specs.Steps.{all_of, and_then, goes_on, stops}
use Rattle.sg_kernel.specs.Passes.{all_fail, applied, applied_if, changes, enters, enters_one, entry_stretches}
use Rattle.sg_kernel.specs.kept.Coming.{IsApplied, IsDueEntry, row_next, rows_now}
use Rattle.sg_kernel_calls.specs.kept.Sound.{core_of, known_of, setup_in, IsTimely, IsTimetable}
use Rattle.sg_kernel_calls.specs.kept.Whole.{IsPassing}
use Rattle.sg_kernel_calls.proofs.Each.{eq_no, eq_yes, all_of-two}

-- ---- one entry and its failures, unless the budget is used up
pub change_is : (setup : Setup) (row : ℕ) (core : Core) → core.events ≢ setup.budget → changes setup row core ≡ and_then (enters_one setup row core) (all_fail setup)
change_is setup row core go =
    ap (λ b. cond b (stops core [] Budget) (all_of (entry_stretches setup row) core)) (eq_no core.events setup.budget go)
    ∙ all_of-two (enters_one setup row) (all_fail setup) core

pub change_used : (setup : Setup) (row : ℕ) (core : Core) → core.events ≡ setup.budget → changes setup row core ≡ stops core [] Budget
change_used setup row core used =
    ap (λ b. cond b (stops core [] Budget) (all_of (entry_stretches setup row) core)) (eq_yes core.events setup.budget used)

-- ---- what it changes
-- the hosts and links, of which there are as many
pub record KeepsPhases (old new : Underway) : Type 0 where
  pub date : new.date ≡ old.date
  pub tasks : new.tasks ≡ old.tasks
  pub hosts : length new.capacities.hosts ≡ length old.capacities.hosts
  pub links : length new.capacities.links ≡ length old.capacities.links

applied_keeps : (network : Network) (entry : Entry) (under : Underway) → KeepsPhases under (applied network entry under)
applied_keeps network (Speed host speed) under = record { date = refl; tasks = refl; hosts = length-set under.capacities.hosts host.0 _; links = refl }
applied_keeps network (Bandwidth link bandwidth) under = record { date = refl; tasks = refl; hosts = refl; links = length-set under.capacities.links link.0 _ }
applied_keeps network (HostOn host on) under = record { date = refl; tasks = refl; hosts = refl; links = refl }
applied_keeps network (LinkOn link on) under = record { date = refl; tasks = refl; hosts = refl; links = refl }

pub set_keeps : (network : Network) (entry : Entry) (old new : Doing) → IsApplied network entry old new → KeepsPhases old.under new.under
set_keeps network entry old new set = subst (KeepsPhases old.under) (sym set.under) (applied_keeps network entry old.under)

-- and how far its row is
abbrev pub with_entry : Fields → Doing → Timetable → Fields
with_entry fields doing profiles = record fields { doing = doing; profiles = profiles }

abbrev known_with : Fields → Underway → Timetable → List Record → Known
known_with fields under table records = record (known_of fields) {
  setup = record (setup_in fields) { profiles = table.profiles };
  core = record (core_of fields) { under = under; turns = table.turns };
  records = records;
}

pub entered_known : (fields : Fields) (doing : Doing) (profiles : Timetable) (entry : Entry) → IsDueEntry fields entry → IsApplied fields.setup.network entry fields.doing doing → profiles ≡ past_next fields.profiles →
    known_of (with_entry fields doing profiles) ≡ after (goes_on (enters (setup_in fields) (row_next fields) (core_of fields)) []) (known_of fields)
entered_known fields doing profiles entry due set gone =
    let records = fields.states.records in
    let past = past_next fields.profiles in
    ap (λ u. known_with fields u profiles records) set.under
    ∙ ap (λ t. known_with fields (applied fields.setup.network entry fields.doing.under) t records) gone
    ∙ ap (λ (r : List Record). known_with fields (applied fields.setup.network entry fields.doing.under) past r) (sym (append-nil records))
    ∙ ap (λ o. known_with fields (applied_if fields.setup.network o fields.doing.under) past (records ++ [])) (sym due.next.entry_is)

-- ---- what is kept of it
-- the row is past the entry
timely_past : (fields : Fields) (entry : Entry) → IsDueEntry fields entry → IsTimely fields → IsTimetable fields.setup.hosts fields.setup.links fields.doing.under.date (past_next fields.profiles)
timely_past fields entry due was = record {
  profiles = was.profiles;
  ahead = ahead_steps fields.setup.hosts fields.setup.links fields.doing.under.date fields.profiles.profiles fields.profiles.turns (row_next fields) due.next.rest was.profiles due.next.first was.ahead;
}

pub entered_timely : (fields : Fields) (doing : Doing) (profiles : Timetable) (entry : Entry) → IsDueEntry fields entry → doing.under.date ≡ fields.doing.under.date → profiles ≡ past_next fields.profiles → IsTimely fields → IsTimely (with_entry fields doing profiles)
entered_timely fields doing profiles entry due date gone was =
    subst (λ d. IsTimetable fields.setup.hosts fields.setup.links d profiles) (sym date)
    (subst (λ (t : Timetable). IsTimetable fields.setup.hosts fields.setup.links fields.doing.under.date t) (sym gone) (timely_past fields entry due was))

-- the other rows of the date are left
pub entered_rows : (fields : Fields) (doing : Doing) (profiles : Timetable) (entry : Entry) → IsDueEntry fields entry → doing.under.date ≡ fields.doing.under.date → profiles ≡ past_next fields.profiles → IsTimely fields →
    rows_now (with_entry fields doing profiles) ≡ drop 1 (rows_now fields)
entered_rows fields doing profiles entry due date gone was =
    ap (λ d. rows_due d profiles.profiles profiles.turns) date
    ∙ ap (λ (t : Timetable). rows_due fields.doing.under.date t.profiles t.turns) gone
    ∙ rows_are_left fields.setup.hosts fields.setup.links fields.doing.under.date fields.profiles.profiles fields.profiles.turns (row_next fields) due.next.rest was.profiles due.next.first
    ∙ sym (ap (drop 1) due.next.first)

pub entered_passing : (fields : Fields) (doing : Doing) (profiles : Timetable) (entry : Entry) → IsDueEntry fields entry → IsApplied fields.setup.network entry fields.doing doing → profiles ≡ past_next fields.profiles →
    IsPassing fields → IsPassing (with_entry fields doing profiles)
entered_passing fields doing profiles entry due set gone was =
    let keeps = set_keeps fields.setup.network entry fields.doing doing set in
    let sound = was.sound in
    let held = was.held in
    record {
      sound = record {
        numbered = sound.numbered ∙ sym (ap length keeps.tasks);
        few = omega (arith, sound.few, ap length keeps.tasks);
        within = sound.within;
        budgeted = sound.budgeted;
        hosts_counted = keeps.hosts ∙ sound.hosts_counted;
        links_counted = keeps.links ∙ sound.links_counted;
        homes_known = sound.homes_known;
        requests_known = sound.requests_known;
        requests_few = sound.requests_few;
        extent_is = sound.extent_is;
      };
      roomy = record { starts = omega (arith, was.roomy.starts, set.room); owners = was.roomy.owners; mailboxes = was.roomy.mailboxes; requests = was.roomy.requests };
      timely = entered_timely fields doing profiles entry due keeps.date gone was.timely;
      limited = was.limited;
      meeting = record {
        posts = was.meeting.posts;
        idle = λ place posted. ap (λ tasks. get_or tasks place None) keeps.tasks ∙ was.meeting.idle place posted;
        busy = λ place some. ap (λ tasks. is_some (get_or tasks place None)) keeps.tasks ∙ was.meeting.busy place some;
        asked = was.meeting.asked;
        awaited = was.meeting.awaited;
      };
      held = record {
        owners = held.owners;
        counts = held.counts;
        actors = held.actors;
        few = held.few;
        once = held.once;
        held = held.held;
        locking = held.locking;
        acquiring = held.acquiring;
      };
      passing = was.passing;
      small = omega (arith, was.small, keeps.date);
    }

-- what fails leaves the rows
pub rows_same : (old new : Fields) → new.doing.under.date ≡ old.doing.under.date → new.profiles ≡ old.profiles → rows_now new ≡ rows_now old
rows_same old new date profiles =
    ap (λ d. rows_due d new.profiles.profiles new.profiles.turns) date
    ∙ ap (λ (t : Timetable). rows_due old.doing.under.date t.profiles t.turns) profiles
