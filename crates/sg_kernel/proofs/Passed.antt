-- A time advance, from the activities' contracts.
use Rattle.std.proofs.Common.{◌≡◌, ◌≢◌, ℕ, ◌-◌, ◌<◌, true, false, cond, Option, None, option_map, List, [], ◌∷◌, length, map, get_or, zero, suc, refl, Some, sym, ap, subst, ◌∙◌, arith}
use Rattle.std.specs.Prelude.{is_some, IsSome}
use Rattle.std.proofs.lemmas.List.{length-map}
use Rattle.sg_activity.specs.Doing.{Doing, later_in, settled_in}
use Rattle.sg_activity.specs.Task.{Task}
use Rattle.sg_activity.specs.Underway.{is_running, passed}
use Rattle.sg_actor_states.specs.declared.state.Actor.{Actor}
use Rattle.sg_actor_states.specs.Actors.{state_at}
use Rattle.sg_actor_states.specs.States.{ActorStates}
use Rattle.sg_kernel_calls.specs.declared.simulation_state.Fields.{Fields}
use Rattle.sg_kernel_calls.specs.declared.stop.Stop.TheVariants.{Budget, Deadlock, Starved}
use Rattle.sg_kernel_calls.specs.Setup.{Setup}
use Rattle.sg_kernel_calls.specs.World.{Core}
use Rattle.sg_kernel_calls.specs.Steps.{stops, all_of}
use Rattle.sg_kernel.specs.Passes.{core_later, next_span, pass_at, settled_pass, stretches}
use Rattle.sg_kernel.specs.kept.Coming.{IsNextDate}
use Rattle.sg_kernel_calls.specs.kept.Sound.{is_queued, known_of, AreHeld, AreMeeting, IsSound}
use Rattle.sg_kernel_calls.specs.kept.Whole.{IsPassing, IsWhole}
use Rattle.sg_kernel_calls.proofs.Begins.{held_with, sound_with}
use Rattle.sg_kernel_calls.proofs.Each.{eq_no, eq_yes}
use Rattle.sg_kernel_calls.proofs.Moves.{roomy_less}
use Rattle.sg_kernel.proofs.Nexts.{up_to_entries}
use Rattle.sg_kernel_calls.proofs.Stated.{AreAwaiting}
use Rattle.sg_kernel.proofs.Timely.{timely_moved}
use Rattle.sg_kernel_calls.proofs.Timely.{IsTimelyAt}

-- ---- a time advance of a world whose rates are up to date
-- if nothing comes next
pub pass_none : (setup : Setup) (core : Core) → next_span setup core ≡ None → settled_pass setup core ≡ stops core [] (cond (is_running core.under) Starved Deadlock)
pass_none setup core none = ap (pass_at setup core) none

-- if the budget is used up
pub pass_used : (setup : Setup) (core : Core) (span : ℕ) → next_span setup core ≡ Some span → core.events ≡ setup.budget → settled_pass setup core ≡ stops core [] Budget
pass_used setup core span next used =
    ap (pass_at setup core) next
    ∙ ap (λ b. cond b (stops core [] Budget) (all_of (stretches setup span core) (core_later span core))) (eq_yes core.events setup.budget used)

-- and with room in the budget
pub pass_goes : (setup : Setup) (core : Core) (span : ℕ) → next_span setup core ≡ Some span → core.events ≢ setup.budget → settled_pass setup core ≡ all_of (stretches setup span core) (core_later span core)
pass_goes setup core span next go =
    ap (pass_at setup core) next
    ∙ ap (λ b. cond b (stops core [] Budget) (all_of (stretches setup span core) (core_later span core))) (eq_no core.events setup.budget go)

-- ---- whether a time advance continues is all that changes of the actors' states
pub sound_states : (fields : Fields) (states : ActorStates) → states.extent ≡ fields.states.extent → states.actors ≡ fields.states.actors → IsSound fields → IsSound (record fields { states = states })
sound_states fields states extent same was = record {
  numbered = was.numbered;
  few = was.few;
  within = was.within;
  budgeted = was.budgeted;
  hosts_counted = was.hosts_counted;
  links_counted = was.links_counted;
  homes_known = was.homes_known ∙ sym (ap length same);
  requests_known = was.requests_known ∙ sym (ap length same);
  requests_few = was.requests_few;
  extent_is = extent ∙ was.extent_is;
}

pub held_states : (fields : Fields) (doing : Doing) (states : ActorStates) → states.actors ≡ fields.states.actors → AreHeld fields → AreHeld (record fields { doing = doing; states = states })
held_states fields doing states same was = record {
  owners = was.owners;
  counts = was.counts;
  actors = was.actors ∙ sym (ap length same);
  few = was.few;
  once = was.once;
  held = λ b some. let old = was.held b some in (old.0, ap (λ (xs : List Actor). is_queued (state_at xs b.0)) same ∙ old.1);
  locking = was.locking;
  acquiring = was.acquiring;
}

meeting_states : (fields : Fields) (states : ActorStates) → states.actors ≡ fields.states.actors → AreMeeting fields → AreMeeting (record fields { states = states })
meeting_states fields states same was = record { posts = was.posts; idle = was.idle; busy = was.busy; asked = was.asked; awaited = subst (AreAwaiting (length fields.whose.whose)) (sym same) was.awaited }

-- as many actors as homes, before and after
pub actors_same : (old new : Fields) → IsSound old → IsSound new → (known_of new).setup ≡ (known_of old).setup → length new.states.actors ≡ length old.states.actors
actors_same old new was is same = sym is.homes_known ∙ ap (λ (s : Setup). length s.homes) same ∙ was.homes_known

-- ---- the rates are updated
pub whole_settled : (fields : Fields) (doing : Doing) → doing ≡ settled_in fields.doing → IsWhole fields → IsWhole (record fields { doing = doing })
whole_settled fields doing is was =
    let tasks = ap (λ (d : Doing). d.under.tasks) is in
    record {
      sound = sound_with fields doing fields.whose fields.boxes (was.sound.numbered ∙ sym (ap length tasks)) (omega (arith, was.sound.few, ap length tasks)) (ap (λ (d : Doing). d.under.capacities) is) was.sound;
      roomy = record { starts = omega (arith, was.roomy.starts, ap (λ (d : Doing). d.room) is); owners = was.roomy.owners; mailboxes = was.roomy.mailboxes; requests = was.roomy.requests };
      dated = omega (arith, was.dated, ap (λ (d : Doing). d.under.date) is);
      timely = subst (IsTimelyAt fields) (sym (ap (λ (d : Doing). d.under.date) is)) was.timely;
      limited = was.limited;
      meeting = record { posts = was.meeting.posts; idle = λ place posted. ap (λ ts. get_or ts place None) tasks ∙ was.meeting.idle place posted; busy = λ place some. ap (λ ts. is_some (get_or ts place None)) tasks ∙ was.meeting.busy place some; asked = was.meeting.asked; awaited = was.meeting.awaited };
      held = held_with fields doing fields.whose fields.boxes was.held;
      round = was.round;
    }

-- ---- the date moves
-- nothing begins as time passes
later_none : (change : Task → Task) (tasks : List (Option Task)) (place : ℕ) → get_or tasks place None ≡ None → get_or (map (option_map change) tasks) place None ≡ None
later_none change [] place e = refl
later_none change (task ∷ tasks) zero e = ap (option_map change) e
later_none change (task ∷ tasks) (suc place) e = later_none change tasks place e

later_some : (change : Task → Task) (tasks : List (Option Task)) (place : ℕ) → IsSome (get_or tasks place None) → IsSome (get_or (map (option_map change) tasks) place None)
later_some change [] place e = e
later_some change (None ∷ tasks) zero e = e
later_some change (Some task ∷ tasks) zero e = refl
later_some change (task ∷ tasks) (suc place) e = later_some change tasks place e

sound_later : (fields : Fields) (doing : Doing) (span : ℕ) → doing ≡ later_in span fields.doing → IsSound fields → IsSound (record fields { doing = doing })
sound_later fields doing span to was =
    let long : length doing.under.tasks ≡ length fields.doing.under.tasks = ap (λ (d : Doing). length d.under.tasks) to ∙ length-map fields.doing.under.tasks (option_map (passed fields.doing.under span)) in
    sound_with fields doing fields.whose fields.boxes (was.numbered ∙ sym long) (omega (arith, long, was.few)) (ap (λ (d : Doing). d.under.capacities) to) was

pub passing_began : (fields : Fields) (doing : Doing) (states : ActorStates) (date : ℕ) → IsNextDate fields date → doing ≡ later_in (date - fields.doing.under.date) fields.doing → states ≡ record fields.states { passing = true; trimmed = false } → fields.events ≢ fields.setup.budget →
    IsWhole fields → IsPassing (record fields { doing = doing; states = states })
passing_began fields doing states date next to began go was =
    let span = date - fields.doing.under.date in
    let at : doing.under.date ≡ date = omega (arith, ap (λ (d : Doing). d.under.date) to, next.from) in
    let room = ap (λ (d : Doing). d.room) to in
    let less = ap (λ (s : ActorStates). s.room) began in
    let same = ap (λ (s : ActorStates). s.actors) began in
    record {
      sound = sound_states (record fields { doing = doing }) states (ap (λ (s : ActorStates). s.extent) began) same (sound_later fields doing span to was.sound);
      roomy = record { starts = omega (arith, was.roomy.starts, room, less); owners = omega (arith, was.roomy.owners, less); mailboxes = omega (arith, was.roomy.mailboxes, less); requests = omega (arith, was.roomy.requests, less) };
      timely = subst (IsTimelyAt fields) (sym at) (timely_moved fields date was.timely next.from (up_to_entries fields date was.timely next));
      limited = was.limited;
      meeting = record {
        posts = was.meeting.posts;
        idle = λ place posted. ap (λ (d : Doing). get_or d.under.tasks place None) to ∙ later_none (passed fields.doing.under span) fields.doing.under.tasks place (was.meeting.idle place posted);
        busy = λ place some. ap (λ (d : Doing). is_some (get_or d.under.tasks place None)) to ∙ later_some (passed fields.doing.under span) fields.doing.under.tasks place (was.meeting.busy place some);
        asked = was.meeting.asked;
        awaited = subst (AreAwaiting (length fields.whose.whose)) (sym same) was.meeting.awaited;
      };
      held = held_states fields doing states same was.held;
      passing = ap (λ (s : ActorStates). s.passing) began;
      small = omega (arith, at, next.soon, was.sound.within, was.sound.budgeted, go);
    }

-- ---- the time advance has ended
pub whole_passed : (fields stopped : Fields) (states : ActorStates) (date : ℕ) → IsNextDate fields date → stopped.doing.under.date ≡ date → fields.events < stopped.events → states ≡ record stopped.states { passing = false; trimmed = false } →
    IsPassing stopped → IsWhole (record stopped { states = states })
whole_passed fields stopped states date next at more over passing =
    let same = ap (λ (s : ActorStates). s.actors) over in
    record {
      sound = sound_states stopped states (ap (λ (s : ActorStates). s.extent) over) same passing.sound;
      roomy = roomy_less stopped states stopped.states.room states.room (omega (arith, ap (λ (s : ActorStates). s.room) over)) passing.roomy;
      dated = omega (arith, at, next.soon, more);
      timely = passing.timely;
      limited = passing.limited;
      meeting = meeting_states stopped states same passing.meeting;
      held = held_states stopped stopped.doing states same passing.held;
      round = ap (λ (s : ActorStates). s.passing) over;
    }
