-- What stays the same as actors and executions are suspended and resumed.
use Rattle.std.proofs.Common.{◌≡◌, ℕ, zero, suc, ◌-◌, ◌≤◌, Bool, true, false, cond, Option, None, Some, List, [], ◌∷◌, length, set, get_or, refl, sym, ap, subst, ◌∙◌, arith}
use Rattle.std.specs.Prelude.{is_some, option_map}
use Rattle.std.proofs.lemmas.List.{length-set}
use Rattle.sg_activity_table.specs.declared.kinds.PhaseKind.{PhaseKind}
use Rattle.sg_activity.specs.Doing.{Doing}
use Rattle.sg_activity.specs.Task.{Task, rekinded}
use Rattle.sg_activity.specs.Underway.{Underway, gone_on, held, is_computing, is_kept, with_phase_kind}
use Rattle.sg_actor_states.specs.declared.state.Actor.{Actor}
use Rattle.sg_actor_states.specs.declared.state.State.TheVariants.{Ended}
use Rattle.sg_actor_states.specs.Actors.{blocking_in, is_answered, not_suspended, put_suspended, state_at}
use Rattle.sg_actor_states.specs.States.{ActorStates, with_suspended}
use Rattle.sg_kernel_calls.specs.declared.simulation_state.Fields.{Fields}
use Rattle.sg_kernel_calls.specs.Suspensions.{held_to}
use Rattle.sg_kernel_calls.specs.kept.Sound.{is_queued, AwaitsMade}
use Rattle.sg_kernel_calls.specs.kept.Waking.{LeavesCallers}
use Rattle.sg_kernel_calls.specs.kept.Whole.{IsWholeFor}
use Rattle.sg_kernel_calls.proofs.Begins.{held_with, sound_with}
use Rattle.sg_kernel_calls.proofs.Timely.{IsTimelyAt}

-- ---- executions
-- as much is running
pub record IsLike (old new : Underway) : Type 0 where
  pub date : new.date ≡ old.date
  pub capacities : new.capacities ≡ old.capacities
  pub long : length new.tasks ≡ length old.tasks
  pub there : (place : ℕ) → is_some (get_or new.tasks place None) ≡ is_some (get_or old.tasks place None)

like_same : (under : Underway) → IsLike under under
like_same under = record { date = refl; capacities = refl; long = refl; there = λ place. refl }

mapped : (f : Task → Task) (t : Option Task) → is_some (option_map f t) ≡ is_some t
mapped f None = refl
mapped f (Some task) = refl

turned_there : (f : Task → Task) (tasks : List (Option Task)) (i place : ℕ) → is_some (get_or (set tasks i (option_map f (get_or tasks i None))) place None) ≡ is_some (get_or tasks place None)
turned_there f [] i place = refl
turned_there f (t ∷ tasks) zero zero = mapped f t
turned_there f (t ∷ tasks) zero (suc place) = refl
turned_there f (t ∷ tasks) (suc i) zero = refl
turned_there f (t ∷ tasks) (suc i) (suc place) = turned_there f tasks i place

pub like_turned : (kind : PhaseKind) (serial : ℕ) (under : Underway) → IsLike under (with_phase_kind kind serial under)
like_turned kind serial under = record {
  date = refl;
  capacities = refl;
  long = length-set under.tasks (serial - 1) _;
  there = turned_there (rekinded kind) under.tasks (serial - 1);
}

like_if : (b : Bool) (under next : Underway) → IsLike under next → IsLike under (cond b next under)
like_if true under next like = like
like_if false under next like = like_same under

pub like_held : (on : Bool) (serial : ℕ) (under : Underway) → IsLike under (held_to on serial under)
like_held true serial under = like_if (is_computing under serial) under (held serial under) (like_turned _ serial under)
like_held false serial under = like_if (is_kept under serial) under (gone_on serial under) (like_turned _ serial under)

is_none : (t : Option Task) → is_some t ≡ false → t ≡ None
is_none None e = refl
is_none (Some task) e = absurd (cc e)

pub whole_like : (fields : Fields) (room less : ℕ) (doing : Doing) → IsLike fields.doing.under doing.under → less ≤ doing.room → less ≤ room → IsWholeFor room fields → IsWholeFor less (record fields { doing = doing })
whole_like fields room less doing like starts le was = record {
  sound = sound_with fields doing fields.whose fields.boxes (was.sound.numbered ∙ sym like.long) (omega (arith, was.sound.few, like.long)) like.capacities was.sound;
  roomy = record { starts = starts; owners = omega (arith, le, was.roomy.owners); mailboxes = omega (arith, le, was.roomy.mailboxes); requests = omega (arith, le, was.roomy.requests) };
  dated = omega (arith, was.dated, like.date);
  timely = subst (IsTimelyAt fields) (sym like.date) was.timely;
  limited = was.limited;
  meeting = record {
    posts = was.meeting.posts;
    idle = λ place e. is_none (get_or doing.under.tasks place None) (like.there place ∙ ap is_some (was.meeting.idle place e));
    busy = λ place e. like.there place ∙ was.meeting.busy place e;
    asked = was.meeting.asked;
    awaited = was.meeting.awaited;
  };
  held = held_with fields doing fields.whose fields.boxes was.held;
  round = was.round;
}

-- for fewer calls
pub whole_less : (fields : Fields) (room less : ℕ) → less ≤ room → IsWholeFor room fields → IsWholeFor less fields
whole_less fields room less le was =
    whole_like fields room less fields.doing (like_same fields.doing.under) (omega (arith, le, was.roomy.starts)) le was

-- ---- actors
suspended_there : (on : Bool) (actors : List Actor) (i place : ℕ) → (get_or (set actors i (record { state = (get_or actors i (not_suspended Ended)).state; suspended = on })) place (not_suspended Ended)).state ≡ (get_or actors place (not_suspended Ended)).state
suspended_there on [] i place = refl
suspended_there on (a ∷ actors) zero zero = refl
suspended_there on (a ∷ actors) zero (suc place) = refl
suspended_there on (a ∷ actors) (suc i) zero = refl
suspended_there on (a ∷ actors) (suc i) (suc place) = suspended_there on actors i place

-- all do what they did
suspended_state : (on : Bool) (actors : List Actor) (target actor : ℕ) → state_at (put_suspended actors target on) actor ≡ state_at actors actor
suspended_state on actors target actor = suspended_there on actors (target - 1) (actor - 1)

suspended_long : (on : Bool) (actors : List Actor) (target : ℕ) → length (put_suspended actors target on) ≡ length actors
suspended_long on actors target = length-set actors (target - 1) _

-- an actor that may make a call may make it still
pub callers_suspended : (states : ActorStates) (target : ℕ) (on : Bool) → LeavesCallers states (with_suspended target on states)
callers_suspended states target on = record {
  actors = suspended_long on states.actors target;
  callers = λ actor may. record {
    caller = record {
      from = may.caller.from;
      to = omega (arith, may.caller.to, suspended_long on states.actors target);
      ready = ap is_answered (suspended_state on states.actors target actor) ∙ may.caller.ready;
    };
    room = may.room;
    round = may.round;
  };
}

pub whole_suspended : (fields : Fields) (room target : ℕ) (on : Bool) → IsWholeFor room fields → IsWholeFor room (record fields { states = with_suspended target on fields.states })
whole_suspended fields room target on was =
    let actors = fields.states.actors in
    let long = suspended_long on actors target in
    let sound = was.sound in
    let held = was.held in
    record {
      sound = record {
        numbered = sound.numbered;
        few = sound.few;
        within = sound.within;
        budgeted = sound.budgeted;
        hosts_counted = sound.hosts_counted;
        links_counted = sound.links_counted;
        homes_known = sound.homes_known ∙ sym long;
        requests_known = sound.requests_known ∙ sym long;
        requests_few = sound.requests_few;
        extent_is = sound.extent_is;
      };
      roomy = record { starts = was.roomy.starts; owners = was.roomy.owners; mailboxes = was.roomy.mailboxes; requests = was.roomy.requests };
      dated = was.dated;
      timely = was.timely;
      limited = was.limited;
      meeting = record {
        posts = was.meeting.posts;
        idle = was.meeting.idle;
        busy = was.meeting.busy;
        asked = was.meeting.asked;
        awaited = λ actor. subst (λ s. AwaitsMade (length fields.whose.whose) (blocking_in s)) (sym (suspended_state on actors target actor)) (was.meeting.awaited actor);
      };
      held = record {
        owners = held.owners;
        counts = held.counts;
        actors = held.actors ∙ sym long;
        few = held.few;
        once = held.once;
        held = λ actor some. let old = held.held actor some in (old.0, ap is_queued (suspended_state on actors target actor.0) ∙ old.1);
        locking = held.locking;
        acquiring = held.acquiring;
      };
      round = was.round;
    }
