-- What is kept, as there is more room.
use Rattle.std.proofs.Common.{◌≡◌, ◌≤◌, List, length, get_or, None, sym, ap, subst, ◌∙◌, arith}
use Rattle.std.specs.List.{All}
use Rattle.std.specs.Prelude.{is_some}
use Rattle.sg_base.specs.declared.awaits.Await.{Await}
use Rattle.sg_base.specs.declared.ids.BoxId.{BoxId}
use Rattle.sg_activity.specs.Doing.{Doing}
use Rattle.sg_activity.specs.Underway.{Underway}
use Rattle.sg_mailbox.specs.Posts.{Posts, waiters}
use Rattle.sg_requests.specs.Requested.{Requested}
use Rattle.sg_actor_states.specs.declared.state.Actor.{Actor}
use Rattle.sg_actor_states.specs.Actors.{state_at}
use Rattle.sg_actor_states.specs.States.{ActorStates}
use Rattle.sg_kernel_calls.specs.declared.simulation_state.Fields.{Fields}
use Rattle.sg_mailbox.specs.declared.owners.How.TheVariants as how
use Rattle.sg_mailbox.specs.declared.owners.Whose.{Whose}
use Rattle.sg_mailbox.specs.declared.owners.Whose.TheVariants.{Over}
use Rattle.sg_kernel_calls.specs.World.{extent}
use Rattle.sg_kernel_calls.specs.Meetings.{posts_from}
use Rattle.sg_mailbox.specs.Owners.{Owned}
use Rattle.sg_kernel_calls.specs.kept.Sound.{is_idle, is_queued, IsMade, IsOwner}
use Rattle.sg_kernel_calls.specs.kept.Whole.{IsWhole}
use Rattle.sg_kernel_calls.proofs.Stated.{AreAwaiting}
use Rattle.sg_kernel_calls.proofs.Timely.{IsTimelyAt}

-- how much room there is, is all that changed
pub record IsRoomier (fields : Fields) (doing : Doing) (whose : Owned) (boxes : Posts) (requests : Requested) (states : ActorStates) : Type 0 where
  pub tasks : doing.under ≡ fields.doing.under
  pub owners : whose.whose ≡ fields.whose.whose
  pub mailboxes : (mailbox : BoxId) → waiters boxes mailbox ≡ waiters fields.boxes mailbox
  pub queues : requests.queues ≡ fields.requests.queues
  pub asked : requests.asked ≡ fields.requests.asked
  pub actors : states.actors ≡ fields.states.actors
  pub extent_is : states.extent ≡ fields.states.extent
  pub passing : states.passing ≡ fields.states.passing
  pub starts_room : states.room ≤ doing.room
  pub owners_room : states.room ≤ whose.room
  pub mailboxes_room : states.room ≤ boxes.room
  pub requests_room : states.room ≤ requests.room

pub whole_roomier : (fields : Fields) (doing : Doing) (whose : Owned) (boxes : Posts) (requests : Requested) (states : ActorStates) → IsRoomier fields doing whose boxes requests states → IsWhole fields → IsWhole (record fields { doing = doing; whose = whose; boxes = boxes; requests = requests; states = states })
whole_roomier fields doing whose boxes requests states is was =
    let sound = was.sound in
    let held = was.held in
    let tasks = ap (λ (u : Underway). length u.tasks) is.tasks in
    record {
      sound = record {
        numbered = ap length is.owners ∙ sound.numbered ∙ sym tasks;
        few = omega (arith, tasks, sound.few);
        within = sound.within;
        budgeted = sound.budgeted;
        hosts_counted = ap (λ (u : Underway). length u.capacities.hosts) is.tasks ∙ sound.hosts_counted;
        links_counted = ap (λ (u : Underway). length u.capacities.links) is.tasks ∙ sound.links_counted;
        homes_known = sound.homes_known ∙ sym (ap length is.actors);
        requests_known = ap length is.queues ∙ sound.requests_known ∙ sym (ap length is.actors);
        requests_few = omega (arith, is.asked, sound.requests_few);
        extent_is = is.extent_is ∙ sound.extent_is;
      };
      roomy = record { starts = is.starts_room; owners = is.owners_room; mailboxes = is.mailboxes_room; requests = is.requests_room };
      dated = omega (arith, ap (λ (u : Underway). u.date) is.tasks, was.dated);
      timely = subst (IsTimelyAt fields) (sym (ap (λ (u : Underway). u.date) is.tasks)) was.timely;
      limited = subst (All (IsOwner (extent fields.setup))) (sym is.owners) was.limited;
      meeting = record {
        posts = λ mailbox. is.mailboxes mailbox ∙ was.meeting.posts mailbox ∙ sym (ap (posts_from mailbox 1) is.owners);
        idle = λ place posted. ap (λ (u : Underway). get_or u.tasks place None) is.tasks ∙ was.meeting.idle place (sym (ap (λ (l : List Whose). is_idle (get_or l place (Over how.Done))) is.owners) ∙ posted);
        busy = λ place some. ap (λ (u : Underway). is_some (get_or u.tasks place None)) is.tasks ∙ was.meeting.busy place (sym (ap (λ (l : List Whose). is_idle (get_or l place (Over how.Done))) is.owners) ∙ some);
        awaited = subst (λ n. AreAwaiting n states.actors) (sym (ap length is.owners)) (subst (AreAwaiting (length fields.whose.whose)) (sym is.actors) was.meeting.awaited);
        asked =
            subst (λ (q : List (List Await)). All (λ (queue : List Await). All (IsMade (length whose.whose)) queue) q) (sym is.queues)
            (subst (λ (l : List Whose). All (λ (queue : List Await). All (IsMade (length l)) queue) fields.requests.queues) (sym is.owners) was.meeting.asked);
      };
      held = record {
        owners = held.owners;
        counts = held.counts;
        actors = held.actors ∙ sym (ap length is.actors);
        few = held.few;
        once = held.once;
        held = λ b some. let old = held.held b some in (old.0, ap (λ (xs : List Actor). is_queued (state_at xs b.0)) is.actors ∙ old.1);
        locking = held.locking;
        acquiring = held.acquiring;
      };
      round = is.passing ∙ was.round;
    }
