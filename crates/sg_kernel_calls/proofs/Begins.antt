-- What is kept, as an activity begins: all except the room of the call that is answered so.
use Rattle.std.proofs.Common.{◌≡◌, ℕ, ◌-◌, ◌<◌, ◌≤◌, ◌++◌, ◌∷◌, [], Some, length, sym, ap, subst, ◌∙◌, arith}
use Rattle.std.specs.List.{All}
use Rattle.std.proofs.lemmas.List.{length-append}
use Rattle.std.proofs.lemmas.List.Elements.{All-push}
use Rattle.sg_base.specs.declared.ids.ActorId.{ActorId}
use Rattle.sg_base.specs.Limits.{IsActorIn}
use Rattle.sg_activity.specs.Doing.{Doing, started_in}
use Rattle.sg_activity.specs.Links.{Capacities}
use Rattle.sg_activity.specs.Task.{Task}
use Rattle.sg_mailbox.specs.Posts.{Posts}
use Rattle.sg_kernel_calls.specs.declared.simulation_state.Fields.{Fields}
use Rattle.sg_mailbox.specs.declared.owners.Whose.TheVariants.{Alone}
use Rattle.sg_kernel_calls.specs.World.{extent}
use Rattle.sg_mailbox.specs.Owners.{Owned}
use Rattle.sg_kernel_calls.specs.kept.Sound.{AreHeld, IsOwner, IsSound}
use Rattle.sg_kernel_calls.specs.kept.Whole.{IsWholeFor}
use Rattle.sg_kernel_calls.proofs.PostsKept.{meeting_more}
use Rattle.sg_kernel_calls.proofs.Timely.{IsTimelyAt}

-- with other activities, waiters and mailboxes
pub sound_with : (fields : Fields) (doing : Doing) (whose : Owned) (boxes : Posts) → length whose.whose ≡ length doing.under.tasks → length doing.under.tasks ≤ fields.events → doing.under.capacities ≡ fields.doing.under.capacities → IsSound fields → IsSound (record fields { doing = doing; whose = whose; boxes = boxes })
sound_with fields doing whose boxes numbered few same was = record {
  numbered = numbered;
  few = few;
  within = was.within;
  budgeted = was.budgeted;
  hosts_counted = ap (λ (c : Capacities). length c.hosts) same ∙ was.hosts_counted;
  links_counted = ap (λ (c : Capacities). length c.links) same ∙ was.links_counted;
  homes_known = was.homes_known;
  requests_known = was.requests_known;
  requests_few = was.requests_few;
  extent_is = was.extent_is;
}

pub held_with : (fields : Fields) (doing : Doing) (whose : Owned) (boxes : Posts) → AreHeld fields → AreHeld (record fields { doing = doing; whose = whose; boxes = boxes })
held_with fields doing whose boxes was = record { owners = was.owners; counts = was.counts; actors = was.actors; few = was.few; once = was.once; held = was.held; locking = was.locking; acquiring = was.acquiring }

-- an execution or a sleep
pub whole_begun : (fields : Fields) (room : ℕ) (actor : ActorId) (task : Task) (doing : Doing) (whose : Owned) → IsActorIn (extent fields.setup) actor → length fields.doing.under.tasks < fields.events → doing ≡ started_in task fields.doing
    → whose ≡ record { whose = fields.whose.whose ++ Alone actor ∷ []; room = fields.whose.room - 1 } → IsWholeFor room fields → IsWholeFor (room - 1) (record fields { doing = doing; whose = whose })
whole_begun fields room actor task doing whose is fresh begun owned was =
    let tasks : doing.under.tasks ≡ fields.doing.under.tasks ++ Some task ∷ [] = ap (λ (d : Doing). d.under.tasks) begun in
    let owners : whose.whose ≡ fields.whose.whose ++ Alone actor ∷ [] = ap (λ (o : Owned). o.whose) owned in
    let long = ap length tasks ∙ length-append fields.doing.under.tasks (Some task ∷ []) in
    let many = ap length owners ∙ length-append fields.whose.whose (Alone actor ∷ []) in
    let e = extent fields.setup in
    record {
      sound = sound_with fields doing whose fields.boxes (omega (arith, long, many, was.sound.numbered)) (omega (arith, long, fresh)) (ap (λ (d : Doing). d.under.capacities) begun) was.sound;
      roomy = record { starts = omega (arith, was.roomy.starts, ap (λ (d : Doing). d.room) begun); owners = omega (arith, was.roomy.owners, ap (λ (o : Owned). o.room) owned); mailboxes = omega (arith, was.roomy.mailboxes); requests = omega (arith, was.roomy.requests) };
      dated = omega (arith, was.dated, ap (λ (d : Doing). d.under.date) begun);
      timely = subst (IsTimelyAt fields) (sym (ap (λ (d : Doing). d.under.date) begun)) was.timely;
      limited = subst (All (IsOwner e)) (sym owners) (All-push (IsOwner e) fields.whose.whose (Alone actor) was.limited is);
      meeting = meeting_more fields whose doing actor task was.sound.numbered owners tasks was.meeting;
      held = held_with fields doing whose fields.boxes was.held;
      round = was.round;
    }
