-- A communication that would begin fails in its call.
use Rattle.std.proofs.Common.{◌≡◌, ◌≢◌, ℕ, ◌-◌, ◌≤◌, Bool, true, false, cond, None, Option, List, [], ◌∷◌, length, set, zero, suc, get_or, refl, sym, ap, ap₂, subst, ◌∙◌, append-nil, arith}
use Rattle.std.specs.List.{All}
use Rattle.std.proofs.lemmas.List.{length-set}
use Rattle.std.proofs.lemmas.List.Elements.{All-set}
use Rattle.sg_base.specs.declared.ids.BoxId.{BoxId}
use Rattle.sg_base.specs.declared.ids.Serial.{Serial}
use Rattle.sg_base.specs.declared.awaits.Party.TheVariants.{Sender, Receiver}
use Rattle.sg_activity.specs.Task.{Task, is_cut, task_at}
use Rattle.sg_activity.specs.Underway.{Underway, marked, with_task}
use Rattle.sg_mailbox.specs.declared.sides.Side.{Side}
use Rattle.sg_mailbox.specs.Posts.{Posts, posts_after, waiters}
use Rattle.sg_route.specs.Route.{Route}
use Rattle.sg_kernel_calls.specs.declared.simulation_state.Fields.{Fields}
use Rattle.sg_kernel_calls.specs.declared.meetings.Comer.{Comer}
use Rattle.sg_mailbox.specs.declared.owners.How.TheVariants as how
use Rattle.sg_mailbox.specs.declared.owners.Whose.TheVariants.{Over}
use Rattle.sg_kernel_calls.specs.Answers.{answers_side, for_receiver, with_over}
use Rattle.sg_kernel_calls.specs.Known.{Known, after, after_call}
use Rattle.sg_kernel_calls.specs.Meetings.{both_fail, comer_fails, fails_with, joined, joins_on, joins_with, other_fails, receiver_of, sender_of, takes_part_failed, way_with}
use Rattle.sg_kernel_calls.specs.Steps.{Step, and_then}
use Rattle.sg_kernel_calls.specs.Setup.{Setup}
use Rattle.sg_kernel_calls.specs.World.{Core, extent}
use Rattle.sg_mailbox.specs.Owners.{Owned}
use Rattle.sg_kernel_calls.specs.kept.Sound.{core_of, IsOwner}
use Rattle.sg_kernel_calls.specs.kept.Whole.{IsWhole, IsWholeFor}
use Rattle.sg_kernel_calls.proofs.Begins.{held_with, sound_with}
use Rattle.sg_kernel_calls.proofs.Each.{both_on, then_after}
use Rattle.sg_kernel_calls.proofs.Finishes.{answers_side_goes}
use Rattle.sg_kernel_calls.proofs.Meets.{AreBusy, AreTold, AreIdle, busy_over, idle_over, made_more, told_met}
use Rattle.sg_kernel_calls.proofs.Mets.{IsMet, takes_part_on}
use Rattle.sg_kernel_calls.proofs.Stated.{awaiting_more}

-- ---- nothing stops it
cond_goes : (b : Bool) (one other : Step) → one.stop ≡ None → other.stop ≡ None → (cond b one other).stop ≡ None
cond_goes true one other e f = e
cond_goes false one other e f = f

comer_goes : (comer : Comer) (serial : ℕ) (other : Side) (core : Core) → (comer_fails comer serial other core).stop ≡ None
comer_goes comer serial other core = cases comer.waits
  where
    cases : (b : Bool) → (takes_part_failed b comer serial (sender_of comer other).bytes core).stop ≡ None
    cases true = refl
    cases false = refl

other_goes : (comer : Comer) (serial : ℕ) (other : Side) (core : Core) → (other_fails comer serial other core).stop ≡ None
other_goes comer serial other core =
    cond_goes comer.sends (answers_side how.Failed serial Receiver (for_receiver comer.side other) core) (answers_side how.Failed serial Sender other core) (answers_side_goes how.Failed serial Receiver (for_receiver comer.side other) core) (answers_side_goes how.Failed serial Sender other core)

fails_goes : (comer : Comer) (serial : Serial) (other : Side) (core : Core) → (fails_with comer serial other core).stop ≡ None
fails_goes comer serial other core =
    let over = with_over how.Failed serial.0 core in
    cond_goes comer.sends (and_then (comer_fails comer serial.0 other over) (other_fails comer serial.0 other)) (and_then (other_fails comer serial.0 other over) (comer_fails comer serial.0 other))
    (both_on (comer_fails comer serial.0 other over) (other_fails comer serial.0 other) (comer_goes comer serial.0 other over) (other_goes comer serial.0 other))
    (both_on (other_fails comer serial.0 other over) (comer_fails comer serial.0 other) (other_goes comer serial.0 other over) (comer_goes comer serial.0 other))

pub joins_goes : (route : Route) (setup : Setup) (comer : Comer) (serial : Serial) (other : Side) (core : Core) → (joins_on route setup comer serial other core).stop ≡ None
joins_goes route setup comer serial other core =
    cond_goes (is_cut core.under.on (way_with route setup comer other)) (fails_with comer serial other core) (joins_with route setup comer serial other core) (fails_goes comer serial other core)
    (takes_part_on comer.waits comer serial.0 (joined setup serial.0 route (sender_of comer other) (receiver_of comer other) core))

-- ---- it isn't running
set_none : (tasks : List (Option Task)) (place : ℕ) → get_or tasks place None ≡ None → set tasks place None ≡ tasks
set_none [] place e = refl
set_none (task ∷ tasks) zero e = ap (λ t. t ∷ tasks) (sym e)
set_none (task ∷ tasks) (suc place) e = ap (λ l. task ∷ l) (set_none tasks place e)

pub untouched : (under : Underway) (serial : ℕ) → task_at under.tasks serial ≡ None → with_task serial None under ≡ under
untouched under serial none =
    ap₂ (λ tasks marks. record under { tasks = tasks; marks = marks }) (set_none under.tasks (serial - 1) none)
    (ap (λ t. marked under.capacities serial t None under.marks) none ∙ ap (λ ended. record under.marks { ended = ended }) (append-nil under.marks.ended))

pub over_is : (fields : Fields) (serial : ℕ) (whose : Owned) → task_at fields.doing.under.tasks serial ≡ None → whose ≡ record { whose = set fields.whose.whose (serial - 1) (Over how.Failed); room = fields.whose.room - 1 } →
    record (core_of fields) { whose = whose.whose } ≡ with_over how.Failed serial (core_of fields)
over_is fields serial whose none owned =
    ap₂ (λ w u. record (core_of fields) { whose = w; under = u }) (ap (λ (o : Owned). o.whose) owned) (sym (untouched fields.doing.under serial none))

-- ---- both are answered, the sending one first
pub comer_first : (known mid next : Known) (comer : Comer) (serial : ℕ) (other : Side) → comer.sends ≡ true → mid ≡ after_call true (comer_fails comer serial other known.core) known → next ≡ after (other_fails comer serial other mid.core) mid →
    next ≡ after_call true (both_fail comer serial other known.core) known
comer_first known mid next comer serial other sends one two =
    two
    ∙ ap (λ (k : Known). after (other_fails comer serial other k.core) k) one
    ∙ ap (λ (k : Known). record k { room = known.room - 1 }) (then_after (comer_fails comer serial other known.core) (other_fails comer serial other) known (comer_goes comer serial other known.core))
    ∙ ap (λ b. after_call true (cond b (and_then (comer_fails comer serial other known.core) (other_fails comer serial other)) (and_then (other_fails comer serial other known.core) (comer_fails comer serial other))) known) (sym sends)

pub other_first : (known mid next : Known) (comer : Comer) (serial : ℕ) (other : Side) → comer.sends ≡ false → mid ≡ after (other_fails comer serial other known.core) known → next ≡ after_call true (comer_fails comer serial other mid.core) mid →
    next ≡ after_call true (both_fail comer serial other known.core) known
other_first known mid next comer serial other sends one two =
    two
    ∙ ap (λ (k : Known). after_call true (comer_fails comer serial other k.core) k) one
    ∙ ap (λ (k : Known). record k { room = known.room - 1 }) (then_after (other_fails comer serial other known.core) (comer_fails comer serial other) known (other_goes comer serial other known.core))
    ∙ ap (λ b. after_call true (cond b (and_then (comer_fails comer serial other known.core) (other_fails comer serial other)) (and_then (other_fails comer serial other known.core) (comer_fails comer serial other))) known) (sym sends)

-- ---- what is kept
pub whole_unmet : (fields : Fields) (comer : Comer) (serial : Serial) (other : Side) (next : Serial) (whose : Owned) (boxes : Posts) → IsMet fields comer serial other → IsWhole fields
    → whose ≡ record { whose = set fields.whose.whose (serial.0 - 1) (Over how.Failed); room = fields.whose.room - 1 }
    → waiters boxes comer.mailbox ≡ posts_after comer.sends comer.side next (waiters fields.boxes comer.mailbox) → ((there : BoxId) → there ≢ comer.mailbox → waiters boxes there ≡ waiters fields.boxes there)
    → fields.states.room - 1 ≤ boxes.room → IsWholeFor (fields.states.room - 1) (record fields { whose = whose; boxes = boxes })
whole_unmet fields comer serial other next whose boxes m was owned there elsewhere room =
    let w = Over how.Failed in
    let e = extent fields.setup in
    let owners = ap (λ (o : Owned). o.whose) owned in
    let many = ap length owners ∙ length-set fields.whose.whose (serial.0 - 1) w in
    let more : length fields.whose.whose ≤ length whose.whose = omega (arith, many) in
    let told : AreTold boxes (set fields.whose.whose (m.post.serial.0 - 1) w) =
    told_met fields.boxes boxes comer.mailbox comer.sends comer.side next fields.whose.whose m.post w m.found refl there elsewhere was.meeting.posts in
    record {
      sound = sound_with fields fields.doing whose boxes (many ∙ was.sound.numbered) was.sound.few refl was.sound;
      roomy = record { starts = omega (arith, was.roomy.starts); owners = omega (arith, was.roomy.owners, ap (λ (o : Owned). o.room) owned); mailboxes = room; requests = omega (arith, was.roomy.requests) };
      dated = was.dated;
      timely = was.timely;
      limited = subst (All (IsOwner e)) (sym owners) (All-set (IsOwner e) fields.whose.whose (serial.0 - 1) w tt was.limited);
      meeting = record {
        posts = subst (AreTold boxes) (ap (λ (s : Serial). set fields.whose.whose (s.0 - 1) w) m.serial_is ∙ sym owners) told;
        idle = subst (λ l. AreIdle l fields.doing.under.tasks) (sym owners) (idle_over fields.whose.whose fields.doing.under.tasks (serial.0 - 1) w m.idle was.meeting.idle);
        busy = subst (λ l. AreBusy l fields.doing.under.tasks) (sym owners) (busy_over fields.whose.whose fields.doing.under.tasks (serial.0 - 1) how.Failed was.meeting.busy);
        asked = made_more (length fields.whose.whose) (length whose.whose) fields.requests.queues more was.meeting.asked;
        awaited = awaiting_more (length fields.whose.whose) (length whose.whose) fields.states.actors more was.meeting.awaited;
      };
      held = held_with fields fields.doing whose boxes was.held;
      round = was.round;
    }
