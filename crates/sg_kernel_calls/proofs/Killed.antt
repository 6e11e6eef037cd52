-- An actor is killed: what is kept, and what is known.
use Rattle.std.proofs.Common.{◌≡◌, ◌≢◌, ℕ, zero, suc, ◌+◌, ◌-◌, ◌<◌, ◌≤◌, ◌==◌, ◌^◌, not, Bool, true, false, true≢false, cond, IsTrue, inl, inr, Option, None, Some, List, [], ◌∷◌, ◌++◌, length, map, filter, set, get_or, refl, sym, ap, ap₂, subst, ◌∙◌, append-nil, drop, drop-cons, add-one, arith}
use Rattle.std.specs.Prelude.{option_to_list, nat_lt, IfSome, IsSome}
use Rattle.std.specs.List.{All}
use Rattle.std.proofs.lemmas.Bool.{cases_eq}
use Rattle.std.proofs.lemmas.List.{length-set, length-map}
use Rattle.std.proofs.lemmas.List.Elements.{All-append, All-cons, All-head, All-nil, All-set, All-tail, filter-append}
use Rattle.sg_base.specs.declared.awaits.Await.{Await}
use Rattle.sg_base.specs.declared.call.Answer.TheVariants as answer
use Rattle.sg_base.specs.declared.call.Call.TheVariants as call
use Rattle.sg_base.specs.declared.ids.ActorId.{ActorId}
use Rattle.sg_base.specs.declared.ids.BoxId.{BoxId}
use Rattle.sg_base.specs.declared.ids.Serial.{Serial}
use Rattle.sg_base.specs.declared.trace_record.Record.{Record}
use Rattle.sg_activity.specs.Doing.{Doing, gave_up}
use Rattle.sg_activity.specs.Task.{Task, task_at}
use Rattle.sg_activity.specs.Underway.{Underway}
use Rattle.sg_mailbox.specs.declared.sides.Post.{Post}
use Rattle.sg_mailbox.specs.Posts as mail
use Rattle.sg_mailbox.specs.Posts.{Posts, box_eq, waiters}
use Rattle.sg_requests.specs.Requested.{Requested, rising_numbers_with, queue_at, rising_numbers, serial_of, without_requests}
use Rattle.sg_actor_states.specs.declared.state.Actor.{Actor}
use Rattle.sg_actor_states.specs.declared.state.Blocking.{Blocking}
use Rattle.sg_actor_states.specs.declared.state.State.TheVariants.{Ready, Ended}
use Rattle.sg_actor_states.specs.Actors.{blocking_in, is_answered, put_state, state_at}
use Rattle.sg_actor_states.specs.Records.{record_of, IsTellable}
use Rattle.sg_actor_states.specs.States.{ActorStates, CanCall, by_call, with_reply, with_state}
use Rattle.sg_sync.specs.Objects as sync
use Rattle.sg_sync.specs.Objects.{Objects}
use Rattle.sg_sync.specs.Sync.{SyncState}
use Rattle.sg_sync.specs.Queues.{without}
use Rattle.sg_sync.proofs.Counts.{id_same}
use Rattle.sg_sync.proofs.Leaving.{times_stays, waits_nowhere, waits_stays}
use Rattle.sg_kernel_calls.specs.declared.simulation_state.Fields.{Fields}
use Rattle.sg_mailbox.specs.declared.owners.How.TheVariants as how
use Rattle.sg_mailbox.specs.declared.owners.Whose.{Whose}
use Rattle.sg_mailbox.specs.declared.owners.Whose.TheVariants.{Over, Alone, Posted, Pair}
use Rattle.sg_kernel_calls.specs.Answers.{answers, finishes, with_over}
use Rattle.sg_kernel_calls.specs.Kills.{awaited, blocked_on, gives_up, kill_done, withdrawn}
use Rattle.sg_kernel_calls.specs.Known.{Known, after, after_call}
use Rattle.sg_kernel_calls.specs.Meetings.{post_in, posts_from}
use Rattle.sg_kernel_calls.specs.Steps.{Step, goes_on, follows, and_then, each, all_of, at_once}
use Rattle.sg_kernel_calls.specs.World.{Core, IsActor, extent, state_of, whose_at}
use Rattle.sg_kernel_calls.specs.kept.Killing.{killed_by, AreSerials}
use Rattle.sg_mailbox.specs.Owners.{Owned}
use Rattle.sg_kernel_calls.specs.kept.Sound.{core_of, is_idle, is_posted, is_queued, known_of, AwaitsMade, IsMade, IsOwner, IsSound}
use Rattle.sg_kernel_calls.specs.kept.Whole.{CanStep, IsWhole, IsWholeFor}
use Rattle.sg_kernel_calls.proofs.Alone.{gives_up_goes, kill_done_goes}
use Rattle.sg_kernel_calls.proofs.Begins.{held_with, sound_with}
use Rattle.sg_kernel_calls.proofs.Each.{all_of-two, each_on, eq_no, eq_yes, still_none, still_one, then_after}
use Rattle.sg_kernel_calls.proofs.Meets.{AreBusy, AreIdle, busy_over, idle_over, made_at, made_more, AreMade}
use Rattle.sg_kernel_calls.proofs.Moves.{moves_long, sound_moved, whole_moved, Moves}
use Rattle.sg_kernel_calls.proofs.PostsKept.{meeting_gone}
use Rattle.sg_kernel_calls.proofs.Stated.{awaiting_more, awaiting_state, state_other, AreAwaiting}
use Rattle.sg_kernel_calls.proofs.Timely.{IsTimelyAt}
use Rattle.sg_kernel_calls.proofs.Unmet.{untouched}
use Rattle.sg_kernel_calls.proofs.Waiting.{still_held}

-- ---- an endpoint leaves its mailbox
abbrev stays : Serial → Post → Bool
stays serial post = not (post.serial.0 == serial.0)

not_same : (a b : ℕ) → a ≢ b → not (a == b) ≡ true
not_same a b apart = ap not (eq_no a b apart)

one_stays : (mailbox : BoxId) (n : ℕ) (x : Whose) (serial : Serial) → n ≢ serial.0 → filter (stays serial) (option_to_list (post_in mailbox n x)) ≡ option_to_list (post_in mailbox n x)
one_stays mailbox n (Over before) serial apart = refl
one_stays mailbox n (Alone actor) serial apart = refl
one_stays mailbox n (Pair sender receiver) serial apart = refl
one_stays mailbox n (Posted there sends side) serial apart = by (box_eq mailbox there)
  where
    p : Post
    p = record { serial = record { 0 = n }; sends = sends; side = side }

    by : (b : Bool) → filter (stays serial) (option_to_list (cond b (Some p) None)) ≡ option_to_list (cond b (Some p) None)
    by true = ap (λ b. cond b (p ∷ []) []) (not_same n serial.0 apart)
    by false = refl

one_leaves : (mailbox : BoxId) (n : ℕ) (x : Whose) (serial : Serial) → n ≡ serial.0 → filter (stays serial) (option_to_list (post_in mailbox n x)) ≡ []
one_leaves mailbox n (Over before) serial same = refl
one_leaves mailbox n (Alone actor) serial same = refl
one_leaves mailbox n (Pair sender receiver) serial same = refl
one_leaves mailbox n (Posted there sends side) serial same = by (box_eq mailbox there)
  where
    p : Post
    p = record { serial = record { 0 = n }; sends = sends; side = side }

    by : (b : Bool) → filter (stays serial) (option_to_list (cond b (Some p) None)) ≡ []
    by true = ap (λ b. cond (not b) (p ∷ []) []) (eq_yes n serial.0 same)
    by false = refl

-- all with later ids stay
later_stay : (mailbox : BoxId) (n : ℕ) (whose : List Whose) (serial : Serial) → serial.0 < n → filter (stays serial) (posts_from mailbox n whose) ≡ posts_from mailbox n whose
unfolding posts_from
later_stay mailbox n [] serial below = refl
later_stay mailbox n (x ∷ whose) serial below =
    let first = option_to_list (post_in mailbox n x) in
    let rest = posts_from mailbox (n + 1) whose in
    filter-append (stays serial) first rest
    ∙ ap (λ l. l ++ filter (stays serial) rest) (one_stays mailbox n x serial (λ e. omega (arith, e, below)))
    ∙ ap (λ l. first ++ l) (later_stay mailbox (n + 1) whose serial (omega (arith, below)))

not_told : (mailbox : BoxId) (n : ℕ) (w : Whose) → is_posted w ≡ false → post_in mailbox n w ≡ None
not_told mailbox n (Over over) e = refl
not_told mailbox n (Alone a) e = refl
not_told mailbox n (Posted m s d) e = absurd (true≢false e)
not_told mailbox n (Pair s r) e = refl

-- the activity that it was becomes one that isn't posted
left_is : (mailbox : BoxId) (n i : ℕ) (whose : List Whose) (serial : Serial) (w : Whose) → is_posted w ≡ false → serial.0 ≡ n + i → mail.posts_without serial (posts_from mailbox n whose) ≡ posts_from mailbox n (set whose i w)
unfolding posts_from
left_is mailbox n i [] serial w isnt same = refl
left_is mailbox n zero (x ∷ whose) serial w isnt same =
    let first = option_to_list (post_in mailbox n x) in
    let rest = posts_from mailbox (n + 1) whose in
    filter-append (stays serial) first rest
    ∙ ap (λ l. l ++ filter (stays serial) rest) (one_leaves mailbox n x serial (omega (arith, same)))
    ∙ later_stay mailbox (n + 1) whose serial (omega (arith, same))
    ∙ ap (λ o. option_to_list o ++ rest) (sym (not_told mailbox n w isnt))
left_is mailbox n (suc i) (x ∷ whose) serial w isnt same =
    let first = option_to_list (post_in mailbox n x) in
    let rest = posts_from mailbox (n + 1) whose in
    filter-append (stays serial) first rest
    ∙ ap (λ l. l ++ filter (stays serial) rest) (one_stays mailbox n x serial (λ e. omega (arith, e, same)))
    ∙ ap (λ l. first ++ l) (left_is mailbox (n + 1) i whose serial w isnt (omega (arith, same)))

-- ---- an activity fails
pub posted_isnt_over : (whose : List Whose) (place : ℕ) → IsTrue (is_posted (get_or whose place (Over how.Done))) → get_or whose place (Over how.Done) ≢ Over how.Done
posted_isnt_over whose place posted e = true≢false (sym posted ∙ ap is_posted e)

pub busy_isnt_over : (whose : List Whose) (place : ℕ) → is_idle (get_or whose place (Over how.Done)) ≡ false → get_or whose place (Over how.Done) ≢ Over how.Done
busy_isnt_over whose place busy e = true≢false (sym (ap is_idle e) ∙ busy)

posted_idle : (w : Whose) → IsTrue (is_posted w) → IsTrue (is_idle w)
posted_idle (Over before) e = refl
posted_idle (Alone actor) e = e
posted_idle (Posted mailbox sends side) e = refl
posted_idle (Pair sender receiver) e = e

-- nothing that is posted is running
pub posted_none : (fields : Fields) (serial : ℕ) → IsTrue (is_posted (whose_at (core_of fields) serial)) → IsWhole fields → task_at fields.doing.under.tasks serial ≡ None
posted_none fields serial posted whole = whole.meeting.idle (serial - 1) (posted_idle (whose_at (core_of fields) serial) posted)

pub whole_posted : (fields : Fields) (room : ℕ) (serial : Serial) (whose : Owned) (boxes : Posts) → 0 < serial.0 → task_at fields.doing.under.tasks serial.0 ≡ None → whose ≡ record fields.whose { whose = set fields.whose.whose (serial.0 - 1) (Over how.Failed) }
    → ((mailbox : BoxId) → waiters boxes mailbox ≡ mail.posts_without serial (waiters fields.boxes mailbox)) → boxes.room ≡ fields.boxes.room → IsWholeFor room fields → IsWholeFor room (record fields { whose = whose; boxes = boxes })
whole_posted fields room serial whose boxes from none owned gone same was =
    let place = serial.0 - 1 in
    let e = extent fields.setup in
    let owners = ap (λ (o : Owned). o.whose) owned in
    let many = ap length owners ∙ length-set fields.whose.whose place (Over how.Failed) in
    let more : length fields.whose.whose ≤ length whose.whose = omega (arith, many) in
    record {
      sound = sound_with fields fields.doing whose boxes (many ∙ was.sound.numbered) was.sound.few refl was.sound;
      roomy = record { starts = was.roomy.starts; owners = omega (arith, was.roomy.owners, ap (λ (o : Owned). o.room) owned); mailboxes = omega (arith, was.roomy.mailboxes, same); requests = was.roomy.requests };
      dated = was.dated;
      timely = was.timely;
      limited = subst (All (IsOwner e)) (sym owners) (All-set (IsOwner e) fields.whose.whose place (Over how.Failed) tt was.limited);
      meeting = record {
        posts = λ mailbox. gone mailbox ∙ ap (mail.posts_without serial) (was.meeting.posts mailbox) ∙ left_is mailbox 1 place fields.whose.whose serial (Over how.Failed) refl (omega (arith, from)) ∙ sym (ap (posts_from mailbox 1) owners);
        idle = subst (λ l. AreIdle l fields.doing.under.tasks) (sym owners) (idle_over fields.whose.whose fields.doing.under.tasks place (Over how.Failed) none was.meeting.idle);
        busy = subst (λ l. AreBusy l fields.doing.under.tasks) (sym owners) (busy_over fields.whose.whose fields.doing.under.tasks place how.Failed was.meeting.busy);
        asked = made_more (length fields.whose.whose) (length whose.whose) fields.requests.queues more was.meeting.asked;
        awaited = awaiting_more (length fields.whose.whose) (length whose.whose) fields.states.actors more was.meeting.awaited;
      };
      held = held_with fields fields.doing whose boxes was.held;
      round = was.round;
    }

-- the actor that posted it isn't answered
answers_none : (serial : ℕ) (w : Whose) (core : Core) → IsTrue (is_posted w) → answers how.Failed serial w core ≡ goes_on core []
answers_none serial (Over before) core e = refl
answers_none serial (Alone actor) core e = absurd (true≢false (sym e))
answers_none serial (Posted mailbox sends side) core e = refl
answers_none serial (Pair sender receiver) core e = absurd (true≢false (sym e))

-- if nothing is made
pub nothing_made : (known : Known) (core : Core) → record known { core = core } ≡ after (goes_on core []) known
nothing_made known core = ap (λ r. record known { core = core; records = r }) (sym (append-nil known.records))

pub posted_known : (fields : Fields) (serial : ℕ) (whose : Owned) → IsTrue (is_posted (whose_at (core_of fields) serial)) → task_at fields.doing.under.tasks serial ≡ None → whose ≡ record fields.whose { whose = set fields.whose.whose (serial - 1) (Over how.Failed) }
    → record (known_of fields) { core = record (core_of fields) { whose = whose.whose } } ≡ after (finishes how.Failed serial (core_of fields)) (known_of fields)
posted_known fields serial whose posted none owned =
    let core = core_of fields in
    let known = known_of fields in
    ap₂ (λ (w : List Whose) (u : Underway). record known { core = record core { whose = w; under = u } }) (ap (λ (o : Owned). o.whose) owned) (sym (untouched fields.doing.under serial none))
    ∙ nothing_made known (with_over how.Failed serial core)
    ∙ ap (λ s. after s known) (sym (answers_none serial (whose_at core serial) (with_over how.Failed serial core) posted))

some_task : (slot : Option Task) → IsSome slot → (task : Task) × (slot ≡ Some task)
some_task None e = absurd (true≢false (sym e))
some_task (Some task) e = (task, refl)

pub whole_failed : (fields : Fields) (room serial : ℕ) (whose : Owned) (doing : Doing) → is_idle (whose_at (core_of fields) serial) ≡ false → whose ≡ record fields.whose { whose = set fields.whose.whose (serial - 1) (Over how.Failed) } → doing ≡ gave_up serial fields.doing →
    IsWholeFor room fields → IsWholeFor room (record fields { whose = whose; doing = doing })
whole_failed fields room serial whose doing busy owned gone was =
    let owners = ap (λ (o : Owned). o.whose) owned in
    let tasks = ap (λ (d : Doing). d.under.tasks) gone in
    let long = ap length tasks ∙ length-set fields.doing.under.tasks (serial - 1) None in
    let many = ap length owners ∙ length-set fields.whose.whose (serial - 1) (Over how.Failed) in
    let e = extent fields.setup in
    let task = some_task (task_at fields.doing.under.tasks serial) (was.meeting.busy (serial - 1) busy) in
    record {
      sound = sound_with fields doing whose fields.boxes (many ∙ was.sound.numbered ∙ sym long) (omega (arith, was.sound.few, long)) (ap (λ (d : Doing). d.under.capacities) gone) was.sound;
      roomy = record {
        starts = omega (arith, was.roomy.starts, ap (λ (d : Doing). d.room) gone);
        owners = omega (arith, was.roomy.owners, ap (λ (o : Owned). o.room) owned);
        mailboxes = was.roomy.mailboxes;
        requests = was.roomy.requests;
      };
      dated = omega (arith, was.dated, ap (λ (d : Doing). d.under.date) gone);
      timely = subst (IsTimelyAt fields) (sym (ap (λ (d : Doing). d.under.date) gone)) was.timely;
      limited = subst (All (IsOwner e)) (sym owners) (All-set (IsOwner e) fields.whose.whose (serial - 1) (Over how.Failed) tt was.limited);
      meeting = meeting_gone fields whose doing how.Failed (serial - 1) task.0 task.1 owners tasks was.meeting;
      held = held_with fields doing whose fields.boxes was.held;
      round = was.round;
    }

-- ---- what the target awaited
entered_all : (P : ℕ → Type 0) (n : ℕ) (xs : List ℕ) → P n → All P xs → All P (rising_numbers_with n xs)
unfolding rising_numbers_with
entered_all P n [] one all = All-cons P n [] one all
entered_all P n (m ∷ more) one all = by (nat_lt n m) (n == m) (entered_all P n more one (All-tail P m more all))
  where
    by : (less same : Bool) → All P (rising_numbers_with n more) → All P (cond less (n ∷ m ∷ more) (cond same (m ∷ more) (m ∷ rising_numbers_with n more)))
    by true same rest = All-cons P n (m ∷ more) one all
    by false true rest = all
    by false false rest = All-cons P m (rising_numbers_with n more) (All-head P m more all) rest

rising_all : (P : ℕ → Type 0) (xs : List ℕ) → All P xs → All P (rising_numbers xs)
unfolding rising_numbers
rising_all P [] all = all
rising_all P (n ∷ more) all = entered_all P n (rising_numbers more) (All-head P n more all) (rising_all P more (All-tail P n more all))

made_one : (made : ℕ) (on : Option Await) → IfSome on (IsMade made) → All (IsMade made) (option_to_list on)
made_one made None is = All-nil (IsMade made)
made_one made (Some on) is = All-cons (IsMade made) on [] is (All-nil (IsMade made))

made_blocked : (made : ℕ) (blocking : Option Blocking) → AwaitsMade made blocking → All (IsMade made) (option_to_list (blocked_on blocking))
made_blocked made None is = All-nil (IsMade made)
made_blocked made (Some blocking) is = made_one made blocking.on is

made_serials : (made : ℕ) (requests : List Await) → All (IsMade made) requests → AreSerials made (map serial_of requests)
made_serials made [] all = All-nil (λ serial. (0 < serial) × (serial ≤ made))
made_serials made (request ∷ requests) all =
    let is = All-head (IsMade made) request requests all in
    All-cons (λ serial. (0 < serial) × (serial ≤ made)) (serial_of request) (map serial_of requests) (is.from, is.to) (made_serials made requests (All-tail (IsMade made) request requests all))

-- these are activities that were made
pub awaited_made : (fields : Fields) (target : ActorId) → IsWhole fields → AreSerials (length fields.whose.whose) (awaited target (core_of fields))
awaited_made fields target whole =
    let made = length fields.whose.whose in
    let queue = queue_at fields.requests.queues target.0 in
    let blocking = blocking_in (state_of (core_of fields) target.0) in
    let on = option_to_list (blocked_on blocking) in
    let all : All (IsMade made) (on ++ queue) = All-append (IsMade made) on queue (made_blocked made blocking (whole.meeting.awaited target.0)) (made_at made fields.requests.queues (target.0 - 1) whole.meeting.asked) in
    rising_all (λ serial. (0 < serial) × (serial ≤ made)) (map serial_of (on ++ queue)) (made_serials made (on ++ queue) all)

-- one of them
pub serial_at : (made : ℕ) (serials now : List ℕ) (i : ℕ) → now ≡ serials → i < length serials → AreSerials made serials → (0 < get_or now i 0) × (get_or now i 0 ≤ made)
serial_at made serials now i same within are = subst (λ l. (0 < get_or l i 0) × (get_or l i 0 ≤ made)) (sym same) (are i 0 within)

-- ---- one after another
pub gives_up_none : (known : Known) → after (each gives_up [] known.core) known ≡ known
gives_up_none known = still_none gives_up known

pub gives_up_more : (serials now : List ℕ) (i : ℕ) (serial : ℕ) (known next : Known) → now ≡ serials → i < length serials → serial ≡ get_or now i 0 → next ≡ after (gives_up serial known.core) known → after (each gives_up (drop (i + 1) serials) next.core) next ≡ after (each gives_up (drop i serials) known.core) known
gives_up_more serials now i serial known next same within at is =
    let here : drop i serials ≡ serial ∷ drop (i + 1) serials =
    drop-cons serials i 0 within ∙ ap₂ (λ n k. n ∷ drop k serials) (ap (λ l. get_or l i 0) (sym same) ∙ sym at) (sym (add-one i)) in
    ap (λ (k : Known). after (each gives_up (drop (i + 1) serials) k.core) k) is
    ∙ still_one gives_up serial (drop (i + 1) serials) known (gives_up_goes serial known.core)
    ∙ ap (λ l. after (each gives_up l known.core) known) (sym here)

-- ---- the target ends
others_wait : (o : Objects) (target other : ActorId) → other.0 ≢ target.0 → sync.waiting (sync.after_withdrawal target o) other ≡ sync.waiting o other
others_wait o target other apart =
    omega (arith, waits_stays target other o.locking apart, waits_stays target other o.acquiring apart, times_stays target other o.arrived apart)

waits_no_more : (o : Objects) (target other : ActorId) → 0 < sync.waiting (sync.after_withdrawal target o) other → other.0 ≢ target.0
waits_no_more o target other some same =
    let none : sync.waiting (sync.after_withdrawal target o) other ≡ 0 = ap (sync.waiting (sync.after_withdrawal target o)) (id_same other target same) ∙ waits_nowhere o target in
    omega (arith, some, none)

-- it waits nowhere any more, and has no requests
pub whole_withdrawn : (fields : Fields) (states : ActorStates) (target : ActorId) (requests : Requested) (objects : SyncState) → 0 < target.0 → Moves fields.states states target.0 Ended → states.room ≤ fields.states.room
    → requests ≡ record fields.requests { queues = without_requests fields.requests.queues target.0; awaited = requests.awaited } → objects.objects ≡ sync.after_withdrawal target fields.objects.objects → IsWhole fields → IsWhole (record fields { states = states; requests = requests; objects = objects })
whole_withdrawn fields states target requests objects from moves le asked left was =
    let sound = sound_moved fields states target.0 Ended moves was.sound in
    let queues = ap (λ (r : Requested). r.queues) asked in
    let n = length fields.whose.whose in
    let held = was.held in
    let waits : (other : ActorId) → sync.waiting objects.objects other ≡ sync.waiting (sync.after_withdrawal target fields.objects.objects) other = λ other. ap (λ o. sync.waiting o other) left in
    record {
      sound = record {
        numbered = sound.numbered;
        few = sound.few;
        within = sound.within;
        budgeted = sound.budgeted;
        hosts_counted = sound.hosts_counted;
        links_counted = sound.links_counted;
        homes_known = sound.homes_known;
        requests_known = ap length queues ∙ length-set fields.requests.queues (target.0 - 1) [] ∙ sound.requests_known;
        requests_few = omega (arith, sound.requests_few, ap (λ (r : Requested). r.asked) asked);
        extent_is = sound.extent_is;
      };
      roomy = record {
        starts = omega (arith, le, was.roomy.starts);
        owners = omega (arith, le, was.roomy.owners);
        mailboxes = omega (arith, le, was.roomy.mailboxes);
        requests = omega (arith, le, was.roomy.requests, ap (λ (r : Requested). r.room) asked);
      };
      dated = was.dated;
      timely = was.timely;
      limited = was.limited;
      meeting = record {
        posts = was.meeting.posts;
        idle = was.meeting.idle;
        busy = was.meeting.busy;
        asked = subst (AreMade n) (sym queues) (All-set (λ (queue : List Await). All (IsMade n) queue) fields.requests.queues (target.0 - 1) [] (All-nil (IsMade n)) was.meeting.asked);
        awaited = subst (AreAwaiting n) (sym moves.actors) (awaiting_state n fields.states.actors target.0 Ended tt was.meeting.awaited);
      };
      held = record {
        owners = ap (λ (o : Objects). length o.owners) left ∙ held.owners;
        counts = ap (λ (o : Objects). length o.counts) left ∙ held.counts;
        actors = ap (λ (o : Objects). o.actors) left ∙ held.actors ∙ sym (moves_long fields.states states target.0 Ended moves);
        few = subst (All (λ count. count ≤ 10 ^ 9 + fields.events)) (sym (ap (λ (o : Objects). o.counts) left)) held.few;
        once = λ other. elim (cases_eq other.0 target.0) [
          | inl same ↦ omega (arith, waits other, ap (sync.waiting (sync.after_withdrawal target fields.objects.objects)) (id_same other target same), waits_nowhere fields.objects.objects target)
          | inr apart ↦ omega (arith, waits other, others_wait fields.objects.objects target other apart, held.once other)
        ];
        held = λ other some.
            let apart = waits_no_more fields.objects.objects target other (omega (arith, some, waits other)) in
            let old = held.held other (omega (arith, some, waits other, others_wait fields.objects.objects target other apart)) in
            (old.0, subst (λ (xs : List Actor). IsTrue (is_queued (state_at xs other.0))) (sym moves.actors) (still_held fields.states.actors target other Ended from old.0.0 apart old.1));
        locking = ap (λ (o : Objects). length o.locking) left ∙ length-map fields.objects.objects.locking (without target) ∙ held.locking;
        acquiring = ap (λ (o : Objects). length o.acquiring) left ∙ length-map fields.objects.objects.acquiring (without target) ∙ held.acquiring;
      };
      round = moves.passing ∙ was.round;
    }

-- a record may name the kill
pub kill_told : (fields : Fields) (target : ActorId) → IsSound fields → IsActor (core_of fields) target.0 → IsTellable (extent fields.setup) (call.Kill target)
kill_told fields target sound is = record { told = tt; call = (is.from, omega (arith, is.to, sound.homes_known)) }

-- what is known once the caller is answered, or is the one that ends
pub killed_known : (known : Known) (core : Core) (actor : ℕ) (target : ActorId) (old new : ActorStates) (date : ℕ) → new ≡ killed_by actor target date old → core.actors ≡ old.actors → core.under.date ≡ date → known.records ≡ old.records
    → record known { core = record (withdrawn target core) { actors = new.actors }; records = new.records; room = known.room - 1 } ≡ after_call true (kill_done actor target (withdrawn target core)) known
killed_known known core actor target old new date is actors at records = by (actor == target.0) refl is
  where
    gone : Core
    gone = withdrawn target core

    by : (b : Bool) → (actor == target.0) ≡ b → new ≡ cond b (by_call actor Ended old) (record (with_reply actor (call.Kill target) date 0 answer.Done date (with_state target.0 Ended old)) { room = old.room - 1 })
        → record known { core = record gone { actors = new.actors }; records = new.records; room = known.room - 1 } ≡ after_call true (cond b (goes_on gone []) (at_once actor (call.Kill target) 0 answer.Done gone)) known
    by true same e =
        let equal : actor ≡ target.0 = grind (arith, same) in
        let ended : new.actors ≡ put_state core.actors target.0 Ended = ap (λ (s : ActorStates). s.actors) e ∙ ap₂ (λ (xs : List Actor) n. put_state xs n Ended) (sym actors) equal in
        let told : new.records ≡ known.records ++ [] = ap (λ (s : ActorStates). s.records) e ∙ sym records ∙ sym (append-nil known.records) in
        ap₂ (λ (xs : List Actor) (rs : List Record). record known { core = record gone { actors = xs }; records = rs; room = known.room - 1 }) ended told
    by false same e =
        let ended : new.actors ≡ put_state (put_state core.actors target.0 Ended) actor (Ready answer.Done) = ap (λ (s : ActorStates). s.actors) e ∙ ap (λ (xs : List Actor). put_state (put_state xs target.0 Ended) actor (Ready answer.Done)) (sym actors) in
        let told : new.records ≡ known.records ++ record_of actor (call.Kill target) core.under.date 0 answer.Done core.under.date ∷ [] = ap (λ (s : ActorStates). s.records) e ∙ ap₂ (λ (rs : List Record) d. rs ++ record_of actor (call.Kill target) d 0 answer.Done d ∷ []) (sym records) (sym at) in
        ap₂ (λ (xs : List Actor) (rs : List Record). record known { core = record gone { actors = xs }; records = rs; room = known.room - 1 }) ended told

pub killed_room : (old new : ActorStates) (actor : ℕ) (target : ActorId) (date : ℕ) → new ≡ killed_by actor target date old → new.room ≡ old.room - 1
killed_room old new actor target date is = ap (λ (s : ActorStates). s.room) is ∙ by (actor == target.0)
  where
    by : (b : Bool) → (cond b (by_call actor Ended old) (record (with_reply actor (call.Kill target) date 0 answer.Done date (with_state target.0 Ended old)) { room = old.room - 1 })).room ≡ old.room - 1
    by true = refl
    by false = refl

-- all that holds before holds after
pub whole_killed : (fields : Fields) (states : ActorStates) (actor : ℕ) (target : ActorId) (date : ℕ) (requests : Requested) (objects : SyncState) → CanStep fields actor → IsActor (core_of fields) target.0 → states ≡ killed_by actor target date fields.states
    → requests ≡ record fields.requests { queues = without_requests fields.requests.queues target.0; awaited = requests.awaited } → objects.objects ≡ sync.after_withdrawal target fields.objects.objects → IsWhole (record fields { states = states; requests = requests; objects = objects })
whole_killed fields states actor target date requests objects able there is asked left = by (actor == target.0) refl is
  where
    old : ActorStates
    old = fields.states

    mid : ActorStates
    mid = with_state target.0 Ended old

    by : (b : Bool) → (actor == target.0) ≡ b → states ≡ cond b (by_call actor Ended old) (record (with_reply actor (call.Kill target) date 0 answer.Done date mid) { room = old.room - 1 }) → IsWhole (record fields { states = states; requests = requests; objects = objects })
    by true same e =
        let equal : actor ≡ target.0 = grind (arith, same) in
        let moves : Moves old states target.0 Ended = record {
          extent = ap (λ (s : ActorStates). s.extent) e;
          actors = ap (λ (s : ActorStates). s.actors) e ∙ ap (λ n. put_state old.actors n Ended) equal;
          passing = ap (λ (s : ActorStates). s.passing) e;
        } in
        whole_withdrawn fields states target requests objects there.from moves (omega (arith, ap (λ (s : ActorStates). s.room) e)) asked left able.whole
    by false same e =
        let ends : Moves old mid target.0 Ended = record { extent = refl; actors = refl; passing = refl } in
        let ended = whole_withdrawn fields mid target requests objects there.from ends (omega arith) asked left able.whole in
        let apart : actor ≢ target.0 = grind (arith, same) in
        let caller = able.call.caller in
        let call : CanCall mid actor = record {
          caller = record {
            from = caller.from;
            to = omega (arith, caller.to, moves_long old mid target.0 Ended ends);
            ready = ap is_answered (state_other old.actors target.0 actor Ended there.from caller.from apart) ∙ caller.ready;
          };
          room = able.call.room;
          round = able.call.round;
        } in
        let moves : Moves mid states actor (Ready answer.Done) = record { extent = ap (λ (s : ActorStates). s.extent) e; actors = ap (λ (s : ActorStates). s.actors) e; passing = ap (λ (s : ActorStates). s.passing) e } in
        whole_moved (record fields { states = mid; requests = requests; objects = objects }) old.room states (record { 0 = actor }) (Ready answer.Done) call tt moves (omega (arith, ap (λ (s : ActorStates). s.room) e)) ended

-- ---- the three stretches of a kill
three_after : (a b d : Core → Step) (core : Core) (known mid next last : Known) → (a core).stop ≡ None → ((c : Core) → (b c).stop ≡ None) → mid ≡ after_call true (a core) known → next ≡ after (b mid.core) mid → last ≡ after (d next.core) next →
    last ≡ after_call true (all_of (a ∷ b ∷ d ∷ []) core) known
unfolding all_of
three_after a b d core known mid next last goes on first second third =
    let rest : Core → Step = λ c. and_then (b c) d in
    third
    ∙ ap (λ (k : Known). after (d k.core) k) second
    ∙ then_after (b mid.core) d mid (on mid.core)
    ∙ ap (λ (k : Known). after (rest k.core) k) first
    ∙ ap (λ (k : Known). record k { room = known.room - 1 }) (then_after (a core) rest known goes)
    ∙ ap (λ (s : Step). after_call true (follows (a core).stop (a core) s) known) (sym (all_of-two b d (a core).core))

pub kill_known : (actor : ℕ) (target : ActorId) (serials : List ℕ) (wakes : Core → Step) (core : Core) (known mid next last : Known) → mid ≡ after_call true (kill_done actor target core) known → next ≡ after (each gives_up serials mid.core) mid → last ≡ after (wakes next.core) next →
    last ≡ after_call true (all_of (kill_done actor target ∷ each gives_up serials ∷ wakes ∷ []) core) known
kill_known actor target serials wakes core known mid next last first second third =
    three_after (kill_done actor target) (each gives_up serials) wakes core known mid next last (kill_done_goes actor target core) (each_on gives_up gives_up_goes serials) first second third
