-- Places that are taken on one by one, by those in the queue of a kernel.
use Rattle.std.proofs.Common.{◌≡◌, ◌∙◌, sym, ap, ap₂, ℕ, ◌+◌, ◌-◌, ◌<◌, ◌≤◌, Bool, true, false, cond, List, ◌++◌, length, map, set, take, drop, get_or, Option, None, refl, inl, inr, [], arith}
use Rattle.std.specs.Prelude.{not, ◌&&◌}
use Rattle.std.proofs.lemmas.Bool.{cases_lt}
use Rattle.std.proofs.lemmas.List.{get_or-map, length-map}
use Rattle.sg_base.specs.declared.ids.ActorId.{ActorId}
use Rattle.sg_base.specs.declared.call.Answer.{Answer}
use Rattle.sg_base.specs.declared.call.Answer.TheVariants.{Start}
use Rattle.sg_base.specs.declared.call.Call.{Call}
use Rattle.sg_base.specs.declared.call.Call.TheVariants.{Ask}
use Rattle.sg_actor.specs.Seats.{SeatView, after}
use Rattle.sg_actor_states.specs.declared.state.Actor.{Actor}
use Rattle.sg_actor_states.specs.declared.state.State.{State}
use Rattle.sg_actor_states.specs.declared.state.State.TheVariants.{Unstarted, Ready, Blocked, Ended}
use Rattle.sg_actor_states.specs.Queue.{IsQueue}
use Rattle.sg_actor_states.specs.Actors.{answer_in, inbox_of, is_answered, is_ready, not_suspended}
use Rattle.sg_engine.specs.declared.actor_call.ActorCall.{ActorCall}
use Rattle.sg_engine.specs.kept.CallList.{call_list, with_call}
use Rattle.sg_engine.specs.Run.{zip_with}
use Rattle.sg_engine.specs.kept.SeatRules.{AreQueued, call_in}
use Rattle.sg_engine.proofs.Listing.{calls_next, skipped_calls, all_listed}
use Rattle.sg_engine.proofs.Merging.{merged, merged_all, skipped, was, placed, mapped_on}
use Rattle.sg_engine.proofs.Queues.{last_id, last_at, last_before, last_next, last_within, not_true, quiet, quiet_end}
use Rattle.sg_engine.proofs.SeatSteps.{length-zip_with, inbox_at, idle_calls, idle_stays}

-- the id that stands at a place of the queue
abbrev pub id_at : List ActorId → ℕ → ℕ
id_at queue k = (get_or queue k (record { 0 = 0 })).0

-- a slot without an actor
abbrev pub no_place : SeatView
no_place = record { mind = None; inbox = Start; outbox = Ask; ready = false }

-- an actor that isn't ready stays
abbrev pub IdleStay : {X : Type 0} → List Actor → List X → List X → X → Type 0
IdleStay states new old d = (j : ℕ) → j < length states → is_ready (get_or states j (not_suspended Ended)) ≡ false → get_or new j d ≡ get_or old j d

within_states : (states : List Actor) (queue : List ActorId) (k j : ℕ) → IsQueue states queue → k < length queue → j < id_at queue k - 1 → j < length states
within_states states queue k j is within to = omega (arith, to, (is.ids k (record { 0 = 0 }) within).1)

-- between two in the queue nothing is taken on
pub reach : {X : Type 0} (states : List Actor) (queue : List ActorId) (k : ℕ) (new old : List X) (d : X) → IsQueue states queue → k < length queue → length new ≡ length old → IdleStay states new old d → merged (last_id queue k) new old ≡ merged (id_at queue k - 1) new old
reach states queue k new old d is within same stay =
    skipped new old d (last_id queue k) (id_at queue k - 1) (last_before states queue k is within) same (λ j from to. stay j (within_states states queue k j is within to) (quiet states queue k j is within from to))

-- what stands at the place of the next in the queue
pub was_at : {S X : Type 0} (see : S → X) (states : List Actor) (queue : List ActorId) (k : ℕ) (now : List S) (new old : List X) (d : S) → IsQueue states queue → k < length queue → length old ≡ length states → length new ≡ length old → IdleStay states new old (see d) →
    map see now ≡ merged (last_id queue k) new old → see (get_or now (id_at queue k - 1) d) ≡ get_or old (id_at queue k - 1) (see d)
was_at see states queue k now new old d is within number same stay inv =
    let here = is.ids k (record { 0 = 0 }) within in
    was see now new old (id_at queue k - 1) d (omega (arith, here.0, here.1, number)) same (inv ∙ reach states queue k new old (see d) is within same stay)

-- it is taken on
pub stepped_on : {S X : Type 0} (see : S → X) (states : List Actor) (queue : List ActorId) (k : ℕ) (now : List S) (new old : List X) (s : S) (d : X) → IsQueue states queue → k < length queue → length old ≡ length states → length new ≡ length old → IdleStay states new old d →
    map see now ≡ merged (last_id queue k) new old → see s ≡ get_or new (id_at queue k - 1) d → map see (set now (id_at queue k - 1) s) ≡ merged (last_id queue (k + 1)) new old
stepped_on see states queue k now new old s d is within number same stay inv here =
    let ids = is.ids k (record { 0 = 0 }) within in
    placed see now new old (id_at queue k - 1) s d (omega (arith, ids.0, ids.1, number)) same (inv ∙ reach states queue k new old d is within same stay) here
    ∙ ap (λ (n : ℕ). merged n new old) (sym (last_next queue k ids.0))

-- all are
pub all_stepped : {X : Type 0} (states : List Actor) (queue : List ActorId) (k : ℕ) (new old : List X) (d : X) → IsQueue states queue → k ≤ length queue → length queue ≤ k → length old ≡ length states → length new ≡ length old → IdleStay states new old d → merged (last_id queue k) new old ≡ new
all_stepped states queue k new old d is within past number same stay =
    skipped new old d (last_id queue k) (length states) (last_within states queue k is within) same (λ j from to. stay j to (quiet_end states queue k j is within past from to))
    ∙ merged_all new old (length states) (omega (arith, number, same)) (omega (arith, number))

-- ---- answers
none_by : (suspended : Bool) (state : State) → (is_answered state && not suspended) ≡ false → cond suspended None (answer_in state) ≡ None
none_by true state idle = refl
none_by false Unstarted idle = refl
none_by false (Ready answer) idle = absurd (cc idle)
none_by false (Blocked what since on) idle = refl
none_by false Ended idle = refl

none_for : (actor : Actor) → is_ready actor ≡ false → inbox_of actor ≡ None
none_for actor idle = none_by actor.suspended actor.state idle

-- without an answer each stays
pub answers_stay : {X : Type 0} (f : X → Option Answer → X) → ((x : X) → f x None ≡ x) → (xs : List X) (states : List Actor) (d : X) → length states ≡ length xs → IdleStay states (zip_with f xs (map inbox_of states)) xs d
answers_stay f stays xs states d same j within idle = inbox_at f xs states j d d same within ∙ ap (f (get_or xs j d)) (none_for (get_or states j (not_suspended Ended)) idle) ∙ stays (get_or xs j d)

pub answers_number : {X Z : Type 0} (f : X → Option Answer → Z) (xs : List X) (states : List Actor) → length states ≡ length xs → length (zip_with f xs (map inbox_of states)) ≡ length xs
answers_number f xs states same = length-zip_with f xs (map inbox_of states) (length-map states inbox_of ∙ same)

-- ---- turns and rests
idle_at : (places : List SeatView) (states : List Actor) (j : ℕ) (d : SeatView) → AreQueued places states → length places ≡ length states → j < length states → is_ready (get_or states j (not_suspended Ended)) ≡ false → (get_or places j d).ready ≡ false
idle_at places states j d queued same within idle =
    not_true (get_or places j d).ready (λ ready. absurd (let e : true ≡ false = sym (queued j d (omega (arith, within, same)) ready) ∙ idle in cc e))

pub mapped_stay : (f : SeatView → SeatView) → ((place : SeatView) → place.ready ≡ false → f place ≡ place) → (places : List SeatView) (states : List Actor) (d : SeatView) → AreQueued places states → length places ≡ length states → IdleStay states (map f places) places d
mapped_stay f stays places states d ready same j within idle =
    get_or-map f places j d d (omega (arith, within, same)) ∙ stays (get_or places j d) (idle_at places states j d ready same within idle)

-- several take their turns in one go
pub turned_on : (states : List Actor) (queue : List ActorId) (k to : ℕ) (now new old : List SeatView) (d : SeatView) → IsQueue states queue → k < to → to ≤ length queue → length old ≡ length states → AreQueued old states → IdleStay states (map after old) old d →
    now ≡ merged (last_id queue k) (map after old) old → new ≡ take (id_at queue k - 1) now ++ (map after (drop (id_at queue k - 1) (take (id_at queue (to - 1)) now)) ++ drop (id_at queue (to - 1)) now) → new ≡ merged (last_id queue to) (map after old) old
turned_on states queue k to now new old d is less within number ready stay inv made =
    let a = id_at queue k - 1 in
    let b = id_at queue (to - 1) in
    let same = length-map old after in
    let first = is.ids k (record { 0 = 0 }) (omega (arith, less, within)) in
    let last = is.ids (to - 1) (record { 0 = 0 }) (omega (arith, less, within)) in
    let le : a ≤ b = elim (cases_lt k (to - 1)) [
      | inl before ↦ omega (arith, is.rises k (to - 1) (record { 0 = 0 }) before (omega (arith, less, within)))
      | inr at ↦ let alike : k ≡ to - 1 = omega (arith, less, at) in omega (arith, ap (id_at queue) alike)
    ] in
    let here : now ≡ merged a (map after old) old = inv ∙ reach states queue k (map after old) old d is (omega (arith, less, within)) same stay in
    made
    ∙ ap (λ (l : List SeatView). take a l ++ (map after (drop a (take b l)) ++ drop b l)) here
    ∙ mapped_on after old a b le (omega (arith, last.1, number))
    ∙ ap (λ (n : ℕ). merged n (map after old) old) (sym (last_at queue to (omega (arith, less))))

-- ---- calls
-- an actor that isn't ready has made no call
abbrev pub IdleCall : List Actor → List (Option Call) → Type 0
IdleCall states row = (j : ℕ) → j < length states → is_ready (get_or states j (not_suspended Ended)) ≡ false → get_or row j None ≡ None

-- one call more
row_next : (row : List (Option Call)) (states : List Actor) (queue : List ActorId) (k : ℕ) (items items' : List ActorCall) (call : Option Call) → IsQueue states queue → k < length queue → length row ≡ length states → IdleCall states row →
    items ≡ call_list 1 (take (last_id queue k) row) → items' ≡ items ++ with_call (id_at queue k) call [] → call ≡ get_or row (id_at queue k - 1) None → items' ≡ call_list 1 (take (last_id queue (k + 1)) row)
row_next row states queue k items items' call is within same none before added made =
    let ids = is.ids k (record { 0 = 0 }) within in
    let i = id_at queue k - 1 in
    calls_next row items items' i (id_at queue k) call (omega (arith, ids.0, ids.1, same))
    (before ∙ skipped_calls 1 row (last_id queue k) i (last_before states queue k is within) (λ j from to. none j (within_states states queue k j is within to) (quiet states queue k j is within from to)))
    added (omega (arith, ids.0)) made
    ∙ ap (λ (n : ℕ). call_list 1 (take n row)) (sym (last_next queue k ids.0))

-- all calls
row_end : (row : List (Option Call)) (states : List Actor) (queue : List ActorId) (k : ℕ) → IsQueue states queue → k ≤ length queue → length queue ≤ k → length row ≡ length states → IdleCall states row → call_list 1 (take (last_id queue k) row) ≡ call_list 1 row
row_end row states queue k is within past same none =
    skipped_calls 1 row (last_id queue k) (length states) (last_within states queue k is within) (λ j from to. none j to (quiet_end states queue k j is within past from to))
    ∙ all_listed row (length states) (omega (arith, same))

-- those that are in the slots
none_called : (places : List SeatView) (states : List Actor) (d : SeatView) → AreQueued places states → length places ≡ length states → IdleCall states (map call_in places)
none_called places states d ready same j within idle =
    get_or-map call_in places j d None (omega (arith, within, same)) ∙ idle_calls (get_or places j d) (idle_at places states j d ready same within idle)

pub called_on : (places : List SeatView) (states : List Actor) (queue : List ActorId) (k : ℕ) (items items' : List ActorCall) (call : Option Call) (d : SeatView) → IsQueue states queue → k < length queue → AreQueued places states → length places ≡ length states →
    items ≡ call_list 1 (take (last_id queue k) (map call_in places)) → items' ≡ items ++ with_call (id_at queue k) call [] → call ≡ call_in (get_or places (id_at queue k - 1) d) → items' ≡ call_list 1 (take (last_id queue (k + 1)) (map call_in places))
called_on places states queue k items items' call d is within ready same before added made =
    let ids = is.ids k (record { 0 = 0 }) within in
    row_next (map call_in places) states queue k items items' call is within (length-map places call_in ∙ same) (none_called places states d ready same) before added
    (made ∙ sym (get_or-map call_in places (id_at queue k - 1) d None (omega (arith, ids.0, ids.1, same))))

pub all_called : (places : List SeatView) (states : List Actor) (queue : List ActorId) (k : ℕ) → IsQueue states queue → k ≤ length queue → length queue ≤ k → AreQueued places states → length places ≡ length states →
    call_list 1 (take (last_id queue k) (map call_in places)) ≡ call_list 1 (map call_in places)
all_called places states queue k is within past ready same = row_end (map call_in places) states queue k is within past (length-map places call_in ∙ same) (none_called places states no_place ready same)

-- ---- as the loops have it, which read a slot and then write it
pub answer_next : {S : Type 0} (see : S → SeatView) (f : SeatView → Option Answer → SeatView) → ((place : SeatView) → f place None ≡ place) → (old now : List S) (states : List Actor) (queue : List ActorId) (k : ℕ) (r s : S) (answer : Option Answer) → IsQueue states queue → k < length queue → length old ≡ length states →
    map see now ≡ merged (last_id queue k) (zip_with f (map see old) (map inbox_of states)) (map see old) → answer ≡ inbox_of (get_or states (id_at queue k - 1) (not_suspended Ended)) → see s ≡ f (see (get_or now (id_at queue k - 1) r)) answer →
    map see (set now (id_at queue k - 1) s) ≡ merged (last_id queue (k + 1)) (zip_with f (map see old) (map inbox_of states)) (map see old)
answer_next see f stays old now states queue k r s answer is within number inv has made =
    let places = map see old in
    let new = zip_with f places (map inbox_of states) in
    let long : length places ≡ length states = length-map old see ∙ number in
    let same : length new ≡ length places = answers_number f places states (sym long) in
    let stay : IdleStay states new places (see r) = answers_stay f stays places states (see r) (sym long) in
    let ids = is.ids k (record { 0 = 0 }) within in
    let mine : see (get_or now (id_at queue k - 1) r) ≡ get_or places (id_at queue k - 1) (see r) = was_at see states queue k now new places r is within long same stay inv in
    stepped_on see states queue k now new places s (see r) is within long same stay inv
    (made ∙ ap₂ f mine has ∙ sym (inbox_at f places states (id_at queue k - 1) (see r) (see r) (sym long) (omega (arith, ids.0, ids.1))))

pub answers_end : {S : Type 0} (see : S → SeatView) (f : SeatView → Option Answer → SeatView) → ((place : SeatView) → f place None ≡ place) → (old now : List S) (states : List Actor) (queue : List ActorId) (k : ℕ) → IsQueue states queue → k ≤ length queue → length queue ≤ k → length old ≡ length states →
    map see now ≡ merged (last_id queue k) (zip_with f (map see old) (map inbox_of states)) (map see old) → map see now ≡ zip_with f (map see old) (map inbox_of states)
answers_end see f stays old now states queue k is within past number inv =
    let places = map see old in
    let long : length places ≡ length states = length-map old see ∙ number in
    inv ∙ all_stepped states queue k (zip_with f places (map inbox_of states)) places no_place is within past long (answers_number f places states (sym long)) (answers_stay f stays places states no_place (sym long))

-- a change of each place, by which those that aren't ready stay
pub change_next : {S : Type 0} (see : S → SeatView) (f : SeatView → SeatView) → ((place : SeatView) → place.ready ≡ false → f place ≡ place) → (old now : List S) (states : List Actor) (queue : List ActorId) (k : ℕ) (r s : S) → IsQueue states queue → k < length queue → length old ≡ length states → AreQueued (map see old) states →
    map see now ≡ merged (last_id queue k) (map f (map see old)) (map see old) → see s ≡ f (see (get_or now (id_at queue k - 1) r)) → map see (set now (id_at queue k - 1) s) ≡ merged (last_id queue (k + 1)) (map f (map see old)) (map see old)
change_next see f stays old now states queue k r s is within number ready inv made =
    let places = map see old in
    let long : length places ≡ length states = length-map old see ∙ number in
    let same : length (map f places) ≡ length places = length-map places f in
    let stay : IdleStay states (map f places) places (see r) = mapped_stay f stays places states (see r) ready long in
    let ids = is.ids k (record { 0 = 0 }) within in
    let mine : see (get_or now (id_at queue k - 1) r) ≡ get_or places (id_at queue k - 1) (see r) = was_at see states queue k now (map f places) places r is within long same stay inv in
    stepped_on see states queue k now (map f places) places s (see r) is within long same stay inv
    (made ∙ ap f mine ∙ sym (get_or-map f places (id_at queue k - 1) (see r) (see r) (omega (arith, ids.0, ids.1, long))))

pub changes_end : {S : Type 0} (see : S → SeatView) (f : SeatView → SeatView) → ((place : SeatView) → place.ready ≡ false → f place ≡ place) → (old now : List S) (states : List Actor) (queue : List ActorId) (k : ℕ) → IsQueue states queue → k ≤ length queue → length queue ≤ k → length old ≡ length states → AreQueued (map see old) states →
    map see now ≡ merged (last_id queue k) (map f (map see old)) (map see old) → map see now ≡ map f (map see old)
changes_end see f stays old now states queue k is within past number ready inv =
    let places = map see old in
    let long : length places ≡ length states = length-map old see ∙ number in
    inv ∙ all_stepped states queue k (map f places) places no_place is within past long (length-map places f) (mapped_stay f stays places states no_place ready long)

-- what such a slot shows when its turn comes
pub change_was : {S : Type 0} (see : S → SeatView) (f : SeatView → SeatView) → ((place : SeatView) → place.ready ≡ false → f place ≡ place) → (old now : List S) (states : List Actor) (queue : List ActorId) (k : ℕ) (r : S) → IsQueue states queue → k < length queue → length old ≡ length states → AreQueued (map see old) states →
    map see now ≡ merged (last_id queue k) (map f (map see old)) (map see old) → see (get_or now (id_at queue k - 1) r) ≡ get_or (map see old) (id_at queue k - 1) (see r)
change_was see f stays old now states queue k r is within number ready inv =
    let places = map see old in
    let long : length places ≡ length states = length-map old see ∙ number in
    was_at see states queue k now (map f places) places r is within long (length-map places f) (mapped_stay f stays places states (see r) ready long) inv

-- several slots in one go
pub turns_next : {S : Type 0} (see : S → SeatView) (old now new : List S) (states : List Actor) (queue : List ActorId) (k to : ℕ) → IsQueue states queue → k < to → to ≤ length queue → length old ≡ length states → AreQueued (map see old) states →
    map see now ≡ merged (last_id queue k) (map after (map see old)) (map see old) →
    map see new ≡ take (id_at queue k - 1) (map see now) ++ (map after (drop (id_at queue k - 1) (take (id_at queue (to - 1)) (map see now))) ++ drop (id_at queue (to - 1)) (map see now)) →
    map see new ≡ merged (last_id queue to) (map after (map see old)) (map see old)
turns_next see old now new states queue k to is less within number ready inv made =
    let places = map see old in
    let long : length places ≡ length states = length-map old see ∙ number in
    turned_on states queue k to (map see now) (map see new) places no_place is less within long ready (mapped_stay after idle_stays places states no_place ready long) inv made
