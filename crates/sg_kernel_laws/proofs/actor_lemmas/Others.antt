-- What others' calls and time advances keep of an actor that isn't blocked.
use Rattle.std.proofs.Common.{◌≡◌, ◌≢◌, ◌⊎◌, ℕ, zero, suc, ◌+◌, ◌-◌, ◌==◌, Bool, true, false, true≢false, cond, IsTrue, inl, inr, Option, None, Some, Result, Ok, Err, List, [], ◌∷◌, length, set, get_or, refl, sym, ap, subst, ◌∙◌, arith}
use Rattle.std.proofs.lemmas.Bool.{cases_eq}
use Rattle.std.proofs.lemmas.List.{get_or-set_other}
use Rattle.sg_base.specs.declared.awaits.Await.{Await}
use Rattle.sg_base.specs.declared.awaits.Party.TheVariants.{Sender, Receiver}
use Rattle.sg_base.specs.declared.call.Answer.{Answer}
use Rattle.sg_base.specs.declared.call.Answer.TheVariants as answer
use Rattle.sg_base.specs.declared.call.Call.{Call}
use Rattle.sg_base.specs.declared.call.Call.TheVariants as call
use Rattle.sg_base.specs.declared.ids.ActorId.{ActorId}
use Rattle.sg_activity.specs.Links.{is_off}
use Rattle.sg_activity.specs.Task.{is_cut}
use Rattle.sg_mailbox.specs.declared.sides.Post.{Post}
use Rattle.sg_mailbox.specs.declared.sides.Side.{Side}
use Rattle.sg_mailbox.specs.Posts.{partner}
use Rattle.sg_requests.specs.Requested.{oldest, queue_at, queues_without_oldest, without_requests}
use Rattle.sg_route.specs.declared.router.RouteFault.{RouteFault}
use Rattle.sg_route.specs.Roads.{Roads}
use Rattle.sg_route.specs.Route.{Route}
use Rattle.sg_actor_states.specs.declared.state.Actor.{Actor}
use Rattle.sg_actor_states.specs.declared.state.Blocking.{Blocking}
use Rattle.sg_actor_states.specs.declared.state.State.{State}
use Rattle.sg_actor_states.specs.declared.state.State.TheVariants.{Ended}
use Rattle.sg_actor_states.specs.Actors.{actor_at, blocking_in, is_alive, is_ended, is_unstarted, not_suspended, put_state, put_suspended, state_at}
use Rattle.sg_actor_states.specs.Records.{record_of}
use Rattle.sg_sync.specs.declared.outcome.Outcome.{Outcome}
use Rattle.sg_sync.specs.declared.outcome.Outcome.TheVariants.{GoesOn, Waits, Refused}
use Rattle.sg_sync.specs.Objects.{Done, locked, unlocked, acquired, released, arrived}
use Rattle.sg_kernel_calls.specs.declared.meetings.Comer.{Comer}
use Rattle.sg_mailbox.specs.declared.owners.How.TheVariants as how
use Rattle.sg_kernel_calls.specs.declared.stop.Stop.{Stop}
use Rattle.sg_kernel_calls.specs.Answers.{answers_side, for_receiver, side_of, with_over}
use Rattle.sg_kernel_calls.specs.Calls.{answered_call, computes, executed, executes}
use Rattle.sg_kernel_calls.specs.Kills.{awaited, gives_up, kill_done, kill_stretches, kills, kills_alive, withdrawn}
use Rattle.sg_kernel_calls.specs.Lives.{begins, created, joins_by, with_actor_ended}
use Rattle.sg_kernel_calls.specs.Locks.{all_wake, caller_first, caller_gets, caller_last, joiners_wake, with_objects}
use Rattle.sg_kernel_calls.specs.Meetings.{answer_of_over, both_fail, comer_fails, comes, comes_by, fails_with, joined, joins_over, joins_with, other_fails, posted, posts_at, receiver_of, receives_by, route_between, sender_of, sends_by, takes_part, takes_part_failed, waits_by, waits_until, way_with}
use Rattle.sg_kernel_calls.specs.Steps.{Step, goes_on, counted, and_then, each, all_of, at_once, blocked_by}
use Rattle.sg_kernel_calls.specs.Suspensions.{held_by, held_if, held_on, suspended_to}
use Rattle.sg_kernel_calls.specs.Setup.{Setup}
use Rattle.sg_kernel_calls.specs.World.{Core, host_of, is_suspended, state_of, whose_at, with_suspended}
use Rattle.sg_kernel_laws.specs.actors.Dead.{IsOfAnother}
use Rattle.sg_kernel_laws.proofs.actor_lemmas.Kept.{Kept, Closed, Replying, Flowing, still, one_made, either, both, each_kept, none_kept, more_kept, all_kept, joiners_kept, side_kept, gives_up_kept}
use Rattle.sg_base.specs.Turn.{actor_of}

-- ---- one actor, and another
abbrev pub Apart : ℕ → ℕ → Type 0
Apart resting actor = resting - 1 ≢ actor - 1

-- one of a list takes another place
pub set_there : {X : Type 0} (P : X → Type 0) (xs : List X) (i place : ℕ) (new d : X) → (place ≡ i → P new) → P (get_or xs place d) → P (get_or (set xs i new) place d)
set_there P [] i place new d p q = q
set_there P (x ∷ xs) zero zero new d p q = p refl
set_there P (x ∷ xs) zero (suc place) new d p q = q
set_there P (x ∷ xs) (suc i) zero new d p q = q
set_there P (x ∷ xs) (suc i) (suc place) new d p q = set_there P xs i place new d (λ e. p (ap suc e)) q

pub same_state : (actors : List Actor) (resting actor : ℕ) → resting - 1 ≡ actor - 1 → state_at actors resting ≡ state_at actors actor
same_state actors resting actor same = ap (λ k. (get_or actors k (not_suspended Ended)).state) same

pub another : (resting actor : ℕ) → Apart resting actor → actor ≢ resting
another resting actor apart same = apart (ap (λ n. n - 1) (sym same))

-- ---- what stays of one that isn't blocked, while others call
-- it holds of the state and the requests of an actor that isn't blocked and has begun, and still does once it was killed
pub record Rests (Q : State → List Await → Type 0) : Type 0 where
  pub unblocked : (state : State) (queue : List Await) → Q state queue → blocking_in state ≡ None
  pub begun : (state : State) (queue : List Await) → Q state queue → is_unstarted state ≡ false
  pub killed : (state : State) (queue : List Await) → Q state queue → is_alive state ≡ true → Q Ended []

abbrev pub Stays : ℕ → (State → List Await → Type 0) → Core → Type 0
Stays one Q core = Q (state_of core one) (queue_at core.requests one)

pub put_stays : (actors : List Actor) (queue : List Await) (one : ℕ) (Q : State → List Await → Type 0) (actor : ℕ) (new : Actor) → Apart one actor → Q (state_at actors one) queue → Q (get_or (set actors (actor - 1) new) (one - 1) (not_suspended Ended)).state queue
put_stays actors queue one Q actor new apart q = subst (λ state. Q state queue) (sym (ap (λ (a : Actor). a.state) (get_or-set_other actors (actor - 1) (one - 1) new (not_suspended Ended) apart))) q

-- another has other requests
queue_stays : (state : State) (queues : List (List Await)) (one : ℕ) (Q : State → List Await → Type 0) (actor : ℕ) (new : List Await) → Apart one actor → Q state (queue_at queues one) → Q state (queue_at (set queues (actor - 1) new) one)
queue_stays state queues one Q actor new apart q = subst (Q state) (sym (get_or-set_other queues (actor - 1) (one - 1) new [] apart)) q

-- it is no other that is blocked, or never began
apart_blocked : (core : Core) (actor one : ℕ) (Q : State → List Await → Type 0) → Rests Q → (blocking : Blocking) → blocking_in (state_of core actor) ≡ Some blocking → Stays one Q core → Apart one actor
apart_blocked core actor one Q rests blocking is q same = absurd (cc (sym is ∙ ap blocking_in (sym (same_state core.actors one actor same)) ∙ rests.unblocked (state_of core one) (queue_at core.requests one) q))

pub apart_fresh : (core : Core) (actor one : ℕ) (Q : State → List Await → Type 0) → Rests Q → IsTrue (is_unstarted (state_of core actor)) → Stays one Q core → Apart one actor
apart_fresh core actor one Q rests fresh q same = true≢false (sym fresh ∙ ap is_unstarted (sym (same_state core.actors one actor same)) ∙ rests.begun (state_of core one) (queue_at core.requests one) q)

pub replying : (resting : ℕ) (Q : State → List Await → Type 0) (rests : Rests Q) → Replying (Stays resting Q) (IsOfAnother resting)
replying resting Q rests = record {
  replies = λ actor blocking bytes given core is e.
      let apart = apart_blocked core actor resting Q rests blocking is e in
      one_made (Stays resting Q) (IsOfAnother resting) _ (record_of actor blocking.what blocking.since bytes given core.under.date) (put_stays core.actors (queue_at core.requests resting) resting Q actor _ apart e) (another resting actor apart);
}

pub closed : (resting : ℕ) (Q : State → List Await → Type 0) (rests : Rests Q) → Closed (Stays resting Q) (IsOfAnother resting)
closed resting Q rests = record { answered = replying resting Q rests; over = λ over serial core e. e }

-- ---- what a caller's call leads to
abbrev pub Spares : ℕ → (State → List Await → Type 0) → Step → Type 0
Spares resting Q step = Kept (Stays resting Q) (IsOfAnother resting) step

as_was : (resting : ℕ) (Q : State → List Await → Type 0) (rests : Rests Q) (core : Core) (why : Option Stop) → Stays resting Q core → Spares resting Q (record { core = core; made = []; stop = why })
as_was resting Q rests core why e = still (Stays resting Q) (IsOfAnother resting) core why e

pub now_spares : (resting : ℕ) (Q : State → List Await → Type 0) (rests : Rests Q) (actor : ℕ) (what : Call) (bytes : ℕ) (given : Answer) (core : Core) → Apart resting actor → Stays resting Q core → Spares resting Q (at_once actor what bytes given core)
now_spares resting Q rests actor what bytes given core apart e =
    one_made (Stays resting Q) (IsOfAnother resting) _ (record_of actor what core.under.date bytes given core.under.date) (put_stays core.actors (queue_at core.requests resting) resting Q actor _ apart e) (another resting actor apart)

blocks_spares : (resting : ℕ) (Q : State → List Await → Type 0) (rests : Rests Q) (actor : ℕ) (what : Call) (on : Option Await) (core : Core) → Apart resting actor → Stays resting Q core → Spares resting Q (goes_on (blocked_by actor what on core) [])
blocks_spares resting Q rests actor what on core apart e = as_was resting Q rests (blocked_by actor what on core) None (put_stays core.actors (queue_at core.requests resting) resting Q actor _ apart e)

caller_spares : (resting : ℕ) (Q : State → List Await → Type 0) (rests : Rests Q) (outcome : Outcome) (actor : ℕ) (what : Call) (core : Core) → Apart resting actor → Stays resting Q core → Spares resting Q (caller_gets outcome actor what core)
caller_spares resting Q rests GoesOn actor what core apart e = now_spares resting Q rests actor what 0 answer.Done core apart e
caller_spares resting Q rests Waits actor what core apart e = blocks_spares resting Q rests actor what None core apart e
caller_spares resting Q rests Refused actor what core apart e = now_spares resting Q rests actor what 0 answer.Refused core apart e

first_spares : (resting : ℕ) (Q : State → List Await → Type 0) (rests : Rests Q) (done : Done) (actor : ℕ) (what : Call) (core : Core) → Apart resting actor → Stays resting Q core → Spares resting Q (caller_first done actor what core)
first_spares resting Q rests done actor what core apart e =
    let first = caller_gets done.outcome actor what (with_objects done core) in
    both (Stays resting Q) (IsOfAnother resting) first (all_wake done.woken) (caller_spares resting Q rests done.outcome actor what (with_objects done core) apart e) (all_kept (Stays resting Q) (IsOfAnother resting) (replying resting Q rests) done.woken first.core)

last_spares : (resting : ℕ) (Q : State → List Await → Type 0) (rests : Rests Q) (done : Done) (actor : ℕ) (what : Call) (core : Core) → Apart resting actor → Stays resting Q core → Spares resting Q (caller_last done actor what core)
last_spares resting Q rests done actor what core apart e =
    let first = all_wake done.woken (with_objects done core) in
    both (Stays resting Q) (IsOfAnother resting) first (caller_gets done.outcome actor what) (all_kept (Stays resting Q) (IsOfAnother resting) (replying resting Q rests) done.woken (with_objects done core) e) (caller_spares resting Q rests done.outcome actor what first.core apart)

-- ---- communications
part_spares : (resting : ℕ) (Q : State → List Await → Type 0) (rests : Rests Q) (waits : Bool) (comer : Comer) (serial : ℕ) (core : Core) → Apart resting comer.side.actor.0 → Stays resting Q core → Spares resting Q (takes_part waits comer serial core)
part_spares resting Q rests true comer serial core apart e = blocks_spares resting Q rests comer.side.actor.0 comer.what _ core apart e
part_spares resting Q rests false comer serial core apart e = now_spares resting Q rests comer.side.actor.0 comer.what comer.side.bytes answer.Done _ apart (queue_stays (state_of core resting) core.requests resting Q comer.side.actor.0 _ apart e)

failed_spares : (resting : ℕ) (Q : State → List Await → Type 0) (rests : Rests Q) (waits : Bool) (comer : Comer) (serial bytes : ℕ) (core : Core) → Apart resting comer.side.actor.0 → Stays resting Q core → Spares resting Q (takes_part_failed waits comer serial bytes core)
failed_spares resting Q rests true comer serial bytes core apart e = now_spares resting Q rests comer.side.actor.0 comer.what bytes answer.Failed core apart e
failed_spares resting Q rests false comer serial bytes core apart e = part_spares resting Q rests false comer serial core apart e

other_spares : (resting : ℕ) (Q : State → List Await → Type 0) (rests : Rests Q) (comer : Comer) (serial : ℕ) (other : Side) (core : Core) → Stays resting Q core → Spares resting Q (other_fails comer serial other core)
other_spares resting Q rests comer serial other core e =
    either (Stays resting Q) (IsOfAnother resting) comer.sends (answers_side how.Failed serial Receiver (for_receiver comer.side other) core) (answers_side how.Failed serial Sender other core)
    (side_kept (Stays resting Q) (IsOfAnother resting) (replying resting Q rests) how.Failed serial Receiver (for_receiver comer.side other) core e) (side_kept (Stays resting Q) (IsOfAnother resting) (replying resting Q rests) how.Failed serial Sender other core e)

both_spare : (resting : ℕ) (Q : State → List Await → Type 0) (rests : Rests Q) (comer : Comer) (serial : ℕ) (other : Side) (core : Core) → Apart resting comer.side.actor.0 → Stays resting Q core → Spares resting Q (both_fail comer serial other core)
both_spare resting Q rests comer serial other core apart e =
    let own = comer_fails comer serial other core in
    let theirs = other_fails comer serial other core in
    either (Stays resting Q) (IsOfAnother resting) comer.sends (and_then own (other_fails comer serial other)) (and_then theirs (comer_fails comer serial other))
    (both (Stays resting Q) (IsOfAnother resting) own (other_fails comer serial other) (failed_spares resting Q rests comer.waits comer serial (sender_of comer other).bytes core apart e) (other_spares resting Q rests comer serial other own.core))
    (both (Stays resting Q) (IsOfAnother resting) theirs (comer_fails comer serial other) (other_spares resting Q rests comer serial other core e) (failed_spares resting Q rests comer.waits comer serial (sender_of comer other).bytes theirs.core apart))

route_spares : (resting : ℕ) (Q : State → List Await → Type 0) (rests : Rests Q) (found : Result Route RouteFault) (setup : Setup) (comer : Comer) (post : Post) (core : Core) → Apart resting comer.side.actor.0 → Stays resting Q core → Spares resting Q (joins_over found setup comer post core)
route_spares resting Q rests (Err why) setup comer post core apart e = as_was resting Q rests core (Some _) e
route_spares resting Q rests (Ok route) setup comer post core apart e =
    either (Stays resting Q) (IsOfAnother resting) (is_cut core.under.on (way_with route setup comer post.side))
    (fails_with comer post.serial post.side (counted core)) (joins_with route setup comer post.serial post.side (counted core))
    (both_spare resting Q rests comer post.serial.0 post.side (with_over how.Failed post.serial.0 (counted core)) apart e)
    (part_spares resting Q rests comer.waits comer post.serial.0 (joined setup post.serial.0 route (sender_of comer post.side) (receiver_of comer post.side) (counted core)) apart e)

found_spares : (resting : ℕ) (Q : State → List Await → Type 0) (rests : Rests Q) (found : Option Post) (roads : Roads) (setup : Setup) (comer : Comer) (core : Core) → Apart resting comer.side.actor.0 → Stays resting Q core → Spares resting Q (comes_by found roads setup comer core)
found_spares resting Q rests None roads setup comer core apart e = part_spares resting Q rests comer.waits comer (length core.under.tasks + 1) (posted comer (counted core)) apart e
found_spares resting Q rests (Some post) roads setup comer core apart e = route_spares resting Q rests (route_between roads setup (sender_of comer post.side) (receiver_of comer post.side)) setup comer post core apart e

comes_spares : (resting : ℕ) (Q : State → List Await → Type 0) (rests : Rests Q) (roads : Roads) (setup : Setup) (comer : Comer) (core : Core) → Apart resting comer.side.actor.0 → Stays resting Q core → Spares resting Q (comes roads setup comer core)
comes_spares resting Q rests roads setup comer core apart e = found_spares resting Q rests (partner comer.sends (posts_at comer.mailbox core)) roads setup comer core apart e

until_spares : (resting : ℕ) (Q : State → List Await → Type 0) (rests : Rests Q) (over : Option Answer) (actor : ℕ) (on : Await) (core : Core) → Apart resting actor → Stays resting Q core → Spares resting Q (waits_until over actor on core)
until_spares resting Q rests (Some over) actor on core apart e = now_spares resting Q rests actor call.Wait 0 over core apart e
until_spares resting Q rests None actor on core apart e = blocks_spares resting Q rests actor call.Wait (Some on) core apart e

wait_spares : (resting : ℕ) (Q : State → List Await → Type 0) (rests : Rests Q) (found : Option Await) (actor : ℕ) (core : Core) → Apart resting actor → Stays resting Q core → Spares resting Q (waits_by found actor core)
wait_spares resting Q rests None actor core apart e = now_spares resting Q rests actor call.Wait 0 answer.Refused core apart e
wait_spares resting Q rests (Some on) actor core apart e = until_spares resting Q rests (answer_of_over (whose_at core on.serial.0)) actor on (record core { requests = queues_without_oldest core.requests actor }) apart (queue_stays (state_of core resting) core.requests resting Q actor _ apart e)

-- ---- executions
held_ended : (resting : ℕ) (Q : State → List Await → Type 0) (rests : Rests Q) (b : Bool) (serial : ℕ) (core : Core) → Stays resting Q core → Stays resting Q (held_if b serial core)
held_ended resting Q rests true serial core e = e
held_ended resting Q rests false serial core e = e

compute_spares : (resting : ℕ) (Q : State → List Await → Type 0) (rests : Rests Q) (setup : Setup) (actor flops priority : ℕ) (core : Core) → Apart resting actor → Stays resting Q core → Spares resting Q (computes setup actor flops priority core)
compute_spares resting Q rests setup actor flops priority core apart e =
    either (Stays resting Q) (IsOfAnother resting) (is_off core.under.on.hosts (host_of setup actor)) (at_once actor (call.Compute flops priority) 0 answer.Failed core) (executes setup actor flops priority core)
    (now_spares resting Q rests actor (call.Compute flops priority) 0 answer.Failed core apart e)
    (as_was resting Q rests (executed setup actor flops priority core) None (held_ended resting Q rests (is_suspended core actor) (length core.under.tasks + 1) _ (put_stays core.actors (queue_at core.requests resting) resting Q actor _ apart e)))

-- ---- other actors
join_spares : (resting : ℕ) (Q : State → List Await → Type 0) (rests : Rests Q) (ended : Bool) (actor : ℕ) (target : ActorId) (core : Core) → Apart resting actor → Stays resting Q core → Spares resting Q (joins_by ended actor target core)
join_spares resting Q rests true actor target core apart e = now_spares resting Q rests actor (call.Join target) 0 answer.Done core apart e
join_spares resting Q rests false actor target core apart e = blocks_spares resting Q rests actor (call.Join target) None core apart e

pub stretches_spare : (resting : ℕ) (Q : State → List Await → Type 0) (rests : Rests Q) (actor : ℕ) (target : ActorId) (serials : List ℕ) (core : Core) → (actor ≢ target.0 → Apart resting actor) → Stays resting Q core → Spares resting Q (all_of (kill_stretches actor target serials) core)
stretches_spare resting Q rests actor target serials core apart e =
    more_kept (Stays resting Q) (IsOfAnother resting) (kill_done actor target) (each gives_up serials ∷ joiners_wake target.0 ∷ []) core (told core e)
    (λ one f. more_kept (Stays resting Q) (IsOfAnother resting) (each gives_up serials) (joiners_wake target.0 ∷ []) one (each_kept (Stays resting Q) (IsOfAnother resting) gives_up (gives_up_kept (Stays resting Q) (IsOfAnother resting) (closed resting Q rests)) serials one f)
    (λ two g. more_kept (Stays resting Q) (IsOfAnother resting) (joiners_wake target.0) [] two (joiners_kept (Stays resting Q) (IsOfAnother resting) (replying resting Q rests) target.0 two g)
    (none_kept (Stays resting Q) (IsOfAnother resting))))
  where
    by : (b : Bool) → (actor == target.0) ≡ b → (core : Core) → Stays resting Q core → Spares resting Q (cond b (goes_on core []) (at_once actor (call.Kill target) 0 answer.Done core))
    by true is core e = as_was resting Q rests core None e
    by false is core e = now_spares resting Q rests actor (call.Kill target) 0 answer.Done core (apart (λ same. grind (arith, is, same))) e

    told : (core : Core) → Stays resting Q core → Spares resting Q (kill_done actor target core)
    told core e = by (actor == target.0) refl core e

ended_there : (actors : List Actor) (i : ℕ) (on : Bool) → (get_or (set actors i (record { state = Ended; suspended = on })) i (not_suspended Ended)).state ≡ Ended
ended_there [] i on = refl
ended_there (a ∷ actors) zero on = refl
ended_there (a ∷ actors) (suc i) on = ended_there actors i on

pub let_go : (queues : List (List Await)) (place : ℕ) → get_or (set queues place []) place [] ≡ []
let_go [] place = refl
let_go (queue ∷ queues) zero = refl
let_go (queue ∷ queues) (suc place) = let_go queues place

kill_spares : (resting : ℕ) (Q : State → List Await → Type 0) (rests : Rests Q) (actor : ℕ) (target : ActorId) (core : Core) → Apart resting actor → Stays resting Q core → Spares resting Q (kills actor target core)
kill_spares resting Q rests actor target core apart e = by (is_alive (state_of core target.0)) refl
  where
    gone : (places : (resting - 1 ≡ target.0 - 1) ⊎ Apart resting target.0) → is_alive (state_of core target.0) ≡ true → Stays resting Q (withdrawn target core)
    gone (inl same) alive =
        let state : state_at (put_state core.actors target.0 Ended) resting ≡ Ended = same_state (put_state core.actors target.0 Ended) resting target.0 same ∙ ended_there core.actors (target.0 - 1) (actor_at core.actors target.0).suspended in
        let queue : queue_at (without_requests core.requests target.0) resting ≡ [] = ap (λ i. get_or (without_requests core.requests target.0) i []) same ∙ let_go core.requests (target.0 - 1) in
        let now : Q Ended [] = rests.killed (state_of core resting) (queue_at core.requests resting) e (ap is_alive (same_state core.actors resting target.0 same) ∙ alive) in
        subst (λ s. Q s (queue_at (without_requests core.requests target.0) resting)) (sym state) (subst (Q Ended) (sym queue) now)
    gone (inr other) alive =
        queue_stays (state_at (put_state core.actors target.0 Ended) resting) core.requests resting Q target.0 [] other
        (put_stays core.actors (queue_at core.requests resting) resting Q target.0 (record (actor_at core.actors target.0) { state = Ended }) other e)

    by : (b : Bool) → is_alive (state_of core target.0) ≡ b → Spares resting Q (cond b (kills_alive actor target core) (at_once actor (call.Kill target) 0 answer.Done core))
    by true alive = stretches_spare resting Q rests actor target (awaited target core) (withdrawn target core) (λ differs. apart) (gone (cases_eq (resting - 1) (target.0 - 1)) alive)
    by false alive = now_spares resting Q rests actor (call.Kill target) 0 answer.Done core apart e

pub same_marked : (actors : List Actor) (target other : ℕ) (on : Bool) → state_at (put_suspended actors target on) other ≡ state_at actors other
same_marked actors target other on =
    set_there (λ (a : Actor). a.state ≡ state_at actors other) actors (target - 1) (other - 1) (record { state = state_at actors target; suspended = on }) (not_suspended Ended)
    (λ same. sym (same_state actors other target same)) refl

marked : (resting : ℕ) (Q : State → List Await → Type 0) (rests : Rests Q) (on : Bool) (target : ActorId) (core : Core) → Stays resting Q core → Stays resting Q (with_suspended target.0 on core)
marked resting Q rests on target core e = subst (λ s. Q s (queue_at core.requests resting)) (sym (same_marked core.actors target.0 resting on)) e

turned : (resting : ℕ) (Q : State → List Await → Type 0) (rests : Rests Q) (on : Bool) (found : Option Blocking) (core : Core) → Stays resting Q core → Stays resting Q (held_by on found core)
turned resting Q rests on None core e = e
turned resting Q rests on (Some blocking) core e = by blocking.on
  where
    by : (await : Option Await) → Stays resting Q (held_on on await core)
    by None = e
    by (Some await) = e

suspended_ended : (resting : ℕ) (Q : State → List Await → Type 0) (rests : Rests Q) (on : Bool) (target : ActorId) (core : Core) → Stays resting Q core → Stays resting Q (suspended_to on target core)
suspended_ended resting Q rests on target core e = by (is_alive (state_of core target.0))
  where
    by : (b : Bool) → Stays resting Q (cond b (held_by on (blocking_in (state_of core target.0)) (with_suspended target.0 on core)) core)
    by true = turned resting Q rests on (blocking_in (state_of core target.0)) (with_suspended target.0 on core) (marked resting Q rests on target core e)
    by false = e

-- ---- calls
pub call_spares : (roads : Roads) (setup : Setup) (core : Core) (actor resting : ℕ) (Q : State → List Await → Type 0) (rests : Rests Q) (what : Call) → Apart resting actor → Stays resting Q core → Spares resting Q (answered_call roads setup core actor what)
call_spares roads setup core actor resting Q rests call.Ask apart e = as_was resting Q rests _ None (put_stays core.actors (queue_at core.requests resting) resting Q actor _ apart e)
call_spares roads setup core actor resting Q rests (call.Compute n p) apart e = compute_spares resting Q rests setup actor n p (counted core) apart e
call_spares roads setup core actor resting Q rests (call.Sleep n) apart e = as_was resting Q rests _ None (put_stays core.actors (queue_at core.requests resting) resting Q actor _ apart e)
call_spares roads setup core actor resting Q rests (call.Send b n m r) apart e = comes_spares resting Q rests roads setup (sends_by (side_of actor n m r) (call.Send b n m r) true b) core apart e
call_spares roads setup core actor resting Q rests (call.Recv b) apart e = comes_spares resting Q rests roads setup (receives_by actor (call.Recv b) true b) core apart e
call_spares roads setup core actor resting Q rests (call.ISend b n m r) apart e = comes_spares resting Q rests roads setup (sends_by (side_of actor n m r) (call.ISend b n m r) false b) core apart e
call_spares roads setup core actor resting Q rests (call.IRecv b) apart e = comes_spares resting Q rests roads setup (receives_by actor (call.IRecv b) false b) core apart e
call_spares roads setup core actor resting Q rests call.Wait apart e = wait_spares resting Q rests (oldest (queue_at core.requests actor)) actor (counted core) apart e
call_spares roads setup core actor resting Q rests (call.Lock n) apart e = first_spares resting Q rests (locked (actor_of actor) n core.objects) actor (call.Lock n) (counted core) apart e
call_spares roads setup core actor resting Q rests (call.Unlock n) apart e = first_spares resting Q rests (unlocked (actor_of actor) n core.objects) actor (call.Unlock n) (counted core) apart e
call_spares roads setup core actor resting Q rests (call.Acquire n) apart e = first_spares resting Q rests (acquired (actor_of actor) n core.objects) actor (call.Acquire n) (counted core) apart e
call_spares roads setup core actor resting Q rests (call.Release n) apart e = first_spares resting Q rests (released n core.objects) actor (call.Release n) (counted core) apart e
call_spares roads setup core actor resting Q rests call.Barrier apart e = last_spares resting Q rests (arrived (actor_of actor) core.objects) actor call.Barrier (counted core) apart e
call_spares roads setup core actor resting Q rests (call.Create n) apart e = now_spares resting Q rests actor (call.Create n) 0 answer.Refused (counted core) apart e
call_spares roads setup core actor resting Q rests (call.Join n) apart e = join_spares resting Q rests (is_ended (state_of core n.0)) actor n (counted core) apart e
call_spares roads setup core actor resting Q rests (call.Kill n) apart e = kill_spares resting Q rests actor n (counted core) apart e
call_spares roads setup core actor resting Q rests (call.Suspend n) apart e = now_spares resting Q rests actor (call.Suspend n) 0 answer.Done (suspended_to true n (counted core)) apart (suspended_ended resting Q rests true n (counted core) e)
call_spares roads setup core actor resting Q rests (call.Resume n) apart e = now_spares resting Q rests actor (call.Resume n) 0 answer.Done (suspended_to false n (counted core)) apart (suspended_ended resting Q rests false n (counted core) e)
call_spares roads setup core actor resting Q rests call.Yield apart e = now_spares resting Q rests actor call.Yield 0 answer.Done (counted core) apart e
call_spares roads setup core actor resting Q rests call.Exit apart e = joiners_kept (Stays resting Q) (IsOfAnother resting) (replying resting Q rests) actor (with_actor_ended actor (counted core)) (put_stays core.actors (queue_at core.requests resting) resting Q actor _ apart e)

pub create_spares : (given : Bool) (actor resting : ℕ) (Q : State → List Await → Type 0) (rests : Rests Q) (target : ActorId) (core : Core) → Apart resting actor → (IsTrue given → Apart resting target.0) → Stays resting Q core → Spares resting Q (created given actor target core)
create_spares true actor resting Q rests target core apart fresh e = now_spares resting Q rests actor (call.Create target) 0 answer.Done (begins target (counted core)) apart (put_stays core.actors (queue_at core.requests resting) resting Q target.0 _ (fresh refl) e)
create_spares false actor resting Q rests target core apart fresh e = now_spares resting Q rests actor (call.Create target) 0 answer.Refused (counted core) apart e

-- ---- time advances
pub flowing : (resting : ℕ) (Q : State → List Await → Type 0) (rests : Rests Q) → Flowing (Stays resting Q)
flowing resting Q rests = record { moved = λ under turns core long e. e; counted = λ core e. e }
