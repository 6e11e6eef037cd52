-- Whose calls fail by a call.
use Rattle.std.proofs.Common.{◌≡◌, ℕ, ◌==◌, ◌||◌, Bool, true, false, cond, Option, None, Some, Result, Ok, Err, List, [], ◌∷◌, ◌++◌, refl, sym, ap, subst}
use Rattle.std.specs.List.{All}
use Rattle.std.proofs.lemmas.List.Elements.{All-nil, All-append}
use Rattle.sg_base.specs.Turn.{actor_of}
use Rattle.sg_base.specs.declared.awaits.Await.{Await}
use Rattle.sg_base.specs.declared.awaits.Party.{Party}
use Rattle.sg_base.specs.declared.awaits.Party.TheVariants.{Sender, Receiver}
use Rattle.sg_base.specs.declared.call.Answer.TheVariants as answer
use Rattle.sg_base.specs.declared.call.Call.{Call}
use Rattle.sg_base.specs.declared.call.Call.TheVariants as call
use Rattle.sg_base.specs.declared.ids.ActorId.{ActorId}
use Rattle.sg_base.specs.declared.trace_record.Record.{Record}
use Rattle.sg_mailbox.specs.declared.sides.Post.{Post}
use Rattle.sg_mailbox.specs.declared.sides.Side.{Side}
use Rattle.sg_mailbox.specs.Posts.{partner}
use Rattle.sg_requests.specs.Requested.{oldest, queue_at, queues_without_oldest}
use Rattle.sg_route.specs.declared.router.RouteFault.{RouteFault}
use Rattle.sg_route.specs.Roads.{Roads}
use Rattle.sg_route.specs.Route.{Route}
use Rattle.sg_actor_states.specs.declared.state.Blocking.{Blocking}
use Rattle.sg_actor_states.specs.Actors.{blocking_in, is_ended, joiners}
use Rattle.sg_actor_states.specs.Records.{record_of}
use Rattle.sg_sync.specs.declared.outcome.Outcome.{Outcome}
use Rattle.sg_sync.specs.declared.outcome.Outcome.TheVariants.{GoesOn, Waits, Refused}
use Rattle.sg_sync.specs.Objects.{Done, locked, unlocked, acquired, released, arrived}
use Rattle.sg_kernel_calls.specs.declared.meetings.Comer.{Comer}
use Rattle.sg_mailbox.specs.declared.owners.How.TheVariants as how
use Rattle.sg_mailbox.specs.declared.owners.Whose.{Whose}
use Rattle.sg_mailbox.specs.declared.owners.Whose.TheVariants.{Over, Alone, Posted, Pair}
use Rattle.sg_kernel_calls.specs.declared.stop.Stop.{Stop}
use Rattle.sg_kernel_calls.specs.declared.stop.Stop.TheVariants.{Budget}
use Rattle.sg_kernel_calls.specs.Answers.{answers_by, answers_side, for_receiver, awaits_side, side_of, with_over}
use Rattle.sg_kernel_calls.specs.Calls.{answered_call, executes}
use Rattle.sg_kernel_calls.specs.Kills.{awaited, kill_stretches, withdrawn}
use Rattle.sg_kernel_calls.specs.Lives.{joins_by, with_actor_ended}
use Rattle.sg_kernel_calls.specs.Locks.{all_wake, caller_first, caller_gets, caller_last, wakes, wakes_from, with_objects}
use Rattle.sg_kernel_calls.specs.Meetings.{answer_of_over, both_fail, comer_fails, comes, comes_by, fails_with, joined, joins_over, joins_with, other_fails, posts_at, receiver_of, receives_by, route_between, sender_of, sends_by, takes_part, takes_part_failed, waits_by, waits_until}
use Rattle.sg_kernel_calls.specs.Steps.{Step, stops, counted, follows, and_then, each, all_of, at_once}
use Rattle.sg_kernel_calls.specs.Setup.{Setup}
use Rattle.sg_kernel_calls.specs.World.{Core, state_of, whose_at}
use Rattle.sg_kernel_calls.proofs.Each.{eq_no}
use Rattle.sg_kernel_calls.proofs.Finishes.{answers_side_goes}
use Rattle.sg_kernel_laws.specs.failures.Laws.{CallsTell, TellsCaller, TellsKill, call_fails, has_failed, is_failed, kills_one, meeting_fails, only_posts, side_fails, wait_fails, way_fails}
use Rattle.sg_kernel_laws.proofs.failure_lemmas.Killed.{kill_tells}
use Rattle.sg_kernel_laws.proofs.failure_lemmas.Passed.{just}
use Rattle.sg_kernel_laws.proofs.failure_lemmas.Reached.{kill_reaches}

abbrev TellsIt : Record → Type 0
TellsIt told = (only_posts told.what || is_failed told.end) ≡ true

abbrev GoesWell : Record → Type 0
GoesWell told = is_failed told.end ≡ false

-- ---- records of steps
cond_all : (P : Record → Type 0) (b : Bool) (one other : Step) → All P one.made → All P other.made → All P (cond b one other).made
cond_all P true one other p q = p
cond_all P false one other p q = q

then_all : (P : Record → Type 0) (first : Step) (next : Core → Step) → All P first.made → ((core : Core) → All P (next core).made) → All P (and_then first next).made
then_all P first next one two = by first.stop
  where
    by : (o : Option Stop) → All P (follows o first (next first.core)).made
    by None = All-append P first.made (next first.core).made one (two first.core)
    by (Some why) = one

each_all : {X : Type 0} (P : Record → Type 0) (does : X → Core → Step) → ((x : X) (core : Core) → All P (does x core).made) → (xs : List X) (core : Core) → All P (each does xs core).made
unfolding each
each_all P does one [] core = All-nil P
each_all P does one (x ∷ xs) core = then_all P (does x core) (each does xs) (one x core) (each_all P does one xs)

-- ---- what goes well
wakes_well : (actor : ActorId) (core : Core) → All GoesWell (wakes actor core).made
wakes_well actor core = by (blocking_in (state_of core actor.0))
  where
    by : (blocking : Option Blocking) → All GoesWell (wakes_from blocking actor core).made
    by None = All-nil GoesWell
    by (Some blocking) = just GoesWell _ refl

gets_well : (outcome : Outcome) (actor : ℕ) (what : Call) (core : Core) → All GoesWell (caller_gets outcome actor what core).made
gets_well GoesOn actor what core = just GoesWell _ refl
gets_well Waits actor what core = All-nil GoesWell
gets_well Refused actor what core = just GoesWell _ refl

first_well : (done : Done) (actor : ℕ) (what : Call) (core : Core) → All GoesWell (caller_first done actor what core).made
first_well done actor what core =
    then_all GoesWell (caller_gets done.outcome actor what (with_objects done core)) (all_wake done.woken)
    (gets_well done.outcome actor what (with_objects done core)) (each_all GoesWell wakes wakes_well done.woken)

last_well : (done : Done) (actor : ℕ) (what : Call) (core : Core) → All GoesWell (caller_last done actor what core).made
last_well done actor what core =
    then_all GoesWell (all_wake done.woken (with_objects done core)) (caller_gets done.outcome actor what)
    (each_all GoesWell wakes wakes_well done.woken (with_objects done core)) (gets_well done.outcome actor what)

part_well : (waits : Bool) (comer : Comer) (serial : ℕ) (core : Core) → All GoesWell (takes_part waits comer serial core).made
part_well true comer serial core = All-nil GoesWell
part_well false comer serial core = just GoesWell _ refl

comes_well : (roads : Roads) (setup : Setup) (comer : Comer) (core : Core) → side_fails (Some comer) roads setup core ≡ false → All GoesWell (comes roads setup comer core).made
comes_well roads setup comer core = by (partner comer.sends (posts_at comer.mailbox core))
  where
    over : (post : Post) (r : Result Route RouteFault) → way_fails r setup comer post core ≡ false → All GoesWell (joins_over r setup comer post core).made
    over post (Err why) e = All-nil GoesWell
    over post (Ok route) e =
        let failed = fails_with comer post.serial post.side (counted core) in
        let begun = joins_with route setup comer post.serial post.side (counted core) in
        subst (λ b. All GoesWell (cond b failed begun).made) (sym e) (part_well comer.waits comer post.serial.0 (joined setup post.serial.0 route (sender_of comer post.side) (receiver_of comer post.side) (counted core)))

    by : (found : Option Post) → meeting_fails found roads setup comer core ≡ false → All GoesWell (comes_by found roads setup comer core).made
    by None e = part_well comer.waits comer _ _
    by (Some post) e = over post (route_between roads setup (sender_of comer post.side) (receiver_of comer post.side)) e

waits_well : (actor : ℕ) (core : Core) (found : Option Await) → wait_fails core found ≡ false → All GoesWell (waits_by found actor (counted core)).made
waits_well actor core None e = just GoesWell _ refl
waits_well actor core (Some on) e = until (whose_at core on.serial.0) e
  where
    until : (whose : Whose) → has_failed whose ≡ false → All GoesWell (waits_until (answer_of_over whose) actor on (record (counted core) { requests = queues_without_oldest core.requests actor })).made
    until (Over how.Done) e = just GoesWell _ refl
    until (Over how.Failed) e = absurd (cc e)
    until (Alone other) e = All-nil GoesWell
    until (Posted mailbox sends side) e = All-nil GoesWell
    until (Pair sender receiver) e = All-nil GoesWell

join_well : (ended : Bool) (actor : ℕ) (target : ActorId) (core : Core) → All GoesWell (joins_by ended actor target core).made
join_well true actor target core = just GoesWell _ refl
join_well false actor target core = All-nil GoesWell

call_well : (roads : Roads) (setup : Setup) (core : Core) (actor : ℕ) (what : Call) → call_fails roads setup core actor what ≡ false → kills_one core what ≡ false → All GoesWell (answered_call roads setup core actor what).made
call_well roads setup core actor call.Ask e spared = All-nil GoesWell
call_well roads setup core actor (call.Compute n p) e spared =
    let failed = at_once actor (call.Compute n p) 0 answer.Failed (counted core) in
    let begun = executes setup actor n p (counted core) in
    subst (λ b. All GoesWell (cond b failed begun).made) (sym e) (All-nil GoesWell)
call_well roads setup core actor (call.Sleep n) e spared = All-nil GoesWell
call_well roads setup core actor (call.Send b n m r) e spared = comes_well roads setup (sends_by (side_of actor n m r) (call.Send b n m r) true b) core e
call_well roads setup core actor (call.Recv b) e spared = comes_well roads setup (receives_by actor (call.Recv b) true b) core e
call_well roads setup core actor (call.ISend b n m r) e spared = comes_well roads setup (sends_by (side_of actor n m r) (call.ISend b n m r) false b) core e
call_well roads setup core actor (call.IRecv b) e spared = comes_well roads setup (receives_by actor (call.IRecv b) false b) core e
call_well roads setup core actor call.Wait e spared = waits_well actor core (oldest (queue_at core.requests actor)) e
call_well roads setup core actor (call.Lock n) e spared = first_well (locked (actor_of actor) n core.objects) actor (call.Lock n) (counted core)
call_well roads setup core actor (call.Unlock n) e spared = first_well (unlocked (actor_of actor) n core.objects) actor (call.Unlock n) (counted core)
call_well roads setup core actor (call.Acquire n) e spared = first_well (acquired (actor_of actor) n core.objects) actor (call.Acquire n) (counted core)
call_well roads setup core actor (call.Release n) e spared = first_well (released n core.objects) actor (call.Release n) (counted core)
call_well roads setup core actor call.Barrier e spared = last_well (arrived (actor_of actor) core.objects) actor call.Barrier (counted core)
call_well roads setup core actor (call.Create n) e spared = just GoesWell _ refl
call_well roads setup core actor (call.Join n) e spared = join_well (is_ended (state_of core n.0)) actor n (counted core)
call_well roads setup core actor (call.Kill n) e spared =
    let alive = all_of (kill_stretches actor n (awaited n core)) (withdrawn n (counted core)) in
    let over = at_once actor (call.Kill n) 0 answer.Done (counted core) in
    subst (λ b. All GoesWell (cond b alive over).made) (sym spared) (just GoesWell _ refl)
call_well roads setup core actor (call.Suspend n) e spared = just GoesWell _ refl
call_well roads setup core actor (call.Resume n) e spared = just GoesWell _ refl
call_well roads setup core actor call.Yield e spared = just GoesWell _ refl
call_well roads setup core actor call.Exit e spared = each_all GoesWell wakes wakes_well (joiners actor 1 (with_actor_ended actor core).actors) (with_actor_ended actor (counted core))

-- ---- what fails
or_true : (b : Bool) → (b || true) ≡ true
or_true true = refl
or_true false = refl

side_told : (serial : ℕ) (party : Party) (given : Side) (core : Core) → All TellsIt (answers_side how.Failed serial party given core).made
side_told serial party given core = by (blocking_in (state_of core given.actor.0))
  where
    by : (found : Option Blocking) → All TellsIt (answers_by how.Failed serial party given found core).made
    by None = All-nil TellsIt
    by (Some blocking) = cond_all TellsIt (awaits_side serial party blocking.on) _ _ (just TellsIt _ (or_true (only_posts blocking.what))) (All-nil TellsIt)

other_told : (comer : Comer) (serial : ℕ) (other : Side) (core : Core) → All TellsIt (other_fails comer serial other core).made
other_told comer serial other core =
    cond_all TellsIt comer.sends (answers_side how.Failed serial Receiver (for_receiver comer.side other) core) (answers_side how.Failed serial Sender other core)
    (side_told serial Receiver (for_receiver comer.side other) core) (side_told serial Sender other core)

-- an endpoint that doesn't wait arrives by a call that only posts
abbrev IsFit : Comer → Type 0
IsFit comer = comer.waits ≡ false → only_posts comer.what ≡ true

comer_told : (comer : Comer) → IsFit comer → (serial : ℕ) (other : Side) (core : Core) → All TellsIt (comer_fails comer serial other core).made
comer_told comer fit serial other core = by comer.waits fit
  where
    by : (b : Bool) → (b ≡ false → only_posts comer.what ≡ true) → All TellsIt (takes_part_failed b comer serial (sender_of comer other).bytes core).made
    by true is = just TellsIt _ (or_true (only_posts comer.what))
    by false is = just TellsIt _ (ap (λ b. b || false) (is refl))

both_told : (comer : Comer) → IsFit comer → (serial : ℕ) (other : Side) (core : Core) → All TellsIt (both_fail comer serial other core).made
both_told comer fit serial other core =
    cond_all TellsIt comer.sends (and_then (comer_fails comer serial other core) (other_fails comer serial other)) (and_then (other_fails comer serial other core) (comer_fails comer serial other))
    (then_all TellsIt (comer_fails comer serial other core) (other_fails comer serial other) (comer_told comer fit serial other core) (other_told comer serial other))
    (then_all TellsIt (other_fails comer serial other core) (comer_fails comer serial other) (other_told comer serial other core) (comer_told comer fit serial other))

comes_told : (roads : Roads) (setup : Setup) (comer : Comer) (core : Core) → IsFit comer → side_fails (Some comer) roads setup core ≡ true → All TellsIt (comes roads setup comer core).made
comes_told roads setup comer core fit = by (partner comer.sends (posts_at comer.mailbox core))
  where
    over : (post : Post) (r : Result Route RouteFault) → way_fails r setup comer post core ≡ true → All TellsIt (joins_over r setup comer post core).made
    over post (Err why) e = absurd (cc e)
    over post (Ok route) e =
        let failed = fails_with comer post.serial post.side (counted core) in
        let begun = joins_with route setup comer post.serial post.side (counted core) in
        subst (λ b. All TellsIt (cond b failed begun).made) (sym e) (both_told comer fit post.serial.0 post.side (with_over how.Failed post.serial.0 (counted core)))

    by : (found : Option Post) → meeting_fails found roads setup comer core ≡ true → All TellsIt (comes_by found roads setup comer core).made
    by None e = absurd (cc e)
    by (Some post) e = over post (route_between roads setup (sender_of comer post.side) (receiver_of comer post.side)) e

waits_told : (actor : ℕ) (core : Core) (found : Option Await) → wait_fails core found ≡ true → All TellsIt (waits_by found actor (counted core)).made
waits_told actor core None e = absurd (cc e)
waits_told actor core (Some on) e = until (whose_at core on.serial.0) e
  where
    until : (whose : Whose) → has_failed whose ≡ true → All TellsIt (waits_until (answer_of_over whose) actor on (record (counted core) { requests = queues_without_oldest core.requests actor })).made
    until (Over how.Done) e = absurd (cc e)
    until (Over how.Failed) e = just TellsIt _ refl
    until (Alone other) e = absurd (cc e)
    until (Posted mailbox sends side) e = absurd (cc e)
    until (Pair sender receiver) e = absurd (cc e)

call_told : (roads : Roads) (setup : Setup) (core : Core) (actor : ℕ) (what : Call) → call_fails roads setup core actor what ≡ true → All TellsIt (answered_call roads setup core actor what).made
call_told roads setup core actor call.Ask e = absurd (cc e)
call_told roads setup core actor (call.Compute n p) e =
    let failed = at_once actor (call.Compute n p) 0 answer.Failed (counted core) in
    let begun = executes setup actor n p (counted core) in
    subst (λ b. All TellsIt (cond b failed begun).made) (sym e) (just TellsIt _ refl)
call_told roads setup core actor (call.Sleep n) e = absurd (cc e)
call_told roads setup core actor (call.Send b n m r) e = comes_told roads setup (sends_by (side_of actor n m r) (call.Send b n m r) true b) core (λ waits. absurd (cc waits)) e
call_told roads setup core actor (call.Recv b) e = comes_told roads setup (receives_by actor (call.Recv b) true b) core (λ waits. absurd (cc waits)) e
call_told roads setup core actor (call.ISend b n m r) e = comes_told roads setup (sends_by (side_of actor n m r) (call.ISend b n m r) false b) core (λ waits. refl) e
call_told roads setup core actor (call.IRecv b) e = comes_told roads setup (receives_by actor (call.IRecv b) false b) core (λ waits. refl) e
call_told roads setup core actor call.Wait e = waits_told actor core (oldest (queue_at core.requests actor)) e
call_told roads setup core actor (call.Lock n) e = absurd (cc e)
call_told roads setup core actor (call.Unlock n) e = absurd (cc e)
call_told roads setup core actor (call.Acquire n) e = absurd (cc e)
call_told roads setup core actor (call.Release n) e = absurd (cc e)
call_told roads setup core actor call.Barrier e = absurd (cc e)
call_told roads setup core actor (call.Create n) e = absurd (cc e)
call_told roads setup core actor (call.Join n) e = absurd (cc e)
call_told roads setup core actor (call.Kill n) e = absurd (cc e)
call_told roads setup core actor (call.Suspend n) e = absurd (cc e)
call_told roads setup core actor (call.Resume n) e = absurd (cc e)
call_told roads setup core actor call.Yield e = absurd (cc e)
call_told roads setup core actor call.Exit e = absurd (cc e)

-- ---- the caller's answer
first_told : (actor : ℕ) (what : Call) (since bytes date : ℕ) (after : List Record) → TellsCaller actor what (record_of actor what since bytes answer.Failed date ∷ after)
first_told actor what since bytes date after = record { before = []; own = record_of actor what since bytes answer.Failed date; after = after; among = refl; caller = refl; call = refl; fails = refl }

last_told : (actor : ℕ) (what : Call) (since bytes date : ℕ) (before : List Record) → TellsCaller actor what (before ++ record_of actor what since bytes answer.Failed date ∷ [])
last_told actor what since bytes date before = record { before = before; own = record_of actor what since bytes answer.Failed date; after = []; among = refl; caller = refl; call = refl; fails = refl }

other_goes : (comer : Comer) (serial : ℕ) (other : Side) (core : Core) → (other_fails comer serial other core).stop ≡ None
other_goes comer serial other core = by comer.sends
  where
    by : (b : Bool) → (cond b (answers_side how.Failed serial Receiver (for_receiver comer.side other) core) (answers_side how.Failed serial Sender other core)).stop ≡ None
    by true = answers_side_goes how.Failed serial Receiver (for_receiver comer.side other) core
    by false = answers_side_goes how.Failed serial Sender other core

comer_own : (comer : Comer) → comer.waits ≡ true → (serial : ℕ) (other : Side) (core : Core) → TellsCaller comer.side.actor.0 comer.what (both_fail comer serial other core).made
comer_own comer waits serial other core = by comer.waits comer.sends waits
  where
    bytes : ℕ
    bytes = (sender_of comer other).bytes

    others : Core → Step
    others = other_fails comer serial other

    own : Bool → Core → Step
    own waits = takes_part_failed waits comer serial bytes

    by : (waits sends : Bool) → waits ≡ true → TellsCaller comer.side.actor.0 comer.what (cond sends (and_then (own waits core) others) (and_then (others core) (own waits))).made
    by true true e = first_told comer.side.actor.0 comer.what core.under.date bytes core.under.date (others (own true core).core).made
    by true false e =
        let date = (others core).core.under.date in
        subst (λ o. TellsCaller comer.side.actor.0 comer.what (follows o (others core) (own true (others core).core)).made) (sym (other_goes comer serial other core))
        (last_told comer.side.actor.0 comer.what date bytes date (others core).made)
    by false sends e = absurd (cc e)

comes_own : (roads : Roads) (setup : Setup) (comer : Comer) (core : Core) → comer.waits ≡ true → side_fails (Some comer) roads setup core ≡ true → TellsCaller comer.side.actor.0 comer.what (comes roads setup comer core).made
comes_own roads setup comer core waits = by (partner comer.sends (posts_at comer.mailbox core))
  where
    over : (post : Post) (r : Result Route RouteFault) → way_fails r setup comer post core ≡ true → TellsCaller comer.side.actor.0 comer.what (joins_over r setup comer post core).made
    over post (Err why) e = absurd (cc e)
    over post (Ok route) e =
        let failed = fails_with comer post.serial post.side (counted core) in
        let begun = joins_with route setup comer post.serial post.side (counted core) in
        subst (λ b. TellsCaller comer.side.actor.0 comer.what (cond b failed begun).made) (sym e) (comer_own comer waits post.serial.0 post.side (with_over how.Failed post.serial.0 (counted core)))

    by : (found : Option Post) → meeting_fails found roads setup comer core ≡ true → TellsCaller comer.side.actor.0 comer.what (comes_by found roads setup comer core).made
    by None e = absurd (cc e)
    by (Some post) e = over post (route_between roads setup (sender_of comer post.side) (receiver_of comer post.side)) e

waits_own : (actor : ℕ) (core : Core) (found : Option Await) → wait_fails core found ≡ true → TellsCaller actor call.Wait (waits_by found actor (counted core)).made
waits_own actor core None e = absurd (cc e)
waits_own actor core (Some on) e = until (whose_at core on.serial.0) e
  where
    until : (whose : Whose) → has_failed whose ≡ true → TellsCaller actor call.Wait (waits_until (answer_of_over whose) actor on (record (counted core) { requests = queues_without_oldest core.requests actor })).made
    until (Over how.Done) e = absurd (cc e)
    until (Over how.Failed) e = first_told actor call.Wait core.under.date 0 core.under.date []
    until (Alone other) e = absurd (cc e)
    until (Posted mailbox sends side) e = absurd (cc e)
    until (Pair sender receiver) e = absurd (cc e)

call_own : (roads : Roads) (setup : Setup) (core : Core) (actor : ℕ) (what : Call) → call_fails roads setup core actor what ≡ true → only_posts what ≡ false → TellsCaller actor what (answered_call roads setup core actor what).made
call_own roads setup core actor call.Ask e waits = absurd (cc e)
call_own roads setup core actor (call.Compute n p) e waits =
    let failed = at_once actor (call.Compute n p) 0 answer.Failed (counted core) in
    let begun = executes setup actor n p (counted core) in
    subst (λ b. TellsCaller actor (call.Compute n p) (cond b failed begun).made) (sym e) (first_told actor (call.Compute n p) core.under.date 0 core.under.date [])
call_own roads setup core actor (call.Sleep n) e waits = absurd (cc e)
call_own roads setup core actor (call.Send b n m r) e waits = comes_own roads setup (sends_by (side_of actor n m r) (call.Send b n m r) true b) core refl e
call_own roads setup core actor (call.Recv b) e waits = comes_own roads setup (receives_by actor (call.Recv b) true b) core refl e
call_own roads setup core actor (call.ISend b n m r) e waits = absurd (cc waits)
call_own roads setup core actor (call.IRecv b) e waits = absurd (cc waits)
call_own roads setup core actor call.Wait e waits = waits_own actor core (oldest (queue_at core.requests actor)) e
call_own roads setup core actor (call.Lock n) e waits = absurd (cc e)
call_own roads setup core actor (call.Unlock n) e waits = absurd (cc e)
call_own roads setup core actor (call.Acquire n) e waits = absurd (cc e)
call_own roads setup core actor (call.Release n) e waits = absurd (cc e)
call_own roads setup core actor call.Barrier e waits = absurd (cc e)
call_own roads setup core actor (call.Create n) e waits = absurd (cc e)
call_own roads setup core actor (call.Join n) e waits = absurd (cc e)
call_own roads setup core actor (call.Kill n) e waits = absurd (cc e)
call_own roads setup core actor (call.Suspend n) e waits = absurd (cc e)
call_own roads setup core actor (call.Resume n) e waits = absurd (cc e)
call_own roads setup core actor call.Yield e waits = absurd (cc e)
call_own roads setup core actor call.Exit e waits = absurd (cc e)

pub calls_tell : CallsTell
calls_tell roads setup core actor what =
    let used = core.events == setup.budget in
    let step = answered_call roads setup core actor what in
    record {
      fails = λ e. cond_all TellsIt used (stops core [] Budget) step (All-nil TellsIt) (call_told roads setup core actor what e);
      caller = λ e waits left. subst (λ b. TellsCaller actor what (cond b (stops core [] Budget) step).made) (sym (eq_no core.events setup.budget left)) (call_own roads setup core actor what e waits);
      goes_well = λ e spared. cond_all GoesWell used (stops core [] Budget) step (All-nil GoesWell) (call_well roads setup core actor what e spared);
      kills = λ target is alive.
          cond_all (TellsKill actor target core) used (stops core [] Budget) step (All-nil (TellsKill actor target core))
          (subst (λ c. All (TellsKill actor target core) (answered_call roads setup core actor c).made) (sym is) (kill_tells actor target core alive));
      reaches = λ target is alive may left other since called on side.
          subst (λ b. TellsCaller other called (cond b (stops core [] Budget) step).made) (sym (eq_no core.events setup.budget left))
          (subst (λ c. TellsCaller other called (answered_call roads setup core actor c).made) (sym is) (kill_reaches actor target core alive may other since called on side));
    }
