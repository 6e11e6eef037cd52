-- An actor that waits for an activity takes part in it, after each call.
use Rattle.std.proofs.Common.{◌≡◌, ◌⊎◌, ℕ, ◌+◌, ◌-◌, ◌<◌, ◌==◌, not, Bool, true, false, cond, inl, inr, Option, None, Some, option_map, option_to_list, Result, Ok, Err, List, [], ◌∷◌, ◌++◌, length, map, set, get_or, refl, sym, ap, subst, ◌∙◌, arith}
use Rattle.std.specs.List.{All, find}
use Rattle.std.proofs.lemmas.Bool.{cases_eq}
use Rattle.std.proofs.lemmas.List.{get_or-set_same, length-append, length-set}
use Rattle.std.proofs.lemmas.List.Elements.{All-nil, All-cons, All-head, All-tail}
use Rattle.sg_base.specs.declared.awaits.Await.{Await}
use Rattle.sg_base.specs.declared.awaits.Party.{Party}
use Rattle.sg_base.specs.declared.awaits.Party.TheVariants as party
use Rattle.sg_base.specs.declared.call.Action.{Action}
use Rattle.sg_base.specs.declared.call.Answer.{Answer}
use Rattle.sg_base.specs.declared.call.Answer.TheVariants as answer
use Rattle.sg_base.specs.declared.call.Call.{Call}
use Rattle.sg_base.specs.declared.call.Call.TheVariants as call
use Rattle.sg_base.specs.declared.ids.ActorId.{ActorId}
use Rattle.sg_base.specs.declared.ids.BoxId.{BoxId}
use Rattle.sg_activity_table.specs.declared.kinds.PhaseKind.{PhaseKind}
use Rattle.sg_activity_table.specs.declared.kinds.PhaseKind.TheVariants as phase
use Rattle.sg_activity.specs.Links.{is_off}
use Rattle.sg_activity.specs.Task.{Task, exec_of, is_cut, rekinded, task_at, timer_of}
use Rattle.sg_activity.specs.Underway.{Underway, begun, gone_on, held, is_computing, is_kept, started, with_phase_kind}
use Rattle.sg_mailbox.specs.declared.sides.Post.{Post}
use Rattle.sg_mailbox.specs.declared.sides.Side.{Side}
use Rattle.sg_mailbox.specs.Posts.{is_other, partner}
use Rattle.sg_requests.specs.Requested.{oldest, queue_at, rising_numbers, serial_of, queues_without_oldest}
use Rattle.sg_route.specs.declared.router.RouteFault.{RouteFault}
use Rattle.sg_route.specs.Roads.{Roads}
use Rattle.sg_route.specs.Route.{Route}
use Rattle.sg_actor_states.specs.declared.state.Actor.{Actor}
use Rattle.sg_actor_states.specs.declared.state.Blocking.{Blocking}
use Rattle.sg_actor_states.specs.declared.state.State.TheVariants.{Ready, Blocked, Ended}
use Rattle.sg_actor_states.specs.Actors.{actor_at, blocking_in, is_alive, is_ended, not_suspended, put_suspended}
use Rattle.sg_sync.specs.declared.outcome.Outcome.{Outcome}
use Rattle.sg_sync.specs.declared.outcome.Outcome.TheVariants.{GoesOn, Waits, Refused}
use Rattle.sg_sync.specs.Objects.{Done, locked, unlocked, acquired, released, arrived}
use Rattle.sg_kernel_calls.specs.declared.meetings.Comer.{Comer}
use Rattle.sg_mailbox.specs.declared.owners.How.{How}
use Rattle.sg_mailbox.specs.declared.owners.How.TheVariants as how
use Rattle.sg_mailbox.specs.declared.owners.Whose.{Whose}
use Rattle.sg_mailbox.specs.declared.owners.Whose.TheVariants.{Over, Alone, Posted, Pair}
use Rattle.sg_kernel_calls.specs.declared.stop.Stop.TheVariants.{Budget}
use Rattle.sg_kernel_calls.specs.kept.Sound.{is_posted}
use Rattle.sg_kernel_calls.specs.Answers.{answers_side, finishes, for_receiver, side_of, with_over}
use Rattle.sg_kernel_calls.specs.Calls.{await_alone, answer_of_ask, answered, answered_call, blocks_on, computes, executes, told, with_execution}
use Rattle.sg_kernel_calls.specs.Kills.{awaited, blocked_on, gives_up, gives_up_by, kill_done, kills, kills_alive, withdrawn}
use Rattle.sg_kernel_calls.specs.Lives.{begins, created, joins_by, with_actor_ended}
use Rattle.sg_kernel_calls.specs.Locks.{all_wake, caller_first, caller_gets, caller_last, joiners_wake, with_objects}
use Rattle.sg_kernel_calls.specs.Meetings.{answer_of_over, asks_for, await, both_fail, comer_fails, comes, comes_by, comm_over, fails_with, joined, joins_over, joins_with, other_fails, party_of, posted, posts_at, receiver_of, receives_by, route_between, sender_of, sends_by, takes_part, takes_part_failed, waits_by, waits_until, way_with}
use Rattle.sg_kernel_calls.specs.Steps.{Step, goes_on, stops, counted, and_then, each, at_once, readied}
use Rattle.sg_kernel_calls.specs.Suspensions.{held_by, held_if, held_on, held_to, suspended_to}
use Rattle.sg_kernel_calls.specs.Setup.{Setup}
use Rattle.sg_kernel_calls.specs.World.{Core, host_of, is_suspended, state_of, whose_at, with_suspended}
use Rattle.sg_kernel_calls.proofs.Finishes.{answers_side_goes}
use Rattle.sg_kernel_calls.proofs.Postings.{found_post}
use Rattle.sg_kernel_calls.proofs.Stated.{blocking_is}
use Rattle.sg_kernel_laws.proofs.failure_lemmas.Others.{rising_all}
use Rattle.sg_kernel_laws.proofs.failure_lemmas.Passed.{set_there}
use Rattle.sg_kernel_laws.proofs.actor_lemmas.Kept.{Closed, Replying, all_kept, gives_up_kept, joiners_kept, more_kept, none_kept, one_made, side_kept, then_more}
use Rattle.sg_kernel_laws.proofs.actor_lemmas.Others.{same_marked}
use Rattle.sg_engine_laws.proofs.await_lemmas.Answered.{after_both}
use Rattle.sg_engine_laws.proofs.await_lemmas.Over.{anything, core_after, is_over, kill_done_goes, over_there}
use Rattle.sg_base.specs.Turn.{actor_of}
use Rattle.sg_engine_laws.specs.changes.Theirs.{PartOf}
use Rattle.sg_engine_laws.proofs.change_lemmas.Finished.{at_place, one_answered, parts_finished}
use Rattle.sg_engine_laws.proofs.change_lemmas.Theirs.{IsAsked, IsPart, LeftOf, Nobody, TakePart, at_end, none_changed, oldest_is, parts_asks, parts_blocked, parts_fewer, parts_over, parts_paired, parts_pushed, parts_put, parts_queued, parts_ready, parts_taken, parts_tasks}

pub parts_replying : Replying (TakePart Nobody) anything
parts_replying = record { replies = λ actor blocking bytes given core is p. one_made (TakePart Nobody) anything _ _ (parts_ready Nobody core actor given p) tt }

pub parts_cond : (b : Bool) (one other : Step) → TakePart Nobody one.core → TakePart Nobody other.core → TakePart Nobody (cond b one other).core
parts_cond true one other p q = p
parts_cond false one other p q = q

-- ---- executions and sleeps
parts_begin : (slot : Task) (actor : ℕ) (what : Call) (core : Core) → 0 < actor → TakePart Nobody core → TakePart Nobody (blocks_on slot actor what core)
parts_begin slot actor what core from p =
    let begun : Core = record core { under = started slot core.under; whose = core.whose ++ Alone (actor_of actor) ∷ [] } in
    let place : length core.under.tasks + 1 - 1 ≡ length core.whose = omega (arith, p.numbered) in
    let last = at_end core.whose (Alone (actor_of actor)) (Over how.Done) (length core.under.tasks + 1 - 1) place in
    parts_blocked Nobody begun actor what (await_alone (length core.under.tasks + 1)) from
    (record { from = omega arith; part = subst (λ w. PartOf actor w party.Alone) (sym last) (refl, refl) })
    (parts_pushed Nobody core.actors core.under.tasks core.whose core.requests (Some slot) (Alone (actor_of actor)) (λ e. absurd (cc e)) p)

parts_turned : (kind : PhaseKind) (serial : ℕ) (core : Core) → TakePart Nobody core → TakePart Nobody (record core { under = with_phase_kind kind serial core.under })
parts_turned kind serial core p =
    let slot = option_map (rekinded kind) (task_at core.under.tasks serial) in
    parts_tasks Nobody core.actors core.under.tasks (set core.under.tasks (serial - 1) slot) core.whose core.requests (length-set core.under.tasks (serial - 1) slot)
    (λ place. none_changed core.under.tasks (serial - 1) place slot (λ none. ap (option_map (rekinded kind)) none)) p

parts_held_if : (b : Bool) (serial : ℕ) (core : Core) → TakePart Nobody core → TakePart Nobody (held_if b serial core)
parts_held_if true serial core p = parts_turned phase.Kept serial core p
parts_held_if false serial core p = p

parts_computes : (setup : Setup) (actor flops priority : ℕ) (core : Core) → 0 < actor → TakePart Nobody core → TakePart Nobody (computes setup actor flops priority core).core
parts_computes setup actor flops priority core from p =
    parts_cond (is_off core.under.on.hosts (host_of setup actor)) (at_once actor (call.Compute flops priority) 0 answer.Failed core) (executes setup actor flops priority core)
    (parts_ready Nobody core actor answer.Failed p)
    (parts_held_if (is_suspended core actor) (length core.under.tasks + 1) (with_execution setup actor flops priority core) (parts_begin (exec_of (host_of setup actor) flops priority) actor (call.Compute flops priority) core from p))

-- ---- communications
parts_part : (waits : Bool) (comer : Comer) (serial : ℕ) (core : Core) → 0 < comer.side.actor.0 → serial - 1 < length core.whose → IsPart core.whose comer.side.actor.0 (await serial comer.sends) → TakePart Nobody core → TakePart Nobody (takes_part waits comer serial core).core
parts_part true comer serial core from within part p = parts_blocked Nobody core comer.side.actor.0 comer.what (await serial comer.sends) from part p
parts_part false comer serial core from within part p =
    parts_ready Nobody (asks_for comer.side.actor.0 (await serial comer.sends) core) comer.side.actor.0 answer.Done
    (parts_asks Nobody core comer.side.actor.0 (await serial comer.sends) from (record { from = part.from; made = within; part = inr part.part }) p)

-- it was made and has ended
record IsDone (serial : ℕ) (core : Core) : Type 0 where
  from : 0 < serial
  within : serial - 1 < length core.whose
  over : is_over (whose_at core serial) ≡ true

parts_part_failed : (Left : ℕ → Await → Type 0) (waits : Bool) (comer : Comer) (serial bytes : ℕ) (core : Core) → 0 < comer.side.actor.0 → IsDone serial core → TakePart Left core → TakePart Left (takes_part_failed waits comer serial bytes core).core
parts_part_failed Left true comer serial bytes core from done p = parts_ready Left core comer.side.actor.0 answer.Failed p
parts_part_failed Left false comer serial bytes core from done p =
    parts_ready Left (asks_for comer.side.actor.0 (await serial comer.sends) core) comer.side.actor.0 answer.Done
    (parts_asks Left core comer.side.actor.0 (await serial comer.sends) from (record { from = done.from; made = done.within; part = inl done.over }) p)

part_failed_goes : (waits : Bool) (comer : Comer) (serial bytes : ℕ) (core : Core) → (takes_part_failed waits comer serial bytes core).stop ≡ None
part_failed_goes true comer serial bytes core = refl
part_failed_goes false comer serial bytes core = refl

parts_other : (comer : Comer) (serial : ℕ) (sends : Bool) (mailbox : BoxId) (other : Side) (core : Core) → sends ≡ not comer.sends → 0 < serial → TakePart (LeftOf serial (Posted mailbox sends other)) core → TakePart Nobody (other_fails comer serial other core).core
parts_other comer serial sends mailbox other core is from = by comer.sends is
  where
    by : (b : Bool) → sends ≡ not b → TakePart (LeftOf serial (Posted mailbox sends other)) core → TakePart Nobody (cond b (answers_side how.Failed serial party.Receiver (for_receiver comer.side other) core) (answers_side how.Failed serial party.Sender other core)).core
    by true e = one_answered how.Failed serial party.Receiver (for_receiver comer.side other) (Posted mailbox sends other) core from (λ actor on part. (part.1, part.0 ∙ ap party_of e))
    by false e = one_answered how.Failed serial party.Sender other (Posted mailbox sends other) core from (λ actor on part. (part.1, part.0 ∙ ap party_of e))

done_replying : (serial : ℕ) → Replying (IsDone serial) anything
done_replying serial = record { replies = λ actor blocking bytes given core is d. one_made (IsDone serial) anything _ _ (record { from = d.from; within = d.within; over = d.over }) tt }

other_done : (comer : Comer) (serial : ℕ) (other : Side) (core : Core) → IsDone serial core → IsDone serial (other_fails comer serial other core).core
other_done comer serial other core d = by comer.sends
  where
    by : (b : Bool) → IsDone serial (cond b (answers_side how.Failed serial party.Receiver (for_receiver comer.side other) core) (answers_side how.Failed serial party.Sender other core)).core
    by true = (side_kept (IsDone serial) anything (done_replying serial) how.Failed serial party.Receiver (for_receiver comer.side other) core d).holds
    by false = (side_kept (IsDone serial) anything (done_replying serial) how.Failed serial party.Sender other core d).holds

other_goes : (comer : Comer) (serial : ℕ) (other : Side) (core : Core) → (other_fails comer serial other core).stop ≡ None
other_goes comer serial other core = by comer.sends
  where
    by : (b : Bool) → (cond b (answers_side how.Failed serial party.Receiver (for_receiver comer.side other) core) (answers_side how.Failed serial party.Sender other core)).stop ≡ None
    by true = answers_side_goes how.Failed serial party.Receiver (for_receiver comer.side other) core
    by false = answers_side_goes how.Failed serial party.Sender other core

parts_fail_both : (comer : Comer) (serial : ℕ) (sends : Bool) (mailbox : BoxId) (other : Side) (core : Core) → 0 < comer.side.actor.0 → sends ≡ not comer.sends → IsDone serial core → TakePart (LeftOf serial (Posted mailbox sends other)) core → TakePart Nobody (both_fail comer serial other core).core
parts_fail_both comer serial sends mailbox other core from is done p =
    parts_cond comer.sends (and_then own (other_fails comer serial other)) (and_then theirs (comer_fails comer serial other))
    (subst (TakePart Nobody) (sym (core_after own (other_fails comer serial other) (part_failed_goes comer.waits comer serial bytes core)))
    (parts_other comer serial sends mailbox other own.core is done.from (parts_part_failed Left comer.waits comer serial bytes core from done p)))
    (subst (TakePart Nobody) (sym (core_after theirs (comer_fails comer serial other) (other_goes comer serial other core)))
    (parts_part_failed Nobody comer.waits comer serial bytes theirs.core from (other_done comer serial other core done) (parts_other comer serial sends mailbox other core is done.from p)))
  where
    Left : ℕ → Await → Type 0
    Left = LeftOf serial (Posted mailbox sends other)

    bytes : ℕ
    bytes = (sender_of comer other).bytes

    own : Step
    own = comer_fails comer serial other core

    theirs : Step
    theirs = other_fails comer serial other core

-- the one endpoint that waited is one of both
both_there : (comer : Comer) (sends : Bool) (mailbox : BoxId) (other : Side) → sends ≡ not comer.sends → (actor : ℕ) (on : Await) → PartOf actor (Posted mailbox sends other) on.party → PartOf actor (Pair (sender_of comer other) (receiver_of comer other)) on.party
both_there comer sends mailbox other is actor on part = by comer.sends is
  where
    by : (b : Bool) → sends ≡ not b → PartOf actor (Pair (cond b comer.side other) (cond b other comer.side)) on.party
    by true e = subst (PartOf actor (Pair comer.side other)) (sym (part.0 ∙ ap party_of e)) part.1
    by false e = subst (PartOf actor (Pair other comer.side)) (sym (part.0 ∙ ap party_of e)) part.1

comer_there : (comer : Comer) (other : Side) → PartOf comer.side.actor.0 (Pair (sender_of comer other) (receiver_of comer other)) (party_of comer.sends)
comer_there comer other = by comer.sends
  where
    by : (b : Bool) → PartOf comer.side.actor.0 (Pair (cond b comer.side other) (cond b other comer.side)) (party_of b)
    by true = refl
    by false = refl

parts_route : (found : Result Route RouteFault) (setup : Setup) (comer : Comer) (post : Post) (core : Core) → 0 < comer.side.actor.0 → 0 < post.serial.0 → post.serial.0 - 1 < length core.whose → whose_at core post.serial.0 ≡ Posted comer.mailbox post.sends post.side
    → post.sends ≡ not comer.sends → TakePart Nobody core → TakePart Nobody (joins_over found setup comer post core).core
parts_route (Err why) setup comer post core from some within was apart p = p
parts_route (Ok route) setup comer post core from some within was apart p =
    parts_cond (is_cut core.under.on (way_with route setup comer post.side)) (fails_with comer post.serial post.side (counted core)) (joins_with route setup comer post.serial post.side (counted core))
    (parts_fail_both comer post.serial.0 post.sends comer.mailbox post.side (with_over how.Failed post.serial.0 (counted core)) from apart
    (record { from = some; within = omega (arith, within, length-set core.whose (post.serial.0 - 1) (Over how.Failed)); over = over_there core.whose (post.serial.0 - 1) how.Failed })
    (subst (λ w. TakePart (LeftOf post.serial.0 w) (with_over how.Failed post.serial.0 (counted core))) was (parts_over how.Failed post.serial.0 (counted core) p)))
    (parts_part comer.waits comer post.serial.0 (joined setup post.serial.0 route sender receiver (counted core)) from (omega (arith, within, length-set core.whose (post.serial.0 - 1) (Pair sender receiver)))
    (record { from = some; part = subst (λ w. PartOf comer.side.actor.0 w (party_of comer.sends)) (sym here) (comer_there comer post.side) })
    (parts_paired post.serial.0 (begun post.serial.0 task core.under) (Posted comer.mailbox post.sends post.side) (Pair sender receiver) (counted core) (Some task) refl within was refl refl (both_there comer post.sends comer.mailbox post.side apart) p))
  where
    sender : Side
    sender = sender_of comer post.side

    receiver : Side
    receiver = receiver_of comer post.side

    task : Task
    task = comm_over setup route sender receiver

    here : get_or (set core.whose (post.serial.0 - 1) (Pair sender receiver)) (post.serial.0 - 1) (Over how.Done) ≡ Pair sender receiver
    here = get_or-set_same core.whose (post.serial.0 - 1) (Pair sender receiver) (Over how.Done) within

pub found_passes : {X : Type 0} (test : X → Bool) (xs : List X) (x : X) → find test xs ≡ Some x → test x ≡ true
found_passes test [] x e = absurd (cc e)
found_passes test (y ∷ xs) x e = by (test y) refl e (found_passes test xs x)
  where
    by : (b : Bool) → test y ≡ b → cond b (Some y) (find test xs) ≡ Some x → (find test xs ≡ Some x → test x ≡ true) → test x ≡ true
    by true is k later = (let same : y ≡ x = cc k in ap test (sym same) ∙ is)
    by false is k later = later k

pub other_kind : (sends : Bool) (post : Post) → is_other sends post ≡ true → post.sends ≡ not sends
other_kind true post e = by post.sends e
  where
    by : (b : Bool) → not b ≡ true → b ≡ false
    by true e = absurd (cc e)
    by false e = refl
other_kind false post e = e

parts_comes : (roads : Roads) (setup : Setup) (comer : Comer) (core : Core) → 0 < comer.side.actor.0 → TakePart Nobody core → TakePart Nobody (comes roads setup comer core).core
parts_comes roads setup comer core from p = by (partner comer.sends (posts_at comer.mailbox core)) refl
  where
    new : Whose
    new = Posted comer.mailbox comer.sends comer.side

    place : length core.under.tasks + 1 - 1 ≡ length core.whose
    place = omega (arith, p.numbered)

    part : IsPart (core.whose ++ new ∷ []) comer.side.actor.0 (await (length core.under.tasks + 1) comer.sends)
    part = record { from = omega arith; part = subst (λ w. PartOf comer.side.actor.0 w (party_of comer.sends)) (sym (at_end core.whose new (Over how.Done) (length core.under.tasks + 1 - 1) place)) (refl, refl) }

    by : (found : Option Post) → partner comer.sends (posts_at comer.mailbox core) ≡ found → TakePart Nobody (comes_by found roads setup comer core).core
    by None e =
        parts_part comer.waits comer (length core.under.tasks + 1) (posted comer (counted core)) from (omega (arith, p.numbered, length-append core.whose (new ∷ []))) part
        (parts_pushed Nobody core.actors core.under.tasks core.whose core.requests None new (λ is. refl) p)
    by (Some post) e =
        let found = found_post (is_other comer.sends) comer.mailbox 1 core.whose post e in
        parts_route (route_between roads setup (sender_of comer post.side) (receiver_of comer post.side)) setup comer post core from (omega (arith, found.from)) (omega (arith, found.from, found.to)) found.is
        (other_kind comer.sends post (found_passes (is_other comer.sends) (posts_at comer.mailbox core) post e)) p

-- ---- Wait
still_going : (w : Whose) → answer_of_over w ≡ None → is_over w ≡ false
still_going (Over how.Done) e = absurd (cc e)
still_going (Over how.Failed) e = absurd (cc e)
still_going (Alone actor) e = refl
still_going (Posted mailbox sends side) e = refl
still_going (Pair sender receiver) e = refl

parts_waits : (found : Option Await) (actor : ℕ) (core : Core) → oldest (queue_at core.requests actor) ≡ found → 0 < actor → TakePart Nobody core → TakePart Nobody (waits_by found actor core).core
parts_waits None actor core e from p = parts_ready Nobody core actor answer.Refused p
parts_waits (Some on) actor core e from p = until (answer_of_over (whose_at core on.serial.0)) refl
  where
    rest : Core
    rest = record core { requests = queues_without_oldest core.requests actor }

    part_rest : TakePart Nobody rest
    part_rest = parts_taken Nobody core actor from p

    asked : IsAsked core.whose actor on
    asked = oldest_is (IsAsked core.whose actor) (queue_at core.requests actor) on e (p.asked actor from)

    still : is_over (whose_at core on.serial.0) ≡ false → (is_over (whose_at core on.serial.0) ≡ true) ⊎ PartOf actor (whose_at core on.serial.0) on.party → PartOf actor (whose_at core on.serial.0) on.party
    still going (inl over) = absurd (cc (sym going ∙ over))
    still going (inr part) = part

    until : (given : Option Answer) → answer_of_over (whose_at core on.serial.0) ≡ given → TakePart Nobody (waits_until given actor on rest).core
    until (Some given) is = parts_ready Nobody rest actor given part_rest
    until None is = parts_blocked Nobody rest actor call.Wait on from (record { from = asked.from; part = still (still_going (whose_at core on.serial.0) is) asked.part }) part_rest

-- ---- objects
parts_gets : (outcome : Outcome) (actor : ℕ) (what : Call) (core : Core) → TakePart Nobody core → TakePart Nobody (caller_gets outcome actor what core).core
parts_gets GoesOn actor what core p = parts_ready Nobody core actor answer.Done p
parts_gets Waits actor what core p = parts_put Nobody core actor (Blocked what core.under.date None) (λ since which on e. absurd (cc e)) p
parts_gets Refused actor what core p = parts_ready Nobody core actor answer.Refused p

parts_first : (done : Done) (actor : ℕ) (what : Call) (core : Core) → TakePart Nobody core → TakePart Nobody (caller_first done actor what core).core
parts_first done actor what core p =
    let gets = caller_gets done.outcome actor what (with_objects done core) in
    after_both (TakePart Nobody) gets (all_wake done.woken) (parts_gets done.outcome actor what (with_objects done core) p) (λ q. (all_kept (TakePart Nobody) anything parts_replying done.woken gets.core q).holds)

parts_last : (done : Done) (actor : ℕ) (what : Call) (core : Core) → TakePart Nobody core → TakePart Nobody (caller_last done actor what core).core
parts_last done actor what core p =
    let woken = all_wake done.woken (with_objects done core) in
    after_both (TakePart Nobody) woken (caller_gets done.outcome actor what) (all_kept (TakePart Nobody) anything parts_replying done.woken (with_objects done core) p).holds (parts_gets done.outcome actor what woken.core)

-- ---- suspensions
parts_marked : (target : ℕ) (on : Bool) (core : Core) → TakePart Nobody core → TakePart Nobody (with_suspended target on core)
parts_marked target on core =
    parts_fewer Nobody core.actors (put_suspended core.actors target on) core.under.tasks core.whose core.requests (λ other since what side e. sym (same_marked core.actors target other on) ∙ e)

parts_under : (b : Bool) (core : Core) (one other : Underway) → TakePart Nobody (record core { under = one }) → TakePart Nobody (record core { under = other }) → TakePart Nobody (record core { under = cond b one other })
parts_under true core one other p q = p
parts_under false core one other p q = q

parts_held_to : (on : Bool) (serial : ℕ) (core : Core) → TakePart Nobody core → TakePart Nobody (record core { under = held_to on serial core.under })
parts_held_to true serial core p = parts_under (is_computing core.under serial) core (held serial core.under) core.under (parts_turned phase.Kept serial core p) p
parts_held_to false serial core p = parts_under (is_kept core.under serial) core (gone_on serial core.under) core.under (parts_turned phase.Exec serial core p) p

parts_held : (on : Bool) (found : Option Blocking) (core : Core) → TakePart Nobody core → TakePart Nobody (held_by on found core)
parts_held on None core p = p
parts_held on (Some blocking) core p = by blocking.on
  where
    by : (await : Option Await) → TakePart Nobody (held_on on await core)
    by None = p
    by (Some await) = parts_held_to on await.serial.0 core p

parts_suspended : (on : Bool) (target : ActorId) (core : Core) → TakePart Nobody core → TakePart Nobody (suspended_to on target core)
parts_suspended on target core p = by (is_alive (state_of core target.0))
  where
    by : (b : Bool) → TakePart Nobody (cond b (held_by on (blocking_in (state_of core target.0)) (with_suspended target.0 on core)) core)
    by true = parts_held on (blocking_in (state_of core target.0)) (with_suspended target.0 on core) (parts_marked target.0 on core p)
    by false = p

-- ---- kills
-- the activity with this id has ended, or is one in which the actor takes part
abbrev pub Belongs : ℕ → List Whose → ℕ → Type 0
Belongs actor whose serial = (0 < serial) × ((is_over (get_or whose (serial - 1) (Over how.Done)) ≡ true) ⊎ ((side : Party) × PartOf actor (get_or whose (serial - 1) (Over how.Done)) side))

pub record Dying (actor : ℕ) (serials : List ℕ) (core : Core) : Type 0 where
  pub parts : TakePart Nobody core
  pub dead : blocking_in (state_of core actor) ≡ None
  pub belong : All (Belongs actor core.whose) serials

asked_belongs : (actor : ℕ) (whose : List Whose) (on : Await) → IsAsked whose actor on → Belongs actor whose on.serial.0
asked_belongs actor whose on a = (a.from, by a.part)
  where
    w : Whose
    w = get_or whose (on.serial.0 - 1) (Over how.Done)

    by : (is_over w ≡ true) ⊎ PartOf actor w on.party → (is_over w ≡ true) ⊎ ((side : Party) × PartOf actor w side)
    by (inl over) = inl over
    by (inr part) = inr (on.party, part)

queue_belongs : (actor : ℕ) (whose : List Whose) (queue : List Await) → All (IsAsked whose actor) queue → All (Belongs actor whose) (map serial_of queue)
queue_belongs actor whose [] all = All-nil (Belongs actor whose)
queue_belongs actor whose (on ∷ queue) all =
    All-cons (Belongs actor whose) on.serial.0 (map serial_of queue) (asked_belongs actor whose on (All-head (IsAsked whose actor) on queue all)) (queue_belongs actor whose queue (All-tail (IsAsked whose actor) on queue all))

blocked_belongs : (actor : ℕ) (core : Core) → 0 < actor → TakePart Nobody core → All (Belongs actor core.whose) (map serial_of (option_to_list (blocked_on (blocking_in (state_of core actor)))))
blocked_belongs actor core from p = by (blocking_in (state_of core actor)) refl
  where
    part : (on : Await) → IsPart core.whose actor on ⊎ ⊥ → Belongs actor core.whose on.serial.0
    part on (inl is) = (is.from, inr (on.party, is.part))
    part on (inr none) = absurd none

    on : (blocking : Blocking) (o : Option Await) → blocking.on ≡ o → blocking_in (state_of core actor) ≡ Some blocking → All (Belongs actor core.whose) (map serial_of (option_to_list o))
    on blocking None is e = All-nil (Belongs actor core.whose)
    on blocking (Some side) is e =
        let state = blocking_is (state_of core actor) blocking e ∙ ap (λ o. Blocked blocking.what blocking.since o) is in
        All-cons (Belongs actor core.whose) side.serial.0 [] (part side (p.waits actor blocking.since blocking.what side from state)) (All-nil (Belongs actor core.whose))

    by : (found : Option Blocking) → blocking_in (state_of core actor) ≡ found → All (Belongs actor core.whose) (map serial_of (option_to_list (blocked_on found)))
    by None e = All-nil (Belongs actor core.whose)
    by (Some blocking) e = on blocking blocking.on refl e

map_both : (P : ℕ → Type 0) (xs ys : List Await) → All P (map serial_of xs) → All P (map serial_of ys) → All P (map serial_of (xs ++ ys))
map_both P [] ys one two = two
map_both P (x ∷ xs) ys one two = All-cons P x.serial.0 (map serial_of (xs ++ ys)) (All-head P x.serial.0 (map serial_of xs) one) (map_both P xs ys (All-tail P x.serial.0 (map serial_of xs) one) two)

-- what the one at a place awaits
abbrev awaited_there : Core → ℕ → List ℕ
awaited_there core place = rising_numbers (map serial_of (option_to_list (blocked_on (blocking_in (get_or core.actors place (not_suspended Ended)).state)) ++ get_or core.requests place []))

pub awaited_belong : (actor : ℕ) (target : ActorId) (core : Core) → 0 < actor → actor - 1 ≡ target.0 - 1 → TakePart Nobody core → All (Belongs actor core.whose) (awaited target core)
awaited_belong actor target core from same p =
    let P = Belongs actor core.whose in
    let here = option_to_list (blocked_on (blocking_in (state_of core actor))) in
    let queue = queue_at core.requests actor in
    subst (λ ns. All P ns) (ap (awaited_there core) same) (rising_all P (map serial_of (here ++ queue)) (map_both P here queue (blocked_belongs actor core from p) (queue_belongs actor core.whose queue (p.asked actor from))))

-- an actor that was killed isn't blocked, and what it awaited stays its own
record Stays (actor : ℕ) (serials : List ℕ) (core : Core) : Type 0 where
  dead : blocking_in (state_of core actor) ≡ None
  belong : All (Belongs actor core.whose) serials

dead_replied : (dead actor : ℕ) (given : Answer) (core : Core) → blocking_in (state_of core dead) ≡ None → blocking_in (state_of (readied actor given core) dead) ≡ None
dead_replied dead actor given core is = set_there (λ (a : Actor). blocking_in a.state ≡ None) core.actors (actor - 1) (dead - 1) (record (actor_at core.actors actor) { state = Ready given }) (not_suspended Ended) (λ same. refl) is

stays_closed : (actor : ℕ) (serials : List ℕ) → Closed (Stays actor serials) anything
stays_closed actor serials = record {
  answered = record { replies = λ other blocking bytes given core is s. one_made (Stays actor serials) anything _ _ (record { dead = dead_replied actor other given core s.dead; belong = s.belong }) tt };
  over = λ over serial core s. record { dead = s.dead; belong = λ k d within. gone over serial core (get_or serials k d) (s.belong k d within) };
}
  where
    gone : (over : How) (serial : ℕ) (core : Core) (n : ℕ) → Belongs actor core.whose n → Belongs actor (set core.whose (serial - 1) (Over over)) n
    gone over serial core n b = (b.0, set_there (λ (x : Whose). (is_over x ≡ true) ⊎ ((side : Party) × PartOf actor x side)) core.whose (serial - 1) (n - 1) (Over over) (Over how.Done) (λ same. inl refl) b.1)

-- of a communication that is posted the one endpoint is the killed one's
one_side : (actor : ℕ) (w : Whose) (mailbox : BoxId) (sends : Bool) (other : Side) → w ≡ Posted mailbox sends other → (is_over w ≡ true) ⊎ ((side : Party) × PartOf actor w side) → other.actor.0 ≡ actor
one_side actor w mailbox sends other e (inl over) = absurd (cc (sym over ∙ ap is_over e))
one_side actor w mailbox sends other e (inr part) = (subst (λ x. PartOf actor x part.0) e part.1).1

parts_give_up : (dead serial : ℕ) (core : Core) → Belongs dead core.whose serial → blocking_in (state_of core dead) ≡ None → TakePart Nobody core → TakePart Nobody (gives_up serial core).core
parts_give_up dead serial core belongs gone p = by (whose_at core serial) refl
  where
    posted_there : (w : Whose) → whose_at core serial ≡ w → is_posted w ≡ true → (actor since : ℕ) (what : Call) (on : Await) → state_of core actor ≡ Blocked what since (Some on) → PartOf actor w on.party → ⊥
    posted_there (Over before) e is actor since what on state part = part
    posted_there (Alone owner) e is actor since what on state part = absurd (cc is)
    posted_there (Posted mailbox sends other) e is actor since what on state part =
        let same : dead ≡ actor = sym (one_side dead (whose_at core serial) mailbox sends other e belongs.1) ∙ part.1 in
        absurd (cc (sym gone ∙ ap (λ n. blocking_in (state_of core n)) same ∙ ap blocking_in state))
    posted_there (Pair sender receiver) e is actor since what on state part = absurd (cc is)

    fails : TakePart Nobody (finishes how.Failed serial core).core
    fails = parts_finished how.Failed serial core belongs.0 (λ is actor since what on some state part. posted_there (whose_at core serial) refl is actor since what on state part) p

    by : (w : Whose) → whose_at core serial ≡ w → TakePart Nobody (gives_up_by w serial core).core
    by (Over before) e = p
    by (Alone owner) e = fails
    by (Posted mailbox sends other) e = fails
    by (Pair sender receiver) e = fails

-- the first of these is given up
pub dying_next : (dead serial : ℕ) (rest : List ℕ) (core : Core) → Dying dead (serial ∷ rest) core → Dying dead rest (gives_up serial core).core
dying_next dead serial rest core d =
    let R = Belongs dead core.whose in
    let s = (gives_up_kept (Stays dead rest) anything (stays_closed dead rest) serial core (record { dead = d.dead; belong = All-tail R serial rest d.belong })).holds in
    record { parts = parts_give_up dead serial core (All-head R serial rest d.belong) d.dead d.parts; dead = s.dead; belong = s.belong }

parts_given_up : (dead : ℕ) (serials : List ℕ) (core : Core) → Dying dead serials core → TakePart Nobody (each gives_up serials core).core
unfolding each
parts_given_up dead [] core d = d.parts
parts_given_up dead (serial ∷ rest) core d =
    let next = dying_next dead serial rest core d in
    after_both (TakePart Nobody) (gives_up serial core) (each gives_up rest) next.parts (λ p. parts_given_up dead rest (gives_up serial core).core next)

parts_withdrawn : (target : ActorId) (core : Core) → TakePart Nobody core → TakePart Nobody (withdrawn target core)
parts_withdrawn target core p =
    let fewer = parts_queued Nobody core target.0 [] (λ other some same. All-nil (IsAsked core.whose other)) p in
    let dead = parts_put Nobody (record core { requests = set core.requests (target.0 - 1) [] }) target.0 Ended (λ since what on e. absurd (cc e)) fewer in
    record { numbered = dead.numbered; waits = dead.waits; asked = dead.asked; posted = dead.posted }

pub dying_own : (dead actor : ℕ) (target : ActorId) (core : Core) → 0 < dead → dead - 1 ≡ target.0 - 1 → TakePart Nobody core → Dying dead (awaited target core) (kill_done actor target (withdrawn target core)).core
dying_own dead actor target core from same p = done (actor == target.0)
  where
    start : Core
    start = withdrawn target core

    ended : blocking_in (get_or start.actors (target.0 - 1) (not_suspended Ended)).state ≡ None
    ended = at_place (λ (a : Actor). blocking_in a.state ≡ None) core.actors (target.0 - 1) (record (actor_at core.actors target.0) { state = Ended }) (not_suspended Ended) refl refl

    here : Dying dead (awaited target core) start
    here = record {
      parts = parts_withdrawn target core p;
      dead = ap (λ k. blocking_in (get_or start.actors k (not_suspended Ended)).state) same ∙ ended;
      belong = awaited_belong dead target core from same p;
    }

    done : (b : Bool) → Dying dead (awaited target core) (cond b (goes_on start []) (at_once actor (call.Kill target) 0 answer.Done start)).core
    done true = here
    done false = record { parts = parts_ready Nobody start actor answer.Done here.parts; dead = dead_replied dead actor answer.Done start here.dead; belong = here.belong }

parts_killed : (dead actor : ℕ) (target : ActorId) (core : Core) → 0 < dead → dead - 1 ≡ target.0 - 1 → TakePart Nobody core → TakePart Nobody (kills_alive actor target core).core
parts_killed dead actor target core from same p =
    let serials = awaited target core in
    let start = withdrawn target core in
    (then_more (Dying dead serials) (TakePart Nobody) anything (kill_done actor target) (each gives_up serials ∷ joiners_wake target.0 ∷ []) start (kill_done_goes actor target start) (record { holds = dying_own dead actor target core from same p; made = λ i d within. tt })
    (λ mid d. more_kept (TakePart Nobody) anything (each gives_up serials) (joiners_wake target.0 ∷ []) mid (record { holds = parts_given_up dead serials mid d; made = λ i e within. tt })
    (λ late q. more_kept (TakePart Nobody) anything (joiners_wake target.0) [] late (joiners_kept (TakePart Nobody) anything parts_replying target.0 late q) (none_kept (TakePart Nobody) anything)))).holds

parts_kills : (actor : ℕ) (target : ActorId) (core : Core) → TakePart Nobody core → TakePart Nobody (kills actor target core).core
parts_kills actor target core p =
    parts_cond (is_alive (state_of core target.0)) (kills_alive actor target core) (at_once actor (call.Kill target) 0 answer.Done core) alive (parts_ready Nobody core actor answer.Done p)
  where
    alive : TakePart Nobody (kills_alive actor target core).core
    alive = elim (cases_eq target.0 0) [
      | inl none ↦ parts_killed 1 actor target core (omega arith) (omega (arith, none)) p
      | inr some ↦ parts_killed target.0 actor target core (omega (arith, some)) refl p
    ]

-- ---- any call
parts_joins : (ended : Bool) (actor : ℕ) (target : ActorId) (core : Core) → TakePart Nobody core → TakePart Nobody (joins_by ended actor target core).core
parts_joins true actor target core p = parts_ready Nobody core actor answer.Done p
parts_joins false actor target core p = parts_put Nobody core actor (Blocked (call.Join target) core.under.date None) (λ since what on e. absurd (cc e)) p

parts_call : (roads : Roads) (setup : Setup) (core : Core) (actor : ℕ) (what : Call) → 0 < actor → TakePart Nobody core → TakePart Nobody (answered_call roads setup core actor what).core
parts_call roads setup core actor call.Ask from p = parts_ready Nobody core actor answer.Refused p
parts_call roads setup core actor (call.Compute n w) from p = parts_computes setup actor n w (counted core) from p
parts_call roads setup core actor (call.Sleep n) from p = parts_begin (timer_of n) actor (call.Sleep n) (counted core) from p
parts_call roads setup core actor (call.Send b n m r) from p = parts_comes roads setup (sends_by (side_of actor n m r) (call.Send b n m r) true b) core from p
parts_call roads setup core actor (call.Recv b) from p = parts_comes roads setup (receives_by actor (call.Recv b) true b) core from p
parts_call roads setup core actor (call.ISend b n m r) from p = parts_comes roads setup (sends_by (side_of actor n m r) (call.ISend b n m r) false b) core from p
parts_call roads setup core actor (call.IRecv b) from p = parts_comes roads setup (receives_by actor (call.IRecv b) false b) core from p
parts_call roads setup core actor call.Wait from p = parts_waits (oldest (queue_at core.requests actor)) actor (counted core) refl from p
parts_call roads setup core actor (call.Lock n) from p = parts_first (locked (actor_of actor) n core.objects) actor (call.Lock n) (counted core) p
parts_call roads setup core actor (call.Unlock n) from p = parts_first (unlocked (actor_of actor) n core.objects) actor (call.Unlock n) (counted core) p
parts_call roads setup core actor (call.Acquire n) from p = parts_first (acquired (actor_of actor) n core.objects) actor (call.Acquire n) (counted core) p
parts_call roads setup core actor (call.Release n) from p = parts_first (released n core.objects) actor (call.Release n) (counted core) p
parts_call roads setup core actor call.Barrier from p = parts_last (arrived (actor_of actor) core.objects) actor call.Barrier (counted core) p
parts_call roads setup core actor (call.Create n) from p = parts_ready Nobody core actor answer.Refused p
parts_call roads setup core actor (call.Join n) from p = parts_joins (is_ended (state_of core n.0)) actor n (counted core) p
parts_call roads setup core actor (call.Kill n) from p = parts_kills actor n (counted core) p
parts_call roads setup core actor (call.Suspend n) from p = parts_ready Nobody (suspended_to true n (counted core)) actor answer.Done (parts_suspended true n (counted core) p)
parts_call roads setup core actor (call.Resume n) from p = parts_ready Nobody (suspended_to false n (counted core)) actor answer.Done (parts_suspended false n (counted core) p)
parts_call roads setup core actor call.Yield from p = parts_ready Nobody core actor answer.Done p
parts_call roads setup core actor call.Exit from p =
    (joiners_kept (TakePart Nobody) anything parts_replying actor (with_actor_ended actor (counted core)) (parts_put Nobody core actor Ended (λ since what on e. absurd (cc e)) p)).holds

pub parts_answered : (roads : Roads) (setup : Setup) (core : Core) (actor : ℕ) (what : Call) → 0 < actor → TakePart Nobody core → TakePart Nobody (answered roads setup core actor what).core
parts_answered roads setup core actor what from p = parts_cond (core.events == setup.budget) (stops core [] Budget) (answered_call roads setup core actor what) p (parts_call roads setup core actor what from p)

pub parts_told : (setup : Setup) (core : Core) (actor : ℕ) (action : Option Action) → TakePart Nobody core → TakePart Nobody (told setup core actor action).core
parts_told setup core actor action p = parts_cond (core.events == setup.budget) (stops core [] Budget) (goes_on (readied actor (answer_of_ask action) (counted core)) []) p (parts_ready Nobody core actor (answer_of_ask action) p)

pub parts_created : (given : Bool) (actor : ℕ) (target : ActorId) (core : Core) → TakePart Nobody core → TakePart Nobody (created given actor target core).core
parts_created true actor target core p = parts_ready Nobody (begins target (counted core)) actor answer.Done (parts_ready Nobody core target.0 answer.Start p)
parts_created false actor target core p = parts_ready Nobody core actor answer.Refused p
