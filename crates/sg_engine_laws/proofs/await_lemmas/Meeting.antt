-- What names an actor is awaited by it, after the calls on communications.
use Rattle.std.proofs.Common.{◌≡◌, ◌⊎◌, ℕ, ◌+◌, ◌-◌, ◌<◌, ◌==◌, Bool, true, false, cond, IsTrue, inl, inr, Option, None, Some, Result, Ok, Err, [], ◌∷◌, length, refl, sym, ap, ◌∙◌, arith}
use Rattle.std.proofs.lemmas.List.{length-append, length-set}
use Rattle.sg_base.specs.declared.awaits.Await.{Await}
use Rattle.sg_base.specs.declared.awaits.Party.TheVariants as party
use Rattle.sg_base.specs.declared.call.Answer.{Answer}
use Rattle.sg_base.specs.declared.call.Answer.TheVariants as answer
use Rattle.sg_base.specs.declared.call.Call.TheVariants as call
use Rattle.sg_base.specs.declared.ids.ActorId.{ActorId}
use Rattle.sg_activity.specs.Task.{Task, is_cut}
use Rattle.sg_activity.specs.Underway.{begun, with_next_serial}
use Rattle.sg_mailbox.specs.declared.sides.Post.{Post}
use Rattle.sg_mailbox.specs.declared.sides.Side.{Side}
use Rattle.sg_mailbox.specs.Posts.{is_other, partner}
use Rattle.sg_requests.specs.Requested.{oldest, queue_at, queues_without_oldest}
use Rattle.sg_route.specs.declared.router.RouteFault.{RouteFault}
use Rattle.sg_route.specs.Roads.{Roads}
use Rattle.sg_route.specs.Route.{Route}
use Rattle.sg_actor_states.specs.Actors.{joined_by}
use Rattle.sg_kernel_calls.specs.declared.meetings.Comer.{Comer}
use Rattle.sg_mailbox.specs.declared.owners.How.TheVariants as how
use Rattle.sg_mailbox.specs.declared.owners.Whose.{Whose}
use Rattle.sg_mailbox.specs.declared.owners.Whose.TheVariants.{Over, Alone, Posted, Pair}
use Rattle.sg_kernel_calls.specs.Answers.{answers_side, for_receiver, with_over}
use Rattle.sg_kernel_calls.specs.Meetings.{answer_of_over, asks_for, await, both_fail, comer_fails, comes, comes_by, comm_over, fails_with, joined, joins_over, joins_with, other_fails, posted, posts_at, receiver_of, route_between, sender_of, takes_part, takes_part_failed, waits_by, waits_until, way_with}
use Rattle.sg_kernel_calls.specs.Steps.{Step, counted, and_then}
use Rattle.sg_kernel_calls.specs.Setup.{Setup}
use Rattle.sg_kernel_calls.specs.World.{Core, whose_at}
use Rattle.sg_kernel_calls.proofs.Postings.{found_post}
use Rattle.sg_kernel_laws.proofs.actor_lemmas.Kept.{either, side_kept}
use Rattle.sg_engine_laws.specs.awaits.Awaits.{names}
use Rattle.sg_engine_laws.proofs.await_lemmas.Answered.{after_both, awaited_side, caller_replying}
use Rattle.sg_engine_laws.proofs.await_lemmas.Awaiting.{AreAwaited, IsCaller, Lacks, Nobody, awaited_blocked, awaited_ready}
use Rattle.sg_engine_laws.proofs.await_lemmas.Naming.{awaited_asked, awaited_joined, awaited_less, awaited_over, awaited_pushed, awaited_taken, unnamed}
use Rattle.sg_engine_laws.proofs.await_lemmas.Over.{IsGone, anything, is_over, over_there}

pub awaited_cond : (b : Bool) (one other : Step) → AreAwaited Nobody [] one.core → AreAwaited Nobody [] other.core → AreAwaited Nobody [] (cond b one other).core
awaited_cond true one other p q = p
awaited_cond false one other p q = q

-- ---- an endpoint takes part in an activity that it misses
awaited_part : (waits : Bool) (comer : Comer) (serial : ℕ) (core : Core) → joined_by comer.what ≡ None → IsCaller comer.side.actor.0 core → AreAwaited (Lacks comer.side.actor.0 serial) [] core → AreAwaited Nobody [] (takes_part waits comer serial core).core
awaited_part true comer serial core none caller a = awaited_blocked comer.side.actor.0 comer.what (await serial comer.sends) core none caller a
awaited_part false comer serial core none caller a =
    awaited_ready Nobody [] comer.side.actor.0 answer.Done (asks_for comer.side.actor.0 (await serial comer.sends) core) caller.apart (awaited_asked comer.side.actor.0 (await serial comer.sends) core caller a)

-- ---- a communication fails in the call
part_failed : (waits : Bool) (comer : Comer) (serial bytes : ℕ) (core : Core) → joined_by comer.what ≡ None → IsCaller comer.side.actor.0 core → AreAwaited Nobody [] core → AreAwaited Nobody [] (takes_part_failed waits comer serial bytes core).core
part_failed true comer serial bytes core none caller a = awaited_ready Nobody [] comer.side.actor.0 answer.Failed core caller.apart a
part_failed false comer serial bytes core none caller a =
    awaited_part false comer serial core none caller (awaited_less Nobody (Lacks comer.side.actor.0 serial) [] core (λ target other is missed. absurd missed) a)

part_gone : (waits : Bool) (comer : Comer) (serial bytes : ℕ) (core : Core) → IsGone serial core → IsGone serial (takes_part_failed waits comer serial bytes core).core
part_gone true comer serial bytes core gone = gone
part_gone false comer serial bytes core gone = gone

other_failed : (comer : Comer) (serial : ℕ) (other : Side) (core : Core) → IsGone serial core → AreAwaited Nobody [] core → AreAwaited Nobody [] (other_fails comer serial other core).core
other_failed comer serial other core gone a =
    awaited_cond comer.sends (answers_side how.Failed serial party.Receiver (for_receiver comer.side other) core) (answers_side how.Failed serial party.Sender other core)
    (awaited_side Nobody [] how.Failed serial party.Receiver (for_receiver comer.side other) core gone a) (awaited_side Nobody [] how.Failed serial party.Sender other core gone a)

other_calls : (comer : Comer) (serial : ℕ) (other : Side) (core : Core) → IsCaller comer.side.actor.0 core → IsCaller comer.side.actor.0 (other_fails comer serial other core).core
other_calls comer serial other core caller =
    let P = IsCaller comer.side.actor.0 in
    let replying = caller_replying comer.side.actor.0 in
    (either P anything comer.sends (answers_side how.Failed serial party.Receiver (for_receiver comer.side other) core) (answers_side how.Failed serial party.Sender other core)
    (side_kept P anything replying how.Failed serial party.Receiver (for_receiver comer.side other) core caller) (side_kept P anything replying how.Failed serial party.Sender other core caller)).holds

both_failed : (comer : Comer) (serial : ℕ) (other : Side) (core : Core) → joined_by comer.what ≡ None → IsGone serial core → IsCaller comer.side.actor.0 core → AreAwaited Nobody [] core → AreAwaited Nobody [] (both_fail comer serial other core).core
both_failed comer serial other core none gone caller a =
    let bytes = (sender_of comer other).bytes in
    let own = comer_fails comer serial other core in
    let theirs = other_fails comer serial other core in
    awaited_cond comer.sends (and_then own (other_fails comer serial other)) (and_then theirs (comer_fails comer serial other))
    (after_both (AreAwaited Nobody []) own (other_fails comer serial other) (part_failed comer.waits comer serial bytes core none caller a) (other_failed comer serial other own.core (part_gone comer.waits comer serial bytes core gone)))
    (after_both (AreAwaited Nobody []) theirs (comer_fails comer serial other) (other_failed comer serial other core gone a) (part_failed comer.waits comer serial bytes theirs.core none (other_calls comer serial other core caller)))

-- ---- an endpoint arrives at a mailbox
sides_are : (comer : Comer) (other : Side) (target : ActorId) → ((sender_of comer other).actor.0 ≡ target.0) ⊎ ((receiver_of comer other).actor.0 ≡ target.0) → (target.0 ≡ comer.side.actor.0) ⊎ (other.actor.0 ≡ target.0)
sides_are comer other target = by comer.sends
  where
    by : (b : Bool) → ((cond b comer.side other).actor.0 ≡ target.0) ⊎ ((cond b other comer.side).actor.0 ≡ target.0) → (target.0 ≡ comer.side.actor.0) ⊎ (other.actor.0 ≡ target.0)
    by true (inl e) = inl (sym e)
    by true (inr e) = inr e
    by false (inl e) = inr e
    by false (inr e) = inl (sym e)

awaited_route : (found : Result Route RouteFault) (setup : Setup) (comer : Comer) (post : Post) (core : Core) → 0 < post.serial.0 → post.serial.0 - 1 < length core.whose → whose_at core post.serial.0 ≡ Posted comer.mailbox post.sends post.side
    → joined_by comer.what ≡ None → IsCaller comer.side.actor.0 core → AreAwaited Nobody [] core → AreAwaited Nobody [] (joins_over found setup comer post core).core
awaited_route (Err why) setup comer post core some within was none caller a = a
awaited_route (Ok route) setup comer post core some within was none caller a =
    awaited_cond (is_cut core.under.on (way_with route setup comer post.side)) (fails_with comer post.serial post.side (counted core)) (joins_with route setup comer post.serial post.side (counted core))
    (both_failed comer serial post.side (with_over how.Failed serial (counted core)) none (over_there core.whose (serial - 1) how.Failed) caller
    (awaited_over Nobody Nobody [] how.Failed serial (counted core) (λ target other missed. absurd missed) a))
    (awaited_part comer.waits comer serial (joined setup serial route sender receiver (counted core)) none caller
    (awaited_joined comer.side.actor.0 serial comer.mailbox post.sends post.side sender receiver (begun serial task core.under) (counted core) some within (length-set core.under.tasks (serial - 1) (Some task)) was (sides_are comer post.side) a))
  where
    serial : ℕ
    serial = post.serial.0

    sender : Side
    sender = sender_of comer post.side

    receiver : Side
    receiver = receiver_of comer post.side

    task : Task
    task = comm_over setup route sender receiver

pub awaited_comes : (roads : Roads) (setup : Setup) (comer : Comer) (core : Core) → joined_by comer.what ≡ None → IsCaller comer.side.actor.0 core → AreAwaited Nobody [] core → AreAwaited Nobody [] (comes roads setup comer core).core
awaited_comes roads setup comer core none caller a = by (partner comer.sends (posts_at comer.mailbox core)) refl
  where
    only : (target : ActorId) → (comer.side.actor.0 == target.0) ≡ true → target.0 ≡ comer.side.actor.0
    only target is = grind (arith, is)

    by : (found : Option Post) → partner comer.sends (posts_at comer.mailbox core) ≡ found → AreAwaited Nobody [] (comes_by found roads setup comer core).core
    by None e =
        awaited_part comer.waits comer (length core.under.tasks + 1) (posted comer (counted core)) none caller
        (awaited_pushed comer.side.actor.0 (with_next_serial core.under) (Posted comer.mailbox comer.sends comer.side) (counted core) (omega (arith, length-append core.under.tasks (None ∷ []))) only a)
    by (Some post) e =
        let found = found_post (is_other comer.sends) comer.mailbox 1 core.whose post e in
        awaited_route (route_between roads setup (sender_of comer post.side) (receiver_of comer post.side)) setup comer post core (omega (arith, found.from)) (omega (arith, found.from, found.to)) found.is none caller a

-- ---- Wait
over_answer : (whose : Whose) (given : Answer) → answer_of_over whose ≡ Some given → is_over whose ≡ true
over_answer (Over how) given e = refl
over_answer (Alone actor) given e = absurd (cc e)
over_answer (Posted mailbox sends side) given e = absurd (cc e)
over_answer (Pair sender receiver) given e = absurd (cc e)

pub awaited_waits : (found : Option Await) (actor : ℕ) (core : Core) → oldest (queue_at core.requests actor) ≡ found → IsCaller actor core → AreAwaited Nobody [] core → AreAwaited Nobody [] (waits_by found actor core).core
awaited_waits None actor core e caller a = awaited_ready Nobody [] actor answer.Refused core caller.apart a
awaited_waits (Some on) actor core e caller a = until (answer_of_over (whose_at core on.serial.0)) refl
  where
    rest : Core
    rest = record core { requests = queues_without_oldest core.requests actor }

    lacking : AreAwaited (Lacks actor on.serial.0) [] rest
    lacking = awaited_taken actor on core e a

    gone : (given : Answer) → answer_of_over (whose_at core on.serial.0) ≡ Some given → (target : ActorId) (serial : ℕ) → IsTrue (names target (whose_at core serial)) → Lacks actor on.serial.0 target serial → ⊥
    gone given is target serial named lacks = unnamed target (whose_at core serial) (ap (λ n. is_over (whose_at core n)) lacks.1 ∙ over_answer (whose_at core on.serial.0) given is) named

    until : (over : Option Answer) → answer_of_over (whose_at core on.serial.0) ≡ over → AreAwaited Nobody [] (waits_until over actor on rest).core
    until (Some given) is = awaited_ready Nobody [] actor given rest caller.apart (awaited_less (Lacks actor on.serial.0) Nobody [] rest (gone given is) lacking)
    until None is = awaited_blocked actor call.Wait on rest refl caller lacking
