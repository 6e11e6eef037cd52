-- An actor that waits for an activity takes part in it, as activities end and as time passes.
use Rattle.std.proofs.Common.{◌≡◌, ◌⊎◌, ℕ, zero, suc, ◌+◌, ◌-◌, ◌<◌, ◌==◌, ◌&&◌, Bool, true, false, cond, inl, inr, Option, None, Some, option_map, List, [], ◌∷◌, length, set, get_or, refl, sym, ap, subst, ◌∙◌, arith}
use Rattle.std.specs.List.{All}
use Rattle.std.proofs.lemmas.List.{length-map, length-set}
use Rattle.std.proofs.lemmas.List.Elements.{All-nil, All-cons, All-head, All-tail}
use Rattle.sg_base.specs.declared.awaits.Await.{Await}
use Rattle.sg_base.specs.declared.awaits.Party.{Party}
use Rattle.sg_base.specs.declared.awaits.Party.TheVariants as party
use Rattle.sg_base.specs.declared.call.Answer.{Answer}
use Rattle.sg_base.specs.declared.call.Call.{Call}
use Rattle.sg_activity_table.specs.Slots.{passes, serials}
use Rattle.sg_activity.specs.Task.{Task, is_hit, phase_after, task_at}
use Rattle.sg_activity.specs.Underway.{due_in, hits, passed}
use Rattle.sg_mailbox.specs.declared.sides.Side.{Side}
use Rattle.sg_profile.specs.Profiles.{entry_at, rows_due}
use Rattle.sg_requests.specs.Requested.{queue_at}
use Rattle.sg_actor_states.specs.declared.state.Actor.{Actor}
use Rattle.sg_actor_states.specs.declared.state.Blocking.{Blocking}
use Rattle.sg_actor_states.specs.declared.state.State.TheVariants.{Ready, Blocked, Ended}
use Rattle.sg_actor_states.specs.Actors.{actor_at, blocking_in, not_suspended, put_state, state_at}
use Rattle.sg_mailbox.specs.declared.owners.How.{How}
use Rattle.sg_mailbox.specs.declared.owners.How.TheVariants as how
use Rattle.sg_mailbox.specs.declared.owners.Whose.{Whose}
use Rattle.sg_mailbox.specs.declared.owners.Whose.TheVariants.{Over, Alone, Posted, Pair}
use Rattle.sg_kernel_calls.specs.declared.stop.Stop.TheVariants.{Budget}
use Rattle.sg_kernel_calls.specs.kept.Sound.{is_posted}
use Rattle.sg_kernel_calls.specs.Answers.{answer_to, answers, answers_by, answers_side, bare_side, finishes, for_receiver, awaits_side, party_eq, tells_bytes, with_over}
use Rattle.sg_kernel.specs.Passes.{all_fail, changes, core_later, ends, ends_by, ends_in, ends_one, enters_one, entry_stretches, fails, fails_one, next_span, pass_at, pass_of, settled, stretches}
use Rattle.sg_kernel_calls.specs.Steps.{Step, goes_on, stops, counted, and_then, each, all_of, replied}
use Rattle.sg_kernel_calls.specs.Setup.{Setup}
use Rattle.sg_kernel_calls.specs.World.{Core, state_of, whose_at}
use Rattle.sg_kernel_calls.proofs.Finishes.{answers_side_goes}
use Rattle.sg_kernel.proofs.Hits.{rest_is_hit}
use Rattle.sg_kernel.proofs.Skips.{finishes_leaves}
use Rattle.sg_kernel_laws.proofs.failure_lemmas.Others.{first_there}
use Rattle.sg_kernel_laws.proofs.failure_lemmas.Passed.{entry_leaves, ready_after}
use Rattle.sg_kernel_laws.proofs.actor_lemmas.Kept.{Replying, answers_kept, one_made, side_kept}
use Rattle.sg_engine_laws.proofs.await_lemmas.Answered.{after_both}
use Rattle.sg_engine_laws.proofs.await_lemmas.Over.{anything, core_after}
use Rattle.sg_engine_laws.specs.changes.Theirs.{PartOf}
use Rattle.sg_engine_laws.proofs.change_lemmas.Theirs.{HaveParts, IsAsked, IsPart, LeftOf, Nobody, TakePart, none_changed, none_mapped, parts_over, parts_tasks}

-- ---- who is blocked after one endpoint was answered
-- what holds of a new one and of the one that stands for none holds where the new one is put
pub at_place : {X : Type 0} (P : X → Type 0) (xs : List X) (i : ℕ) (new d : X) → P new → P d → P (get_or (set xs i new) i d)
at_place P [] i new d p q = q
at_place P (x ∷ xs) zero new d p q = p
at_place P (x ∷ xs) (suc i) new d p q = at_place P xs i new d p q

pub not_blocked : (actors : List Actor) (actor since : ℕ) (answer : Answer) (what : Call) (on : Await) → state_at (put_state actors actor (Ready answer)) actor ≡ Blocked what since (Some on) → ⊥
not_blocked actors actor since answer what on =
    at_place (λ (a : Actor). a.state ≡ Blocked what since (Some on) → ⊥) actors (actor - 1) (record (actor_at actors actor) { state = Ready answer }) (not_suspended Ended) (λ e. absurd (cc e)) (λ e. absurd (cc e))

party_same : (side : Party) → party_eq side side ≡ true
party_same party.Alone = refl
party_same party.Sender = refl
party_same party.Receiver = refl

pub is_on_it : (serial : ℕ) (side : Party) (on : Await) → on.serial.0 ≡ serial → on.party ≡ side → awaits_side serial side (Some on) ≡ true
is_on_it serial side on same kind =
    let one : (on.serial.0 == serial) ≡ true = grind (arith, same) in
    ap (λ b. b && party_eq on.party side) one ∙ ap (λ p. party_eq p side) kind ∙ party_same side

-- it was so before, and isn't the one that was answered
pub record StillWaits (serial : ℕ) (side : Party) (given : Side) (core : Core) (actor since : ℕ) (what : Call) (on : Await) : Type 0 where
  pub before : state_of core actor ≡ Blocked what since (Some on)
  pub other : given.actor.0 ≡ actor → on.serial.0 ≡ serial → on.party ≡ side → ⊥

pub side_leaves : (over : How) (serial : ℕ) (side : Party) (given : Side) (core : Core) (actor since : ℕ) (what : Call) (on : Await) → state_of (answers_side over serial side given core).core actor ≡ Blocked what since (Some on) → StillWaits serial side given core actor since what on
side_leaves over serial side given core actor since what on = by (blocking_in (state_of core given.actor.0)) refl
  where
    found : given.actor.0 ≡ actor → state_of core actor ≡ Blocked what since (Some on) → blocking_in (state_of core given.actor.0) ≡ Some (record { what = what; since = since; on = Some on })
    found same e = ap (λ n. blocking_in (state_of core n)) same ∙ ap blocking_in e

    tested : (blocking : Blocking) → blocking_in (state_of core given.actor.0) ≡ Some blocking → (b : Bool) → awaits_side serial side blocking.on ≡ b →
        state_of (cond b (replied given.actor.0 blocking.what blocking.since (cond (tells_bytes blocking.what) given.bytes 0) (answer_to over blocking.what given.msg) core) (goes_on core [])).core actor ≡ Blocked what since (Some on) → StillWaits serial side given core actor since what on
    tested blocking e true there is = record {
      before = ready_after core.actors given.actor.0 actor since (answer_to over blocking.what given.msg) what (Some on) is;
      other = λ same of kind. not_blocked core.actors given.actor.0 since (answer_to over blocking.what given.msg) what on (ap (λ n. state_at (put_state core.actors given.actor.0 (Ready (answer_to over blocking.what given.msg))) n) same ∙ is);
    }
    tested blocking e false there is = record {
      before = is;
      other = λ same of kind.
          let one : blocking ≡ record { what = what; since = since; on = Some on } = cc (sym e ∙ found same is) in
          absurd (cc (sym there ∙ ap (λ (b : Blocking). awaits_side serial side b.on) one ∙ is_on_it serial side on of kind));
    }

    by : (o : Option Blocking) → blocking_in (state_of core given.actor.0) ≡ o → state_of (answers_by over serial side given o core).core actor ≡ Blocked what since (Some on) → StillWaits serial side given core actor since what on
    by None e is = record { before = is; other = λ same of kind. absurd (cc (sym e ∙ found same is)) }
    by (Some blocking) e is = tested blocking e (awaits_side serial side blocking.on) refl is

-- ---- as some are answered nothing else changes
pub record IsAlike (core later : Core) : Type 0 where
  pub tasks : later.under.tasks ≡ core.under.tasks
  pub whose : later.whose ≡ core.whose
  pub requests : later.requests ≡ core.requests

pub alike_replying : (core : Core) → Replying (IsAlike core) anything
alike_replying core = record { replies = λ actor blocking bytes answer mid is a. one_made (IsAlike core) anything _ _ (record { tasks = a.tasks; whose = a.whose; requests = a.requests }) tt }

pub alike_itself : (core : Core) → IsAlike core core
alike_itself core = record { tasks = refl; whose = refl; requests = refl }

-- an actor that waits then did so before, and isn't one of those that are left
pub parts_alike : (Left : ℕ → Await → Type 0) (core later : Core) → IsAlike core later
    → ((actor since : ℕ) (what : Call) (on : Await) → 0 < actor → state_of later actor ≡ Blocked what since (Some on) → (state_of core actor ≡ Blocked what since (Some on)) × (Left actor on → ⊥)) → TakePart Left core → TakePart Nobody later
parts_alike Left core later a still p = record {
  numbered = ap length a.whose ∙ p.numbered ∙ sym (ap length a.tasks);
  waits = λ actor since what on from e.
      let s = still actor since what on from e in
      subst (λ (w : List Whose). IsPart w actor on ⊎ ⊥) (sym a.whose) (by actor on s.1 (p.waits actor since what on from s.0));
  asked = λ actor from. subst (λ (w : List Whose). All (IsAsked w actor) (queue_at later.requests actor)) (sym a.whose) (subst (λ (r : List (List Await)). All (IsAsked core.whose actor) (get_or r (actor - 1) [])) (sym a.requests) (p.asked actor from));
  posted = λ place is. ap (λ (ts : List (Option Task)). get_or ts place None) a.tasks ∙ p.posted place (ap (λ (w : List Whose). is_posted (get_or w place (Over how.Done))) (sym a.whose) ∙ is);
}
  where
    by : (actor : ℕ) (on : Await) → (Left actor on → ⊥) → IsPart core.whose actor on ⊎ Left actor on → IsPart core.whose actor on ⊎ ⊥
    by actor on none (inl part) = inl part
    by actor on none (inr left) = absurd (none left)

-- ---- one endpoint of what ended is answered
pub one_answered : (over : How) (serial : ℕ) (side : Party) (given : Side) (was : Whose) (core : Core) → 0 < serial → ((actor : ℕ) (on : Await) → PartOf actor was on.party → (given.actor.0 ≡ actor) × (on.party ≡ side)) → TakePart (LeftOf serial was) core
    → TakePart Nobody (answers_side over serial side given core).core
one_answered over serial side given was core from only p =
    parts_alike (LeftOf serial was) core (answers_side over serial side given core).core (side_kept (IsAlike core) anything (alike_replying core) over serial side given core (alike_itself core)).holds by p
  where
    by : (actor since : ℕ) (what : Call) (on : Await) → 0 < actor → state_of (answers_side over serial side given core).core actor ≡ Blocked what since (Some on) → (state_of core actor ≡ Blocked what since (Some on)) × (LeftOf serial was actor on → ⊥)
    by actor since what on some e =
        let s = side_leaves over serial side given core actor since what on e in
        (s.before, λ left. (let o = only actor on left.2 in s.other o.0 (omega (arith, left.0, left.1, from)) o.1))

-- ---- an activity ends
answered_over : (over : How) (serial : ℕ) (was : Whose) (core : Core) → 0 < serial
    → (is_posted was ≡ true → (actor since : ℕ) (what : Call) (on : Await) → 0 < actor → state_of core actor ≡ Blocked what since (Some on) → PartOf actor was on.party → ⊥) → TakePart (LeftOf serial was) core → TakePart Nobody (answers over serial was core).core
answered_over over serial (Over before) core from free p = parts_alike (LeftOf serial (Over before)) core core (alike_itself core) (λ actor since what on some e. (e, λ left. left.2)) p
answered_over over serial (Alone owner) core from free p = one_answered over serial party.Alone (bare_side owner.0) (Alone owner) core from (λ actor on part. (part.1, part.0)) p
answered_over over serial (Posted mailbox sends side) core from free p = parts_alike (LeftOf serial (Posted mailbox sends side)) core core (alike_itself core) (λ actor since what on some e. (e, λ left. free refl actor since what on some e left.2)) p
answered_over over serial (Pair sender receiver) core from free p =
    parts_alike (LeftOf serial was) core last.core alike by p
  where
    was : Whose
    was = Pair sender receiver

    first : Step
    first = answers_side over serial party.Sender sender core

    last : Step
    last = answers over serial was core

    second : Step
    second = answers_side over serial party.Receiver (for_receiver sender receiver) first.core

    alike : IsAlike core last.core
    alike = (answers_kept (IsAlike core) anything (alike_replying core) over serial was core (alike_itself core)).holds

    is : last.core ≡ second.core
    is = core_after first (answers_side over serial party.Receiver (for_receiver sender receiver)) (answers_side_goes over serial party.Sender sender core)

    none : (actor : ℕ) (on : Await) (side : Party) → on.party ≡ side → PartOf actor was side → (sender.actor.0 ≡ actor → on.party ≡ party.Sender → ⊥) → (receiver.actor.0 ≡ actor → on.party ≡ party.Receiver → ⊥) → ⊥
    none actor on party.Alone kind part one two = part
    none actor on party.Sender kind part one two = one part kind
    none actor on party.Receiver kind part one two = two part kind

    by : (actor since : ℕ) (what : Call) (on : Await) → 0 < actor → state_of last.core actor ≡ Blocked what since (Some on) → (state_of core actor ≡ Blocked what since (Some on)) × (LeftOf serial was actor on → ⊥)
    by actor since what on some e =
        let s = side_leaves over serial party.Receiver (for_receiver sender receiver) first.core actor since what on (ap (λ (c : Core). state_of c actor) (sym is) ∙ e) in
        let t = side_leaves over serial party.Sender sender core actor since what on s.before in (
          t.before,
          λ left.
              let same : on.serial.0 ≡ serial = omega (arith, left.0, left.1, from) in
              none actor on on.party refl left.2 (λ it. t.other it same) (λ it. s.other it same),
        )

pub parts_finished : (over : How) (serial : ℕ) (core : Core) → 0 < serial
    → (is_posted (whose_at core serial) ≡ true → (actor since : ℕ) (what : Call) (on : Await) → 0 < actor → state_of core actor ≡ Blocked what since (Some on) → PartOf actor (whose_at core serial) on.party → ⊥)
    → TakePart Nobody core → TakePart Nobody (finishes over serial core).core
parts_finished over serial core from free p = answered_over over serial (whose_at core serial) (with_over over serial core) from free (parts_over over serial core p)

-- what is running has both of its endpoints
pub going_finished : (over : How) (serial : ℕ) (task : Task) (core : Core) → 0 < serial → task_at core.under.tasks serial ≡ Some task → TakePart Nobody core → TakePart Nobody (finishes over serial core).core
going_finished over serial task core from at p = parts_finished over serial core from (λ is actor since what on some e part. absurd (cc (sym at ∙ p.posted (serial - 1) is))) p

-- ---- a time advance
parts_cond : (b : Bool) (one other : Step) → TakePart Nobody one.core → TakePart Nobody other.core → TakePart Nobody (cond b one other).core
parts_cond true one other p q = p
parts_cond false one other p q = q

each_all : (P : Core → Type 0) (R : ℕ → Type 0) (does : ℕ → Core → Step) → ((n : ℕ) (core : Core) → R n → P core → P (does n core).core) → (ns : List ℕ) (core : Core) → All R ns → P core → P (each does ns core).core
unfolding each
each_all P R does one [] core all p = p
each_all P R does one (n ∷ ns) core all p = after_both P (does n core) (each does ns) (one n core (All-head R n ns all) p) (each_all P R does one ns (does n core).core (All-tail R n ns all))

two_keep : (P : Core → Type 0) (first second : Core → Step) (core : Core) → P (first core).core → ((mid : Core) → P mid → P (second mid).core) → P (all_of (first ∷ second ∷ []) core).core
unfolding all_of
two_keep P first second core one two =
    let mid = (first core).core in
    after_both P (first core) (all_of (second ∷ [])) one (λ p. after_both P (second mid) (all_of []) (two mid p) (λ q. q))

pub hit_task : (test : Task → Bool) (slot : Option Task) → passes test slot ≡ true → (task : Task) × (slot ≡ Some task)
hit_task test None e = absurd (cc e)
hit_task test (Some task) e = (task, refl)

parts_fail : (setup : Setup) (serials : List ℕ) (core : Core) → hits core.under ≡ serials → TakePart Nobody core → TakePart Nobody (each (fails setup) serials core).core
unfolding each
parts_fail setup [] core e p = p
parts_fail setup (serial ∷ rest) core e p = by (core.events == setup.budget) (parts_fail setup rest)
  where
    failed : Step
    failed = fails_one serial core

    left : hits failed.core.under ≡ rest
    left = ap hits (finishes_leaves how.Failed serial (counted core)) ∙ rest_is_hit core.under serial rest e

    one : TakePart Nobody failed.core
    one =
        let there = first_there (is_hit core.under.on) 1 serial core.under.tasks rest e in
        let task = hit_task (is_hit core.under.on) (task_at core.under.tasks serial) there.there in
        going_finished how.Failed serial task.0 (counted core) (omega (arith, there.from)) task.1 p

    by : (b : Bool) → ((core : Core) → hits core.under ≡ rest → TakePart Nobody core → TakePart Nobody (each (fails setup) rest core).core) → TakePart Nobody (and_then (cond b (stops core [] Budget) failed) (each (fails setup) rest)).core
    by true more = p
    by false more = after_both (TakePart Nobody) failed (each (fails setup) rest) one (more failed.core left)

pub parts_change : (setup : Setup) (row : ℕ) (core : Core) → TakePart Nobody core → TakePart Nobody (changes setup row core).core
parts_change setup row core p =
    parts_cond (core.events == setup.budget) (stops core [] Budget) (all_of (entry_stretches setup row) core) p
    (two_keep (TakePart Nobody) (enters_one setup row) (all_fail setup) core
    (subst (λ tasks. HaveParts Nobody core.actors tasks core.whose core.requests) (sym (entry_leaves setup.network (entry_at setup.profiles core.turns row) core.under)) p)
    (λ mid. parts_fail setup (hits mid.under) mid refl))

pub parts_end : (setup : Setup) (serial : ℕ) (core : Core) → 0 < serial → TakePart Nobody core → TakePart Nobody (ends setup serial core).core
parts_end setup serial core from p = by (task_at core.under.tasks serial) refl
  where
    next : (task : Task) → task_at core.under.tasks serial ≡ Some task → (after : Option Task) → TakePart Nobody (ends_in serial after (counted core)).core
    next task at None = going_finished how.Done serial task (counted core) from at p
    next task at (Some other) =
        parts_tasks Nobody core.actors core.under.tasks (set core.under.tasks (serial - 1) (Some other)) core.whose core.requests (length-set core.under.tasks (serial - 1) (Some other))
        (λ place. none_changed core.under.tasks (serial - 1) place (Some other) (λ none. absurd (cc (sym none ∙ at)))) p

    by : (o : Option Task) → task_at core.under.tasks serial ≡ o → TakePart Nobody (ends_by setup serial o core).core
    by None at = p
    by (Some task) at = parts_cond (core.events == setup.budget) (stops core [] Budget) (ends_one serial core) p (next task at (phase_after (task_at core.under.tasks serial)))

pub serials_above : {X : Type 0} (test : X → Bool) (n : ℕ) (xs : List (Option X)) → 0 < n → All (λ m. 0 < m) (serials test n xs)
unfolding serials
serials_above test n [] from = All-nil (λ m. 0 < m)
serials_above test n (x ∷ xs) from = by (passes test x) (serials_above test (n + 1) xs (omega arith))
  where
    by : (b : Bool) → All (λ m. 0 < m) (serials test (n + 1) xs) → All (λ m. 0 < m) (cond b (n ∷ serials test (n + 1) xs) (serials test (n + 1) xs))
    by true more = All-cons (λ m. 0 < m) n (serials test (n + 1) xs) from more
    by false more = more

parts_at : (setup : Setup) (core : Core) (span : Option ℕ) → TakePart Nobody core → TakePart Nobody (pass_at setup core span).core
parts_at setup core None p = p
parts_at setup core (Some span) p =
    let rows = rows_due (core.under.date + span) setup.profiles core.turns in
    let moved = core_later span core in
    parts_cond (core.events == setup.budget) (stops core [] Budget) (all_of (stretches setup span core) moved) p
    (two_keep (TakePart Nobody) (each (changes setup) rows) (each (ends setup) (due_in span core.under)) moved
    (each_all (TakePart Nobody) (λ n. Unit {0}) (changes setup) (λ row mid any q. parts_change setup row mid q) rows moved (λ i d within. tt)
    (parts_tasks Nobody core.actors core.under.tasks moved.under.tasks core.whose core.requests (length-map core.under.tasks (option_map (passed core.under span))) (none_mapped (passed core.under span) core.under.tasks) p))
    (λ mid. each_all (TakePart Nobody) (λ n. 0 < n) (ends setup) (parts_end setup) (due_in span core.under) mid (serials_above _ 1 core.under.tasks (omega arith))))

pub parts_passed : (setup : Setup) (core : Core) → TakePart Nobody core → TakePart Nobody (pass_of setup core).core
parts_passed setup core p = parts_at setup (settled core) (next_span setup (settled core)) p
