-- Whose calls fail in a time advance.
use Rattle.std.proofs.Common.{◌≡◌, ℕ, ◌+◌, ◌-◌, ◌==◌, ◌&&◌, Bool, true, false, cond, inl, inr, Option, None, Some, List, [], ◌∷◌, zero, suc, length, set, get_or, refl, sym, ap, subst, ◌∙◌, arith}
use Rattle.std.specs.List.{All}
use Rattle.std.proofs.lemmas.Bool.{cases_eq, cases_lt}
use Rattle.std.proofs.lemmas.List.{get_or-set_same, get_or-set_other, get_or_past, length-set}
use Rattle.std.proofs.lemmas.List.Elements.{All-nil, All-cons, All-append}
use Rattle.sg_base.specs.declared.awaits.Await.{Await}
use Rattle.sg_base.specs.declared.awaits.Party.{Party}
use Rattle.sg_base.specs.declared.awaits.Party.TheVariants as party
use Rattle.sg_base.specs.declared.call.Answer.{Answer}
use Rattle.sg_base.specs.declared.call.Call.{Call}
use Rattle.sg_base.specs.declared.call.Call.TheVariants as call
use Rattle.sg_base.specs.declared.call.Msg.{Msg}
use Rattle.sg_base.specs.declared.trace_record.Record.{Record}
use Rattle.sg_activity.specs.Task.{Task, phase_after, task_at}
use Rattle.sg_activity.specs.Underway.{Underway, due_in, hits}
use Rattle.sg_mailbox.specs.declared.sides.Side.{Side}
use Rattle.sg_profile.specs.declared.entry.Entry.{Entry}
use Rattle.sg_profile.specs.declared.entry.Entry.TheVariants as entry
use Rattle.sg_profile.specs.Profiles.{entry_at, rows_due}
use Rattle.sg_platform_rows.specs.declared.network.Network.{Network}
use Rattle.sg_actor_states.specs.declared.state.Actor.{Actor}
use Rattle.sg_actor_states.specs.declared.state.Blocking.{Blocking}
use Rattle.sg_actor_states.specs.declared.state.State.{State}
use Rattle.sg_actor_states.specs.declared.state.State.TheVariants.{Ready, Blocked, Ended}
use Rattle.sg_actor_states.specs.Actors.{actor_at, blocking_in, not_suspended, put_state, state_at}
use Rattle.sg_actor_states.specs.Records.{end_by}
use Rattle.sg_mailbox.specs.declared.owners.How.{How}
use Rattle.sg_mailbox.specs.declared.owners.How.TheVariants as how
use Rattle.sg_mailbox.specs.declared.owners.Whose.{Whose}
use Rattle.sg_mailbox.specs.declared.owners.Whose.TheVariants.{Over, Alone, Posted, Pair}
use Rattle.sg_kernel_calls.specs.declared.stop.Stop.{Stop}
use Rattle.sg_kernel_calls.specs.declared.stop.Stop.TheVariants.{Budget}
use Rattle.sg_kernel_calls.specs.Answers.{answer_to, answers, answers_by, answers_side, bare_side, finishes, for_receiver, awaits_side, tells_bytes, with_over}
use Rattle.sg_kernel.specs.Passes.{all_fail, applied_if, changes, core_later, ends, ends_by, ends_in, ends_one, enters_one, entry_stretches, fails, next_span, pass_at, pass_of, settled, stretches}
use Rattle.sg_kernel_calls.specs.Steps.{Step, goes_on, stops, counted, follows, and_then, each, all_of, replied}
use Rattle.sg_kernel_calls.specs.Setup.{Setup}
use Rattle.sg_kernel_calls.specs.World.{Core, state_of, whose_at}
use Rattle.sg_kernel.proofs.Skips.{none_set, none_there}
use Rattle.sg_kernel_calls.proofs.Stated.{blocking_is}
use Rattle.sg_kernel_laws.specs.failures.Laws.{PassesTell, TellsHow, over_by}

-- ---- what steps keep
-- it ended so, and no longer runs
record IsOverBy (over : How) (serial : ℕ) (core : Core) : Type 0 where
  owner : whose_at core serial ≡ Over over
  idle : task_at core.under.tasks serial ≡ None

-- nobody is blocked anew, and what ended in one of these ways stays so
record Keeps (ways : How → Bool) (before after : Core) : Type 0 where
  blocked : (actor since : ℕ) (what : Call) (on : Option Await) → state_of after actor ≡ Blocked what since on → state_of before actor ≡ Blocked what since on
  over : (way : How) (serial : ℕ) → ways way ≡ true → IsOverBy way serial before → IsOverBy way serial after

record Tells (ways : How → Bool) (before after : Core) (told : Record) : Type 0 where
  since : ℕ
  on : Await
  blocked : state_of before told.actor.0 ≡ Blocked told.what since (Some on)
  among : ways (over_by told.end) ≡ true
  over : IsOverBy (over_by told.end) on.serial.0 after

-- a step that keeps that, and whose records say how activities ended
record Tidings (ways : How → Bool) (before : Core) (step : Step) : Type 0 where
  keeps : Keeps ways before step.core
  told : All (Tells ways before step.core) step.made

pub just : (P : Record → Type 0) (told : Record) → P told → All P (told ∷ [])
just P told is = All-cons P told [] is (All-nil P)

pub all_so : (P Q : Record → Type 0) → ((told : Record) → P told → Q told) → (made : List Record) → All P made → All Q made
all_so P Q so made all k d within = so (get_or made k d) (all k d within)

keeps_all : (ways : How → Bool) (core : Core) → Keeps ways core core
keeps_all ways core = record { blocked = λ actor since what on e. e; over = λ way serial among was. was }

keeps_then : (ways : How → Bool) (a b c : Core) → Keeps ways a b → Keeps ways b c → Keeps ways a c
keeps_then ways a b c one two = record {
  blocked = λ actor since what on e. one.blocked actor since what on (two.blocked actor since what on e);
  over = λ way serial among was. two.over way serial among (one.over way serial among was);
}

tells_later : (ways : How → Bool) (a b c : Core) → Keeps ways b c → (told : Record) → Tells ways a b told → Tells ways a c told
tells_later ways a b c keeps told t = record { since = t.since; on = t.on; blocked = t.blocked; among = t.among; over = keeps.over (over_by told.end) t.on.serial.0 t.among t.over }

tells_before : (ways other : How → Bool) (a b c : Core) → Keeps other a b → (told : Record) → Tells ways b c told → Tells ways a c told
tells_before ways other a b c keeps told t = record { since = t.since; on = t.on; blocked = keeps.blocked told.actor.0 t.since told.what (Some t.on) t.blocked; among = t.among; over = t.over }

-- ---- steps that make nothing, and steps one after another
moves : (ways : How → Bool) (a b : Core) (why : Option Stop) → Keeps ways a b → Tidings ways a (record { core = b; made = []; stop = why })
moves ways a b why keeps = record { keeps = keeps; told = All-nil (Tells ways a b) }

stays : (ways : How → Bool) (core : Core) (why : Option Stop) → Tidings ways core (record { core = core; made = []; stop = why })
stays ways core why = moves ways core core why (keeps_all ways core)

from_before : (ways : How → Bool) (a b : Core) (step : Step) → Keeps ways a b → Tidings ways b step → Tidings ways a step
from_before ways a b step keeps t = record {
  keeps = keeps_then ways a b step.core keeps t.keeps;
  told = all_so (Tells ways b step.core) (Tells ways a step.core) (tells_before ways ways a b step.core keeps) step.made t.told;
}

either : (ways : How → Bool) (core : Core) (b : Bool) (one other : Step) → Tidings ways core one → Tidings ways core other → Tidings ways core (cond b one other)
either ways core true one other s t = s
either ways core false one other s t = t

both : (ways : How → Bool) (core : Core) (first : Step) (next : Core → Step) → Tidings ways core first → Tidings ways first.core (next first.core) → Tidings ways core (and_then first next)
both ways core first next s t = by first.stop
  where
    second : Step
    second = next first.core

    by : (o : Option Stop) → Tidings ways core (follows o first (next first.core))
    by None = record {
      keeps = keeps_then ways core first.core second.core s.keeps t.keeps;
      told = All-append (Tells ways core second.core) first.made second.made
          (all_so (Tells ways core first.core) (Tells ways core second.core) (tells_later ways core first.core second.core t.keeps) first.made s.told)
          (all_so (Tells ways first.core second.core) (Tells ways core second.core) (tells_before ways ways core first.core second.core s.keeps) second.made t.told);
    }
    by (Some why) = s

each_tells : {X : Type 0} (ways : How → Bool) (does : X → Core → Step) → ((x : X) (core : Core) → Tidings ways core (does x core)) → (xs : List X) (core : Core) → Tidings ways core (each does xs core)
unfolding each
each_tells ways does one [] core = stays ways core None
each_tells ways does one (x ∷ xs) core = both ways core (does x core) (each does xs) (one x core) (each_tells ways does one xs (does x core).core)

last_tells : (ways : How → Bool) (does : Core → Step) (core : Core) → Tidings ways core (does core) → Tidings ways core (all_of (does ∷ []) core)
unfolding all_of
last_tells ways does core one = both ways core (does core) (all_of []) one (stays ways (does core).core None)

two_tell : (ways : How → Bool) (first second : Core → Step) (core : Core) → Tidings ways core (first core) → ((mid : Core) → Tidings ways mid (second mid)) → Tidings ways core (all_of (first ∷ second ∷ []) core)
unfolding all_of
two_tell ways first second core one two = both ways core (first core) (all_of (second ∷ [])) one (last_tells ways second (first core).core (two (first core).core))

-- ---- one is answered
-- what holds of the new one there and of what stands at a place holds of what stands there then
pub set_there : {X : Type 0} (P : X → Type 0) (xs : List X) (i place : ℕ) (new d : X) → (place ≡ i → P new) → P (get_or xs place d) → P (get_or (set xs i new) place d)
set_there P [] i place new d p q = q
set_there P (x ∷ xs) zero zero new d p q = p refl
set_there P (x ∷ xs) zero (suc place) new d p q = q
set_there P (x ∷ xs) (suc i) zero new d p q = q
set_there P (x ∷ xs) (suc i) (suc place) new d p q = set_there P xs i place new d (λ e. p (ap suc e)) q

pub put_there : (P : State → Type 0) (actors : List Actor) (actor other : ℕ) (state : State) → (other - 1 ≡ actor - 1 → P state) → P (state_at actors other) → P (state_at (put_state actors actor state) other)
put_there P actors actor other state p q =
    set_there (λ (a : Actor). P a.state) actors (actor - 1) (other - 1) (record (actor_at actors actor) { state = state }) (not_suspended Ended) p q

pub ready_after : (actors : List Actor) (actor other since : ℕ) (answer : Answer) (what : Call) (on : Option Await) → state_at (put_state actors actor (Ready answer)) other ≡ Blocked what since on → state_at actors other ≡ Blocked what since on
ready_after actors actor other since answer what on =
    put_there (λ state. state ≡ Blocked what since on → state_at actors other ≡ Blocked what since on) actors actor other (Ready answer) (λ same e. absurd (cc e)) (λ e. e)

-- the one endpoint of the activity with this id
pub record Awaits (serial : ℕ) (on : Option Await) : Type 0 where
  pub side : Await
  pub is : on ≡ Some side
  pub of : side.serial.0 ≡ serial

pub awaits : (serial : ℕ) (side : Party) (on : Option Await) → awaits_side serial side on ≡ true → Awaits serial on
awaits serial side None e = absurd (cc e)
awaits serial side (Some on) e = record { side = on; is = refl; of = grind (arith, both_true (on.serial.0 == serial) _ e) }
  where
    both_true : (a b : Bool) → (a && b) ≡ true → a ≡ true
    both_true true b e = refl
    both_true false b e = absurd (cc e)

done_tells : (what : Call) (message : Msg) (ns : ℕ) → over_by (end_by (answer_to how.Done what message) ns) ≡ how.Done
done_tells call.Ask message ns = refl
done_tells (call.Compute n p) message ns = refl
done_tells (call.Sleep n) message ns = refl
done_tells (call.Send b n m r) message ns = refl
done_tells (call.Recv b) message ns = refl
done_tells (call.ISend b n m r) message ns = refl
done_tells (call.IRecv b) message ns = refl
done_tells call.Wait message ns = refl
done_tells (call.Lock n) message ns = refl
done_tells (call.Unlock n) message ns = refl
done_tells (call.Acquire n) message ns = refl
done_tells (call.Release n) message ns = refl
done_tells call.Barrier message ns = refl
done_tells (call.Create n) message ns = refl
done_tells (call.Join n) message ns = refl
done_tells (call.Kill n) message ns = refl
done_tells (call.Suspend n) message ns = refl
done_tells (call.Resume n) message ns = refl
done_tells call.Yield message ns = refl
done_tells call.Exit message ns = refl

pub answer_tells : (over : How) (what : Call) (message : Msg) (ns : ℕ) → over_by (end_by (answer_to over what message) ns) ≡ over
answer_tells how.Done what message ns = done_tells what message ns
answer_tells how.Failed what message ns = refl

-- an activity of one of these ways
record IsOne (ways : How → Bool) (over : How) (serial : ℕ) (core : Core) : Type 0 where
  among : ways over ≡ true
  is : IsOverBy over serial core

side_tells : (ways : How → Bool) (over : How) (serial : ℕ) (side : Party) (given : Side) (core : Core) → IsOne ways over serial core → Tidings ways core (answers_side over serial side given core)
side_tells ways over serial side given core now = by (blocking_in (state_of core given.actor.0)) refl
  where
    reply : (blocking : Blocking) → Step
    reply blocking = replied given.actor.0 blocking.what blocking.since (cond (tells_bytes blocking.what) given.bytes 0) (answer_to over blocking.what given.msg) core

    replies : (blocking : Blocking) → blocking_in (state_of core given.actor.0) ≡ Some blocking → Awaits serial blocking.on → Tidings ways core (reply blocking)
    replies blocking e at =
        let after = (reply blocking).core in
        let answer = answer_to over blocking.what given.msg in
        let same = answer_tells over blocking.what given.msg (core.under.date - blocking.since) in
        let keeps : Keeps ways core after = record {
          blocked = λ actor since what on is. ready_after core.actors given.actor.0 actor since answer what on is;
          over = λ way other among was. record { owner = was.owner; idle = was.idle };
        } in
        let is : IsOverBy over serial after = record { owner = now.is.owner; idle = now.is.idle } in
        record {
          keeps = keeps;
          told = All-cons (Tells ways core after) _ [] (record {
            since = blocking.since;
            on = at.side;
            blocked = blocking_is (state_of core given.actor.0) blocking e ∙ ap (λ o. Blocked blocking.what blocking.since o) at.is;
            among = ap ways same ∙ now.among;
            over = subst (λ n. IsOverBy _ n after) (sym at.of) (subst (λ h. IsOverBy h serial after) (sym same) is);
          }) (All-nil (Tells ways core after));
        }

    on : (blocking : Blocking) → blocking_in (state_of core given.actor.0) ≡ Some blocking → (b : Bool) → awaits_side serial side blocking.on ≡ b → Tidings ways core (cond b (reply blocking) (goes_on core []))
    on blocking e true there = replies blocking e (awaits serial side blocking.on there)
    on blocking e false there = stays ways core None

    by : (found : Option Blocking) → blocking_in (state_of core given.actor.0) ≡ found → Tidings ways core (answers_by over serial side given found core)
    by None e = stays ways core None
    by (Some blocking) e = on blocking e (awaits_side serial side blocking.on) refl

-- ---- an activity ends
abbrev is_somebodys : Whose → Bool
is_somebodys (Over before) = false
is_somebodys (Alone actor) = true
is_somebodys (Posted mailbox sends side) = true
is_somebodys (Pair sender receiver) = true

over_now : (over : How) (serial : ℕ) (core : Core) → is_somebodys (whose_at core serial) ≡ true → IsOverBy over serial (with_over over serial core)
over_now over serial core somebodys = elim (cases_lt (serial - 1) (length core.whose)) [
  | inl less ↦ record { owner = get_or-set_same core.whose (serial - 1) (Over over) (Over how.Done) less; idle = none_there core.under.tasks (serial - 1) }
  | inr past ↦ absurd (cc (sym somebodys ∙ ap is_somebodys (get_or_past core.whose (serial - 1) (Over how.Done) (omega (arith, past)))))
]

finish_tells : (ways : How → Bool) (over : How) (serial : ℕ) (core : Core) → ways over ≡ true → Keeps ways core (with_over over serial core) → Tidings ways core (finishes over serial core)
finish_tells ways over serial core among keeps = from_before ways core mid (finishes over serial core) keeps (by (whose_at core serial) refl)
  where
    mid : Core
    mid = with_over over serial core

    now : (whose : Whose) → whose_at core serial ≡ whose → is_somebodys whose ≡ true → IsOne ways over serial mid
    now whose e is = record { among = among; is = over_now over serial core (ap is_somebodys e ∙ is) }

    pair : (sender receiver : Side) → IsOne ways over serial mid → Tidings ways mid (answers over serial (Pair sender receiver) mid)
    pair sender receiver one =
        let first = answers_side over serial party.Sender sender mid in
        let t = side_tells ways over serial party.Sender sender mid one in
        both ways mid first (answers_side over serial party.Receiver (for_receiver sender receiver)) t
        (side_tells ways over serial party.Receiver (for_receiver sender receiver) first.core (record { among = among; is = t.keeps.over over serial among one.is }))

    by : (whose : Whose) → whose_at core serial ≡ whose → Tidings ways mid (answers over serial whose mid)
    by (Over before) e = stays ways mid None
    by (Alone actor) e = side_tells ways over serial party.Alone (bare_side actor.0) mid (now (Alone actor) e refl)
    by (Posted mailbox sends side) e = stays ways mid None
    by (Pair sender receiver) e = pair sender receiver (now (Pair sender receiver) e refl)

keeps_counted : (ways : How → Bool) (core : Core) → Keeps ways core (counted core)
keeps_counted ways core = record { blocked = λ actor since what on e. e; over = λ way serial among was. record { owner = was.owner; idle = was.idle } }

-- ---- failures
abbrev is_failure : How → Bool
is_failure how.Done = false
is_failure how.Failed = true

still_over : (whose : List Whose) (place other : ℕ) (over : How) → get_or whose other (Over how.Done) ≡ Over over → get_or (set whose place (Over over)) other (Over how.Done) ≡ Over over
still_over whose place other over e = elim (cases_eq other place) [
  | inl same ↦ elim (cases_lt place (length whose)) [
    | inl less ↦ ap (λ k. get_or (set whose place (Over over)) k (Over how.Done)) same ∙ get_or-set_same whose place (Over over) (Over how.Done) less
    | inr past ↦ get_or_past (set whose place (Over over)) other (Over how.Done) (omega (arith, past, same, length-set whose place (Over over))) ∙ sym (get_or_past whose other (Over how.Done) (omega (arith, past, same))) ∙ e
  ]
  | inr apart ↦ get_or-set_other whose place other (Over over) (Over how.Done) apart ∙ e
]

keeps_failed : (serial : ℕ) (core : Core) → Keeps is_failure core (with_over how.Failed serial core)
keeps_failed serial core = record { blocked = λ actor since what on e. e; over = by }
  where
    by : (way : How) (other : ℕ) → is_failure way ≡ true → IsOverBy way other core → IsOverBy way other (with_over how.Failed serial core)
    by how.Done other among was = absurd (cc among)
    by how.Failed other among was = record {
      owner = still_over core.whose (serial - 1) (other - 1) how.Failed was.owner;
      idle = none_set core.under.tasks (serial - 1) (other - 1) was.idle;
    }

fail_tells : (setup : Setup) (serial : ℕ) (core : Core) → Tidings is_failure core (fails setup serial core)
fail_tells setup serial core =
    let one = finish_tells is_failure how.Failed serial (counted core) refl (keeps_failed serial (counted core)) in
    either is_failure core (core.events == setup.budget) (stops core [] Budget) (finishes how.Failed serial (counted core)) (stays is_failure core (Some Budget))
    (from_before is_failure core (counted core) (finishes how.Failed serial (counted core)) (keeps_counted is_failure core) one)

pub entry_leaves : (network : Network) (entry : Option Entry) (under : Underway) → (applied_if network entry under).tasks ≡ under.tasks
entry_leaves network None under = refl
entry_leaves network (Some (entry.Speed host speed)) under = refl
entry_leaves network (Some (entry.Bandwidth link bandwidth)) under = refl
entry_leaves network (Some (entry.HostOn host on)) under = refl
entry_leaves network (Some (entry.LinkOn link on)) under = refl

enter_tells : (ways : How → Bool) (setup : Setup) (row : ℕ) (core : Core) → Tidings ways core (enters_one setup row core)
enter_tells ways setup row core = moves ways core (enters_one setup row core).core None (record {
  blocked = λ actor since what on e. e;
  over = λ way serial among was. record {
    owner = was.owner;
    idle = ap (λ tasks. task_at tasks serial) (entry_leaves setup.network (entry_at setup.profiles core.turns row) core.under) ∙ was.idle;
  };
})

change_tells : (setup : Setup) (row : ℕ) (core : Core) → Tidings is_failure core (changes setup row core)
change_tells setup row core =
    either is_failure core (core.events == setup.budget) (stops core [] Budget) (all_of (entry_stretches setup row) core) (stays is_failure core (Some Budget))
    (two_tell is_failure (enters_one setup row) (all_fail setup) core (enter_tells is_failure setup row core) (λ mid. each_tells is_failure (fails setup) (fail_tells setup) (hits mid.under) mid))

-- ---- ends of phases
abbrev any : How → Bool
any over = true

-- what isn't running isn't what is
apart_from : (tasks : List (Option Task)) (place other : ℕ) (task : Task) (slot : Option Task) → get_or tasks place None ≡ Some task → get_or tasks other None ≡ None → get_or (set tasks place slot) other None ≡ None
apart_from tasks place other task slot at none = elim (cases_eq other place) [
  | inl same ↦ absurd (cc (sym none ∙ ap (λ k. get_or tasks k None) same ∙ at))
  | inr apart ↦ get_or-set_other tasks place other slot None apart ∙ none
]

owner_apart : (core : Core) (place other : ℕ) (task : Task) (whose over : Whose) → get_or core.under.tasks place None ≡ Some task → get_or core.under.tasks other None ≡ None → get_or core.whose other (Over how.Done) ≡ over → get_or (set core.whose place whose) other (Over how.Done) ≡ over
owner_apart core place other task whose over at none e = elim (cases_eq other place) [
  | inl same ↦ absurd (cc (sym none ∙ ap (λ k. get_or core.under.tasks k None) same ∙ at))
  | inr apart ↦ get_or-set_other core.whose place other whose (Over how.Done) apart ∙ e
]

keeps_done : (serial : ℕ) (task : Task) (core : Core) → task_at core.under.tasks serial ≡ Some task → Keeps any core (with_over how.Done serial core)
keeps_done serial task core at = record {
  blocked = λ actor since what on e. e;
  over = λ way other among was. record {
    owner = owner_apart core (serial - 1) (other - 1) task (Over how.Done) (Over way) at was.idle was.owner;
    idle = none_set core.under.tasks (serial - 1) (other - 1) was.idle;
  };
}

end_tells : (setup : Setup) (serial : ℕ) (core : Core) → Tidings any core (ends setup serial core)
end_tells setup serial core = by (task_at core.under.tasks serial) refl
  where
    ended : (task : Task) → task_at core.under.tasks serial ≡ Some task → (after : Option Task) → Tidings any (counted core) (ends_in serial after (counted core))
    ended task at None = finish_tells any how.Done serial (counted core) refl (keeps_done serial task (counted core) at)
    ended task at (Some next) = moves any (counted core) (ends_in serial (Some next) (counted core)).core None (record {
      blocked = λ actor since what on e. e;
      over = λ way other among was. record {
        owner = was.owner;
        idle = apart_from core.under.tasks (serial - 1) (other - 1) task (Some next) at was.idle;
      };
    })

    by : (o : Option Task) → task_at core.under.tasks serial ≡ o → Tidings any core (ends_by setup serial o core)
    by None at = stays any core None
    by (Some task) at =
        either any core (core.events == setup.budget) (stops core [] Budget) (ends_one serial core) (stays any core (Some Budget))
        (from_before any core (counted core) (ends_one serial core) (keeps_counted any core) (ended task at (phase_after (task_at core.under.tasks serial))))

-- ---- a time advance
tells_how : (ways : How → Bool) (before after : Core) (told : Record) → Tells ways before after told → TellsHow before after told
tells_how ways before after told t = record { since = t.since; on = t.on; blocked = t.blocked; over = t.over.owner }

-- failures, and then ends of phases
failures_first : (core : Core) (first : Step) (next : Core → Step) → Tidings is_failure core first → Tidings any first.core (next first.core) → All (TellsHow core (and_then first next).core) (and_then first next).made
failures_first core first next s t = by first.stop
  where
    second : Step
    second = next first.core

    early : (told : Record) → Tells is_failure core first.core told → TellsHow core second.core told
    early told f = record { since = f.since; on = f.on; blocked = f.blocked; over = (t.keeps.over (over_by told.end) f.on.serial.0 refl f.over).owner }

    late : (told : Record) → Tells any first.core second.core told → TellsHow core second.core told
    late told f = tells_how any core second.core told (tells_before any is_failure core first.core second.core s.keeps told f)

    by : (o : Option Stop) → All (TellsHow core (follows o first (next first.core)).core) (follows o first (next first.core)).made
    by None = All-append (TellsHow core second.core) first.made second.made
        (all_so (Tells is_failure core first.core) (TellsHow core second.core) early first.made s.told)
        (all_so (Tells any first.core second.core) (TellsHow core second.core) late second.made t.told)
    by (Some why) = all_so (Tells is_failure core first.core) (TellsHow core first.core) (tells_how is_failure core first.core) first.made s.told

all_tell : (setup : Setup) (rows serials : List ℕ) (core : Core) → All (TellsHow core (all_of (each (changes setup) rows ∷ each (ends setup) serials ∷ []) core).core) (all_of (each (changes setup) rows ∷ each (ends setup) serials ∷ []) core).made
unfolding all_of
all_tell setup rows serials core =
    let entered = each (changes setup) rows core in
    failures_first core entered (all_of (each (ends setup) serials ∷ [])) (each_tells is_failure (changes setup) (change_tells setup) rows core)
    (last_tells any (each (ends setup) serials) entered.core (each_tells any (ends setup) (end_tells setup) serials entered.core))

-- whose actors do the same
same_actors : (before other after : Core) → other.actors ≡ before.actors → (told : Record) → TellsHow other after told → TellsHow before after told
same_actors before other after same told t = record {
  since = t.since;
  on = t.on;
  blocked = ap (λ (actors : List Actor). state_at actors told.actor.0) (sym same) ∙ t.blocked;
  over = t.over;
}

pass_tells : (setup : Setup) (core : Core) (span : Option ℕ) → All (TellsHow core (pass_at setup core span).core) (pass_at setup core span).made
pass_tells setup core None = All-nil (TellsHow core core)
pass_tells setup core (Some span) = by (core.events == setup.budget)
  where
    moved : Core
    moved = core_later span core

    whole : Step
    whole = all_of (stretches setup span core) moved

    by : (b : Bool) → All (TellsHow core (cond b (stops core [] Budget) whole).core) (cond b (stops core [] Budget) whole).made
    by true = All-nil (TellsHow core core)
    by false =
        all_so (TellsHow moved whole.core) (TellsHow core whole.core) (same_actors core moved whole.core refl) whole.made
        (all_tell setup (rows_due (core.under.date + span) setup.profiles core.turns) (due_in span core.under) moved)

pub passes_tell : PassesTell
passes_tell setup core =
    let step = pass_of setup core in
    all_so (TellsHow (settled core) step.core) (TellsHow core step.core) (same_actors core (settled core) step.core refl) step.made
    (pass_tells setup (settled core) (next_span setup (settled core)))
