-- What steps keep, one after another.
use Rattle.std.proofs.Common.{◌≡◌, ℕ, ◌+◌, ◌-◌, ◌==◌, Bool, true, false, cond, Option, None, Some, List, [], ◌∷◌, length, refl, sym, subst}
use Rattle.std.specs.List.{All}
use Rattle.std.proofs.lemmas.List.{length-map, length-set}
use Rattle.std.proofs.lemmas.List.Elements.{All-nil, All-cons, All-append}
use Rattle.sg_base.specs.declared.awaits.Party.{Party}
use Rattle.sg_base.specs.declared.awaits.Party.TheVariants as party
use Rattle.sg_base.specs.declared.call.Answer.{Answer}
use Rattle.sg_base.specs.declared.ids.ActorId.{ActorId}
use Rattle.sg_base.specs.declared.trace_record.Record.{Record}
use Rattle.sg_activity.specs.Task.{Task, phase_after, task_at}
use Rattle.sg_activity.specs.Underway as underway
use Rattle.sg_activity.specs.Underway.{Underway, due_in, hits, later, with_task}
use Rattle.sg_mailbox.specs.declared.sides.Side.{Side}
use Rattle.sg_profile.specs.declared.entry.Entry.{Entry}
use Rattle.sg_profile.specs.declared.entry.Entry.TheVariants as entry
use Rattle.sg_profile.specs.declared.turn.Turn.{Turn}
use Rattle.sg_profile.specs.Profiles.{entry_at, rows_due, turns_after_row}
use Rattle.sg_platform_rows.specs.declared.network.Network.{Network}
use Rattle.sg_actor_states.specs.declared.state.Blocking.{Blocking}
use Rattle.sg_actor_states.specs.Actors.{blocking_in, joiners}
use Rattle.sg_mailbox.specs.declared.owners.How.{How}
use Rattle.sg_mailbox.specs.declared.owners.How.TheVariants as how
use Rattle.sg_mailbox.specs.declared.owners.Whose.{Whose}
use Rattle.sg_mailbox.specs.declared.owners.Whose.TheVariants.{Over, Alone, Posted, Pair}
use Rattle.sg_kernel_calls.specs.declared.stop.Stop.{Stop}
use Rattle.sg_kernel_calls.specs.declared.stop.Stop.TheVariants.{Budget}
use Rattle.sg_kernel_calls.specs.Answers.{answer_to, answers, answers_by, answers_side, bare_side, finishes, for_receiver, awaits_side, tells_bytes, with_over}
use Rattle.sg_kernel_calls.specs.Kills.{gives_up, gives_up_by}
use Rattle.sg_kernel_calls.specs.Locks.{all_wake, joiners_wake, wakes, wakes_from}
use Rattle.sg_kernel.specs.Passes.{all_fail, applied_if, changes, core_later, ends, ends_by, ends_in, ends_one, enters, enters_one, entry_stretches, fails, next_span, pass_at, pass_of, settled, stretches}
use Rattle.sg_kernel_calls.specs.Steps.{Step, goes_on, stops, counted, follows, and_then, each, all_of, replied}
use Rattle.sg_kernel_calls.specs.Setup.{Setup}
use Rattle.sg_kernel_calls.specs.World.{Core, state_of, whose_at}

-- it holds after the step, and the other of each record
pub record Kept (P : Core → Type 0) (Q : Record → Type 0) (step : Step) : Type 0 where
  pub holds : P step.core
  pub made : All Q step.made

pub still : (P : Core → Type 0) (Q : Record → Type 0) (core : Core) (why : Option Stop) → P core → Kept P Q (record { core = core; made = []; stop = why })
still P Q core why p = record { holds = p; made = All-nil Q }

pub one_made : (P : Core → Type 0) (Q : Record → Type 0) (core : Core) (r : Record) → P core → Q r → Kept P Q (goes_on core (r ∷ []))
one_made P Q core r p q = record { holds = p; made = All-cons Q r [] q (All-nil Q) }

pub either : (P : Core → Type 0) (Q : Record → Type 0) (b : Bool) (one other : Step) → Kept P Q one → Kept P Q other → Kept P Q (cond b one other)
either P Q true one other s t = s
either P Q false one other s t = t

pub both : (P : Core → Type 0) (Q : Record → Type 0) (first : Step) (next : Core → Step) → Kept P Q first → (P first.core → Kept P Q (next first.core)) → Kept P Q (and_then first next)
both P Q first next s more = by first.stop
  where
    by : (o : Option Stop) → Kept P Q (follows o first (next first.core))
    by None = let t = more s.holds in record { holds = t.holds; made = All-append Q first.made (next first.core).made s.made t.made }
    by (Some why) = s

pub each_kept : {X : Type 0} (P : Core → Type 0) (Q : Record → Type 0) (does : X → Core → Step) → ((x : X) (core : Core) → P core → Kept P Q (does x core)) → (xs : List X) (core : Core) → P core → Kept P Q (each does xs core)
unfolding each
each_kept P Q does one [] core p = still P Q core None p
each_kept P Q does one (x ∷ xs) core p = both P Q (does x core) (each does xs) (one x core p) (each_kept P Q does one xs (does x core).core)

pub none_kept : (P : Core → Type 0) (Q : Record → Type 0) (core : Core) → P core → Kept P Q (all_of [] core)
unfolding all_of
none_kept P Q core p = still P Q core None p

pub more_kept : (P : Core → Type 0) (Q : Record → Type 0) (first : Core → Step) (rest : List (Core → Step)) (core : Core) → Kept P Q (first core) → ((mid : Core) → P mid → Kept P Q (all_of rest mid)) → Kept P Q (all_of (first ∷ rest) core)
unfolding all_of
more_kept P Q first rest core one more = both P Q (first core) (all_of rest) one (more (first core).core)

-- one that continues, and what holds after it
pub then_kept : (M P : Core → Type 0) (Q : Record → Type 0) (first : Step) (next : Core → Step) → first.stop ≡ None → Kept M Q first → (M first.core → Kept P Q (next first.core)) → Kept P Q (and_then first next)
then_kept M P Q first next on s more = subst (λ o. Kept P Q (follows o first (next first.core))) (sym on) (let t = more s.holds in record { holds = t.holds; made = All-append Q first.made (next first.core).made s.made t.made })

pub then_more : (M P : Core → Type 0) (Q : Record → Type 0) (first : Core → Step) (rest : List (Core → Step)) (core : Core) → (first core).stop ≡ None → Kept M Q (first core) → ((mid : Core) → M mid → Kept P Q (all_of rest mid)) → Kept P Q (all_of (first ∷ rest) core)
unfolding all_of
then_more M P Q first rest core on one more = then_kept M P Q (first core) (all_of rest) on one (more (first core).core)

-- ---- what is kept as those that are blocked are answered, and as activities end
pub record Replying (P : Core → Type 0) (Q : Record → Type 0) : Type 0 where
  pub replies : (actor : ℕ) (blocking : Blocking) (bytes : ℕ) (answer : Answer) (core : Core) → blocking_in (state_of core actor) ≡ Some blocking → P core → Kept P Q (replied actor blocking.what blocking.since bytes answer core)

pub record Closed (P : Core → Type 0) (Q : Record → Type 0) : Type 0 where
  pub answered : Replying P Q
  pub over : (over : How) (serial : ℕ) (core : Core) → P core → P (with_over over serial core)

pub wake_kept : (P : Core → Type 0) (Q : Record → Type 0) → Replying P Q → (actor : ActorId) (core : Core) → P core → Kept P Q (wakes actor core)
wake_kept P Q closed actor core p = by (blocking_in (state_of core actor.0)) refl
  where
    by : (found : Option Blocking) → blocking_in (state_of core actor.0) ≡ found → Kept P Q (wakes_from found actor core)
    by None e = still P Q core None p
    by (Some blocking) e = closed.replies actor.0 blocking 0 _ core e p

pub all_kept : (P : Core → Type 0) (Q : Record → Type 0) → Replying P Q → (actors : List ActorId) (core : Core) → P core → Kept P Q (all_wake actors core)
all_kept P Q closed actors core p = each_kept P Q wakes (wake_kept P Q closed) actors core p

pub joiners_kept : (P : Core → Type 0) (Q : Record → Type 0) → Replying P Q → (target : ℕ) (core : Core) → P core → Kept P Q (joiners_wake target core)
joiners_kept P Q closed target core p = all_kept P Q closed (joiners target 1 core.actors) core p

pub side_kept : (P : Core → Type 0) (Q : Record → Type 0) → Replying P Q → (over : How) (serial : ℕ) (side : Party) (given : Side) (core : Core) → P core → Kept P Q (answers_side over serial side given core)
side_kept P Q closed over serial side given core p = by (blocking_in (state_of core given.actor.0)) refl
  where
    by : (found : Option Blocking) → blocking_in (state_of core given.actor.0) ≡ found → Kept P Q (answers_by over serial side given found core)
    by None e = still P Q core None p
    by (Some blocking) e =
        either P Q (awaits_side serial side blocking.on)
        (replied given.actor.0 blocking.what blocking.since (cond (tells_bytes blocking.what) given.bytes 0) (answer_to over blocking.what given.msg) core) (goes_on core [])
        (closed.replies given.actor.0 blocking (cond (tells_bytes blocking.what) given.bytes 0) (answer_to over blocking.what given.msg) core e p) (still P Q core None p)

pub answers_kept : (P : Core → Type 0) (Q : Record → Type 0) → Replying P Q → (over : How) (serial : ℕ) (whose : Whose) (core : Core) → P core → Kept P Q (answers over serial whose core)
answers_kept P Q closed over serial (Over before) core p = still P Q core None p
answers_kept P Q closed over serial (Alone actor) core p = side_kept P Q closed over serial party.Alone (bare_side actor.0) core p
answers_kept P Q closed over serial (Posted mailbox sends side) core p = still P Q core None p
answers_kept P Q closed over serial (Pair sender receiver) core p =
    both P Q (answers_side over serial party.Sender sender core) (answers_side over serial party.Receiver (for_receiver sender receiver)) (side_kept P Q closed over serial party.Sender sender core p)
    (side_kept P Q closed over serial party.Receiver (for_receiver sender receiver) (answers_side over serial party.Sender sender core).core)

pub finishes_kept : (P : Core → Type 0) (Q : Record → Type 0) → Closed P Q → (over : How) (serial : ℕ) (core : Core) → P core → Kept P Q (finishes over serial core)
finishes_kept P Q closed over serial core p = answers_kept P Q closed.answered over serial (whose_at core serial) (with_over over serial core) (closed.over over serial core p)

pub gives_up_kept : (P : Core → Type 0) (Q : Record → Type 0) → Closed P Q → (serial : ℕ) (core : Core) → P core → Kept P Q (gives_up serial core)
gives_up_kept P Q closed serial core p = by (whose_at core serial)
  where
    by : (whose : Whose) → Kept P Q (gives_up_by whose serial core)
    by (Over before) = still P Q core None p
    by (Alone actor) = finishes_kept P Q closed how.Failed serial core p
    by (Posted mailbox sends side) = finishes_kept P Q closed how.Failed serial core p
    by (Pair sender receiver) = finishes_kept P Q closed how.Failed serial core p

-- ---- what is kept in a time advance
abbrev pub Finishing : (Core → Type 0) → (Record → Type 0) → Type 0
Finishing P Q = (over : How) (serial : ℕ) (core : Core) → P core → Kept P Q (finishes over serial core)

pub record Flowing (P : Core → Type 0) : Type 0 where
  pub moved : (under : Underway) (turns : List Turn) (core : Core) → length under.tasks ≡ length core.under.tasks → P core → P (record core { under = under; turns = turns })
  pub counted : (core : Core) → P core → P (counted core)

unless : (P : Core → Type 0) (Q : Record → Type 0) (setup : Setup) (core : Core) (step : Step) → P core → Kept P Q step → Kept P Q (cond (core.events == setup.budget) (stops core [] Budget) step)
unless P Q setup core step p s = either P Q (core.events == setup.budget) (stops core [] Budget) step (still P Q core (Some Budget) p) s

fail_kept : (P : Core → Type 0) (Q : Record → Type 0) → Finishing P Q → Flowing P → (setup : Setup) (serial : ℕ) (core : Core) → P core → Kept P Q (fails setup serial core)
fail_kept P Q finishing flowing setup serial core p =
    unless P Q setup core (finishes how.Failed serial (counted core)) p (finishing how.Failed serial (counted core) (flowing.counted core p))

entry_leaves : (network : Network) (entry : Option Entry) (under : Underway) → length (applied_if network entry under).tasks ≡ length under.tasks
entry_leaves network None under = refl
entry_leaves network (Some (entry.Speed host speed)) under = refl
entry_leaves network (Some (entry.Bandwidth link bandwidth)) under = refl
entry_leaves network (Some (entry.HostOn host on)) under = refl
entry_leaves network (Some (entry.LinkOn link on)) under = refl

enter_kept : (P : Core → Type 0) (Q : Record → Type 0) → Flowing P → (setup : Setup) (row : ℕ) (core : Core) → P core → Kept P Q (enters_one setup row core)
enter_kept P Q flowing setup row core p =
    still P Q (counted (enters setup row core)) None (flowing.counted (enters setup row core)
    (flowing.moved (applied_if setup.network (entry_at setup.profiles core.turns row) core.under) (turns_after_row setup.profiles row core.turns) core (entry_leaves setup.network (entry_at setup.profiles core.turns row) core.under) p))

change_kept : (P : Core → Type 0) (Q : Record → Type 0) → Finishing P Q → Flowing P → (setup : Setup) (row : ℕ) (core : Core) → P core → Kept P Q (changes setup row core)
change_kept P Q finishing flowing setup row core p =
    unless P Q setup core (all_of (entry_stretches setup row) core) p
    (more_kept P Q (enters_one setup row) (all_fail setup ∷ []) core (enter_kept P Q flowing setup row core p)
    (λ mid q. more_kept P Q (all_fail setup) [] mid (each_kept P Q (fails setup) (fail_kept P Q finishing flowing setup) (hits mid.under) mid q) (none_kept P Q)))

end_kept : (P : Core → Type 0) (Q : Record → Type 0) → Finishing P Q → Flowing P → (setup : Setup) (serial : ℕ) (core : Core) → P core → Kept P Q (ends setup serial core)
end_kept P Q finishing flowing setup serial core p = by (task_at core.under.tasks serial)
  where
    next : (after : Option Task) → Kept P Q (ends_in serial after (counted core))
    next None = finishing how.Done serial (counted core) (flowing.counted core p)
    next (Some task) =
        let under = with_task serial (Some task) core.under in
        still P Q (record (counted core) { under = under }) None (flowing.moved under core.turns (counted core) (length-set core.under.tasks (serial - 1) (Some task)) (flowing.counted core p))

    by : (o : Option Task) → Kept P Q (ends_by setup serial o core)
    by None = still P Q core None p
    by (Some task) = unless P Q setup core (ends_one serial core) p (next (phase_after (task_at core.under.tasks serial)))

date_kept : (P : Core → Type 0) (Q : Record → Type 0) → Finishing P Q → Flowing P → (setup : Setup) (core : Core) (span : Option ℕ) → P core → Kept P Q (pass_at setup core span)
date_kept P Q finishing flowing setup core None p = still P Q core (Some _) p
date_kept P Q finishing flowing setup core (Some span) p =
    let rows = rows_due (core.under.date + span) setup.profiles core.turns in
    let serials = due_in span core.under in
    let moved = core_later span core in
    unless P Q setup core (all_of (stretches setup span core) moved) p
    (more_kept P Q (each (changes setup) rows) (each (ends setup) serials ∷ []) moved
    (each_kept P Q (changes setup) (change_kept P Q finishing flowing setup) rows moved (flowing.moved (later span core.under) core.turns core (length-map core.under.tasks _) p))
    (λ mid q. more_kept P Q (each (ends setup) serials) [] mid (each_kept P Q (ends setup) (end_kept P Q finishing flowing setup) serials mid q) (none_kept P Q)))

pub pass_kept : (P : Core → Type 0) (Q : Record → Type 0) → Finishing P Q → Flowing P → (setup : Setup) (core : Core) → P core → Kept P Q (pass_of setup core)
pass_kept P Q finishing flowing setup core p =
    date_kept P Q finishing flowing setup (settled core) (next_span setup (settled core)) (flowing.moved (underway.with_rates_updated core.under) core.turns core refl p)
