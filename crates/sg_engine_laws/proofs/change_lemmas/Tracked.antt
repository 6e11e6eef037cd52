-- An actor that is blocked is so still after a step of a time advance, or has its record and its answer.
use Rattle.std.proofs.Common.{◌≡◌, ◌⊎◌, ℕ, zero, suc, ◌+◌, ◌-◌, ◌<◌, ◌==◌, Bool, true, false, cond, inl, inr, Option, None, Some, option_map, List, [], ◌∷◌, ◌++◌, append_assoc, length, get_or, refl, sym, ap, subst, ◌∙◌, arith}
use Rattle.std.specs.List.{All}
use Rattle.std.proofs.lemmas.Bool.{and_parts, cases_eq}
use Rattle.std.proofs.lemmas.List.{length-map}
use Rattle.std.proofs.lemmas.List.Elements.{All-head, All-tail}
use Rattle.sg_base.specs.declared.awaits.Await.{Await}
use Rattle.sg_base.specs.declared.awaits.Party.{Party}
use Rattle.sg_base.specs.declared.awaits.Party.TheVariants as party
use Rattle.sg_base.specs.declared.call.Answer.{Answer}
use Rattle.sg_base.specs.declared.call.Call.{Call}
use Rattle.sg_base.specs.declared.trace_record.Record.{Record}
use Rattle.sg_activity.specs.Task.{Task, is_hit, phase_after, task_at}
use Rattle.sg_activity.specs.Underway.{Underway, due_in, hits, passed}
use Rattle.sg_mailbox.specs.declared.sides.Side.{Side}
use Rattle.sg_profile.specs.declared.entry.Entry.{Entry}
use Rattle.sg_profile.specs.declared.entry.Entry.TheVariants as entry
use Rattle.sg_profile.specs.Profiles.{entry_at, rows_due}
use Rattle.sg_platform_rows.specs.declared.network.Network.{Network}
use Rattle.sg_actor_states.specs.declared.state.Actor.{Actor}
use Rattle.sg_actor_states.specs.declared.state.Blocking.{Blocking}
use Rattle.sg_actor_states.specs.declared.state.State.{State}
use Rattle.sg_actor_states.specs.declared.state.State.TheVariants.{Ready, Blocked, Ended}
use Rattle.sg_actor_states.specs.Actors.{blocking_in, not_suspended, state_at}
use Rattle.sg_actor_states.specs.Records.{record_of}
use Rattle.sg_mailbox.specs.declared.owners.How.{How}
use Rattle.sg_mailbox.specs.declared.owners.How.TheVariants as how
use Rattle.sg_mailbox.specs.declared.owners.Whose.{Whose}
use Rattle.sg_mailbox.specs.declared.owners.Whose.TheVariants.{Over, Alone, Posted, Pair}
use Rattle.sg_kernel_calls.specs.declared.stop.Stop.{Stop}
use Rattle.sg_kernel_calls.specs.declared.stop.Stop.TheVariants.{Budget}
use Rattle.sg_kernel_calls.specs.Answers.{answer_to, answers, answers_by, answers_side, bare_side, finishes, for_receiver, awaits_side, party_eq, tells_bytes, with_over}
use Rattle.sg_kernel.specs.Passes.{all_fail, applied_if, changes, core_later, ends, ends_by, ends_in, ends_one, enters_one, entry_stretches, fails, fails_one, next_span, pass_at, pass_of, settled, stretches}
use Rattle.sg_kernel_calls.specs.Steps.{Step, goes_on, stops, counted, follows, and_then, each, all_of, replied}
use Rattle.sg_kernel_calls.specs.Setup.{Setup}
use Rattle.sg_kernel_calls.specs.World.{Core, state_of, whose_at}
use Rattle.sg_kernel.proofs.Hits.{rest_is_hit}
use Rattle.sg_kernel.proofs.Skips.{finishes_leaves}
use Rattle.sg_kernel_laws.proofs.failure_lemmas.Others.{first_there}
use Rattle.sg_kernel_laws.proofs.failure_lemmas.Passed.{entry_leaves, ready_after}
use Rattle.sg_kernel_laws.proofs.actor_lemmas.Kept.{Replying, one_made, side_kept}
use Rattle.sg_kernel_laws.proofs.actor_lemmas.Others.{same_state}
use Rattle.sg_engine_laws.proofs.await_lemmas.Answered.{after_both}
use Rattle.sg_engine_laws.proofs.await_lemmas.Over.{anything}
use Rattle.sg_engine_laws.proofs.await_lemmas.Awaiting.{put_at}
use Rattle.sg_engine_laws.specs.changes.Theirs.{PartOf}
use Rattle.sg_engine_laws.specs.changes.Told.{IsTold}
use Rattle.sg_engine_laws.proofs.change_lemmas.Theirs.{HaveParts, IsPart, Nobody, TakePart, none_mapped, parts_tasks}
use Rattle.sg_engine_laws.proofs.change_lemmas.Finished.{going_finished, hit_task, parts_end, serials_above}

pub blocked_within : (actors : List Actor) (i : ℕ) (blocking : Blocking) → blocking_in (get_or actors i (not_suspended Ended)).state ≡ Some blocking → i < length actors
blocked_within [] i blocking e = absurd (cc e)
blocked_within (a ∷ actors) zero blocking e = omega arith
blocked_within (a ∷ actors) (suc i) blocking e = omega (arith, blocked_within actors i blocking e)

entry_date : (network : Network) (found : Option Entry) (under : Underway) → (applied_if network found under).date ≡ under.date
entry_date network None under = refl
entry_date network (Some (entry.Speed host speed)) under = refl
entry_date network (Some (entry.Bandwidth link bandwidth)) under = refl
entry_date network (Some (entry.HostOn host on)) under = refl
entry_date network (Some (entry.LinkOn link on)) under = refl

-- the endpoint of an activity on which one is blocked
record IsSideOf (serial : ℕ) (side : Party) (on : Option Await) : Type 0 where
  await : Await
  is : on ≡ Some await
  of : await.serial.0 ≡ serial
  kind : await.party ≡ side

party_is : (a b : Party) → party_eq a b ≡ true → a ≡ b
party_is party.Alone party.Alone e = refl
party_is party.Alone party.Sender e = absurd (cc e)
party_is party.Alone party.Receiver e = absurd (cc e)
party_is party.Sender party.Alone e = absurd (cc e)
party_is party.Sender party.Sender e = refl
party_is party.Sender party.Receiver e = absurd (cc e)
party_is party.Receiver party.Alone e = absurd (cc e)
party_is party.Receiver party.Sender e = absurd (cc e)
party_is party.Receiver party.Receiver e = refl

side_of_it : (serial : ℕ) (side : Party) (on : Option Await) → awaits_side serial side on ≡ true → IsSideOf serial side on
side_of_it serial side None e = absurd (cc e)
side_of_it serial side (Some on) e =
    let both = and_parts (on.serial.0 == serial) (party_eq on.party side) e in
    record { await = on; is = refl; of = grind (arith, both.0); kind = party_is on.party side both.1 }

-- the date stays; an answer that the actor has stays; and if it is blocked so, it still is or has its record
pub record Tracks (actor since : ℕ) (what : Call) (on : Option Await) (core : Core) (step : Step) : Type 0 where
  pub date : step.core.under.date ≡ core.under.date
  pub stays : (given : Answer) → state_of core actor ≡ Ready given → state_of step.core actor ≡ Ready given
  pub told : state_of core actor ≡ Blocked what since on → (state_of step.core actor ≡ Blocked what since on) ⊎ IsTold actor since what step

module _ (actor since : ℕ) (what : Call) (on : Option Await) where
  abbrev pub Follows : Core → Step → Type 0
  Follows core step = Tracks actor since what on core step

  -- ---- steps one after another
  pub quiet : (core later : Core) (why : Option Stop) → later.under.date ≡ core.under.date → later.actors ≡ core.actors → Follows core (record { core = later; made = []; stop = why })
  quiet core later why date actors = record {
    date = date;
    stays = λ given is. ap (λ (a : List Actor). state_at a actor) actors ∙ is;
    told = λ is. inl (ap (λ (a : List Actor). state_at a actor) actors ∙ is);
  }

  follow_cond : (core : Core) (b : Bool) (one other : Step) → Follows core one → Follows core other → Follows core (cond b one other)
  follow_cond core true one other s t = s
  follow_cond core false one other s t = t

  -- the same record as before, after another step
  pub told_first : (first second : Step) → second.core.under.date ≡ first.core.under.date → ((given : Answer) → state_of first.core actor ≡ Ready given → state_of second.core actor ≡ Ready given) → IsTold actor since what first
      → IsTold actor since what (record second { made = first.made ++ second.made })
  told_first first second date stays t = record {
    given = t.given;
    bytes = t.bytes;
    front = t.front;
    back = t.back ++ second.made;
    made =
        ap (λ (ms : List Record). ms ++ second.made) t.made
        ∙ append_assoc t.front (record_of actor what since t.bytes t.given first.core.under.date ∷ t.back) second.made
        ∙ ap (λ (n : ℕ). t.front ++ record_of actor what since t.bytes t.given n ∷ (t.back ++ second.made)) (sym date);
    ready = stays t.given t.ready;
  }

  pub told_second : (first second : Step) → IsTold actor since what second → IsTold actor since what (record second { made = first.made ++ second.made })
  told_second first second t = record {
    given = t.given;
    bytes = t.bytes;
    front = first.made ++ t.front;
    back = t.back;
    made = ap (λ (ms : List Record). first.made ++ ms) t.made ∙ sym (append_assoc first.made t.front (record_of actor what since t.bytes t.given second.core.under.date ∷ t.back));
    ready = t.ready;
  }

  pub follow_both : (core : Core) (first : Step) (next : Core → Step) → Follows core first → Follows first.core (next first.core) → Follows core (and_then first next)
  follow_both core first next s t = by first.stop
    where
      second : Step
      second = next first.core

      later : (state_of first.core actor ≡ Blocked what since on) ⊎ IsTold actor since what first → (state_of second.core actor ≡ Blocked what since on) ⊎ IsTold actor since what (record second { made = first.made ++ second.made })
      later (inl still) = next_by (t.told still)
        where
          next_by : (state_of second.core actor ≡ Blocked what since on) ⊎ IsTold actor since what second → (state_of second.core actor ≡ Blocked what since on) ⊎ IsTold actor since what (record second { made = first.made ++ second.made })
          next_by (inl is) = inl is
          next_by (inr told) = inr (told_second first second told)
      later (inr told) = inr (told_first first second t.date t.stays told)

      by : (o : Option Stop) → Follows core (follows o first second)
      by None = record { date = t.date ∙ s.date; stays = λ given is. t.stays given (s.stays given is); told = λ is. later (s.told is) }
      by (Some why) = s

  -- ---- one is answered
  abbrev pub reply : ℕ → Blocking → ℕ → Answer → Core → Step
  reply g blocking bytes given core = replied g blocking.what blocking.since bytes given core

  here_is : (g : ℕ) (blocking : Blocking) (core : Core) → blocking_in (state_of core g) ≡ Some blocking → actor - 1 ≡ g - 1 → state_of core actor ≡ Blocked what since on → blocking ≡ record { what = what; since = since; on = on }
  here_is g blocking core e same is = cc (sym e ∙ ap blocking_in (sym (same_state core.actors actor g same)) ∙ ap blocking_in is)

  pub reply_tracks : (g : ℕ) (blocking : Blocking) (bytes : ℕ) (given : Answer) (core : Core) → blocking_in (state_of core g) ≡ Some blocking → (state_of core actor ≡ Blocked what since on → blocking.on ≡ on → actor - 1 ≡ g - 1 → g ≡ actor) → Follows core (reply g blocking bytes given core)
  reply_tracks g blocking bytes given core e exact = record {
    date = refl;
    stays = λ other is. put_at (λ (s : State). s ≡ Ready other) core.actors g actor (Ready given) within (λ same. absurd (cc (sym e ∙ ap blocking_in (sym (same_state core.actors actor g same)) ∙ ap blocking_in is))) (λ apart. is);
    told = λ is. elim (cases_eq (actor - 1) (g - 1)) [
      | inl same ↦ inr (told is same)
      | inr apart ↦ inl (put_at (λ (s : State). s ≡ Blocked what since on) core.actors g actor (Ready given) within (λ same. absurd (apart same)) (λ other. is))
    ];
  }
    where
      within : g - 1 < length core.actors
      within = blocked_within core.actors (g - 1) blocking e

      told : state_of core actor ≡ Blocked what since on → actor - 1 ≡ g - 1 → IsTold actor since what (reply g blocking bytes given core)
      told is same =
          let one = here_is g blocking core e same is in
          let number : g ≡ actor = exact is (ap (λ (b : Blocking). b.on) one) same in
          record {
            given = given;
            bytes = bytes;
            front = [];
            back = [];
            made =
                ap (λ (b : Blocking). record_of g b.what b.since bytes given core.under.date ∷ []) one
                ∙ ap (λ (n : ℕ). record_of n what since bytes given core.under.date ∷ []) number;
            ready = put_at (λ (s : State). s ≡ Ready given) core.actors g actor (Ready given) within (λ kind. refl) (λ apart. absurd (apart same));
          }

  side_tracks : (over : How) (serial : ℕ) (side : Party) (given : Side) (core : Core) → (state_of core actor ≡ Blocked what since on → awaits_side serial side on ≡ true → given.actor.0 ≡ actor) → Follows core (answers_side over serial side given core)
  side_tracks over serial side given core exact = by (blocking_in (state_of core given.actor.0)) refl
    where
      tested : (blocking : Blocking) → blocking_in (state_of core given.actor.0) ≡ Some blocking → (b : Bool) → awaits_side serial side blocking.on ≡ b →
          Follows core (cond b (reply given.actor.0 blocking (cond (tells_bytes blocking.what) given.bytes 0) (answer_to over blocking.what given.msg) core) (goes_on core []))
      tested blocking e true there =
          reply_tracks given.actor.0 blocking (cond (tells_bytes blocking.what) given.bytes 0) (answer_to over blocking.what given.msg) core e
          (λ is same place. exact is (ap (awaits_side serial side) (sym same) ∙ there))
      tested blocking e false there = quiet core core None refl refl

      by : (o : Option Blocking) → blocking_in (state_of core given.actor.0) ≡ o → Follows core (answers_by over serial side given o core)
      by None e = quiet core core None refl refl
      by (Some blocking) e = tested blocking e (awaits_side serial side blocking.on) refl

  -- ---- an activity ends
  -- whoever is blocked on an endpoint of it is that endpoint
  part_of_side : (serial : ℕ) (side : Party) (w : Whose) (core : Core) → 0 < actor → TakePart Nobody core → whose_at core serial ≡ w → state_of core actor ≡ Blocked what since on → awaits_side serial side on ≡ true → PartOf actor w side
  part_of_side serial side w core from p e is there =
      let s = side_of_it serial side on there in
      let state = is ∙ ap (λ (o : Option Await). Blocked what since o) s.is in
      by s.await s.of s.kind (p.waits actor since what s.await from state)
    where
      by : (on : Await) → on.serial.0 ≡ serial → on.party ≡ side → IsPart core.whose actor on ⊎ ⊥ → PartOf actor w side
      by on of kind (inl part) = subst (PartOf actor w) kind (subst (λ x. PartOf actor x on.party) (ap (λ n. whose_at core n) of ∙ e) part.part)
      by on of kind (inr none) = absurd none

  -- the states and the date are those of before
  from_alike : (core mid : Core) (step : Step) → mid.under.date ≡ core.under.date → mid.actors ≡ core.actors → Follows mid step → Follows core step
  from_alike core mid step date actors t = record {
    date = t.date ∙ date;
    stays = λ given is. t.stays given (ap (λ (a : List Actor). state_at a actor) actors ∙ is);
    told = λ is. t.told (ap (λ (a : List Actor). state_at a actor) actors ∙ is);
  }

  -- an actor that is blocked so was it before
  abbrev BlockedThen : Core → Core → Type 0
  BlockedThen mid core = state_of core actor ≡ Blocked what since on → state_of mid actor ≡ Blocked what since on

  then_replying : (mid : Core) → Replying (BlockedThen mid) anything
  then_replying mid = record { replies = λ other blocking bytes given core is p. one_made (BlockedThen mid) anything _ _ (λ now. p (ready_after core.actors other actor since given what on now)) tt }

  pub finish_tracks : (over : How) (serial : ℕ) (core : Core) → 0 < actor → TakePart Nobody core → Follows core (finishes over serial core)
  finish_tracks over serial core from p = from_alike core mid (finishes over serial core) refl refl (by (whose_at core serial) refl)
    where
      mid : Core
      mid = with_over over serial core

      by : (w : Whose) → whose_at core serial ≡ w → Follows mid (answers over serial w mid)
      by (Over before) e = quiet mid mid None refl refl
      by (Alone owner) e = side_tracks over serial party.Alone (bare_side owner.0) mid (λ is there. (part_of_side serial party.Alone (Alone owner) core from p e is there).1)
      by (Posted mailbox sends side) e = quiet mid mid None refl refl
      by (Pair sender receiver) e =
          let first = answers_side over serial party.Sender sender mid in
          follow_both mid first (answers_side over serial party.Receiver (for_receiver sender receiver))
          (side_tracks over serial party.Sender sender mid (λ is there. part_of_side serial party.Sender (Pair sender receiver) core from p e is there))
          (side_tracks over serial party.Receiver (for_receiver sender receiver) first.core
          (λ is there. part_of_side serial party.Receiver (Pair sender receiver) core from p e ((side_kept (BlockedThen mid) anything (then_replying mid) over serial party.Sender sender mid (λ now. now)).holds is) there))

  -- ---- a time advance
  abbrev Goes : Core → Step → Type 0
  Goes core step = Follows core step × TakePart Nobody step.core

  goes_cond : (core : Core) (b : Bool) (one other : Step) → Goes core one → Goes core other → Goes core (cond b one other)
  goes_cond core true one other s t = s
  goes_cond core false one other s t = t

  goes_both : (core : Core) (first : Step) (next : Core → Step) → Goes core first → (TakePart Nobody first.core → Goes first.core (next first.core)) → Goes core (and_then first next)
  goes_both core first next s more =
      let t = more s.1 in
      (follow_both core first next s.0 t.0, after_both (TakePart Nobody) first next s.1 (λ p. t.1))

  goes_still : (core : Core) (why : Option Stop) → TakePart Nobody core → Goes core (record { core = core; made = []; stop = why })
  goes_still core why p = (quiet core core why refl refl, p)

  goes_each : (R : ℕ → Type 0) (does : ℕ → Core → Step) → ((n : ℕ) (core : Core) → R n → TakePart Nobody core → Goes core (does n core)) → (ns : List ℕ) (core : Core) → All R ns → TakePart Nobody core → Goes core (each does ns core)
  unfolding each
  goes_each R does one [] core all p = goes_still core None p
  goes_each R does one (n ∷ ns) core all p = goes_both core (does n core) (each does ns) (one n core (All-head R n ns all) p) (goes_each R does one ns (does n core).core (All-tail R n ns all))

  goes_two : (first second : Core → Step) (core : Core) → Goes core (first core) → ((mid : Core) → TakePart Nobody mid → Goes mid (second mid)) → Goes core (all_of (first ∷ second ∷ []) core)
  unfolding all_of
  goes_two first second core one two =
      let mid = (first core).core in
      goes_both core (first core) (all_of (second ∷ [])) one
      (λ p. goes_both mid (second mid) (all_of []) (two mid p) (goes_still (second mid).core None))

  goes_fail : (setup : Setup) (serials : List ℕ) (core : Core) → 0 < actor → hits core.under ≡ serials → TakePart Nobody core → Goes core (each (fails setup) serials core)
  unfolding each
  goes_fail setup [] core from e p = goes_still core None p
  goes_fail setup (serial ∷ rest) core from e p = by (core.events == setup.budget) (λ mid. goes_fail setup rest mid from)
    where
      failed : Step
      failed = fails_one serial core

      left : hits failed.core.under ≡ rest
      left = ap hits (finishes_leaves how.Failed serial (counted core)) ∙ rest_is_hit core.under serial rest e

      one : Goes core failed
      one =
          let there = first_there (is_hit core.under.on) 1 serial core.under.tasks rest e in
          let task = hit_task (is_hit core.under.on) (task_at core.under.tasks serial) there.there in (
            from_alike core (counted core) failed refl refl (finish_tracks how.Failed serial (counted core) from p),
            going_finished how.Failed serial task.0 (counted core) (omega (arith, there.from)) task.1 p,
          )

      by : (b : Bool) → ((mid : Core) → hits mid.under ≡ rest → TakePart Nobody mid → Goes mid (each (fails setup) rest mid)) → Goes core (and_then (cond b (stops core [] Budget) failed) (each (fails setup) rest))
      by true more = goes_still core (Some Budget) p
      by false more = goes_both core failed (each (fails setup) rest) one (more failed.core left)

  goes_change : (setup : Setup) (row : ℕ) (core : Core) → 0 < actor → TakePart Nobody core → Goes core (changes setup row core)
  goes_change setup row core from p =
      goes_cond core (core.events == setup.budget) (stops core [] Budget) (all_of (entry_stretches setup row) core) (goes_still core (Some Budget) p)
      (goes_two (enters_one setup row) (all_fail setup) core (
        quiet core (enters_one setup row core).core None (entry_date setup.network (entry_at setup.profiles core.turns row) core.under) refl,
        subst (λ tasks. HaveParts Nobody core.actors tasks core.whose core.requests) (sym (entry_leaves setup.network (entry_at setup.profiles core.turns row) core.under)) p,
      )
      (λ mid. goes_fail setup (hits mid.under) mid from refl))

  goes_end : (setup : Setup) (serial : ℕ) (core : Core) → 0 < actor → 0 < serial → TakePart Nobody core → Goes core (ends setup serial core)
  goes_end setup serial core from some p = (by (task_at core.under.tasks serial), parts_end setup serial core some p)
    where
      next : (after : Option Task) → Follows core (ends_in serial after (counted core))
      next None = from_alike core (counted core) (finishes how.Done serial (counted core)) refl refl (finish_tracks how.Done serial (counted core) from p)
      next (Some other) = quiet core _ None refl refl

      by : (o : Option Task) → Follows core (ends_by setup serial o core)
      by None = quiet core core None refl refl
      by (Some task) = follow_cond core (core.events == setup.budget) (stops core [] Budget) (ends_one serial core) (quiet core core (Some Budget) refl refl) (next (phase_after (task_at core.under.tasks serial)))

  -- after the date of the time advance has come
  goes_then : (setup : Setup) (rows serials : List ℕ) (core : Core) → 0 < actor → All (λ n. 0 < n) serials → TakePart Nobody core → Goes core (all_of (each (changes setup) rows ∷ each (ends setup) serials ∷ []) core)
  goes_then setup rows serials core from above p =
      goes_two (each (changes setup) rows) (each (ends setup) serials) core
      (goes_each (λ n. Unit {0}) (changes setup) (λ row mid any q. goes_change setup row mid from q) rows core (λ i d within. tt) p)
      (λ mid q. goes_each (λ n. 0 < n) (ends setup) (λ serial late some r. goes_end setup serial late from some r) serials mid above q)

  -- an actor that is blocked before a time advance is so still, or has its record
  stays_or_told : (setup : Setup) (core : Core) (span : Option ℕ) → 0 < actor → TakePart Nobody core → state_of core actor ≡ Blocked what since on → (state_of (pass_at setup core span).core actor ≡ Blocked what since on) ⊎ IsTold actor since what (pass_at setup core span)
  stays_or_told setup core None from p is = inl is
  stays_or_told setup core (Some span) from p is = by (core.events == setup.budget)
    where
      moved : Core
      moved = core_later span core

      parts : TakePart Nobody moved
      parts = parts_tasks Nobody core.actors core.under.tasks moved.under.tasks core.whose core.requests (length-map core.under.tasks (option_map (passed core.under span))) (none_mapped (passed core.under span) core.under.tasks) p

      went : Step
      went = all_of (stretches setup span core) moved

      by : (b : Bool) → (state_of (cond b (stops core [] Budget) went).core actor ≡ Blocked what since on) ⊎ IsTold actor since what (cond b (stops core [] Budget) went)
      by true = inl is
      by false = (goes_then setup (rows_due (core.under.date + span) setup.profiles core.turns) (due_in span core.under) moved from (serials_above _ 1 core.under.tasks (omega arith)) parts).0.told is

pub pass_tracks : (setup : Setup) (core : Core) (actor since : ℕ) (what : Call) (on : Option Await) → 0 < actor → TakePart Nobody core → state_of core actor ≡ Blocked what since on → (state_of (pass_of setup core).core actor ≡ Blocked what since on) ⊎ IsTold actor since what (pass_of setup core)
pass_tracks setup core actor since what on from p is = stays_or_told actor since what on setup (settled core) (next_span setup (settled core)) from p is
