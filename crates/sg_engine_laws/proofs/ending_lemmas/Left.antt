-- A run that ends by its budget does so where an event is next.
use Rattle.std.proofs.Common.{◌≡◌, ◌≢◌, ◌⊎◌, ℕ, zero, suc, ◌+◌, ◌-◌, ◌<◌, ◌==◌, ◌&&◌, Bool, true, false, cond, inl, inr, Option, None, Some, option_map, is_some, Result, Ok, Err, List, [], ◌∷◌, get_or, take, refl, sym, ap, subst, ◌∙◌, arith}
use Rattle.std.specs.Prelude.{Contains, IsSome}
use Rattle.std.specs.Option.{option_map_or}
use Rattle.sg_base.specs.declared.call.Action.{Action}
use Rattle.sg_base.specs.declared.call.Call.{Call}
use Rattle.sg_base.specs.declared.ids.ActorId.{ActorId}
use Rattle.sg_activity.specs.Task.{Task, phase_after, task_at}
use Rattle.sg_activity.specs.Underway.{Underway, due_in, hits, is_running, work_of}
use Rattle.sg_profile.specs.declared.turn.Turn.{Turn}
use Rattle.sg_profile.specs.Profiles.{AreProfiles, rows_due, turns_after_row}
use Rattle.sg_profile.proofs.Ahead.{rows_are_left}
use Rattle.sg_platform_rows.specs.Platform.{IsPlatform, counts_of}
use Rattle.sg_actor_states.specs.Actors.{is_ended, is_unstarted}
use Rattle.sg_mailbox.specs.declared.owners.How.TheVariants as how
use Rattle.sg_kernel_calls.specs.declared.stop.Stop.{Stop}
use Rattle.sg_kernel_calls.specs.declared.stop.Stop.TheVariants as stop
use Rattle.sg_kernel_calls.specs.Calls.{answer_of_ask, answered, answered_call}
use Rattle.sg_kernel_calls.specs.Lives.{created}
use Rattle.sg_kernel.specs.Passes.{all_fail, changes, core_later, ends, ends_by, ends_in, ends_one, enters_one, entry_stretches, fails, fails_one, next_span, pass_at, pass_of, settled, stretches}
use Rattle.sg_kernel_calls.specs.Steps.{Step, goes_on, stops, counted, follows, and_then, each, all_of, readied}
use Rattle.sg_kernel_calls.specs.Setup.{Setup}
use Rattle.sg_kernel_calls.specs.World.{Core, state_of}
use Rattle.sg_kernel_calls.proofs.Each.{all_of-two}
use Rattle.sg_kernel_calls.proofs.Finishes.{finishes_goes}
use Rattle.sg_kernel.proofs.Hits.{rest_is_hit}
use Rattle.sg_kernel.proofs.Skips.{finishes_leaves}
use Rattle.sg_script.specs.declared.fault.ScriptFault.{ScriptFault}
use Rattle.sg_script.specs.Fetched.{fetches_of, one_more}
use Rattle.sg_engine.specs.World.{World}
use Rattle.sg_engine.specs.declared.ended.Ended.{Ended}
use Rattle.sg_engine.specs.declared.ended.Ended.TheVariants as ended
use Rattle.sg_engine.specs.Fuel.{parts_from}
use Rattle.sg_engine.specs.Run.{Scene, Answering, Progress, and_then_by, answer_step, anyone_ready, are_completed, ask_step, at_world, calls_from, created_by, creates, ended_at, if_call, if_given, in_world, is_ask, is_given, one_call, other_call, round, round_or_pass, with_front}
use Rattle.sg_engine.specs.Run as engine
use Rattle.sg_kernel_laws.proofs.actor_lemmas.Kept.{Closed, each_kept, either, finishes_kept, one_made, still}
use Rattle.sg_engine_laws.specs.awaits.Runs.{Run, calls_in, first_in, parts_in, round_to, run_to, scene_in}
use Rattle.sg_engine_laws.proofs.await_lemmas.Over.{anything}
use Rattle.sg_engine_laws.specs.endings.Left.{BudgetsEndBeforeEvents, EventIsLeft, IsLeftIn, a_failure, all, an_end, an_entry, in_pass, in_round}
use Rattle.sg_engine_laws.proofs.ending_lemmas.Called.{Happens, call_happens, counts, faults}
use Rattle.sg_engine_laws.proofs.ending_lemmas.Ends.{are, whole_so}
use Rattle.sg_engine_laws.proofs.ending_lemmas.Parts.{parts_in_follow}
use Rattle.sg_engine_laws.proofs.ending_lemmas.Rounds.{AllUp, all_up, rest_up, turned, turned_minds}
use Rattle.sg_engine_laws.proofs.ending_lemmas.Stretches.{Minds, Stretch, call_stretch, ends_so, minds_waits}

-- ---- calls
module _ (at : Scene) (answers : Answering) (actor : ℕ) where
  abbrev Spent : Progress → Type 0
  Spent p = p.ended ≡ Some ended.Budget

  abbrev Stays : World → Progress → Type 0
  Stays world p = p.world.core ≡ world.core

  answered_stays : (what : Call) (world : World) → Minds at world → is_unstarted (state_of world.core actor) ≡ false → Spent (in_world world (answered at.roads at.setup world.core actor what)) → Stays world (in_world world (answered at.roads at.setup world.core actor what))
  answered_stays what world m up = by (world.core.events == at.setup.budget)
    where
      call : Step
      call = answered_call at.roads at.setup world.core actor what

      so : Happens world.core call → option_map engine.ended_by call.stop ≡ Some ended.Budget → call.core ≡ world.core
      so (counts on kept) spent = absurd (cc (sym spent ∙ ap (option_map engine.ended_by) on))
      so (faults why is other) spent = ap (λ (s : Step). s.core) is

      by : (b : Bool) → Spent (in_world world (cond b (stops world.core [] stop.Budget) call)) → Stays world (in_world world (cond b (stops world.core [] stop.Budget) call))
      by true spent = refl
      by false spent = so (call_happens at.roads at.setup world.core actor up (minds_waits at world m) what) spent

  asked_stays : (found : Result (Option Action) ScriptFault) (fetched : List ℕ) (world : World) → Spent (answer_step at.setup actor found (record world { fetched = fetched })) → Stays world (answer_step at.setup actor found (record world { fetched = fetched }))
  asked_stays (Ok action) fetched world = by (world.core.events == at.setup.budget)
    where
      next : World
      next = record world { fetched = fetched }

      by : (b : Bool) → Spent (in_world next (cond b (stops world.core [] stop.Budget) (goes_on (readied actor (answer_of_ask action) (counted world.core)) []))) → Stays world (in_world next (cond b (stops world.core [] stop.Budget) (goes_on (readied actor (answer_of_ask action) (counted world.core)) [])))
      by true spent = refl
      by false spent = absurd (cc spent)
  asked_stays (Err why) fetched world = λ spent. refl

  ask_stays : (world : World) → Spent (ask_step at.setup answers actor world) → Stays world (ask_step at.setup answers actor world)
  ask_stays world = by (world.core.events == at.setup.budget)
    where
      step : Progress
      step = answer_step at.setup actor (answers actor (fetches_of world.fetched actor)) (record world { fetched = one_more actor world.fetched })

      by : (b : Bool) → Spent (cond b (at_world (Some ended.Budget) world) step) → Stays world (cond b (at_world (Some ended.Budget) world) step)
      by true spent = refl
      by false spent = asked_stays (answers actor (fetches_of world.fetched actor)) (one_more actor world.fetched) world spent

  create_stays : (target : ActorId) (world : World) → Spent (creates at.firsts at.setup.budget actor target world) → Stays world (creates at.firsts at.setup.budget actor target world)
  create_stays target world = by (world.core.events == at.setup.budget) (is_given target world)
    where
      by : (b given : Bool) → Spent (cond b (at_world (Some ended.Budget) world) (in_world (if_given given at.firsts target.0 world) (created given actor target world.core))) → Stays world (cond b (at_world (Some ended.Budget) world) (in_world (if_given given at.firsts target.0 world) (created given actor target world.core)))
      by true given spent = refl
      by false true spent = absurd (cc spent)
      by false false spent = absurd (cc spent)

  one_stays : (what : Call) (world : World) → Minds at world → is_unstarted (state_of world.core actor) ≡ false → Spent (one_call at answers actor what world) → Stays world (one_call at answers actor what world)
  one_stays what world m up = by (created_by what)
    where
      other : (b : Bool) → Spent (cond b (ask_step at.setup answers actor world) (in_world world (answered at.roads at.setup world.core actor what))) → Stays world (cond b (ask_step at.setup answers actor world) (in_world world (answered at.roads at.setup world.core actor what)))
      other true = ask_stays world
      other false = answered_stays what world m up

      by : (o : Option ActorId) → Spent (option_map_or (λ target. creates at.firsts at.setup.budget actor target world) o (other_call at answers actor what world)) → Stays world (option_map_or (λ target. creates at.firsts at.setup.budget actor target world) o (other_call at answers actor what world))
      by None = other (at.script && is_ask what)
      by (Some target) = create_stays target world

  -- the call that the budget stops is left
  record IsUnanswered (what : Option Call) (world : World) : Type 0 where
    some : IsSome what
    lives : is_ended (state_of world.core actor) ≡ false
    stays : Stays world (if_call at answers actor what world)

  unanswered : (what : Option Call) (world : World) → Minds at world → (IsSome what → is_unstarted (state_of world.core actor) ≡ false) → Spent (if_call at answers actor what world) → IsUnanswered what world
  unanswered None world m up spent = absurd (cc spent)
  unanswered (Some what) world m up spent = by (is_ended (state_of world.core actor)) refl spent
    where
      by : (b : Bool) → is_ended (state_of world.core actor) ≡ b → Spent (cond b (at_world None world) (one_call at answers actor what world)) → IsUnanswered (Some what) world
      by true is spent = absurd (cc spent)
      by false is spent = record { some = refl; lives = is; stays = ap (λ (b : Bool). (cond b (at_world None world) (one_call at answers actor what world)).world.core) is ∙ one_stays what world m (up refl) spent }

-- ---- the calls of a scheduling round
-- so many calls are answered, and the one behind them is left
record EndsAt (at : Scene) (answers : Answering) (actor : ℕ) (calls : List (Option Call)) (world : World) (last : Core) : Type 0 where
  number : ℕ
  goes_on : (calls_from at answers actor (take number calls) world).ended ≡ None
  here : (calls_from at answers actor (take number calls) world).world.core ≡ last
  some : IsSome (get_or calls number None)
  lives : is_ended (state_of last (actor + number)) ≡ false

module _ (at : Scene) (answers : Answering) where
  front_calls : (actor : ℕ) (what : Option Call) (rest : List (Option Call)) (world : World) → (if_call at answers actor what world).ended ≡ None →
      calls_from at answers actor (what ∷ rest) world ≡ with_front (if_call at answers actor what world).made (calls_from at answers (actor + 1) rest (if_call at answers actor what world).world)
  unfolding calls_from
  front_calls actor what rest world on = ap (λ (o : Option Ended). and_then_by o (if_call at answers actor what world) (calls_from at answers (actor + 1) rest)) on

  stop_calls : (actor : ℕ) (what : Option Call) (rest : List (Option Call)) (world : World) (how : Ended) → (if_call at answers actor what world).ended ≡ Some how → calls_from at answers actor (what ∷ rest) world ≡ if_call at answers actor what world
  unfolding calls_from
  stop_calls actor what rest world how on = ap (λ (o : Option Ended). and_then_by o (if_call at answers actor what world) (calls_from at answers (actor + 1) rest)) on

  no_more : (actor : ℕ) (world : World) → calls_from at answers actor [] world ≡ at_world None world
  unfolding calls_from
  no_more actor world = refl

  calls_end : (actor : ℕ) (calls : List (Option Call)) (world : World) → 0 < actor → Minds at world → AllUp actor calls world.core → (calls_from at answers actor calls world).ended ≡ Some ended.Budget → EndsAt at answers actor calls world (calls_from at answers actor calls world).world.core
  calls_end actor [] world from m up spent = absurd (cc (sym (ap (λ (p : Progress). p.ended) (no_more actor world)) ∙ spent))
  calls_end actor (what ∷ rest) world from m up spent = by (if_call at answers actor what world).ended refl (calls_end (actor + 1) rest (if_call at answers actor what world).world (omega arith))
    where
      first : Progress
      first = if_call at answers actor what world

      s : Stretch at world first
      s = call_stretch at answers actor what world m (λ some. up 0 (actor - 1) (omega arith) some)

      here_all : (how : Ended) → first.ended ≡ Some how → calls_from at answers actor (what ∷ rest) world ≡ first
      here_all how e = stop_calls actor what rest world how e

      stopped : (how : Ended) → first.ended ≡ Some how → EndsAt at answers actor (what ∷ rest) world (calls_from at answers actor (what ∷ rest) world).world.core
      stopped how e =
          (let is = here_all how e in
          let u = unanswered at answers actor what world m (λ some. up 0 (actor - 1) (omega arith) some) (ap (λ (p : Progress). p.ended) (sym is) ∙ spent) in
          let core : (calls_from at answers actor (what ∷ rest) world).world.core ≡ world.core = ap (λ (p : Progress). p.world.core) is ∙ u.stays in
          let me : actor + 0 ≡ actor = omega arith in
          record {
            number = 0;
            goes_on = ap (λ (p : Progress). p.ended) (no_more actor world);
            here = ap (λ (p : Progress). p.world.core) (no_more actor world) ∙ sym core;
            some = u.some;
            lives = ap (λ (n : ℕ). is_ended (state_of (calls_from at answers actor (what ∷ rest) world).world.core n)) me ∙ ap (λ (c : Core). is_ended (state_of c actor)) core ∙ u.lives;
          })

      Rest : Type 0
      Rest = Minds at first.world → AllUp (actor + 1) rest first.world.core → (calls_from at answers (actor + 1) rest first.world).ended ≡ Some ended.Budget → EndsAt at answers (actor + 1) rest first.world (calls_from at answers (actor + 1) rest first.world).world.core

      later : first.ended ≡ None → Rest → EndsAt at answers actor (what ∷ rest) world (calls_from at answers actor (what ∷ rest) world).world.core
      later e more =
          (let is = front_calls actor what rest world e in
          let r = more s.minds (rest_up at answers actor what rest world first from s up) (ap (λ (p : Progress). p.ended) (sym is) ∙ spent) in
          let there = front_calls actor what (take r.number rest) world e in
          let me : actor + suc r.number ≡ actor + 1 + r.number = omega arith in
          record {
            number = suc r.number;
            goes_on = ap (λ (p : Progress). p.ended) there ∙ r.goes_on;
            here = ap (λ (p : Progress). p.world.core) there ∙ r.here ∙ ap (λ (p : Progress). p.world.core) (sym is);
            some = r.some;
            lives = ap (λ (n : ℕ). is_ended (state_of (calls_from at answers actor (what ∷ rest) world).world.core n)) me ∙ ap (λ (p : Progress). is_ended (state_of p.world.core (actor + 1 + r.number))) is ∙ r.lives;
          })

      by : (o : Option Ended) → first.ended ≡ o → Rest → EndsAt at answers actor (what ∷ rest) world (calls_from at answers actor (what ∷ rest) world).world.core
      by None e more = later e more
      by (Some how) e more = stopped how e

-- ---- a time advance
module _ (setup : Setup) where
  -- how far the profiles are
  abbrev Far : List Turn → Core → Type 0
  Far far core = core.turns ≡ far

  far_kept : (far : List Turn) → Closed (Far far) anything
  far_kept far = record {
    answered = record { replies = λ actor blocking bytes answer core is e. one_made (Far far) anything _ _ e tt };
    over = λ over serial core e. e;
  }

  fails_far : (far : List Turn) (ks : List ℕ) (core : Core) → Far far core → Far far (each (fails setup) ks core).core
  fails_far far ks core e =
      (each_kept (Far far) anything (fails setup) (λ k mid f. either (Far far) anything (mid.events == setup.budget) (stops mid [] stop.Budget) (fails_one k mid) (still (Far far) anything mid (Some stop.Budget) f)
      (finishes_kept (Far far) anything (far_kept far) how.Failed k (counted mid) f)) ks core e).holds

  -- a failure is left where the budget stops failures
  fails_left : (ks : List ℕ) (core : Core) → hits core.under ≡ ks → (each (fails setup) ks core).stop ≡ Some stop.Budget → hits (each (fails setup) ks core).core.under ≢ []
  unfolding each
  fails_left [] core is spent = absurd (cc spent)
  fails_left (k ∷ ks) core is spent = by (core.events == setup.budget) spent (fails_left ks)
    where
      one : Step
      one = fails_one k core

      on : (o : Option Stop) → one.stop ≡ o → ((mid : Core) → hits mid.under ≡ ks → (each (fails setup) ks mid).stop ≡ Some stop.Budget → hits (each (fails setup) ks mid).core.under ≢ []) →
          (follows o one (each (fails setup) ks one.core)).stop ≡ Some stop.Budget → hits (follows o one (each (fails setup) ks one.core)).core.under ≢ []
      on None e more spent = more one.core (ap (λ (u : Underway). hits u) (finishes_leaves how.Failed k (counted core)) ∙ rest_is_hit core.under k ks is) spent
      on (Some why) e more spent = absurd (cc (sym (finishes_goes how.Failed k (counted core)) ∙ e))

      by : (b : Bool) → (and_then (cond b (stops core [] stop.Budget) one) (each (fails setup) ks)).stop ≡ Some stop.Budget → ((mid : Core) → hits mid.under ≡ ks → (each (fails setup) ks mid).stop ≡ Some stop.Budget → hits (each (fails setup) ks mid).core.under ≢ []) →
          hits (and_then (cond b (stops core [] stop.Budget) one) (each (fails setup) ks)).core.under ≢ []
      by true spent more = λ none. cc (sym is ∙ none)
      by false spent more = on one.stop refl more spent

  -- an entry or a failure
  abbrev Coming : ℕ → Core → Type 0
  Coming date core = (rows_due date setup.profiles core.turns ≢ []) ⊎ (hits core.under ≢ [])

  row_left : (date row : ℕ) (rest : List ℕ) (core : Core) → rows_due date setup.profiles core.turns ≡ row ∷ rest → (changes setup row core).stop ≡ Some stop.Budget → Coming date (changes setup row core).core
  row_left date row rest core is = by (core.events == setup.budget)
    where
      mid : Core
      mid = (enters_one setup row core).core

      by : (b : Bool) → (cond b (stops core [] stop.Budget) (all_of (entry_stretches setup row) core)).stop ≡ Some stop.Budget → Coming date (cond b (stops core [] stop.Budget) (all_of (entry_stretches setup row) core)).core
      by true spent = inl (λ none. cc (sym is ∙ none))
      by false spent = subst (λ (s : Step). s.stop ≡ Some stop.Budget → Coming date s.core) (sym (all_of-two (enters_one setup row) (all_fail setup) core)) (λ same. inr (fails_left (hits mid.under) mid refl same)) spent

  row_far : (row : ℕ) (core : Core) → (changes setup row core).stop ≡ None → (changes setup row core).core.turns ≡ turns_after_row setup.profiles row core.turns
  row_far row core = by (core.events == setup.budget)
    where
      mid : Core
      mid = (enters_one setup row core).core

      by : (b : Bool) → (cond b (stops core [] stop.Budget) (all_of (entry_stretches setup row) core)).stop ≡ None → (cond b (stops core [] stop.Budget) (all_of (entry_stretches setup row) core)).core.turns ≡ turns_after_row setup.profiles row core.turns
      by true on = absurd (cc on)
      by false on = subst (λ (s : Step). s.core.turns ≡ turns_after_row setup.profiles row core.turns) (sym (all_of-two (enters_one setup row) (all_fail setup) core)) (fails_far (turns_after_row setup.profiles row core.turns) (hits mid.under) mid refl)

  module _ (hosts links : ℕ) (are_so : AreProfiles hosts links setup.profiles) where
    rows_left : (date : ℕ) (rows : List ℕ) (core : Core) → rows_due date setup.profiles core.turns ≡ rows → (each (changes setup) rows core).stop ≡ Some stop.Budget → Coming date (each (changes setup) rows core).core
    unfolding each
    rows_left date [] core is spent = absurd (cc spent)
    rows_left date (row ∷ rest) core is spent = by (changes setup row core).stop refl spent (rows_left date rest (changes setup row core).core)
      where
        first : Step
        first = changes setup row core

        by : (o : Option Stop) → first.stop ≡ o → (follows o first (each (changes setup) rest first.core)).stop ≡ Some stop.Budget → (rows_due date setup.profiles first.core.turns ≡ rest → (each (changes setup) rest first.core).stop ≡ Some stop.Budget → Coming date (each (changes setup) rest first.core).core) →
            Coming date (follows o first (each (changes setup) rest first.core)).core
        by None e spent more = more (ap (rows_due date setup.profiles) (row_far row core e) ∙ rows_are_left hosts links date setup.profiles core.turns row rest are_so is) spent
        by (Some why) e spent more = row_left date row rest core is spent

  -- or the end of a phase
  record EndIsLeft (ks : List ℕ) (last : Core) : Type 0 where
    serial : ℕ
    among : Contains ks serial
    some : IsSome (task_at last.under.tasks serial)

  end_left : (k : ℕ) (ks : List ℕ) (core : Core) → (ends setup k core).stop ≡ Some stop.Budget → EndIsLeft (k ∷ ks) (ends setup k core).core
  end_left k ks core = by (task_at core.under.tasks k) refl
    where
      next : (after : Option Task) → (ends_in k after (counted core)).stop ≡ None
      next None = finishes_goes how.Done k (counted core)
      next (Some more) = refl

      on : (task : Task) → task_at core.under.tasks k ≡ Some task → (b : Bool) → (cond b (stops core [] stop.Budget) (ends_one k core)).stop ≡ Some stop.Budget → EndIsLeft (k ∷ ks) (cond b (stops core [] stop.Budget) (ends_one k core)).core
      on task e true spent = record { serial = k; among = (0, omega arith, refl); some = ap is_some e }
      on task e false spent = absurd (cc (sym (next (phase_after (task_at core.under.tasks k))) ∙ spent))

      by : (o : Option Task) → task_at core.under.tasks k ≡ o → (ends_by setup k o core).stop ≡ Some stop.Budget → EndIsLeft (k ∷ ks) (ends_by setup k o core).core
      by None e spent = absurd (cc spent)
      by (Some task) e spent = on task e (core.events == setup.budget) spent

  ends_left : (ks : List ℕ) (core : Core) → (each (ends setup) ks core).stop ≡ Some stop.Budget → EndIsLeft ks (each (ends setup) ks core).core
  unfolding each
  ends_left [] core spent = absurd (cc spent)
  ends_left (k ∷ ks) core spent = by (ends setup k core).stop refl spent (ends_left ks (ends setup k core).core)
    where
      first : Step
      first = ends setup k core

      by : (o : Option Stop) → first.stop ≡ o → (follows o first (each (ends setup) ks first.core)).stop ≡ Some stop.Budget → ((each (ends setup) ks first.core).stop ≡ Some stop.Budget → EndIsLeft ks (each (ends setup) ks first.core).core) →
          EndIsLeft (k ∷ ks) (follows o first (each (ends setup) ks first.core)).core
      by None e spent more = (let r = more spent in record { serial = r.serial; among = (suc r.among.0, omega (arith, r.among.1), r.among.2); some = r.some })
      by (Some why) e spent more = end_left k ks core spent

-- what a time advance that the budget stops leaves
record Stops (setup : Setup) (core : Core) (next : Option ℕ) (last : Core) : Type 0 where
  span : ℕ
  is : next ≡ Some span
  left : IsLeftIn setup span core last

pass_left : (setup : Setup) (hosts links : ℕ) (are_so : AreProfiles hosts links setup.profiles) (core : Core) (next : Option ℕ) → (pass_at setup core next).stop ≡ Some stop.Budget → Stops setup core next (pass_at setup core next).core
pass_left setup hosts links are_so core None spent = absurd (by (is_running core.under) spent)
  where
    by : (b : Bool) → Some (cond b stop.Starved stop.Deadlock) ≢ Some stop.Budget
    by true e = cc e
    by false e = cc e
pass_left setup hosts links are_so core (Some span) spent = by (core.events == setup.budget) spent
  where
    rows : List ℕ
    rows = rows_due (core.under.date + span) setup.profiles core.turns

    due : List ℕ
    due = due_in span core.under

    moved : Core
    moved = core_later span core

    first : Step
    first = each (changes setup) rows moved

    as_left : (last : Core) → Coming setup (core.under.date + span) last → IsLeftIn setup span core last
    as_left last (inl rows) = an_entry rows
    as_left last (inr found) = a_failure found

    both : (o : Option Stop) → first.stop ≡ o → (follows o first (each (ends setup) due first.core)).stop ≡ Some stop.Budget → IsLeftIn setup span core (follows o first (each (ends setup) due first.core)).core
    both None e spent = (let r = ends_left setup due first.core spent in an_end r.serial r.among r.some)
    both (Some why) e spent = as_left first.core (rows_left setup hosts links are_so (core.under.date + span) rows moved refl spent)

    by : (b : Bool) → (cond b (stops core [] stop.Budget) (all_of (stretches setup span core) moved)).stop ≡ Some stop.Budget → Stops setup core (Some span) (cond b (stops core [] stop.Budget) (all_of (stretches setup span core) moved)).core
    by true spent = record { span = span; is = refl; left = all refl }
    by false spent = record {
      span = span;
      is = refl;
      left = subst (λ (s : Step). s.stop ≡ Some stop.Budget → IsLeftIn setup span core s.core) (sym (all_of-two (each (changes setup) rows) (each (ends setup) due) moved)) (both first.stop refl) spent;
    }

-- ---- the last part of a run
record IsLast (at : Scene) (answers : Answering) (world : World) (whole : Progress) : Type 0 where
  parts : ℕ
  goes_on : (parts_from parts at answers world).ended ≡ None
  spent : (round_or_pass at answers (parts_from parts at answers world).world).ended ≡ Some ended.Budget
  same : whole.world ≡ (round_or_pass at answers (parts_from parts at answers world).world).world

module _ (at : Scene) (answers : Answering) where
  no_parts : (world : World) → parts_from 0 at answers world ≡ at_world None world
  unfolding parts_from
  no_parts world = refl

  front_parts : (n : ℕ) (world : World) → are_completed world.core ≡ false → (round_or_pass at answers world).ended ≡ None → parts_from (suc n) at answers world ≡ with_front (round_or_pass at answers world).made (parts_from n at answers (round_or_pass at answers world).world)
  unfolding parts_from
  front_parts n world going on =
      ap (λ (b : Bool). cond b (at_world (Some ended.Completed) world) (engine.then_unless_ended (round_or_pass at answers world) (parts_from n at answers))) going
      ∙ ap (λ (o : Option Ended). and_then_by o (round_or_pass at answers world) (parts_from n at answers)) on

  last_part : (n : ℕ) (world : World) → (parts_from n at answers world).ended ≡ Some ended.Budget → IsLast at answers world (parts_from n at answers world)
  unfolding parts_from
  last_part zero world spent = absurd (cc spent)
  last_part (suc n) world spent = over (are_completed world.core) refl spent (last_part n (round_or_pass at answers world).world)
    where
      first : Progress
      first = round_or_pass at answers world

      by : (o : Option Ended) → first.ended ≡ o → are_completed world.core ≡ false → (and_then_by o first (parts_from n at answers)).ended ≡ Some ended.Budget → ((parts_from n at answers first.world).ended ≡ Some ended.Budget → IsLast at answers first.world (parts_from n at answers first.world)) →
          IsLast at answers world (and_then_by o first (parts_from n at answers))
      by None e going spent more =
          (let r = more spent in
          let is = front_parts r.parts world going e in
          record {
            parts = suc r.parts;
            goes_on = ap (λ (p : Progress). p.ended) is ∙ r.goes_on;
            spent = ap (λ (p : Progress). (round_or_pass at answers p.world).ended) is ∙ r.spent;
            same = r.same ∙ ap (λ (p : Progress). (round_or_pass at answers p.world).world) (sym is);
          })
      by (Some how) e going spent more = record { parts = 0; goes_on = refl; spent = spent; same = refl }

      over : (b : Bool) → are_completed world.core ≡ b → (cond b (at_world (Some ended.Completed) world) (engine.then_unless_ended first (parts_from n at answers))).ended ≡ Some ended.Budget → ((parts_from n at answers first.world).ended ≡ Some ended.Budget → IsLast at answers first.world (parts_from n at answers first.world)) →
          IsLast at answers world (cond b (at_world (Some ended.Completed) world) (engine.then_unless_ended first (parts_from n at answers)))
      over true e spent more = absurd (cc spent)
      over false e spent more = by first.ended refl e spent more

-- ---- runs
part_left : (run : Run) → IsPlatform run.platform → (parts : ℕ) → (parts_in parts run).ended ≡ None → (round_or_pass (scene_in run) run.answers (parts_in parts run).world).ended ≡ Some ended.Budget → EventIsLeft run (round_or_pass (scene_in run) run.answers (parts_in parts run).world).world.core
part_left run is parts on = by (anyone_ready world.core) refl
  where
    world : World
    world = (parts_in parts run).world

    m : Minds (scene_in run) world
    m = (parts_in_follow run parts).minds

    pass : Progress
    pass = in_world (record world { work = world.work + work_of world.core.under }) (pass_of (scene_in run).setup world.core)

    in_pass_so : anyone_ready world.core ≡ false → pass.ended ≡ Some ended.Budget → EventIsLeft run pass.world.core
    in_pass_so idle spent =
        (let step = pass_of (scene_in run).setup world.core in
        let s = pass_left (scene_in run).setup (counts_of run.platform).hosts (counts_of run.platform).links (are run is) (settled world.core) (next_span (scene_in run).setup (settled world.core)) (ends_so step.stop spent) in
        in_pass parts (record { goes_on = on; idle = idle; span = s.span; next = s.is; left = s.left }))

    run_is : (actors : ℕ) → run_to parts actors run ≡ with_front (parts_in parts run).made (round_to actors (scene_in run) run.answers world)
    run_is actors = ap (λ (o : Option Ended). and_then_by o (parts_in parts run) (round_to actors (scene_in run) run.answers)) on

    in_round_so : (round (scene_in run) run.answers world).ended ≡ Some ended.Budget → EventIsLeft run (round (scene_in run) run.answers world).world.core
    in_round_so spent =
        (let r = calls_end (scene_in run) run.answers 1 (calls_in world) (turned world) (omega arith) (turned_minds (scene_in run) world m) (all_up world) spent in
        let me : r.number + 1 ≡ 1 + r.number = omega arith in
        in_round parts r.number (record {
          goes_on = ap (λ (p : Progress). p.ended) (run_is r.number) ∙ r.goes_on;
          here = ap (λ (p : Progress). p.world.core) (run_is r.number) ∙ r.here;
          calls = r.some;
          lives = ap (λ (n : ℕ). is_ended (state_of (round (scene_in run) run.answers world).world.core n)) me ∙ r.lives;
        }))

    by : (b : Bool) → anyone_ready world.core ≡ b → (cond b (round (scene_in run) run.answers world) pass).ended ≡ Some ended.Budget → EventIsLeft run (cond b (round (scene_in run) run.answers world) pass).world.core
    by true ready spent = in_round_so spent
    by false idle spent = in_pass_so idle spent

pub budgets_end_before_events : BudgetsEndBeforeEvents
budgets_end_before_events run is spent =
    let same = whole_so run is in
    let l = last_part (scene_in run) run.answers (run.budget + 1) (first_in run) (ap (λ (p : Progress). p.ended) (sym same) ∙ spent) in
    subst (EventIsLeft run) (ap (λ (w : World). w.core) (sym l.same) ∙ ap (λ (p : Progress). p.world.core) (sym same)) (part_left run is l.parts l.goes_on l.spent)
