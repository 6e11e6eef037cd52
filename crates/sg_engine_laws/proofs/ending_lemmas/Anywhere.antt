-- A run whose budget is used up ends where an event is next.
use Rattle.std.proofs.Common.{◌≡◌, ℕ, zero, suc, ◌+◌, ◌-◌, ◌<◌, ◌==◌, not, Bool, true, false, cond, Option, None, Some, is_some, List, [], ◌∷◌, ◌++◌, append-nil, append_assoc, length, get_or, take, take_all, refl, sym, ap, subst, ◌∙◌, arith}
use Rattle.std.specs.Prelude.{IsSome}
use Rattle.std.specs.List.{list_all}
use Rattle.std.proofs.lemmas.Bool.{and_left, and_right}
use Rattle.sg_base.specs.declared.call.Call.{Call}
use Rattle.sg_base.specs.declared.trace_record.Record.{Record}
use Rattle.sg_activity.specs.Task.{Task, task_at}
use Rattle.sg_activity.specs.Underway.{due_in, hits, work_of}
use Rattle.sg_platform_rows.specs.Platform.{IsPlatform}
use Rattle.sg_actor_states.specs.declared.state.Actor.{Actor}
use Rattle.sg_actor_states.specs.declared.state.State.{State}
use Rattle.sg_actor_states.specs.declared.state.State.TheVariants as state
use Rattle.sg_actor_states.specs.Actors.{is_alive, is_ended, is_over, not_suspended}
use Rattle.sg_kernel_calls.specs.declared.stop.Stop.{Stop}
use Rattle.sg_kernel_calls.specs.declared.stop.Stop.TheVariants.{Budget}
use Rattle.sg_kernel.specs.Passes.{all_fail, changes, core_later, ends, ends_by, ends_one, enters_one, entry_stretches, fails, fails_one, pass_at, pass_of, settled}
use Rattle.sg_kernel_calls.specs.Steps.{Step, all_of, and_then, each, follows, goes_on, stops, unless_used}
use Rattle.sg_kernel_calls.specs.Setup.{Setup}
use Rattle.sg_kernel_calls.specs.World.{Core, state_of}
use Rattle.sg_kernel_calls.proofs.Each.{all_of-two, eq_yes}
use Rattle.sg_engine.specs.World.{World}
use Rattle.sg_engine.specs.declared.ended.Ended.{Ended}
use Rattle.sg_engine.specs.declared.ended.Ended.TheVariants as ended
use Rattle.sg_engine.specs.Fuel.{parts_from}
use Rattle.sg_engine.specs.Run.{Scene, Answering, Progress, and_then_by, anyone_ready, are_completed, at_world, calls_from, if_call, in_world, round, round_or_pass, then_unless_ended, with_front}
use Rattle.sg_engine_laws.specs.awaits.Runs.{Run, calls_in, first_in, parts_in, round_to, run_to, scene_in, whole}
use Rattle.sg_engine_laws.proofs.await_lemmas.Later.{first_goes, ready_at}
use Rattle.sg_engine_laws.proofs.await_lemmas.Rounds.{IsCaller, who_calls}
use Rattle.sg_engine_laws.specs.endings.Anywhere.{EndsThere, IsNextAt, PassIsNext, UsedBudgetsEndAnywhere, a_failure, an_end, an_entry, at_start, past_ends, past_entries, past_entry, past_failures, rows_in}
use Rattle.sg_engine_laws.specs.endings.Left.{CallIsLeft}
use Rattle.sg_engine_laws.proofs.ending_lemmas.Ends.{parts_few, whole_so}
use Rattle.sg_engine_laws.proofs.ending_lemmas.Rounds.{turned}
use Rattle.sg_engine_laws.proofs.ending_lemmas.Used.{call_used}

-- ---- one step, and another
then_assoc : (first : Step) (f g : Core → Step) → and_then (and_then first f) g ≡ and_then first (λ mid. and_then (f mid) g)
then_assoc first f g = by first.stop refl
  where
    second : Step
    second = f first.core

    behind : (o : Option Stop) → follows o (record second { made = first.made ++ second.made }) (g second.core) ≡ record (follows o second (g second.core)) { made = first.made ++ (follows o second (g second.core)).made }
    behind None = ap (λ (m : List Record). record (g second.core) { made = m }) (append_assoc first.made second.made (g second.core).made)
    behind (Some why) = refl

    by : (o : Option Stop) → first.stop ≡ o → and_then (follows o first second) g ≡ follows o first (and_then second g)
    by None e = behind second.stop
    by (Some why) e = ap (λ (o : Option Stop). follows o first (g first.core)) e

unless_then : (b : Bool) (core : Core) (step : Step) (next : Core → Step) → cond b (stops core [] Budget) (and_then step next) ≡ and_then (cond b (stops core [] Budget) step) next
unless_then true core step next = refl
unless_then false core step next = refl

-- this one of them, behind those before it
record IsAt (does : ℕ → Core → Step) (n x : ℕ) (xs : List ℕ) (core : Core) : Type 0 where
  rest : List ℕ
  is : each does xs core ≡ and_then (each does (take n xs) core) (λ mid. and_then (does x mid) (each does rest))

each_at : (does : ℕ → Core → Step) (n : ℕ) (xs : List ℕ) (core : Core) → n < length xs → IsAt does n (get_or xs n 0) xs core
unfolding each
each_at does n [] core below = absurd (omega (arith, below))
each_at does zero (x ∷ xs) core below = record { rest = xs; is = refl }
each_at does (suc n) (x ∷ xs) core below =
    let first = does x core in
    let y = get_or xs n 0 in
    let r = each_at does n xs first.core (omega (arith, below)) in
    record {
      rest = r.rest;
      is = ap (λ (s : Step). follows first.stop first s) r.is ∙ sym (then_assoc first (each does (take n xs)) (λ mid. and_then (does y mid) (each does r.rest)));
    }

-- the whole step continues from there, and the used-up budget stops what follows
record Continues (budget : ℕ) (there step : Step) : Type 0 where
  rest : Core → Step
  is : step ≡ and_then there rest
  halts : there.core.events ≡ budget → rest there.core ≡ stops there.core [] Budget

ends_there : (budget : ℕ) (there step : Step) → Continues budget there step → there.stop ≡ None → there.core.events ≡ budget → step ≡ record there { stop = Some Budget }
ends_there budget there step c on used =
    c.is
    ∙ ap (λ (o : Option Stop). follows o there (c.rest there.core)) on
    ∙ ap (λ (s : Step). follows None there s) (c.halts used)
    ∙ ap (λ (m : List Record). record { core = there.core; made = m; stop = Some Budget }) (append-nil there.made)

-- ---- a time advance
module _ (setup : Setup) (span : ℕ) (core : Core) where
  abbrev rows : List ℕ
  rows = rows_in setup span core

  abbrev due : List ℕ
  due = due_in span core.under

  abbrev moved : Core
  moved = core_later span core

  abbrev whole_pass : Step
  whole_pass = pass_at setup core (Some span)

  abbrev last_ends : Core → Step
  last_ends mid = each (ends setup) due mid

  used_is : (mid : Core) → mid.events ≡ setup.budget → (mid.events == setup.budget) ≡ true
  used_is mid used = eq_yes mid.events setup.budget used

  pass_is : whole_pass ≡ and_then (unless_used setup.budget core (each (changes setup) rows moved)) last_ends
  pass_is =
      ap (λ (s : Step). cond (core.events == setup.budget) (stops core [] Budget) s) (all_of-two (each (changes setup) rows) last_ends moved)
      ∙ unless_then (core.events == setup.budget) core (each (changes setup) rows moved) last_ends

  pass_ends : whole_pass ≡ and_then (past_entries (length rows) setup span core) last_ends
  pass_ends =
      let all : take (length rows) rows ≡ rows = take_all (length rows) rows (omega arith) in
      pass_is ∙ ap (λ (rs : List ℕ). and_then (unless_used setup.budget core (each (changes setup) rs moved)) last_ends) (sym all)

  -- an entry is next
  record Enters (n : ℕ) : Type 0 where
    more : List ℕ
    is : whole_pass ≡ and_then (and_then (past_entries n setup span core) (λ mid. and_then (changes setup (get_or rows n 0) mid) (each (changes setup) more))) last_ends

  enters_at : (n : ℕ) → n < length rows → Enters n
  enters_at n below =
      let a = each_at (changes setup) n rows moved below in
      let next : Core → Step = (λ mid. and_then (changes setup (get_or rows n 0) mid) (each (changes setup) a.rest)) in
      record {
        more = a.rest;
        is = pass_is
            ∙ ap (λ (s : Step). and_then (cond (core.events == setup.budget) (stops core [] Budget) s) last_ends) a.is
            ∙ ap (λ (s : Step). and_then s last_ends) (unless_then (core.events == setup.budget) core (each (changes setup) (take n rows) moved) next);
      }

  entry_continues : (n : ℕ) → n < length rows → Continues setup.budget (past_entries n setup span core) whole_pass
  entry_continues n below =
      let e = enters_at n below in
      let row = get_or rows n 0 in
      let there = past_entries n setup span core in
      let next : Core → Step = (λ mid. and_then (changes setup row mid) (each (changes setup) e.more)) in
      record {
        rest = λ mid. and_then (next mid) last_ends;
        is = e.is ∙ then_assoc there next last_ends;
        halts = λ used. ap (λ (b : Bool). and_then (and_then (cond b (stops there.core [] Budget) (all_of (entry_stretches setup row) there.core)) (each (changes setup) e.more)) last_ends) (used_is there.core used);
      }

  -- a failure is next
  changes_is : (row : ℕ) (mid : Core) → changes setup row mid ≡ and_then (unless_used setup.budget mid (enters_one setup row mid)) (all_fail setup)
  changes_is row mid =
      ap (λ (s : Step). cond (mid.events == setup.budget) (stops mid [] Budget) s) (all_of-two (enters_one setup row) (all_fail setup) mid)
      ∙ unless_then (mid.events == setup.budget) mid (enters_one setup row mid) (all_fail setup)

  failure_continues : (n k : ℕ) → n < length rows → k < length (hits (past_entry n setup span core).core.under) → Continues setup.budget (past_failures n k setup span core) whole_pass
  failure_continues n k below within =
      let e = enters_at n below in
      let row = get_or rows n 0 in
      let before = past_entries n setup span core in
      let behind = past_entry n setup span core in
      let found = hits behind.core.under in
      let there = past_failures n k setup span core in
      let one : Core → Step = (λ mid. unless_used setup.budget mid (enters_one setup row mid)) in
      let more : Core → Step = each (changes setup) e.more in
      let front : Core → Step = (λ mid. each (fails setup) (take k (hits mid.under)) mid) in
      let f = each_at (fails setup) k found behind.core within in
      let next : Core → Step = (λ mid. and_then (fails setup (get_or found k 0) mid) (each (fails setup) f.rest)) in
      let entered : and_then before (λ mid. and_then (changes setup row mid) more) ≡ and_then (and_then behind (all_fail setup)) more =
      ap (λ (s : Step). follows before.stop before (and_then s more)) (changes_is row before.core)
      ∙ sym (then_assoc before (λ mid. and_then (one mid) (all_fail setup)) more)
      ∙ ap (λ (s : Step). and_then s more) (sym (then_assoc before one (all_fail setup))) in
      let failing : and_then behind (all_fail setup) ≡ and_then there next =
      ap (λ (s : Step). follows behind.stop behind s) f.is
      ∙ sym (then_assoc behind front next) in
      record {
        rest = λ mid. and_then (and_then (next mid) more) last_ends;
        is = e.is
            ∙ ap (λ (s : Step). and_then s last_ends) (entered ∙ ap (λ (s : Step). and_then s more) failing ∙ then_assoc there next more)
            ∙ then_assoc there (λ mid. and_then (next mid) more) last_ends;
        halts = λ used. ap (λ (b : Bool). and_then (and_then (and_then (cond b (stops there.core [] Budget) (fails_one (get_or found k 0) there.core)) (each (fails setup) f.rest)) more) last_ends) (used_is there.core used);
      }

  -- the end of a phase is next
  end_continues : (n : ℕ) → n < length due → IsSome (task_at (past_ends n setup span core).core.under.tasks (get_or due n 0)) → Continues setup.budget (past_ends n setup span core) whole_pass
  end_continues n below some =
      let serial = get_or due n 0 in
      let before = past_entries (length rows) setup span core in
      let there = past_ends n setup span core in
      let a = each_at (ends setup) n due before.core below in
      let next : Core → Step = (λ mid. and_then (ends setup serial mid) (each (ends setup) a.rest)) in
      record {
        rest = next;
        is = pass_ends
            ∙ ap (λ (s : Step). follows before.stop before s) a.is
            ∙ sym (then_assoc before (each (ends setup) (take n due)) next);
        halts = λ used. halted serial a.rest there.core used (task_at there.core.under.tasks serial) some;
      }
    where
      halted : (serial : ℕ) (more : List ℕ) (mid : Core) → mid.events ≡ setup.budget → (o : Option Task) → IsSome o → and_then (ends_by setup serial o mid) (each (ends setup) more) ≡ stops mid [] Budget
      halted serial more mid used None some = absurd (cc some)
      halted serial more mid used (Some task) some = ap (λ (b : Bool). and_then (cond b (stops mid [] Budget) (ends_one serial mid)) (each (ends setup) more)) (used_is mid used)

  start_continues : Continues setup.budget (goes_on core []) whole_pass
  start_continues = record {
    rest = λ mid. pass_at setup mid (Some span);
    is = refl;
    halts = λ used. ap (λ (b : Bool). cond b (stops core [] Budget) (all_of (each (changes setup) rows ∷ last_ends ∷ []) moved)) (used_is core used);
  }

  continues : {there : Step} → IsNextAt setup span core there → Continues setup.budget there whole_pass
  continues at_start = start_continues
  continues (an_entry n below) = entry_continues n below
  continues (a_failure n k below within) = failure_continues n k below within
  continues (an_end n below some) = end_continues n below some

-- ---- the calls of a scheduling round
-- the stretch ends where the one that is a part of it came to
record StopsAt (part p : Progress) : Type 0 where
  spent : p.ended ≡ Some ended.Budget
  core : p.world.core ≡ part.world.core
  made : p.made ≡ part.made

module _ (at : Scene) (answers : Answering) where
  calls_stop : (n actor : ℕ) (calls : List (Option Call)) (world : World) → (calls_from at answers actor (take n calls) world).ended ≡ None → (calls_from at answers actor (take n calls) world).world.core.events ≡ at.setup.budget → IsSome (get_or calls n None) →
      is_ended (state_of (calls_from at answers actor (take n calls) world).world.core (actor + n)) ≡ false → StopsAt (calls_from at answers actor (take n calls) world) (calls_from at answers actor calls world)
  unfolding calls_from
  calls_stop n actor [] world on used some lives = absurd (cc some)
  calls_stop zero actor (None ∷ rest) world on used some lives = absurd (cc some)
  calls_stop zero actor (Some what ∷ rest) world on used some lives =
      let me : actor ≡ actor + 0 = omega arith in
      let is = call_used at answers actor what world used (ap (λ (k : ℕ). is_ended (state_of world.core k)) me ∙ lives) in
      subst (λ (p : Progress). StopsAt (at_world None world) (and_then_by p.ended p (calls_from at answers (actor + 1) rest))) (sym is) (record { spent = refl; core = refl; made = refl })
  calls_stop (suc n) actor (what ∷ rest) world on used some lives = by first.ended refl on used lives (calls_stop n (actor + 1) rest first.world)
    where
      first : Progress
      first = if_call at answers actor what world

      front : Progress
      front = calls_from at answers (actor + 1) (take n rest) first.world

      all : Progress
      all = calls_from at answers (actor + 1) rest first.world

      by : (how : Option Ended) → first.ended ≡ how → (and_then_by how first (calls_from at answers (actor + 1) (take n rest))).ended ≡ None → (and_then_by how first (calls_from at answers (actor + 1) (take n rest))).world.core.events ≡ at.setup.budget →
          is_ended (state_of (and_then_by how first (calls_from at answers (actor + 1) (take n rest))).world.core (actor + suc n)) ≡ false →
          (front.ended ≡ None → front.world.core.events ≡ at.setup.budget → IsSome (get_or rest n None) → is_ended (state_of front.world.core (actor + 1 + n)) ≡ false → StopsAt front all) →
          StopsAt (and_then_by how first (calls_from at answers (actor + 1) (take n rest))) (and_then_by how first (calls_from at answers (actor + 1) rest))
      by None e on used lives more =
          (let me : actor + 1 + n ≡ actor + suc n = omega arith in
          let s = more on used some (ap (λ (k : ℕ). is_ended (state_of front.world.core k)) me ∙ lives) in
          record { spent = s.spent; core = s.core; made = ap (λ (l : List Record). first.made ++ l) s.made })
      by (Some how) e on used lives more = absurd (cc (sym e ∙ on))

-- who calls has not ended
caller_goes : (actors : List Actor) (j : ℕ) → IsCaller (get_or actors j (not_suspended state.Ended)) → list_all is_over actors ≡ false
caller_goes [] j caller = absurd (cc caller.state)
caller_goes (actor ∷ actors) zero caller = and_left (is_over actor) (list_all is_over actors) (ap (λ (s : State). not (is_alive s)) caller.state)
caller_goes (actor ∷ actors) (suc j) caller = and_right (is_over actor) (list_all is_over actors) (caller_goes actors j caller)

-- ---- the last part of a run
stopped : (how : Option Ended) (first : Progress) (next : World → Progress) → IsSome how → and_then_by how first next ≡ first
stopped None first next some = absurd (cc some)
stopped (Some how) first next some = refl

parts_stop : (at : Scene) (answers : Answering) (n m k : ℕ) (world : World) → k ≡ n + suc m → (parts_from n at answers world).ended ≡ None → are_completed (parts_from n at answers world).world.core ≡ false →
    IsSome (round_or_pass at answers (parts_from n at answers world).world).ended → parts_from k at answers world ≡ with_front (parts_from n at answers world).made (round_or_pass at answers (parts_from n at answers world).world)
unfolding parts_from
parts_stop at answers zero m k world is on going some =
    let e : k ≡ suc m = omega (arith, is) in
    let first = round_or_pass at answers world in
    ap (λ (j : ℕ). parts_from j at answers world) e
    ∙ ap (λ (b : Bool). cond b (at_world (Some ended.Completed) world) (then_unless_ended first (parts_from m at answers))) going
    ∙ stopped first.ended first (parts_from m at answers) some
parts_stop at answers (suc n) m k world is on going some =
    let e : k ≡ suc (n + suc m) = omega (arith, is) in
    ap (λ (j : ℕ). parts_from j at answers world) e ∙ over (are_completed world.core) first.ended refl (parts_stop at answers n m (n + suc m) first.world refl) on going some
  where
    first : Progress
    first = round_or_pass at answers world

    early : Progress
    early = parts_from n at answers first.world

    last : Progress
    last = round_or_pass at answers early.world

    so_far : Bool → Option Ended → Progress
    so_far b how = cond b (at_world (Some ended.Completed) world) (and_then_by how first (parts_from n at answers))

    over : (b : Bool) (how : Option Ended) → first.ended ≡ how → (early.ended ≡ None → are_completed early.world.core ≡ false → IsSome last.ended → parts_from (n + suc m) at answers first.world ≡ with_front early.made last) →
        (so_far b how).ended ≡ None → are_completed (so_far b how).world.core ≡ false → IsSome (round_or_pass at answers (so_far b how).world).ended →
        cond b (at_world (Some ended.Completed) world) (and_then_by how first (parts_from (n + suc m) at answers)) ≡ with_front (so_far b how).made (round_or_pass at answers (so_far b how).world)
    over true how e more on going some = absurd (cc on)
    over false None e more on going some = ap (with_front first.made) (more on going some) ∙ ap (λ (l : List Record). record last { made = l }) (sym (append_assoc first.made early.made last.made))
    over false (Some how) e more on going some = absurd (cc (sym e ∙ on))

module _ (run : Run) (is : IsPlatform run.platform) (parts : ℕ) (on : (parts_in parts run).ended ≡ None) (going : are_completed (parts_in parts run).world.core ≡ false) where
  abbrev world : World
  world = (parts_in parts run).world

  abbrev pass : Step → Progress
  pass step = in_world (record world { work = world.work + work_of world.core.under }) step

  whole_is : (last : Progress) → round_or_pass (scene_in run) run.answers world ≡ last → last.ended ≡ Some ended.Budget → whole run ≡ with_front (parts_in parts run).made last
  whole_is last same spent =
      let few = parts_few run is parts on in
      let e : run.budget + 1 ≡ parts + suc (run.budget - parts) = omega (arith, few) in
      let some : IsSome (round_or_pass (scene_in run) run.answers world).ended = ap (λ (p : Progress). is_some p.ended) same ∙ ap is_some spent in
      whole_so run is ∙ parts_stop (scene_in run) run.answers parts (run.budget - parts) (run.budget + 1) (first_in run) e on going some ∙ ap (with_front (parts_in parts run).made) same

  passes_end : (there : Step) → anyone_ready world.core ≡ false → pass_of (scene_in run).setup world.core ≡ record there { stop = Some Budget } → EndsThere run there.core ((parts_in parts run).made ++ there.made)
  passes_end there idle stops_so =
      let last = pass (record there { stop = Some Budget }) in
      let same : round_or_pass (scene_in run) run.answers world ≡ last =
      ap (λ (b : Bool). cond b (round (scene_in run) run.answers world) (pass (pass_of (scene_in run).setup world.core))) idle ∙ ap pass stops_so in
      let w = whole_is last same refl in
      record { spent = ap (λ (p : Progress). p.ended) w; core = ap (λ (p : Progress). p.world.core) w; made = ap (λ (p : Progress). p.made) w }

  rounds_end : (part : Progress) → anyone_ready world.core ≡ true → StopsAt part (round (scene_in run) run.answers world) → EndsThere run part.world.core ((parts_in parts run).made ++ part.made)
  rounds_end part ready s =
      let last = round (scene_in run) run.answers world in
      let same : round_or_pass (scene_in run) run.answers world ≡ last = ap (λ (b : Bool). cond b last (pass (pass_of (scene_in run).setup world.core))) ready in
      let w = whole_is last same s.spent in
      record {
        spent = ap (λ (p : Progress). p.ended) w ∙ s.spent;
        core = ap (λ (p : Progress). p.world.core) w ∙ s.core;
        made = ap (λ (p : Progress). p.made) w ∙ ap (λ (l : List Record). (parts_in parts run).made ++ l) s.made;
      }

-- ---- the law
calls_anywhere : (run : Run) (parts actors : ℕ) → IsPlatform run.platform → CallIsLeft run parts actors (run_to parts actors run).world.core → (run_to parts actors run).world.core.events ≡ run.budget → EndsThere run (run_to parts actors run).world.core (run_to parts actors run).made
calls_anywhere run parts actors is c used =
    let at = scene_in run in
    let first = parts_in parts run in
    let part = round_to actors at run.answers first.world in
    let on = first_goes first.ended first (round_to actors at run.answers) refl c.goes_on in
    let here : run_to parts actors run ≡ with_front first.made part = ap (λ (o : Option Ended). and_then_by o first (round_to actors at run.answers)) on in
    let me : 1 + actors ≡ actors + 1 = omega arith in
    let caller = who_calls first.world.minds first.world.core.actors actors c.calls in
    let s = calls_stop at run.answers actors 1 (calls_in first.world) (turned first.world) (ap (λ (p : Progress). p.ended) (sym here) ∙ c.goes_on) (ap (λ (p : Progress). p.world.core.events) (sym here) ∙ used) c.calls
    (ap (λ (k : ℕ). is_ended (state_of part.world.core k)) me ∙ ap (λ (p : Progress). is_ended (state_of p.world.core (actors + 1))) (sym here) ∙ c.lives) in
    subst (λ (p : Progress). EndsThere run p.world.core p.made) (sym here) (rounds_end run is parts on (caller_goes first.world.core.actors actors caller) part (ready_at first.world.core.actors actors caller) s)

passes_anywhere : (run : Run) (parts span : ℕ) (there : Step) → IsPlatform run.platform → PassIsNext run parts span → IsNextAt (scene_in run).setup span (settled (parts_in parts run).world.core) there → there.stop ≡ None → there.core.events ≡ run.budget → EndsThere run there.core ((parts_in parts run).made ++ there.made)
passes_anywhere run parts span there is n next on used =
    let setup = (scene_in run).setup in
    let core = settled (parts_in parts run).world.core in
    passes_end run is parts n.goes_on n.going there n.idle
    (ap (pass_at setup core) n.next ∙ ends_there setup.budget there (pass_at setup core (Some span)) (continues setup span core next) on used)

pub used_budgets_end_anywhere : UsedBudgetsEndAnywhere
used_budgets_end_anywhere = record { calls = calls_anywhere; passes = passes_anywhere }
