-- What the calls of a scheduling round leave: each actor that has begun has a mind, the records have each create, and
-- the events don't fall.
use Rattle.std.proofs.Common.{◌≡◌, ◌≢◌, ℕ, zero, suc, ◌+◌, ◌-◌, ◌==◌, ◌<◌, ◌≤◌, ◌&&◌, ◌||◌, not, nat_lt, Bool, true, false, true≢false, cond, inl, inr, Option, None, Some, option_map, is_some, Result, Ok, Err, List, [], ◌∷◌, ◌++◌, count_by, length, set, get_or, refl, sym, ap, subst, ◌∙◌, arith}
use Rattle.std.specs.Prelude.{IsSome, slice_get}
use Rattle.std.specs.List.{All, list_any}
use Rattle.std.specs.Option.{option_map_or}
use Rattle.std.proofs.lemmas.Bool.{and_parts, cases_eq}
use Rattle.std.proofs.lemmas.List.Sums.{sum_by-append, sum_by-cons}
use Rattle.std.proofs.lemmas.List.{get_or-set_other, get_or-set_same, length-set}
use Rattle.sg_base.specs.declared.call.Action.{Action}
use Rattle.sg_base.specs.declared.call.Answer.TheVariants as answer
use Rattle.sg_base.specs.declared.call.Call.{Call}
use Rattle.sg_base.specs.declared.ids.ActorId.{ActorId}
use Rattle.sg_base.specs.declared.trace_record.Record.{Record}
use Rattle.sg_base.specs.Mind.{Mind}
use Rattle.sg_actor_states.specs.declared.state.Actor.{Actor}
use Rattle.sg_actor_states.specs.declared.state.State.TheVariants.{Ready}
use Rattle.sg_actor_states.specs.Actors.{actor_at, is_ended, is_unstarted, put_state}
use Rattle.sg_kernel_calls.specs.declared.stop.Stop.{Stop}
use Rattle.sg_kernel_calls.specs.declared.stop.Stop.TheVariants as stop
use Rattle.sg_kernel_calls.specs.Calls.{answer_of_ask, answered, answered_call, told}
use Rattle.sg_kernel_calls.specs.Lives.{created}
use Rattle.sg_kernel_calls.specs.Steps.{Step, goes_on, stops, counted, readied}
use Rattle.sg_kernel_calls.specs.World.{Core, state_of}
use Rattle.sg_script.specs.Fetched.{fetches_of, one_more}
use Rattle.sg_script.specs.declared.fault.ScriptFault.{ScriptFault}
use Rattle.sg_script.specs.declared.fault.ScriptFault.TheVariants as fault
use Rattle.sg_engine.specs.World.{World}
use Rattle.sg_engine.specs.declared.ended.Ended.{Ended}
use Rattle.sg_engine.specs.declared.ended.Ended.TheVariants as ended
use Rattle.sg_engine.specs.Run.{Scene, Answering, Progress, then_unless_ended, and_then_by, answer_step, ask_step, at_world, created_by, creates, ended_at, ended_by, if_call, if_given, in_world, is_ask, is_given, one_call, other_call}
use Rattle.sg_kernel_laws.proofs.actor_lemmas.Others.{set_there}
use Rattle.sg_engine_laws.specs.endings.Creating.{creates_at, is_create, is_placed, is_some_actor}
use Rattle.sg_engine_laws.proofs.ending_lemmas.Called.{Happens, Keeps, Keeping, TellsNone, call_happens, counts, creating, faults, is_budget, nobody, place_state, put_keeps}
use Rattle.sg_engine_laws.proofs.ending_lemmas.Passed.{same_or}

-- ---- a step of the kernel in a scheduling round
pub record Steps (budget : ℕ) (core : Core) (step : Step) : Type 0 where
  pub keeps : Keeps core.actors step.core.actors
  pub silent : All TellsNone step.made
  pub date : step.core.under.date ≡ core.under.date
  pub turns : step.core.turns ≡ core.turns
  pub more : core.events ≤ step.core.events
  pub within : core.events ≤ budget → step.core.events ≤ budget
  pub used : step.stop ≡ Some stop.Budget → step.core.events ≡ budget
  pub advances : step.stop ≡ None → core.events < step.core.events

steps_used : (budget : ℕ) (core : Core) → Keeps core.actors core.actors → core.events ≡ budget → Steps budget core (stops core [] stop.Budget)
steps_used budget core k is = record {
  keeps = k;
  silent = λ i d within. absurd (omega (arith, within));
  date = refl;
  turns = refl;
  more = omega arith;
  within = λ le. le;
  used = λ e. is;
  advances = λ e. absurd (cc e);
}

steps_on : (budget : ℕ) (core : Core) (step : Step) → core.events ≢ budget → Keeping (counted core) step → step.stop ≡ None → Steps budget core step
steps_on budget core step go k on = record {
  keeps = k.holds.actors;
  silent = k.made;
  date = k.holds.date;
  turns = k.holds.turns;
  more = omega (arith, k.holds.events);
  within = λ le. omega (arith, k.holds.events, le, go);
  used = λ e. absurd (cc (sym on ∙ e));
  advances = λ e. omega (arith, k.holds.events);
}

steps_fault : (budget : ℕ) (core : Core) (why : Stop) → Keeps core.actors core.actors → is_budget why ≡ false → Steps budget core (record { core = core; made = []; stop = Some why })
steps_fault budget core why k other = record {
  keeps = k;
  silent = λ i d within. absurd (omega (arith, within));
  date = refl;
  turns = refl;
  more = omega arith;
  within = λ le. le;
  used = λ e. absurd (let is : why ≡ stop.Budget = cc e in true≢false (sym (ap is_budget is) ∙ other));
  advances = λ e. absurd (cc e);
}

unless_steps : (budget : ℕ) (core : Core) (step : Step) → Keeps core.actors core.actors → (core.events ≢ budget → Steps budget core step) → Steps budget core (cond (core.events == budget) (stops core [] stop.Budget) step)
unless_steps budget core step k more = by (core.events == budget) refl
  where
    by : (b : Bool) → (core.events == budget) ≡ b → Steps budget core (cond b (stops core [] stop.Budget) step)
    by true e = steps_used budget core k ((same_or core.events budget).0 e)
    by false e = more ((same_or core.events budget).1 e)

-- ---- what a stretch of a run leaves
-- As many minds as actors; an actor that has begun has one, and no actor waits for a create.
pub record Minded (firsts : List Mind) (minds : List (Option Mind)) (actors : List Actor) : Type 0 where
  pub actors_long : length actors ≡ length firsts
  pub minds_long : length minds ≡ length firsts
  pub minded : (i : ℕ) → i < length firsts → is_unstarted (place_state actors i) ≡ false → IsSome (get_or minds i None)
  pub waits : (i : ℕ) → creating (place_state actors i) ≡ None

abbrev pub Minds : Scene → World → Type 0
Minds at world = Minded at.firsts world.minds world.core.actors

pub minds_waits : (at : Scene) (world : World) → Minds at world → Keeps world.core.actors world.core.actors
minds_waits at world m = record { long = refl; begun = λ i. refl; waits = m.waits }

-- the records say who began, and how many contexts that took
pub record Traced (before after : World) (made : List Record) : Type 0 where
  pub contexts : after.contexts + count_by is_create made ≡ before.contexts
  pub begun : (i : ℕ) → is_unstarted (place_state after.core.actors i) ≡ (is_unstarted (place_state before.core.actors i) && not (list_any (creates_at i) made))

pub record Stretch (at : Scene) (before : World) (p : Progress) : Type 0 where
  pub minds : Minds at p.world
  pub traced : Traced before p.world p.made
  pub date : p.world.core.under.date ≡ before.core.under.date
  pub turns : p.world.core.turns ≡ before.core.turns
  pub more : before.core.events ≤ p.world.core.events
  pub within : before.core.events ≤ at.setup.budget → p.world.core.events ≤ at.setup.budget
  pub used : p.ended ≡ Some ended.Budget → p.world.core.events ≡ at.setup.budget

-- ---- lists of records
pub none_counted : (made : List Record) → All TellsNone made → count_by is_create made ≡ 0
none_counted [] none = refl
none_counted (r ∷ made) none =
    let here : is_create r ≡ false = ap is_some_actor (none 0 r (omega arith)) in
    let rest : count_by is_create made ≡ 0 = none_counted made (λ i d within. none (suc i) d (omega (arith, within))) in
    sum_by-cons (λ (x : Record). cond (is_create x) 1 0) r made ∙ ap (λ (b : Bool). cond b 1 0 + count_by is_create made) here ∙ omega (arith, rest)

pub none_any : (i : ℕ) (made : List Record) → All TellsNone made → list_any (creates_at i) made ≡ false
none_any i [] none = refl
none_any i (r ∷ made) none =
    let here : creates_at i r ≡ false = ap (is_placed i) (none 0 r (omega arith)) in
    ap (λ (b : Bool). b || list_any (creates_at i) made) here ∙ none_any i made (λ j d within. none (suc j) d (omega (arith, within)))

pub count_both : (xs ys : List Record) → count_by is_create (xs ++ ys) ≡ count_by is_create xs + count_by is_create ys
count_both xs ys = sum_by-append (λ (x : Record). cond (is_create x) 1 0) xs ys

pub any_both : (i : ℕ) (xs ys : List Record) → list_any (creates_at i) (xs ++ ys) ≡ (list_any (creates_at i) xs || list_any (creates_at i) ys)
any_both i [] ys = refl
any_both i (x ∷ xs) ys = ap (λ (b : Bool). creates_at i x || b) (any_both i xs ys) ∙ assoc (creates_at i x) (list_any (creates_at i) xs) (list_any (creates_at i) ys)
  where
    assoc : (a b c : Bool) → (a || (b || c)) ≡ ((a || b) || c)
    assoc true b c = refl
    assoc false b c = refl

and_true : (a : Bool) → (a && true) ≡ a
and_true true = refl
and_true false = refl

and_false : (a : Bool) → (a && false) ≡ false
and_false true = refl
and_false false = refl

pub neither : (a b c : Bool) → ((a && not b) && not c) ≡ (a && not (b || c))
neither true true c = refl
neither true false c = refl
neither false b c = refl

pub traced_none : (before after : World) (made : List Record) → after.contexts ≡ before.contexts → ((i : ℕ) → is_unstarted (place_state after.core.actors i) ≡ is_unstarted (place_state before.core.actors i)) → All TellsNone made → Traced before after made
traced_none before after made same begun none = record {
  contexts = omega (arith, none_counted made none, same);
  begun = λ i. begun i ∙ sym (and_true (is_unstarted (place_state before.core.actors i))) ∙ ap (λ (b : Bool). is_unstarted (place_state before.core.actors i) && not b) (sym (none_any i made none));
}

pub traced_both : (a b c : World) (xs ys : List Record) → Traced a b xs → Traced b c ys → Traced a c (xs ++ ys)
traced_both a b c xs ys s t = record {
  contexts = omega (arith, count_both xs ys, s.contexts, t.contexts);
  begun = λ i. t.begun i
      ∙ ap (λ (u : Bool). u && not (list_any (creates_at i) ys)) (s.begun i)
      ∙ neither (is_unstarted (place_state a.core.actors i)) (list_any (creates_at i) xs) (list_any (creates_at i) ys)
      ∙ ap (λ (u : Bool). is_unstarted (place_state a.core.actors i) && not u) (sym (any_both i xs ys));
}

-- an actor that has begun stays so
pub begun_still : (before after : World) (made : List Record) (i : ℕ) → Traced before after made → is_unstarted (place_state before.core.actors i) ≡ false → is_unstarted (place_state after.core.actors i) ≡ false
begun_still before after made i t up = t.begun i ∙ ap (λ (u : Bool). u && not (list_any (creates_at i) made)) up

pub minds_kept : (at : Scene) (world : World) (actors : List Actor) → Minds at world → Keeps world.core.actors actors → Minded at.firsts world.minds actors
minds_kept at world actors m k = record {
  actors_long = k.long ∙ m.actors_long;
  minds_long = m.minds_long;
  minded = λ i within up. m.minded i within (sym (k.begun i) ∙ up);
  waits = k.waits;
}

-- ---- one stretch, and another
pub nothing : (at : Scene) (world : World) (how : Option Ended) → how ≢ Some ended.Budget → Minds at world → Stretch at world (at_world how world)
nothing at world how other m = record {
  minds = m;
  traced = traced_none world world [] refl (λ i. refl) (λ i d within. absurd (omega (arith, within)));
  date = refl;
  turns = refl;
  more = omega arith;
  within = λ le. le;
  used = λ e. absurd (other e);
}

spent : (at : Scene) (world : World) → world.core.events ≡ at.setup.budget → Minds at world → Stretch at world (at_world (Some ended.Budget) world)
spent at world is m = record {
  minds = m;
  traced = traced_none world world [] refl (λ i. refl) (λ i d within. absurd (omega (arith, within)));
  date = refl;
  turns = refl;
  more = omega arith;
  within = λ le. le;
  used = λ e. is;
}

pub stretch_then : (at : Scene) (before : World) (first : Progress) (next : World → Progress) → Stretch at before first → Stretch at first.world (next first.world) → Stretch at before (then_unless_ended first next)
stretch_then at before first next s t = by first.ended refl
  where
    by : (how : Option Ended) → first.ended ≡ how → Stretch at before (and_then_by how first next)
    by None e = record {
      minds = t.minds;
      traced = traced_both before first.world (next first.world).world first.made (next first.world).made s.traced t.traced;
      date = t.date ∙ s.date;
      turns = t.turns ∙ s.turns;
      more = omega (arith, s.more, t.more);
      within = λ le. t.within (s.within le);
      used = t.used;
    }
    by (Some how) e = record { minds = s.minds; traced = s.traced; date = s.date; turns = s.turns; more = s.more; within = s.within; used = s.used }

pub ends_so : (o : Option Stop) → option_map ended_by o ≡ Some ended.Budget → o ≡ Some stop.Budget
ends_so None e = absurd (cc e)
ends_so (Some stop.Budget) e = refl
ends_so (Some (stop.NoRoute from to zone a b)) e = absurd (cc e)
ends_so (Some (stop.TooLong from to)) e = absurd (cc e)
ends_so (Some stop.Deadlock) e = absurd (cc e)
ends_so (Some stop.Starved) e = absurd (cc e)

pub goes_so : (o : Option Stop) → option_map ended_by o ≡ None → o ≡ None
goes_so None e = refl
goes_so (Some why) e = absurd (cc e)

-- a step of the kernel
step_stretch : (at : Scene) (before world : World) (step : Step) → world.minds ≡ before.minds → world.contexts ≡ before.contexts → Minds at before → Steps at.setup.budget before.core step → Stretch at before (in_world world step)
step_stretch at before world step minds contexts m s = record {
  minds = subst (λ (ms : List (Option Mind)). Minded at.firsts ms step.core.actors) (sym minds) (minds_kept at before step.core.actors m s.keeps);
  traced = traced_none before (record world { core = step.core }) step.made contexts s.keeps.begun s.silent;
  date = s.date;
  turns = s.turns;
  more = s.more;
  within = s.within;
  used = λ e. s.used (ends_so step.stop e);
}

-- ---- a create that is given
begun_other : (actors : List Actor) (i place : ℕ) (new : Actor) → (place ≡ i → ⊥) → is_unstarted (place_state (set actors i new) place) ≡ is_unstarted (place_state actors place)
begun_other actors i place new apart = ap (λ (a : Actor). is_unstarted a.state) (get_or-set_other actors i place new nobody apart)

begun_here : (actors : List Actor) (i place : ℕ) (new : Actor) → is_unstarted new.state ≡ false → place ≡ i → is_unstarted (place_state (set actors i new) place) ≡ false
begun_here [] i place new up same = refl
begun_here (a ∷ actors) zero zero new up same = up
begun_here (a ∷ actors) zero (suc place) new up same = absurd (omega (arith, same))
begun_here (a ∷ actors) (suc i) zero new up same = absurd (omega (arith, same))
begun_here (a ∷ actors) (suc i) (suc place) new up same = begun_here actors i place new up (omega (arith, same))

some_get : {X : Type 0} (xs : List X) (i : ℕ) → i < length xs → IsSome (slice_get xs i)
some_get [] i within = absurd (omega (arith, within))
some_get (x ∷ xs) zero within = refl
some_get (x ∷ xs) (suc i) within = some_get xs i (omega (arith, within))

module _ (at : Scene) (actor : ℕ) (target : ActorId) (world : World) (m : Minds at world) (up : is_unstarted (state_of world.core actor) ≡ false) where
  abbrev started : List Actor
  started = put_state world.core.actors target.0 (Ready answer.Start)

  abbrev after : List Actor
  after = put_state started actor (Ready answer.Done)

  begun_after : (i : ℕ) → is_unstarted (place_state after i) ≡ (is_unstarted (place_state world.core.actors i) && not (((target.0 - 1) == i) || false))
  begun_after i = elim (cases_eq i (target.0 - 1)) [ inl same ↦ here same | inr apart ↦ there apart ]
    where
      caller : Actor
      caller = record { state = Ready answer.Done; suspended = (actor_at started actor).suspended }

      first : Actor
      first = record { state = Ready answer.Start; suspended = (actor_at world.core.actors target.0).suspended }

      yes : i ≡ target.0 - 1 → ((target.0 - 1) == i) ≡ true
      yes same = grind (arith, same)

      no : (i ≡ target.0 - 1 → ⊥) → ((target.0 - 1) == i) ≡ false
      no apart = grind (arith, apart)

      here : i ≡ target.0 - 1 → is_unstarted (place_state after i) ≡ (is_unstarted (place_state world.core.actors i) && not (((target.0 - 1) == i) || false))
      here same =
          set_there (λ (a : Actor). is_unstarted a.state ≡ false) started (actor - 1) i caller nobody (λ own. refl) (begun_here world.core.actors (target.0 - 1) i first refl same)
          ∙ sym (and_false (is_unstarted (place_state world.core.actors i)))
          ∙ ap (λ (b : Bool). is_unstarted (place_state world.core.actors i) && not (b || false)) (sym (yes same))

      there : (i ≡ target.0 - 1 → ⊥) → is_unstarted (place_state after i) ≡ (is_unstarted (place_state world.core.actors i) && not (((target.0 - 1) == i) || false))
      there apart =
          set_there (λ (a : Actor). is_unstarted a.state ≡ is_unstarted (place_state world.core.actors i)) started (actor - 1) i caller nobody
          (λ own. sym up ∙ ap (λ (n : ℕ). is_unstarted (place_state world.core.actors n)) (sym own)) (begun_other world.core.actors (target.0 - 1) i first apart)
          ∙ sym (and_true (is_unstarted (place_state world.core.actors i)))
          ∙ ap (λ (b : Bool). is_unstarted (place_state world.core.actors i) && not (b || false)) (sym (no apart))

  minds_after : Minded at.firsts (set world.minds (target.0 - 1) (slice_get at.firsts (target.0 - 1))) after
  minds_after = record {
    actors_long = length-set started (actor - 1) _ ∙ length-set world.core.actors (target.0 - 1) _ ∙ m.actors_long;
    minds_long = length-set world.minds (target.0 - 1) _ ∙ m.minds_long;
    minded = λ i within begun. elim (cases_eq i (target.0 - 1)) [
      | inl same ↦ given i within same
      | inr apart ↦ ap (λ (o : Option Mind). is_some o) (get_or-set_other world.minds (target.0 - 1) i (slice_get at.firsts (target.0 - 1)) None apart) ∙ m.minded i within (before i apart begun)
    ];
    waits = λ i. set_there (λ (a : Actor). creating a.state ≡ None) started (actor - 1) i _ nobody (λ own. refl)
        (set_there (λ (a : Actor). creating a.state ≡ None) world.core.actors (target.0 - 1) i _ nobody (λ own. refl) (m.waits i));
  }
    where
      given : (i : ℕ) → i < length at.firsts → i ≡ target.0 - 1 → IsSome (get_or (set world.minds (target.0 - 1) (slice_get at.firsts (target.0 - 1))) i None)
      given i within same =
          ap (λ (k : ℕ). is_some (get_or (set world.minds (target.0 - 1) (slice_get at.firsts (target.0 - 1))) k None)) same
          ∙ ap (λ (o : Option Mind). is_some o) (get_or-set_same world.minds (target.0 - 1) (slice_get at.firsts (target.0 - 1)) None (omega (arith, within, same, m.minds_long)))
          ∙ some_get at.firsts (target.0 - 1) (omega (arith, within, same))

      before : (i : ℕ) → (i ≡ target.0 - 1 → ⊥) → is_unstarted (place_state after i) ≡ false → is_unstarted (place_state world.core.actors i) ≡ false
      before i apart begun =
          let no : ((target.0 - 1) == i) ≡ false = grind (arith, apart) in
          sym (and_true (is_unstarted (place_state world.core.actors i))) ∙ ap (λ (b : Bool). is_unstarted (place_state world.core.actors i) && not (b || false)) (sym no) ∙ sym (begun_after i) ∙ begun

  given_stretch : nat_lt 0 world.contexts ≡ true → world.core.events ≢ at.setup.budget → Stretch at world (in_world (if_given true at.firsts target.0 world) (created true actor target world.core))
  given_stretch some go = record {
    minds = minds_after;
    traced = record { contexts = (let left : 0 < world.contexts = grind (arith, some) in omega (arith, left)); begun = begun_after };
    date = refl;
    turns = refl;
    more = omega arith;
    within = λ le. omega (arith, le, go);
    used = λ e. absurd (cc e);
  }

  -- and one that isn't
  refused_steps : world.core.events ≢ at.setup.budget → Steps at.setup.budget world.core (created false actor target world.core)
  refused_steps go = record {
    keeps = put_keeps world.core.actors world.core.actors (actor - 1) (record (actor_at world.core.actors actor) { state = Ready answer.Refused }) refl refl up (minds_waits at world m);
    silent = λ i d within. one i d within;
    date = refl;
    turns = refl;
    more = omega arith;
    within = λ le. omega (arith, le, go);
    used = λ e. absurd (cc e);
    advances = λ e. omega arith;
  }
    where
      one : (i : ℕ) (d : Record) → i < length (created false actor target world.core).made → TellsNone (get_or (created false actor target world.core).made i d)
      one zero d within = refl
      one (suc i) d within = absurd (omega (arith, within))

-- ---- calls
stays_so : (at : Scene) (world : World) (why : ScriptFault) → Some (ended_at why) ≢ Some ended.Budget
stays_so at world (fault.Line number kind) e = cc e
stays_so at world fault.Read e = cc e
stays_so at world fault.Memory e = cc e

-- what a call leads to: a stretch, with an event more unless it ends the run
pub record Calls (at : Scene) (before : World) (p : Progress) : Type 0 where
  pub stretch : Stretch at before p
  pub advances : p.ended ≡ None → before.core.events < p.world.core.events

module _ (at : Scene) (answers : Answering) (actor : ℕ) where
  step_calls : (before world : World) (step : Step) → world.minds ≡ before.minds → world.contexts ≡ before.contexts → Minds at before → Steps at.setup.budget before.core step → Calls at before (in_world world step)
  step_calls before world step minds contexts m s = record {
    stretch = step_stretch at before world step minds contexts m s;
    advances = λ e. s.advances (goes_so step.stop e);
  }

  ends_calls : (world : World) (how : Ended) → Stretch at world (at_world (Some how) world) → Calls at world (at_world (Some how) world)
  ends_calls world how s = record { stretch = s; advances = λ e. absurd (cc e) }

  answered_steps : (what : Call) (core : Core) → is_unstarted (state_of core actor) ≡ false → Keeps core.actors core.actors → Steps at.setup.budget core (answered at.roads at.setup core actor what)
  answered_steps what core up k = unless_steps at.setup.budget core (answered_call at.roads at.setup core actor what) k (λ go. by go (call_happens at.roads at.setup core actor up k what))
    where
      by : core.events ≢ at.setup.budget → Happens core (answered_call at.roads at.setup core actor what) → Steps at.setup.budget core (answered_call at.roads at.setup core actor what)
      by go (counts on kept) = steps_on at.setup.budget core (answered_call at.roads at.setup core actor what) go kept on
      by go (faults why is other) = subst (λ (s : Step). Steps at.setup.budget core s) (sym is) (steps_fault at.setup.budget core why k other)

  told_steps : (action : Option Action) (core : Core) → is_unstarted (state_of core actor) ≡ false → Keeps core.actors core.actors → Steps at.setup.budget core (told at.setup core actor action)
  told_steps action core up k =
      unless_steps at.setup.budget core (goes_on (readied actor (answer_of_ask action) (counted core)) []) k (λ go. record {
        keeps = put_keeps core.actors core.actors (actor - 1) (record (actor_at core.actors actor) { state = Ready (answer_of_ask action) }) refl refl up k;
        silent = λ i d within. absurd (omega (arith, within));
        date = refl;
        turns = refl;
        more = omega arith;
        within = λ le. omega (arith, le, go);
        used = λ e. absurd (cc e);
        advances = λ e. omega arith;
      })

  module _ (world : World) (m : Minds at world) (up : is_unstarted (state_of world.core actor) ≡ false) where
    answer_calls : (found : Result (Option Action) ScriptFault) (fetched : List ℕ) → Calls at world (answer_step at.setup actor found (record world { fetched = fetched }))
    answer_calls (Ok action) fetched = step_calls world (record world { fetched = fetched }) (told at.setup world.core actor action) refl refl m (told_steps action world.core up (minds_waits at world m))
    answer_calls (Err why) fetched = record {
      stretch = record {
        minds = m;
        traced = traced_none world (record world { fetched = fetched }) [] refl (λ i. refl) (λ i d within. absurd (omega (arith, within)));
        date = refl;
        turns = refl;
        more = omega arith;
        within = λ le. le;
        used = λ e. absurd (stays_so at world why e);
      };
      advances = λ e. absurd (cc e);
    }

    ask_calls : Calls at world (ask_step at.setup answers actor world)
    ask_calls = by (world.core.events == at.setup.budget) refl
      where
        by : (b : Bool) → (world.core.events == at.setup.budget) ≡ b → Calls at world (cond b (at_world (Some ended.Budget) world) (answer_step at.setup actor (answers actor (fetches_of world.fetched actor)) (record world { fetched = one_more actor world.fetched })))
        by true e = ends_calls world ended.Budget (spent at world ((same_or world.core.events at.setup.budget).0 e) m)
        by false e = answer_calls (answers actor (fetches_of world.fetched actor)) (one_more actor world.fetched)

    create_calls : (target : ActorId) → Calls at world (creates at.firsts at.setup.budget actor target world)
    create_calls target = by (world.core.events == at.setup.budget) refl
      where
        given_by : (b : Bool) → is_given target world ≡ b → world.core.events ≢ at.setup.budget → Calls at world (in_world (if_given b at.firsts target.0 world) (created b actor target world.core))
        given_by true e go =
            (let parts = and_parts (is_unstarted (state_of world.core target.0)) (nat_lt 0 world.contexts) e in
            record { stretch = given_stretch at actor target world m up parts.1 go; advances = λ on. omega arith })
        given_by false e go = step_calls world (if_given false at.firsts target.0 world) (created false actor target world.core) refl (omega arith) m (refused_steps at actor target world m up go)

        by : (b : Bool) → (world.core.events == at.setup.budget) ≡ b → Calls at world (cond b (at_world (Some ended.Budget) world) (in_world (if_given (is_given target world) at.firsts target.0 world) (created (is_given target world) actor target world.core)))
        by true e = ends_calls world ended.Budget (spent at world ((same_or world.core.events at.setup.budget).0 e) m)
        by false e = given_by (is_given target world) refl ((same_or world.core.events at.setup.budget).1 e)

    other_calls : (what : Call) → Calls at world (other_call at answers actor what world)
    other_calls what = by (at.script && is_ask what)
      where
        by : (b : Bool) → Calls at world (cond b (ask_step at.setup answers actor world) (in_world world (answered at.roads at.setup world.core actor what)))
        by true = ask_calls
        by false = step_calls world world (answered at.roads at.setup world.core actor what) refl refl m (answered_steps what world.core up (minds_waits at world m))

    pub one_calls : (what : Call) → Calls at world (one_call at answers actor what world)
    one_calls what = by (created_by what)
      where
        by : (o : Option ActorId) → Calls at world (option_map_or (λ target. creates at.firsts at.setup.budget actor target world) o (other_call at answers actor what world))
        by None = other_calls what
        by (Some target) = create_calls target

  pub call_stretch : (what : Option Call) (world : World) → Minds at world → (IsSome what → is_unstarted (state_of world.core actor) ≡ false) → Stretch at world (if_call at answers actor what world)
  call_stretch None world m up = nothing at world None (λ e. cc e) m
  call_stretch (Some what) world m up = by (is_ended (state_of world.core actor))
    where
      by : (b : Bool) → Stretch at world (cond b (at_world None world) (one_call at answers actor what world))
      by true = nothing at world None (λ e. cc e) m
      by false = (one_calls world m (up refl) what).stretch

  pub call_advances : (what : Call) (world : World) → Minds at world → is_unstarted (state_of world.core actor) ≡ false → is_ended (state_of world.core actor) ≡ false →
      (if_call at answers actor (Some what) world).ended ≡ None → world.core.events < (if_call at answers actor (Some what) world).world.core.events
  call_advances what world m up lives = by (is_ended (state_of world.core actor)) lives
    where
      by : (b : Bool) → b ≡ false → (cond b (at_world None world) (one_call at answers actor what world)).ended ≡ None → world.core.events < (cond b (at_world None world) (one_call at answers actor what world)).world.core.events
      by true e on = absurd (true≢false e)
      by false e on = (one_calls world m up what).advances on
