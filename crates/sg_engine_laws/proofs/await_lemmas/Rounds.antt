-- Scheduling rounds and time advances: where a run comes, it reaches.
use Rattle.std.proofs.Common.{◌≡◌, ◌<◌, ◌+◌, ◌-◌, ◌∙◌, ℕ, zero, suc, Bool, true, false, cond, inl, sym, ap, refl, List, [], ◌∷◌, map, get_or, take, Option, None, Some, is_some, arith}
use Rattle.std.specs.Prelude.{IsSome}
use Rattle.sg_base.specs.declared.call.Answer.{Answer}
use Rattle.sg_base.specs.declared.call.Call.{Call}
use Rattle.sg_base.specs.Mind.{Mind}
use Rattle.sg_activity.specs.Underway.{work_of}
use Rattle.sg_actor_states.specs.declared.state.Actor.{Actor}
use Rattle.sg_actor_states.specs.declared.state.State.{State}
use Rattle.sg_actor_states.specs.declared.state.State.TheVariants as state
use Rattle.sg_actor_states.specs.Actors.{answer_in, inbox_of, not_suspended}
use Rattle.sg_kernel.specs.Passes.{pass_of}
use Rattle.sg_kernel_calls.specs.World.{Core}
use Rattle.sg_engine.specs.World.{World}
use Rattle.sg_engine.specs.declared.ended.Ended.{Ended}
use Rattle.sg_engine.specs.declared.ended.Ended.TheVariants as ended
use Rattle.sg_engine.specs.Fuel.{parts_from}
use Rattle.sg_engine.specs.Run.{Scene, Answering, Progress, then_unless_ended, and_then_by, anyone_ready, are_completed, at_world, call_after, calls_from, if_call, in_world, inboxes, mind_after, round, round_or_pass, run_from, zip_with}
use Rattle.sg_engine_laws.specs.awaits.Reached.{Reaches}
use Rattle.sg_engine_laws.specs.awaits.Reached as reached
use Rattle.sg_engine_laws.specs.awaits.Runs.{calls_in, round_to}
use Rattle.sg_engine_laws.proofs.await_lemmas.RoundCalls.{Leads, Stands, call_leads}

-- ---- who calls in a scheduling round
-- an actor that takes a turn has an answer, and isn't suspended
pub record IsCaller (actor : Actor) : Type 0 where
  pub answer : Answer
  pub state : actor.state ≡ state.Ready answer
  pub awake : actor.suspended ≡ false

caller_by : (actor : Actor) (suspended : Bool) (now : State) → actor.suspended ≡ suspended → actor.state ≡ now → IsSome (cond suspended None (answer_in now)) → IsCaller actor
caller_by actor true now awake is some = absurd (cc some)
caller_by actor false state.Unstarted awake is some = absurd (cc some)
caller_by actor false (state.Ready answer) awake is some = record { answer = answer; state = is; awake = awake }
caller_by actor false (state.Blocked what since on) awake is some = absurd (cc some)
caller_by actor false state.Ended awake is some = absurd (cc some)

called_by : (actor : Actor) (mind : Option Mind) (inbox : Option Answer) → inbox_of actor ≡ inbox → IsSome (call_after mind inbox) → IsCaller actor
called_by actor mind None is some = absurd (cc some)
called_by actor mind (Some answer) is some = caller_by actor actor.suspended actor.state refl refl (ap is_some is)

pub who_calls : (minds : List (Option Mind)) (actors : List Actor) (j : ℕ) → IsSome (get_or (zip_with call_after minds (map inbox_of actors)) j None) → IsCaller (get_or actors j (not_suspended state.Ended))
who_calls [] actors j some = absurd (cc some)
who_calls (mind ∷ minds) [] j some = absurd (cc some)
who_calls (mind ∷ minds) (actor ∷ actors) zero some = called_by actor mind (inbox_of actor) refl some
who_calls (mind ∷ minds) (actor ∷ actors) (suc j) some = who_calls minds actors j some

-- all that call stand, if the first of these calls is this actor's
abbrev pub AllStand : ℕ → List (Option Call) → Core → Type 0
AllStand actor calls core = (j id : ℕ) → id ≡ actor + j → IsSome (get_or calls j None) → Stands id core

pub callers_stand : (world : World) → AllStand 1 (calls_in world) world.core
callers_stand world j id is some =
    let caller = who_calls world.minds world.core.actors j some in
    let place : j ≡ id - 1 = omega (arith, is) in
    record { answer = caller.answer; keeps = inl (ap (λ (k : ℕ). (get_or world.core.actors k (not_suspended state.Ended)).state) (sym place) ∙ caller.state) }

some_taken : (n : ℕ) (calls : List (Option Call)) (j : ℕ) → IsSome (get_or (take n calls) j None) → IsSome (get_or calls j None)
some_taken zero calls j some = absurd (cc some)
some_taken (suc n) [] j some = some
some_taken (suc n) (what ∷ calls) zero some = some
some_taken (suc n) (what ∷ calls) (suc j) some = some_taken n calls j some

pub taken_stand : (n actor : ℕ) (calls : List (Option Call)) (core : Core) → AllStand actor calls core → AllStand actor (take n calls) core
taken_stand n actor calls core all j id is some = all j id is (some_taken n calls j some)

-- after the first call the others still stand
pub rest_stand : (at : Scene) (actor : ℕ) (what : Option Call) (rest : List (Option Call)) (old new : Core) → Leads at actor old new → AllStand actor (what ∷ rest) old → AllStand (actor + 1) rest new
rest_stand at actor what rest old new leads all j id is some =
    leads.stand id (omega (arith, is)) (λ same. omega (arith, is, same)) (all (suc j) id (omega (arith, is)) some)

-- ---- what holds of cores, from stretch to stretch
pub by_test : (P : Core → Type 0) (b : Bool) (x y : Progress) → P x.world.core → P y.world.core → P (cond b x y).world.core
by_test P true x y one other = one
by_test P false x y one other = other

pub by_end : (P : Core → Type 0) (how : Option Ended) (first : Progress) (next : World → Progress) → P first.world.core → P (next first.world).world.core → P (and_then_by how first next).world.core
by_end P None first next before after = after
by_end P (Some how) first next before after = before

-- ---- where a run comes
module _ (at : Scene) (answers : Answering) (start : Core) where
  abbrev pub Comes : Core → Type 0
  Comes core = Reaches at.roads at.setup start core

  pub calls_come : (actor : ℕ) (calls : List (Option Call)) (world : World) → 0 < actor → AllStand actor calls world.core → Comes world.core → Comes (calls_from at answers actor calls world).world.core
  unfolding calls_from
  calls_come actor [] world from all way = way
  calls_come actor (what ∷ rest) world from all way =
      let first = if_call at answers actor what world in
      let here : actor ≡ actor + 0 = omega arith in
      let leads : Leads at actor world.core first.world.core = call_leads at answers actor what world from (all 0 actor here) in
      let behind = leads.reaches start way in
      by_end Comes first.ended first (calls_from at answers (actor + 1) rest) behind
      (calls_come (actor + 1) rest first.world (omega arith) (rest_stand at actor what rest world.core first.world.core leads all) behind)

  pub round_to_comes : (n : ℕ) (world : World) → Comes world.core → Comes (round_to n at answers world).world.core
  round_to_comes n world way =
      calls_come 1 (take n (calls_in world)) (record world { minds = zip_with mind_after world.minds (inboxes world.core) }) (omega arith) (taken_stand n 1 (calls_in world) world.core (callers_stand world)) way

  pub round_comes : (world : World) → Comes world.core → Comes (round at answers world).world.core
  round_comes world way =
      calls_come 1 (calls_in world) (record world { minds = zip_with mind_after world.minds (inboxes world.core) }) (omega arith) (callers_stand world) way

  pub part_comes : (world : World) → Comes world.core → Comes (round_or_pass at answers world).world.core
  part_comes world way =
      by_test Comes (anyone_ready world.core) (round at answers world) (in_world (record world { work = world.work + work_of world.core.under }) (pass_of at.setup world.core)) (round_comes world way) (reached.passes way)

  pub parts_come : (n : ℕ) (world : World) → Comes world.core → Comes (parts_from n at answers world).world.core
  unfolding parts_from
  parts_come zero world way = way
  parts_come (suc n) world way =
      let first = round_or_pass at answers world in
      by_test Comes (are_completed world.core) (at_world (Some ended.Completed) world) (then_unless_ended first (parts_from n at answers)) way
      (by_end Comes first.ended first (parts_from n at answers) (part_comes world way) (parts_come n first.world (part_comes world way)))

  pub run_comes : (n : ℕ) (world : World) → Comes world.core → Comes (run_from n at answers world).world.core
  unfolding run_from
  run_comes zero world way = way
  run_comes (suc n) world way =
      let first = round_or_pass at answers world in
      by_test Comes (are_completed world.core) (at_world (Some ended.Completed) world) (then_unless_ended first (run_from n at answers)) way
      (by_end Comes first.ended first (run_from n at answers) (part_comes world way) (run_comes n first.world (part_comes world way)))
