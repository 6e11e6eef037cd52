-- Scheduling rounds: each has a call, and so an event, or ends the run.
use Rattle.std.proofs.Common.{◌≡◌, ℕ, zero, suc, ◌+◌, ◌-◌, ◌<◌, ◌≤◌, ◌&&◌, ◌||◌, not, Bool, true, false, true≢false, cond, Option, None, Some, is_some, List, [], ◌∷◌, length, map, get_or, take, refl, sym, ap, ◌∙◌, arith}
use Rattle.std.specs.Prelude.{IsSome}
use Rattle.std.specs.List.{list_any}
use Rattle.sg_base.specs.declared.call.Answer.{Answer}
use Rattle.sg_base.specs.declared.call.Call.{Call}
use Rattle.sg_base.specs.Mind.{Mind}
use Rattle.sg_actor_states.specs.declared.state.Actor.{Actor}
use Rattle.sg_actor_states.specs.declared.state.State.{State}
use Rattle.sg_actor_states.specs.declared.state.State.TheVariants as state
use Rattle.sg_actor_states.specs.Actors.{answer_in, inbox_of, is_answered, is_ended, is_ready, is_unstarted}
use Rattle.sg_kernel_calls.specs.World.{Core, state_of}
use Rattle.sg_engine.specs.World.{World}
use Rattle.sg_engine.specs.declared.ended.Ended.{Ended}
use Rattle.sg_engine.specs.Run.{Scene, Answering, Progress, and_then_by, anyone_ready, call_after, calls_from, if_call, inboxes, mind_after, round, zip_with}
use Rattle.sg_engine_laws.specs.awaits.Runs.{calls_in, round_to}
use Rattle.sg_engine_laws.proofs.await_lemmas.Rounds.{who_calls}
use Rattle.sg_engine_laws.proofs.ending_lemmas.Called.{place_state}
use Rattle.sg_engine_laws.proofs.ending_lemmas.Stretches.{Minds, Stretch, begun_still, call_advances, call_stretch, nothing, stretch_then}

-- ---- who calls
-- all that call have begun, if the first of these calls is this actor's
abbrev pub AllUp : ℕ → List (Option Call) → Core → Type 0
AllUp actor calls core = (j place : ℕ) → place ≡ actor - 1 + j → IsSome (get_or calls j None) → is_unstarted (place_state core.actors place) ≡ false

-- and none of them has ended
abbrev pub AllLive : ℕ → List (Option Call) → Core → Type 0
AllLive actor calls core = (j place : ℕ) → place ≡ actor - 1 + j → IsSome (get_or calls j None) → is_ended (place_state core.actors place) ≡ false

pub all_up : (world : World) → AllUp 1 (calls_in world) world.core
all_up world j place is some =
    let caller = who_calls world.minds world.core.actors j some in
    let same : place ≡ j = omega (arith, is) in
    ap (λ (k : ℕ). is_unstarted (place_state world.core.actors k)) same ∙ ap is_unstarted caller.state

pub all_live : (world : World) → AllLive 1 (calls_in world) world.core
all_live world j place is some =
    let caller = who_calls world.minds world.core.actors j some in
    let same : place ≡ j = omega (arith, is) in
    ap (λ (k : ℕ). is_ended (place_state world.core.actors k)) same ∙ ap is_ended caller.state

some_taken : (n : ℕ) (calls : List (Option Call)) (j : ℕ) → IsSome (get_or (take n calls) j None) → IsSome (get_or calls j None)
some_taken zero calls j some = absurd (cc some)
some_taken (suc n) [] j some = some
some_taken (suc n) (what ∷ calls) zero some = some
some_taken (suc n) (what ∷ calls) (suc j) some = some_taken n calls j some

pub taken_up : (n actor : ℕ) (calls : List (Option Call)) (core : Core) → AllUp actor calls core → AllUp actor (take n calls) core
taken_up n actor calls core all j place is some = all j place is (some_taken n calls j some)

-- ---- the turns
-- minds stay as many, and an actor that has one keeps it
pub minds_long : (minds : List (Option Mind)) (actors : List Actor) → length actors ≡ length minds → length (zip_with mind_after minds (map inbox_of actors)) ≡ length minds
minds_long [] actors same = refl
minds_long (mind ∷ minds) [] same = absurd (omega (arith, same))
minds_long (mind ∷ minds) (actor ∷ actors) same = ap suc (minds_long minds actors (omega (arith, same)))

mind_kept : (mind : Option Mind) (inbox : Option Answer) → is_some (mind_after mind inbox) ≡ is_some mind
mind_kept mind None = refl
mind_kept None (Some answer) = refl
mind_kept (Some mind) (Some answer) = refl

minds_some : (minds : List (Option Mind)) (actors : List Actor) (j : ℕ) → length actors ≡ length minds → is_some (get_or (zip_with mind_after minds (map inbox_of actors)) j None) ≡ is_some (get_or minds j None)
minds_some [] actors j same = refl
minds_some (mind ∷ minds) [] j same = absurd (omega (arith, same))
minds_some (mind ∷ minds) (actor ∷ actors) zero same = mind_kept mind (inbox_of actor)
minds_some (mind ∷ minds) (actor ∷ actors) (suc j) same = minds_some minds actors j (omega (arith, same))

-- the actors have taken their turns
abbrev pub turned : World → World
turned world = record world { minds = zip_with mind_after world.minds (inboxes world.core) }

pub turned_minds : (at : Scene) (world : World) → Minds at world → Minds at (turned world)
turned_minds at world m =
    let same : length world.core.actors ≡ length world.minds = m.actors_long ∙ sym m.minds_long in
    record {
      actors_long = m.actors_long;
      minds_long = minds_long world.minds world.core.actors same ∙ m.minds_long;
      minded = λ i within up. minds_some world.minds world.core.actors i same ∙ m.minded i within up;
      waits = m.waits;
    }

-- ---- an actor calls
calls_so : (suspended : Bool) (state : State) (mind : Option Mind) → (is_answered state && not suspended) ≡ true → (is_unstarted state ≡ false → IsSome mind) → IsSome (call_after mind (cond suspended None (answer_in state)))
calls_so true state.Unstarted mind ready some = absurd (true≢false (sym ready))
calls_so true (state.Ready answer) mind ready some = absurd (true≢false (sym ready))
calls_so true (state.Blocked what since on) mind ready some = absurd (true≢false (sym ready))
calls_so true state.Ended mind ready some = absurd (true≢false (sym ready))
calls_so false state.Unstarted mind ready some = absurd (true≢false (sym ready))
calls_so false (state.Ready answer) None ready some = absurd (cc (some refl))
calls_so false (state.Ready answer) (Some mind) ready some = refl
calls_so false (state.Blocked what since on) mind ready some = absurd (true≢false (sym ready))
calls_so false state.Ended mind ready some = absurd (true≢false (sym ready))

-- one of these calls is made
pub record IsCalled (calls : List (Option Call)) : Type 0 where
  pub place : ℕ
  pub some : IsSome (get_or calls place None)

some_calls : (minds : List (Option Mind)) (actors : List Actor) → length actors ≡ length minds → ((i : ℕ) → i < length minds → is_unstarted (place_state actors i) ≡ false → IsSome (get_or minds i None)) →
    list_any is_ready actors ≡ true → IsCalled (zip_with call_after minds (map inbox_of actors))
some_calls minds [] same minded ready = absurd (true≢false (sym ready))
some_calls [] (actor ∷ actors) same minded ready = absurd (omega (arith, same))
some_calls (mind ∷ minds) (actor ∷ actors) same minded ready =
    by (is_ready actor) refl (some_calls minds actors (omega (arith, same)) (λ i within up. minded (suc i) (omega (arith, within)) up))
  where
    by : (b : Bool) → is_ready actor ≡ b → (list_any is_ready actors ≡ true → IsCalled (zip_with call_after minds (map inbox_of actors))) → IsCalled (zip_with call_after (mind ∷ minds) (map inbox_of (actor ∷ actors)))
    by true e more = record { place = 0; some = calls_so actor.suspended actor.state mind e (minded 0 (omega arith)) }
    by false e more = (let r = more (ap (λ (c : Bool). c || list_any is_ready actors) (sym e) ∙ ready) in record { place = suc r.place; some = r.some })

pub ready_calls : (at : Scene) (world : World) → Minds at world → anyone_ready world.core ≡ true → IsCalled (calls_in world)
ready_calls at world m ready =
    some_calls world.minds world.core.actors (m.actors_long ∙ sym m.minds_long) (λ i within up. m.minded i (omega (arith, within, m.minds_long)) up) ready

-- ---- the calls of a scheduling round
module _ (at : Scene) (answers : Answering) where
  pub rest_up : (actor : ℕ) (what : Option Call) (rest : List (Option Call)) (before : World) (p : Progress) → 0 < actor → Stretch at before p → AllUp actor (what ∷ rest) before.core → AllUp (actor + 1) rest p.world.core
  rest_up actor what rest before p from s all j place is some =
      begun_still before p.world p.made place s.traced (all (suc j) place (omega (arith, is, from)) some)

  first_up : (actor : ℕ) (what : Option Call) (rest : List (Option Call)) (core : Core) → AllUp actor (what ∷ rest) core → IsSome what → is_unstarted (state_of core actor) ≡ false
  first_up actor what rest core all some = all 0 (actor - 1) (omega arith) some

  pub calls_stretch : (actor : ℕ) (calls : List (Option Call)) (world : World) → 0 < actor → Minds at world → AllUp actor calls world.core → Stretch at world (calls_from at answers actor calls world)
  unfolding calls_from
  calls_stretch actor [] world from m all = nothing at world None (λ e. cc e) m
  calls_stretch actor (what ∷ rest) world from m all =
      let first = if_call at answers actor what world in
      let s : Stretch at world first = call_stretch at answers actor what world m (first_up actor what rest world.core all) in
      stretch_then at world first (calls_from at answers (actor + 1) rest) s (calls_stretch (actor + 1) rest first.world (omega arith) s.minds (rest_up actor what rest world first from s all))

  more_by : (low : ℕ) (how : Option Ended) (first : Progress) (next : World → Progress) → first.ended ≡ how → (first.ended ≡ None → low < first.world.core.events) → first.world.core.events ≤ (next first.world).world.core.events →
      (and_then_by how first next).ended ≡ None → low < (and_then_by how first next).world.core.events
  more_by low None first next e less le on = omega (arith, less e, le)
  more_by low (Some how) first next e less le on = absurd (cc (sym e ∙ on))

  -- the first call is an event
  pub calls_advance : (j actor : ℕ) (calls : List (Option Call)) (world : World) → 0 < actor → Minds at world → AllUp actor calls world.core → AllLive actor calls world.core → IsSome (get_or calls j None) →
      (calls_from at answers actor calls world).ended ≡ None → world.core.events < (calls_from at answers actor calls world).world.core.events
  unfolding calls_from
  calls_advance j actor [] world from m all live some on = absurd (cc some)
  calls_advance zero actor (None ∷ rest) world from m all live some on = absurd (cc some)
  calls_advance (suc j) actor (None ∷ rest) world from m all live some on =
      calls_advance j (actor + 1) rest world (omega arith) m (λ k place is one. all (suc k) place (omega (arith, is, from)) one) (λ k place is one. live (suc k) place (omega (arith, is, from)) one) some on
  calls_advance j actor (Some what ∷ rest) world from m all live some on =
      let first = if_call at answers actor (Some what) world in
      let s : Stretch at world first = call_stretch at answers actor (Some what) world m (first_up actor (Some what) rest world.core all) in
      let more = calls_stretch (actor + 1) rest first.world (omega arith) s.minds (rest_up actor (Some what) rest world first from s all) in
      more_by world.core.events first.ended first (calls_from at answers (actor + 1) rest) refl
      (call_advances at answers actor what world m (first_up actor (Some what) rest world.core all refl) (live 0 (actor - 1) (omega arith) refl)) more.more on

  -- ---- a scheduling round
  pub round_stretch : (world : World) → Minds at world → Stretch at (turned world) (round at answers world)
  round_stretch world m = calls_stretch 1 (calls_in world) (turned world) (omega arith) (turned_minds at world m) (all_up world)

  pub round_to_stretch : (n : ℕ) (world : World) → Minds at world → Stretch at (turned world) (round_to n at answers world)
  round_to_stretch n world m = calls_stretch 1 (take n (calls_in world)) (turned world) (omega arith) (turned_minds at world m) (taken_up n 1 (calls_in world) world.core (all_up world))

  pub round_advances : (world : World) → Minds at world → anyone_ready world.core ≡ true → (round at answers world).ended ≡ None → world.core.events < (round at answers world).world.core.events
  round_advances world m ready on =
      let called = ready_calls at world m ready in
      calls_advance called.place 1 (calls_in world) (turned world) (omega arith) (turned_minds at world m) (all_up world) (all_live world) called.some on
