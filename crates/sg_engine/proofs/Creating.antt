-- An actor that begins takes a context and its slot.
use Rattle.std.proofs.Common.{◌≡◌, ◌≢◌, ◌≤◌, ◌<◌, ◌+◌, ◌-◌, ◌==◌, ◌∙◌, sym, ap, ap₂, subst, refl, ℕ, zero, suc, Bool, true, false, cond, List, [], ◌∷◌, ◌++◌, length, map, get_or, set, option_map, Option, None, Some, Result, Ok, Err, arith}
use Rattle.std.specs.Option.{option_map_or}
use Rattle.std.specs.Prelude.{IsTrue, nat_lt, slice_get, ◌&&◌, ◌||◌}
use Rattle.std.proofs.lemmas.Bool.Decides.{nat_tests}
use Rattle.std.proofs.lemmas.List.{append-nil, map-set, length-set, length-map}
use Rattle.sg_actor.specs.Seats.{SeatView}
use Rattle.sg_base.specs.declared.call.Call.{Call}
use Rattle.sg_base.specs.declared.call.Call.TheVariants as call
use Rattle.sg_base.specs.declared.ids.ActorId.{ActorId}
use Rattle.sg_base.specs.Mind.{Mind}
use Rattle.sg_edge.specs.Files.{PartView}
use Rattle.sg_edge.specs.declared.files.Stage.TheVariants.{Fresh}
use Rattle.sg_kernel_calls.specs.Calls.{answered}
use Rattle.sg_kernel_calls.specs.Known.{Known, after}
use Rattle.sg_kernel_calls.specs.Lives.{created}
use Rattle.sg_kernel_calls.specs.Steps.{Step}
use Rattle.sg_kernel_calls.specs.World.{Core, IsActor, MayCall, state_of}
use Rattle.sg_kernel_calls.specs.declared.stop.Stop.{Stop}
use Rattle.sg_platform_rows.specs.Deployment.{Deployed, extent_of}
use Rattle.sg_platform_rows.specs.declared.rows.ActorRow.{ActorRow}
use Rattle.sg_script.specs.Known.{ScriptNames as Names}
use Rattle.sg_script.specs.Rest.{GoesOn}
use Rattle.sg_script.specs.Stands.{Kept, IsWithinNeed}
use Rattle.sg_script.proofs.AllNeeds.{within_more}
use Rattle.sg_script.proofs.Chains.{reads_none}
use Rattle.sg_actor_states.specs.Actors.{is_alive, is_answered, is_ended, is_unstarted}
use Rattle.sg_actor_states.specs.declared.state.State.{State}
use Rattle.sg_actor_states.specs.declared.state.State.TheVariants.{Unstarted, Ready, Blocked, Ended}
use Rattle.sg_engine.specs.World.{World}
use Rattle.sg_engine.specs.declared.ended.Ended.TheVariants as ended
use Rattle.sg_engine.specs.Roles.{mind_at}
use Rattle.sg_engine.specs.kept.Listed.{firsts_from}
use Rattle.sg_engine.specs.Run.{Scene, Answering, Progress, ask_step, at_world, created_by, creates, if_given, in_world, is_ask, is_given, minds_if, one_call, other_call, unless_killed, ended_by}
use Rattle.sg_engine.specs.kept.Invariant.{unstarted, AreSeatsOf}
use Rattle.sg_engine.specs.kept.Moments.{Cast, moment, IsFree, IsStretch, LacksMemory, StandsFor, ending}
use Rattle.sg_engine.specs.kept.SeatRules.{mind_in, minds_of, IsSeated}
use Rattle.sg_engine.proofs.Fetches.{fetches_rise}
use Rattle.sg_engine.proofs.Calls.{stepped}
use Rattle.sg_engine.proofs.Leaving.{created_begun, created_same, some_unstarted}
use Rattle.sg_engine.proofs.Merging.{all_placed}
use Rattle.sg_engine.proofs.Reaching.{reached_as, reached_none}
use Rattle.sg_engine.proofs.Runs.{creates_keep}

-- ---- the slot
firsts_at : (me : ℕ) (rows : List ActorRow) (i : ℕ) (d : ActorRow) → i < length rows → slice_get (firsts_from me rows) i ≡ Some (mind_at (me + i) (get_or rows i d))
firsts_at me [] i d within = absurd (omega (arith, within))
firsts_at me (row ∷ rows) zero d within = let here : me ≡ me + 0 = omega arith in ap (λ n. Some (mind_at n row)) here
firsts_at me (row ∷ rows) (suc i) d within =
    let next : me + 1 + i ≡ me + suc i = omega arith in
    firsts_at (me + 1) rows i d (omega (arith, within)) ∙ ap (λ n. Some (mind_at n (get_or rows i d))) next

-- a slot that has another actor has its mind
pub minds_put : {S : Type 0} (see : S → SeatView) (seats : List S) (i : ℕ) (s : S) (m : Option Mind) → mind_in (see s) ≡ m → minds_of (map see (set seats i s)) ≡ set (minds_of (map see seats)) i m
minds_put see seats i s m is =
    ap minds_of (map-set see seats i s) ∙ map-set mind_in (map see seats) i (see s) ∙ ap (λ o. set (minds_of (map see seats)) i o) is

-- its first one, if it begins
pub begins_at : {S : Type 0} (see : S → SeatView) (deployed : Deployed) (seats : List S) (actor : ℕ) (s : S) (row : ActorRow) → 0 < actor → actor ≤ length deployed.actors → row ≡ get_or deployed.actors (actor - 1) row → mind_in (see s) ≡ Some (mind_at actor row) →
    minds_of (map see (set seats (actor - 1) s)) ≡ set (minds_of (map see seats)) (actor - 1) (slice_get (firsts_from 1 deployed.actors) (actor - 1))
begins_at see deployed seats actor s row from to is mind =
    let me : 1 + (actor - 1) ≡ actor = omega (arith, from) in
    minds_put see seats (actor - 1) s _ (mind ∙ ap₂ (λ (n : ℕ) (r : ActorRow). Some (mind_at n r)) (sym me) is ∙ sym (firsts_at 1 deployed.actors (actor - 1) row (omega (arith, from, to))))

pub seats_with : {S : Type 0} (see : S → SeatView) (deployed : Deployed) (seats : List S) (i : ℕ) (s : S) → AreSeatsOf deployed (map see seats) → IsSeated (extent_of deployed) (see s) → AreSeatsOf deployed (map see (set seats i s))
seats_with see deployed seats i s are is = record {
  number = length-map (set seats i s) see ∙ length-set seats i s ∙ sym (length-map seats see) ∙ are.number;
  seated = all_placed see (IsSeated (extent_of deployed)) seats i s is are.seated;
}

-- ---- the world
unstopped : (given : Bool) (actor : ℕ) (target : ActorId) (core : Core) → None ≡ (created given actor target core).stop
unstopped true actor target core = refl
unstopped false actor target core = refl

isnt_used : (events budget : ℕ) → events ≢ budget → (events == budget) ≡ false
isnt_used events budget isnt = grind (arith, nat_tests, isnt)

-- the `Cast` with an actor that begins, if it is given that
abbrev pub cast_if : Bool → List Mind → ℕ → Cast → Cast
cast_if given firsts actor cast = record { minds = minds_if given firsts actor cast.minds; contexts = cast.contexts - cond given 1 0 }

abbrev given_in : ActorId → Cast → Core → Bool
given_in target cast core = is_unstarted (state_of core target.0) && nat_lt 0 cast.contexts

-- a create whose events aren't used up
same_create : (names : Names) (taken : List ℕ) (cast : Cast) (part : PartView) (kept : Kept) (old : Known) (world : World) (firsts : List Mind) (actor : ℕ) (target : ActorId) (given : Bool) →
    StandsFor names taken cast (moment part kept old) world → old.core.events ≢ old.setup.budget → given ≡ given_in target cast old.core →
    creates firsts old.setup.budget actor target world ≡ in_world (if_given given firsts target.0 world) (created given actor target world.core)
same_create names taken cast part kept old world firsts actor target given stands unused is =
    let here : (world.core.events == old.setup.budget) ≡ false = ap (λ (c : Core). c.events == old.setup.budget) (sym stands.core) ∙ isnt_used old.core.events old.setup.budget unused in
    let mine : is_given target world ≡ given = sym (is ∙ ap₂ (given_in target) stands.cast stands.core) in
    let to : Bool → Progress = λ g. in_world (if_given g firsts target.0 world) (created g actor target world.core) in
    ap (λ (b : Bool). cond b (at_world (Some ended.Budget) world) (to (is_given target world))) here ∙ ap to mine

pub created_to : (names : Names) (taken : List ℕ) (cast cast' : Cast) (part : PartView) (kept : Kept) (old new : Known) (room : ℕ) (world : World) (firsts : List Mind) (actor : ℕ) (target : ActorId) (given : Bool) → part.stage ≢ Fresh →
    StandsFor names taken cast (moment part kept old) world → old.core.events ≢ old.setup.budget → given ≡ given_in target cast old.core → cast' ≡ cast_if given firsts target.0 cast → new ≡ record (after (created given actor target old.core) old) { room = room } →
    IsStretch world.work names (λ answers. creates firsts old.setup.budget actor target world) (ending None) taken cast' (moment part kept old) (moment part kept new)
created_to names taken cast cast' part kept old new room world firsts actor target given begun stands unused is led step =
    let next : World = if_given given firsts target.0 world in
    let there : StandsFor names taken cast' (moment part kept old) next = record { script = stands.script; core = stands.core; cast = led ∙ ap (cast_if given firsts target.0) stands.cast } in
    let call : Core → Step = λ c. created given actor target c in
    reached_as names (λ answers. in_world next (created given actor target world.core)) (λ answers. creates firsts old.setup.budget actor target world) (ending None) taken cast' (moment part kept old) (moment part kept new)
    (λ answers. same_create names taken cast part kept old world firsts actor target given stands unused is)
    (stepped names taken cast' part kept old new room next call None begun there step (ap (λ (o : Option Stop). option_map ended_by o) (unstopped given actor target old.core)))

-- memory runs out for its context
pub created_short : (names : Names) (taken : List ℕ) (cast : Cast) (left : ℕ) (part : PartView) (kept : Kept) (old : Known) (world : World) (firsts : List Mind) (actor : ℕ) (target : ActorId) (given : Bool) → part.stage ≢ Fresh →
    StandsFor names taken cast (moment part kept old) world → old.core.events ≢ old.setup.budget → given ≡ given_in target cast old.core → left ≡ cast.contexts - cond given 1 0 →
    LacksMemory names (λ answers. creates firsts old.setup.budget actor target world) taken left part part
created_short names taken cast left part kept old world firsts actor target given begun stands unused is left_is = record {
  piece = [];
  reads = reads_none part begun;
  last = λ all. refl;
  needed = λ source goes.
      let same : taken ++ [] ≡ taken = append-nil taken in
      let there : GoesOn taken part.stage source = subst (λ (t : List ℕ). GoesOn t part.stage source) same goes in
      subst (λ (t : List ℕ). IsWithinNeed names source (creates firsts old.setup.budget actor target world).world.fetched (length t)) (sym same)
      (within_more names source world.fetched _ _ (creates_keep fetches_rise firsts old.setup.budget actor target world) (stands.script.needed source there));
  contexts = λ source goes.
      omega (arith, ap (λ (p : Progress). p.world.contexts) (same_create names taken cast part kept old world firsts actor target given stands unused is), ap (λ (c : Cast). c.contexts - cond given 1 0) stands.cast, left_is);
}

-- the budget is used up
pub used_from : {X E : Type 0} (b : Bool) (why budget : E) (x : X) → ◌≡◌ {A = Result X E} (Err why) (cond b (Err budget) (Ok x)) → b ≡ true
used_from true why budget x e = refl
used_from false why budget x e = absurd (cc e)

pub created_used : (names : Names) (taken : List ℕ) (cast : Cast) (part : PartView) (kept : Kept) (old : Known) (world : World) (firsts : List Mind) (actor : ℕ) (target : ActorId) → part.stage ≢ Fresh → StandsFor names taken cast (moment part kept old) world → (old.core.events == old.setup.budget) ≡ true →
    IsStretch world.work names (λ answers. creates firsts old.setup.budget actor target world) (ending (Some ended.Budget)) taken cast (moment part kept old) (moment part kept old)
created_used names taken cast part kept old world firsts actor target begun stands used =
    let here : (world.core.events == old.setup.budget) ≡ true = ap (λ (c : Core). c.events == old.setup.budget) (sym stands.core) ∙ used in
    reached_as names (λ answers. at_world (Some ended.Budget) world) (λ answers. creates firsts old.setup.budget actor target world) (ending (Some ended.Budget)) taken cast (moment part kept old) (moment part kept old)
    (λ answers. ap (λ (b : Bool). cond b (at_world (Some ended.Budget) world) (in_world (if_given (is_given target world) firsts target.0 world) (created (is_given target world) actor target world.core))) here)
    (reached_none names (ending (Some ended.Budget)) taken cast (moment part kept old) world (reads_none part begun) stands)

-- ---- the context pool
both : (a b : Bool) → true ≡ (a && b) → (a ≡ true) × (b ≡ true)
both true b is = (refl, sym is)
both false b is = absurd (cc is)

some_left : (n : ℕ) → nat_lt 0 n ≡ true → 0 < n
some_left n is = grind (arith, nat_tests, is)

-- a context is taken by an actor that has begun since
pub crew_given : (given : Bool) (old new : Known) (before left : ℕ) (actor : ℕ) (target : ActorId) (room : ℕ) → 0 < actor → IsActor old.core target.0 → given ≡ (is_unstarted (state_of old.core target.0) && nat_lt 0 before) → left ≡ before - cond given 1 0 → new ≡ record (after (created given actor target old.core) old) { room = room } →
    before + unstarted new.core ≤ left + unstarted old.core
crew_given true old new before left actor target room from exists is less step =
    let may = both (is_unstarted (state_of old.core target.0)) (nat_lt 0 before) is in
    omega (arith, created_begun old new actor target room from exists may.0 step, some_left before may.1, less)
crew_given false old new before left actor target room from exists is less step = omega (arith, created_same old new actor target room from step, less)

-- or that could have begun
pub crew_lost : (given : Bool) (core : Core) (before left : ℕ) (target : ActorId) → IsActor core target.0 → given ≡ (is_unstarted (state_of core target.0) && nat_lt 0 before) → left ≡ before - cond given 1 0 → before + 0 ≤ left + unstarted core
crew_lost true core before left target exists is less = omega (arith, some_unstarted core target.0 exists (both (is_unstarted (state_of core target.0)) (nat_lt 0 before) is).0, less)
crew_lost false core before left target exists is less = omega (arith, less)

-- ---- the call of a scheduling round
pub free_ended : (state : State) → IsTrue (is_answered state || is_ended state) → is_alive state ≡ false → is_ended state ≡ true
free_ended Unstarted free dead = absurd (cc free)
free_ended (Ready answer) free dead = absurd (cc dead)
free_ended (Blocked what since on) free dead = absurd (cc free)
free_ended Ended free dead = refl

pub free_ready : (state : State) → IsTrue (is_answered state || is_ended state) → is_alive state ≡ true → IsTrue (is_answered state)
free_ready Unstarted free alive = absurd (cc free)
free_ready (Ready answer) free alive = refl
free_ready (Blocked what since on) free alive = absurd (cc free)
free_ready Ended free alive = absurd (cc alive)

ready_free : (state : State) → IsTrue (is_answered state) → IsTrue (is_answered state || is_ended state)
ready_free Unstarted ready = absurd (cc ready)
ready_free (Ready answer) ready = refl
ready_free (Blocked what since on) ready = absurd (cc ready)
ready_free Ended ready = absurd (cc ready)

not_ended : (state : State) → is_alive state ≡ true → is_ended state ≡ false
not_ended Unstarted alive = refl
not_ended (Ready answer) alive = refl
not_ended (Blocked what since on) alive = refl
not_ended Ended alive = absurd (cc alive)

pub as_killed : (at : Scene) (answers : Answering) (actor : ℕ) (what : Call) (world : World) → is_ended (state_of world.core actor) ≡ true → unless_killed at answers actor what world ≡ at_world None world
as_killed at answers actor what world over = ap (λ (b : Bool). cond b (at_world None world) (one_call at answers actor what world)) over

as_called : (at : Scene) (answers : Answering) (actor : ℕ) (what : Call) (core : Core) (world : World) → core ≡ world.core → is_alive (state_of core actor) ≡ true → unless_killed at answers actor what world ≡ one_call at answers actor what world
as_called at answers actor what core world same alive =
    ap (λ (b : Bool). cond b (at_world None world) (one_call at answers actor what world)) (ap (λ (c : Core). is_ended (state_of c actor)) (sym same) ∙ not_ended (state_of core actor) alive)

pub as_created : (at : Scene) (answers : Answering) (actor : ℕ) (what : Call) (target : ActorId) (core : Core) (world : World) → core ≡ world.core → is_alive (state_of core actor) ≡ true → what ≡ call.Create target →
    unless_killed at answers actor what world ≡ creates at.firsts at.setup.budget actor target world
as_created at answers actor what target core world same alive is = as_called at answers actor what core world same alive ∙ ap (λ (w : Call). one_call at answers actor w world) is

-- a fetch, if there is a script
pub as_asked : (at : Scene) (answers : Answering) (actor : ℕ) (what : Call) (core : Core) (world : World) → core ≡ world.core → is_alive (state_of core actor) ≡ true → at.script ≡ true → what ≡ call.Ask →
    unless_killed at answers actor what world ≡ ask_step at.setup answers actor world
as_asked at answers actor what core world same alive scripted is =
    as_called at answers actor what core world same alive
    ∙ ap (λ (w : Call). one_call at answers actor w world) is
    ∙ ap (λ (b : Bool). cond (b && true) (ask_step at.setup answers actor world) (in_world world (answered at.roads at.setup world.core actor call.Ask))) scripted

-- any other call
pub as_answered : (at : Scene) (answers : Answering) (actor : ℕ) (what : Call) (core : Core) (world : World) → core ≡ world.core → is_alive (state_of core actor) ≡ true → created_by what ≡ None → (at.script && is_ask what) ≡ false →
    unless_killed at answers actor what world ≡ in_world world (answered at.roads at.setup world.core actor what)
as_answered at answers actor what core world same alive none other =
    as_called at answers actor what core world same alive
    ∙ ap (λ (o : Option ActorId). option_map_or (λ t. creates at.firsts at.setup.budget actor t world) o (other_call at answers actor what world)) none
    ∙ ap (λ (b : Bool). cond b (ask_step at.setup answers actor world) (in_world world (answered at.roads at.setup world.core actor what))) other

pub free_may : (core : Core) (actor : ℕ) → MayCall core actor → IsFree core actor
free_may core actor may = record { is = record { from = may.from; to = may.to }; free = ready_free (state_of core actor) may.ready }
