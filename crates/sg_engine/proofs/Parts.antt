-- Scheduling rounds, by the turns that they take and the calls that they answer.
use Rattle.std.proofs.Common.{◌≡◌, ◌≤◌, ◌∙◌, sym, ap, ap₂, subst, ℕ, ◌<◌, List, length, map, Option, Result, arith}
use Rattle.std.specs.Prelude.{All, AllPairs}
use Rattle.std.proofs.lemmas.List.{length-map}
use Rattle.sg_actor.specs.Seats.{SeatView}
use Rattle.sg_base.specs.Limits.{Extent, IsCall}
use Rattle.sg_base.specs.Mind.{Mind}
use Rattle.sg_edge.specs.Files.{PartView}
use Rattle.sg_kernel_calls.specs.Known.{Known}
use Rattle.sg_platform_rows.specs.Deployment.{Deployed, extent_of}
use Rattle.sg_engine.specs.declared.simulation.Simulation.{Simulation}
use Rattle.sg_engine.specs.kept.Invariant.{places_in, HasRoom, IsKept}
use Rattle.sg_kernel_calls.specs.Setup.{Setup}
use Rattle.sg_kernel_calls.specs.World.{Core, MayCall, extent}
use Rattle.sg_engine.specs.World.{World}
use Rattle.sg_script.specs.Known.{ScriptNames as Names}
use Rattle.sg_engine.specs.declared.actor_call.ActorCall.{ActorCall}
use Rattle.sg_engine.specs.declared.ended.Ended.{Ended}
use Rattle.sg_engine.specs.kept.CallList.{call_list, calls_of}
use Rattle.sg_engine.specs.kept.Moments.{Cast, cast_of, LeadsOn, Moment, StandsFor}
use Rattle.sg_engine.specs.Run.{Scene, Answering, zip_with, mind_after, call_after, inboxes, round, calls_from}
use Rattle.sg_engine.specs.kept.SeatRules.{mind_in, minds_of, IsSeated}
use Rattle.sg_engine.proofs.Listing.{calls_listed, listed_may, listed_rises, listed_short, row_short}
use Rattle.sg_engine.proofs.Reaching.{matched_as}

-- ---- the calls of a scheduling round
pub calls_may : (minds : List (Option Mind)) (core : Core) (extent : Extent) (calls : List ActorCall) → calls ≡ call_list 1 (zip_with call_after minds (inboxes core)) → All (λ (made : ActorCall). IsCall extent made.call) calls → All (λ (made : ActorCall). MayCall core made.actor.0 × IsCall extent made.call) calls
calls_may minds core extent calls are limited =
    let may = subst (All (λ (made : ActorCall). MayCall core made.actor.0)) (sym are) (listed_may minds core) in
    λ k d within. (may k d within, limited k d within)

pub calls_rise : (minds : List (Option Mind)) (core : Core) (calls : List ActorCall) → calls ≡ call_list 1 (zip_with call_after minds (inboxes core)) → AllPairs (λ (a b : ActorCall). a.actor.0 < b.actor.0) calls
calls_rise minds core calls are = subst (AllPairs (λ (a b : ActorCall). a.actor.0 < b.actor.0)) (sym are) (listed_rises 1 (zip_with call_after minds (inboxes core)))

pub calls_few : {S : Type 0} (see : S → SeatView) (seats : List S) (core : Core) (calls : List ActorCall) (n : ℕ) → calls ≡ call_list 1 (zip_with call_after (minds_of (map see seats)) (inboxes core)) → length seats ≤ n → length calls ≤ n
calls_few see seats core calls n are few =
    let places = map see seats in
    omega (arith, ap length are, listed_short 1 (zip_with call_after (minds_of places) (inboxes core)), row_short (minds_of places) (inboxes core), length-map places mind_in, length-map seats see, few)

-- after a reserve there is room for a scheduling round
pub room_for : {A : Type 0} {mind : A → Option Mind} {deployed : Deployed} {part : PartView} {sim : Simulation A} (mid : Known) → IsKept mind deployed part sim → mid ≡ record sim.kernel { room = mid.room } → length sim.seats.items ≤ mid.room → HasRoom mind (record sim { kernel = mid })
room_for {A} {mind} {deployed} {part} {sim} mid kept same room =
    let actors : length mid.core.actors ≡ length deployed.actors = ap (λ (k : Known). length k.core.actors) same ∙ kept.fits.actors in
    let limits : extent mid.setup ≡ extent_of deployed = ap (λ (k : Known). extent k.setup) same ∙ kept.fits.extent in
    record {
      manned = record {
        number = kept.number ∙ sym actors;
        seated = subst (λ (e : Extent). All (IsSeated e) (places_in mind sim)) (sym limits) kept.seated;
        blank = kept.blank;
      };
      calls = omega (arith, kept.number, kept.calls);
      room = room;
    }

-- ---- the whole of a scheduling round
pub round_as : (result : Result (Unit {0}) Ended) (names : Names) (at : Scene) (taken : List ℕ) (had mid new : Cast) (calls : List ActorCall) (world : World) (old then : Moment) → StandsFor names taken had old world →
    mid.minds ≡ zip_with mind_after had.minds (inboxes old.kernel.core) → mid.contexts ≡ had.contexts → calls ≡ call_list 1 (zip_with call_after had.minds (inboxes old.kernel.core)) →
    ((next : World) → StandsFor names taken mid old next → LeadsOn next.work names (λ answers. calls_of at answers calls next) result taken new old then) →
    LeadsOn world.work names (λ answers. round at answers world) result taken new old then
round_as result names at taken had mid new calls world old then stands turned left made step =
    let next : World = record world { minds = zip_with mind_after world.minds (inboxes world.core) } in
    let turn : Cast → Core → Cast = λ c core. record { minds = zip_with mind_after c.minds (inboxes core); contexts = c.contexts } in
    let cast : mid ≡ cast_of next = ap₂ (λ (m : List (Option Mind)) (n : ℕ). record { minds = m; contexts = n }) turned left ∙ ap₂ turn stands.cast stands.core in
    let are : calls ≡ call_list 1 (zip_with call_after world.minds (inboxes world.core)) = made ∙ ap₂ (λ (c : Cast) (core : Core). call_list 1 (zip_with call_after c.minds (inboxes core))) stands.cast stands.core in
    let whole : (answers : Answering) → calls_from at answers 1 (zip_with call_after world.minds (inboxes world.core)) next ≡ calls_of at answers calls next =
    λ answers. sym (ap (λ (l : List ActorCall). calls_of at answers l next) are ∙ calls_listed at answers 1 (zip_with call_after world.minds (inboxes world.core)) next) in
    matched_as world.work result names (λ answers. calls_of at answers calls next) (λ answers. calls_from at answers 1 (zip_with call_after world.minds (inboxes world.core)) next) taken new old then whole (step next (record { script = stands.script; core = stands.core; cast = cast }))

-- the same slots, if the setup is the same
pub seated_as : (old new : Setup) (places : List SeatView) → new ≡ old → All (IsSeated (extent old)) places → All (IsSeated (extent new)) places
seated_as old new places same seated = subst (λ (s : Setup). All (IsSeated (extent s)) places) (sym same) seated
