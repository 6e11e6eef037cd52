-- What follows a call of a scheduling round.
use Rattle.std.proofs.Common.{◌≡◌, ◌<◌, ◌≤◌, ◌+◌, ◌∙◌, ℕ, zero, suc, Bool, true, false, not, ◌&&◌, cond, sym, ap, ap₂, subst, refl, List, [], ◌∷◌, length, get_or, take, take_all, Option, None, Some, is_some, arith}
use Rattle.std.specs.List.{list_any, list_all}
use Rattle.std.specs.Prelude.{IsSome}
use Rattle.std.proofs.lemmas.Bool.{and_left, and_right, cond-false, or_left, or_right}
use Rattle.sg_activity.specs.Underway.{work_of}
use Rattle.sg_base.specs.declared.call.Call.{Call}
use Rattle.sg_actor_states.specs.declared.state.Actor.{Actor}
use Rattle.sg_actor_states.specs.declared.state.State.{State}
use Rattle.sg_actor_states.specs.declared.state.State.TheVariants as state
use Rattle.sg_actor_states.specs.Actors.{is_alive, is_answered, is_ended, is_over, is_ready, not_suspended}
use Rattle.sg_kernel.specs.Passes.{pass_of}
use Rattle.sg_kernel_calls.specs.World.{Core, MayCall, state_of}
use Rattle.sg_engine.specs.World.{World}
use Rattle.sg_engine.specs.declared.ended.Ended.{Ended}
use Rattle.sg_engine.specs.declared.ended.Ended.TheVariants as ended
use Rattle.sg_engine.specs.Fuel.{parts_from}
use Rattle.sg_engine.specs.Run.{Scene, Answering, Progress, then_unless_ended, and_then_by, are_completed, at_world, calls_from, if_call, in_world, inboxes, mind_after, one_call, round, round_or_pass, run_from, zip_with}
use Rattle.sg_engine_laws.specs.awaits.Reached.{Reaches}
use Rattle.sg_engine_laws.specs.awaits.Runs.{calls_in, round_to}
use Rattle.sg_engine_laws.proofs.await_lemmas.RoundCalls.{Leads, call_leads, may_call}
use Rattle.sg_engine_laws.proofs.await_lemmas.Rounds.{AllStand, IsCaller, by_end, callers_stand, calls_come, parts_come, rest_stand, taken_stand, who_calls}

-- ---- one who calls is ready
pub ready_at : (actors : List Actor) (j : ℕ) → IsCaller (get_or actors j (not_suspended state.Ended)) → list_any is_ready actors ≡ true
ready_at [] j caller = absurd (cc caller.state)
ready_at (actor ∷ actors) zero caller = or_left (is_ready actor) (list_any is_ready actors) (ap₂ (λ (s : State) (b : Bool). is_answered s && not b) caller.state caller.awake)
ready_at (actor ∷ actors) (suc j) caller = or_right (is_ready actor) (list_any is_ready actors) (ready_at actors j caller)

going_at : (actors : List Actor) (j : ℕ) → IsCaller (get_or actors j (not_suspended state.Ended)) → list_all is_over actors ≡ false
going_at [] j caller = absurd (cc caller.state)
going_at (actor ∷ actors) zero caller = and_left (is_over actor) (list_all is_over actors) (ap (λ (s : State). not (is_alive s)) caller.state)
going_at (actor ∷ actors) (suc j) caller = and_right (is_over actor) (list_all is_over actors) (going_at actors j caller)

-- ---- stretches that don't end the run
on_by : (P : Core → Type 0) (how : Option Ended) (first : Progress) (f g : World → Progress) → (P (f first.world).world.core → P (g first.world).world.core) → P (and_then_by how first f).world.core → P (and_then_by how first g).world.core
on_by P None first f g on way = on way
on_by P (Some how) first f g on way = way

pub first_goes : (how : Option Ended) (first : Progress) (next : World → Progress) → first.ended ≡ how → (and_then_by how first next).ended ≡ None → how ≡ None
first_goes None first next is on = refl
first_goes (Some how) first next is on = absurd (cc (is, on))

last_by : (how : Option Ended) (first : Progress) → first.ended ≡ how → (and_then_by how first (at_world None)).ended ≡ None → ((and_then_by how first (at_world None)).world.core ≡ first.world.core) × (first.ended ≡ None)
last_by None first is on = (refl, is)
last_by (Some how) first is on = absurd (cc (is, on))

-- a call of this actor is answered between the one and the other
pub record IsAnswered (at : Scene) (answers : Answering) (actor : ℕ) (what : Call) (before after : Progress) : Type 0 where
  pub may : MayCall before.world.core actor
  pub core : after.world.core ≡ (one_call at answers actor what before.world).world.core
  pub goes_on : (one_call at answers actor what before.world).ended ≡ None

module _ (at : Scene) (answers : Answering) where
  called : (actor : ℕ) (what : Call) (world : World) → is_ended (state_of world.core actor) ≡ false → if_call at answers actor (Some what) world ≡ one_call at answers actor what world
  called actor what world lives = cond-false (is_ended (state_of world.core actor)) (at_world None world) (one_call at answers actor what world) lives

  then_call : (id : ℕ) (what : Call) (how : Option Ended) (first : Progress) (f g : World → Progress) → first.ended ≡ how → is_ended (state_of (and_then_by how first f).world.core id) ≡ false → (and_then_by how first g).ended ≡ None →
      (is_ended (state_of (f first.world).world.core id) ≡ false → (g first.world).ended ≡ None → IsAnswered at answers id what (f first.world) (g first.world)) → IsAnswered at answers id what (and_then_by how first f) (and_then_by how first g)
  then_call id what None first f g e lives on is = let r = is lives on in record { may = r.may; core = r.core; goes_on = r.goes_on }
  then_call id what (Some how) first f g e lives on is = absurd (cc (e, on))

  pub next_call : (n actor id : ℕ) (calls : List (Option Call)) (what : Call) (world : World) → 0 < actor → id ≡ actor + n → AllStand actor calls world.core → get_or calls n None ≡ Some what →
      is_ended (state_of (calls_from at answers actor (take n calls) world).world.core id) ≡ false → (calls_from at answers actor (take (suc n) calls) world).ended ≡ None →
      IsAnswered at answers id what (calls_from at answers actor (take n calls) world) (calls_from at answers actor (take (suc n) calls) world)
  unfolding calls_from
  next_call n actor id [] what world from is all here lives on = absurd (cc here)
  next_call zero actor id (found ∷ rest) what world from is all here lives on =
      let me : actor ≡ id = omega (arith, is) in
      let first = if_call at answers actor found world in
      let one : first ≡ one_call at answers id what world = ap₂ (λ (n : ℕ) (o : Option Call). if_call at answers n o world) me here ∙ called id what world lives in
      let led = last_by first.ended first refl on in
      record {
        may = may_call id world.core (omega (arith, from, me)) (all 0 id is (ap is_some here)) lives;
        core = led.0 ∙ ap (λ (p : Progress). p.world.core) one;
        goes_on = ap (λ (p : Progress). p.ended) (sym one) ∙ led.1;
      }
  next_call (suc n) actor id (found ∷ rest) what world from is all here lives on =
      let first = if_call at answers actor found world in
      let me : actor ≡ actor + 0 = omega arith in
      let next : id ≡ actor + 1 + n = omega (arith, is) in
      let leads : Leads at actor world.core first.world.core = call_leads at answers actor found world from (all 0 actor me) in
      then_call id what first.ended first (calls_from at answers (actor + 1) (take n rest)) (calls_from at answers (actor + 1) (take (suc n) rest)) refl lives on
      (λ still goes. next_call n (actor + 1) id rest what first.world (omega arith) next (rest_stand at actor found rest world.core first.world.core leads all) here still goes)

-- ---- from a call to the end of the run
-- the actors have taken their turns
abbrev pub turned : World → World
turned world = record world { minds = zip_with mind_after world.minds (inboxes world.core) }

module _ (at : Scene) (answers : Answering) (start : Core) where
  abbrev Comes : Core → Type 0
  Comes core = Reaches at.roads at.setup start core

  calls_on : (n m actor : ℕ) (calls : List (Option Call)) (world : World) → n ≤ m → 0 < actor → AllStand actor (take m calls) world.core → Comes (calls_from at answers actor (take n calls) world).world.core → Comes (calls_from at answers actor (take m calls) world).world.core
  unfolding calls_from
  calls_on zero m actor calls world below from all way = calls_come at answers start actor (take m calls) world from all way
  calls_on (suc n) zero actor calls world below from all way = absurd (omega (arith, below))
  calls_on (suc n) (suc m) actor [] world below from all way = way
  calls_on (suc n) (suc m) actor (what ∷ rest) world below from all way =
      let first = if_call at answers actor what world in
      let me : actor ≡ actor + 0 = omega arith in
      let leads : Leads at actor world.core first.world.core = call_leads at answers actor what world from (all 0 actor me) in
      on_by Comes first.ended first (calls_from at answers (actor + 1) (take n rest)) (calls_from at answers (actor + 1) (take m rest))
      (calls_on n m (actor + 1) rest first.world (omega (arith, below)) (omega arith) (rest_stand at actor what (take m rest) world.core first.world.core leads all)) way

  pub round_on : (n m : ℕ) (world : World) → n ≤ m → Comes (round_to n at answers world).world.core → Comes (round_to m at answers world).world.core
  round_on n m world below way =
      calls_on n m 1 (calls_in world) (turned world) below (omega arith) (taken_stand m 1 (calls_in world) world.core (callers_stand world)) way

  round_ends : (n : ℕ) (world : World) → Comes (round_to n at answers world).world.core → Comes (round at answers world).world.core
  round_ends n world way =
      let calls = calls_in world in
      let all : take (n + length calls) calls ≡ calls = take_all (n + length calls) calls (omega arith) in
      subst (λ (cs : List (Option Call)). Comes (calls_from at answers 1 cs (turned world)).world.core) all (round_on n (n + length calls) world (omega arith) way)

  -- after a scheduling round in which an actor calls
  pub parts_behind : (n j m : ℕ) (world : World) → IsSome (get_or (calls_in world) j None) → Comes (round_to n at answers world).world.core → Comes (parts_from (suc m) at answers world).world.core
  unfolding parts_from
  parts_behind n j m world some way =
      let caller = who_calls world.minds world.core.actors j some in
      let pass = in_world (record world { work = world.work + work_of world.core.under }) (pass_of at.setup world.core) in
      let first = round_or_pass at answers world in
      let is : first ≡ round at answers world = ap (λ (b : Bool). cond b (round at answers world) pass) (ready_at world.core.actors j caller) in
      let here : Comes first.world.core = subst (λ (p : Progress). Comes p.world.core) (sym is) (round_ends n world way) in
      let behind = by_end Comes first.ended first (parts_from m at answers) here (parts_come at answers start m first.world here) in
      subst (λ (b : Bool). Comes (cond b (at_world (Some ended.Completed) world) (then_unless_ended first (parts_from m at answers))).world.core) (sym (going_at world.core.actors j caller)) behind

-- ---- one part after another
over_by : (b : Bool) (world : World) (y z : Progress) (h : World → Progress) → (cond b (at_world (Some ended.Completed) world) z).ended ≡ None → (z.ended ≡ None → y.world ≡ (h z.world).world) →
    (cond b (at_world (Some ended.Completed) world) y).world ≡ (h (cond b (at_world (Some ended.Completed) world) z).world).world
over_by true world y z h on is = absurd (cc on)
over_by false world y z h on is = is on

then_by : (how : Option Ended) (first : Progress) (f g h : World → Progress) → first.ended ≡ how → (and_then_by how first g).ended ≡ None → ((g first.world).ended ≡ None → (f first.world).world ≡ (h (g first.world).world).world) →
    (and_then_by how first f).world ≡ (h (and_then_by how first g).world).world
then_by None first f g h e on is = is on
then_by (Some how) first f g h e on is = absurd (cc (e, on))

-- if so many parts don't end the run, it continues with the others
pub parts_add : (at : Scene) (answers : Answering) (n m k : ℕ) (world : World) → k ≡ n + m → (parts_from n at answers world).ended ≡ None →
    (parts_from k at answers world).world ≡ (parts_from m at answers (parts_from n at answers world).world).world
unfolding parts_from
parts_add at answers zero m k world is on = let e : k ≡ m = omega (arith, is) in ap (λ (j : ℕ). (parts_from j at answers world).world) e
parts_add at answers (suc n) m k world is on =
    let e : k ≡ suc (n + m) = omega (arith, is) in
    let first = round_or_pass at answers world in
    ap (λ (j : ℕ). (parts_from j at answers world).world) e
    ∙ over_by (are_completed world.core) world (then_unless_ended first (parts_from (n + m) at answers)) (then_unless_ended first (parts_from n at answers)) (parts_from m at answers) on
    (λ more. then_by first.ended first (parts_from (n + m) at answers) (parts_from n at answers) (parts_from m at answers) refl more (parts_add at answers n m (n + m) first.world refl))

-- and the whole run is as many parts as it may have
world_by : (b : Bool) (x y z : Progress) → y.world ≡ z.world → (cond b x y).world ≡ (cond b x z).world
world_by true x y z is = refl
world_by false x y z is = is

world_then : (how : Option Ended) (first : Progress) (f g : World → Progress) → (f first.world).world ≡ (g first.world).world → (and_then_by how first f).world ≡ (and_then_by how first g).world
world_then None first f g is = is
world_then (Some how) first f g is = refl

pub same_world : (at : Scene) (answers : Answering) (n : ℕ) (world : World) → (run_from n at answers world).world ≡ (parts_from n at answers world).world
unfolding run_from parts_from
same_world at answers zero world = refl
same_world at answers (suc n) world =
    let first = round_or_pass at answers world in
    world_by (are_completed world.core) (at_world (Some ended.Completed) world) (then_unless_ended first (run_from n at answers)) (then_unless_ended first (parts_from n at answers))
    (world_then first.ended first (run_from n at answers) (parts_from n at answers) (same_world at answers n first.world))
