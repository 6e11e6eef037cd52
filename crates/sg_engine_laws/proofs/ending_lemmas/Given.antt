-- Which creates are given.
use Rattle.std.proofs.Common.{◌≡◌, ℕ, zero, suc, ◌+◌, ◌-◌, ◌==◌, ◌&&◌, ◌||◌, not, nat_lt, Bool, true, false, cond, Option, None, Some, List, [], ◌∷◌, ◌++◌, append_assoc, append-nil, count_by, map, get_or, take, refl, sym, ap, ap₂, subst, ◌∙◌, arith}
use Rattle.std.specs.List.{list_any}
use Rattle.std.proofs.lemmas.Bool.{cond-false}
use Rattle.sg_base.specs.declared.call.Call.{Call}
use Rattle.sg_base.specs.declared.call.Call.TheVariants as call
use Rattle.sg_base.specs.declared.ids.ActorId.{ActorId}
use Rattle.sg_base.specs.declared.trace_record.Record.{Record}
use Rattle.sg_platform_rows.specs.Deployment.{started_number, starts}
use Rattle.sg_actor_states.specs.Actors.{is_ended}
use Rattle.sg_actor_states.specs.Records.{record_of}
use Rattle.sg_kernel_calls.specs.Lives.{created}
use Rattle.sg_kernel_calls.specs.World.{Core, state_of}
use Rattle.sg_engine.specs.World.{World}
use Rattle.sg_engine.specs.declared.ended.Ended.{Ended}
use Rattle.sg_engine.specs.declared.ended.Ended.TheVariants as ended
use Rattle.sg_engine.specs.Run.{Scene, Answering, Progress, and_then_by, at_world, calls_from, if_call, if_given, in_world, is_given, one_call}
use Rattle.sg_kernel_laws.specs.actors.Creates.{answer_of_create}
use Rattle.sg_engine_laws.specs.awaits.Runs.{Run, calls_in, first_in, parts_in, round_to, run_to, scene_in, whole}
use Rattle.sg_engine_laws.specs.endings.Creating.{ContextsAreTaken, CreatesAreGiven, CreatesAt, IsTold, TellsWhoBegan, creates_at, is_create, may_begin}
use Rattle.sg_engine_laws.proofs.ending_lemmas.Parts.{Follows, first_begun, run_to_follows, whole_follows}
use Rattle.sg_engine_laws.proofs.ending_lemmas.Rounds.{turned}

-- ---- the next call of a scheduling round
-- a call of this actor is answered between the one and the other
record IsNext (at : Scene) (answers : Answering) (actor : ℕ) (what : Call) (before after : Progress) : Type 0 where
  told : after.made ≡ before.made ++ (one_call at answers actor what before.world).made
  goes_on : (one_call at answers actor what before.world).ended ≡ None

module _ (at : Scene) (answers : Answering) where
  called : (actor : ℕ) (what : Call) (world : World) → is_ended (state_of world.core actor) ≡ false → if_call at answers actor (Some what) world ≡ one_call at answers actor what world
  called actor what world lives = cond-false (is_ended (state_of world.core actor)) (at_world None world) (one_call at answers actor what world) lives

  last_by : (how : Option Ended) (first : Progress) → first.ended ≡ how → (and_then_by how first (at_world None)).ended ≡ None → ((and_then_by how first (at_world None)).made ≡ first.made) × (first.ended ≡ None)
  last_by None first is on = (append-nil first.made, is)
  last_by (Some how) first is on = absurd (cc (sym is ∙ on))

  then_call : (id : ℕ) (what : Call) (how : Option Ended) (first : Progress) (f g : World → Progress) → first.ended ≡ how → is_ended (state_of (and_then_by how first f).world.core id) ≡ false → (and_then_by how first g).ended ≡ None →
      (is_ended (state_of (f first.world).world.core id) ≡ false → (g first.world).ended ≡ None → IsNext at answers id what (f first.world) (g first.world)) → IsNext at answers id what (and_then_by how first f) (and_then_by how first g)
  then_call id what None first f g e lives on is =
      let r = is lives on in
      record {
        told = ap (λ (l : List Record). first.made ++ l) r.told ∙ sym (append_assoc first.made (f first.world).made (one_call at answers id what (f first.world).world).made);
        goes_on = r.goes_on;
      }
  then_call id what (Some how) first f g e lives on is = absurd (cc (sym e ∙ on))

  next_call : (n actor id : ℕ) (calls : List (Option Call)) (what : Call) (world : World) → id ≡ actor + n → get_or calls n None ≡ Some what →
      is_ended (state_of (calls_from at answers actor (take n calls) world).world.core id) ≡ false → (calls_from at answers actor (take (suc n) calls) world).ended ≡ None →
      IsNext at answers id what (calls_from at answers actor (take n calls) world) (calls_from at answers actor (take (suc n) calls) world)
  unfolding calls_from
  next_call n actor id [] what world is here lives on = absurd (cc here)
  next_call zero actor id (found ∷ rest) what world is here lives on =
      let me : actor ≡ id = omega (arith, is) in
      let first = if_call at answers actor found world in
      let one : first ≡ one_call at answers id what world = ap₂ (λ (n : ℕ) (o : Option Call). if_call at answers n o world) me here ∙ called id what world lives in
      let led = last_by first.ended first refl on in
      record {
        told = led.0 ∙ ap (λ (p : Progress). p.made) one;
        goes_on = ap (λ (p : Progress). p.ended) (sym one) ∙ led.1;
      }
  next_call (suc n) actor id (found ∷ rest) what world is here lives on =
      let first = if_call at answers actor found world in
      let next : id ≡ actor + 1 + n = omega (arith, is) in
      then_call id what first.ended first (calls_from at answers (actor + 1) (take n rest)) (calls_from at answers (actor + 1) (take (suc n) rest)) refl lives on
      (λ still goes. next_call n (actor + 1) id rest what first.world next here still goes)

-- in a run
next_in : (run : Run) (parts actors : ℕ) (target : ActorId) → CreatesAt run parts actors target → IsNext (scene_in run) run.answers (actors + 1) (call.Create target) (run_to parts actors run) (run_to parts (actors + 1) run)
next_in run parts actors target c = by (parts_in parts run).ended refl c.caller on
  where
    one : suc actors ≡ actors + 1
    one = omega arith

    first : Progress
    first = parts_in parts run

    on : (run_to parts (actors + 1) run).ended ≡ None
    on = c.goes_on

    round_next : is_ended (state_of (round_to actors (scene_in run) run.answers first.world).world.core (actors + 1)) ≡ false → (round_to (actors + 1) (scene_in run) run.answers first.world).ended ≡ None →
        IsNext (scene_in run) run.answers (actors + 1) (call.Create target) (round_to actors (scene_in run) run.answers first.world) (round_to (actors + 1) (scene_in run) run.answers first.world)
    round_next lives goes =
        let id : actors + 1 ≡ 1 + actors = omega arith in
        let goes' : (round_to (suc actors) (scene_in run) run.answers first.world).ended ≡ None = ap (λ (n : ℕ). (round_to n (scene_in run) run.answers first.world).ended) one ∙ goes in
        subst (λ (n : ℕ). IsNext (scene_in run) run.answers (actors + 1) (call.Create target) (round_to actors (scene_in run) run.answers first.world) (round_to n (scene_in run) run.answers first.world)) one
        (next_call (scene_in run) run.answers actors 1 (actors + 1) (calls_in first.world) (call.Create target) (turned first.world) id c.calls lives goes')

    by : (how : Option Ended) → first.ended ≡ how → is_ended (state_of (and_then_by how first (round_to actors (scene_in run) run.answers)).world.core (actors + 1)) ≡ false → (and_then_by how first (round_to (actors + 1) (scene_in run) run.answers)).ended ≡ None →
        IsNext (scene_in run) run.answers (actors + 1) (call.Create target) (and_then_by how first (round_to actors (scene_in run) run.answers)) (and_then_by how first (round_to (actors + 1) (scene_in run) run.answers))
    by how e lives goes = then_call (scene_in run) run.answers (actors + 1) (call.Create target) how first (round_to actors (scene_in run) run.answers) (round_to (actors + 1) (scene_in run) run.answers) e lives goes round_next

-- ---- what remains of the context pool, and who has begun
not_or : (a b : Bool) → (not a && not b) ≡ not (a || b)
not_or true b = refl
not_or false b = refl

taken_so : (run : Run) (p : Progress) → Follows (scene_in run) (first_in run) p → TellsWhoBegan run p
taken_so run p f = record {
  left = λ enough. omega (arith, f.traced.contexts, enough);
  begun = λ target.
      f.traced.begun (target.0 - 1)
      ∙ ap (λ (b : Bool). b && not (list_any (creates_at (target.0 - 1)) p.made)) (first_begun (map starts run.deployed.actors) (target.0 - 1))
      ∙ not_or (get_or (map starts run.deployed.actors) (target.0 - 1) true) (list_any (creates_at (target.0 - 1)) p.made);
}

pub contexts_are_taken : ContextsAreTaken
contexts_are_taken = record {
  within = λ run parts actors. taken_so run (run_to parts actors run) (run_to_follows run parts actors);
  whole = λ run. taken_so run (whole run) (whole_follows run);
}

-- ---- the law
left_so : (contexts taken crew started : ℕ) → contexts + taken ≡ crew - started → nat_lt 0 contexts ≡ nat_lt (started + taken) crew
left_so contexts taken crew started e = grind (arith, e)

given_so : (run : Run) (p : Progress) (target : ActorId) → Follows (scene_in run) (first_in run) p → is_given target p.world ≡ may_begin run p.made target
given_so run p target f =
    ap₂ (λ (a b : Bool). a && b) ((taken_so run p f).begun target) (left_so p.world.contexts (count_by is_create p.made) run.crew (started_number run.deployed) f.traced.contexts)

told_so : (given : Bool) (actor : ℕ) (target : ActorId) (core : Core) → (created given actor target core).made ≡ record_of actor (call.Create target) core.under.date 0 (answer_of_create given) core.under.date ∷ []
told_so true actor target core = refl
told_so false actor target core = refl

pub creates_are_given : CreatesAreGiven
creates_are_given run parts actors target c = by (before.world.core.events == run.budget) refl next.goes_on next.told
  where
    before : Progress
    before = run_to parts actors run

    next : IsNext (scene_in run) run.answers (actors + 1) (call.Create target) before (run_to parts (actors + 1) run)
    next = next_in run parts actors target c

    answered : Progress
    answered = in_world (if_given (is_given target before.world) (scene_in run).firsts target.0 before.world) (created (is_given target before.world) (actors + 1) target before.world.core)

    by : (b : Bool) → (before.world.core.events == run.budget) ≡ b → (cond b (at_world (Some ended.Budget) before.world) answered).ended ≡ None → (run_to parts (actors + 1) run).made ≡ before.made ++ (cond b (at_world (Some ended.Budget) before.world) answered).made →
        IsTold (may_begin run before.made target) (actors + 1) target before (run_to parts (actors + 1) run)
    by true e on told = absurd (cc on)
    by false e on told =
        told
        ∙ ap (λ (l : List Record). before.made ++ l) (told_so (is_given target before.world) (actors + 1) target before.world.core)
        ∙ ap (λ (b : Bool). before.made ++ record_of (actors + 1) (call.Create target) before.world.core.under.date 0 (answer_of_create b) before.world.core.under.date ∷ []) (given_so run before target (run_to_follows run parts actors))
