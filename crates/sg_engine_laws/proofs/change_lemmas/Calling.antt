-- The call of an actor in a scheduling round of a run, as a step of the kernel.
use Rattle.std.proofs.Common.{◌≡◌, ◌≢◌, ◌&&◌, ◌+◌, ◌∙◌, ℕ, zero, suc, Bool, false, cond, sym, ap, ap₂, subst, refl, List, [], ◌∷◌, ◌++◌, append-nil, append_assoc, get_or, take, Option, None, Some, arith}
use Rattle.std.specs.Option.{option_map_or}
use Rattle.std.proofs.lemmas.Bool.{and_right, cond-false}
use Rattle.sg_base.specs.declared.call.Call.{Call}
use Rattle.sg_base.specs.declared.ids.ActorId.{ActorId}
use Rattle.sg_base.specs.declared.trace_record.Record.{Record}
use Rattle.sg_route.specs.Roads.{Roads, roads_of}
use Rattle.sg_actor_states.specs.Actors.{is_ended}
use Rattle.sg_kernel_calls.specs.declared.stop.Stop.TheVariants.{Budget}
use Rattle.sg_kernel_calls.specs.Calls.{answered, answered_call}
use Rattle.sg_kernel_calls.specs.Steps.{stops}
use Rattle.sg_kernel_calls.specs.World.{Core, MayCall, state_of}
use Rattle.sg_kernel_calls.proofs.Each.{eq_yes}
use Rattle.sg_kernel_calls.specs.Setup.{Setup}
use Rattle.sg_engine.specs.World.{World}
use Rattle.sg_engine.specs.declared.ended.Ended.{Ended}
use Rattle.sg_engine.specs.Run.{Scene, Answering, Progress, and_then_by, ask_step, at_world, calls_from, created_by, creates, if_call, in_world, is_ask, one_call, other_call, then_unless_ended, with_front}
use Rattle.sg_engine_laws.specs.awaits.Runs.{Run, calls_in, parts_in, round_to, run_to, scene_in}
use Rattle.sg_engine_laws.proofs.await_lemmas.Killed.{without_stop}
use Rattle.sg_engine_laws.proofs.await_lemmas.Later.{first_goes, next_call, turned}
use Rattle.sg_engine_laws.proofs.await_lemmas.Rounds.{callers_stand}
use Rattle.sg_engine_laws.specs.changes.Failing.{CallsAt}
use Rattle.sg_engine_laws.specs.changes.Told.{setup_in}
use Rattle.sg_engine_laws.proofs.change_lemmas.Extended.{front_then}

pub then_nothing : (first : Progress) → then_unless_ended first (at_world None) ≡ first
then_nothing first = by first.ended refl
  where
    by : (how : Option Ended) → first.ended ≡ how → and_then_by how first (at_world None) ≡ first
    by None e = ap (λ (l : List Record). record { world = first.world; made = l; ended = None }) (append-nil first.made) ∙ ap (λ (o : Option Ended). record { world = first.world; made = first.made; ended = o }) (sym e)
    by (Some how) e = refl

-- ---- one call more
-- neither a create nor a fetch
pub record IsPlain (what : Call) : Type 0 where
  pub creates : created_by what ≡ None
  pub asks : is_ask what ≡ false

module _ (at : Scene) (answers : Answering) where
  one_more : (n actor : ℕ) (calls : List (Option Call)) (what : Call) (world : World) → get_or calls n None ≡ Some what → is_ended (state_of (calls_from at answers actor (take n calls) world).world.core (actor + n)) ≡ false →
      calls_from at answers actor (take (suc n) calls) world ≡ then_unless_ended (calls_from at answers actor (take n calls) world) (one_call at answers (actor + n) what)
  unfolding calls_from
  one_more n actor [] what world here lives = absurd (cc here)
  one_more zero actor (found ∷ rest) what world here lives =
      let me : actor ≡ actor + 0 = omega arith in
      let first = if_call at answers actor found world in
      let one : first ≡ one_call at answers (actor + 0) what world =
      ap₂ (λ (k : ℕ) (o : Option Call). if_call at answers k o world) me here
      ∙ cond-false (is_ended (state_of world.core (actor + 0))) (at_world None world) (one_call at answers (actor + 0) what world) lives in
      then_nothing first ∙ one
  one_more (suc n) actor (found ∷ rest) what world here lives = by first.ended refl lives (one_more n (actor + 1) rest what first.world here)
    where
      first : Progress
      first = if_call at answers actor found world

      part : Progress
      part = calls_from at answers (actor + 1) (take n rest) first.world

      by : (how : Option Ended) → first.ended ≡ how → is_ended (state_of (and_then_by how first (calls_from at answers (actor + 1) (take n rest))).world.core (actor + suc n)) ≡ false →
          (is_ended (state_of part.world.core (actor + 1 + n)) ≡ false → calls_from at answers (actor + 1) (take (suc n) rest) first.world ≡ then_unless_ended part (one_call at answers (actor + 1 + n) what)) →
          and_then_by how first (calls_from at answers (actor + 1) (take (suc n) rest)) ≡ then_unless_ended (and_then_by how first (calls_from at answers (actor + 1) (take n rest))) (one_call at answers (actor + suc n) what)
      by None e lives more =
          (let me : actor + 1 + n ≡ actor + suc n = omega arith in
          ap (with_front first.made) (more (ap (λ (k : ℕ). is_ended (state_of part.world.core k)) me ∙ lives))
          ∙ sym (front_then first.made part (one_call at answers (actor + 1 + n) what))
          ∙ ap (λ (k : ℕ). then_unless_ended (with_front first.made part) (one_call at answers k what)) me)
      by (Some how) e lives more = sym (ap (λ (o : Option Ended). and_then_by o first (one_call at answers (actor + suc n) what)) e)

  plain_call : (actor : ℕ) (what : Call) (world : World) → IsPlain what → one_call at answers actor what world ≡ in_world world (answered at.roads at.setup world.core actor what)
  plain_call actor what world plain =
      let step = in_world world (answered at.roads at.setup world.core actor what) in
      let asking = ask_step at.setup answers actor world in
      ap (λ (o : Option ActorId). option_map_or (λ target. creates at.firsts at.setup.budget actor target world) o (other_call at answers actor what world)) plain.creates
      ∙ ap (λ (b : Bool). cond (at.script && b) asking step) plain.asks
      ∙ cond-false (at.script && false) asking step (and_right at.script false refl)

-- ---- in a run
-- the kernel answers the call between the one and the other
pub record IsCalled (roads : Roads) (setup : Setup) (actor : ℕ) (what : Call) (before after : Progress) : Type 0 where
  pub may : MayCall before.world.core actor
  pub stop : (answered roads setup before.world.core actor what).stop ≡ None
  pub core : after.world.core ≡ (answered roads setup before.world.core actor what).core
  pub made : after.made ≡ before.made ++ (answered roads setup before.world.core actor what).made

-- so the budget isn't used up
pub is_left : (roads : Roads) (setup : Setup) (core : Core) (actor : ℕ) (what : Call) → (answered roads setup core actor what).stop ≡ None → core.events ≢ setup.budget
is_left roads setup core actor what on used =
    cc (sym on ∙ ap (λ (b : Bool). (cond b (stops core [] Budget) (answered_call roads setup core actor what)).stop) (eq_yes core.events setup.budget used))

pub called_in : (run : Run) (parts actors : ℕ) (what : Call) → IsPlain what → CallsAt run parts actors what → IsCalled (roads_of run.platform) (setup_in run) (actors + 1) what (run_to parts actors run) (run_to parts (actors + 1) run)
called_in run parts actors what plain c =
    let at = scene_in run in
    let first = parts_in parts run in
    let world = first.world in
    let part = round_to actors at run.answers world in
    let all = round_to (suc actors) at run.answers world in
    let one : World → Progress = one_call at run.answers (1 + actors) what in
    let step = answered at.roads at.setup part.world.core (actors + 1) what in
    let goes = first_goes first.ended first (round_to (actors + 1) at run.answers) refl c.goes_on in
    let here : run_to parts actors run ≡ with_front first.made part = ap (λ (o : Option Ended). and_then_by o first (round_to actors at run.answers)) goes in
    let next : actors + 1 ≡ suc actors = omega arith in
    let there : run_to parts (actors + 1) run ≡ with_front first.made all =
    ap (λ (o : Option Ended). and_then_by o first (round_to (actors + 1) at run.answers)) goes ∙ ap (λ (n : ℕ). with_front first.made (round_to n at run.answers world)) next in
    let me : actors + 1 ≡ 1 + actors = omega arith in
    let lives : is_ended (state_of part.world.core (actors + 1)) ≡ false = ap (λ (p : Progress). is_ended (state_of p.world.core (actors + 1))) (sym here) ∙ c.caller in
    let on : all.ended ≡ None = ap (λ (p : Progress). p.ended) (sym there) ∙ c.goes_on in
    let may = (next_call at run.answers actors 1 (actors + 1) (calls_in world) what (turned world) (omega arith) me (callers_stand world) c.calls lives on).may in
    let more : all ≡ then_unless_ended part one = one_more at run.answers actors 1 (calls_in world) what (turned world) c.calls (ap (λ (k : ℕ). is_ended (state_of part.world.core k)) (sym me) ∙ lives) in
    let still = first_goes part.ended part one refl (ap (λ (p : Progress). p.ended) (sym more) ∙ on) in
    let done : all ≡ with_front part.made (in_world part.world step) =
    more ∙ ap (λ (o : Option Ended). and_then_by o part one) still
    ∙ ap (λ (k : ℕ). with_front part.made (one_call at run.answers k what part.world)) (sym me)
    ∙ ap (with_front part.made) (plain_call at run.answers (actors + 1) what part.world plain) in
    subst (λ (p : Progress). IsCalled at.roads at.setup (actors + 1) what p (run_to parts (actors + 1) run)) (sym here)
    (subst (λ (p : Progress). IsCalled at.roads at.setup (actors + 1) what (with_front first.made part) p) (sym there)
    (record {
      may = may;
      stop = without_stop step.stop (ap (λ (p : Progress). p.ended) (sym done) ∙ on);
      core = ap (λ (p : Progress). p.world.core) done;
      made = ap (λ (p : Progress). first.made ++ p.made) done ∙ sym (append_assoc first.made part.made step.made);
    }))
