-- Runs whose scripts answer alike.
use Rattle.std.proofs.Common.{◌≡◌, ◌∙◌, ap, sym, refl, subst, ℕ, zero, suc, ◌+◌, ◌++◌, Bool, true, false, cond, ◌&&◌, ◌==◌, List, [], ◌∷◌, Option, None, Some, option_map, Result, Ok, Err}
use Rattle.std.specs.Option.{option_map_or}
use Rattle.sg_base.specs.declared.call.Action.{Action}
use Rattle.sg_base.specs.declared.call.Call.{Call}
use Rattle.sg_base.specs.declared.ids.ActorId.{ActorId}
use Rattle.sg_engine.specs.Run.{Answering, Progress, Scene, then_unless_ended, and_then_by, answer_step, anyone_ready, are_completed, is_ask, ask_step, at_world, calls_from, created_by, creates, if_call, in_world, one_call, other_call, round, round_or_pass, run_from, unless_killed}
use Rattle.sg_engine.specs.World.{World}
use Rattle.sg_engine.specs.declared.ended.Ended.{Ended}
use Rattle.sg_engine.specs.declared.ended.Ended.TheVariants as ended
use Rattle.sg_activity.specs.Underway.{work_of}
use Rattle.sg_kernel_calls.specs.Calls.{answered}
use Rattle.sg_kernel.specs.Passes.{pass_of}
use Rattle.sg_kernel_calls.specs.Setup.{Setup}
use Rattle.sg_kernel_calls.specs.World.{state_of}
use Rattle.sg_actor_states.specs.Actors.{is_ended}
use Rattle.sg_script.specs.Fetched.{fetches_of, one_more}
use Rattle.sg_script.specs.declared.fault.ScriptFault.{ScriptFault}
use Rattle.sg_script.specs.declared.fault.ScriptFault.TheVariants as fault
use Rattle.sg_collective_laws.specs.Alike.{AnswerAlike, unnumbered_answer, unnumbered_end}
use Rattle.sg_collective_laws.specs.Laws.{AnswersMakeRuns}

-- two stretches lead to the same except for the number of a bad line
record Alike (p q : Progress) : Type 0 where
  pub world : p.world ≡ q.world
  pub made : p.made ≡ q.made
  pub ended : option_map unnumbered_end p.ended ≡ option_map unnumbered_end q.ended

same : (p : Progress) → Alike p p
same p = record { world = refl; made = refl; ended = refl }

from_first : (p q r : Progress) → Alike p q → Alike q r → Alike p r
from_first p q r one two = record { world = one.world ∙ two.world; made = one.made ∙ two.made; ended = one.ended ∙ two.ended }

turned : (p q : Progress) → Alike p q → Alike q p
turned p q is = record { world = sym is.world; made = sym is.made; ended = sym is.ended }

either : (b : Bool) (p q r s : Progress) → Alike p r → Alike q s → Alike (cond b p q) (cond b r s)
either true p q r s one two = one
either false p q r s one two = two

-- ---- one stretch after another
joined_by : (how other : Option Ended) (p q : Progress) (f g : World → Progress) → ((world : World) → Alike (f world) (g world)) → Alike p q →
    option_map unnumbered_end how ≡ option_map unnumbered_end other → Alike (and_then_by how p f) (and_then_by other q g)
joined_by None None p q f g each is e =
    let behind : Alike (f p.world) (g q.world) = subst (λ (w : World). Alike (f p.world) (g w)) is.world (each p.world) in
    record {
      world = behind.world;
      made = ap (λ front. front ++ (f p.world).made) is.made ∙ ap (λ back. q.made ++ back) behind.made;
      ended = behind.ended;
    }
joined_by None (Some there) p q f g each is e = absurd (cc e)
joined_by (Some here) None p q f g each is e = absurd (cc e)
joined_by (Some here) (Some there) p q f g each is e = is

joined : (p q : Progress) (f g : World → Progress) → ((world : World) → Alike (f world) (g world)) → Alike p q → Alike (then_unless_ended p f) (then_unless_ended q g)
joined p q f g each is = joined_by p.ended q.ended p q f g each is is.ended

-- ---- answers to fetches
without_number : (setup : Setup) (actor : ℕ) (answer : Result (Option Action) ScriptFault) (world : World) →
    Alike (answer_step setup actor answer world) (answer_step setup actor (unnumbered_answer answer) world)
without_number setup actor (Ok action) world = same _
without_number setup actor (Err (fault.Line number kind)) world = record { world = refl; made = refl; ended = refl }
without_number setup actor (Err fault.Read) world = same _
without_number setup actor (Err fault.Memory) world = same _

answered_alike : (setup : Setup) (actor : ℕ) (one other : Result (Option Action) ScriptFault) (world : World) → unnumbered_answer one ≡ unnumbered_answer other →
    Alike (answer_step setup actor one world) (answer_step setup actor other world)
answered_alike setup actor one other world e =
    from_first _ _ _ (without_number setup actor one world)
    (subst (λ (a : Result (Option Action) ScriptFault). Alike (answer_step setup actor a world) (answer_step setup actor other world)) (sym e)
    (turned _ _ (without_number setup actor other world)))

module _ (at : Scene) (one other : Answering) (alike : AnswerAlike one other) where
  asked : (actor : ℕ) (world : World) → Alike (ask_step at.setup one actor world) (ask_step at.setup other actor world)
  asked actor world =
      let next : World = record world { fetched = one_more actor world.fetched } in
      let said : Answering → Progress = λ answers. answer_step at.setup actor (answers actor (fetches_of world.fetched actor)) next in
      let over : Progress = at_world (Some ended.Budget) world in
      either (world.core.events == at.setup.budget) over (said one) over (said other) (same over)
      (answered_alike at.setup actor (one actor (fetches_of world.fetched actor)) (other actor (fetches_of world.fetched actor)) next (alike actor (fetches_of world.fetched actor)))

  answered_by : (actor : ℕ) (what : Call) (world : World) → Alike (other_call at one actor what world) (other_call at other actor what world)
  answered_by actor what world =
      let by_kernel : Progress = in_world world (answered at.roads at.setup world.core actor what) in
      either (at.script && is_ask what) (ask_step at.setup one actor world) by_kernel (ask_step at.setup other actor world) by_kernel
      (asked actor world) (same by_kernel)

  called_for : (found : Option ActorId) (actor : ℕ) (what : Call) (world : World) →
      Alike (option_map_or (λ target. creates at.firsts at.setup.budget actor target world) found (other_call at one actor what world))
      (option_map_or (λ target. creates at.firsts at.setup.budget actor target world) found (other_call at other actor what world))
  called_for None actor what world = answered_by actor what world
  called_for (Some target) actor what world = same (creates at.firsts at.setup.budget actor target world)

  called : (actor : ℕ) (what : Call) (world : World) → Alike (unless_killed at one actor what world) (unless_killed at other actor what world)
  called actor what world =
      either (is_ended (state_of world.core actor)) (at_world None world) (one_call at one actor what world) (at_world None world) (one_call at other actor what world)
      (same (at_world None world)) (called_for (created_by what) actor what world)

  if_called : (actor : ℕ) (what : Option Call) (world : World) → Alike (if_call at one actor what world) (if_call at other actor what world)
  if_called actor None world = same (at_world None world)
  if_called actor (Some what) world = called actor what world

  all_called : (calls : List (Option Call)) (actor : ℕ) (world : World) → Alike (calls_from at one actor calls world) (calls_from at other actor calls world)
  unfolding calls_from
  all_called [] actor world = same (at_world None world)
  all_called (what ∷ calls) actor world =
      joined (if_call at one actor what world) (if_call at other actor what world) (calls_from at one (actor + 1) calls) (calls_from at other (actor + 1) calls)
      (λ w. all_called calls (actor + 1) w) (if_called actor what world)

  part : (world : World) → Alike (round_or_pass at one world) (round_or_pass at other world)
  part world =
      let passed : Progress = in_world (record world { work = world.work + work_of world.core.under }) (pass_of at.setup world.core) in
      either (anyone_ready world.core) (round at one world) passed (round at other world) passed (all_called _ _ _) (same passed)

  parts : (n : ℕ) (world : World) → Alike (run_from n at one world) (run_from n at other world)
  unfolding run_from
  parts zero world = same (at_world (Some ended.Budget) world)
  parts (suc n) world =
      let over : Progress = at_world (Some ended.Completed) world in
      let first = round_or_pass at one world in
      let second = round_or_pass at other world in
      either (are_completed world.core) over (then_unless_ended first (run_from n at one)) over (then_unless_ended second (run_from n at other)) (same over)
      (joined first second (run_from n at one) (run_from n at other) (λ w. parts n w) (part world))

pub runs_alike : AnswersMakeRuns
runs_alike at first one other alike =
    let is = parts at one other alike (at.setup.budget + 1) first in
    λ i. record { world = is.world i; made = is.made i; ended = is.ended i }
