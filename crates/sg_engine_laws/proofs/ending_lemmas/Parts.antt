-- Runs: who has begun and what their records say, part by part.
use Rattle.std.proofs.Common.{◌≡◌, ℕ, zero, suc, ◌+◌, ◌<◌, ◌&&◌, not, Bool, true, false, true≢false, cond, Option, None, Some, is_some, List, [], ◌∷◌, length, map, get_or, refl, sym, ap, ◌∙◌, arith}
use Rattle.std.specs.Prelude.{IsSome}
use Rattle.std.specs.List.{list_any}
use Rattle.std.proofs.lemmas.List.{length-map}
use Rattle.sg_base.specs.declared.trace_record.Record.{Record}
use Rattle.sg_activity.specs.Underway.{work_of}
use Rattle.sg_platform_rows.specs.Deployment.{starts}
use Rattle.sg_platform_rows.specs.declared.rows.ActorRow.{ActorRow}
use Rattle.sg_actor_states.specs.Actors.{first_actor, is_unstarted}
use Rattle.sg_kernel.specs.Passes.{pass_of}
use Rattle.sg_kernel_calls.specs.World.{Core}
use Rattle.sg_engine.specs.World.{World}
use Rattle.sg_engine.specs.declared.ended.Ended.{Ended}
use Rattle.sg_engine.specs.declared.ended.Ended.TheVariants as ended
use Rattle.sg_engine.specs.Fuel.{parts_from}
use Rattle.sg_engine.specs.Roles.{mind_at}
use Rattle.sg_engine.specs.kept.Listed.{firsts_from, minds_from}
use Rattle.sg_engine.specs.Run.{Scene, Answering, Progress, then_unless_ended, and_then_by, anyone_ready, are_completed, at_world, in_world, round, round_or_pass, run_from}
use Rattle.sg_engine_laws.specs.awaits.Runs.{Run, first_in, parts_in, run_to, scene_in, whole}
use Rattle.sg_engine_laws.specs.awaits.Runs as runs
use Rattle.sg_engine_laws.specs.endings.Creating.{creates_at}
use Rattle.sg_engine_laws.proofs.ending_lemmas.Called.{creating, pass_keeps, place_state}
use Rattle.sg_engine_laws.proofs.ending_lemmas.Rounds.{round_stretch, round_to_stretch, turned}
use Rattle.sg_engine_laws.proofs.ending_lemmas.Stretches.{Minds, Traced, minds_kept, minds_waits, traced_both, traced_none}

-- ---- what each part leaves
-- minds, and what records say
pub record Follows (at : Scene) (before : World) (p : Progress) : Type 0 where
  pub minds : Minds at p.world
  pub traced : Traced before p.world p.made

follows_here : (at : Scene) (world : World) (how : Option Ended) → Minds at world → Follows at world (at_world how world)
follows_here at world how m = record { minds = m; traced = traced_none world world [] refl (λ i. refl) (λ i d within. absurd (omega (arith, within))) }

pub follows_then : (at : Scene) (before : World) (how : Option Ended) (first : Progress) (next : World → Progress) → Follows at before first → Follows at first.world (next first.world) → Follows at before (and_then_by how first next)
follows_then at before None first next f g = record { minds = g.minds; traced = traced_both before first.world (next first.world).world first.made (next first.world).made f.traced g.traced }
follows_then at before (Some how) first next f g = record { minds = f.minds; traced = f.traced }

follows_by : (at : Scene) (before : World) (b : Bool) (x y : Progress) → Follows at before x → Follows at before y → Follows at before (cond b x y)
follows_by at before true x y f g = f
follows_by at before false x y f g = g

-- from a world whose actors have taken their turns
same_traced : (a b after : World) (made : List Record) → b.contexts ≡ a.contexts → b.core ≡ a.core → Traced b after made → Traced a after made
same_traced a b after made contexts core t = record {
  contexts = t.contexts ∙ contexts;
  begun = λ i. t.begun i ∙ ap (λ (c : Core). is_unstarted (place_state c.actors i) && not (list_any (creates_at i) made)) core;
}

module _ (at : Scene) (answers : Answering) where
  pub part_follows : (world : World) → Minds at world → Follows at world (round_or_pass at answers world)
  part_follows world m =
      let s = round_stretch at answers world m in
      let k = pass_keeps at.setup world.core (minds_waits at world m) in
      let pass = in_world (record world { work = world.work + work_of world.core.under }) (pass_of at.setup world.core) in
      follows_by at world (anyone_ready world.core) (round at answers world) pass
      (record { minds = s.minds; traced = same_traced world (turned world) (round at answers world).world (round at answers world).made refl refl s.traced })
      (record { minds = minds_kept at world (pass_of at.setup world.core).core.actors m k.holds; traced = traced_none world pass.world pass.made refl k.holds.begun k.made })

  pub parts_follow : (n : ℕ) (world : World) → Minds at world → Follows at world (parts_from n at answers world)
  unfolding parts_from
  parts_follow zero world m = follows_here at world None m
  parts_follow (suc n) world m =
      let first = round_or_pass at answers world in
      let f = part_follows world m in
      follows_by at world (are_completed world.core) (at_world (Some ended.Completed) world) (then_unless_ended first (parts_from n at answers)) (follows_here at world (Some ended.Completed) m)
      (follows_then at world first.ended first (parts_from n at answers) f (parts_follow n first.world f.minds))

  pub run_follows : (n : ℕ) (world : World) → Minds at world → Follows at world (run_from n at answers world)
  unfolding run_from
  run_follows zero world m = follows_here at world (Some ended.Budget) m
  run_follows (suc n) world m =
      let first = round_or_pass at answers world in
      let f = part_follows world m in
      follows_by at world (are_completed world.core) (at_world (Some ended.Completed) world) (then_unless_ended first (run_from n at answers)) (follows_here at world (Some ended.Completed) m)
      (follows_then at world first.ended first (run_from n at answers) f (run_follows n first.world f.minds))

  pub round_to_follows : (n : ℕ) (world : World) → Minds at world → Follows at world (runs.round_to n at answers world)
  round_to_follows n world m =
      let s = round_to_stretch at answers n world m in
      record { minds = s.minds; traced = same_traced world (turned world) (runs.round_to n at answers world).world (runs.round_to n at answers world).made refl refl s.traced }

-- ---- at first
-- an actor that starts has a mind
first_long : (me : ℕ) (rows : List ActorRow) → (length (minds_from me rows) ≡ length rows) × (length (firsts_from me rows) ≡ length rows)
first_long me [] = (refl, refl)
first_long me (row ∷ rows) = (let r = first_long (me + 1) rows in (ap suc r.0, ap suc r.1))

first_some : (me : ℕ) (rows : List ActorRow) (i : ℕ) → i < length rows → is_unstarted (place_state (map first_actor (map starts rows)) i) ≡ false → IsSome (get_or (minds_from me rows) i None)
first_some me [] i within up = absurd (omega (arith, within))
first_some me (row ∷ rows) zero within up = by row.start up
  where
    by : (b : Bool) → is_unstarted (first_actor b).state ≡ false → is_some (cond b (Some (mind_at me row)) None) ≡ true
    by true e = refl
    by false e = absurd (true≢false e)
first_some me (row ∷ rows) (suc i) within up = first_some (me + 1) rows i (omega (arith, within)) up

none_creates : (starts : List Bool) (i : ℕ) → creating (place_state (map first_actor starts) i) ≡ None
none_creates [] i = refl
none_creates (true ∷ starts) zero = refl
none_creates (false ∷ starts) zero = refl
none_creates (b ∷ starts) (suc i) = none_creates starts i

pub first_minded : (run : Run) → Minds (scene_in run) (first_in run)
first_minded run =
    let rows = run.deployed.actors in
    let long = first_long 1 rows in
    record {
      actors_long = length-map (map starts rows) first_actor ∙ length-map rows starts ∙ sym long.1;
      minds_long = long.0 ∙ sym long.1;
      minded = λ i within up. first_some 1 rows i (omega (arith, within, long.1)) up;
      waits = λ i. none_creates (map starts rows) i;
    }

pub first_begun : (starts : List Bool) (i : ℕ) → is_unstarted (place_state (map first_actor starts) i) ≡ not (get_or starts i true)
first_begun [] i = refl
first_begun (true ∷ starts) zero = refl
first_begun (false ∷ starts) zero = refl
first_begun (b ∷ starts) (suc i) = first_begun starts i

-- ---- a run
pub whole_follows : (run : Run) → Follows (scene_in run) (first_in run) (whole run)
whole_follows run = run_follows (scene_in run) run.answers (run.budget + 1) (first_in run) (first_minded run)

pub parts_in_follow : (run : Run) (parts : ℕ) → Follows (scene_in run) (first_in run) (parts_in parts run)
parts_in_follow run parts = parts_follow (scene_in run) run.answers parts (first_in run) (first_minded run)

pub run_to_follows : (run : Run) (parts actors : ℕ) → Follows (scene_in run) (first_in run) (run_to parts actors run)
run_to_follows run parts actors =
    let f = parts_in_follow run parts in
    follows_then (scene_in run) (first_in run) (parts_in parts run).ended (parts_in parts run) (runs.round_to actors (scene_in run) run.answers) f
    (round_to_follows (scene_in run) run.answers actors (parts_in parts run).world f.minds)
