use Rattle.std.proofs.Common.{ap, arith, length, refl, rules, sym}
use Rattle.sg_edge.specs.declared.files.Part.TheVariants.{Script}
use Rattle.sg_engine.specs.kept.Invariant.{crew_in}
use Rattle.sg_engine.specs.kept.Moments.{script_in}
use Rattle.sg_engine.proofs.Endings.{ends_none, is_begun, run_left_none, takes_none}
use Rattle.sg_engine.proofs.Fronts.{fronts_none}
use Rattle.sg_engine.proofs.Paces.{none_paced}
use Rattle.sg_engine.proofs.Starting.{begins_with, first_taken_in_all, same_pace, same_run}
use Rattle.sg_engine.proofs.whole_run.run_plan.Goals as goal

pub run_from-how-requires : goal.run_from-how-requires
run_from-how-requires g c =
    let plan = c.args.engine.now.plan in
    let shows = g.F.Files.shows c.args.files.now in (
      search rules,
      begins_with _ plan shows c.args.router.now c.args.crew.now.items c.in-Ok.sim
          (c.in-Ok.ensures.first (script_in plan shows) (is_begun plan.script (shows Script) c.requires.begun)) c.in-Ok.ensures.crew c.requires.roads,
    )

pub returns-in-Ok-clause-output : goal.returns-in-Ok-clause-output
returns-in-Ok-clause-output g c = λ source gives.
    same_run c.args.engine.now.plan source c.run_from-how.result _ _ (crew_in c.args.engine.now.plan c.in-Ok.sim) (length c.args.crew.now.items) (length c.run_from-how.new.sim.crew.items) (length c.swap.new.x.items) _ _ _ _
    (sym c.in-Ok.ensures.crew.number) (ap (λ (v : _). length v.items) c.swap.ensures.x_after) (c.run_from-how.ensures.output source gives)

pub returns-in-Ok-clause-crew : goal.returns-in-Ok-clause-crew
returns-in-Ok-clause-crew g c =
    let plan = c.args.engine.now.plan in
    let shows = g.F.Files.shows c.args.files.now in
    rw c.swap.ensures.x_after (first_taken_in_all _ plan.platform.now plan.deployment.now plan.terms.budget c.run_from-how.result (script_in plan shows) c.args.crew.now.items c.in-Ok.sim c.run_from-how.new.sim
    (c.in-Ok.ensures.first (script_in plan shows) (is_begun plan.script (shows Script) c.requires.begun)) c.in-Ok.ensures.crew c.run_from-how.ensures.crew)

pub returns-in-Err-clause-output : goal.returns-in-Err-clause-output
returns-in-Err-clause-output g c = λ source gives. record {
  ends = fronts_none _ _ _ _ refl refl;
  contexts = run_left_none c.args.engine.now.plan.platform.now c.args.engine.now.plan.deployment.now c.args.engine.now.plan.script c.args.engine.now.plan.terms.budget (length c.args.crew.now.items) (length c.start.new.crew.items) c.args.engine.now.plan.terms.show source c.requires.crew.enough c.in-Err.ensures.left.most;
  work = omega arith;
  needed = takes_none _ _ _ refl;
  last = ends_none _ _ _ refl;
}

pub returns-in-Ok-clause-pace : goal.returns-in-Ok-clause-pace
returns-in-Ok-clause-pace g c = λ source gives.
    same_pace c.args.engine.now.plan source _ _ (crew_in c.args.engine.now.plan c.in-Ok.sim) (length c.args.crew.now.items) _ _ (sym c.in-Ok.ensures.crew.number) (c.run_from-how.ensures.pace source gives)

pub returns-in-Err-clause-pace : goal.returns-in-Err-clause-pace
returns-in-Err-clause-pace g c = λ source gives.
    none_paced c.args.engine.now.plan.platform.now c.args.engine.now.plan.deployment.now c.args.engine.now.plan.script c.args.engine.now.plan.terms.budget (length c.args.crew.now.items) c.args.engine.now.plan.terms.show _ _ _ _ source refl refl
