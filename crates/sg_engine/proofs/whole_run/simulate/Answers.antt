use Rattle.std.proofs.Common.{◌≡◌, ◌≤◌, ◌∙◌, ◌+◌, ◌-◌, suc, sym, ap, ap₂, refl, arith, rules, false, Some, Ok, Err, subst}
use Rattle.sg_edge.specs.declared.files.Part.TheVariants.{Script}
use Rattle.sg_edge.specs.declared.sinks.Stream.TheVariants.{Out}
use Rattle.sg_kernel_calls.specs.Roads.{AreOver}
use Rattle.sg_kernel_calls.specs.Setup.{Setup}
use Rattle.sg_route.specs.Roads.{Roads}
use Rattle.sg_script.specs.Known.{known_in}
use Rattle.sg_script.specs.Stands.{kept_of}
use Rattle.sg_engine.specs.declared.ended.Ended.{Ended}
use Rattle.sg_engine.specs.declared.ended.Ended.TheVariants as ended
use Rattle.sg_engine.specs.RunContract.{is_cut}
use Rattle.sg_engine.specs.kept.Moments.{script_part}
use Rattle.sg_engine.specs.kept.Invariant.{at_moment, crew_in}
use Rattle.sg_engine.specs.Fuel.{parts_from}
use Rattle.sg_engine.specs.Output.{first_of, trace_of, scene_of}
use Rattle.sg_engine.specs.Roles.{firsts_of}
use Rattle.sg_engine.specs.Run.{scene, run_of, run_from, next_work}
use Rattle.sg_engine.proofs.Crews.{crew_all, crew_same, crew_then}
use Rattle.sg_engine.proofs.Files.{script_then, script_unread}
use Rattle.sg_engine.proofs.Simulating.{rest_of, far_first, far_on, far_ends, completed, part_as, trace_appends, trace_none, used_up, work_more}
use Rattle.sg_engine.proofs.Paces.{paced_ends, paced_here, part_next, part_rises, parts_none}
use Rattle.sg_engine.proofs.Uncut.{ok_not}
use Rattle.sg_engine.proofs.whole_run.simulate.Goals as goal

pub loop-turn-init : goal.loop-turn-init
loop-turn-init g c =
    let platform = c.args.engine.now.plan.platform.now in
    let deployed = c.args.engine.now.plan.deployment.now in
    let origin = first_of platform deployed c.args.engine.now.plan.terms.budget (crew_in c.args.engine.now.plan c.args.sim.now) in
    let at = scene_of platform deployed c.args.engine.now.plan.script c.args.engine.now.plan.terms.budget in
    let first = c.requires.first in
    let none : c.args.engine.now.plan.terms.budget + 1 - 0 ≡ c.args.engine.now.plan.terms.budget + 1 = omega arith in
    record {
      far = far_first c.args.steps.now (known_in deployed) (trace_of c.args.engine.now.plan.terms.show platform deployed) (run_of at origin) (rest_of (c.args.engine.now.plan.terms.budget + 1 - 0) at) (λ answers. parts_from 0 at answers origin) _ (script_part c.args.engine.now.plan.script (g.F.Files.shows c.args.files.now Script)) (kept_of c.args.sim.now.script) c.args.sim.now.kernel (g.O.Sinks.contents c.args.out.now.sink.now Out)
          origin first.kept.fits.begun first.stands
          (λ answers. sym (ap (λ n. run_from n at answers origin) none))
          (λ answers. parts_none 0 at answers origin refl)
          refl (trace_none c.args.engine.now.plan.terms.show platform deployed);
      kept = first.kept;
      crew = crew_same c.args.sim.now c.args.sim.now refl (omega arith);
      router = refl;
      same = first.setup;
      sink = refl;
      err = refl;
      sound = refl;
      script = script_unread g.F.Files.shows c.args.engine.now.plan.script c.args.files.now;
    }

pub advance-requires : goal.advance-requires
advance-requires g c = (
  search rules,
  record {
    kept = c.loop-turn.invariant.kept;
    roads = subst (λ (roads : Roads). AreOver c.loop-turn.sim.kernel.setup.links roads) (sym c.loop-turn.invariant.router)
        (subst (λ (s : Setup). AreOver s.links c.args.router.now) (sym c.loop-turn.invariant.same) c.requires.roads.over);
    going = sym c.ending.ensures.is ∙ c.if-ending.false;
  },
)

pub returns-then-ending-clause-run : goal.returns-then-ending-clause-run
returns-then-ending-clause-run g c =
    let platform = c.args.engine.now.plan.platform.now in
    let deployed = c.args.engine.now.plan.deployment.now in
    let far = c.loop-turn.invariant.far in
    let n = c.args.engine.now.plan.terms.budget + 1 - c.loop-turn._turn in
    let m = c.args.engine.now.plan.terms.budget + 1 - (c.loop-turn._turn + 1) in
    let more : n ≡ suc m = omega (arith, c.loop-turn-test.true) in
    record {
      run = completed c.args.steps.now c.loop-turn.steps (known_in deployed) (trace_of c.args.engine.now.plan.terms.show platform deployed) _ n m _ _ _ _ _ _ _ _ c.loop-turn.sim.kernel.core _ _ far.reached more refl (sym c.ending.ensures.is ∙ c.if-ending.true) far.printed far.worked;
      pace = paced_here _ _ _ _ c.loop-turn._turn _ _ _ _ _ _ _ _ _ _ _ far;
      err = c.loop-turn.invariant.err;
    }

pub returns-in-Err-clause-run : goal.returns-in-Err-clause-run
returns-in-Err-clause-run g c =
    let platform = c.args.engine.now.plan.platform.now in
    let deployed = c.args.engine.now.plan.deployment.now in
    let origin = first_of platform deployed c.args.engine.now.plan.terms.budget (crew_in c.args.engine.now.plan c.args.sim.now) in
    let at = scene_of platform deployed c.args.engine.now.plan.script c.args.engine.now.plan.terms.budget in
    let names = known_in deployed in
    let trace = trace_of c.args.engine.now.plan.terms.show platform deployed in
    let inv = c.loop-turn.invariant in
    let far = inv.far in
    let n = c.args.engine.now.plan.terms.budget + 1 - c.loop-turn._turn in
    let m = c.args.engine.now.plan.terms.budget + 1 - (c.loop-turn._turn + 1) in
    let more : n ≡ suc m = omega (arith, c.loop-turn-test.true) in
    let how = c.in-Err.how in
    let old = at_moment (script_part c.args.engine.now.plan.script (g.F.Files.shows c.loop-turn.files Script)) c.loop-turn.sim in
    let new = at_moment (script_part c.args.engine.now.plan.script (g.F.Files.shows c.advance.new.files Script)) c.advance.new.sim in
    let before = g.O.Sinks.contents c.loop-turn.out.sink.now Out in
    let after = g.O.Sinks.contents c.advance.new.out.sink.now Out in
    let leads = rw inv.router at c.in-Err.ensures.part in
    let part = leads.1 far.reached.piece far.reached.world (record { script = far.reached.stands.script; core = far.reached.stands.core; cast = far.reached.stands.cast }) in
    let next = far.reached.world.work + next_work far.reached.world.core in
    let same : scene c.args.router.now c.loop-turn.sim.kernel.setup (firsts_of deployed) c.args.engine.now.plan.script ≡ at = ap₂ (λ (r : Roads) (t : Setup). scene r t (firsts_of deployed) c.args.engine.now.plan.script) c.requires.roads.are inv.same in
    let part' = part_as next names trace _ at (Err how) far.reached.piece _ far.reached.world old new before after same part in
    let worked : c.advance.new.steps ≤ c.args.steps.now + next =
    work_more c.args.steps.now c.loop-turn.steps c.advance.new.steps far.spent far.reached.world.work (next_work c.loop-turn.sim.kernel.core) (next_work far.reached.world.core) far.worked far.reached.work
    (ap next_work far.reached.stands.core) c.in-Err.ensures.steps in
    record {
      run = far_ends c.args.steps.now c.loop-turn.steps c.advance.new.steps names trace (trace_appends c.args.engine.now.plan.terms.show platform deployed) (run_of at origin) how (is_cut how) n m at _ _ _
          _ _ _ _ _ _ c.args.sim.now.kernel c.loop-turn.sim.kernel c.advance.new.sim.kernel (g.O.Sinks.contents c.args.out.now.sink.now Out) before after far more (sym c.ending.ensures.is ∙ c.if-ending.false) c.requires.first.kept.cleared inv.kept.cleared part' worked;
      pace = paced_ends next (is_cut how) names trace (run_of at origin) _ c.loop-turn._turn at origin (Some how) _ _ _ _ _ _ _ _ c.args.sim.now.kernel c.loop-turn.sim.kernel c.advance.new.sim.kernel (g.O.Sinks.contents c.args.out.now.sink.now Out) before after far (sym c.ending.ensures.is ∙ c.if-ending.false) part';
      err = c.in-Err.ensures.part.0 ∙ inv.err;
    }

pub loop-turn-preserved : goal.loop-turn-preserved
loop-turn-preserved g c =
    let platform = c.args.engine.now.plan.platform.now in
    let deployed = c.args.engine.now.plan.deployment.now in
    let origin = first_of platform deployed c.args.engine.now.plan.terms.budget (crew_in c.args.engine.now.plan c.args.sim.now) in
    let at = scene_of platform deployed c.args.engine.now.plan.script c.args.engine.now.plan.terms.budget in
    let names = known_in deployed in
    let trace = trace_of c.args.engine.now.plan.terms.show platform deployed in
    let inv = c.loop-turn.invariant in
    let far = inv.far in
    let n = c.args.engine.now.plan.terms.budget + 1 - c.loop-turn._turn in
    let m = c.args.engine.now.plan.terms.budget + 1 - (c.loop-turn._turn + 1) in
    let more : n ≡ suc m = omega (arith, c.loop-turn-test.true) in
    let old = at_moment (script_part c.args.engine.now.plan.script (g.F.Files.shows c.loop-turn.files Script)) c.loop-turn.sim in
    let new = at_moment (script_part c.args.engine.now.plan.script (g.F.Files.shows c.advance.new.files Script)) c.advance.new.sim in
    let before = g.O.Sinks.contents c.loop-turn.out.sink.now Out in
    let after = g.O.Sinks.contents c.advance.new.out.sink.now Out in
    let leads = rw inv.router at c.in-Ok.ensures.part in
    let part = leads.1 far.reached.piece far.reached.world (record { script = far.reached.stands.script; core = far.reached.stands.core; cast = far.reached.stands.cast }) in
    let next = far.reached.world.work + next_work far.reached.world.core in
    let same : scene c.args.router.now c.loop-turn.sim.kernel.setup (firsts_of deployed) c.args.engine.now.plan.script ≡ at = ap₂ (λ (r : Roads) (t : Setup). scene r t (firsts_of deployed) c.args.engine.now.plan.script) c.requires.roads.are inv.same in
    let part' = part_as next names trace _ at (Ok tt) far.reached.piece _ far.reached.world old new before after same part in
    let worked : c.advance.new.steps ≤ c.args.steps.now + next =
    work_more c.args.steps.now c.loop-turn.steps c.advance.new.steps far.spent far.reached.world.work (next_work c.loop-turn.sim.kernel.core) (next_work far.reached.world.core) far.worked far.reached.work
    (ap next_work far.reached.stands.core) c.in-Ok.ensures.steps in
    record {
      far = far_on c.args.steps.now c.loop-turn.steps c.advance.new.steps names trace (trace_appends c.args.engine.now.plan.terms.show platform deployed) (run_of at origin) n m at (λ answers. parts_from c.loop-turn._turn at answers origin) (λ answers. parts_from (c.loop-turn._turn + 1) at answers origin) _ _
          _ _ _ _ _ _ c.args.sim.now.kernel c.loop-turn.sim.kernel c.advance.new.sim.kernel (g.O.Sinks.contents c.args.out.now.sink.now Out) before after far more (sym c.ending.ensures.is ∙ c.if-ending.false) c.requires.first.kept.cleared inv.kept.cleared part' worked
          (λ some answers here. part_next c.loop-turn._turn (c.loop-turn._turn + 1) at answers origin far.reached.world far.reached.made (omega arith) some here)
          (λ answers. part_rises c.loop-turn._turn (c.loop-turn._turn + 1) at answers origin (omega arith));
      kept = c.in-Ok.ensures.kept.kept;
      crew = crew_then false c.args.sim.now c.loop-turn.sim c.advance.new.sim inv.crew c.in-Ok.ensures.kept.crew;
      router = c.in-Ok.ensures.script.roads ∙ inv.router;
      same = c.in-Ok.ensures.kept.setup ∙ inv.same;
      sink = c.in-Ok.ensures.cause.same ∙ inv.sink;
      err = c.in-Ok.ensures.part.0 ∙ inv.err;
      sound = c.in-Ok.ensures.cause.sound (ok_not ended.WriteFault tt) ∙ inv.sound;
      script = script_then _ _ _ _ _ inv.script c.in-Ok.ensures.script.reads;
    }

pub returns-clause-run : goal.returns-clause-run
returns-clause-run g c =
    let platform = c.args.engine.now.plan.platform.now in
    let deployed = c.args.engine.now.plan.deployment.now in
    let far = c.loop-turn.invariant.far in
    let n = c.args.engine.now.plan.terms.budget + 1 - c.loop-turn._turn in
    let none : n ≡ 0 = omega (arith, c.loop-turn-test.false) in
    record {
      run = used_up c.args.steps.now c.loop-turn.steps (known_in deployed) (trace_of c.args.engine.now.plan.terms.show platform deployed) _ n _ _ _ _ _ _ _ _ c.loop-turn.sim.kernel.core _ _ far.reached none refl far.printed far.worked;
      pace = paced_here _ _ _ _ c.loop-turn._turn _ _ _ _ _ _ _ _ _ _ _ far;
      err = c.loop-turn.invariant.err;
    }

pub returns-then-ending-clause-cause : goal.returns-then-ending-clause-cause
returns-then-ending-clause-cause g c = record { same = c.loop-turn.invariant.sink; write = λ is. cc is; sound = λ isnt. c.loop-turn.invariant.sound; read = λ is. cc is }

pub returns-in-Err-clause-cause : goal.returns-in-Err-clause-cause
returns-in-Err-clause-cause g c =
    let cause = c.in-Err.ensures.cause in
    record {
      same = cause.same ∙ c.loop-turn.invariant.sink;
      write = λ is. cause.write (ap (λ (h : Ended). Err h) is);
      sound = λ isnt. cause.sound (λ is. isnt (cc is)) ∙ c.loop-turn.invariant.sound;
      read = λ is. cause.read (ap (λ (h : Ended). Err h) is);
    }

pub returns-in-Err-clause-script : goal.returns-in-Err-clause-script
returns-in-Err-clause-script g c =
    let script = c.in-Err.ensures.script in
    record { reads = script_then _ _ _ _ _ c.loop-turn.invariant.script script.reads; roads = script.roads ∙ c.loop-turn.invariant.router }

pub returns-clause-cause : goal.returns-clause-cause
returns-clause-cause g c = record { same = c.loop-turn.invariant.sink; write = λ is. cc is; sound = λ isnt. c.loop-turn.invariant.sound; read = λ is. cc is }

pub returns-in-Err-clause-kept : goal.returns-in-Err-clause-kept
returns-in-Err-clause-kept g c = c.in-Err.ensures.kept.kept

pub returns-then-ending-clause-crew : goal.returns-then-ending-clause-crew
returns-then-ending-clause-crew g c = crew_all false c.args.sim.now c.loop-turn.sim (c.loop-turn.invariant.same ∙ sym c.requires.first.setup) c.loop-turn.invariant.crew

pub returns-in-Err-clause-crew : goal.returns-in-Err-clause-crew
returns-in-Err-clause-crew g c =
    crew_all (is_cut c.in-Err.how) c.args.sim.now c.advance.new.sim (c.in-Err.ensures.kept.setup ∙ c.loop-turn.invariant.same ∙ sym c.requires.first.setup) (crew_then (is_cut c.in-Err.how) c.args.sim.now c.loop-turn.sim c.advance.new.sim c.loop-turn.invariant.crew c.in-Err.ensures.kept.crew)

pub returns-clause-crew : goal.returns-clause-crew
returns-clause-crew g c = crew_all false c.args.sim.now c.loop-turn.sim (c.loop-turn.invariant.same ∙ sym c.requires.first.setup) c.loop-turn.invariant.crew
