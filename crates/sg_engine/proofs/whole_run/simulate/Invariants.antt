use Rattle.std.proofs.Common.{◌≡◌, ◌+◌, ◌-◌, false}
use Rattle.sg_edge.specs.declared.files.Part.TheVariants.{Script}
use Rattle.sg_edge.specs.declared.sinks.Stream.TheVariants.{Out, Err}
use Rattle.sg_script.specs.Known.{known_in}
use Rattle.sg_script.specs.Stands.{kept_of}
use Rattle.sg_engine.specs.kept.Invariant.{cast_in, crew_in, IsKept, TakesCrew}
use Rattle.sg_engine.specs.Fuel.{parts_from}
use Rattle.sg_engine.specs.Output.{first_of, trace_of, scene_of}
use Rattle.sg_engine.specs.kept.Moments.{script_part, ReadsScript}
use Rattle.sg_engine.specs.Run.{run_of}
use Rattle.sg_engine.proofs.Simulating.{rest_of, SoFar}
use Rattle.sg_engine.proofs.whole_run.simulate.Given as goal

abbrev pub invariant-loop-turn : goal.invariant-loop-turn
invariant-loop-turn g l =
    let at = scene_of l.engine.plan.platform.now l.engine.plan.deployment.now l.engine.plan.script l.engine.plan.terms.budget in
    record {
      far : SoFar l.fn.steps l.steps (known_in l.engine.plan.deployment.now) (trace_of l.engine.plan.terms.show l.engine.plan.platform.now l.engine.plan.deployment.now) (run_of at (first_of l.engine.plan.platform.now l.engine.plan.deployment.now l.engine.plan.terms.budget (crew_in l.engine.plan l.fn.sim))) (rest_of (l.engine.plan.terms.budget + 1 - l._turn) at) (λ answers. parts_from l._turn at answers (first_of l.engine.plan.platform.now l.engine.plan.deployment.now l.engine.plan.terms.budget (crew_in l.engine.plan l.fn.sim))) (cast_in (λ b. (goal.Actor-dyn g (b.vtable, b.value)).mind b.value) l.sim)
          (script_part l.engine.plan.script (g.F.Files.shows l.fn.files Script)) (script_part l.engine.plan.script (g.F.Files.shows l.files Script)) (kept_of l.fn.sim.script) (kept_of l.sim.script) l.fn.sim.kernel l.sim.kernel (g.O.Sinks.contents l.fn.out.sink.now Out) (g.O.Sinks.contents l.out.sink.now Out);
      kept : IsKept (λ b. (goal.Actor-dyn g (b.vtable, b.value)).mind b.value) l.engine.plan.deployment.now (script_part l.engine.plan.script (g.F.Files.shows l.files Script)) l.sim;
      crew : TakesCrew false l.fn.sim l.sim;
      router : l.router ≡ l.fn.router;
      same : l.sim.kernel.setup ≡ at.setup;
      sink : l.out.sink.ghost_name ≡ l.fn.out.sink.ghost_name;
      err : g.O.Sinks.contents l.out.sink.now Err ≡ g.O.Sinks.contents l.fn.out.sink.now Err;
      sound : g.O.Sinks.faults l.out.sink.now ≡ g.O.Sinks.faults l.fn.out.sink.now;
      script : ReadsScript g.F.Files.shows l.engine.plan.script l.fn.files l.files;
    }
