use Rattle.std.proofs.Common.{◌∙◌, ap, sym, arith, length, []}
use Rattle.sg_engine.specs.kept.Invariant.{crew_in}
use Rattle.sg_kernel_calls.specs.Setup.{Setup}
use Rattle.sg_edge.specs.declared.files.Part.TheVariants.{Script}
use Rattle.sg_engine.proofs.Endings.{run_ends, run_cut, run_last, run_left, run_left_cut, run_needed, run_work, is_going, goes_on_telling, keeps_name, broken_part, in_cut, in_over}
use Rattle.sg_engine.proofs.Paces.{ends_gain, run_paced}
use Rattle.sg_engine.proofs.Uncut.{not_write}
use Rattle.sg_engine.specs.RunContract.{is_cut}
use Rattle.sg_edge.specs.declared.sinks.Stream.TheVariants.{Out}
use Rattle.sg_edge.proofs.Writing.{gain-nil}
use Rattle.sg_engine.proofs.whole_run.run_from.Goals as goal

pub invariant_of-end : goal.invariant_of-end
invariant_of-end g c =
    let kept = in_over _ _ (sym c.is_cut.ensures ∙ c.if-is_cut.false) c.simulate-how.ensures.kept in
    record {
      of = record {
        hosts = sym (ap (λ (setup : Setup). setup.hosts) (c.simulate-how.ensures.crew.setup ∙ c.requires.first.setup));
        number = kept.fits.actors;
        extent = kept.fits.extent;
        few = omega (arith, kept.fits.actors, kept.few);
      };
    }

pub finish-requires : goal.finish-requires
finish-requires g c = record { uncut = sym c.is_cut.ensures ∙ c.if-is_cut.false }

pub returns-then-is_cut-clause-output : goal.returns-then-is_cut-clause-output
returns-then-is_cut-clause-output g c = λ source gives.
    let going = is_going c.args.engine.now.plan.script _ _ source (λ over. g.met.F.Files.nothing_left c.simulate-how.new.files Script over) gives in
    let cut = in_cut _ _ (sym c.is_cut.ensures ∙ c.if-is_cut.true) c.simulate-how.ensures.run.run in record {
      ends = run_cut (length c.simulate-how.new.sim.crew.items) c.args.engine.now.plan.platform.now c.args.engine.now.plan.deployment.now c.args.engine.now.plan.script c.args.engine.now.plan.terms.budget (crew_in c.args.engine.now.plan c.args.sim.now) c.args.engine.now.plan.terms.show c.simulate-how.result _ _ _ _ source
          going
          (sym c.is_cut.ensures ∙ c.if-is_cut.true)
          cut.cut
          c.simulate-how.ensures.run.err;
      contexts = run_left_cut (length c.simulate-how.new.sim.crew.items) c.args.engine.now.plan.platform.now c.args.engine.now.plan.deployment.now c.args.engine.now.plan.script c.args.engine.now.plan.terms.budget (crew_in c.args.engine.now.plan c.args.sim.now) c.args.engine.now.plan.terms.show c.simulate-how.result _ _ _ _ source going (sym c.is_cut.ensures ∙ c.if-is_cut.true) cut.cut;
      work = cut.worked source (going cut.cut.piece cut.cut.reads);
      needed = run_needed c.args.engine.now.plan.platform.now c.args.engine.now.plan.deployment.now c.args.engine.now.plan.script c.args.engine.now.plan.terms.budget (crew_in c.args.engine.now.plan c.args.sim.now) c.args.engine.now.plan.terms.show cut.cut.piece _ _ source going cut.cut.reads
          (λ isnt. ap (λ (f : _). g.F.Files.shows f Script) (c.simulate-how.ensures.script.reads.unscripted isnt)) cut.cut.needed;
      last = run_last c.args.engine.now.plan.platform.now c.args.engine.now.plan.deployment.now c.args.engine.now.plan.script c.args.engine.now.plan.terms.budget (crew_in c.args.engine.now.plan c.args.sim.now) c.args.engine.now.plan.terms.show cut.cut.piece _ _ cut.cut.reads
          (λ isnt. ap (λ (f : _). g.F.Files.shows f Script) (c.simulate-how.ensures.script.reads.unscripted isnt)) cut.cut.last;
    }

pub returns-else-is_cut-clause-output : goal.returns-else-is_cut-clause-output
returns-else-is_cut-clause-output g c = λ source gives.
    let going = is_going c.args.engine.now.plan.script _ _ source (λ over. g.met.F.Files.nothing_left c.simulate-how.new.files Script over) gives in
    let over = in_over _ _ (sym c.is_cut.ensures ∙ c.if-is_cut.false) c.simulate-how.ensures.run.run in
    let kept = in_over _ _ (sym c.is_cut.ensures ∙ c.if-is_cut.false) c.simulate-how.ensures.kept in
    record {
      ends = run_ends c.args.steps.now c.simulate-how.new.steps (length c.simulate-how.new.sim.crew.items) c.args.engine.now.plan.platform.now c.args.engine.now.plan.deployment.now c.args.engine.now.plan.script c.args.engine.now.plan.terms.budget (crew_in c.args.engine.now.plan c.args.sim.now) c.args.engine.now.plan.terms.show c.simulate-how.result c.finish.result c.simulate-how.new.sim.kernel.core _ _ _ _ _ source
          going over c.simulate-how.ensures.run.err (rw kept.empty at c.finish.ensures.ends);
      contexts = run_left c.args.steps.now c.simulate-how.new.steps (length c.simulate-how.new.sim.crew.items) c.args.engine.now.plan.platform.now c.args.engine.now.plan.deployment.now c.args.engine.now.plan.script c.args.engine.now.plan.terms.budget (crew_in c.args.engine.now.plan c.args.sim.now) c.args.engine.now.plan.terms.show c.simulate-how.result c.finish.result c.simulate-how.new.sim.kernel.core _ _ _ _ source going over;
      work = run_work c.args.steps.now c.simulate-how.new.steps (length c.simulate-how.new.sim.crew.items) c.args.engine.now.plan.platform.now c.args.engine.now.plan.deployment.now c.args.engine.now.plan.script c.args.engine.now.plan.terms.budget (crew_in c.args.engine.now.plan c.args.sim.now) c.args.engine.now.plan.terms.show c.simulate-how.result c.simulate-how.new.sim.kernel.core _ _ _ _ source going over;
      needed = run_needed c.args.engine.now.plan.platform.now c.args.engine.now.plan.deployment.now c.args.engine.now.plan.script c.args.engine.now.plan.terms.budget (crew_in c.args.engine.now.plan c.args.sim.now) c.args.engine.now.plan.terms.show over.piece _ _ source going over.reads
          (λ isnt. ap (λ (f : _). g.F.Files.shows f Script) (c.simulate-how.ensures.script.reads.unscripted isnt)) over.needed;
      last = run_last c.args.engine.now.plan.platform.now c.args.engine.now.plan.deployment.now c.args.engine.now.plan.script c.args.engine.now.plan.terms.budget (crew_in c.args.engine.now.plan c.args.sim.now) c.args.engine.now.plan.terms.show over.piece _ _ over.reads
          (λ isnt. ap (λ (f : _). g.F.Files.shows f Script) (c.simulate-how.ensures.script.reads.unscripted isnt)) over.last;
    }

pub returns-then-is_cut-clause-ending : goal.returns-then-is_cut-clause-ending
returns-then-is_cut-clause-ending g c =
    let cut = (in_cut _ _ (sym c.is_cut.ensures ∙ c.if-is_cut.true) c.simulate-how.ensures.run.run).cut in
    let cause = c.simulate-how.ensures.cause in
    let script = c.simulate-how.ensures.script.reads in
    record {
      cause = record { same = cause.same; write = cause.write; sound = cause.sound; read = λ is. broken_part c.args.engine.now.plan.script cut.piece _ _ cut.reads (cause.read is) };
      memory = λ is. c.simulate-how.ensures.run.err;
      reads = record {
        others = script.others;
        unscripted = script.unscripted;
        name = keeps_name c.args.engine.now.plan.script cut.piece _ _ cut.reads (λ isnt. ap (λ (f : _). g.F.Files.shows f Script) (script.unscripted isnt));
        telling = goes_on_telling c.args.engine.now.plan.script cut.piece _ _ cut.reads (λ isnt. ap (λ (f : _). g.F.Files.shows f Script) (script.unscripted isnt));
      };
      roads = c.simulate-how.ensures.script.roads;
    }

pub returns-else-is_cut-clause-ending : goal.returns-else-is_cut-clause-ending
returns-else-is_cut-clause-ending g c =
    let over = in_over _ _ (sym c.is_cut.ensures ∙ c.if-is_cut.false) c.simulate-how.ensures.run.run in
    let cause = c.finish.ensures.cause in
    let script = c.simulate-how.ensures.script.reads in
    let sound = c.simulate-how.ensures.cause.sound (not_write c.simulate-how.result (sym c.is_cut.ensures ∙ c.if-is_cut.false)) in
    record {
      cause = record {
        same = cause.same ∙ c.simulate-how.ensures.cause.same;
        write = cause.write;
        sound = λ isnt. cause.sound isnt ∙ sound;
        read = λ is. broken_part c.args.engine.now.plan.script over.piece _ _ over.reads (c.simulate-how.ensures.cause.read (cause.read is));
      };
      memory = λ is. absurd (c.finish.ensures.memory is);
      reads = record {
        others = script.others;
        unscripted = script.unscripted;
        name = keeps_name c.args.engine.now.plan.script over.piece _ _ over.reads (λ isnt. ap (λ (f : _). g.F.Files.shows f Script) (script.unscripted isnt));
        telling = goes_on_telling c.args.engine.now.plan.script over.piece _ _ over.reads (λ isnt. ap (λ (f : _). g.F.Files.shows f Script) (script.unscripted isnt));
      };
      roads = c.simulate-how.ensures.script.roads;
    }

pub returns-then-is_cut-clause-pace : goal.returns-then-is_cut-clause-pace
returns-then-is_cut-clause-pace g c = λ source gives.
    let going = is_going c.args.engine.now.plan.script _ _ source (λ over. g.met.F.Files.nothing_left c.simulate-how.new.files Script over) gives in
    run_paced c.args.engine.now.plan.platform.now c.args.engine.now.plan.deployment.now c.args.engine.now.plan.script c.args.engine.now.plan.terms.budget (crew_in c.args.engine.now.plan c.args.sim.now) c.args.engine.now.plan.terms.show _ _ _ [] _ _ source going
    (λ isnt. ap (λ (f : _). g.F.Files.shows f Script) (c.simulate-how.ensures.script.reads.unscripted isnt)) c.simulate-how.ensures.run.pace (sym (gain-nil (g.O.Sinks.contents c.simulate-how.new.out.sink.now Out)))

pub returns-else-is_cut-clause-pace : goal.returns-else-is_cut-clause-pace
returns-else-is_cut-clause-pace g c = λ source gives.
    let going = is_going c.args.engine.now.plan.script _ _ source (λ over. g.met.F.Files.nothing_left c.simulate-how.new.files Script over) gives in
    let gained = ends_gain (is_cut c.finish.result) _ _ _ _ _ c.finish.ensures.ends in
    run_paced c.args.engine.now.plan.platform.now c.args.engine.now.plan.deployment.now c.args.engine.now.plan.script c.args.engine.now.plan.terms.budget (crew_in c.args.engine.now.plan c.args.sim.now) c.args.engine.now.plan.terms.show _ _ _ gained.0 _ _ source going
    (λ isnt. ap (λ (f : _). g.F.Files.shows f Script) (c.simulate-how.ensures.script.reads.unscripted isnt)) c.simulate-how.ensures.run.pace gained.1
