use Rattle.std.proofs.Common.{◌∙◌, ap, arith, rules, sym, subst, length}
use Rattle.std.proofs.lemmas.List.{length-reverse}
use Rattle.sg_kernel_calls.specs.Roads.{AreOver}
use Rattle.sg_platform_rows.specs.Ends.{link_ends}
use Rattle.sg_route.specs.Roads.{Roads}
use Rattle.sg_engine.specs.Pace.{KeepsPace, pace_in}
use Rattle.sg_engine.specs.RunContract.{IsEnding, RunsAs, output_of}
use Rattle.sg_engine.proofs.Crews.{first_taken}
use Rattle.sg_engine.proofs.Starting.{pace_in_as, run_of_as}
use Rattle.sg_engine.proofs.whole_run.run.Goals as goal

pub invariant_of-setup : goal.invariant_of-setup
invariant_of-setup g c =
    let roads = c.run_plan-how.ensures.ending.roads in
    record {
      deployed = c.args.setup.now.deployed;
      roads = roads ∙ c.args.setup.now.roads;
      over = subst (λ (roads : Roads). AreOver (length (link_ends c.args.setup.now.platform.links)) roads) (sym roads) c.args.setup.now.over;
    }

pub returns-clause-crew : goal.returns-clause-crew
returns-clause-crew g c =
    rw c.reverse-2.ensures.items (first_taken c.args.setup.now.deployment c.run_plan-how.result c.args.crew.now.items c.run_plan-how.new.crew.items (rw c.reverse.ensures.items at c.run_plan-how.ensures.crew))

-- what is said of the output's sink is said of the caller's
pub returns-clause-output : goal.returns-clause-output
returns-clause-output g c =
    let same = c.run_plan-how.ensures.ending.cause.same in
    subst (λ out. RunsAs c.args.setup.now.script (output_of c.args.setup.now c.args.budget (length c.args.crew.now.items) c.args.show) c.run_plan-how.result (g.O.Sinks.contents c.args.out.now) (g.O.Sinks.contents out) (length c.args.crew.now.items) (length c.reverse-2.new.self.items)
    c.args.steps.now c.run_plan-how.new.steps (g.F.Files.shows c.args.files.now) (g.F.Files.shows c.run_plan-how.new.files)) (sym (search (rules, same)))
    (λ source gives. run_of_as c.args.setup.now c.args.budget c.args.show source c.run_plan-how.result _ _ (length c.reverse.new.self.items) (length c.args.crew.now.items) (length c.run_plan-how.new.crew.items) (length c.reverse-2.new.self.items) _ _ _ _
    (sym (ap length c.reverse.ensures.items ∙ length-reverse c.args.crew.now.items)) (ap length c.reverse-2.ensures.items ∙ length-reverse c.run_plan-how.new.crew.items) (c.run_plan-how.ensures.output source gives))

pub returns-clause-pace : goal.returns-clause-pace
returns-clause-pace g c =
    let same = c.run_plan-how.ensures.ending.cause.same in
    subst (λ out. KeepsPace c.args.setup.now.script (pace_in c.args.setup.now c.args.budget (length c.args.crew.now.items) c.args.show) (g.O.Sinks.contents c.args.out.now) (g.O.Sinks.contents out) (g.F.Files.shows c.args.files.now) (g.F.Files.shows c.run_plan-how.new.files)) (sym (search (rules, same)))
    (λ source gives. pace_in_as c.args.setup.now c.args.budget c.args.show source _ _ (length c.reverse.new.self.items) (length c.args.crew.now.items) _ _ (sym (ap length c.reverse.ensures.items ∙ length-reverse c.args.crew.now.items)) (c.run_plan-how.ensures.pace source gives))

pub returns-clause-ending : goal.returns-clause-ending
returns-clause-ending g c =
    let ending = c.run_plan-how.ensures.ending in
    let cause = ending.cause in
    let same = cause.same in
    subst (λ out. IsEnding g.F.Files.shows c.args.setup.now.script c.run_plan-how.result c.args.files.now c.run_plan-how.new.files (g.O.Sinks.contents c.args.out.now) (g.O.Sinks.contents out) (g.O.Sinks.faults c.args.out.now) (g.O.Sinks.faults out)) (sym (search (rules, same)))
    (record {
      cause = record { write = λ is. omega (arith, cause.write is, c.requires.sound); sound = cause.sound; read = cause.read };
      memory = ending.memory;
      reads = ending.reads;
    })
