use Rattle.std.proofs.Common.{◌∙◌, subst, sym, Bool, IsTrue, Option, List, ℕ, length}
use Rattle.std.specs.Prelude.{IsSome}
use Rattle.sg_edge.specs.declared.files.Part.TheVariants.{Script}
use Rattle.sg_words.specs.Views.{job_view}
use Rattle.simgrid_replay.specs.PartSources.{request_of}
use Rattle.simgrid_replay.specs.kept.Setups.{setting_in}
use Rattle.simgrid_replay.proofs.PartLemmas.{named_on}
use Rattle.simgrid_replay.proofs.TopLemmas.{begun_gives, run_cause, run_counts_on, run_leaves_on, run_needs_on, run_prints_on, run_stops_on, seats_run}
use Rattle.simgrid_replay.proofs.job_run.run_job.Goals as goal

pub run-ended-requires-clause-crew : goal.run-ended-requires-clause-crew
run-ended-requires-clause-crew g c κs within = record { blank = c.requires.blank; enough = c.requires.setup.seated }

pub returns-clause-output : goal.returns-clause-output
returns-clause-output g c = λ s gives.
    let job = job_view c.args.on.job.now in
    let on = setting_in c.args.on.setup in
    let terms = c.terms_for-terms.result in
    let crew = length c.args.crew.now.items in
    let asked = c.terms_for-terms.ensures in
    let run = c.run-ended.ensures.output s (λ scripted. begun_gives _ _ _ s c.begin_script.ensures.left (gives (subst (λ (b : Bool). IsTrue b) c.requires.setup.script scripted))) in
    record {
      prints = run_prints_on job crew on c.args.on.setup.script terms.budget terms.show s c.run-ended.result c.status.result _ _ c.requires.setup.script asked.budget asked.show c.status.ensures.is run.ends;
      counts = run_counts_on job crew on c.args.on.setup.script terms.budget terms.show s _ _ c.requires.setup.script asked.budget asked.show run.work;
      contexts = run_leaves_on job crew on c.args.on.setup.script terms.budget terms.show s c.run-ended.result c.status.result crew (length c.run-ended.new.crew.items) c.requires.setup.script asked.budget asked.show c.status.ensures.is run.contexts;
      needed = run_needs_on job crew on c.args.on.setup.script terms.budget terms.show s _ _ _ c.requires.setup.script asked.budget asked.show c.begin_script.ensures.left run.needed;
      last = run_stops_on job crew on c.args.on.setup.script terms.budget terms.show _ _ _ c.requires.setup.script asked.budget asked.show c.begin_script.ensures.left c.begin_script.ensures.unread run.last;
    }

pub returns-clause-crew : goal.returns-clause-crew
returns-clause-crew g c = seats_run (setting_in c.args.on.setup) c.run-ended.result c.status.result c.args.crew.now.items c.run-ended.new.crew.items c.status.ensures.is c.run-ended.ensures.crew

pub returns-clause-cause : goal.returns-clause-cause
returns-clause-cause g c =
    run_cause c.run-ended.result c.status.result _ _ (g.F.Files.shows c.args.files.now Script) (g.F.Files.shows c.begin_script.new.files Script) (g.F.Files.shows c.run-ended.new.files Script)
    c.status.ensures.is c.begin_script.ensures.faults c.begin_script.ensures.cause c.run-ended.ensures.ending.cause

pub returns-clause-script : goal.returns-clause-script
returns-clause-script g c =
    let script = c.run-ended.ensures.ending.reads in
    record {
      others = λ q away. script.others q away ∙ c.begin_script.ensures.script.others q away;
      unscripted = λ none. script.unscripted (c.requires.setup.script ∙ none) ∙ c.begin_script.ensures.script.unscripted none;
      named = named_on (request_of c.args.on.job.now) Script (g.F.Files.shows c.begin_script.new.files Script) (g.F.Files.shows c.run-ended.new.files Script) script.name c.begin_script.ensures.script.named;
      telling = λ told. script.telling (subst (λ (left : Option (List ℕ)). IsSome left) (sym c.begin_script.ensures.left) told);
    }
