use Rattle.std.proofs.Common.{◌≡◌, ◌<◌, ◌+◌, ◌∙◌, ap, sym, subst, refl, ℕ, length, true, false, rules, arith}
use Rattle.sg_edge.specs.Files.{PartView, TakesUpTo}
use Rattle.sg_platform.specs.PlatformOf.{greatest_text}
use Rattle.sg_edge.specs.Sources.{Gives}
use Rattle.sg_edge.specs.declared.files.Part.TheVariants.{Platform, Deployment, Script}
use Rattle.sg_words.specs.Views.{job_view}
use Rattle.simgrid_replay.specs.PartSources.{request_of, IsNamedBy}
use Rattle.simgrid_replay.specs.Outcome.{or_refused}
use Rattle.simgrid_replay.specs.kept.Setups.{IsSetupFor, setting_in}
use Rattle.simgrid_replay.specs.Settings.{setting}
use Rattle.simgrid_replay.specs.Requests.{has_script}
use Rattle.simgrid_replay.proofs.TopLemmas.{none_broken, none_taken, not_refused, partless, refusal_leaves, refusal_prints, script_after, setting_counts, setting_leaves, setting_needs, setting_prints, setting_seats, setting_stops, none_stops, telling_before, texts_before, unrefused_spares}
use Rattle.simgrid_replay.proofs.PartLemmas.{bounded_parts, named_parts, nameless_by, only_platform, takes_none}
use Rattle.simgrid_replay.proofs.whole_call.do_job.Goals as goal

pub run_job-requires-clause-setup : goal.run_job-requires-clause-setup
run_job-requires-clause-setup g c κs within =
    let contexts : c.len.result ≡ length c.args.crew.now.items = search rules in
    subst (λ (n : ℕ). IsSetupFor (has_script (request_of c.args.job.now)) n c.in-Ok.setup) contexts c.in-Ok.ensures.fits

pub returns-in-Ok-clause-output : goal.returns-in-Ok-clause-output
returns-in-Ok-clause-output g c = λ p d s gives.
    let old = g.F.Files.shows c.args.files.now in
    let mid = g.F.Files.shows c.prepare.new.files in
    let new = g.F.Files.shows c.run_job.new.files in
    let contexts : c.len.result ≡ length c.args.crew.now.items = search rules in
    let others = c.run_job.ensures.script.others in
    let before = texts_before (request_of c.args.job.now) old mid new p d (others Platform (λ e. cc)) (others Deployment (λ e. cc)) gives.texts in
    let is = ap (λ (n : ℕ). setting (request_of c.args.job.now) n p d) (sym contexts) ∙ c.in-Ok.ensures.given p d before in
    let run = c.run_job.ensures.output s (script_after (request_of c.args.job.now) old mid new s c.prepare.ensures.read.unbegun gives.script) in
    record {
      prints = setting_prints (job_view c.args.job.now) (length c.args.crew.now.items) s _ (setting_in c.in-Ok.setup) c.run_job.result (g.O.Sinks.contents c.args.out.now) (g.O.Sinks.contents c.run_job.new.out) is run.prints;
      counts = setting_counts (job_view c.args.job.now) (length c.args.crew.now.items) s _ (setting_in c.in-Ok.setup) _ _ is run.counts;
      contexts = setting_leaves (job_view c.args.job.now) (length c.args.crew.now.items) s _ (setting_in c.in-Ok.setup) c.run_job.result (length c.args.crew.now.items) (length c.run_job.new.crew.items) is run.contexts;
      needed = setting_needs (job_view c.args.job.now) (length c.args.crew.now.items) s _ (setting_in c.in-Ok.setup) (old Script) (mid Script) (new Script) is c.prepare.ensures.read.unbegun run.needed;
      last = setting_stops (job_view c.args.job.now) (length c.args.crew.now.items) _ (setting_in c.in-Ok.setup) (old Script) (mid Script) (new Script) is c.prepare.ensures.read.unbegun run.last;
    }

pub returns-in-Err-clause-output : goal.returns-in-Err-clause-output
returns-in-Err-clause-output g c = λ p d s gives.
    let contexts : c.len.result ≡ length c.args.crew.now.items = search rules in
    record {
      prints = refusal_prints (λ r. or_refused (job_view c.args.job.now) (length c.args.crew.now.items) s r) (setting (request_of c.args.job.now) (length c.args.crew.now.items) p d)
          c.in-Err.why c.refuse.result _ _ (λ r. refl)
          (λ told. sym (ap (λ (n : ℕ). setting (request_of c.args.job.now) n p d) (sym contexts) ∙ c.in-Err.ensures.given p d gives.texts (λ e. told (cc)))) c.refuse.ensures.prints;
      counts = omega (arith);
      contexts = refusal_leaves (λ r. or_refused (job_view c.args.job.now) (length c.args.crew.now.items) s r) (setting (request_of c.args.job.now) (length c.args.crew.now.items) p d)
          c.in-Err.why c.refuse.result (length c.args.crew.now.items) (λ r. refl)
          (λ told. sym (ap (λ (n : ℕ). setting (request_of c.args.job.now) n p d) (sym contexts) ∙ c.in-Err.ensures.given p d gives.texts (λ e. told (cc)))) c.refuse.ensures.memory;
      needed = takes_none _ _ _ c.in-Err.ensures.read.unbegun;
      last = none_stops _ _ _ (c.requires.fresh Script) c.in-Err.ensures.read.unbegun;
    }

pub returns-in-Ok-clause-crew : goal.returns-in-Ok-clause-crew
returns-in-Ok-clause-crew g c = record {
  first = λ p d texts.
      let contexts : c.len.result ≡ length c.args.crew.now.items = search rules in
      let others = c.run_job.ensures.script.others in
      let before = texts_before (request_of c.args.job.now) (g.F.Files.shows c.args.files.now) (g.F.Files.shows c.prepare.new.files) (g.F.Files.shows c.run_job.new.files) p d
      (others Platform (λ e. cc)) (others Deployment (λ e. cc)) texts in
      let is = ap (λ (n : ℕ). setting (request_of c.args.job.now) n p d) (sym contexts) ∙ c.in-Ok.ensures.given p d before in
      setting_seats _ (setting_in c.in-Ok.setup) c.run_job.result c.args.crew.now.items c.run_job.new.crew.items is c.run_job.ensures.crew;
  refused = λ is. absurd (let e : true ≡ false = sym is ∙ c.run_job.ensures.unrefused in cc);
  broken = none_broken (g.F.Files.shows c.prepare.new.files) (g.F.Files.shows c.run_job.new.files) (c.run_job.ensures.script.others Platform (λ e. cc)) (c.run_job.ensures.script.others Deployment (λ e. cc))
      (c.in-Ok.ensures.read.platform_whole refl) (c.in-Ok.ensures.read.deployment_whole refl);
  front = let first = c.run_job.ensures.crew in record { taken = first.taken; within = first.within; left = first.left };
}

pub returns-in-Err-clause-crew : goal.returns-in-Err-clause-crew
returns-in-Err-clause-crew g c = record {
  first = λ p d texts.
      let contexts : c.len.result ≡ length c.args.crew.now.items = search rules in
      none_taken (setting (request_of c.args.job.now) (length c.args.crew.now.items) p d) c.in-Err.why c.refuse.result c.args.crew.now.items
      (λ told. sym (ap (λ (n : ℕ). setting (request_of c.args.job.now) n p d) (sym contexts) ∙ c.in-Err.ensures.given p d texts (λ e. told (cc)))) c.refuse.ensures.memory;
  refused = λ is. refl;
  broken = λ is. refl;
  front = record { taken = 0; within = omega (arith); left = refl };
}

pub returns-in-Ok-clause-parts : goal.returns-in-Ok-clause-parts
returns-in-Ok-clause-parts g c =
    let request = request_of c.args.job.now in
    let read = c.in-Ok.ensures.read in
    let script = c.run_job.ensures.script in
    let old = g.F.Files.shows c.args.files.now in
    let mid = g.F.Files.shows c.prepare.new.files in
    let new = g.F.Files.shows c.run_job.new.files in
    let contexts : c.len.result ≡ length c.args.crew.now.items = search rules in
    let same : new Platform ≡ mid Platform = script.others Platform (λ e. cc) in
    let also : new Deployment ≡ mid Deployment = script.others Deployment (λ e. cc) in
    record {
      named = named_parts request new (subst (λ (v : PartView). IsNamedBy request Platform v) (sym same) c.in-Ok.ensures.platform)
          (subst (λ (v : PartView). IsNamedBy request Deployment v) (sym also) c.in-Ok.ensures.deployment) script.named;
      bounded = bounded_parts (greatest_text + 1) old new
          (subst (λ (v : PartView). TakesUpTo (greatest_text + 1) (old Platform) v) (sym same) (c.in-Ok.ensures.bounded Platform (λ e. cc)))
          (subst (λ (v : PartView). TakesUpTo (greatest_text + 1) (old Deployment) v) (sym also) (c.in-Ok.ensures.bounded Deployment (λ e. cc)));
      order = record {
        platform_first = λ broken. absurd (read.platform_whole refl (ap (λ (v : PartView). v.stage) (sym same) ∙ broken));
        deployment_first = λ broken. absurd (read.deployment_whole refl (ap (λ (v : PartView). v.stage) (sym also) ∙ broken));
        platform_refused = λ p gives err.
            let none = c.in-Ok.ensures.decided.refused p (subst (λ (v : PartView). Gives (old Platform) v p) same gives) err refl in
            let files = script.unscripted (partless request none) ∙ c.in-Ok.ensures.unread none in
            only_platform old new (ap (λ f. g.F.Files.shows f Deployment) files) (ap (λ f. g.F.Files.shows f Script) files);
        refused_first = λ p d texts err.
            absurd (not_refused (setting request (length c.args.crew.now.items) p d) (setting_in c.in-Ok.setup)
            (ap (λ (n : ℕ). setting request n p d) (sym contexts) ∙ c.in-Ok.ensures.given p d (texts_before request old mid new p d same also texts)) err);
        unscripted = λ none. ap (λ f. g.F.Files.shows f Script) (script.unscripted none) ∙ read.unbegun;
      };
      telling = telling_before old mid new c.in-Ok.ensures.telling read.unbegun script.telling script.others;
      unread = λ none. script.unscripted (partless request none) ∙ c.in-Ok.ensures.unread none;
    }

pub returns-in-Err-clause-parts : goal.returns-in-Err-clause-parts
returns-in-Err-clause-parts g c =
    let request = request_of c.args.job.now in
    let read = c.in-Err.ensures.read in
    let fresh = g.met.F.Files.unnamed c.args.files.now Script (c.requires.fresh Script) in
    record {
      named = named_parts request (g.F.Files.shows c.prepare.new.files) c.in-Err.ensures.platform c.in-Err.ensures.deployment
          (nameless_by request Script (g.F.Files.shows c.prepare.new.files Script) (ap (λ (v : PartView). v.name) read.unbegun ∙ fresh));
      bounded = c.in-Err.ensures.bounded;
      order = record {
        platform_first = λ broken. only_platform _ _ (read.platform_first broken) read.unbegun;
        deployment_first = λ broken. read.unbegun;
        platform_refused = λ p gives err. only_platform _ _ (c.in-Err.ensures.decided.behind p gives err) read.unbegun;
        refused_first = λ p d texts err. read.unbegun;
        unscripted = λ none. read.unbegun;
      };
      telling = c.in-Err.ensures.telling;
      unread = c.in-Err.ensures.unread;
    }

pub returns-in-Ok-clause-rest : goal.returns-in-Ok-clause-rest
returns-in-Ok-clause-rest g c = unrefused_spares c.run_job.result (g.F.Files.shows c.args.files.now) (g.F.Files.shows c.run_job.new.files) c.run_job.ensures.unrefused

pub returns-in-Err-clause-rest : goal.returns-in-Err-clause-rest
returns-in-Err-clause-rest g c = record {
  platform = λ is. only_platform _ _ (c.in-Err.ensures.read.platform_refused (c.refuse.ensures.platform is)) c.in-Err.ensures.read.unbegun;
  deployment = λ is. c.in-Err.ensures.read.unbegun;
}

pub returns-in-Ok-clause-cause : goal.returns-in-Ok-clause-cause
returns-in-Ok-clause-cause g c =
    let cause = c.run_job.ensures.cause in
    let new = g.F.Files.shows c.run_job.new.files in
    record {
      write = cause.write;
      sound = cause.sound;
      read = λ told. (Script, (cause.read told).0, subst (λ (v : PartView). v.faults < (new Script).faults) c.in-Ok.ensures.read.unbegun (cause.read told).1);
    }

pub returns-in-Err-clause-cause : goal.returns-in-Err-clause-cause
returns-in-Err-clause-cause g c = record {
  write = c.refuse.ensures.cause.write;
  sound = c.refuse.ensures.cause.sound;
  read = λ told. c.in-Err.ensures.read.cause (c.refuse.ensures.cause.read told);
}
