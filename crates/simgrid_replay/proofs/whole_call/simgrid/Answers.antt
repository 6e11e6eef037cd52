use Rattle.std.proofs.Common.{◌≡◌, ◌∙◌, sym, ap, subst, refl, length, map, true, false, arith, rules}
use Rattle.std.specs.Prelude.{string_bytes}
use Rattle.sg_edge.specs.declared.files.Part.TheVariants.{Script}
use Rattle.sg_words.specs.CommandLine.{Asked, asked_of, refusals}
use Rattle.sg_words.specs.Views.{job_view}
use Rattle.simgrid_replay.specs.Contexts.{TakesFirst}
use Rattle.simgrid_replay.specs.Outcome.{cuts_output_short, outcome, Prints}
use Rattle.simgrid_replay.specs.PartOrder.{TakesParts}
use Rattle.simgrid_replay.specs.PartSources.{PartsGive, TextsGive}
use Rattle.simgrid_replay.specs.Settings.{setting}
use Rattle.simgrid_replay.specs.WholeCall.{TakesForJob}
use Rattle.simgrid_replay.proofs.PartLemmas.{nameless_by, takes_none}
use Rattle.simgrid_replay.proofs.TopLemmas.{none_most, none_stops, prints_nothing, takes_contexts}
use Rattle.simgrid_replay.proofs.WordLemmas.{fault_is, job_is}
use Rattle.simgrid_replay.proofs.whole_call.simgrid.Goals as goal

pub returns-in-Ok-clause-output : goal.returns-in-Ok-clause-output
returns-in-Ok-clause-output g c = λ job asks p d s gives.
    let same : job_view c.in-Ok.job ≡ job = job_is _ _ c.read_words.result c.in-Ok.job job c.read_words.ensures c.in-Ok.is asks.job in
    let old = g.F.Files.shows c.args.files.now in
    let new = g.F.Files.shows c.do_job.new.files in
    subst (λ (j : Asked). PartsGive j.request old new p d s →
    Prints (outcome j (length c.args.crew.now.items) p d s) c.do_job.result (g.O.Sinks.contents c.args.out.now) (g.O.Sinks.contents c.do_job.new.out)) same
    (λ given. (c.do_job.ensures.output p d s given).prints) gives

pub returns-in-Ok-clause-takes : goal.returns-in-Ok-clause-takes
returns-in-Ok-clause-takes g c = λ job asks p d s gives.
    let same : job_view c.in-Ok.job ≡ job = job_is _ _ c.read_words.result c.in-Ok.job job c.read_words.ensures c.in-Ok.is asks.job in
    let old = g.F.Files.shows c.args.files.now in
    let new = g.F.Files.shows c.do_job.new.files in
    let had = c.args.crew.now.items in
    let has = c.do_job.new.crew.items in
    subst (λ (j : Asked). PartsGive j.request old new p d s →
    TakesForJob (outcome j (length had) p d) s c.do_job.result c.args.steps.now c.do_job.new.steps old new had has) same
    (λ given.
    let done = c.do_job.ensures.output p d s given in
    record {
      counts = done.counts;
      needed = done.needed;
      last = done.last;
      taken = takes_contexts (setting (job_view c.in-Ok.job).request (length had) p d) (outcome (job_view c.in-Ok.job) (length had) p d s) c.do_job.result had has
          (c.do_job.ensures.crew.first p d given.texts) done.contexts;
    }) gives

pub returns-in-Err-clause-output : goal.returns-in-Err-clause-output
returns-in-Err-clause-output g c = λ job asks p d s gives.
    let silent = c.report_words.ensures.silent (asked_of (map string_bytes c.args.words.now)) (fault_is _ _ (asked_of (map string_bytes c.args.words.now)) c.read_words.result c.in-Err.fault c.read_words.ensures c.in-Err.is asks.accepted) in
    prints_nothing (outcome job (length c.args.crew.now.items) p d s) c.report_words.result _ _ silent.1

pub returns-in-Err-clause-takes : goal.returns-in-Err-clause-takes
returns-in-Err-clause-takes g c = λ job asks p d s gives.
    let silent = c.report_words.ensures.silent (asked_of (map string_bytes c.args.words.now)) (fault_is _ _ (asked_of (map string_bytes c.args.words.now)) c.read_words.result c.in-Err.fault c.read_words.ensures c.in-Err.is asks.accepted) in
    record {
      counts = omega (arith);
      needed = takes_none _ _ _ refl;
      last = none_stops _ _ _ (c.requires.fresh Script) refl;
      taken = record {
        taken = 0;
        most = omega (arith);
        all = λ uncut. absurd (let cut : true ≡ false = sym (ap cuts_output_short silent.0) ∙ uncut in cc);
        left = refl;
      };
    }

pub returns-in-Ok-clause-parts : goal.returns-in-Ok-clause-parts
returns-in-Ok-clause-parts g c = λ job asks.
    let same : job_view c.in-Ok.job ≡ job = job_is _ _ c.read_words.result c.in-Ok.job job c.read_words.ensures c.in-Ok.is asks.job in
    subst (λ (j : Asked). TakesParts g.F.Files.shows j.request (length c.args.crew.now.items) c.args.files.now c.do_job.new.files) same c.do_job.ensures.parts

pub returns-in-Err-clause-parts : goal.returns-in-Err-clause-parts
returns-in-Err-clause-parts g c = λ job asks. record {
  named = λ part. nameless_by job.request part (g.F.Files.shows c.args.files.now part) (g.met.F.Files.unnamed c.args.files.now part (c.requires.fresh part));
  bounded = λ part other. takes_none _ _ _ refl;
  order = record {
    platform_first = λ broken part other. refl;
    deployment_first = λ broken. refl;
    platform_refused = λ p gives err part other. refl;
    refused_first = λ p d texts err. refl;
    unscripted = λ none. refl;
  };
  telling = λ part told. told;
  unread = λ none. refl;
}

pub returns-in-Ok-clause-crew : goal.returns-in-Ok-clause-crew
returns-in-Ok-clause-crew g c = λ job asks p d texts.
    let same : job_view c.in-Ok.job ≡ job = job_is _ _ c.read_words.result c.in-Ok.job job c.read_words.ensures c.in-Ok.is asks.job in
    subst (λ (j : Asked). TextsGive j.request (g.F.Files.shows c.args.files.now) (g.F.Files.shows c.do_job.new.files) p d → TakesFirst (setting j.request (length c.args.crew.now.items) p d) c.do_job.result c.args.crew.now.items c.do_job.new.crew.items) same
    (λ given. c.do_job.ensures.crew.first p d given) texts

pub returns-in-Err-clause-crew : goal.returns-in-Err-clause-crew
returns-in-Err-clause-crew g c = λ job asks p d texts. record {
  taken = 0;
  least = λ some. absurd (some (c.report_words.ensures.silent (asked_of (map string_bytes c.args.words.now)) (fault_is _ _ (asked_of (map string_bytes c.args.words.now)) c.read_words.result c.in-Err.fault c.read_words.ensures c.in-Err.is asks.accepted)).0);
  most = none_most (setting job.request (length c.args.crew.now.items) p d);
  within = omega (arith);
  left = refl;
}

pub returns-in-Err-clause-refused : goal.returns-in-Err-clause-refused
returns-in-Err-clause-refused g c = λ some. record {
  told = c.report_words.ensures.tells (refusals (map string_bytes c.args.words.now)) (asked_of (map string_bytes c.args.words.now)) (fault_is _ _ (asked_of (map string_bytes c.args.words.now)) c.read_words.result c.in-Err.fault c.read_words.ensures c.in-Err.is refl) some;
  untouched = refl;
  spared = refl;
  unlooked = refl;
}

pub returns-in-Err-clause-words : goal.returns-in-Err-clause-words
returns-in-Err-clause-words g c = λ told none.
    let silent = c.report_words.ensures.silent (asked_of (map string_bytes c.args.words.now)) (fault_is _ _ (asked_of (map string_bytes c.args.words.now)) c.read_words.result c.in-Err.fault c.read_words.ensures c.in-Err.is none) in
    cc (silent.0, told)

pub returns-in-Err-clause-cause : goal.returns-in-Err-clause-cause
returns-in-Err-clause-cause g c = record {
  write = c.report_words.ensures.cause.write;
  sound = c.report_words.ensures.cause.sound;
  read = λ told. absurd (c.report_words.ensures.cause.read told);
}

pub returns-in-Ok-clause-job : goal.returns-in-Ok-clause-job
returns-in-Ok-clause-job g c = λ none.
    let asked = c.accepted_words_have_a_job.ensures (map string_bytes c.args.words.now) none in
    (asked.0, record { accepted = none; job = asked.1 })

pub returns-in-Err-clause-job : goal.returns-in-Err-clause-job
returns-in-Err-clause-job g c = λ none.
    let asked = c.accepted_words_have_a_job.ensures (map string_bytes c.args.words.now) none in
    (asked.0, record { accepted = none; job = asked.1 })

pub returns-in-Ok-clause-unseated : goal.returns-in-Ok-clause-unseated
returns-in-Ok-clause-unseated g c = c.do_job.ensures.crew.refused

pub returns-in-Ok-clause-broken_text : goal.returns-in-Ok-clause-broken_text
returns-in-Ok-clause-broken_text g c = c.do_job.ensures.crew.broken

pub returns-in-Err-clause-rest : goal.returns-in-Err-clause-rest
returns-in-Err-clause-rest g c = record { platform = λ is. absurd (c.report_words.ensures.platform is); deployment = λ is. absurd (c.report_words.ensures.deployment is) }

pub do_job-requires : goal.do_job-requires
do_job-requires g c = (search rules, record { fresh = c.requires.fresh; blank = c.requires.blank; sound = c.requires.sound })

pub returns-in-Ok-clause-front : goal.returns-in-Ok-clause-front
returns-in-Ok-clause-front g c = c.do_job.ensures.crew.front

pub returns-in-Err-clause-front : goal.returns-in-Err-clause-front
returns-in-Err-clause-front g c = record { taken = 0; within = omega (arith); left = refl }
