use Rattle.std.proofs.Common.{◌+◌, ◌∙◌, ap, subst, sym, Result}
use Rattle.sg_edge.specs.declared.files.Part.TheVariants.{Platform, Deployment}
use Rattle.sg_edge.specs.Files.{PartView, TakesUpTo}
use Rattle.sg_edge.specs.Sources.{Gives}
use Rattle.sg_platform_rows.specs.Platform as platform
use Rattle.simgrid_replay.specs.Settings.{Setting, deployment_given, fitting, on_platform, unless_refused}
use Rattle.simgrid_replay.specs.kept.Setups.{IsSetupOf}
use Rattle.simgrid_replay.specs.declared.refusal.Refusal.{Refusal}
use Rattle.sg_platform.specs.PlatformOf.{greatest_text}
use Rattle.simgrid_replay.proofs.PartLemmas.{bounded_parts, nameless, takes_none}
use Rattle.simgrid_replay.proofs.TopLemmas.{platform_decides, telling_texts}
use Rattle.simgrid_replay.proofs.setups.read_setup.Goals as goal

pub returns-in-Ok-clause-given : goal.returns-in-Ok-clause-given
returns-in-Ok-clause-given g c = λ p d gives_p gives_d.
    let old = g.F.Files.shows c.args.files.now in
    let new = g.F.Files.shows c.deployed.new.files in
    let first = c.in-Ok.ensures.given p (subst (λ (v : PartView). Gives (old Platform) v p) (c.deployed.ensures.others Platform (λ e. cc)) gives_p) (λ e. cc) in
    let made : platform.Platform → Result Setting Refusal = λ given. on_platform given (unless_refused (fitting c.args.texts.now.script c.args.contexts) (deployment_given given d)) in
    subst (λ (r : Result platform.Platform Refusal). IsSetupOf (unless_refused made r) c.deployed.result) first
    (c.deployed.ensures.given d (subst (λ (v : PartView). Gives v (new Deployment) d) (sym (c.load_platform.ensures.others Deployment (λ e. cc))) gives_d))

pub returns-in-Ok-clause-telling : goal.returns-in-Ok-clause-telling
returns-in-Ok-clause-telling g c =
    telling_texts (g.F.Files.shows c.args.files.now) (g.F.Files.shows c.load_platform.new.files) (g.F.Files.shows c.deployed.new.files)
    c.load_platform.ensures.telling c.load_platform.ensures.others c.deployed.ensures.telling c.deployed.ensures.others

pub returns-in-Err-clause-deployment : goal.returns-in-Err-clause-deployment
returns-in-Err-clause-deployment g c =
    nameless _ (g.F.Files.shows c.load_platform.new.files Deployment) (ap (λ (v : PartView). v.name) (c.load_platform.ensures.others Deployment (λ e. cc)) ∙ g.met.F.Files.unnamed c.args.files.now Deployment c.requires.deployment)

pub returns-in-Ok-clause-bounded : goal.returns-in-Ok-clause-bounded
returns-in-Ok-clause-bounded g c =
    bounded_parts (greatest_text + 1) (g.F.Files.shows c.args.files.now) (g.F.Files.shows c.deployed.new.files)
    (subst (λ (v : PartView). TakesUpTo (greatest_text + 1) (g.F.Files.shows c.args.files.now Platform) v) (sym (c.deployed.ensures.others Platform (λ e. cc))) c.load_platform.ensures.bounded)
    (subst (λ (v : PartView). TakesUpTo (greatest_text + 1) v (g.F.Files.shows c.deployed.new.files Deployment)) (c.load_platform.ensures.others Deployment (λ e. cc)) c.deployed.ensures.bounded)

pub returns-in-Err-clause-bounded : goal.returns-in-Err-clause-bounded
returns-in-Err-clause-bounded g c =
    bounded_parts (greatest_text + 1) (g.F.Files.shows c.args.files.now) (g.F.Files.shows c.load_platform.new.files) c.load_platform.ensures.bounded
    (takes_none _ _ _ (c.load_platform.ensures.others Deployment (λ e. cc)))

pub returns-in-Ok-clause-decided : goal.returns-in-Ok-clause-decided
returns-in-Ok-clause-decided g c =
    platform_decides c.deployed.result c.in-Ok.platform (g.F.Files.shows c.args.files.now) (g.F.Files.shows c.deployed.new.files)
    (λ p gives. c.in-Ok.ensures.given p (subst (λ (v : PartView). Gives (g.F.Files.shows c.args.files.now Platform) v p) (c.deployed.ensures.others Platform (λ e. cc)) gives) (λ e. cc))

pub returns-in-Err-clause-decided : goal.returns-in-Err-clause-decided
returns-in-Err-clause-decided g c = record { refused = λ p gives err ok. cc ok; behind = λ p gives err. c.load_platform.ensures.others Deployment (λ e. cc) }
