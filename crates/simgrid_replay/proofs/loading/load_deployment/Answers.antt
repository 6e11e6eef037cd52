use Rattle.std.proofs.Common.{◌∙◌, ap}
use Rattle.std.specs.Result.{result_map_both}
use Rattle.sg_platform.specs.DeploymentOf.{deployment_of}
use Rattle.simgrid_replay.specs.declared.refusal.Refusal.TheVariants as refusal
use Rattle.simgrid_replay.proofs.PartLemmas.{deployment_whole, deployment_too_long}
use Rattle.simgrid_replay.proofs.loading.load_deployment.Goals as goal

pub returns-in-Whole-clause-given : goal.returns-in-Whole-clause-given
returns-in-Whole-clause-given g c = λ source gives known.
    c.deployment_of.ensures.given known ∙ ap (λ text. result_map_both (λ deployed. deployed) refusal.Deployment (deployment_of text c.args.platform.now)) c.deref.ensures.value
    ∙ deployment_whole source c.in-Whole.text.items c.args.platform.now (c.in-Whole.ensures.given source gives)

pub returns-in-TooLong-clause-given : goal.returns-in-TooLong-clause-given
returns-in-TooLong-clause-given g c = λ source gives known. deployment_too_long source c.args.platform.now (c.in-TooLong.ensures.given source gives)
