use Rattle.std.proofs.Common.{ap, refl}
use Rattle.sg_edge.specs.declared.files.Part.TheVariants.{Platform, Deployment}
use Rattle.sg_words.specs.Views.{command_view}
use Rattle.sg_words.specs.declared.job.Command.{Command}
use Rattle.simgrid_replay.specs.PartSources.{request_of}
use Rattle.simgrid_replay.specs.Requests.{has_parts}
use Rattle.simgrid_replay.proofs.PartLemmas.{nameless_by, takes_none}
use Rattle.simgrid_replay.proofs.setups.prepare.Goals as goal

pub returns-in-Churn-clause-platform : goal.returns-in-Churn-clause-platform
returns-in-Churn-clause-platform g c = nameless_by (request_of c.args.job.now) Platform (g.F.Files.shows c.args.files.now Platform) (g.met.F.Files.unnamed c.args.files.now Platform (c.requires Platform))

pub returns-in-Churn-clause-deployment : goal.returns-in-Churn-clause-deployment
returns-in-Churn-clause-deployment g c = nameless_by (request_of c.args.job.now) Deployment (g.F.Files.shows c.args.files.now Deployment) (g.met.F.Files.unnamed c.args.files.now Deployment (c.requires Deployment))

pub returns-in-Churn-clause-decided : goal.returns-in-Churn-clause-decided
returns-in-Churn-clause-decided g c = record { refused = λ p gives err ok. ap (λ (what : Command). has_parts (command_view what)) c.in-Churn.is; behind = λ p gives err. refl }

pub returns-in-Churn-clause-bounded : goal.returns-in-Churn-clause-bounded
returns-in-Churn-clause-bounded g c = λ q other. takes_none _ _ _ refl
