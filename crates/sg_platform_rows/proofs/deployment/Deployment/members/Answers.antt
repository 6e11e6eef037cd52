use Rattle.std.specs.List.{All}
use Rattle.std.proofs.Common.{subst}
use Rattle.sg_base.specs.Limits.{IsActorIn}
use Rattle.sg_platform_rows.specs.Deployment.{Deployed, deployment_of_rows, extent_of}
use Rattle.sg_platform_rows.proofs.MemberIds.{members_exist}
use Rattle.sg_platform_rows.proofs.deployment.Deployment.members.Goals as goal

pub returns-clause-exist : goal.returns-clause-exist
returns-clause-exist c = subst (λ (d : Deployed). All (IsActorIn (extent_of d)) c.self.inside.members) c.self.view_is
    (rw c.self.invariant.members (members_exist (deployment_of_rows c.self.inside.actors.items c.self.inside.mutexes.items c.self.inside.semaphores.items)))
