use Rattle.std.proofs.Common.{subst}
use Rattle.sg_actor_states.specs.Records.{AreRecords}
use Rattle.sg_kernel_calls.specs.Known.{Known}
use Rattle.sg_kernel_calls.specs.World.{extent}
use Rattle.sg_kernel.proofs.kernel.Kernel.records.Goals as goal

pub returns-clause-limited : goal.returns-clause-limited
returns-clause-limited c =
    subst (λ (k : Known). AreRecords (extent k.setup) k.records) c.self.view_is
    (subst (λ e. AreRecords e c.self.inside.fields.states.records) c.self.invariant.sound.extent_is c.records.ensures.limited)
