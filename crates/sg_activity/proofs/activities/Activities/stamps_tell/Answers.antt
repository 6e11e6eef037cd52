use Rattle.std.proofs.Common.{subst}
use Rattle.sg_activity.specs.Doing.{HaveStamps}
use Rattle.sg_activity.specs.kept.Metered.{energies}
use Rattle.sg_activity.specs.kept.State.{doing_of, state_of}
use Rattle.sg_activity.proofs.Stamping.{stamps_are, stamps_metered}
use Rattle.sg_activity.proofs.activities.Activities.stamps_tell.Goals as goal

pub returns : goal.returns
returns c =
    let kept = c.self.inside.kept in
    let energy = energies kept.date c.self.inside.meter in
    subst HaveStamps c.self.view_is (stamps_metered energy (doing_of (state_of kept) kept.room) (stamps_are (state_of kept) c.self.invariant.sound.are kept.room))
