use Rattle.std.proofs.Common.{subst}
use Rattle.sg_lazy.specs.Lazily.{KeepUntouched}
use Rattle.sg_lazy.proofs.Untouched.{untouched_keeps}
use Rattle.sg_lazy.specs.kept.Held.{running_in, ended_in}
use Rattle.sg_lazy.proofs.lazy.Lazy.untouched_keep.Goals as goal

pub returns : goal.returns
returns c =
    let i = c.self.inside in
    subst (λ s. KeepUntouched s) c.self.view_is
    (untouched_keeps i.system.capacities (running_in i.system.slots i.rated.rates.items i.pending.began.members i.pending.marked.members i.pending.ended.members) (ended_in i.system.slots i.pending.ended.members) i.pending.resources.members c.self.invariant.0.kept)
