use Rattle.std.proofs.Common.{None, subst}
use Rattle.slab.specs.Slab.{Updates}
use Rattle.sg_maxmin.specs.kept.Slots.{slots_in}
use Rattle.sg_maxmin.proofs.CellLemmas.{slots_updated}
use Rattle.sg_maxmin.proofs.slots.Slots.remove.Goals as goal

pub returns-clause-updates : goal.returns-clause-updates
returns-clause-updates c =
    let gone = c.remove.new.self in
    subst (λ s. Updates s (slots_in gone) c.args.i None) c.self.view_is (slots_updated c.self.inside.slab gone c.args.i None c.remove.ensures.updates)
