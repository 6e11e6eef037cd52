use Rattle.std.proofs.Common.{◌≡◌, None, option_map, ap, subst, ◌∙◌}
use Rattle.slab.specs.Slab.{get}
use Rattle.sg_maxmin.specs.kept.Slots.{slot_in}
use Rattle.sg_maxmin.proofs.CellLemmas.{slot_at}
use Rattle.sg_maxmin.proofs.slots.Slots.are_numbered.Goals as goal

pub returns : goal.returns
returns c = λ i far. subst (λ s. get s i ≡ None) c.self.view_is (slot_at c.self.inside.slab.slots i ∙ ap (option_map slot_in) (c.self.invariant i far))
