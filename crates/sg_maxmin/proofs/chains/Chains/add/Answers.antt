use Rattle.std.proofs.Common.{length, map, sym, subst, ◌∙◌}
use Rattle.std.proofs.lemmas.List.{with_items_is}
use Rattle.sg_maxmin.specs.Chained.{GainsUses}
use Rattle.sg_maxmin.specs.kept.Linked.{AreGained, walked}
use Rattle.sg_maxmin.proofs.LinkLemmas.{gains_shown}
use Rattle.sg_maxmin.proofs.chains.Chains.add.Goals as goal

pub returns-clause-users : goal.returns-clause-users
returns-clause-users c =
    let old = c.self.inside.slots.slots in
    let new = c.add_uses.new.slots.slots in
    let on = c.self.inside.on.items in
    let uses = c.args.uses.now in
    let gained : AreGained old new on c.add_uses.new.on c.args.flow uses = subst (λ o. AreGained old new o c.add_uses.new.on c.args.flow uses) c.deref_mut.ensures.value c.add_uses.ensures.users in
    let shown = gains_shown old new on c.add_uses.new.on c.args.flow uses gained in
    subst (λ o. GainsUses c.args.self.now.users (map (walked (length new) new) o) c.args.flow uses) (sym (with_items_is c.self.inside.on c.add_uses.new.on (c.add_uses.auto.on ∙ c.deref_mut.ensures.len)))
    (subst (λ s. GainsUses s.users (map (walked (length new) new) c.add_uses.new.on) c.args.flow uses) c.self.view_is shown)
