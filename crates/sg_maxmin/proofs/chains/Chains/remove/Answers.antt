use Rattle.std.proofs.Common.{length, map, sym, subst, ◌∙◌}
use Rattle.std.proofs.lemmas.List.{with_items_is}
use Rattle.sg_maxmin.specs.Chain.{resources}
use Rattle.sg_maxmin.specs.Chained.{GainsUses}
use Rattle.sg_maxmin.specs.kept.Linked.{AreGained, uses_of, walked}
use Rattle.sg_maxmin.proofs.LinkLemmas.{gains_shown}
use Rattle.sg_maxmin.proofs.chains.Chains.remove.Goals as goal

pub returns-clause-users : goal.returns-clause-users
returns-clause-users c =
    let old = c.self.inside.slots.slots in
    let new = c.remove_uses.new.slots.slots in
    let on = c.self.inside.on.items in
    let taken = resources c.args.count (uses_of old) c.args.first in
    let gained : AreGained new old c.remove_uses.new.on on c.args.flow taken = subst (λ o. AreGained new old c.remove_uses.new.on o c.args.flow taken) c.deref_mut.ensures.value c.remove_uses.ensures.users in
    let shown = gains_shown new old c.remove_uses.new.on on c.args.flow taken gained in
    subst (λ o. GainsUses (map (walked (length new) new) o) c.args.self.now.users c.args.flow (resources c.args.count c.args.self.now.uses c.args.first)) (sym (with_items_is c.self.inside.on c.remove_uses.new.on (c.remove_uses.auto.on ∙ c.deref_mut.ensures.len)))
    (subst (λ s. GainsUses (map (walked (length new) new) c.remove_uses.new.on) s.users c.args.flow (resources c.args.count s.uses c.args.first)) c.self.view_is shown)
