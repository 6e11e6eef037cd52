use Rattle.std.proofs.Common.{◌≡◌, ◌+◌, ◌-◌, ◌<◌, None, Some, ◌∷◌, option_map, get_or, sym, ap, subst, ◌∙◌, arith}
use Rattle.sg_maxmin.specs.declared.uses.Use.{Use}
use Rattle.sg_maxmin.specs.kept.Linked.{LosesOne, use_of, uses_of}
use Rattle.sg_maxmin.specs.Chain.{IsChain, resources}
use Rattle.sg_maxmin.proofs.LinkLemmas.{uses_at}
use Rattle.sg_maxmin.proofs.ChainLemmas.{front_of, no_front, chain_rest, keeps_gone, losing_more, lost_all, resources_none, some_slot, AreLosing}
use Rattle.sg_maxmin.proofs.chains.remove_uses.Goals as goal

pub unlink-slot-requires-clause-there : goal.unlink-slot-requires-clause-there
unlink-slot-requires-clause-there c =
    let n = c.args.count - c.loop-done.done in
    let slots = c.loop-done.slots.slots in
    let left : 0 < n = omega arith in
    let chain = subst (λ o. IsChain c.args.flow n (uses_of slots) o) c.in-Some.is c.loop-done.invariant.is in
    let front = front_of c.args.flow n (uses_of slots) c.in-Some.i left chain in
    some_slot (get_or slots c.in-Some.i None) front.one (sym (uses_at slots c.in-Some.i) ∙ front.there)

pub unreachable-requires : goal.unreachable-requires
unreachable-requires c =
    let n = c.args.count - c.loop-done.done in
    let left : 0 < n = omega arith in
    no_front c.args.flow n (uses_of c.loop-done.slots.slots) left (subst (λ o. IsChain c.args.flow n (uses_of c.loop-done.slots.slots) o) c.in_default.is c.loop-done.invariant.is)

pub loop-done-preserved : goal.loop-done-preserved
loop-done-preserved c =
    let n = c.args.count - c.loop-done.done in
    let flow = c.args.flow in
    let i = c.in-Some.i in
    let old = c.loop-done.slots.slots in
    let new = c.unlink-slot.new.slots.slots in
    let slot = c.unlink-slot.result in
    let out = c.unlink-slot.ensures in
    let inv = c.loop-done.invariant in
    let left : 0 < n = omega arith in
    let chain = subst (λ o. IsChain flow n (uses_of old) o) c.in-Some.is inv.is in
    let front = front_of flow n (uses_of old) i left chain in
    let there : get_or (uses_of old) i None ≡ Some (use_of slot) = uses_at old i ∙ ap (option_map use_of) out.value in
    let same : front.one ≡ use_of slot = some_use front.one (use_of slot) (sym front.there ∙ there) in
    let mine : slot.flow ≡ flow = sym (ap (λ u. u.flow) same) ∙ front.mine in
    let rest = chain_rest flow n i (uses_of old) (uses_of new) left chain out.others (use_of slot) there in
    let over : resources n (uses_of old) c.loop-done.at ≡ slot.resource ∷ resources (n - 1) (uses_of new) slot.next_of_flow =
    ap (λ o. resources n (uses_of old) o) c.in-Some.is ∙ subst (λ u. resources n (uses_of old) (Some i) ≡ u.resource ∷ resources (n - 1) (uses_of old) u.next_of_flow) same front.what ∙ ap (λ l. slot.resource ∷ l) (sym rest.over) in
    let e : c.args.count - (c.loop-done.done + 1) ≡ n - 1 = omega arith in
    record {
      is = rw e rest.chain;
      kept = keeps_gone flow i (uses_of c.args.slots.now.slots) (uses_of old) (uses_of new) (use_of slot) inv.kept there mine out.others;
      lists = out.loses.lists;
      users = subst (λ k. AreLosing c.args.slots.now.slots new c.args.on.now c.unlink-slot.new.on flow (resources k (uses_of new) slot.next_of_flow) (resources c.args.count (uses_of c.args.slots.now.slots) c.args.first)) (sym e)
          (losing_more c.args.slots.now.slots old new c.args.on.now c.loop-done.on c.unlink-slot.new.on flow slot.resource (resources (n - 1) (uses_of new) slot.next_of_flow) (resources n (uses_of old) c.loop-done.at)
          (resources c.args.count (uses_of c.args.slots.now.slots) c.args.first) over inv.users (subst (λ f. LosesOne old new c.loop-done.on c.unlink-slot.new.on slot.resource f) mine out.loses));
      len = omega (arith, out.less.len, inv.len);
      capacity = sym out.less.capacity ∙ inv.capacity;
      on_len = c.unlink-slot.auto.on ∙ inv.on_len;
    }
  where
    some_use : (a b : Use) → Some a ≡ Some b → a ≡ b
    some_use a b e = cc e

pub returns-clause-users : goal.returns-clause-users
returns-clause-users c =
    let slots = c.loop-done.slots.slots in
    let rest = resources (c.args.count - c.loop-done.done) (uses_of slots) c.loop-done.at in
    lost_all c.args.slots.now.slots slots c.args.on.now c.loop-done.on c.args.flow rest (resources c.args.count (uses_of c.args.slots.now.slots) c.args.first)
    (resources_none (c.args.count - c.loop-done.done) (uses_of slots) c.loop-done.at (omega arith)) c.loop-done.invariant.users

pub returns-clause-less : goal.returns-clause-less
returns-clause-less c = record { len = omega (arith, c.loop-done.invariant.len); capacity = sym c.loop-done.invariant.capacity }
