use Rattle.std.proofs.Common.{◌≡◌, suc, ◌-◌, None, [], ◌∷◌, option_map, length, get_or, drop, drop_of_length-le, refl, sym, ap, subst, ◌∙◌, arith}
use Rattle.sg_maxmin.specs.declared.uses.Use.{Use}
use Rattle.sg_maxmin.specs.kept.Linked.{AreGained, use_of, uses_of}
use Rattle.sg_maxmin.proofs.LinkLemmas.{uses_at}
use Rattle.sg_maxmin.proofs.ChainLemmas.{chain_none, chain_front, keeps_free, gained_none, gained_more, drop_back}
use Rattle.sg_maxmin.proofs.chains.add_uses.Goals as goal

pub loop-left-init : goal.loop-left-init
loop-left-init c =
    let uses = c.args.uses.now in
    let slots = c.args.slots.now.slots in
    let none = chain_none c.args.flow (length uses - length uses) (uses_of slots) (omega arith) in
    let done : drop (length uses) uses ≡ [] = drop_of_length-le uses (omega arith) in
    record {
      within = omega arith;
      is = none.0;
      over = none.1 ∙ sym done;
      kept = λ other n at away h. record { chain = h; over = refl };
      lists = c.requires.can.lists;
      users = gained_none slots c.args.on.now c.args.flow (drop (length uses) uses) done;
      len = refl;
      capacity = refl;
      on_len = refl;
      small = tt;
    }

pub loop-left-preserved : goal.loop-left-preserved
loop-left-preserved c =
    let uses = c.args.uses.now in
    let at = c.loop-left.left in
    let inv = c.loop-left.invariant in
    let out = c.link.ensures in
    let i = c.link.result in
    let flow = c.args.flow in
    let old = c.loop-left.slots.slots in
    let new = c.link.new.slots.slots in
    let r = get_or uses (at - 1) 0 in
    let free : get_or (uses_of old) i None ≡ None = uses_at old i ∙ ap (option_map use_of) out.free in
    let made : Use = record { flow = flow; resource = r; next_of_flow = c.loop-left.first; next_on = None } in
    let front = chain_front flow (length uses - at) i r (uses_of old) (uses_of new) made c.loop-left.first inv.is free out.made out.others refl refl refl in
    let e : length uses - (at - 1) ≡ suc (length uses - at) = omega (arith, inv.within, c.loop-left-test.true) in
    let back : drop (at - 1) uses ≡ r ∷ drop at uses = drop_back uses at c.loop-left-test.true inv.within in
    record {
      within = omega (arith, inv.within);
      is = rw e front.0;
      over = rw e (front.1 ∙ ap (λ l. r ∷ l) inv.over ∙ sym back);
      kept = keeps_free flow i (uses_of c.args.slots.now.slots) (uses_of old) (uses_of new) inv.kept free out.others;
      lists = out.gains.lists;
      users = subst (λ l. AreGained c.args.slots.now.slots new c.args.on.now c.link.new.on flow l) (sym back)
          (gained_more c.args.slots.now.slots old new c.args.on.now c.loop-left.on c.link.new.on flow r (drop at uses) inv.users out.gains);
      len = omega (arith, inv.len, out.more.len, c.loop-left-test.true);
      capacity = out.more.capacity ∙ inv.capacity;
      on_len = c.link.auto.on ∙ inv.on_len;
      small = out.small;
    }

pub link-requires-clause-next : goal.link-requires-clause-next
link-requires-clause-next c = c.loop-left.invariant.small

pub link-requires-clause-can : goal.link-requires-clause-can
link-requires-clause-can c =
    let inv = c.loop-left.invariant in
    record {
      lists = inv.lists;
      few = omega (arith, inv.on_len, c.requires.can.few);
      room = omega (arith, inv.len, inv.capacity, c.requires.can.room, c.loop-left-test.true);
    }

pub returns-clause-more : goal.returns-clause-more
returns-clause-more c = record { len = omega (arith, c.loop-left.invariant.len, c.loop-left-test.false); capacity = c.loop-left.invariant.capacity }
