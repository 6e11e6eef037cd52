use Rattle.std.proofs.Common.{◌≡◌, ◌<◌, ℕ, suc, None, Some, IsSome, List, [], ◌∷◌, ◌++◌, length, take, get_or, sym, ap, subst, ◌∙◌, arith}
use Rattle.std.proofs.Math.Seq.{take-suc}
use Rattle.std.proofs.lemmas.List.{take_all}
use Rattle.std.proofs.lemmas.List.Elements.{All-get_or}
use Rattle.sg_maxmin.specs.Chained.{users_on}
use Rattle.sg_maxmin.specs.declared.uses.Use.{Use}
use Rattle.sg_maxmin.specs.Walk.{next_on, user_of}
use Rattle.sg_maxmin.proofs.Walked.{can_look, looked, walk_on, nearer, walked}
use Rattle.sg_activity.specs.declared.activity_state.Kept.{Kept}
use Rattle.sg_activity.specs.kept.Bounds.{Rebounds}
use Rattle.sg_activity.specs.kept.Rows.{Indexed}
use Rattle.sg_activity.proofs.Bounds.{rebound_on, flows_still}
use Rattle.sg_activity.proofs.capacities.update_bounds.Goals as goal

-- the index stays
index_same : (old new : Kept) (keys : List ℕ) → Rebounds old new keys → new.index ≡ old.index
index_same old new keys by = ap (λ (k : Kept). k.index) by.rest

-- so what is visited stood there at first
there : (old new : Kept) (keys : List ℕ) (i : ℕ) (one : Use) → Rebounds old new keys → get_or new.index.uses i None ≡ Some one → get_or old.index.uses i None ≡ Some one
there old new keys i one by is = ap (λ (x : Indexed). get_or x.uses i None) (sym (index_same old new keys by)) ∙ is

pub look-one-requires : goal.look-one-requires
look-one-requires c =
    let i = c.args.kept.now.index in
    let inv = c.loop-at.invariant in
    let keys = take inv.0 (users_on i.users c.args.thing) in
    subst (λ (x : Indexed). IsSome (get_or x.uses c.in-Some.i None)) (sym (index_same c.args.kept.now c.loop-at.kept keys inv.1.rebounds))
    (can_look next_on user_of i.uses (users_on i.users c.args.thing) inv.0 c.loop-at.at inv.1.walk c.in-Some.i c.in-Some.is)

pub update_bound-requires-clause-key : goal.update_bound-requires-clause-key
update_bound-requires-clause-key c =
    let i = c.args.kept.now.index in
    let inv = c.loop-at.invariant in
    let r = looked next_on user_of i.uses (users_on i.users c.args.thing) inv.0 c.loop-at.at inv.1.walk c.in-Some.i c.look-one.result c.in-Some.is (there c.args.kept.now c.loop-at.kept (take inv.0 (users_on i.users c.args.thing)) c.in-Some.i c.look-one.result inv.1.rebounds c.look-one.ensures) in
    let below : get_or (users_on i.users c.args.thing) inv.0 0 < length c.args.kept.now.lives.slots = All-get_or (λ n. n < length c.args.kept.now.lives.slots) (users_on i.users c.args.thing) inv.0 0 r.less c.requires.keys in
    omega (arith, below, r.is, ap (λ (k : Kept). length k.lives.slots) inv.1.rebounds.rest)

pub update_bound-requires-clause-flows : goal.update_bound-requires-clause-flows
update_bound-requires-clause-flows c =
    let inv = c.loop-at.invariant in
    flows_still c.args.kept.now c.loop-at.kept (take inv.0 (users_on c.args.kept.now.index.users c.args.thing)) c.requires.flows inv.1.rebounds

pub loop-at-smaller : goal.loop-at-smaller
loop-at-smaller c =
    let i = c.args.kept.now.index in
    let inv = c.loop-at.invariant in
    nearer next_on user_of i.uses (users_on i.users c.args.thing) inv.0 c.loop-at.at inv.1.walk c.in-Some.i c.look-one.result c.in-Some.is (there c.args.kept.now c.loop-at.kept (take inv.0 (users_on i.users c.args.thing)) c.in-Some.i c.look-one.result inv.1.rebounds c.look-one.ensures)

pub loop-at-preserved : goal.loop-at-preserved
loop-at-preserved c =
    let i = c.args.kept.now.index in
    let row = users_on i.users c.args.thing in
    let inv = c.loop-at.invariant in
    let k = inv.0 in
    let r = looked next_on user_of i.uses row k c.loop-at.at inv.1.walk c.in-Some.i c.look-one.result c.in-Some.is (there c.args.kept.now c.loop-at.kept (take inv.0 (users_on i.users c.args.thing)) c.in-Some.i c.look-one.result inv.1.rebounds c.look-one.ensures) in
    let more : take k row ++ c.look-one.result.flow ∷ [] ≡ take (suc k) row = ap (λ n. take k row ++ n ∷ []) r.is ∙ sym (take-suc row k 0 r.less) in (
      suc k,
      record {
        walk = walk_on next_on user_of i.uses row k c.loop-at.at inv.1.walk c.in-Some.i c.look-one.result c.in-Some.is (there c.args.kept.now c.loop-at.kept (take inv.0 (users_on i.users c.args.thing)) c.in-Some.i c.look-one.result inv.1.rebounds c.look-one.ensures);
        rebounds = subst (Rebounds c.args.kept.now c.update_bound.new.kept) more (rebound_on c.args.kept.now c.loop-at.kept c.update_bound.new.kept (take k row) c.look-one.result.flow inv.1.rebounds c.update_bound.ensures);
      },
    )

pub returns : goal.returns
returns c =
    let i = c.args.kept.now.index in
    let row = users_on i.users c.args.thing in
    let inv = c.loop-at.invariant in
    let end = walked next_on user_of i.uses row inv.0 c.loop-at.at inv.1.walk c.in_default.not-Some in
    subst (Rebounds c.args.kept.now c.loop-at.kept) (take_all inv.0 row (omega (arith, end))) inv.1.rebounds
