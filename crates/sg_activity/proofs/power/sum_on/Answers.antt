use Rattle.std.proofs.Common.{◌≡◌, ◌<◌, suc, [], ◌∷◌, ◌++◌, length, take, get_or, unwrap_or, sym, ap, ◌∙◌, arith}
use Rattle.std.proofs.Math.Seq.{take-suc}
use Rattle.std.proofs.lemmas.List.{take_all}
use Rattle.std.proofs.lemmas.List.Elements.{All-get_or}
use Rattle.sg_maxmin.specs.Chained.{users_on}
use Rattle.sg_maxmin.specs.Walk.{next_on, user_of}
use Rattle.sg_maxmin.proofs.Walked.{can_look, looked, walk_on, nearer, walked}
use Rattle.sg_activity.specs.kept.Metered.{rate_of, rates_of, total, with_one}
use Rattle.sg_activity_table.specs.Pool.{slot_at}
use Rattle.sg_activity.proofs.Loaded.{sum_within, total_on}
use Rattle.sg_activity.proofs.power.sum_on.Goals as goal

pub look-one-requires : goal.look-one-requires
look-one-requires c =
    let i = c.args.kept.now.index in
    let inv = c.loop-at.invariant in
    can_look next_on user_of i.uses (users_on i.users c.args.thing) inv.0 c.loop-at.at inv.1.walk c.in-Some.i c.in-Some.is

pub with_rate-sum-requires-clause-key : goal.with_rate-sum-requires-clause-key
with_rate-sum-requires-clause-key c =
    let i = c.args.kept.now.index in
    let inv = c.loop-at.invariant in
    let r = looked next_on user_of i.uses (users_on i.users c.args.thing) inv.0 c.loop-at.at inv.1.walk c.in-Some.i c.look-one.result c.in-Some.is c.look-one.ensures in
    let below : get_or (users_on i.users c.args.thing) inv.0 0 < length c.args.kept.now.lives.slots = All-get_or (λ n. n < length c.args.kept.now.lives.slots) (users_on i.users c.args.thing) inv.0 0 r.less c.requires.keys in
    omega (arith, below, r.is)

pub with_rate-sum-requires-clause-fits : goal.with_rate-sum-requires-clause-fits
with_rate-sum-requires-clause-fits c =
    let i = c.args.kept.now.index in
    let slots = c.args.kept.now.lives.slots in
    let row = users_on i.users c.args.thing in
    let inv = c.loop-at.invariant in
    let r = looked next_on user_of i.uses row inv.0 c.loop-at.at inv.1.walk c.in-Some.i c.look-one.result c.in-Some.is c.look-one.ensures in
    let sum : unwrap_or c.loop-at.sum 0 ≡ unwrap_or (total (rates_of slots (take inv.0 row))) 0 = ap (λ o. unwrap_or o 0) inv.1.sum in
    let rate : unwrap_or (rate_of (slot_at slots c.look-one.result.flow)) 0 ≡ unwrap_or (rate_of (slot_at slots (get_or row inv.0 0))) 0 = ap (λ n. unwrap_or (rate_of (slot_at slots n)) 0) r.is in
    omega (arith, sum, rate, sum_within slots row inv.0 r.less, c.requires.fits)

pub loop-at-smaller : goal.loop-at-smaller
loop-at-smaller c =
    let i = c.args.kept.now.index in
    let inv = c.loop-at.invariant in
    nearer next_on user_of i.uses (users_on i.users c.args.thing) inv.0 c.loop-at.at inv.1.walk c.in-Some.i c.look-one.result c.in-Some.is c.look-one.ensures

pub loop-at-preserved : goal.loop-at-preserved
loop-at-preserved c =
    let i = c.args.kept.now.index in
    let slots = c.args.kept.now.lives.slots in
    let row = users_on i.users c.args.thing in
    let inv = c.loop-at.invariant in
    let k = inv.0 in
    let r = looked next_on user_of i.uses row k c.loop-at.at inv.1.walk c.in-Some.i c.look-one.result c.in-Some.is c.look-one.ensures in
    let more : take k row ++ c.look-one.result.flow ∷ [] ≡ take (suc k) row = ap (λ n. take k row ++ n ∷ []) r.is ∙ sym (take-suc row k 0 r.less) in (
      suc k,
      record {
        walk = walk_on next_on user_of i.uses row k c.loop-at.at inv.1.walk c.in-Some.i c.look-one.result c.in-Some.is c.look-one.ensures;
        sum =
            c.with_rate-sum.ensures
            ∙ ap (λ o. with_one o (rate_of (slot_at slots c.look-one.result.flow))) inv.1.sum
            ∙ sym (total_on slots (take k row) c.look-one.result.flow)
            ∙ ap (λ l. total (rates_of slots l)) more;
      },
    )

pub returns : goal.returns
returns c =
    let i = c.args.kept.now.index in
    let row = users_on i.users c.args.thing in
    let inv = c.loop-at.invariant in
    let end = walked next_on user_of i.uses row inv.0 c.loop-at.at inv.1.walk c.in_default.not-Some in
    inv.1.sum ∙ ap (λ l. total (rates_of c.args.kept.now.lives.slots l)) (take_all inv.0 row (omega (arith, end)))
