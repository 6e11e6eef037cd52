use Rattle.std.proofs.Common.{◌≡◌, ◌<◌, ◌≤◌, ◌+◌, suc, length, length-set, get_or, set, take, refl, subst, ◌∙◌, arith}
use Rattle.std.proofs.lemmas.Grind.{get_or_default_zero}
use Rattle.std.proofs.lemmas.List.Elements.{All-get_or}
use Rattle.sg_maxmin.specs.Chained.{times}
use Rattle.sg_maxmin.proofs.Listed.{take_all}
use Rattle.sg_maxmin_levels.proofs.Shifting.{count_more}
use Rattle.sg_maxmin_levels.proofs.changes.count_in.Goals as goal

pub loop-resource-preserved : goal.loop-resource-preserved
loop-resource-preserved c =
    let row = c.args.uses.now in
    let k = c.loop-resource.resource-index in
    let inv = c.loop-resource.invariant in
    let first = c.args.counts.now.items in
    let now = c.loop-resource.counts.items in
    let one = get_or row k 0 in
    let v = c.saturating_add.result in
    let less = c.loop-resource-test.true in
    let below : get_or row k 0 < length first = All-get_or (λ n. n < length first) row k 0 less c.requires in
    let here : get_or row k 0 < length now = omega (arith, below, inv.places) in
    let read : c.index.result.now ≡ get_or now one 0 = c.index.ensures ∙ get_or_default_zero now one c.index.result.now here in
    let few : v ≤ get_or now one 0 + 1 = omega (arith, c.saturating_add.ensures, read) in
    let next : suc k ≡ k + 1 = omega arith in
    record {
      places = length-set now one v ∙ inv.places;
      most = λ n. subst (λ m. get_or (set now one v) n 0 ≤ get_or first n 0 + times n (take m row)) next (count_more first now row k one v less refl here few inv.most n);
    }

pub returns-clause-most : goal.returns-clause-most
returns-clause-most c = λ n.
    let all = take_all c.args.uses.now c.loop-resource.resource-index (omega (arith, c.loop-resource-test.false, c.loop-resource.auto.resource-index-end)) in
    subst (λ xs. get_or c.loop-resource.counts.items n 0 ≤ get_or c.args.counts.now.items n 0 + times n xs) all (c.loop-resource.invariant.most n)
