use Rattle.std.proofs.Common.{◌≡◌, ℕ, ◌+◌, ◌-◌, ◌*◌, ◌<◌, All, [], ◌∷◌, length, length-set, get_or, refl, sym, ap, subst, ◌∙◌, arith}
use Rattle.std.proofs.lemmas.List.Elements.{All-same, All-tail, All-head}
use Rattle.sg_maxmin.specs.Fill.{bounded}
use Rattle.sg_maxmin.specs.Chain.{resources}
use Rattle.sg_maxmin.specs.Chained.{times}
use Rattle.sg_maxmin.proofs.ChainLemmas.{resources_none}
use Rattle.sg_maxmin.specs.kept.Uses.{IsOneChain}
use Rattle.sg_maxmin.proofs.Counts.{off_more, cut_times}
use Rattle.sg_maxmin.proofs.filling.take_off.Goals as goal

pub loop-done-init : goal.loop-done-init
loop-done-init g c =
    let uses = c.args.uses.now.uses in
    let first = c.args.row.first in
    let e : c.args.row.count ≡ c.args.row.count - 0 = omega arith in
    record {
      chain = subst (λ n. IsOneChain n uses first) e c.requires.chain;
      exist = subst (λ n. All (λ r. r < length c.args.left.now) (resources n uses first)) e c.requires.exist;
      counts = λ r. subst (λ n. get_or c.args.left.now r 0 - times r (resources n uses first) * c.share_at-share.result ≡ get_or c.args.left.now r 0 - times r (resources c.args.row.count uses first) * c.share_at-share.result) e refl;
      fit = λ r. omega (arith, c.type_inv.left r);
      looks = omega arith;
    }

pub loop-done-preserved : goal.loop-done-preserved
loop-done-preserved g c =
    let slots = c.args.uses.now.uses in
    let n = c.args.row.count - c.loop-done.done in
    let w = c.loop-done.left in
    let slot = c.look-slot.result in
    let out = c.look-slot.ensures in
    let inv = c.loop-done.invariant in
    let e : c.args.row.count - (c.loop-done.done + 1) ≡ n - 1 = omega arith in
    let rest = resources (n - 1) slots slot.next_of_flow in
    let all = All-same (λ r. r < length w) (slot.resource ∷ rest) (resources n slots c.loop-done.at) (sym out.list) inv.exist in
    let here : slot.resource < length w = All-head (λ r. r < length w) slot.resource rest all in
    let share = c.share_at-share.result in
    let v = c.saturating_sub.result in
    record {
      chain = rw e out.chain;
      exist = rw (e, length-set w slot.resource v) (All-tail (λ r. r < length w) slot.resource rest all);
      counts = λ r. rw (e, c.saturating_sub.ensures) (off_more w slot.resource share rest r here ∙ ap (λ list. get_or w r 0 - times r list * share) (sym out.list) ∙ inv.counts r);
      fit = inv.fit;
      looks = omega (arith, inv.looks, c.look-slot.ensures.looks);
    }

pub returns-clause-counts : goal.returns-clause-counts
returns-clause-counts g c = λ r.
    let all = resources c.args.row.count c.args.uses.now.uses c.args.row.first in
    let none : resources (c.args.row.count - c.loop-done.done) c.args.uses.now.uses c.loop-done.at ≡ [] = resources_none (c.args.row.count - c.loop-done.done) c.args.uses.now.uses c.loop-done.at (omega arith) in
    let share = c.share_at-share.result in
    minus_none (get_or c.loop-done.left r 0) share ∙ ap (λ list. get_or c.loop-done.left r 0 - times r list * share) (sym none) ∙ c.loop-done.invariant.counts r
    ∙ ap (λ s. get_or c.args.left.now r 0 - times r all * s) c.share_at-share.ensures.capped
    ∙ cut_times (get_or c.args.left.now r 0) (times r all) (bounded c.args.row.bound (c.args.row.weight * c.args.level)) (c.loop-done.invariant.fit r)
  where
    minus_none : (a s : ℕ) → a ≡ a - 0 * s
    minus_none a s = omega arith

pub bounds-left-resource-in-loop-done : goal.bounds-left-resource-in-loop-done
bounds-left-resource-in-loop-done g c =
    let uses = c.args.uses.now.uses in
    let n = c.args.row.count - c.loop-done.done in
    let slot = c.look-slot.result in
    let rest = resources (n - 1) uses slot.next_of_flow in
    All-head (λ r. r < length c.loop-done.left) slot.resource rest
    (All-same (λ r. r < length c.loop-done.left) (slot.resource ∷ rest) (resources n uses c.loop-done.at) (sym c.look-slot.ensures.list) c.loop-done.invariant.exist)

pub offset_bounds-left-resource-in-loop-done : goal.offset_bounds-left-resource-in-loop-done
offset_bounds-left-resource-in-loop-done g c =
    let uses = c.args.uses.now.uses in
    let n = c.args.row.count - c.loop-done.done in
    let slot = c.look-slot.result in
    let rest = resources (n - 1) uses slot.next_of_flow in
    let here : slot.resource < length c.loop-done.left = All-head (λ r. r < length c.loop-done.left) slot.resource rest
    (All-same (λ r. r < length c.loop-done.left) (slot.resource ∷ rest) (resources n uses c.loop-done.at) (sym c.look-slot.ensures.list) c.loop-done.invariant.exist) in
    omega (arith, here)
