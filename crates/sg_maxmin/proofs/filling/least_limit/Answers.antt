use Rattle.std.proofs.Common.{◌≡◌, ℕ, ◌+◌, ◌-◌, ◌/◌, ◌<◌, ◌≤◌, List, ◌∷◌, ◌++◌, map, length, get_or, drop, take, take_all, Some, option_map, option_to_list, sym, ap, subst, ◌∙◌, arith}
use Rattle.std.proofs.lemmas.List.Elements.{All-same, All-tail}
use Rattle.sg_maxmin.specs.Fill.{bound_level}
use Rattle.sg_maxmin.specs.Chain.{resources}
use Rattle.sg_maxmin.specs.Step.{IsLeast, least_with}
use Rattle.sg_maxmin.proofs.ChainLemmas.{length-resources}
use Rattle.sg_maxmin.proofs.Counts.{limits_more, step_on}
use Rattle.sg_maxmin.proofs.filling.least_limit.Goals as goal

pub loop-done-preserved : goal.loop-done-preserved
loop-done-preserved g c =
    let slots = c.args.uses.now.uses in
    let all = resources c.args.row.count slots c.args.row.first in
    let n = c.args.row.count - c.loop-done.done in
    let slot = c.look-slot.result in
    let out = c.look-slot.ensures in
    let inv = c.loop-done.invariant in
    let left = c.args.counts.left.now in
    let waiting = c.args.counts.waiting.now in
    let e : c.args.row.count - (c.loop-done.done + 1) ≡ n - 1 = omega arith in
    let rest = resources (n - 1) slots slot.next_of_flow in
    let here : drop c.loop-done.done all ≡ slot.resource ∷ rest = sym inv.rest ∙ out.list in
    let lev : ℕ → ℕ = λ r. get_or left r 0 / get_or waiting r 0 in
    let is : c.smaller-least.result ≡ Some (least_with c.loop-done.least (lev slot.resource)) = c.smaller-least.ensures ∙ ap (λ v. Some (least_with c.loop-done.least v)) c.level_of-level.ensures in
    record {
      chain = rw e out.chain;
      in_left = rw e (All-tail (λ r. r < length left) slot.resource rest (All-same (λ r. r < length left) (slot.resource ∷ rest) (resources n slots c.loop-done.at) (sym out.list) inv.in_left));
      in_waiting = rw e (All-tail (λ r. r < length waiting) slot.resource rest (All-same (λ r. r < length waiting) (slot.resource ∷ rest) (resources n slots c.loop-done.at) (sym out.list) inv.in_waiting));
      rest = rw e (sym (step_on all c.loop-done.done slot.resource rest here).1);
      least = rw is (limits_more c.loop-done.least (option_to_list (option_map (bound_level c.args.row.weight) c.args.row.bound)) lev all c.loop-done.done slot.resource rest here inv.least);
      looks = omega (arith, inv.looks, c.look-slot.ensures.looks);
    }

pub returns-clause-least : goal.returns-clause-least
returns-clause-least g c =
    let all = resources c.args.row.count c.args.uses.now.uses c.args.row.first in
    let len : length all ≡ c.args.row.count = length-resources c.requires.left.chain.0 c.args.row.count c.args.uses.now.uses c.args.row.first c.requires.left.chain.1 in
    let whole : take c.loop-done.done all ≡ all = take_whole c.loop-done.done all (omega (arith, len)) in
    subst (λ ys. IsLeast c.loop-done.least (option_to_list (option_map (bound_level c.args.row.weight) c.args.row.bound) ++ map (λ r. get_or c.args.counts.left.now r 0 / get_or c.args.counts.waiting.now r 0) ys)) whole c.loop-done.invariant.least
  where
    take_whole : (k : ℕ) (xs : List ℕ) → length xs ≤ k → take k xs ≡ xs
    take_whole k xs h = grind (arith, take_all)
