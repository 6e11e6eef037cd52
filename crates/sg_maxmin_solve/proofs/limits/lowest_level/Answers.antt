use Rattle.std.proofs.Common.{◌≡◌, ◌+◌, suc, inl, inr, get_or, sym, subst, arith}
use Rattle.sg_maxmin.specs.Step.{IsLeast}
use Rattle.sg_maxmin_solve.specs.Filling.{waited_levels}
use Rattle.sg_maxmin_solve.proofs.Scanned.{IsScanned, scanned_all, scanned_idle, scanned_more, scanned_none}
use Rattle.sg_maxmin.proofs.Listed.{eq_cases, take_all}
use Rattle.sg_maxmin_solve.proofs.limits.lowest_level.Goals as goal

pub loop-k-init : goal.loop-k-init
loop-k-init c = scanned_none c.args.reached.now c.args.waiting.now c.args.levels.now

pub loop-k-preserved : goal.loop-k-preserved
loop-k-preserved c =
    let reached = c.args.reached.now in
    let waiting = c.args.waiting.now in
    let levels = c.args.levels.now in
    let k = c.loop-k.k in
    let out = c.with_resource-least.ensures in
    let next : suc k ≡ k + 1 = omega arith in
    subst (λ n. IsScanned reached waiting levels n c.with_resource-least.result) next (elim (eq_cases (get_or waiting (get_or reached k 0) 0) 0) [
      | inl z ↦ subst (IsScanned reached waiting levels (suc k)) (sym (out.idle z)) (scanned_idle reached waiting levels k c.loop-k-test.true c.loop-k.least z c.loop-k.invariant)
      | inr some ↦ scanned_more reached waiting levels k c.loop-k-test.true c.loop-k.least c.with_resource-least.result some (out.level some) (out.at some) c.loop-k.invariant
    ])

pub returns-clause-level : goal.returns-clause-level
returns-clause-level c =
    let reached = c.args.reached.now in
    let all = take_all reached c.loop-k.k (omega (arith, c.loop-k-test.false, c.loop-k.auto.k-end)) in
    subst (λ xs. IsLeast c.loop-k.least.level (waited_levels c.args.waiting.now c.args.levels.now xs)) all c.loop-k.invariant.level

pub returns-clause-at : goal.returns-clause-at
returns-clause-at c = scanned_all c.args.reached.now c.args.waiting.now c.args.levels.now c.loop-k.k c.loop-k.least (omega (arith, c.loop-k-test.false, c.loop-k.auto.k-end)) c.loop-k.invariant
