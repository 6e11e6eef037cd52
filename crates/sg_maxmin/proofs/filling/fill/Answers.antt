use Rattle.std.proofs.Common.{◌≡◌, ℕ, ◌+◌, ◌≤◌, ◌<◌, ◌⊎◌, inl, inr, length, mul-le-mul_right, count_by, is_some, sym, ap, subst, ◌∙◌, arith}
use Rattle.sg_maxmin.specs.Fixing.{steps_from, step, unfixed}
use Rattle.sg_maxmin.specs.Laws.{HaveLimits}
use Rattle.sg_maxmin.specs.Sharing.{held}
use Rattle.sg_maxmin.specs.kept.Uses.{flows_of}
use Rattle.sg_maxmin.specs.kept.Counting.{AreFixed, all_limits, count_of}
use Rattle.sg_maxmin.specs.Step.{IsLeast}
use Rattle.sg_maxmin.proofs.Counts.{rows_same}
use Rattle.sg_maxmin.proofs.FilledRows.{same_flows, unfix_same, unfix_fixed, length-held, levels_early, levels_end, step_is, same_trans, count_same, count_none}
use Rattle.sg_maxmin.proofs.Proved.{steps-next}
use Rattle.sg_maxmin.proofs.filling.fill.Goals as goal

pub loop-n-init : goal.loop-n-init
loop-n-init g c =
    let old = c.args.flows.now in
    let new = c.unfix_all.new.flows in
    record {
      same = unfix_same old new c.unfix_all.ensures.all;
      fixed = unfix_fixed c.args.capacities.now (held (flows_of new c.args.uses.now.uses)) c.args.uses.now.uses old new c.unfix_all.ensures.all;
      left_len = c.requires.left_len;
      waiting_len = c.requires.waiting_len;
      len = c.unfix_all.ensures.len;
      most = omega arith;
      grows = omega arith;
      looks = λ pos. absurd (omega (arith, pos));
    }

pub count_all-requires-clause-rows : goal.count_all-requires-clause-rows
count_all-requires-clause-rows g c = rows_same c.args.capacities.now c.args.uses.now.uses c.args.flows.now c.loop-n.flows c.loop-n.invariant.same c.requires.rows

pub lowest-requires : goal.lowest-requires
lowest-requires g c =
    record {
      rows = record {
        capacities = c.args.capacities.now;
        rows_are = rows_same c.args.capacities.now c.args.uses.now.uses c.args.flows.now c.loop-n.flows c.loop-n.invariant.same c.requires.rows;
        left_len = c.count_all.ensures.counted.left_len;
        waiting_len = c.count_all.ensures.counted.waiting_len;
      };
    }

pub fix_all-requires : goal.fix_all-requires
fix_all-requires g c =
    record {
      rows = record {
        capacities = c.args.capacities.now;
        rows_are = rows_same c.args.capacities.now c.args.uses.now.uses c.args.flows.now c.loop-n.flows c.loop-n.invariant.same c.requires.rows;
        left_len = c.count_all.ensures.counted.left_len;
        waiting_len = c.count_all.ensures.counted.waiting_len;
      };
    }

pub returns-in_default-clause-levels : goal.returns-in_default-clause-levels
returns-in_default-clause-levels g c =
    let uses = c.args.uses.now.uses in
    let old = c.args.flows.now in
    let now = c.loop-n.flows in
    let inv = c.loop-n.invariant in
    let first = c.unfix_all.new.flows in
    let same0 = same_flows uses old now inv.same inv.len in
    let limits : HaveLimits (held (flows_of now uses)) = subst (λ fs. HaveLimits (held fs)) (sym same0) c.requires.limits in
    let same1 = same_flows uses old first (unfix_same old first c.unfix_all.ensures.all) c.unfix_all.ensures.len in
    let many : length (held (flows_of now uses)) ≡ count_by is_some first = ap (λ fs. length (held fs)) (same0 ∙ sym same1) ∙ length-held first uses in
    let few : c.loop-n.n ≤ length (held (flows_of now uses)) = omega (arith, many, c.held-n-end.ensures, c.loop-n.auto.n-end) in
    levels_early c.loop-n.n c.args.capacities.now now uses c.count_all.new.left c.count_all.new.waiting (rows_same c.args.capacities.now uses old now inv.same c.requires.rows) limits few inv.fixed c.count_all.ensures.counted
    (subst (λ o. IsLeast o (all_limits c.count_all.new.left c.count_all.new.waiting uses now)) c.in_default.is c.lowest.ensures.least)

pub loop-n-preserved : goal.loop-n-preserved
loop-n-preserved g c =
    let uses = c.args.uses.now.uses in
    let caps = c.args.capacities.now in
    let old = c.args.flows.now in
    let now = c.loop-n.flows in
    let new = c.fix_all.new.flows in
    let inv = c.loop-n.invariant in
    let out = c.fix_all.ensures in
    let counted = c.count_all.ensures.counted in
    let flows = held (flows_of now uses) in
    let same_now : flows_of new uses ≡ flows_of now uses = same_flows uses now new out.same out.len in
    let stepped : AreFixed uses new (step caps flows (steps_from c.loop-n.n caps flows unfixed)) =
    step_is caps now new uses c.count_all.new.left c.count_all.new.waiting (steps_from c.loop-n.n caps flows unfixed) c.in-Some.low (rows_same caps uses old now inv.same c.requires.rows) inv.fixed counted
    (subst (λ o. IsLeast o (all_limits c.count_all.new.left c.count_all.new.waiting uses now)) c.in-Some.is c.lowest.ensures.least) out.all in
    record {
      same = same_trans old now new inv.same out.same;
      fixed = subst (λ fs. AreFixed uses new (steps_from (c.loop-n.n + 1) caps (held fs) unfixed)) (sym same_now) (subst (λ s. AreFixed uses new s) (sym (steps-next c.loop-n.n caps flows unfixed)) stepped);
      left_len = counted.left_len;
      waiting_len = counted.waiting_len;
      len = out.len ∙ inv.len;
      most = omega (arith, inv.most, c.count_all.ensures.looks, c.lowest.ensures.looks.most, out.looks.most, count_same old now inv.same inv.len);
      grows = omega (arith, inv.grows, c.count_all.ensures.looks, c.lowest.ensures.looks.least, out.looks.least);
      looks = λ pos. omega (arith, inv.grows, c.count_all.ensures.looks, c.lowest.ensures.looks.least, out.looks.least, count_same old now inv.same inv.len);
    }

pub returns-clause-levels : goal.returns-clause-levels
returns-clause-levels g c =
    let uses = c.args.uses.now.uses in
    let old = c.args.flows.now in
    let now = c.loop-n.flows in
    let inv = c.loop-n.invariant in
    let first = c.unfix_all.new.flows in
    let same0 = same_flows uses old now inv.same inv.len in
    let limits : HaveLimits (held (flows_of now uses)) = subst (λ fs. HaveLimits (held fs)) (sym same0) c.requires.limits in
    let same1 = same_flows uses old first (unfix_same old first c.unfix_all.ensures.all) c.unfix_all.ensures.len in
    let many : length (held (flows_of now uses)) ≡ count_by is_some first = ap (λ fs. length (held fs)) (same0 ∙ sym same1) ∙ length-held first uses in
    let all : c.loop-n.n ≡ length (held (flows_of now uses)) = omega (arith, many, c.held-n-end.ensures, c.loop-n.auto.n-end, c.loop-n-test.false) in
    levels_end c.args.capacities.now now uses limits (subst (λ k. AreFixed uses now (steps_from k c.args.capacities.now (held (flows_of now uses)) unfixed)) all inv.fixed)

pub returns-in_default-clause-looks : goal.returns-in_default-clause-looks
returns-in_default-clause-looks g c = omega (arith, c.loop-n.invariant.grows, c.count_all.ensures.looks, c.lowest.ensures.looks.least, count_same c.args.flows.now c.loop-n.flows c.loop-n.invariant.same c.loop-n.invariant.len)

pub returns-clause-looks : goal.returns-clause-looks
returns-clause-looks g c =
    let old = c.args.flows.now in
    let first = c.unfix_all.new.flows in
    elim (zero_or (count_by is_some first)) [
      | inl z ↦
          let none : count_of old ≡ 0 = sym (count_same old first (unfix_same old first c.unfix_all.ensures.all) c.unfix_all.ensures.len) ∙ count_none first z in
          omega (arith, c.loop-n.invariant.grows, none)
      | inr pos ↦
          let some : 0 < c.loop-n.n = omega (arith, pos, c.held-n-end.ensures, c.loop-n.auto.n-end, c.loop-n-test.false) in
          omega (arith, c.loop-n.invariant.looks some)
    ]
  where
    zero_or : (n : ℕ) → (n ≡ 0) ⊎ (0 < n)
    zero_or n = grind arith

pub returns-in_default-clause-most : goal.returns-in_default-clause-most
returns-in_default-clause-most g c =
    let old = c.args.flows.now in
    let now = c.loop-n.flows in
    let inv = c.loop-n.invariant in
    let first = c.unfix_all.new.flows in
    let same1 = same_flows c.args.uses.now.uses old first (unfix_same old first c.unfix_all.ensures.all) c.unfix_all.ensures.len in
    let many : length (held (flows_of old c.args.uses.now.uses)) ≡ count_by is_some first = ap (λ fs. length (held fs)) (sym same1) ∙ length-held first c.args.uses.now.uses in
    let few : c.loop-n.n ≤ length (held (flows_of old c.args.uses.now.uses)) = omega (arith, many, c.held-n-end.ensures, c.loop-n.auto.n-end) in
    omega (arith, inv.most, c.count_all.ensures.looks, c.lowest.ensures.looks.most, count_same old now inv.same inv.len, mul-le-mul_right (count_of old) few)

pub returns-clause-most : goal.returns-clause-most
returns-clause-most g c =
    let old = c.args.flows.now in
    let inv = c.loop-n.invariant in
    let first = c.unfix_all.new.flows in
    let same1 = same_flows c.args.uses.now.uses old first (unfix_same old first c.unfix_all.ensures.all) c.unfix_all.ensures.len in
    let many : length (held (flows_of old c.args.uses.now.uses)) ≡ count_by is_some first = ap (λ fs. length (held fs)) (sym same1) ∙ length-held first c.args.uses.now.uses in
    let few : c.loop-n.n ≤ length (held (flows_of old c.args.uses.now.uses)) = omega (arith, many, c.held-n-end.ensures, c.loop-n.auto.n-end) in
    omega (arith, inv.most, mul-le-mul_right (count_of old) few)

pub returns-clause-fit : goal.returns-clause-fit
returns-clause-fit g c = λ r. omega (arith, c.type_inv.capacities r)

pub returns-in_default-clause-fit : goal.returns-in_default-clause-fit
returns-in_default-clause-fit g c = λ r. omega (arith, c.type_inv.capacities r)
