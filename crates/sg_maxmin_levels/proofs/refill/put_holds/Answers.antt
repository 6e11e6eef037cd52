use Rattle.std.proofs.Common.{◌≡◌, ◌<◌, true, false, length, get_or, set, refl, ap, subst, ◌∙◌, arith}
use Rattle.std.proofs.lemmas.List.Elements.{All-get_or}
use Rattle.sg_maxmin_levels.specs.Kept.{AreHeldAt}
use Rattle.sg_maxmin.proofs.Listed.{take_all}
use Rattle.sg_maxmin_levels.proofs.Refilling.{held_on}
use Rattle.sg_maxmin_levels.proofs.refill.put_holds.Goals as goal

pub loop-resource-init : goal.loop-resource-init
loop-resource-init c = record {
  here = λ r i. absurd (no i);
  others = λ r off. refl;
  flows = record { levels = refl; parts = refl; moved = refl; stale = refl; longest = refl; demands = refl; counts = refl; holds = refl; active = refl };
}
  where
    no : false ≡ true → ⊥
    no e = cc e

pub under-requires : goal.under-requires
under-requires c = All-get_or (λ r. r < length c.args.holds.now) c.args.resources.now c.loop-resource.resource-index 0 c.loop-resource-test.true c.requires.exist

pub put_hold-requires : goal.put_hold-requires
put_hold-requires c =
    let below : get_or c.args.resources.now c.loop-resource.resource-index 0 < length c.args.holds.now = All-get_or (λ r. r < length c.args.holds.now) c.args.resources.now c.loop-resource.resource-index 0 c.loop-resource-test.true c.requires.exist in
    omega (arith, below, c.requires.holds, c.loop-resource.invariant.flows.holds)

pub loop-resource-preserved : goal.loop-resource-preserved
loop-resource-preserved c =
    let resources = c.args.resources.now in
    let holds = c.args.holds.now in
    let k = c.loop-resource.resource-index in
    let n = get_or resources k 0 in
    let inv = c.loop-resource.invariant in
    let old = c.loop-resource.kept in
    let new = c.put_hold.new.kept in
    let out = c.put_hold.ensures in
    let below : n < length holds = All-get_or (λ r. r < length holds) resources k 0 c.loop-resource-test.true c.requires.exist in
    held_on resources holds k c.args.kept.now old new c.loop-resource-test.true (omega (arith, below, c.requires.holds, inv.flows.holds))
    (out.hold ∙ ap (set old.holds.items n) c.under.ensures)
    (record {
      levels = out.flows.levels ∙ inv.flows.levels;
      parts = out.flows.parts ∙ inv.flows.parts;
      moved = out.flows.moved ∙ inv.flows.moved;
      stale = out.flows.stale ∙ inv.flows.stale;
      longest = out.flows.longest ∙ inv.flows.longest;
      demands = out.flows.demands ∙ inv.flows.demands;
      counts = out.flows.counts ∙ inv.flows.counts;
      holds = out.flows.holds ∙ inv.flows.holds;
      active = out.flows.active ∙ inv.flows.active;
    }) inv

pub returns : goal.returns
returns c =
    let all = take_all c.args.resources.now c.loop-resource.resource-index (omega (arith, c.loop-resource-test.false, c.loop-resource.auto.resource-index-end)) in
    subst (λ xs. AreHeldAt xs c.args.holds.now c.args.kept.now c.loop-resource.kept) all c.loop-resource.invariant
