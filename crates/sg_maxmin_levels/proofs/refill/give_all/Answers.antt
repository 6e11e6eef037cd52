use Rattle.std.proofs.Common.{◌≡◌, true, false, IsSome, length, get_or, take, refl, ap, subst, arith}
use Rattle.std.proofs.lemmas.List.Elements.{All-get_or}
use Rattle.sg_maxmin.specs.Sharing.{flow_at, uses_at}
use Rattle.sg_maxmin.specs.Numbered.{all_uses}
use Rattle.sg_maxmin_levels.specs.Kept.{AreGiven, IsGiven}
use Rattle.sg_maxmin.proofs.Listed.{in_at, part_next, take_all}
use Rattle.sg_maxmin_levels.proofs.Noted.{noted_none, noted_on}
use Rattle.sg_maxmin.proofs.Users.{held_below}
use Rattle.sg_maxmin_levels.proofs.Refilling.{given_on, given_parts}
use Rattle.sg_maxmin_levels.proofs.refill.give_all.Goals as goal

pub loop-flow-init : goal.loop-flow-init
loop-flow-init g c = record {
  given = record { here = λ id i. absurd (no i); parts = λ id i. absurd (no i); others = λ id off. refl; other_parts = λ id off. refl; holds = refl; stale = refl };
  kept = c.requires.kept;
  moved = noted_none c.args.kept.now.moved c.args.kept.now.levels.items;
  within = λ p q along each are. are;
  looks = omega arith;
}
  where
    no : false ≡ true → ⊥
    no e = cc e

pub under-requires : goal.under-requires
under-requires g c =
    let s = c.args.system.now in
    let held = All-get_or (λ id. IsSome (flow_at s.slots id)) c.args.flows.now c.loop-flow.flow-index 0 c.loop-flow-test.true c.requires.held in
    omega (arith, held_below s.slots (get_or c.args.flows.now c.loop-flow.flow-index 0) held, c.requires.places)

pub give-requires : goal.give-requires
give-requires g c =
    let s = c.args.system.now in
    let flows = c.args.flows.now in
    let k = c.loop-flow.flow-index in
    let inv = c.loop-flow.invariant in
    let held = All-get_or (λ id. IsSome (flow_at s.slots id)) flows k 0 c.loop-flow-test.true c.requires.held in
    record {
      of = record { kept = inv.kept; held = held };
      part = λ off. given_parts s (take k flows) c.args.levels.now c.args.kept.now c.loop-flow.kept (get_or flows k 0) c.requires.parts inv.given held off;
    }

pub loop-flow-preserved : goal.loop-flow-preserved
loop-flow-preserved g c =
    let s = c.args.system.now in
    let flows = c.args.flows.now in
    let levels = c.args.levels.now in
    let k = c.loop-flow.flow-index in
    let less = c.loop-flow-test.true in
    let id = get_or flows k 0 in
    let inv = c.loop-flow.invariant in
    let first = c.args.kept.now in
    let before = c.loop-flow.kept in
    let after = c.give.new.kept in
    let out = c.give.ensures in
    record {
      given = given_on s flows levels k first before after less (subst (IsGiven s before after id) c.under.ensures out.given) inv.given;
      kept = out.moves.kept;
      moved = noted_on first.moved before.moved after.moved first.levels.items before.levels.items after.levels.items inv.moved out.moves.moved;
      within = λ p q along each are. out.moves.within p q along (each id (in_at id flows k less refl)) (inv.within p q along each are);
      looks = omega (arith, inv.looks, out.looks, part_next (λ n. length (uses_at s.slots n)) flows k less);
    }

pub returns-clause-given : goal.returns-clause-given
returns-clause-given g c =
    let all = take_all c.args.flows.now c.loop-flow.flow-index (omega (arith, c.loop-flow-test.false, c.loop-flow.auto.flow-index-end)) in
    subst (λ xs. AreGiven c.args.system.now xs c.args.levels.now c.args.kept.now c.loop-flow.kept) all c.loop-flow.invariant.given

pub returns-clause-looks : goal.returns-clause-looks
returns-clause-looks g c =
    let all = take_all c.args.flows.now c.loop-flow.flow-index (omega (arith, c.loop-flow-test.false, c.loop-flow.auto.flow-index-end)) in
    omega (arith, c.loop-flow.invariant.looks, ap (all_uses c.args.system.now.slots) all)
