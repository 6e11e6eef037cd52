use Rattle.std.proofs.Common.{◌≡◌, ◌-◌, ◌^◌, ◌<◌, ◌≤◌, ◌⊎◌, inl, inr, ℕ, zero, suc, [], ◌∷◌, ◌++◌, List, length, take, sym, ap, ap₂, subst, ◌∙◌, refl, arith}
use Rattle.std.proofs.lemmas.List.{take_all}
use Rattle.sg_maxmin.specs.Walk.{next_of_flow, resource_of}
use Rattle.sg_maxmin.proofs.Walked.{can_look, looked, walk_on, nearer, walked}
use Rattle.sg_activity.specs.kept.Rows.{link_of, row_at, way_in}
use Rattle.sg_activity.proofs.Indexing.{behind_at, way_ends, way_few, way_more}
use Rattle.sg_activity.proofs.routes.write_way.Goals as goal

pub look-one-requires : goal.look-one-requires
look-one-requires c =
    let i = c.args.index.now in
    let inv = c.loop-at.invariant in
    can_look next_of_flow resource_of i.uses (row_at i.rows c.args.key) inv.0 c.loop-at.at inv.1.walk c.in-Some.i c.in-Some.is

pub put_link-requires-clause-room : goal.put_link-requires-clause-room
put_link-requires-clause-room c = λ from.
    let i = c.args.index.now in
    let row = row_at i.rows c.args.key in
    let inv = c.loop-at.invariant in
    let r = looked next_of_flow resource_of i.uses row inv.0 c.loop-at.at inv.1.walk c.in-Some.i c.look-one.result c.in-Some.is c.look-one.ensures in
    omega (arith, ap length inv.1.links, way_few c.args.hosts row inv.0, inv.1.place, from, r.less, c.requires.way.few)

pub put_link-requires-clause-behind : goal.put_link-requires-clause-behind
put_link-requires-clause-behind c = λ from.
    let i = c.args.index.now in
    let row = row_at i.rows c.args.key in
    let inv = c.loop-at.invariant in
    let r = looked next_of_flow resource_of i.uses row inv.0 c.loop-at.at inv.1.walk c.in-Some.i c.look-one.result c.in-Some.is c.look-one.ensures in
    subst (λ n. c.args.hosts ≤ n) (sym r.is) (behind_at (λ n. c.args.hosts ≤ n) row inv.0 (omega (arith, from, inv.1.place)) r.less c.requires.way.behind)

pub put_link-requires-clause-small : goal.put_link-requires-clause-small
put_link-requires-clause-small c = λ from.
    let i = c.args.index.now in
    let row = row_at i.rows c.args.key in
    let inv = c.loop-at.invariant in
    let r = looked next_of_flow resource_of i.uses row inv.0 c.loop-at.at inv.1.walk c.in-Some.i c.look-one.result c.in-Some.is c.look-one.ensures in
    subst (λ n. n - c.args.hosts < 2 ^ 32) (sym r.is) (behind_at (λ n. n - c.args.hosts < 2 ^ 32) row inv.0 (omega (arith, from, inv.1.place)) r.less c.requires.way.small)

pub overflow_add-place : goal.overflow_add-place
overflow_add-place c =
    let i = c.args.index.now in
    let inv = c.loop-at.invariant in
    let r = looked next_of_flow resource_of i.uses (row_at i.rows c.args.key) inv.0 c.loop-at.at inv.1.walk c.in-Some.i c.look-one.result c.in-Some.is c.look-one.ensures in
    omega (arith, inv.1.place, r.less, c.requires.way.few)

pub loop-at-smaller : goal.loop-at-smaller
loop-at-smaller c =
    let i = c.args.index.now in
    let inv = c.loop-at.invariant in
    nearer next_of_flow resource_of i.uses (row_at i.rows c.args.key) inv.0 c.loop-at.at inv.1.walk c.in-Some.i c.look-one.result c.in-Some.is c.look-one.ensures

-- it is one of the ends, or a link
early : (place : ℕ) → (place < 2) ⊎ (2 ≤ place)
early zero = inl (omega arith)
early (suc zero) = inl (omega arith)
early (suc (suc n)) = inr (omega arith)

pub loop-at-preserved : goal.loop-at-preserved
loop-at-preserved c =
    let i = c.args.index.now in
    let row = row_at i.rows c.args.key in
    let inv = c.loop-at.invariant in
    let k = inv.0 in
    let r = looked next_of_flow resource_of i.uses row k c.loop-at.at inv.1.walk c.in-Some.i c.look-one.result c.in-Some.is c.look-one.ensures in (
      suc k,
      record {
        walk = walk_on next_of_flow resource_of i.uses row k c.loop-at.at inv.1.walk c.in-Some.i c.look-one.result c.in-Some.is c.look-one.ensures;
        place = omega (arith, inv.1.place);
        links = elim (early c.loop-at.place) [
          | inl few ↦
              let at : k < 2 = omega (arith, few, inv.1.place) in
              c.put_link.ensures.end few ∙ inv.1.links ∙ none c.args.hosts row k at ∙ sym (way_ends c.args.hosts row k at)
          | inr from ↦
              c.put_link.ensures.link from ∙ ap₂ (λ l n. l ++ link_of c.args.hosts n ∷ []) inv.1.links r.is ∙ sym (way_more c.args.hosts row k (omega (arith, from, inv.1.place)) r.less)
        ];
      },
    )
  where
    none : (hosts : ℕ) (row : List ℕ) (k : ℕ) → k < 2 → way_in hosts (take k row) ≡ []
    none hosts row zero few = refl
    none hosts row (suc k) few = way_ends hosts row k (omega (arith, few))

pub returns : goal.returns
returns c =
    let i = c.args.index.now in
    let row = row_at i.rows c.args.key in
    let inv = c.loop-at.invariant in
    let end = walked next_of_flow resource_of i.uses row inv.0 c.loop-at.at inv.1.walk c.in_default.not-Some in
    inv.1.links ∙ ap (way_in c.args.hosts) (take_all inv.0 row (omega (arith, end)))
