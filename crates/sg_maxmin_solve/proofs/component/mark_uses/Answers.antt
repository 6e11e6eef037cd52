use Rattle.std.proofs.Common.{◌≡◌, suc, ◌<◌, true, length, get_or, below_more, sym, ap, subst, ◌∙◌, arith}
use Rattle.std.proofs.lemmas.List.Elements.{All-get_or}
use Rattle.sg_base.specs.MarkSet.{MarkSet, is_in, with_mark}
use Rattle.sg_maxmin.specs.Sharing.{uses_at}
use Rattle.sg_maxmin.specs.Walk.{next_of_flow, resource_of}
use Rattle.sg_maxmin_solve.specs.Component.{AllPass, Grows}
use Rattle.sg_maxmin_solve.proofs.Growing.{grows_on, grows_mark, stays, few_mark, pass_mark}
use Rattle.sg_maxmin.proofs.Walked.{can_look, looked, walk_on, nearer, walked}
use Rattle.sg_maxmin.proofs.Listed.{mark_there}
use Rattle.sg_maxmin_solve.proofs.component.mark_uses.Goals as goal

pub look-one-requires : goal.look-one-requires
look-one-requires g c =
    let s = c.args.system.now in
    let inv = c.loop-at.invariant in
    can_look next_of_flow resource_of s.uses (uses_at s.slots c.args.flow) inv.0 c.loop-at.at inv.1.walk c.in-Some.i c.in-Some.is

pub insert-requires : goal.insert-requires
insert-requires g c =
    let s = c.args.system.now in
    let row = uses_at s.slots c.args.flow in
    let inv = c.loop-at.invariant in
    let r = looked next_of_flow resource_of s.uses row inv.0 c.loop-at.at inv.1.walk c.in-Some.i c.look-one.result c.in-Some.is c.look-one.ensures.there in
    let below : get_or row inv.0 0 < c.args.reached.now.room = All-get_or (λ n. n < c.args.reached.now.room) row inv.0 0 r.less c.requires in
    omega (arith, below, r.is, inv.1.room)

pub loop-at-smaller : goal.loop-at-smaller
loop-at-smaller g c =
    let s = c.args.system.now in
    let inv = c.loop-at.invariant in
    nearer next_of_flow resource_of s.uses (uses_at s.slots c.args.flow) inv.0 c.loop-at.at inv.1.walk c.in-Some.i c.look-one.result c.in-Some.is c.look-one.ensures.there

pub loop-at-preserved : goal.loop-at-preserved
loop-at-preserved g c =
    let s = c.args.system.now in
    let row = uses_at s.slots c.args.flow in
    let inv = c.loop-at.invariant in
    let k = inv.0 in
    let r = looked next_of_flow resource_of s.uses row k c.loop-at.at inv.1.walk c.in-Some.i c.look-one.result c.in-Some.is c.look-one.ensures.there in
    let old = c.loop-at.reached.members in
    let number = get_or row k 0 in
    let e : c.insert.new.self.members ≡ with_mark number old = ap (λ (x : MarkSet). x.members) c.insert.ensures ∙ ap (λ n. with_mark n old) r.is in (
      suc k,
      record {
        walk = walk_on next_of_flow resource_of s.uses row k c.loop-at.at inv.1.walk c.in-Some.i c.look-one.result c.in-Some.is c.look-one.ensures.there;
        grows = subst (λ xs. Grows c.args.reached.now.members xs) (sym e) (grows_on c.args.reached.now.members old (with_mark number old) inv.1.grows (grows_mark number old));
        room = ap (λ (x : MarkSet). x.room) c.insert.ensures ∙ inv.1.room;
        done = λ i h. below_more _ _ (λ i h. subst (λ xs. is_in (get_or row i 0) xs ≡ true) (sym e) (stays (get_or row i 0) old (with_mark number old) (grows_mark number old) (inv.1.done i h)))
            (subst (λ xs. is_in number xs ≡ true) (sym e) (mark_there number old)) i (omega (arith, h));
        few = omega (arith, ap length e, few_mark number old, inv.1.few);
        least = λ q all start. subst (AllPass q) (sym e) (pass_mark q number old (all k r.less) (inv.1.least q all start));
        looks = omega (arith, inv.1.looks, c.look-one.ensures.looks);
      },
    )

pub returns : goal.returns
returns g c =
    let s = c.args.system.now in
    let inv = c.loop-at.invariant in
    let end = walked next_of_flow resource_of s.uses (uses_at s.slots c.args.flow) inv.0 c.loop-at.at inv.1.walk c.in_default.not-Some in
    record {
      marks = record {
        grows = inv.1.grows;
        marked = λ i h. inv.1.done i (omega (arith, h, end));
        room = inv.1.room;
        few = omega (arith, inv.1.few, end);
        least = inv.1.least;
      };
      looks = omega (arith, inv.1.looks, end);
    }
