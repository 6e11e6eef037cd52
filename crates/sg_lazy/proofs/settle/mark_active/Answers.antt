use Rattle.std.proofs.Common.{◌≡◌, ◌<◌, true, List, ℕ, length, get_or, below_more, sym, ap, subst, ◌∙◌, arith}
use Rattle.std.proofs.lemmas.List.Elements.{All-get_or}
use Rattle.sg_base.specs.MarkSet.{MarkSet, is_in, with_mark}
use Rattle.sg_maxmin_solve.specs.Component.{AllPass, Grows}
use Rattle.sg_maxmin_solve.proofs.Growing.{grows_on, grows_mark, stays, few_mark, pass_mark}
use Rattle.sg_maxmin.proofs.Listed.{mark_there}
use Rattle.sg_lazy.proofs.settle.mark_active.Goals as goal

pub insert-requires : goal.insert-requires
insert-requires c =
    let k = c.loop-resource.resource-index in
    let list = c.active-resource-items.result.now in
    let below : get_or list k 0 < c.args.levels.now.active.room = All-get_or (λ n. n < c.args.levels.now.active.room) list k 0 c.loop-resource-test.true c.active-resource-items.ensures.in_range in
    omega (arith, below, c.requires, c.loop-resource.invariant.room)

pub loop-resource-preserved : goal.loop-resource-preserved
loop-resource-preserved c =
    let inv = c.loop-resource.invariant in
    let k = c.loop-resource.resource-index in
    let row = c.args.levels.now.active.members in
    let at = c.active-resource-items.ensures.members in
    let less : k < length row = subst (λ (xs : List ℕ). k < length xs) at c.loop-resource-test.true in
    let old = c.loop-resource.resources.members in
    let number = get_or row k 0 in
    let e : c.insert.new.self.members ≡ with_mark number old = ap (λ (x : MarkSet). x.members) c.insert.ensures ∙ ap (λ (xs : List ℕ). with_mark (get_or xs k 0) old) at in
    record {
      grows = subst (λ xs. Grows c.args.resources.now.members xs) (sym e) (grows_on c.args.resources.now.members old (with_mark number old) inv.grows (grows_mark number old));
      room = ap (λ (x : MarkSet). x.room) c.insert.ensures ∙ inv.room;
      done = λ i h. below_more _ _ (λ i h. subst (λ xs. is_in (get_or row i 0) xs ≡ true) (sym e) (stays (get_or row i 0) old (with_mark number old) (grows_mark number old) (inv.done i h)))
          (subst (λ xs. is_in number xs ≡ true) (sym e) (mark_there number old)) i (omega (arith, h));
      few = omega (arith, ap length e, few_mark number old, inv.few);
      least = λ q all start. subst (AllPass q) (sym e) (pass_mark q number old (all k less) (inv.least q all start));
    }

pub returns : goal.returns
returns c =
    let inv = c.loop-resource.invariant in
    let end : c.loop-resource.resource-index ≡ length c.args.levels.now.active.members = omega (arith, c.loop-resource-test.false, c.loop-resource.auto.resource-index-end, ap length c.active-resource-items.ensures.members) in
    record {
      grows = inv.grows;
      marked = λ i h. inv.done i (omega (arith, h, end));
      room = inv.room;
      few = omega (arith, inv.few, end);
      least = inv.least;
    }
