use Rattle.std.proofs.Common.{◌≡◌, ◌<◌, true, length, get_or, below_more, refl, subst, arith}
use Rattle.std.proofs.lemmas.List.Elements.{All-get_or}
use Rattle.sg_base.specs.MarkSet.{is_in}
use Rattle.sg_maxmin_solve.proofs.Filled.{fills_none, fills_on}
use Rattle.sg_maxmin_solve.proofs.Growing.{stays}
use Rattle.sg_maxmin.proofs.Listed.{at_in, in_at}
use Rattle.sg_maxmin_solve.proofs.by_part.fill_on_all.Goals as goal

pub loop-c-init : goal.loop-c-init
loop-c-init g c = record {
  on = fills_none c.args.system.now c.args.component.now c.args.filling.now c.args.steps.now c.requires.filled;
  done = λ i h. absurd (omega (arith, h));
  least = λ p q along those t r. (t, r);
}

pub fill_on-requires : goal.fill_on-requires
fill_on-requires g c = record {
  filled = c.loop-c.invariant.on.filled;
  exists = All-get_or (λ x. x < length c.args.system.now.capacities) c.args.resources.now c.loop-c.c-index 0 c.loop-c-test.true c.requires.resources;
}

pub loop-c-preserved : goal.loop-c-preserved
loop-c-preserved g c =
    let s = c.args.system.now in
    let inv = c.loop-c.invariant in
    let out = c.fill_on.ensures in
    let items = c.args.resources.now in
    let k = c.loop-c.c-index in
    let n = get_or items k 0 in
    let first = c.args.component.now in
    let old = c.loop-c.component in
    let new = c.fill_on.new.component in
    record {
      on = fills_on s first old new c.loop-c.filling c.fill_on.new.filling c.args.steps.now c.loop-c.steps c.fill_on.new.steps inv.on out.on;
      done = below_more _ _ (λ i h. stays (get_or items i 0) old.reached.members new.reached.members out.on.reached (inv.done i h)) out.there;
      least = λ p q along those t r.
          let b = inv.least p q along those t r in
          out.least p q along (those n (in_at n items k c.loop-c-test.true refl)) b.0 b.1;
    }

pub returns : goal.returns
returns g c = record {
  on = c.loop-c.invariant.on;
  there = λ x e.
      let at = at_in x c.args.resources.now e in
      subst (λ n. is_in n c.loop-c.component.reached.members ≡ true) at.2 (c.loop-c.invariant.done at.0 (omega (arith, at.1, c.loop-c-test.false)));
  least = c.loop-c.invariant.least;
}
