-- One route more enters, or is passed.
use Rattle.std.proofs.Common.{◌≡◌, ◌<◌, ◌-◌, ℕ, length, get_or, sym, subst, ◌∙◌, arith}
use Rattle.sg_paths.specs.Arrivals.{IsLast, to_at}
use Rattle.sg_paths.proofs.AheadLemmas.{got, one_entered}
use Rattle.sg_paths.proofs.ahead.enter.Goals as goal

pub loop-next-preserved : goal.loop-next-preserved
loop-next-preserved c =
    let inv = c.loop-next.invariant in
    let n : ℕ = c.loop-next.next in
    let below : n - 1 < length c.args.routes.now = let w = inv.within in let some = c.loop-next-test.true in omega (arith, w, some) in
    let inside : n - 1 < length c.args.arrivals.now.before.items = let s = c.requires.arrivals.befores in omega (arith, s, below) in
    let next : c.index-next-in-loop-next.result.now ≡ get_or c.args.arrivals.now.before.items (n - 1) 0 =
    c.index-next-in-loop-next.ensures ∙ got c.args.arrivals.now.before.items (n - 1) _ 0 inside in
    let P : ℕ → Type 0 = λ k. IsLast c.args.routes.now (to_at c.args.routes.now (n - 1)) (n - 1) k in
    let last = subst P (sym next) (c.requires.arrivals.before (n - 1) below) in
    let here = inv.here c.loop-next-test.true in
    record {
      within = let w = last.within in omega (arith, w, below);
      here = λ some. last.here some ∙ here;
      entered = one_entered c.args.routes.now c.args.known.settled.now.items c.args.point n c.index-next-in-loop-next.result.now c.args.mark c.args.ahead.now c.loop-next.ahead c.enter_one.new.ahead
          c.loop-next-test.true inv.within here inv.entered last c.enter_one.ensures;
    }
