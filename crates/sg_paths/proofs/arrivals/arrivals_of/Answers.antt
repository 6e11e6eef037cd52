-- One route more is noted.
use Rattle.std.proofs.Common.{◌≡◌, ◌<◌, ◌+◌, ◌∷◌, [], ℕ, List, length, get_or, sym, subst, ap, ◌∙◌, arith, length-append}
use Rattle.std.proofs.Math.ListN.{length-set}
use Rattle.std.proofs.lemmas.Option.{slice_get-get_or}
use Rattle.sg_paths.specs.declared.route.PathRoute.{PathRoute}
use Rattle.sg_paths.specs.Arrivals.{IsLast, to_at}
use Rattle.sg_paths.proofs.AheadLemmas.{got}
use Rattle.sg_paths.proofs.ArrivalLemmas.{befores_more, lasts_more, leads_to}
use Rattle.sg_paths.proofs.arrivals.arrivals_of.Goals as goal

pub loop-i-preserved : goal.loop-i-preserved
loop-i-preserved c =
    let inv = c.loop-i.invariant in
    let i : ℕ = c.loop-i.i in
    let route : PathRoute = get_or c.args.routes.now i c.index-routes-i.result in
    let below : i < length c.args.routes.now = c.loop-i-test.true in
    let leads : to_at c.args.routes.now i ≡ route.to = leads_to c.args.routes.now i c.index-routes-i.result below in
    let within : route.to < c.args.points = (c.requires i route (slice_get-get_or c.args.routes.now i c.index-routes-i.result below)).1 in
    let inside : route.to < length c.loop-i.last.items = let n = inv.lasts in omega (arith, n, within) in
    let at : c.index.result.now ≡ get_or c.loop-i.last.items route.to 0 = c.index.ensures ∙ got c.loop-i.last.items route.to _ 0 inside in
    let P : ℕ → Type 0 = λ k. IsLast c.args.routes.now (to_at c.args.routes.now i) i k in
    let Q : ℕ → Type 0 = λ v. IsLast c.args.routes.now v i (get_or c.loop-i.last.items route.to 0) in
    let last = subst P (sym at) (subst Q (sym leads) (inv.last route.to within)) in
    let pushed = c.push_reserved.ensures.items in
    let R : List ℕ → Type 0 = λ xs. (k : ℕ) → k < i + 1 → IsLast c.args.routes.now (to_at c.args.routes.now k) k (get_or xs k 0) in
    record {
      lasts = length-set c.loop-i.last.items route.to (i + 1) ∙ inv.lasts;
      befores = ap (length {A = ℕ}) pushed ∙ length-append c.loop-i.before.items (c.index.result.now ∷ []) ∙ (let n = inv.befores in omega (arith, n));
      room = let r = inv.room in let k = c.push_reserved.ensures.capacity in omega (arith, r, k);
      last = λ point few. lasts_more c.args.routes.now c.loop-i.last.items i route.to point leads (let n = inv.lasts in omega (arith, n, few)) (inv.last point few);
      before = subst R (sym pushed) (λ k few. befores_more c.args.routes.now c.loop-i.before.items i c.index.result.now k inv.befores inv.before last few);
    }
