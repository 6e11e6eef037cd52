-- The hop that is stored is right.
use Rattle.std.proofs.Common.{◌≡◌, ◌-◌, ◌<◌, ℕ, List, Some, sym, subst, ap, ◌∙◌, arith}
use Rattle.std.specs.Prelude.{slice_get}
use Rattle.sg_paths.specs.declared.trees.Hop.{Hop}
use Rattle.sg_paths.specs.Arrivals.{from_in}
use Rattle.sg_paths.specs.Trees.{AreOnward, IsOnward}
use Rattle.sg_paths.proofs.TreeLemmas.{item_there}
use Rattle.sg_paths.proofs.trees.hop_from.Goals as goal

pub returns-in-Some : goal.returns-in-Some
returns-in-Some c =
    let routes = c.args.routes.now in
    let hop : Hop = c.in_ok-hop.hop.now in
    let there : slice_get c.deref.result.now c.place.result ≡ Some hop = item_there c.deref.result.now c.place.result c.in_ok-hop.hop c.in_ok-hop.ensures.lookup in
    let route : slice_get routes (hop.route - 1) ≡ Some c.in-Some.route.now = item_there routes (hop.route - 1) c.in-Some.route c.in-Some.ensures.lookup in
    let right : AreOnward routes c.deref.result.now = subst (λ (l : List Hop). AreOnward routes l) (sym c.deref.ensures.value) c.requires in
    let leads : hop.to ≡ c.args.to = let z = c.if-hop-to.false in omega (arith, z) in
    let some : 0 < hop.route = let z = c.if-hop-eq0.false in omega (arith, z) in
    record {
      begins = ap from_in route ∙ c.if-route-from.true;
      onward = subst (λ (n : ℕ). IsOnward routes n (hop.route - 1)) leads (right c.place.result hop there some);
    }
