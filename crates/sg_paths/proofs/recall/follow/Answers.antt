-- One route more leads on.
use Rattle.std.proofs.Common.{◌≡◌, ◌<◌, ◌≤◌, ◌++◌, ℕ, List, length, get_or, vec_capacity, sym, subst, ap, ◌∙◌, arith, length-append}
use Rattle.std.proofs.lemmas.Option.{slice_get-get_or}
use Rattle.sg_base.specs.declared.ids.LinkId.{LinkId}
use Rattle.sg_paths.specs.Arrivals.{to_at, to_in}
use Rattle.sg_paths.specs.Trail.{links_at}
use Rattle.sg_paths.specs.Trees.{GoesOver}
use Rattle.sg_paths.proofs.TreeLemmas.{IsBegun, all_begun, begun, links_read, one_more, room_for_one}
use Rattle.sg_paths.proofs.recall.follow.Goals as goal

pub following-init : goal.following-init
following-init c =
    let none = c.clear.ensures.items in
    let empty : length c.clear.new.self.items ≡ 0 = ap (length {A = LinkId}) none in
    let same = c.clear.ensures.capacity in
    record {
      begun = subst (λ (l : List LinkId). IsBegun c.args.routes.now c.args.from c.args.from c.args.to l) (sym none) (begun c.args.routes.now c.args.from c.args.to);
      few = omega (arith, empty);
      roomy = record {
        places = c.requires.roomy.places;
        settled = c.requires.roomy.settled;
        ahead = c.requires.roomy.ahead;
        short = c.requires.roomy.short;
        best = let b = c.requires.roomy.best in omega (arith, b, same);
        held = let b = c.requires.roomy.held in omega (arith, b, same);
      };
    }

pub returns-then-at-to-clause-yes : goal.returns-then-at-to-clause-yes
returns-then-at-to-clause-yes c =
    let out = c.following.reach.best.items in
    all_begun c.args.routes.now c.args.from c.args.to out (subst (λ (p : ℕ). IsBegun c.args.routes.now c.args.from p c.args.to out) c.if-at-to.true c.following.invariant.begun)

pub add-requires : goal.add-requires
add-requires c =
    let routes = c.args.routes.now in
    let i = c.in-Some.i in
    let inv = c.following.invariant in
    let reach = c.following.reach in
    let over : GoesOver routes c.following.at c.args.to i = c.in-Some.ensures in
    let read : c.as_slice.result.now ≡ links_at routes i = c.as_slice.ensures ∙ links_read routes i c.index-routes-i.result (over.onward).few in
    let count : length c.as_slice.result.now ≡ length (links_at routes i) = ap (length {A = LinkId}) read in
    let short : length c.as_slice.result.now ≤ reach.most = let s = inv.roomy.short i in omega (arith, count, s) in
    let below : c.following.hop < length c.args.reach.now.places.items = let t = c.following-test.true in let e = c.len-hop-end.ensures in let n = c.args.reach.now.places.ok.0 in omega (arith, t, e, n) in
    (room_for_one (length reach.best.items) (length c.as_slice.result.now) c.following.hop (length c.args.reach.now.places.items) reach.most (vec_capacity reach.best) inv.few short below inv.roomy.best).0

pub following-preserved : goal.following-preserved
following-preserved c =
    let routes = c.args.routes.now in
    let i = c.in-Some.i in
    let inv = c.following.invariant in
    let reach = c.following.reach in
    let over : GoesOver routes c.following.at c.args.to i = c.in-Some.ensures in
    let read : c.as_slice.result.now ≡ links_at routes i = c.as_slice.ensures ∙ links_read routes i c.index-routes-i.result (over.onward).few in
    let count : length c.as_slice.result.now ≡ length (links_at routes i) = ap (length {A = LinkId}) read in
    let short : length c.as_slice.result.now ≤ reach.most = let s = inv.roomy.short i in omega (arith, count, s) in
    let below : c.following.hop < length c.args.reach.now.places.items = let t = c.following-test.true in let e = c.len-hop-end.ensures in let n = c.args.reach.now.places.ok.0 in omega (arith, t, e, n) in
    let room = room_for_one (length reach.best.items) (length c.as_slice.result.now) c.following.hop (length c.args.reach.now.places.items) reach.most (vec_capacity reach.best) inv.few short below inv.roomy.best in
    let out : c.add.new.out.items ≡ reach.best.items ++ links_at routes i = c.add.ensures.links ∙ ap (λ (l : List LinkId). reach.best.items ++ l) read in
    let leads : to_at routes i ≡ (get_or routes i c.index-routes-i-in-following.result).to = ap to_in (slice_get-get_or routes i c.index-routes-i-in-following.result (over.onward).few) in
    let on : IsBegun routes c.args.from (to_at routes i) c.args.to (reach.best.items ++ links_at routes i) = one_more routes c.args.from c.following.at c.args.to i reach.best.items inv.begun over in
    let same = c.add.ensures.capacity in
    record {
      begun = subst (λ (p : ℕ). IsBegun routes c.args.from p c.args.to c.add.new.out.items) leads (subst (λ (l : List LinkId). IsBegun routes c.args.from (to_at routes i) c.args.to l) (sym out) on);
      few = let r = room.1 in omega (arith, ap (length {A = LinkId}) c.add.ensures.links, length-append reach.best.items c.as_slice.result.now, r);
      roomy = record {
        places = inv.roomy.places;
        settled = inv.roomy.settled;
        ahead = inv.roomy.ahead;
        short = inv.roomy.short;
        best = let b = inv.roomy.best in omega (arith, b, same);
        held = let b = inv.roomy.held in omega (arith, b, same);
      };
    }
