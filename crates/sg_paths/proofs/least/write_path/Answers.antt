-- The links from the place of the point on.
use Rattle.std.proofs.Common.{◌≡◌, ◌*◌, ◌≤◌, List, length, get_or, sym, subst, ap, arith}
use Rattle.std.proofs.Math.Nat.{mul-le-mul_right}
use Rattle.sg_paths.specs.declared.trail.Settled.{Settled}
use Rattle.sg_paths.specs.Trail.{AreLinksOf, LeadsBack}
use Rattle.sg_paths.proofs.TreeLemmas.{IsPlaced, placed}
use Rattle.sg_paths.proofs.least.write_path.Goals as goal

pub write_links-requires : goal.write_links-requires
write_links-requires c =
    let settled = c.args.reach.now.settled.items in
    let read : c.as_slice-settled.result.now ≡ settled = c.as_slice-settled.ensures.value in
    let d : Settled = record { point = 0; route = 0; next = 0 } in
    let p : IsPlaced settled c.in-Some.place c.args.from (get_or c.as_slice-settled.result.now c.in-Some.place d) =
    placed settled c.as_slice-settled.result.now c.in-Some.place c.args.from d read c.requires.back c.requires.apart c.in-Some.ensures.some in
    let count : length c.as_slice-settled.result.now ≡ length settled = ap (length {A = Settled}) read in
    let few : length c.as_slice-settled.result.now ≤ length c.args.reach.now.places.items = let f = c.requires.fits in omega (arith, count, f) in
    let less : length c.as_slice-settled.result.now * c.args.reach.now.most ≤ length c.args.reach.now.places.items * c.args.reach.now.most = mul-le-mul_right c.args.reach.now.most few in
    record {
      back = subst (λ (l : List Settled). LeadsBack l) (sym read) c.requires.back;
      short = c.requires.roomy.short;
      next = let n = p.next in omega (arith, n, count);
      room = let b = c.requires.roomy.best in omega (arith, less, b);
    }

pub returns-clause-yes : goal.returns-clause-yes
returns-clause-yes c =
    let settled = c.args.reach.now.settled.items in
    let read : c.as_slice-settled.result.now ≡ settled = c.as_slice-settled.ensures.value in
    let d : Settled = record { point = 0; route = 0; next = 0 } in
    let hop : Settled = get_or c.as_slice-settled.result.now c.in-Some.place d in
    let p : IsPlaced settled c.in-Some.place c.args.from hop =
    placed settled c.as_slice-settled.result.now c.in-Some.place c.args.from d read c.requires.back c.requires.apart c.in-Some.ensures.some in record {
      place = c.in-Some.place;
      hop = hop;
      above = p.above;
      there = p.there;
      point = p.point;
      are = subst (λ (l : List Settled). AreLinksOf c.args.routes.now l hop c.write_links.new.out.items) read c.write_links.ensures.links;
    }
