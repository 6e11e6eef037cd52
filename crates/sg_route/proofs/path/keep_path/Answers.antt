-- There is a shortest path, or no path.
use Rattle.std.proofs.Common.{refl, rules}
use Rattle.sg_route.specs.kept.Kept.{Kept}
use Rattle.sg_route.proofs.WalkLemmas.{path_kept, path_missing}
use Rattle.sg_route.proofs.path.keep_path.Goals as goal

pub returns-in-Some : goal.returns-in-Some
returns-in-Some c =
    let old : Kept = record { links = c.args.links.now.items; over = c.args.over.now } in
    let new : Kept = record { links = c.keep_all.new.links.items; over = c.keep_all.new.over } in
    record {
      keeps =
          path_kept c.args.paths.now.routes c.args.leg c.in-Point-Point.from c.in-Point-Point.to c.in-Some.path.now old new c.in-Point-Point.is-0 c.in-Point-Point.is-1 c.if-from-to.false
          (record { reached = c.in-Some.ensures.reached; least = c.in-Some.ensures.least }) c.keep_all.ensures;
      paths = search rules;
    }

pub returns-in-None : goal.returns-in-None
returns-in-None c =
    let old : Kept = record { links = c.args.links.now.items; over = c.args.over.now } in
    record {
      keeps = path_missing c.args.paths.now.routes c.args.leg c.in-Point-Point.from c.in-Point-Point.to old old c.in-Point-Point.is-0 c.in-Point-Point.is-1 c.if-from-to.false (c.in-None.ensures.none refl);
      paths = search rules;
    }
