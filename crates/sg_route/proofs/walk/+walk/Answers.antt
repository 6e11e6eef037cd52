-- The walk, case by case.
use Rattle.std.proofs.Common.{◌≡◌, ◌++◌, Result, Err, refl, sym, ◌∙◌, ap, subst, arith}
use Rattle.std.specs.Option.{option_map}
use Rattle.sg_paths.specs.Path.{Net}
use Rattle.sg_route.specs.Roads.{Roads}
use Rattle.sg_zones.specs.Tree.{routing_in}
use Rattle.sg_route.specs.declared.leg.Leg.{Leg}
use Rattle.sg_route.specs.Route.{passage_on, unless_there, way}
use Rattle.sg_route.specs.kept.Kept.{Kept, keep_all, KeepsWay}
use Rattle.sg_route.specs.kept.Found.{found_passage}
use Rattle.sg_route.proofs.KeptLemmas.{keep_all-append}
use Rattle.sg_route.proofs.WalkLemmas.{walked_zero, walked_none, walked_front, walked_path, walked_through, err_is}
use Rattle.sg_route.proofs.walk.+walk.Goals as goal

pub returns-then-levels-eq0 : goal.returns-then-levels-eq0
returns-then-levels-eq0 t c = record {
  keeps = walked_zero c.args.levels c.args.ways.now c.args.trip.from c.args.trip.to (record { links = c.args.links.now.items; over = c.args.over.now }) c.if-trip.false c.if-levels-eq0.true;
  paths = refl;
}

pub returns-in-None : goal.returns-in-None
returns-in-None t c =
    let old : Kept = record { links = c.args.links.now.items; over = c.args.over.now } in
    let p = ap (passage_on c.args.ways.now) (sym c.leg-leg.ensures) ∙ sym c.passage_on.ensures ∙ ap (option_map found_passage) c.in-None.is in
    let P : Leg → Type 0 = λ l. KeepsWay (unless_there (way c.args.levels c.args.ways.now) c.args.trip.from c.args.trip.to) (Err l) old old in
    record { keeps = subst P (sym c.leg-leg.ensures) (walked_none c.args.levels c.args.ways.now c.args.trip.from c.args.trip.to old old c.if-trip.false (omega arith) p); paths = refl }

pub returns-in_err-walk-in-Some : goal.returns-in_err-walk-in-Some
returns-in_err-walk-in-Some t c =
    let old : Kept = record { links = c.args.links.now.items; over = c.args.over.now } in
    let mid : Kept = record { links = c.walk.new.links.items; over = c.walk.new.over } in
    let p = ap (passage_on c.args.ways.now) (sym c.leg-leg.ensures) ∙ sym c.passage_on.ensures ∙ ap (option_map found_passage) c.in-Some.is in
    let f : c.from_residual.result ≡ Err c.in_err-walk-in-Some.field-0.0 = err_is c.from_residual.result c.in_err-walk-in-Some.field-0.0 c.from_residual.ensures.1 in
    let P : Result (Unit {0}) Leg → Type 0 = λ r. KeepsWay (unless_there (way c.args.levels c.args.ways.now) c.args.trip.from c.args.trip.to) r old mid in
    record {
      keeps = subst P (sym f) (walked_front c.args.levels c.args.ways.now c.args.trip.from c.args.trip.to (found_passage c.in-Some.found) c.in_err-walk-in-Some.field-0.0 old mid mid c.if-trip.false (omega arith) p c.in_err-walk-in-Some.ensures.keeps);
      paths = c.in_err-walk-in-Some.ensures.paths;
    }

pub returns-in_ok-walk-in-Some : goal.returns-in_ok-walk-in-Some
returns-in_ok-walk-in-Some t c =
    let old : Kept = record { links = c.args.links.now.items; over = c.args.over.now } in
    let mid : Kept = record { links = c.walk.new.links.items; over = c.walk.new.over } in
    let next : Kept = record { links = c.keep_all-in-Some.new.links.items; over = c.keep_all-in-Some.new.over } in
    let last : Kept = record { links = c.walk-in-Some.new.links.items; over = c.walk-in-Some.new.over } in
    let p = ap (passage_on c.args.ways.now) (sym c.leg-leg.ensures) ∙ sym c.passage_on.ensures ∙ ap (option_map found_passage) c.in-Some.is in
    let own : next ≡ keep_all mid (c.in-Some.found.up.now ++ c.in-Some.found.down.now) =
    c.keep_all-in-Some.ensures ∙ ap (λ k. keep_all k c.in-Some.found.down.now) c.keep_all.ensures ∙ sym (keep_all-append mid c.in-Some.found.up.now c.in-Some.found.down.now) in
    record {
      keeps = walked_through c.args.levels c.args.ways.now c.args.trip.from c.args.trip.to (found_passage c.in-Some.found) c.walk-in-Some.result old mid next last c.if-trip.false (omega arith) p c.in_ok-walk-in-Some.ensures.keeps own c.walk-in-Some.ensures.keeps;
      paths = c.walk-in-Some.ensures.paths ∙ c.in_ok-walk-in-Some.ensures.paths;
    }

pub returns-in-Dijkstra : goal.returns-in-Dijkstra
returns-in-Dijkstra t c =
    let old : Kept = record { links = c.args.links.now.items; over = c.args.over.now } in
    let new : Kept = record { links = c.keep_path.new.links.items; over = c.keep_path.new.over } in
    record {
      keeps =
          walked_path c.args.levels c.args.ways.now c.args.trip.from c.args.trip.to c.leg-leg.result c.args.paths.now.routes c.keep_path.result old new c.if-trip.false (omega arith)
          c.leg-leg.ensures (ap (λ (m : Roads). routing_in m.tree c.leg-leg.result.zone) (sym c.ways.view_is) ∙ sym c.routing.ensures ∙ c.in-Dijkstra.is) (ap (λ (n : Net). n.routes) c.requires) c.keep_path.ensures.keeps;
      paths = c.keep_path.ensures.paths;
    }
