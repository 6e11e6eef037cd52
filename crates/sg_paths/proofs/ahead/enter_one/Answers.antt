-- A route moves back over its last link, or begins at a finalized point.
use Rattle.std.proofs.Common.{◌≡◌, ℕ, List, length, get_or, inl, inr, refl, sym, subst, ap}
use Rattle.std.proofs.lemmas.Option.{slice_get-get_or}
use Rattle.sg_base.specs.declared.ids.LinkId.{LinkId}
use Rattle.sg_paths.specs.Ahead.{GoesBack}
use Rattle.sg_paths.specs.Arrivals.{from_at, from_in}
use Rattle.sg_paths.specs.Trail.{IsSettledAt, links_at}
use Rattle.sg_paths.proofs.ahead.enter_one.Goals as goal

pub returns-in-Some : goal.returns-in-Some
returns-in-Some c =
    let routes = c.args.routes.now in
    let from : (get_or routes c.args.i c.index-routes-i.result).from ≡ from_at routes c.args.i = sym (ap from_in (slice_get-get_or routes c.args.i c.index-routes-i.result c.requires.route)) in
    let P : ℕ → Type 0 = λ x. IsSettledAt c.args.known.settled.now.items c.in-Some._place x in
    inr (record { place = c.in-Some._place; from = subst P from c.in-Some.ensures; same = refl })

pub returns : goal.returns
returns c =
    let count : c.links_at-left.result.now ≡ links_at c.args.routes.now c.args.i = c.links_at-left.ensures in
    let Q : List LinkId → Type 0 = λ l. GoesBack c.args.routes.now c.args.i (length l) c.args.mark c.args.ahead.now c.go_back.new.ahead in
    inl (subst Q count c.go_back.ensures)
