use Rattle.std.proofs.Common.{◌≡◌, ◌<◌, ◌++◌, [], ◌∷◌, length, slice_set, sym, subst, ap, ◌∙◌, ℕ, List, arith, length-append}
use Rattle.sg_paths.specs.declared.trail.Settled.{Settled}
use Rattle.sg_paths.specs.Trail.{HasPlaces}
use Rattle.sg_paths.proofs.TrailLemmas.{places_more, fewer}
use Rattle.sg_paths.proofs.settle.settle.Goals as goal
use Rattle.std.proofs.Math.ListN.{length-set}

pub push_reserved-requires : goal.push_reserved-requires
push_reserved-requires c =
    let less : length c.args.settled.now.items < length c.args.places.now.items = fewer c.args.settled.now.items c.args.places.now.items c.args.hop c.requires.places c.requires.new c.requires.point in
    omega (arith, c.args.settled.now.ok.0)

pub returns-clause-places : goal.returns-clause-places
returns-clause-places c =
    let count : length c.args.settled.now.items ≡ c.len.result = sym (c.len.ensures ∙ c.args.settled.now.ok.0) in
    subst (λ (l : List Settled). HasPlaces l (slice_set c.args.places.now.items c.args.hop.point c.len.result)) (sym c.push_reserved.ensures.items)
    (subst (λ (n : ℕ). HasPlaces (c.args.settled.now.items ++ c.args.hop ∷ []) (slice_set c.args.places.now.items c.args.hop.point n)) count
    (places_more c.args.settled.now.items c.args.places.now.items c.args.hop c.requires.places c.requires.new c.requires.point))

pub returns-clause-fits : goal.returns-clause-fits
returns-clause-fits c =
    let less : length c.args.settled.now.items < length c.args.places.now.items = fewer c.args.settled.now.items c.args.places.now.items c.args.hop c.requires.places c.requires.new c.requires.point in
    omega (arith, ap (length {A = Settled}) c.push_reserved.ensures.items, length-append c.args.settled.now.items (c.args.hop ∷ []), length-set c.args.places.now.items c.args.hop.point c.len.result)
