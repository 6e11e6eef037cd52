-- The children of a leg that are points.
use Rattle.std.proofs.Common.{◌≡◌, Bool, true, false, cond, List, [], ◌∷◌}
use Rattle.std.specs.Prelude.{◌==◌}
use Rattle.sg_base.specs.declared.ids.ZoneId.{ZoneId}
use Rattle.sg_base.specs.declared.ids.PointId.{PointId}
use Rattle.sg_base.specs.declared.ids.Child.TheVariants.{Point, Zone}
use Rattle.sg_route.specs.Leg.{lowest_leg}

point_is : (p q : PointId) → Point p ≡ Point q → p ≡ q
point_is p q h = cc

pub from_point : (last : ZoneId) (a b : PointId) (xs ys : List ZoneId) (q : PointId) → (lowest_leg last a b xs ys).from ≡ Point q → a ≡ q
from_point last a b [] ys q h = point_is a q h
from_point last a b (u ∷ us) [] q h = absurd (cc)
from_point last a b (u ∷ us) (v ∷ vs) q h = go (u.0 == v.0) h (λ k. from_point u a b us vs q k)
  where
    go : (t : Bool) → (cond t (lowest_leg u a b us vs) (record { zone = last; from = Zone u; to = Zone v })).from ≡ Point q
        → ((lowest_leg u a b us vs).from ≡ Point q → a ≡ q) → a ≡ q
    go true h more = more h
    go false h more = absurd (cc)

pub to_point : (last : ZoneId) (a b : PointId) (xs ys : List ZoneId) (q : PointId) → (lowest_leg last a b xs ys).to ≡ Point q → b ≡ q
to_point last a b [] [] q h = point_is b q h
to_point last a b [] (v ∷ vs) q h = absurd (cc)
to_point last a b (u ∷ us) [] q h = point_is b q h
to_point last a b (u ∷ us) (v ∷ vs) q h = go (u.0 == v.0) h (λ k. to_point u a b us vs q k)
  where
    go : (t : Bool) → (cond t (lowest_leg u a b us vs) (record { zone = last; from = Zone u; to = Zone v })).to ≡ Point q
        → ((lowest_leg u a b us vs).to ≡ Point q → b ≡ q) → b ≡ q
    go true h more = more h
    go false h more = absurd (cc)
