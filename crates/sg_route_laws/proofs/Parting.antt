-- Where two paths part.
use Rattle.std.proofs.Common.{◌≡◌, ◌<◌, ◌≤◌, ℕ, zero, suc, Bool, true, false, cond, List, [], ◌∷◌, length, take, get_or, arith, ap, refl, ◌∙◌}
use Rattle.std.specs.Prelude.{◌==◌}
use Rattle.std.proofs.lemmas.Bool.Decides.{nat_tests}
use Rattle.sg_base.specs.declared.ids.ZoneId.{ZoneId}
use Rattle.sg_base.specs.declared.ids.PointId.{PointId}
use Rattle.sg_base.specs.declared.ids.Child.TheVariants.{Point, Zone}
use Rattle.sg_route.specs.Leg.{lowest_leg}
use Rattle.sg_route_laws.proofs.Nested.{shared}

-- an element doesn't depend on what stands for those that aren't there
pub got : (xs : List ZoneId) (k : ℕ) (d e : ZoneId) → k < length xs → get_or xs k d ≡ get_or xs k e
got [] k d e few = absurd (omega arith)
got (x ∷ xs) zero d e few = refl
got (x ∷ xs) (suc k) d e few = got xs k d e (omega arith)

-- the zone x stands right after the part of the path that is shared
pub record Parts (x : ZoneId) (own : List ZoneId) (common : ℕ) : Type 0 where
  pub inside : common < length own
  pub at : get_or own common x ≡ x

zone_is : (x y : ZoneId) → Zone x ≡ Zone y → x ≡ y
zone_is x y h = cc

pub from_parts : (last : ZoneId) (a b : PointId) (xs ys : List ZoneId) (x : ZoneId) → (lowest_leg last a b xs ys).from ≡ Zone x → Parts x xs (shared xs ys)
from_parts last a b [] ys x h = absurd (cc)
from_parts last a b (u ∷ us) [] x h = record { inside = omega arith; at = zone_is u x h }
from_parts last a b (u ∷ us) (v ∷ vs) x h = go (u.0 == v.0) h (λ k. from_parts u a b us vs x k)
  where
    go : (t : Bool) → (cond t (lowest_leg u a b us vs) (record { zone = last; from = Zone u; to = Zone v })).from ≡ Zone x
        → ((lowest_leg u a b us vs).from ≡ Zone x → Parts x us (shared us vs)) → Parts x (u ∷ us) (cond t (suc (shared us vs)) 0)
    go true h more = let r = more h in let i = r.inside in record { inside = omega arith; at = r.at }
    go false h more = record { inside = omega arith; at = zone_is u x h }

pub to_parts : (last : ZoneId) (a b : PointId) (xs ys : List ZoneId) (x : ZoneId) → (lowest_leg last a b xs ys).to ≡ Zone x → Parts x ys (shared xs ys)
to_parts last a b [] [] x h = absurd (cc)
to_parts last a b [] (v ∷ vs) x h = record { inside = omega arith; at = zone_is v x h }
to_parts last a b (u ∷ us) [] x h = absurd (cc)
to_parts last a b (u ∷ us) (v ∷ vs) x h = go (u.0 == v.0) h (λ k. to_parts u a b us vs x k)
  where
    go : (t : Bool) → (cond t (lowest_leg u a b us vs) (record { zone = last; from = Zone u; to = Zone v })).to ≡ Zone x
        → ((lowest_leg u a b us vs).to ≡ Zone x → Parts x vs (shared us vs)) → Parts x (v ∷ vs) (cond t (suc (shared us vs)) 0)
    go true h more = let r = more h in let i = r.inside in record { inside = omega arith; at = r.at }
    go false h more = record { inside = omega arith; at = zone_is v x h }

-- paths with the same prefix share it
pub shared_front : (n : ℕ) (xs ys : List ZoneId) → take n xs ≡ take n ys → n ≤ length xs → n ≤ length ys → n ≤ shared xs ys
shared_front zero xs ys e few more = omega arith
shared_front (suc n) [] ys e few more = absurd (omega arith)
shared_front (suc n) (x ∷ xs) [] e few more = absurd (omega arith)
shared_front (suc n) (x ∷ xs) (y ∷ ys) e few more =
    let head : x ≡ y = cc in
    let rest : take n xs ≡ take n ys = cc in
    let same : x.0 ≡ y.0 = ap (λ z. z.0) head in
    go (x.0 == y.0) (grind (arith, nat_tests)) (shared_front n xs ys rest (omega arith) (omega arith))
  where
    go : (t : Bool) → t ≡ true → n ≤ shared xs ys → suc n ≤ cond t (suc (shared xs ys)) 0
    go true e h = omega arith
    go false e h = absurd (cc)

-- if the one path ends, the last of its zones is the lowest
pub zone_from : (last : ZoneId) (a b : PointId) (xs ys : List ZoneId) (q : PointId) → (lowest_leg last a b xs ys).from ≡ Point q → (lowest_leg last a b xs ys).zone ≡ get_or (last ∷ xs) (length xs) last
zone_from last a b [] ys q h = refl
zone_from last a b (u ∷ us) [] q h = absurd (cc)
zone_from last a b (u ∷ us) (v ∷ vs) q h = go (u.0 == v.0) h (λ k. zone_from u a b us vs q k)
  where
    go : (t : Bool) → (cond t (lowest_leg u a b us vs) (record { zone = last; from = Zone u; to = Zone v })).from ≡ Point q
        → ((lowest_leg u a b us vs).from ≡ Point q → (lowest_leg u a b us vs).zone ≡ get_or (u ∷ us) (length us) u)
        → (cond t (lowest_leg u a b us vs) (record { zone = last; from = Zone u; to = Zone v })).zone ≡ get_or (last ∷ (u ∷ us)) (length (u ∷ us)) last
    go true h more = more h ∙ got (u ∷ us) (length us) u last (omega arith)
    go false h more = absurd (cc)

pub zone_to : (last : ZoneId) (a b : PointId) (xs ys : List ZoneId) (q : PointId) → (lowest_leg last a b xs ys).to ≡ Point q → (lowest_leg last a b xs ys).zone ≡ get_or (last ∷ ys) (length ys) last
zone_to last a b [] [] q h = refl
zone_to last a b [] (v ∷ vs) q h = absurd (cc)
zone_to last a b (u ∷ us) [] q h = refl
zone_to last a b (u ∷ us) (v ∷ vs) q h = go (u.0 == v.0) refl h (λ k. zone_to u a b us vs q k)
  where
    go : (t : Bool) → (u.0 == v.0) ≡ t → (cond t (lowest_leg u a b us vs) (record { zone = last; from = Zone u; to = Zone v })).to ≡ Point q
        → ((lowest_leg u a b us vs).to ≡ Point q → (lowest_leg u a b us vs).zone ≡ get_or (u ∷ vs) (length vs) u)
        → (cond t (lowest_leg u a b us vs) (record { zone = last; from = Zone u; to = Zone v })).zone ≡ get_or (last ∷ (v ∷ vs)) (length (v ∷ vs)) last
    go true e h more =
        let n : u.0 ≡ v.0 = grind (arith, nat_tests) in
        let make : ℕ → ZoneId = λ k. record { 0 = k } in
        let same : u ≡ v = ap make n in
        more h ∙ got (u ∷ vs) (length vs) u last (omega arith) ∙ ap (λ z. get_or (z ∷ vs) (length vs) last) same
    go false e h more = absurd (cc)
