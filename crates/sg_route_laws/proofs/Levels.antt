-- 16 levels are enough.
use Rattle.std.proofs.Common.{◌≡◌, ◌≢◌, ◌+◌, ◌≤◌, ℕ, zero, suc, Bool, true, false, cond, [], Option, None, Some, Ok, arith, refl, sym, ◌∙◌, ap}
use Rattle.std.specs.Prelude.{◌==◌}
use Rattle.std.proofs.lemmas.Bool.Decides.{nat_tests}
use Rattle.sg_base.specs.declared.ids.PointId.{PointId}
use Rattle.sg_route.specs.declared.leg.Leg.{Leg}
use Rattle.sg_route.specs.Roads.{Roads}
use Rattle.sg_route.specs.Route.{RouteLinks, Passage, leg, route_over, unless_there, through_lowest, to_itself, way, whole_way}
use Rattle.sg_route.proofs.Passages.{by_passage}
use Rattle.sg_route_laws.specs.Laws.{IsPoint, FollowsLowestZone}
use Rattle.sg_route_laws.proofs.Nested.{IsNested, depth_of_both, home, passage_between, routing}

apart : (m n : ℕ) → (m == n) ≡ false → m ≢ n
apart m n f e = grind (arith, nat_tests)

unless_same : (w v : PointId → PointId → RouteLinks) (a b : PointId) → (a.0 ≢ b.0 → w a b ≡ v a b) → unless_there w a b ≡ unless_there v a b
unless_same w v a b h = go (a.0 == b.0) (λ f. h (apart a.0 b.0 f))
  where
    go : (t : Bool) → (t ≡ false → w a b ≡ v a b) → cond t (Ok []) (w a b) ≡ cond t (Ok []) (v a b)
    go true h = refl
    go false h = h refl

passage_same : (w v : PointId → PointId → RouteLinks) (a b : PointId) (l : Leg) (o : Option Passage)
    → ((p : Passage) → o ≡ Some p → (unless_there w a p.start ≡ unless_there v a p.start) × (unless_there w p.end b ≡ unless_there v p.end b))
    → by_passage w a b l o ≡ by_passage v a b l o
passage_same w v a b l None h = refl
passage_same w v a b l (Some p) h =
    let same = h p refl in
    ap (λ x. route_over x p.links (unless_there w p.end b)) same.0 ∙ ap (λ y. route_over (unless_there v a p.start) p.links y) same.1

-- one level more gives the same way, if the levels reach down to the deepest zones
pub same_deeper : (n : ℕ) (m : Roads) → IsNested m → (a b : PointId) → IsPoint m a → IsPoint m b → 17 ≤ n + depth_of_both m a b → way n m a b ≡ way (suc n) m a b
unfolding way
same_deeper zero m nested a b there here deep = absurd (omega (arith, nested.shallow a b there here))
same_deeper (suc n) m nested a b there here deep =
    passage_same (way n m) (way (suc n) m) a b (leg m a b) (passage_between m a b) (λ p is. (
      unless_same (way n m) (way (suc n) m) a p.start (λ far.
          same_deeper n m nested a p.start there (nested.start a b p there here is) (let d = nested.front a b p there here is far in omega arith)),
      unless_same (way n m) (way (suc n) m) p.end b (λ far.
          same_deeper n m nested p.end b (nested.end a b p there here is) here (let d = nested.behind a b p there here is far in omega arith)),
    ))

pub whole_apart : (m : Roads) (a b : PointId) → a.0 ≢ b.0 → whole_way m a b ≡ way 16 m a b
unfolding whole_way
whole_apart m a b far = go (a.0 == b.0) (grind (arith, nat_tests))
  where
    go : (t : Bool) → t ≡ false → cond t (Ok (to_itself m (routing m (home m a)) a)) (way 16 m a b) ≡ way 16 m a b
    go t e = rw e refl

one_more : (m : Roads) → IsNested m → (a b : PointId) → IsPoint m a → IsPoint m b → way 16 m a b ≡ through_lowest (way 16 m) m a b
unfolding way
one_more m nested a b there here = let d = nested.root a b there here in same_deeper 16 m nested a b there here (omega arith)

pub follows_lowest_zone : (m : Roads) → IsNested m → FollowsLowestZone m
follows_lowest_zone m nested a b there here far =
    whole_apart m a b far ∙ one_more m nested a b there here
    ∙ passage_same (way 16 m) (whole_way m) a b (leg m a b) (passage_between m a b) (λ p is. (
      unless_same (way 16 m) (whole_way m) a p.start (λ other. sym (whole_apart m a p.start other)),
      unless_same (way 16 m) (whole_way m) p.end b (λ other. sym (whole_apart m p.end b other)),
    ))
