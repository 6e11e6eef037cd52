-- Walks.
use Rattle.std.proofs.Common.{◌≡◌, ◌≢◌, ◌-◌, ◌<◌, ℕ, zero, suc, Bool, true, false, cond, List, [], ◌++◌, Option, None, Some, Result, Ok, Err, arith, refl, sym, ◌∙◌, ap, subst}
use Rattle.std.specs.Prelude.{◌==◌, IsErrAnd}
use Rattle.std.proofs.lemmas.Bool.Decides.{nat_tests}
use Rattle.sg_base.specs.declared.ids.PointId.{PointId}
use Rattle.sg_base.specs.declared.ids.LinkId.{LinkId}
use Rattle.sg_route.specs.declared.leg.Leg.{Leg}
use Rattle.sg_route.specs.Roads.{Roads}
use Rattle.sg_platform_rows.specs.declared.rows.Routing.{Routing}
use Rattle.sg_platform_rows.specs.declared.rows.Routing.TheVariants.{Dijkstra}
use Rattle.sg_base.specs.declared.ids.Child.{Child}
use Rattle.sg_base.specs.declared.ids.Child.TheVariants.{Point, Zone}
use Rattle.sg_paths.proofs.LeastLemmas.{least_path_is, no_least_path}
use Rattle.sg_paths.specs.Least.{least_path}
use Rattle.sg_paths.specs.Path.{HasNoPath, IsLeastPath}
use Rattle.sg_paths.specs.declared.route.PathRoute.{PathRoute}
use Rattle.sg_route.specs.Route.{RouteLinks, Passage, by_path, leg, passage, passage_on, route_over, unless_there, through_lowest, way}
use Rattle.sg_route.proofs.Passages.{by_passage}
use Rattle.sg_route.specs.PathRoutes.{path_routes}
use Rattle.sg_zones.specs.Tree.{home, path_in, routing_in}
use Rattle.sg_route.specs.kept.Kept.{Kept, keep_all, path_way, KeepsWay}
use Rattle.sg_route.proofs.KeptLemmas.{keep_all-append}
use Rattle.sg_route.proofs.LegLemmas.{from_point, to_point}
use Rattle.std.specs.Option.{option_map}
use Rattle.std.proofs.lemmas.List.{append-nil}

pub way_zero : (levels : ℕ) (m : Roads) (a b : PointId) → levels ≡ 0 → way levels m a b ≡ Ok []
unfolding way
way_zero levels m a b none = rw none refl

pub way_step : (levels : ℕ) (m : Roads) (a b : PointId) → 0 < levels → way levels m a b ≡ through_lowest (way (levels - 1) m) m a b
unfolding way
way_step zero m a b some = absurd (omega arith)
way_step (suc levels) m a b some =
    let e : suc levels - 1 ≡ levels = omega arith in
    rw e refl

pub there : (w : PointId → PointId → RouteLinks) (a b : PointId) → a.0 ≡ b.0 → unless_there w a b ≡ Ok []
there w a b same = go (a.0 == b.0) (grind (arith, nat_tests))
  where
    go : (t : Bool) → t ≡ true → cond t (Ok []) (w a b) ≡ Ok []
    go t e = rw e refl

pub elsewhere : (w : PointId → PointId → RouteLinks) (a b : PointId) → a.0 ≢ b.0 → unless_there w a b ≡ w a b
elsewhere w a b apart = go (a.0 == b.0) (grind (arith, nat_tests))
  where
    go : (t : Bool) → t ≡ false → cond t (Ok []) (w a b) ≡ w a b
    go t e = rw e refl

-- nothing to walk
pub walked_there : (w : PointId → PointId → RouteLinks) (a b : PointId) (kept : Kept) → a.0 ≡ b.0 → KeepsWay (unless_there w a b) (Ok tt) kept kept
walked_there w a b kept same = let P : RouteLinks → Type 0 = λ x. KeepsWay x (Ok tt) kept kept in subst P (sym (there w a b same)) (refl, refl)

pub walked_zero : (levels : ℕ) (m : Roads) (a b : PointId) (kept : Kept) → a.0 ≢ b.0 → levels ≡ 0 → KeepsWay (unless_there (way levels m) a b) (Ok tt) kept kept
walked_zero levels m a b kept apart none =
    let P : RouteLinks → Type 0 = λ x. KeepsWay x (Ok tt) kept kept in
    subst P (sym (elsewhere (way levels m) a b apart ∙ way_zero levels m a b none)) (refl, refl)

-- the way by a passage, or without one
pub way_by : (levels : ℕ) (m : Roads) (a b : PointId) (found : Option Passage) → a.0 ≢ b.0 → 0 < levels
    → passage_on m (leg m a b) ≡ found
    → unless_there (way levels m) a b ≡ by_passage (way (levels - 1) m) a b (leg m a b) found
way_by levels m a b found apart some is =
    elsewhere (way levels m) a b apart ∙ way_step levels m a b some ∙ ap (by_passage (way (levels - 1) m) a b (leg m a b)) is

pub walked_none : (levels : ℕ) (m : Roads) (a b : PointId) (old new : Kept) → a.0 ≢ b.0 → 0 < levels
    → passage_on m (leg m a b) ≡ None
    → KeepsWay (unless_there (way levels m) a b) (Err (leg m a b)) old new
walked_none levels m a b old new apart some is =
    let P : RouteLinks → Type 0 = λ x. KeepsWay x (Err (leg m a b)) old new in
    subst P (sym (way_by levels m a b None apart some is)) refl

front_fails : (front behind : RouteLinks) (own : List LinkId) (e : Leg) (old mid new : Kept) → KeepsWay front (Err e) old mid → KeepsWay (route_over front own behind) (Err e) old new
front_fails (Ok links) behind own e old mid new h = absurd (let q = h.0 in cc)
front_fails (Err missing) behind own e old mid new h = h

all_walked : (front behind : RouteLinks) (own : List LinkId) (result : Result (Unit {0}) Leg) (old mid next new : Kept) → KeepsWay front (Ok tt) old mid → next ≡ keep_all mid own → KeepsWay behind result next new
    → KeepsWay (route_over front own behind) result old new
all_walked (Err missing) behind own result old mid next new f k h = absurd (cc)
all_walked (Ok links) (Err missing) own result old mid next new f k h = h
all_walked (Ok links) (Ok rest) own result old mid next new f k h =
    (h.0, h.1 ∙ ap (λ x. keep_all x rest) (k ∙ ap (λ x. keep_all x own) f.1 ∙ sym (keep_all-append old links own)) ∙ sym (keep_all-append old (links ++ own) rest))

pub walked_front : (levels : ℕ) (m : Roads) (a b : PointId) (p : Passage) (e : Leg) (old mid new : Kept) → a.0 ≢ b.0 → 0 < levels
    → passage_on m (leg m a b) ≡ Some p
    → KeepsWay (unless_there (way (levels - 1) m) a p.start) (Err e) old mid
    → KeepsWay (unless_there (way levels m) a b) (Err e) old new
walked_front levels m a b p e old mid new apart some is front =
    let P : RouteLinks → Type 0 = λ x. KeepsWay x (Err e) old new in
    subst P (sym (way_by levels m a b (Some p) apart some is))
    (front_fails (unless_there (way (levels - 1) m) a p.start) (unless_there (way (levels - 1) m) p.end b) p.links e old mid new front)

pub walked_through : (levels : ℕ) (m : Roads) (a b : PointId) (p : Passage) (result : Result (Unit {0}) Leg) (old mid next new : Kept) → a.0 ≢ b.0 → 0 < levels
    → passage_on m (leg m a b) ≡ Some p
    → KeepsWay (unless_there (way (levels - 1) m) a p.start) (Ok tt) old mid → next ≡ keep_all mid p.links → KeepsWay (unless_there (way (levels - 1) m) p.end b) result next new
    → KeepsWay (unless_there (way levels m) a b) result old new
walked_through levels m a b p result old mid next new apart some is front own behind =
    let P : RouteLinks → Type 0 = λ x. KeepsWay x result old new in
    subst P (sym (way_by levels m a b (Some p) apart some is))
    (all_walked (unless_there (way (levels - 1) m) a p.start) (unless_there (way (levels - 1) m) p.end b) p.links result old mid next new front own behind)

-- the error that a `?` hands on
pub err_is : (r : Result (Unit {0}) Leg) (e : Leg) → IsErrAnd r (λ x. x ≡ e) → r ≡ Err e
err_is (Ok x) e h = absurd h
err_is (Err x) e h = ap Err h

-- ---- by a path

-- a local route between the points themselves is the whole way
pub direct : (w : PointId → PointId → RouteLinks) (a b : PointId) (l : Leg) (q : Passage) → a.0 ≡ q.start.0 → q.end.0 ≡ b.0 → by_passage w a b l (Some q) ≡ Ok q.links
direct w a b l q e f = go (unless_there w a q.start) (unless_there w q.end b) (there w a q.start e) (there w q.end b f)
  where
    go : (x y : RouteLinks) → x ≡ Ok [] → y ≡ Ok [] → route_over x q.links y ≡ Ok q.links
    go x y g h = ap (λ z. route_over z q.links y) g ∙ ap (λ z. route_over (Ok []) q.links z) h ∙ ap (λ xs. Ok xs) (append-nil q.links)

way_by_path : (w : PointId → PointId → RouteLinks) (a b : PointId) (l : Leg) (steps : List PathRoute) (f t : Child) → ((q : PointId) → f ≡ Point q → a ≡ q) → ((q : PointId) → t ≡ Point q → b ≡ q)
    → by_passage w a b l (by_path steps f t) ≡ path_way l (by_path steps f t)
way_by_path w a b l steps (Zone x) t from to = refl
way_by_path w a b l steps (Point p) (Zone x) from to = refl
way_by_path w a b l steps (Point p) (Point q) from to = go (p.0 == q.0) (least_path steps p.0 q.0)
  where
    go : (same : Bool) (o : Option (List LinkId))
        → (let found : Option Passage = cond same None (option_map (λ links. record { start = p; end = q; links = links }) o) in by_passage w a b l found ≡ path_way l found)
    go true o = refl
    go false None = refl
    go false (Some links) =
        let passage : Passage = record { start = p; end = q; links = links } in
        direct w a b l passage (ap (λ x. x.0) (from p refl)) (ap (λ x. x.0) (sym (to q refl)))

pub walked_path : (levels : ℕ) (m : Roads) (a b : PointId) (l : Leg) (steps : List PathRoute) (result : Result (Unit {0}) Leg) (old new : Kept) → a.0 ≢ b.0 → 0 < levels
    → l ≡ leg m a b → routing_in m.tree l.zone ≡ Dijkstra → steps ≡ path_routes m.tree m.locals
    → KeepsWay (path_way l (by_path steps l.from l.to)) result old new
    → KeepsWay (unless_there (way levels m) a b) result old new
walked_path levels m a b l steps result old new apart some is routing over keeps =
    let P : RouteLinks → Type 0 = λ x. KeepsWay x result old new in
    let Q : Leg → Type 0 = λ k. routing_in m.tree k.zone ≡ Dijkstra in
    let R : Leg → Type 0 = λ k. KeepsWay (path_way k (by_path (path_routes m.tree m.locals) k.from k.to)) result old new in
    let S : List PathRoute → Type 0 = λ s. KeepsWay (path_way l (by_path s l.from l.to)) result old new in
    let k : Leg = leg m a b in
    let own : Child → Child → Option Passage = by_path (path_routes m.tree m.locals) in
    let found : passage_on m k ≡ own k.from k.to = ap (λ (r : Routing). passage m r k.from k.to) (subst Q is routing) in
    let za = home m.tree a in
    let same = way_by_path (way (levels - 1) m) a b k (path_routes m.tree m.locals) k.from k.to
    (λ q e. from_point za a b (path_in m.tree za) (path_in m.tree (home m.tree b)) q e)
    (λ q e. to_point za a b (path_in m.tree za) (path_in m.tree (home m.tree b)) q e) in
    subst P (sym (way_by levels m a b (own k.from k.to) apart some found ∙ same)) (subst R is (subst S over keeps))

-- what is kept of a leg between two points
path_told : (steps : List PathRoute) (l : Leg) (from to : PointId) (o : Option (List LinkId)) (result : Result (Unit {0}) Leg) (old new : Kept) → l.from ≡ Point from → l.to ≡ Point to → from.0 ≢ to.0
    → least_path steps from.0 to.0 ≡ o → KeepsWay (path_way l (option_map (λ links. record { start = from; end = to; links = links }) o)) result old new
    → KeepsWay (path_way l (by_path steps l.from l.to)) result old new
path_told steps l from to o result old new f t apart is keeps =
    let P : Option Passage → Type 0 = λ x. KeepsWay (path_way l x) result old new in
    let make : Option (List LinkId) → Option Passage = option_map (λ links. record { start = from; end = to; links = links }) in
    let there : by_path steps (Point from) (Point to) ≡ make o = go (from.0 == to.0) (grind (arith, nat_tests)) ∙ ap make is in
    subst P (sym (ap (λ x. by_path steps x l.to) f ∙ ap (by_path steps (Point from)) t ∙ there)) keeps
  where
    go : (b : Bool) → b ≡ false → (let found : Option Passage = option_map (λ links. record { start = from; end = to; links = links }) (least_path steps from.0 to.0) in cond {A = Option Passage} b None found ≡ found)
    go true e = absurd (cc)
    go false e = refl

pub path_kept : (steps : List PathRoute) (l : Leg) (from to : PointId) (links : List LinkId) (old new : Kept) → l.from ≡ Point from → l.to ≡ Point to → from.0 ≢ to.0
    → IsLeastPath steps from.0 to.0 links → new ≡ keep_all old links → KeepsWay (path_way l (by_path steps l.from l.to)) (Ok tt) old new
path_kept steps l from to links old new f t apart least kept = path_told steps l from to (Some links) (Ok tt) old new f t apart (least_path_is steps from.0 to.0 links least) (refl, kept)

pub path_missing : (steps : List PathRoute) (l : Leg) (from to : PointId) (old new : Kept) → l.from ≡ Point from → l.to ≡ Point to → from.0 ≢ to.0
    → HasNoPath steps from.0 to.0 → KeepsWay (path_way l (by_path steps l.from l.to)) (Err l) old new
path_missing steps l from to old new f t apart none = path_told steps l from to None (Err l) old new f t apart (no_least_path steps from.0 to.0 none) refl
