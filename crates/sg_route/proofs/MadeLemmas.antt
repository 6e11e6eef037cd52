-- What a route is made of.
use Rattle.std.proofs.Common.{◌≡◌, ◌≢◌, ◌<◌, ◌++◌, ℕ, zero, suc, Bool, true, false, cond, List, [], length, Option, None, Some, Result, Ok, Err, inl, inr, arith, refl, sym, ◌∙◌, ap, subst}
use Rattle.std.specs.Option.{option_map}
use Rattle.std.specs.Prelude.{◌==◌, nat_lt, sum_by, IfErr}
use Rattle.std.proofs.lemmas.Bool.Decides.{nat_tests}
use Rattle.sg_base.specs.declared.ids.Child.{Child}
use Rattle.sg_base.specs.declared.ids.Child.TheVariants.{Point, Zone}
use Rattle.sg_base.specs.declared.ids.LinkId.{LinkId}
use Rattle.sg_base.specs.declared.ids.PointId.{PointId}
use Rattle.sg_paths.proofs.LeastLemmas.{least_found, none_found}
use Rattle.sg_paths.specs.Least.{least_path}
use Rattle.sg_paths.specs.Path.{HasNoPath, IsLeastPath}
use Rattle.sg_paths.specs.declared.route.PathRoute.{PathRoute}
use Rattle.sg_platform_rows.specs.declared.rows.Routing.{Routing}
use Rattle.sg_platform_rows.specs.declared.rows.Routing.TheVariants.{Dijkstra}
use Rattle.sg_route.specs.declared.leg.Leg.{Leg}
use Rattle.sg_route.specs.declared.router.RouteFault.{RouteFault}
use Rattle.sg_route.specs.declared.router.RouteFault.TheVariants.{TooLong}
use Rattle.sg_route.specs.DistinctLinks.{distinct_links}
use Rattle.sg_route.specs.Made.{HasNoneFrom, IsJoined, IsLeastThere, IsMadeOf, IsReached, IsWithoutPath, LeavesMade, UnlessThere}
use Rattle.sg_route.specs.Roads.{Roads}
use Rattle.sg_route.specs.Route.{LeavesRoute, Passage, RouteLinks, by_path, latency_of, leg, passage, passage_on, route_of, route_or_fault, unless_there, way, route_over, whole_way}
use Rattle.sg_route.proofs.Passages.{by_passage}
use Rattle.sg_route.specs.PathRoutes.{path_routes}
use Rattle.sg_route.proofs.LegLemmas.{from_point, to_point}
use Rattle.sg_route.proofs.RouteLemmas.{whole_elsewhere, whole_there}
use Rattle.sg_route.proofs.WalkLemmas.{elsewhere}
use Rattle.sg_zones.specs.Tree.{home, path_in, routing_in}

-- ---- local routes of Dijkstra zones

record IsFoundPath (steps : List PathRoute) (f t : Child) (own : Passage) : Type 0 where
  from : f ≡ Point own.start
  to : t ≡ Point own.end
  least : IsLeastPath steps own.start.0 own.end.0 own.links

found_path : (steps : List PathRoute) (f t : Child) (own : Passage) → by_path steps f t ≡ Some own → IsFoundPath steps f t own
found_path steps (Zone a) t own is = absurd (cc)
found_path steps (Point a) (Zone b) own is = absurd (cc)
found_path steps (Point a) (Point b) own is = go (a.0 == b.0) (least_path steps a.0 b.0) refl is
  where
    go : (same : Bool) (o : Option (List LinkId)) → least_path steps a.0 b.0 ≡ o → cond same None (option_map (λ links. record { start = a; end = b; links = links }) o) ≡ Some own
        → IsFoundPath steps (Point a) (Point b) own
    go true o e h = absurd (cc)
    go false None e h = absurd (cc)
    go false (Some links) e h =
        let q : Passage = record { start = a; end = b; links = links } in
        let same : q ≡ own = cc in
        let P : Passage → Type 0 = IsFoundPath steps (Point a) (Point b) in
        subst P same (record { from = refl; to = refl; least = least_found steps a.0 b.0 links e })

by_paths : (m : Roads) (l : Leg) → routing_in m.tree l.zone ≡ Dijkstra → passage_on m l ≡ by_path (path_routes m.tree m.locals) l.from l.to
by_paths m l dijkstra = ap (λ (r : Routing). passage m r l.from l.to) dijkstra

in_dijkstra : (m : Roads) (l : Leg) (own : Passage) → passage_on m l ≡ Some own → routing_in m.tree l.zone ≡ Dijkstra → IsFoundPath (path_routes m.tree m.locals) l.from l.to own
in_dijkstra m l own is dijkstra = found_path (path_routes m.tree m.locals) l.from l.to own (sym (by_paths m l dijkstra) ∙ is)

-- all local routes have something
abbrev AllHave : (Leg → Passage → Type 0) → Roads → Type 0
AllHave has m = (l : Leg) (own : Passage) → passage_on m l ≡ Some own → has l own

all_reached : (m : Roads) → AllHave (IsReached m) m
all_reached m l own is dijkstra = let r = in_dijkstra m l own is dijkstra in record { from = r.from; to = r.to; path = r.least.reached }

all_least : (m : Roads) → AllHave (IsLeastThere m) m
all_least m l own is dijkstra = let r = in_dijkstra m l own is dijkstra in r.least.least

-- ---- ways are made of local routes

unless_made : (made : PointId → PointId → List LinkId → Type 0) (w : PointId → PointId → RouteLinks) (a b : PointId) (links : List LinkId)
    → (a.0 ≢ b.0 → w a b ≡ Ok links → made a b links) → unless_there w a b ≡ Ok links → UnlessThere made a b links
unless_made made w a b links each is = go (a.0 == b.0) refl is
  where
    go : (t : Bool) → (a.0 == b.0) ≡ t → cond t (Ok []) (w a b) ≡ Ok links → UnlessThere made a b links
    go true e h =
        let same : a.0 ≡ b.0 = grind (arith, nat_tests) in
        let none : links ≡ [] = cc in
        inl (same, none)
    go false e h =
        let far : a.0 ≢ b.0 = grind (arith, nat_tests) in
        inr (far, each far h)

-- what is joined of three
record IsOver (front behind : RouteLinks) (own links : List LinkId) : Type 0 where
  before : List LinkId
  after : List LinkId
  in_front : front ≡ Ok before
  on : behind ≡ Ok after
  joined : links ≡ before ++ own ++ after

over : (front behind : RouteLinks) (own links : List LinkId) → route_over front own behind ≡ Ok links → IsOver front behind own links
over (Err e) behind own links h = absurd (cc)
over (Ok xs) (Err e) own links h = absurd (cc)
over (Ok xs) (Ok ys) own links h = record { before = xs; after = ys; in_front = refl; on = refl; joined = cc }

step_made : (has : Leg → Passage → Type 0) (made : PointId → PointId → List LinkId → Type 0) (w : PointId → PointId → RouteLinks) (m : Roads) (a b : PointId) (o : Option Passage) (links : List LinkId)
    → AllHave has m → ((x y : PointId) (all : List LinkId) → w x y ≡ Ok all → made x y all)
    → passage_on m (leg m a b) ≡ o → by_passage w a b (leg m a b) o ≡ Ok links → IsJoined has made m a b links
step_made has made w m a b None links each inner is h = absurd (cc)
step_made has made w m a b (Some own) links each inner is h =
    let r = over (unless_there w a own.start) (unless_there w own.end b) own.links links h in
    record {
      own = own;
      front = r.before;
      behind = r.after;
      local = is;
      holds = each (leg m a b) own is;
      before = unless_made made w a own.start r.before (λ far k. inner a own.start r.before k) r.in_front;
      after = unless_made made w own.end b r.after (λ far k. inner own.end b r.after k) r.on;
      joined = r.joined;
    }

way_made : (has : Leg → Passage → Type 0) (levels : ℕ) (m : Roads) → AllHave has m → (a b : PointId) (links : List LinkId) → way levels m a b ≡ Ok links → IsMadeOf has levels m a b links
unfolding way IsMadeOf
way_made has zero m each a b links is = let none : links ≡ [] = cc in none
way_made has (suc levels) m each a b links is =
    step_made has (IsMadeOf has levels m) (way levels m) m a b (passage_on m (leg m a b)) links each (λ x y all h. way_made has levels m each x y all h) refl is

judged_made : (has : Leg → Passage → Type 0) (m : Roads) (a b : PointId) (w : RouteLinks) (result : Result ℕ RouteFault) (links : List LinkId)
    → ((all : List LinkId) → w ≡ Ok all → IsMadeOf has 16 m a b all) → LeavesRoute (route_or_fault m w) result links → LeavesMade has m a b result links
judged_made has m a b (Err missing) result links made h =
    let P : Result ℕ RouteFault → Type 0 = λ r. LeavesMade has m a b r links in
    subst P (sym h.0) tt
judged_made has m a b (Ok all) result links made h = go (nat_lt 64 (length (distinct_links [] all))) refl h
  where
    go : (t : Bool) → nat_lt 64 (length (distinct_links [] all)) ≡ t
        → LeavesRoute (cond t (Err TooLong) (Ok (record { links = distinct_links [] all; latency = sum_by (latency_of m) (distinct_links [] all) }))) result links → LeavesMade has m a b result links
    go true e h =
        let more : 64 < length (distinct_links [] all) = grind (arith, nat_tests) in
        let P : Result ℕ RouteFault → Type 0 = λ r. LeavesMade has m a b r links in
        subst P (sym h.0) (all, made all refl, more)
    go false e h = let P : Result ℕ RouteFault → Type 0 = λ r. LeavesMade has m a b r links in subst P (sym h.0) (all, made all refl, h.1)

left_made : (has : Leg → Passage → Type 0) (m : Roads) → AllHave has m → (a b : PointId) (result : Result ℕ RouteFault) (links : List LinkId) → a.0 ≢ b.0
    → LeavesRoute (route_of m a b) result links → LeavesMade has m a b result links
unfolding route_of
left_made has m each a b result links far h =
    judged_made has m a b (whole_way m a b) result links (λ all is. way_made has 16 m each a b all (sym (whole_elsewhere m a b far ∙ elsewhere (way 16 m) a b far) ∙ is)) h

pub left_reached : (m : Roads) (a b : PointId) (result : Result ℕ RouteFault) (links : List LinkId) → LeavesRoute (route_of m a b) result links
    → a.0 ≢ b.0 → LeavesMade (IsReached m) m a b result links
left_reached m a b result links h far = left_made (IsReached m) m (all_reached m) a b result links far h

pub left_least : (m : Roads) (a b : PointId) (result : Result ℕ RouteFault) (links : List LinkId) → LeavesRoute (route_of m a b) result links
    → a.0 ≢ b.0 → LeavesMade (IsLeastThere m) m a b result links
left_least m a b result links h far = left_made (IsLeastThere m) m (all_least m) a b result links far h

-- ---- what is missing

-- the leg of two points that has no local route
record IsMissing (m : Roads) (missing : Leg) : Type 0 where
  a : PointId
  b : PointId
  far : a.0 ≢ b.0
  same : leg m a b ≡ missing
  none : passage_on m (leg m a b) ≡ None

unless_missing : (w : PointId → PointId → RouteLinks) (a b : PointId) (missing : Leg) (P : Type 0)
    → (a.0 ≢ b.0 → w a b ≡ Err missing → P) → unless_there w a b ≡ Err missing → P
unless_missing w a b missing P each is = go (a.0 == b.0) refl is
  where
    go : (t : Bool) → (a.0 == b.0) ≡ t → cond t (Ok []) (w a b) ≡ Err missing → P
    go true e h = absurd (cc)
    go false e h = let far : a.0 ≢ b.0 = grind (arith, nat_tests) in each far h

over_missing : (front behind : RouteLinks) (own : List LinkId) (missing : Leg) (P : Type 0) → (front ≡ Err missing → P) → (behind ≡ Err missing → P) → route_over front own behind ≡ Err missing → P
over_missing (Err e) behind own missing P f b h = f h
over_missing (Ok xs) (Err e) own missing P f b h = b h
over_missing (Ok xs) (Ok ys) own missing P f b h = absurd (cc)

step_missing : (w : PointId → PointId → RouteLinks) (m : Roads) (a b : PointId) (o : Option Passage) (missing : Leg) → a.0 ≢ b.0
    → ((x y : PointId) → x.0 ≢ y.0 → w x y ≡ Err missing → IsMissing m missing)
    → passage_on m (leg m a b) ≡ o → by_passage w a b (leg m a b) o ≡ Err missing → IsMissing m missing
step_missing w m a b None missing far inner is h = let same : leg m a b ≡ missing = cc in
    record { a = a; b = b; far = far; same = same; none = is }
step_missing w m a b (Some own) missing far inner is h =
    over_missing (unless_there w a own.start) (unless_there w own.end b) own.links missing (IsMissing m missing)
    (λ k. unless_missing w a own.start missing (IsMissing m missing) (λ apart q. inner a own.start apart q) k)
    (λ k. unless_missing w own.end b missing (IsMissing m missing) (λ apart q. inner own.end b apart q) k) h

way_missing : (levels : ℕ) (m : Roads) (a b : PointId) (missing : Leg) → a.0 ≢ b.0 → way levels m a b ≡ Err missing → IsMissing m missing
unfolding way
way_missing zero m a b missing far is = absurd (cc)
way_missing (suc levels) m a b missing far is =
    step_missing (way levels m) m a b (passage_on m (leg m a b)) missing far (λ x y apart h. way_missing levels m x y missing apart h) refl is

none_between : (m : Roads) (f t : Child) → ((x y : PointId) → f ≡ Point x → t ≡ Point y → x.0 ≢ y.0) → by_path (path_routes m.tree m.locals) f t ≡ None → HasNoneFrom m f t
none_between m (Zone x) t apart is = tt
none_between m (Point x) (Zone y) apart is = tt
none_between m (Point x) (Point y) apart is = go (x.0 == y.0) refl (least_path (path_routes m.tree m.locals) x.0 y.0) refl is
  where
    go : (t : Bool) → (x.0 == y.0) ≡ t → (o : Option (List LinkId)) → least_path (path_routes m.tree m.locals) x.0 y.0 ≡ o
        → cond {A = Option Passage} t None (option_map (λ links. record { start = x; end = y; links = links }) o) ≡ None → HasNoPath (path_routes m.tree m.locals) x.0 y.0
    go true e o f h = let same : x.0 ≡ y.0 = grind (arith, nat_tests) in absurd (apart x y refl refl same)
    go false e None f h = none_found (path_routes m.tree m.locals) x.0 y.0 f
    go false e (Some links) f h = absurd (cc)

missing_none : (m : Roads) (missing : Leg) → IsMissing m missing → routing_in m.tree missing.zone ≡ Dijkstra → HasNoneFrom m missing.from missing.to
missing_none m missing is dijkstra =
    let za = home m.tree is.a in
    let us = path_in m.tree za in
    let vs = path_in m.tree (home m.tree is.b) in
    let l : Leg = leg m is.a is.b in
    let Q : Leg → Type 0 = λ k. routing_in m.tree k.zone ≡ Dijkstra in
    let P : Leg → Type 0 = λ k. HasNoneFrom m k.from k.to in
    let none : by_path (path_routes m.tree m.locals) l.from l.to ≡ None = sym (by_paths m l (subst Q (sym is.same) dijkstra)) ∙ is.none in
    subst P is.same
    (none_between m l.from l.to (λ x y f t same. is.far (ap (λ p. p.0) (from_point za is.a is.b us vs x f) ∙ same ∙ sym (ap (λ p. p.0) (to_point za is.a is.b us vs y t)))) none)

judged_none : (m : Roads) (w : RouteLinks) (result : Result ℕ RouteFault) (links : List LinkId) → ((missing : Leg) → w ≡ Err missing → IsMissing m missing)
    → LeavesRoute (route_or_fault m w) result links → IfErr result (IsWithoutPath m)
judged_none m (Err missing) result links is h =
    let P : Result ℕ RouteFault → Type 0 = λ r. IfErr r (IsWithoutPath m) in
    subst P (sym h.0) (λ dijkstra. missing_none m missing (is missing refl) dijkstra)
judged_none m (Ok all) result links is h = go (nat_lt 64 (length (distinct_links [] all))) h
  where
    go : (t : Bool) → LeavesRoute (cond t (Err TooLong) (Ok (record { links = distinct_links [] all; latency = sum_by (latency_of m) (distinct_links [] all) }))) result links → IfErr result (IsWithoutPath m)
    go true h = let P : Result ℕ RouteFault → Type 0 = λ r. IfErr r (IsWithoutPath m) in subst P (sym h.0) tt
    go false h = let P : Result ℕ RouteFault → Type 0 = λ r. IfErr r (IsWithoutPath m) in subst P (sym h.0) tt

whole_missing : (m : Roads) (a b : PointId) (missing : Leg) → whole_way m a b ≡ Err missing → IsMissing m missing
whole_missing m a b missing is = go (a.0 == b.0) refl
  where
    go : (t : Bool) → (a.0 == b.0) ≡ t → IsMissing m missing
    go true e = let same : a.0 ≡ b.0 = grind (arith, nat_tests) in let there = whole_there m a b same in absurd (cc)
    go false e =
        let far : a.0 ≢ b.0 = grind (arith, nat_tests) in
        way_missing 16 m a b missing far (sym (whole_elsewhere m a b far ∙ elsewhere (way 16 m) a b far) ∙ is)

pub left_none : (m : Roads) (a b : PointId) (result : Result ℕ RouteFault) (links : List LinkId) → LeavesRoute (route_of m a b) result links → IfErr result (IsWithoutPath m)
unfolding route_of
left_none m a b result links h = judged_none m (whole_way m a b) result links (λ missing is. whole_missing m a b missing is) h
