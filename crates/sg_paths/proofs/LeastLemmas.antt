-- The shortest path of the definition is the shortest of all paths.
use Rattle.std.proofs.Common.{◌≡◌, ℕ, zero, suc, ◌<◌, ◌≤◌, ◌⊎◌, Bool, true, false, cond, Option, Some, None, List, [], ◌∷◌, ◌++◌, length, inl, inr, refl, sym, subst, ap, ◌∙◌, arith}
use Rattle.std.specs.Prelude.{◌==◌, Contains, MatchOption, map}
use Rattle.std.specs.List.{flat_map}
use Rattle.std.proofs.lemmas.Bool.Decides.{nat_tests}
use Rattle.sg_base.specs.declared.ids.LinkId.{LinkId}
use Rattle.sg_paths.specs.declared.route.PathRoute.{PathRoute}
use Rattle.sg_paths.specs.Order.{IsNotAfter, not_after}
use Rattle.sg_paths.specs.Path.{HasNoPath, HasPath, IsLeastPath, IsPath, links_of}
use Rattle.sg_paths.specs.Least.{least_path, lesser, LeastPathIsLeast}
use Rattle.sg_paths.specs.AllPaths.{all_links, paths_starting_with, trivial_path, least_of}
use Rattle.sg_paths.proofs.OrderLemmas.{not_after_behind, not_after_both, not_after_false, not_after_longer, not_after_same, not_after_through, not_after_true}
use Rattle.sg_paths.proofs.TableLemmas.{least_path_is_least_of_all}

-- ---- elements of lists

abbrev Among : {X : Type 0} → X → List X → Type 0
Among x [] = ⊥
Among x (y ∷ ys) = (x ≡ y) ⊎ Among x ys

among_left : {X : Type 0} (x : X) (xs ys : List X) → Among x xs → Among x (xs ++ ys)
among_left x [] ys h = absurd h
among_left x (y ∷ xs) ys (inl e) = inl e
among_left x (y ∷ xs) ys (inr h) = inr (among_left x xs ys h)

among_right : {X : Type 0} (x : X) (xs ys : List X) → Among x ys → Among x (xs ++ ys)
among_right x [] ys h = h
among_right x (y ∷ xs) ys h = inr (among_right x xs ys h)

among_either : {X : Type 0} (x : X) (xs ys : List X) → Among x (xs ++ ys) → Among x xs ⊎ Among x ys
among_either x [] ys h = inr h
among_either x (y ∷ xs) ys (inl e) = inl (inl e)
among_either x (y ∷ xs) ys (inr h) = go (among_either x xs ys h)
  where
    go : (Among x xs ⊎ Among x ys) → Among x (y ∷ xs) ⊎ Among x ys
    go (inl k) = inl (inr k)
    go (inr k) = inr k

among_map : {X Y : Type 0} (f : X → Y) (x : X) (xs : List X) → Among x xs → Among (f x) (map f xs)
among_map f x [] h = absurd h
among_map f x (y ∷ xs) (inl e) = inl (ap f e)
among_map f x (y ∷ xs) (inr h) = inr (among_map f x xs h)

of_map : {X Y : Type 0} (f : X → Y) (y : Y) (xs : List X) → Among y (map f xs) → (x : X) × Among x xs × (f x ≡ y)
of_map f y [] h = absurd h
of_map f y (x ∷ xs) (inl e) = (x, inl refl, sym e)
of_map f y (x ∷ xs) (inr h) = let r = of_map f y xs h in (r.0, inr r.1, r.2)

among_flat : {X Y : Type 0} (f : X → List Y) (x : X) (y : Y) (xs : List X) → Among x xs → Among y (f x) → Among y (flat_map f xs)
among_flat f x y [] h k = absurd h
among_flat {X} {Y} f x y (z ∷ xs) (inl e) k = among_left y (f z) (flat_map f xs) (subst (λ (w : X). Among y (f w)) e k)
among_flat f x y (z ∷ xs) (inr h) k = among_right y (f z) (flat_map f xs) (among_flat f x y xs h k)

of_flat : {X Y : Type 0} (f : X → List Y) (y : Y) (xs : List X) → Among y (flat_map f xs) → (x : X) × Among x xs × Among y (f x)
of_flat f y [] h = absurd h
of_flat {X} f y (x ∷ xs) h = go (among_either y (f x) (flat_map f xs) h) (λ k. of_flat f y xs k)
  where
    go : (Among y (f x) ⊎ Among y (flat_map f xs)) → (Among y (flat_map f xs) → (z : X) × Among z xs × Among y (f z)) → (z : X) × Among z (x ∷ xs) × Among y (f z)
    go (inl k) rest = (x, inl refl, k)
    go (inr k) rest = let r = rest k in (r.0, inr r.1, r.2)

among_of : {X : Type 0} (xs : List X) (x : X) → Contains xs x → Among x xs
among_of [] x (k, few, at) = absurd (omega arith)
among_of (y ∷ xs) x (zero, few, at) = inl (sym at)
among_of (y ∷ xs) x (suc k, few, at) = inr (among_of xs x (k, omega arith, at))

contains_of : {X : Type 0} (xs : List X) (x : X) → Among x xs → Contains xs x
contains_of [] x h = absurd h
contains_of (y ∷ xs) x (inl e) = (0, omega arith, sym e)
contains_of (y ∷ xs) x (inr h) = let r = contains_of xs x h in let few : r.0 < length xs = r.1 in (suc r.0, omega arith, r.2)

-- ---- the least of lists

pub record IsLeastOf (links : List LinkId) (all : List (List LinkId)) : Type 0 where
  pub among : Among links all
  pub least : (other : List LinkId) → Among other all → IsNotAfter links other

least_is_least : (all : List (List LinkId)) (links : List LinkId) → least_of all ≡ Some links → IsLeastOf links all
least_is_least [] links is = absurd (cc)
least_is_least (x ∷ xs) links is = go (least_of xs) refl (λ y e. least_is_least xs y e) is
  where
    go : (o : Option (List LinkId)) → least_of xs ≡ o → ((y : List LinkId) → least_of xs ≡ Some y → IsLeastOf y xs) → Some (lesser x o) ≡ Some links → IsLeastOf links (x ∷ xs)
    go None e rest is =
        let same : x ≡ links = cc in
        subst (λ (l : List LinkId). IsLeastOf l (x ∷ xs)) same (record { among = inl refl; least = λ other h. alone xs e other h })
      where
        alone : (ys : List (List LinkId)) → least_of ys ≡ None → (other : List LinkId) → Among other (x ∷ ys) → IsNotAfter x other
        alone [] none other (inl e) = subst (λ (l : List LinkId). IsNotAfter x l) (sym e) (not_after_same x)
        alone [] none other (inr h) = absurd h
        alone (y ∷ ys) none other h = absurd (cc)
    go (Some y) e rest is = choose (not_after x y) refl (rest y e) is
      where
        choose : (t : Bool) → not_after x y ≡ t → IsLeastOf y xs → Some (cond t x y) ≡ Some links → IsLeastOf links (x ∷ xs)
        choose true e r is =
            let same : x ≡ links = cc in
            let before : IsNotAfter x y = not_after_true x y e in
            subst (λ (l : List LinkId). IsLeastOf l (x ∷ xs)) same (record { among = inl refl; least = λ other h. first before other h })
          where
            first : IsNotAfter x y → (other : List LinkId) → Among other (x ∷ xs) → IsNotAfter x other
            first before other (inl e) = subst (λ (l : List LinkId). IsNotAfter x l) (sym e) (not_after_same x)
            first before other (inr h) = not_after_through x y other before (r.least other h)
        choose false e r is =
            let same : y ≡ links = cc in
            let before : IsNotAfter y x = not_after_false x y e in
            subst (λ (l : List LinkId). IsLeastOf l (x ∷ xs)) same (record { among = inr r.among; least = λ other h. second before other h })
          where
            second : IsNotAfter y x → (other : List LinkId) → Among other (x ∷ xs) → IsNotAfter y other
            second before other (inl e) = subst (λ (l : List LinkId). IsNotAfter y l) (sym e) before
            second before other (inr h) = r.least other h

none_of : (all : List (List LinkId)) → least_of all ≡ None → (links : List LinkId) → Among links all → ⊥
none_of [] is links h = h
none_of (x ∷ xs) is links h = cc

-- ---- paths over these routes

abbrev IsTour : List PathRoute → ℕ → ℕ → List PathRoute → Type 0
IsTour routes from to [] = from ≡ to
IsTour routes from to (route ∷ path) = Among route routes × (route.from ≡ from) × IsTour routes route.to to path

tour_of : (routes : List PathRoute) (from to : ℕ) (path : List PathRoute) → IsPath routes from to path → IsTour routes from to path
tour_of routes from to [] h = h
tour_of routes from to (route ∷ path) h = (among_of routes route h.0, h.1, tour_of routes route.to to path h.2)

path_of : (routes : List PathRoute) (from to : ℕ) (path : List PathRoute) → IsTour routes from to path → IsPath routes from to path
path_of routes from to [] h = h
path_of routes from to (route ∷ path) h = (contains_of routes route h.0, h.1, path_of routes route.to to path h.2)

-- ---- the list of all paths

abbrev no_links : List LinkId
no_links = []

ended_here : (from to : ℕ) → from ≡ to → Among no_links (trivial_path from to)
ended_here from to same = go (from == to) (grind (arith, nat_tests))
  where
    go : (t : Bool) → t ≡ true → Among no_links (cond t (no_links ∷ []) [])
    go true e = let same : no_links ≡ no_links = refl in inl same
    go false e = absurd (cc)

of_ended : (from to : ℕ) (links : List LinkId) → Among links (trivial_path from to) → (from ≡ to) × (no_links ≡ links)
of_ended from to links h = go (from == to) refl h
  where
    go : (t : Bool) → (from == to) ≡ t → Among links (cond t (no_links ∷ []) []) → (from ≡ to) × (no_links ≡ links)
    go true e (inl same) = let n : from ≡ to = grind (arith, nat_tests) in (n, sym same)
    go true e (inr h) = absurd h
    go false e h = absurd h

begun_with : (from : ℕ) (onward : ℕ → List (List LinkId)) (route : PathRoute) (links : List LinkId) → route.from ≡ from → Among links (onward route.to) → Among (route.links ++ links) (paths_starting_with from onward route)
begun_with from onward route links same h = go (route.from == from) (grind (arith, nat_tests)) (among_map (λ rest. route.links ++ rest) links (onward route.to) h)
  where
    go : (t : Bool) → t ≡ true → Among (route.links ++ links) (map (λ rest. route.links ++ rest) (onward route.to)) → Among (route.links ++ links) (cond t (map (λ rest. route.links ++ rest) (onward route.to)) [])
    go true e k = k
    go false e k = absurd (cc)

of_begun : (from : ℕ) (onward : ℕ → List (List LinkId)) (route : PathRoute) (links : List LinkId) → Among links (paths_starting_with from onward route)
    → (route.from ≡ from) × ((rest : List LinkId) × Among rest (onward route.to) × (route.links ++ rest ≡ links))
of_begun from onward route links h = go (route.from == from) refl h
  where
    go : (t : Bool) → (route.from == from) ≡ t → Among links (cond t (map (λ rest. route.links ++ rest) (onward route.to)) [])
        → (route.from ≡ from) × ((rest : List LinkId) × Among rest (onward route.to) × (route.links ++ rest ≡ links))
    go true e k = let n : route.from ≡ from = grind (arith, nat_tests) in (n, of_map (λ rest. route.links ++ rest) links (onward route.to) k)
    go false e k = absurd k

-- each path of so few routes stands in the list
listed : (most : ℕ) (routes : List PathRoute) (from to : ℕ) (path : List PathRoute) → IsTour routes from to path → length path ≤ most → Among (links_of path) (all_links most routes from to)
unfolding all_links
listed zero routes from to [] is few = ended_here from to is
listed zero routes from to (route ∷ path) is few = absurd (omega arith)
listed (suc most) routes from to [] is few = among_left no_links (trivial_path from to) (flat_map (paths_starting_with from (λ next. all_links most routes next to)) routes) (ended_here from to is)
listed (suc most) routes from to (route ∷ path) is few =
    let onward : ℕ → List (List LinkId) = λ next. all_links most routes next to in
    among_right (links_of (route ∷ path)) (trivial_path from to) (flat_map (paths_starting_with from onward) routes)
    (among_flat (paths_starting_with from onward) route (links_of (route ∷ path)) routes is.0
    (begun_with from onward route (links_of path) is.1 (listed most routes route.to to path is.2 (omega arith))))

-- and the list has nothing else
of_list : (most : ℕ) (routes : List PathRoute) (from to : ℕ) (links : List LinkId) → Among links (all_links most routes from to) → (path : List PathRoute) × IsTour routes from to path × (links_of path ≡ links)
unfolding all_links
of_list zero routes from to links h = let r = of_ended from to links h in ([], r.0, r.1)
of_list (suc most) routes from to links h = go (among_either links (trivial_path from to) (flat_map (paths_starting_with from (λ next. all_links most routes next to)) routes) h) (λ next rest k. of_list most routes next to rest k)
  where
    go : (Among links (trivial_path from to) ⊎ Among links (flat_map (paths_starting_with from (λ next. all_links most routes next to)) routes))
        → ((next : ℕ) (rest : List LinkId) → Among rest (all_links most routes next to) → (path : List PathRoute) × IsTour routes next to path × (links_of path ≡ rest))
        → (path : List PathRoute) × IsTour routes from to path × (links_of path ≡ links)
    go (inl k) onward = let r = of_ended from to links k in ([], r.0, r.1)
    go (inr k) onward =
        let f = of_flat (paths_starting_with from (λ next. all_links most routes next to)) links routes k in
        let b = of_begun from (λ next. all_links most routes next to) f.0 links f.2 in
        let p = onward (f.0).to (b.1).0 (b.1).1 in
        (f.0 ∷ p.0, (f.1, b.0, p.1), ap (λ rest. (f.0).links ++ rest) p.2 ∙ (b.1).2)

-- ---- a path passes through no point twice

-- the routes that don't begin at this point
others : ℕ → List PathRoute → List PathRoute
others x [] = []
others x (route ∷ routes) = cond (route.from == x) (others x routes) (route ∷ others x routes)

others_few : (x : ℕ) (routes : List PathRoute) → length (others x routes) ≤ length routes
unfolding others
others_few x [] = omega arith
others_few x (route ∷ routes) = go (route.from == x) (others_few x routes)
  where
    go : (t : Bool) → length (others x routes) ≤ length routes → length (cond t (others x routes) (route ∷ others x routes)) ≤ length (route ∷ routes)
    go true h = omega arith
    go false h = omega arith

others_fewer : (x : ℕ) (routes : List PathRoute) (route : PathRoute) → Among route routes → route.from ≡ x → length (others x routes) < length routes
unfolding others
others_fewer x [] route h begins = absurd h
others_fewer x (first ∷ routes) route h begins = go (first.from == x) refl (others_few x routes) h (λ k. others_fewer x routes route k begins)
  where
    go : (t : Bool) → (first.from == x) ≡ t → length (others x routes) ≤ length routes → (route ≡ first) ⊎ Among route routes → (Among route routes → length (others x routes) < length routes)
        → length (cond t (others x routes) (first ∷ others x routes)) < length (first ∷ routes)
    go true e few h rest = omega arith
    go false e few (inl same) rest =
        let at : first.from ≡ x = ap (λ (r : PathRoute). r.from) (sym same) ∙ begins in
        let t : (first.from == x) ≡ true = grind (arith, nat_tests) in
        absurd (cc)
    go false e few (inr k) rest = let r = rest k in omega arith

others_among : (x : ℕ) (routes : List PathRoute) (route : PathRoute) → Among route (others x routes) → Among route routes
unfolding others
others_among x [] route h = h
others_among x (first ∷ routes) route h = go (first.from == x) h (λ k. others_among x routes route k)
  where
    go : (t : Bool) → Among route (cond t (others x routes) (first ∷ others x routes)) → (Among route (others x routes) → Among route routes) → Among route (first ∷ routes)
    go true k rest = inr (rest k)
    go false (inl e) rest = inl e
    go false (inr k) rest = inr (rest k)

other_among : (x : ℕ) (routes : List PathRoute) (route : PathRoute) → Among route routes → (route.from == x) ≡ false → Among route (others x routes)
unfolding others
other_among x [] route h far = h
other_among x (first ∷ routes) route h far = go (first.from == x) refl h (λ k. other_among x routes route k far)
  where
    go : (t : Bool) → (first.from == x) ≡ t → (route ≡ first) ⊎ Among route routes → (Among route routes → Among route (others x routes)) → Among route (cond t (others x routes) (first ∷ others x routes))
    go true e (inl same) rest = let f : (first.from == x) ≡ false = ap (λ (r : PathRoute). r.from == x) (sym same) ∙ far in absurd (cc)
    go true e (inr k) rest = rest k
    go false e (inl same) rest = inl same
    go false e (inr k) rest = inr (rest k)

no_other : (x : ℕ) (routes : List PathRoute) (route : PathRoute) → Among route (others x routes) → route.from ≡ x → ⊥
unfolding others
no_other x [] route h begins = h
no_other x (first ∷ routes) route h begins = pick (first.from == x) refl h (λ k. no_other x routes route k begins)
  where
    pick : (t : Bool) → (first.from == x) ≡ t → Among route (cond t (others x routes) (first ∷ others x routes)) → (Among route (others x routes) → ⊥) → ⊥
    pick true e k rest = rest k
    pick false e (inl same) rest =
        let at : first.from ≡ x = ap (λ (r : PathRoute). r.from) (sym same) ∙ begins in
        let t : (first.from == x) ≡ true = grind (arith, nat_tests) in
        cc
    pick false e (inr k) rest = rest k

others_tour : (x : ℕ) (routes : List PathRoute) (from to : ℕ) (path : List PathRoute) → IsTour (others x routes) from to path → IsTour routes from to path
others_tour x routes from to [] h = h
others_tour x routes from to (route ∷ path) h = (others_among x routes route h.0, h.1, others_tour x routes route.to to path h.2)

-- the last departure of a path from this point
record Departs (routes : List PathRoute) (x to : ℕ) (links : List LinkId) : Type 0 where
  route : PathRoute
  path : List PathRoute
  among : Among route routes
  begins : route.from ≡ x
  onward : IsTour (others x routes) route.to to path
  less : IsNotAfter (route.links ++ links_of path) links

-- a path departs from a point for the last time, or never
last_departure : (x : ℕ) (routes : List PathRoute) (from to : ℕ) (path : List PathRoute) → IsTour routes from to path → IsTour (others x routes) from to path ⊎ Departs routes x to (links_of path)
last_departure x routes from to [] is = inl is
last_departure x routes from to (route ∷ path) is = go (route.from == x) refl (last_departure x routes route.to to path is.2)
  where
    go : (t : Bool) → (route.from == x) ≡ t → IsTour (others x routes) route.to to path ⊎ Departs routes x to (links_of path) → IsTour (others x routes) from to (route ∷ path) ⊎ Departs routes x to (links_of (route ∷ path))
    go t e (inr d) = inr (record {
      route = d.route;
      path = d.path;
      among = d.among;
      begins = d.begins;
      onward = d.onward;
      less = not_after_through ((d.route).links ++ links_of d.path) (links_of path) (route.links ++ links_of path) d.less (not_after_longer route.links (links_of path));
    })
    go true e (inl never) =
        let begins : route.from ≡ x = grind (arith, nat_tests) in
        inr (record { route = route; path = path; among = is.0; begins = begins; onward = never; less = not_after_same (route.links ++ links_of path) })
    go false e (inl never) = inl (other_among x routes route is.0 e, is.1, never)

-- a path of at most as many routes as there are, and of no more links
record Short (most : ℕ) (routes : List PathRoute) (from to : ℕ) (links : List LinkId) : Type 0 where
  path : List PathRoute
  is : IsTour routes from to path
  few : length path ≤ most
  less : IsNotAfter (links_of path) links

shorter : (most : ℕ) (routes : List PathRoute) → length routes ≤ most → (from to : ℕ) (path : List PathRoute) → IsTour routes from to path → Short most routes from to (links_of path)
shorter most routes fits from to [] is = record { path = []; is = is; few = omega arith; less = not_after_same [] }
shorter zero [] fits from to (route ∷ path) is = absurd is.0
shorter zero (first ∷ routes) fits from to (route ∷ path) is = absurd (omega arith)
shorter (suc most) routes fits from to (route ∷ path) is =
    go (λ fewer next rest tour. shorter most (others from routes) fewer next to rest tour) (last_departure from routes from to (route ∷ path) is)
  where
    go : (length (others from routes) ≤ most → (next : ℕ) (rest : List PathRoute) → IsTour (others from routes) next to rest → Short most (others from routes) next to (links_of rest))
        → IsTour (others from routes) from to (route ∷ path) ⊎ Departs routes from to (links_of (route ∷ path)) → Short (suc most) routes from to (links_of (route ∷ path))
    go onward (inl never) = absurd (no_other from routes route never.0 is.1)
    go onward (inr d) =
        let fewer = others_fewer from routes d.route d.among d.begins in
        let rest = onward (omega arith) (d.route).to d.path d.onward in
        let few : length rest.path ≤ most = rest.few in
        record {
          path = d.route ∷ rest.path;
          is = (d.among, d.begins, others_tour from routes (d.route).to to rest.path rest.is);
          few = omega arith;
          less = not_after_through ((d.route).links ++ links_of rest.path) ((d.route).links ++ links_of d.path) (links_of (route ∷ path))
              (not_after_behind (d.route).links (links_of rest.path) (links_of d.path) rest.less) d.less;
        }

-- ---- the shortest path

pub least_found : (routes : List PathRoute) (from to : ℕ) (links : List LinkId) → least_path routes from to ≡ Some links → IsLeastPath routes from to links
least_found routes from to links is =
    let l = least_is_least (all_links (length routes) routes from to) links (sym (least_path_is_least_of_all routes from to) ∙ is) in
    let p = of_list (length routes) routes from to links l.among in
    record { reached = (p.0, path_of routes from to p.0 p.1, p.2); least = λ other has. before l other has }
  where
    before : IsLeastOf links (all_links (length routes) routes from to) → (other : List LinkId) → HasPath routes from to other → IsNotAfter links other
    before l other (path, is, same) =
        let s = shorter (length routes) routes (omega arith) from to path (tour_of routes from to path is) in
        let first : IsNotAfter links (links_of s.path) = l.least (links_of s.path) (listed (length routes) routes from to s.path s.is s.few) in
        subst (λ (o : List LinkId). IsNotAfter links o) same (not_after_through links (links_of s.path) (links_of path) first s.less)

pub none_found : (routes : List PathRoute) (from to : ℕ) → least_path routes from to ≡ None → HasNoPath routes from to
none_found routes from to is links (path, tour, same) =
    let s = shorter (length routes) routes (omega arith) from to path (tour_of routes from to path tour) in
    none_of (all_links (length routes) routes from to) (sym (least_path_is_least_of_all routes from to) ∙ is) (links_of s.path) (listed (length routes) routes from to s.path s.is s.few)

-- the definition means what it says
pub least_path_is_least : (routes : List PathRoute) → LeastPathIsLeast routes
least_path_is_least routes from to = go (least_path routes from to) refl
  where
    go : (o : Option (List LinkId)) → least_path routes from to ≡ o → MatchOption o (HasNoPath routes from to) (IsLeastPath routes from to)
    go None e = none_found routes from to e
    go (Some links) e = least_found routes from to links e

-- what is least of all paths is that of the definition
pub least_path_is : (routes : List PathRoute) (from to : ℕ) (links : List LinkId) → IsLeastPath routes from to links → least_path routes from to ≡ Some links
least_path_is routes from to links is = go (least_path routes from to) refl
  where
    go : (o : Option (List LinkId)) → least_path routes from to ≡ o → o ≡ Some links
    go None e = absurd (none_found routes from to e links is.reached)
    go (Some other) e =
        let l = least_found routes from to other e in
        ap Some (not_after_both other links (l.least links is.reached) (is.least other l.reached))

pub no_least_path : (routes : List PathRoute) (from to : ℕ) → HasNoPath routes from to → least_path routes from to ≡ None
no_least_path routes from to none = go (least_path routes from to) refl
  where
    go : (o : Option (List LinkId)) → least_path routes from to ≡ o → o ≡ None
    go None e = refl
    go (Some links) e = absurd (none links (least_found routes from to links e).reached)
