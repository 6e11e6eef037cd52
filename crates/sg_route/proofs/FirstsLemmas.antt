-- First places.
use Rattle.std.proofs.Common.{◌≡◌, ◌≢◌, ◌<◌, ℕ, zero, suc, Bool, true, false, cond, List, [], ◌∷◌, ◌++◌, length, get_or, Result, Ok, Err, arith, refl, sym, ◌∙◌, ap, subst}
use Rattle.std.specs.Prelude.{◌==◌, ◌||◌, nat_lt, sum_by, AllPairs}
use Rattle.std.proofs.lemmas.Bool.Decides.{nat_tests}
use Rattle.sg_base.specs.declared.ids.LinkId.{LinkId}
use Rattle.sg_base.specs.declared.ids.PointId.{PointId}
use Rattle.sg_route.specs.declared.router.RouteFault.{RouteFault}
use Rattle.sg_route.specs.declared.router.RouteFault.TheVariants.{TooLong}
use Rattle.sg_route.specs.Roads.{Roads}
use Rattle.sg_route.specs.Route.{RouteLinks, whole_way, route_of, route_or_fault, latency_of, LeavesRoute}
use Rattle.sg_route.specs.DistinctLinks.{is_among, distinct_links}

-- no link stands twice
abbrev pub AreOnce : List LinkId → Type 0
AreOnce [] = Unit {0}
AreOnce (link ∷ rest) = (is_among link rest ≡ false) × AreOnce rest

among_more : (y x : LinkId) (seen : List LinkId) → is_among y seen ≡ true → is_among y (seen ++ x ∷ []) ≡ true
among_more y x [] h = absurd (cc)
among_more y x (s ∷ seen) h = go (s.0 == y.0) h (λ k. among_more y x seen k)
  where
    go : (b : Bool) → (b || is_among y seen) ≡ true → (is_among y seen ≡ true → is_among y (seen ++ x ∷ []) ≡ true) → (b || is_among y (seen ++ x ∷ [])) ≡ true
    go true h more = refl
    go false h more = more h

among_last : (x : LinkId) (seen : List LinkId) → is_among x (seen ++ x ∷ []) ≡ true
among_last x [] = grind (arith, nat_tests)
among_last x (s ∷ seen) = go (s.0 == x.0) (among_last x seen)
  where
    go : (b : Bool) → is_among x (seen ++ x ∷ []) ≡ true → (b || is_among x (seen ++ x ∷ [])) ≡ true
    go true h = refl
    go false h = h

-- what was seen does not come again
not_again : (y : LinkId) (seen xs : List LinkId) → is_among y seen ≡ true → is_among y (distinct_links seen xs) ≡ false
not_again y seen [] h = refl
not_again y seen (x ∷ xs) h = go (is_among x seen) refl (not_again y seen xs h) (not_again y (seen ++ x ∷ []) xs (among_more y x seen h))
  where
    go : (b : Bool) → is_among x seen ≡ b → is_among y (distinct_links seen xs) ≡ false → is_among y (distinct_links (seen ++ x ∷ []) xs) ≡ false
        → is_among y (cond b (distinct_links seen xs) (x ∷ distinct_links (seen ++ x ∷ []) xs)) ≡ false
    go true e f g = f
    go false e f g = other (x.0 == y.0) refl
      where
        other : (t : Bool) → (x.0 == y.0) ≡ t → (t || is_among y (distinct_links (seen ++ x ∷ []) xs)) ≡ false
        other true q =
            let n : x.0 ≡ y.0 = grind (arith, nat_tests) in
            let make : ℕ → LinkId = λ k. record { 0 = k } in
            let same : x ≡ y = ap make n in
            let bad : is_among x seen ≡ true = ap (λ z. is_among z seen) same ∙ h in
            absurd (cc)
        other false q = g

pub firsts_once : (seen xs : List LinkId) → AreOnce (distinct_links seen xs)
firsts_once seen [] = tt
firsts_once seen (x ∷ xs) = go (is_among x seen) (firsts_once seen xs) (firsts_once (seen ++ x ∷ []) xs)
  where
    go : (b : Bool) → AreOnce (distinct_links seen xs) → AreOnce (distinct_links (seen ++ x ∷ []) xs) → AreOnce (cond b (distinct_links seen xs) (x ∷ distinct_links (seen ++ x ∷ []) xs))
    go true f g = f
    go false f g = (not_again x (seen ++ x ∷ []) xs (among_last x seen), g)

apart_at : (x : LinkId) (rest : List LinkId) (k : ℕ) (d : LinkId) → is_among x rest ≡ false → k < length rest → x ≢ get_or rest k d
apart_at x [] k d none few same = omega arith
apart_at x (y ∷ rest) zero d none few same =
    let n : x.0 ≡ y.0 = ap (λ z. z.0) same in
    go (y.0 == x.0) (grind (arith, nat_tests)) none
  where
    go : (b : Bool) → b ≡ true → (b || is_among x rest) ≡ false → ⊥
    go true e h = cc
    go false e h = cc
apart_at x (y ∷ rest) (suc k) d none few same = apart_at x rest k d (go (y.0 == x.0) none) (omega arith) same
  where
    go : (b : Bool) → (b || is_among x rest) ≡ false → is_among x rest ≡ false
    go true h = absurd (cc)
    go false h = h

-- any two are apart
pub pairs_apart : (links : List LinkId) → AreOnce links → AllPairs (λ x y. x ≢ y) links
pairs_apart [] once i j d less few = absurd (omega arith)
pairs_apart (x ∷ rest) once i zero d less few = absurd (omega arith)
pairs_apart (x ∷ rest) once zero (suc j) d less few = apart_at x rest j d once.0 (omega arith)
pairs_apart (x ∷ rest) once (suc i) (suc j) d less few = pairs_apart rest once.1 i j d (omega arith) (omega arith)

once_of : (m : Roads) (w : RouteLinks) (result : Result ℕ RouteFault) (links : List LinkId) → LeavesRoute (route_or_fault m w) result links → AreOnce links
once_of m (Err missing) result links h = let P : List LinkId → Type 0 = AreOnce in subst P (sym h.1) tt
once_of m (Ok all) result links h = go (nat_lt 64 (length (distinct_links [] all))) h
  where
    go : (t : Bool) → LeavesRoute (cond t (Err TooLong) (Ok (record { links = distinct_links [] all; latency = sum_by (latency_of m) (distinct_links [] all) }))) result links → AreOnce links
    go true h = let P : List LinkId → Type 0 = AreOnce in subst P (sym h.1) tt
    go false h = let P : List LinkId → Type 0 = AreOnce in subst P (sym h.1) (firsts_once [] all)

-- the links that a route leaves
pub routed_apart : (m : Roads) (a b : PointId) (result : Result ℕ RouteFault) (links : List LinkId) → LeavesRoute (route_of m a b) result links → AllPairs (λ x y. x ≢ y) links
unfolding route_of
routed_apart m a b result links h = pairs_apart links (once_of m (whole_way m a b) result links h)
