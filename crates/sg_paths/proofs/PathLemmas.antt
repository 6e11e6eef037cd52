-- Shortest paths, found from their end on.
use Rattle.std.proofs.Common.{◌≡◌, ℕ, zero, suc, ◌<◌, ◌≤◌, ◌⊎◌, Bool, true, false, cond, eqb, Some, List, [], ◌∷◌, ◌++◌, length, inl, inr, refl, sym, subst, ap, ap₂, ◌∙◌, arith, append_assoc}
use Rattle.std.specs.Prelude.{slice_get, Contains}
use Rattle.std.proofs.lemmas.Bool.{eq-eqb}
use Rattle.std.proofs.lemmas.Bool.Decides.{eqb_tells}
use Rattle.std.proofs.lemmas.Option.{slice_get_within, slice_get_read, get_or_from_slice_get}
use Rattle.sg_base.specs.declared.ids.LinkId.{LinkId}
use Rattle.sg_paths.specs.declared.route.PathRoute.{PathRoute}
use Rattle.sg_paths.specs.declared.trail.Settled.{Settled}
use Rattle.sg_paths.specs.Order.{IsNotAfter}
use Rattle.sg_paths.specs.Path.{IsPath, links_of, HasPath, IsLeastPath}
use Rattle.sg_paths.specs.Trail.{links_in, links_at, hop_links, LeadsBack, IsTrail, IsSettledAt, IsNew}
use Rattle.sg_paths.specs.Arrivals.{from_at, from_in, to_at, to_in}
use Rattle.sg_paths.specs.Crossing.{AreWithin, IsCrossing}
use Rattle.sg_paths.proofs.OrderLemmas.{not_after_through, not_after_behind, not_after_longer, nothing_before}
use Rattle.sg_paths.proofs.TrailLemmas.{pushed, settled_or_new, still_there}

-- a finalized point's route leads from it to the finalized point that is next
pub record IsJoined (routes : List PathRoute) (settled : List Settled) (s : Settled) : Type 0 where
  pub few : s.route < length routes
  pub from : from_at routes s.route ≡ s.point
  pub next : IsSettledAt settled s.next (to_at routes s.route)

-- the links from each finalized point on are those of a shortest path
pub record IsKnown (routes : List PathRoute) (settled : List Settled) (to : ℕ) (label : ℕ → List LinkId) : Type 0 where
  pub trail : IsTrail routes settled label
  pub least : (k : ℕ) (s : Settled) → slice_get settled k ≡ Some s → IsLeastPath routes s.point to (label k)
  pub joined : (k : ℕ) (s : Settled) → 0 < k → slice_get settled k ≡ Some s → IsJoined routes settled s

-- a path from a new point crosses into the finalized ones, and no later than it ends
pub crosses : (routes : List PathRoute) (settled : List Settled) (to : ℕ) (label : ℕ → List LinkId) (known : IsKnown routes settled to label) → IsSettledAt settled 0 to
    → (path : List PathRoute) (from : ℕ) → IsNew settled from → IsPath routes from to path
    → (hop : Settled) × IsCrossing routes settled hop × IsNotAfter (hop_links routes label hop) (links_of path)
crosses routes settled to label known (s, at, point) [] from new is = absurd (new 0 s at (point ∙ sym is))
crosses routes settled to label known root (route ∷ path) from new ((i, below, there), begins, is) = go (λ other. crosses routes settled to label known root path route.to other is) (settled_or_new settled route.to)
  where
    there_is : slice_get routes i ≡ Some route
    there_is = slice_get_read routes (length routes) i route refl below (sym there)

    go : (IsNew settled route.to → (hop : Settled) × IsCrossing routes settled hop × IsNotAfter (hop_links routes label hop) (links_of path)) → ((k : ℕ) × IsSettledAt settled k route.to) ⊎ IsNew settled route.to → (hop : Settled) × IsCrossing routes settled hop × IsNotAfter (hop_links routes label hop) (route.links ++ links_of path)
    go rest (inl (k, (s, at, point))) =
        let hop : Settled = record { point = from; route = i; next = k } in
        let crossing : IsCrossing routes settled hop = record { route = route; next = s; route_is = there_is; next_is = at; from = begins; to = point; new = new } in
        let onward : IsPath routes s.point to path = subst (λ (p : ℕ). IsPath routes p to path) (sym point) is in
        let least : IsNotAfter (label k) (links_of path) = (known.least k s at).least (links_of path) (path, onward, refl) in
        let same : route.links ≡ links_at routes i = sym (ap links_in there_is) in
        (hop, crossing, subst (λ (l : List LinkId). IsNotAfter (l ++ label k) (route.links ++ links_of path)) same (not_after_behind route.links (label k) (links_of path) least))
    go rest (inr other) = further (rest other)
      where
        further : (hop : Settled) × IsCrossing routes settled hop × IsNotAfter (hop_links routes label hop) (links_of path) → (hop : Settled) × IsCrossing routes settled hop × IsNotAfter (hop_links routes label hop) (route.links ++ links_of path)
        further (hop, crossing, least) = (hop, crossing, not_after_through (hop_links routes label hop) (links_of path) (route.links ++ links_of path) least (not_after_longer route.links (links_of path)))

-- if nothing crosses, there is no path from a new point
pub no_path : (routes : List PathRoute) (settled : List Settled) (to : ℕ) (label : ℕ → List LinkId) → IsKnown routes settled to label → IsSettledAt settled 0 to → (from : ℕ) → IsNew settled from → ((hop : Settled) → IsCrossing routes settled hop → ⊥) → (links : List LinkId) → HasPath routes from to links → ⊥
no_path routes settled to label known root from new none links (path, is, same) = go (crosses routes settled to label known root path from new is)
  where
    go : (hop : Settled) × IsCrossing routes settled hop × IsNotAfter (hop_links routes label hop) (links_of path) → ⊥
    go (hop, crossing, least) = none hop crossing

-- of the crossing hops this one has the least links
pub record IsNearest (routes : List PathRoute) (settled : List Settled) (label : ℕ → List LinkId) (hop : Settled) : Type 0 where
  pub crossing : IsCrossing routes settled hop
  pub least : (other : Settled) → IsCrossing routes settled other → IsNotAfter (hop_links routes label hop) (hop_links routes label other)

-- the nearest hop is the beginning of a shortest path
pub hop_least : (routes : List PathRoute) (settled : List Settled) (to : ℕ) (label : ℕ → List LinkId) (known : IsKnown routes settled to label) → IsSettledAt settled 0 to → (hop : Settled) → IsNearest routes settled label hop → IsLeastPath routes hop.point to (hop_links routes label hop)
hop_least routes settled to label known root hop nearest = record { reached = reached ((known.least hop.next crossing.next crossing.next_is).reached); least = λ other has. least other has }
  where
    crossing : IsCrossing routes settled hop
    crossing = nearest.crossing

    reached : HasPath routes (crossing.next).point to (label hop.next) → HasPath routes hop.point to (hop_links routes label hop)
    reached (path, is, joined) =
        let at : hop.route < length routes = slice_get_within routes hop.route crossing.route crossing.route_is in
        let holds : Contains routes crossing.route = (hop.route, at, get_or_from_slice_get routes hop.route crossing.route crossing.route crossing.route_is) in
        let onward : IsPath routes (crossing.route).to to path = subst (λ (p : ℕ). IsPath routes p to path) crossing.to is in
        (crossing.route ∷ path, (holds, crossing.from, onward), ap₂ (λ (a b : List LinkId). a ++ b) (sym (ap links_in crossing.route_is)) joined)

    least : (other : List LinkId) → HasPath routes hop.point to other → IsNotAfter (hop_links routes label hop) other
    least other (path, is, joined) = go (crosses routes settled to label known root path hop.point crossing.new is)
      where
        go : (first : Settled) × IsCrossing routes settled first × IsNotAfter (hop_links routes label first) (links_of path) → IsNotAfter (hop_links routes label hop) other
        go (first, crosses_too, before) =
            let to_first = nearest.least first crosses_too in
            subst (λ (l : List LinkId). IsNotAfter (hop_links routes label hop) l) joined
            (not_after_through (hop_links routes label hop) (hop_links routes label first) (links_of path) to_first before)

-- links from the finalized points on, and from one more
pub label_more : (ℕ → List LinkId) → ℕ → List LinkId → ℕ → List LinkId
label_more label n links k = cond (eqb k n) links (label k)

pub label_last : (label : ℕ → List LinkId) (n : ℕ) (links : List LinkId) → label_more label n links n ≡ links
unfolding label_more
label_last label n links = ap (λ (t : Bool). cond t links (label n)) (eq-eqb n n refl)

pub label_before : (label : ℕ → List LinkId) (n : ℕ) (links : List LinkId) (k : ℕ) → k < n → label_more label n links k ≡ label k
unfolding label_more
label_before label n links k below = go (eqb_tells k n)
  where
    go : ((eqb k n ≡ true) × (k ≡ n)) ⊎ ((eqb k n ≡ false) × (k ≡ n → ⊥)) → cond (eqb k n) links (label k) ≡ label k
    go (inl l) = let e : k ≡ n = l.1 in absurd (omega arith)
    go (inr l) = ap (λ (t : Bool). cond t links (label k)) l.0

-- one more point is known once the nearest one is finalized
pub known_more : (routes : List PathRoute) (settled : List Settled) (to : ℕ) (label : ℕ → List LinkId) (known : IsKnown routes settled to label) → IsSettledAt settled 0 to → LeadsBack settled → (hop : Settled) → IsNearest routes settled label hop → IsKnown routes (settled ++ hop ∷ []) to (label_more label (length settled) (hop_links routes label hop))
known_more routes settled to label known root leads hop nearest = record {
  trail = record { first = label_before label n best 0 some ∙ (known.trail).first; each = λ k s above h. each k s above (pushed settled hop k s h) };
  least = λ k s h. least k s (pushed settled hop k s h);
  joined = λ k s above h. joined k s above (pushed settled hop k s h);
}
  where
    n : ℕ
    n = length settled

    best : List LinkId
    best = hop_links routes label hop

    new_label : ℕ → List LinkId
    new_label = label_more label n best

    some : 0 < n
    some = slice_get_within settled 0 root.0 root.1

    below : hop.next < n
    below = slice_get_within settled hop.next (nearest.crossing).next (nearest.crossing).next_is

    each : (k : ℕ) (s : Settled) → 0 < k → ((k < n) × (slice_get settled k ≡ Some s)) ⊎ ((k ≡ n) × (hop ≡ s)) → new_label k ≡ hop_links routes new_label s
    each k s above (inl l) =
        let back : s.next < k = leads.back k s above l.1 in
        let next : s.next < n = let at : k < n = l.0 in omega arith in
        label_before label n best k l.0 ∙ (known.trail).each k s above l.1 ∙ ap (λ (t : List LinkId). links_at routes s.route ++ t) (sym (label_before label n best s.next next))
    each k s above (inr l) =
        ap new_label l.0 ∙ label_last label n best
        ∙ ap (λ (t : List LinkId). links_at routes hop.route ++ t) (sym (label_before label n best hop.next below))
        ∙ ap (hop_links routes new_label) l.1

    least : (k : ℕ) (s : Settled) → ((k < n) × (slice_get settled k ≡ Some s)) ⊎ ((k ≡ n) × (hop ≡ s)) → IsLeastPath routes s.point to (new_label k)
    least k s (inl l) = subst (λ (t : List LinkId). IsLeastPath routes s.point to t) (sym (label_before label n best k l.0)) (known.least k s l.1)
    least k s (inr l) =
        subst (λ (h : Settled). IsLeastPath routes h.point to (new_label k)) l.1
        (subst (λ (t : List LinkId). IsLeastPath routes hop.point to t) (sym (ap new_label l.0 ∙ label_last label n best)) (hop_least routes settled to label known root hop nearest))

    own : IsJoined routes (settled ++ hop ∷ []) hop
    own =
        let crossing = nearest.crossing in record {
          few = slice_get_within routes hop.route crossing.route crossing.route_is;
          from = ap from_in crossing.route_is ∙ crossing.from;
          next = (crossing.next, still_there settled hop hop.next crossing.next crossing.next_is, crossing.to ∙ sym (ap to_in crossing.route_is));
        }

    joined : (k : ℕ) (s : Settled) → 0 < k → ((k < n) × (slice_get settled k ≡ Some s)) ⊎ ((k ≡ n) × (hop ≡ s)) → IsJoined routes (settled ++ hop ∷ []) s
    joined k s above (inl l) =
        let old : IsJoined routes settled s = known.joined k s above l.1 in
        record { few = old.few; from = old.from; next = ((old.next).0, still_there settled hop s.next (old.next).0 (old.next).1, (old.next).2) }
    joined k s above (inr l) = subst (λ (h : Settled). IsJoined routes (settled ++ hop ∷ []) h) l.1 own

-- where paths end, the path of no route is least
pub known_first : (routes : List PathRoute) (start : Settled) → IsKnown routes (start ∷ []) start.point (λ k. [])
known_first routes start = record {
  trail = record { first = refl; each = λ k s above h. absurd (alone k s above h) };
  least = λ k s h. first k s h;
  joined = λ k s above h. absurd (alone k s above h);
}
  where
    alone : (k : ℕ) (s : Settled) → 0 < k → slice_get (start ∷ []) k ≡ Some s → ⊥
    alone zero s above h = omega arith
    alone (suc k) s above h = cc

    first : (k : ℕ) (s : Settled) → slice_get (start ∷ []) k ≡ Some s → IsLeastPath routes s.point start.point []
    first zero s h =
        let same : start ≡ s = cc in
        record { reached = ([], ap (λ (x : Settled). x.point) (sym same), refl); least = λ other has. nothing_before other }
    first (suc k) s h = absurd (cc)

-- links written along a trail, as it continues from one finalized point to the next
pub trail_on : (routes : List PathRoute) (settled : List Settled) (label : ℕ → List LinkId) (at : ℕ) (step : Settled) (out all : List LinkId) → IsTrail routes settled label → 0 < at → slice_get settled at ≡ Some step → all ≡ out ++ label at → all ≡ (out ++ links_at routes step.route) ++ label step.next
trail_on routes settled label at step out all trail some there e = e ∙ ap (λ (l : List LinkId). out ++ l) (trail.each at step some there) ∙ sym (append_assoc out (links_at routes step.route) (label step.next))

-- ---- points that aren't there

route_within : (points : ℕ) (routes : List PathRoute) → AreWithin points routes → (route : PathRoute) → Contains routes route → (route.from < points) × (route.to < points)
route_within points routes within route (i, below, there) = within i route (slice_get_read routes (length routes) i route refl below (sym there))

stays_within : (points : ℕ) (routes : List PathRoute) → AreWithin points routes → (from to : ℕ) (path : List PathRoute) → IsPath routes from to path → from < points → points ≤ to → ⊥
stays_within points routes within from to [] is near far = omega arith
stays_within points routes within from to (route ∷ path) is near far = stays_within points routes within route.to to path is.2 (route_within points routes within route is.0).1 far

-- no path leads from or to a point that isn't there
pub no_path_outside : (points : ℕ) (routes : List PathRoute) → AreWithin points routes → (from to : ℕ) → (from ≡ to → ⊥) → (points ≤ from) ⊎ (points ≤ to) → (links : List LinkId) → HasPath routes from to links → ⊥
no_path_outside points routes within from to apart far links ([], is, same) = apart is
no_path_outside points routes within from to apart (inl far) links (route ∷ path, is, same) =
    let w : route.from < points = (route_within points routes within route is.0).0 in
    let e : route.from ≡ from = is.1 in
    omega arith
no_path_outside points routes within from to apart (inr far) links (route ∷ path, is, same) =
    stays_within points routes within route.to to path is.2 (route_within points routes within route is.0).1 far
