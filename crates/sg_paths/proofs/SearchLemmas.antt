-- What the next key says of the search.
use Rattle.std.proofs.Common.{◌≡◌, ◌≢◌, ◌<◌, ◌⊎◌, ℕ, zero, suc, List, [], ◌∷◌, ◌++◌, None, Some, length, drop, take, get_or, inl, inr, refl, sym, subst, ap, ap₂, ◌∙◌, arith, append_assoc}
use Rattle.std.specs.Prelude.{slice_get}
use Rattle.std.proofs.lemmas.List.{get_or-set_same, get_or-set_other, take-append-drop}
use Rattle.sg_base.specs.declared.ids.LinkId.{LinkId}
use Rattle.sg_heap.specs.Agenda.{Key, IsNoLater, key_at}
use Rattle.sg_paths.specs.declared.ahead.Ahead.{Ahead}
use Rattle.sg_paths.specs.declared.ahead.Mark.{Mark}
use Rattle.sg_paths.specs.declared.route.PathRoute.{PathRoute}
use Rattle.sg_paths.specs.declared.trail.Settled.{Settled}
use Rattle.sg_paths.specs.Ahead.{EntersFrom, GoesBack, HasEntered, StaysOut}
use Rattle.sg_paths.specs.Arrivals.{from_in, to_at, to_in}
use Rattle.sg_paths.specs.Crossing.{IsCrossing}
use Rattle.sg_paths.specs.Order.{IsNotAfter}
use Rattle.sg_paths.specs.Trail.{HasPlaces, IsNew, IsSettledAt, hop_links, links_at}
use Rattle.sg_paths.proofs.AheadLemmas.{AreBegun, IsAhead, IsBegunAt, IsPending, eq_or}
use Rattle.sg_paths.proofs.KeyLemmas.{key_order}
use Rattle.sg_paths.proofs.OrderLemmas.{not_after_longer, not_after_through}
use Rattle.sg_paths.proofs.PathLemmas.{IsNearest}
use Rattle.sg_paths.proofs.TrailLemmas.{last_there, pushed, still_there}

-- a point is finalized once
pub one_place : (settled : List Settled) (places : List ℕ) (k m point : ℕ) → HasPlaces settled places → IsSettledAt settled k point → IsSettledAt settled m point → k ≡ m
one_place settled places k m point has (s, at, is) (t, there, same) =
    let both : Some k ≡ Some m = sym (has.at k s at) ∙ ap (slice_get places) (is ∙ sym same) ∙ has.at m t there in
    cc

-- what follows the whole route is no later than what follows a part of it
part_no_later : (behind : ℕ) (links rest : List LinkId) → IsNotAfter (drop behind links ++ rest) (links ++ rest)
part_no_later behind links rest =
    let whole : take behind links ++ (drop behind links ++ rest) ≡ links ++ rest =
    sym (append_assoc (take behind links) (drop behind links) rest) ∙ ap (λ l. l ++ rest) (take-append-drop behind links) in
    subst (λ (l : List LinkId). IsNotAfter (drop behind links ++ rest) l) whole (not_after_longer (take behind links) (drop behind links ++ rest))

-- the next route, if it has moved back over all its links to a new point, is the nearest hop
pub nearest_hop : (routes : List PathRoute) (settled : List Settled) (places : List ℕ) (label order : ℕ → List LinkId) (ranks : ℕ) (ahead : Ahead) (i : ℕ) (key : Key) (hop : Settled)
    → IsAhead routes settled label order ranks ahead → AreBegun routes settled ahead → HasPlaces settled places
    → key_at ahead.agenda i ≡ Some key → ((other : ℕ) (its : Key) → key_at ahead.agenda other ≡ Some its → IsNoLater key its)
    → (p : IsPending routes settled label order ranks (get_or ahead.left.items i 0) i key) → get_or ahead.left.items i 0 ≡ 0
    → hop.route ≡ i → hop.next ≡ p.next → hop.point ≡ (p.route).from → IsNew settled hop.point → IsNearest routes settled label hop
nearest_hop routes settled places label order ranks ahead i key hop is begun has there least p back route next point new = record {
  crossing = record {
    route = p.route;
    next = p.to;
    route_is = ap (slice_get routes) route ∙ p.route_is;
    next_is = ap (slice_get settled) next ∙ p.next_is;
    from = sym point;
    to = p.joins;
    new = new;
  };
  least = λ other crossing. least_of other crossing (begun other.route crossing.route other.next crossing.next crossing.route_is crossing.next_is crossing.to);
}
  where
    own : List LinkId
    own = drop (get_or ahead.left.items i 0) (links_at routes i) ++ label p.next

    mine : own ≡ hop_links routes label hop
    mine = ap (λ n. drop n (links_at routes i) ++ label p.next) back ∙ ap₂ (λ (r n : ℕ). links_at routes r ++ label n) (sym route) (sym next)

    least_of : (other : Settled) (crossing : IsCrossing routes settled other) → IsBegunAt settled ahead other.route crossing.route → IsNotAfter (hop_links routes label hop) (hop_links routes label other)
    least_of other crossing (inr (m, (s, at, is_from))) = absurd (crossing.new m s at (is_from ∙ crossing.from))
    least_of other crossing (inl (its, at)) =
        let q = is.pending other.route its at in
        let theirs : List LinkId = drop (get_or ahead.left.items other.route 0) (links_at routes other.route) ++ label q.next in
        let before : IsNotAfter own theirs = key_order order ranks key its own theirs is.ranked p.keyed q.keyed (least other.route its at) in
        let one : q.route ≡ crossing.route = let both : Some q.route ≡ Some crossing.route = sym q.route_is ∙ crossing.route_is in cc in
        let to : (q.to).point ≡ (crossing.next).point = q.joins ∙ ap (λ (r : PathRoute). r.to) one ∙ sym crossing.to in
        let same : q.next ≡ other.next = one_place settled places q.next other.next (crossing.next).point has (q.to, q.next_is, to) (crossing.next, crossing.next_is, refl) in
        let part = part_no_later (get_or ahead.left.items other.route 0) (links_at routes other.route) (label q.next) in
        let whole : IsNotAfter own (links_at routes other.route ++ label q.next) = not_after_through own theirs (links_at routes other.route ++ label q.next) before part in
        subst (λ (l : List LinkId). IsNotAfter l (hop_links routes label other)) mine
        (subst (λ (n : ℕ). IsNotAfter own (links_at routes other.route ++ label n)) same whole)

-- if no list is next, nothing crosses
pub none_crosses : (routes : List PathRoute) (settled : List Settled) (ahead : Ahead) → AreBegun routes settled ahead → ((i : ℕ) → key_at ahead.agenda i ≡ None) → (hop : Settled) → IsCrossing routes settled hop → ⊥
none_crosses routes settled ahead begun none hop crossing = go (begun hop.route crossing.route hop.next crossing.next crossing.route_is crossing.next_is crossing.to)
  where
    go : IsBegunAt settled ahead hop.route crossing.route → ⊥
    go (inl (key, at)) = let e : Some key ≡ None = sym at ∙ none hop.route in cc
    go (inr (m, (s, at, is))) = crossing.new m s at (is ∙ crossing.from)

-- ---- routes to finalized points stay begun

pub begun_back : (routes : List PathRoute) (settled : List Settled) (i behind : ℕ) (mark : Mark) (old new : Ahead) → AreBegun routes settled old → i < length old.agenda → GoesBack routes i behind mark old new → AreBegun routes settled new
begun_back routes settled i behind mark old new begun inside goes j route k s there at to = go (begun j route k s there at to) (eq_or j i)
  where
    go : IsBegunAt settled old j route → (j ≡ i) ⊎ (j ≢ i) → IsBegunAt settled new j route
    go (inr from) e = inr from
    go (inl (key, has)) (inl e) = inl (goes.key, ap (key_at new.agenda) e ∙ ap (λ ks. get_or ks i None) goes.keys ∙ get_or-set_same old.agenda i (Some goes.key) None inside)
    go (inl (key, has)) (inr far) = inl (key, ap (λ ks. get_or ks j None) goes.keys ∙ get_or-set_other old.agenda i j (Some goes.key) None far ∙ has)

-- the next route is left, if it begins at a finalized point
pub begun_left : (routes : List PathRoute) (settled : List Settled) (i m : ℕ) (route : PathRoute) (old new : Ahead) → AreBegun routes settled old → slice_get routes i ≡ Some route → IsSettledAt settled m route.from
    → ((j : ℕ) → j ≢ i → key_at new.agenda j ≡ key_at old.agenda j) → AreBegun routes settled new
begun_left routes settled i m route old new begun is from same j other k s there at to = go (begun j other k s there at to) (eq_or j i)
  where
    go : IsBegunAt settled old j other → (j ≡ i) ⊎ (j ≢ i) → IsBegunAt settled new j other
    go (inr settled_from) e = inr settled_from
    go (inl (key, has)) (inl e) =
        let both : Some route ≡ Some other = sym is ∙ ap (slice_get routes) (sym e) ∙ there in
        let one : route ≡ other = cc in
        inr (m, subst (λ (r : PathRoute). IsSettledAt settled m r.from) one from)
    go (inl (key, has)) (inr far) = inl (key, same j far ∙ has)

-- a point is finalized, and all routes to it enter
pub begun_entered : (routes : List PathRoute) (settled : List Settled) (hop : Settled) (i : ℕ) (route : PathRoute) (mark : Mark) (old mid new : Ahead) → AreBegun routes settled old → slice_get routes i ≡ Some route → hop.point ≡ route.from
    → ((j : ℕ) → j ≢ i → key_at mid.agenda j ≡ key_at old.agenda j) → EntersFrom routes (settled ++ hop ∷ []) hop.point 0 mark mid new → AreBegun routes (settled ++ hop ∷ []) new
begun_entered routes settled hop i route mark old mid new begun is point same enters j other k s there at to = go (pushed settled hop k s at)
  where
    leads : to_at routes j ≡ other.to
    leads = ap to_in there

    entered : to_at routes j ≡ hop.point → IsBegunAt (settled ++ hop ∷ []) new j other
    entered here = either (enters.entered j (omega arith) (below routes j other there) here)
      where
        either : HasEntered routes mark j new ⊎ StaysOut routes (settled ++ hop ∷ []) j mid new → IsBegunAt (settled ++ hop ∷ []) new j other
        either (inl e) = inl (e.key, e.at)
        either (inr out) = let P : ℕ → Type 0 = λ x. IsSettledAt (settled ++ hop ∷ []) out.place x in inr (out.place, subst P (ap from_in there) out.from)

        below : (rs : List PathRoute) (n : ℕ) (r : PathRoute) → slice_get rs n ≡ Some r → n < length rs
        below [] n r h = absurd (cc)
        below (x ∷ rs) zero r h = omega arith
        below (x ∷ rs) (suc n) r h = let less = below rs n r h in omega arith

    still : IsBegunAt settled old j other → (j ≡ i) ⊎ (j ≢ i) → (to_at routes j ≡ hop.point) ⊎ (to_at routes j ≢ hop.point) → IsBegunAt (settled ++ hop ∷ []) new j other
    still b e (inl here) = entered here
    still (inr (m, (t, t_at, t_is))) e (inr far) = inr (m, (t, still_there settled hop m t t_at, t_is))
    still (inl (key, has)) (inl e) (inr far) =
        let both : Some route ≡ Some other = sym is ∙ ap (slice_get routes) (sym e) ∙ there in
        let one : route ≡ other = cc in
        inr (length settled, (hop, last_there settled hop, point ∙ ap (λ (r : PathRoute). r.from) one))
    still (inl (key, has)) (inr apart) (inr far) = inl (key, (enters.others j far).key ∙ same j apart ∙ has)

    go : ((k < length settled) × (slice_get settled k ≡ Some s)) ⊎ ((k ≡ length settled) × (hop ≡ s)) → IsBegunAt (settled ++ hop ∷ []) new j other
    go (inl l) = still (begun j other k s there l.1 to) (eq_or j i) (eq_or (to_at routes j) hop.point)
    go (inr l) = entered (leads ∙ sym to ∙ ap (λ (x : Settled). x.point) (sym l.1))
