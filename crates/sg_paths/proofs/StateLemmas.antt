-- The running search, step by step.
use Rattle.std.proofs.Common.{◌≡◌, ◌≢◌, ◌+◌, ◌-◌, ◌<◌, ◌≤◌, ◌⊎◌, ℕ, zero, suc, List, [], ◌∷◌, ◌++◌, Option, None, Some, length, drop, get_or, set, inl, inr, refl, sym, subst, ap, ap₂, ◌∙◌, arith}
use Rattle.std.specs.Prelude.{slice_get}
use Rattle.std.proofs.lemmas.List.{get_or-set_same, get_or-set_other}
use Rattle.std.proofs.lemmas.Option.{slice_get-get_or, slice_get_within}
use Rattle.sg_base.specs.declared.ids.LinkId.{LinkId}
use Rattle.sg_heap.specs.Agenda.{Key, IsLeast, IsNoLater, key_at}
use Rattle.sg_paths.specs.declared.ahead.Ahead.{Ahead}
use Rattle.sg_paths.specs.declared.ahead.Mark.{Mark}
use Rattle.sg_paths.specs.declared.route.PathRoute.{PathRoute}
use Rattle.sg_paths.specs.declared.trail.Settled.{Settled}
use Rattle.sg_paths.specs.Ahead.{EntersFrom, GoesBack, HasEntered, HasPlaceFor, IsMark, StaysOut, steps_in}
use Rattle.sg_paths.specs.Arrivals.{from_in, to_at, to_in}
use Rattle.sg_paths.specs.Order.{IsNotAfter}
use Rattle.sg_paths.specs.Path.{IsLeastPath}
use Rattle.sg_paths.specs.Trail.{AreLinksOf, HasPlaces, IsNew, IsSettledAt, LeadsBack, hop_links, links_at}
use Rattle.sg_paths.proofs.AheadLemmas.{AreBegun, IsAhead, IsBegunAt, IsPending, all_entered, eq_or, gone_back, least_ranked, settled_pending}
use Rattle.sg_paths.proofs.KeyLemmas.{date_small, each_more, mark_of}
use Rattle.sg_paths.proofs.PathLemmas.{IsKnown, IsNearest, known_first, known_more, label_last, label_more}
use Rattle.sg_paths.proofs.OrderLemmas.{not_after_same, nothing_before}
use Rattle.std.proofs.Math.ListN.{length-set}
use Rattle.sg_paths.proofs.SearchLemmas.{begun_back, begun_entered, begun_left, nearest_hop, one_place}
use Rattle.sg_paths.proofs.TrailLemmas.{last_there, settled_or_new, still_there}
use Rattle.sg_paths.proofs.WorkLemmas.{sum_less, sum_no_more, weight, weight_by, weight_done, weight_new, weight_pending, weight_still, weight_unbegun, work}

-- finalized points are known, routes to them move back or are done, and there are ranks for all steps that remain
pub record IsUnderWay (routes : List PathRoute) (to : ℕ) (settled : List Settled) (ahead : Ahead) (ranks : ℕ) : Type 0 where
  pub label : ℕ → List LinkId
  pub known : IsKnown routes settled to label
  pub order : ℕ → List LinkId
  pub is : IsAhead routes settled label order ranks ahead
  pub begun : AreBegun routes settled ahead
  pub places : HasPlaceFor routes ahead
  pub counted : ranks + work routes settled ahead ≤ steps_in routes + 1

-- one more step is made, and less is left
pub record GoesOn (routes : List PathRoute) (to : ℕ) (settled new_settled : List Settled) (old new : Ahead) (ranks : ℕ) : Type 0 where
  pub state : IsUnderWay routes to new_settled new ranks
  pub less : work routes new_settled new < work routes settled old

-- what is next
pub record IsFirst (ahead : Ahead) (i : ℕ) (key : Key) : Type 0 where
  pub there : key_at ahead.agenda i ≡ Some key
  pub least : (other : ℕ) (its : Key) → key_at ahead.agenda other ≡ Some its → IsNoLater key its

inside : (keys : List (Option Key)) (i : ℕ) (key : Key) → key_at keys i ≡ Some key → i < length keys
inside [] i key h = absurd (cc)
inside (x ∷ keys) zero key h = omega arith
inside (x ∷ keys) (suc i) key h = let r = inside keys i key h in omega arith

pub below : (routes : List PathRoute) (ahead : Ahead) (i : ℕ) (key : Key) → HasPlaceFor routes ahead → key_at ahead.agenda i ≡ Some key → i < length routes
below routes ahead i key places there = let n = places.slots in let r = inside ahead.agenda i key there in omega (arith, n, r)

weight_same : (routes : List PathRoute) (settled : List Settled) (old new : Ahead) (j : ℕ) → key_at new.agenda j ≡ key_at old.agenda j → get_or new.left.items j 0 ≡ get_or old.left.items j 0 → weight routes settled new j ≡ weight routes settled old j
weight_same routes settled old new j key left =
    ap₂ (λ (o : Option Key) (l : ℕ). weight_by settled (to_at routes j) o (settled_or_new settled (to_at routes j)) l (length (links_at routes j))) key left

-- ---- a route goes back over a link

pub goes_back : (routes : List PathRoute) (to : ℕ) (settled : List Settled) (ranks i : ℕ) (key : Key) (old new : Ahead) → (state : IsUnderWay routes to settled old ranks) → IsFirst old i key → 0 < get_or old.left.items i 0
    → GoesBack routes i (get_or old.left.items i 0) (record { date = key.date; serial = key.serial; rank = ranks }) old new → HasPlaceFor routes new
    → GoesOn routes to settled settled old new (ranks + 1)
goes_back routes to settled ranks i key old new state first some goes places = record {
  state = record {
    label = state.label;
    known = state.known;
    order = label_more state.order ranks links;
    is = gone_back routes settled state.label state.order (label_more state.order ranks links) ranks (ranks + 1) behind i key mark old new p ranked.ranked (mark_of state.order ranks key links p.keyed)
        (each_more (λ xs. IsNotAfter xs links) state.order ranks links p.before (not_after_same links))
        (λ j its far at. ranked.pending j its at) here within goes;
    begun = begun_back routes settled i behind mark old new state.begun here goes;
    places = places;
    counted = let c = state.counted in let l = less in omega (arith, c, l);
  };
  less = less;
}
  where
    behind : ℕ
    behind = get_or old.left.items i 0

    mark : Mark
    mark = record { date = key.date; serial = key.serial; rank = ranks }

    p : IsPending routes settled state.label state.order ranks behind i key
    p = (state.is).pending i key first.there

    links : List LinkId
    links = drop behind (links_at routes i) ++ state.label p.next

    ranked : IsAhead routes settled state.label (label_more state.order ranks links) (ranks + 1) old
    ranked = least_ranked routes settled state.label state.order ranks old i key state.is first.there first.least p

    here : i < length old.agenda
    here = inside old.agenda i key first.there

    within : i < length old.left.items
    within = let s = (state.places).slots in let l = (state.places).lefts in let h = here in omega (arith, s, l, h)

    own_key : key_at new.agenda i ≡ Some goes.key
    own_key = ap (λ ks. get_or ks i None) goes.keys ∙ get_or-set_same old.agenda i (Some goes.key) None here

    own_left : get_or new.left.items i 0 ≡ behind - 1
    own_left = ap (λ ls. get_or ls i 0) goes.lefts ∙ get_or-set_same old.left.items i (behind - 1) 0 within

    own : weight routes settled new i < weight routes settled old i
    own =
        let n = weight_pending routes settled new i goes.key own_key in
        let o = weight_pending routes settled old i key first.there in
        let l = own_left in
        omega (arith, n, o, l, some)

    each : (j : ℕ) → (j ≡ i) ⊎ (j ≢ i) → weight routes settled new j ≤ weight routes settled old j
    each j (inl e) =
        let a = ap (weight routes settled new) e in
        let b = ap (weight routes settled old) e in
        let o = own in
        omega (arith, a, b, o)
    each j (inr far) =
        let key_same : key_at new.agenda j ≡ key_at old.agenda j = ap (λ ks. get_or ks j None) goes.keys ∙ get_or-set_other old.agenda i j (Some goes.key) None far in
        let left_same : get_or new.left.items j 0 ≡ get_or old.left.items j 0 = ap (λ ls. get_or ls j 0) goes.lefts ∙ get_or-set_other old.left.items i j (behind - 1) 0 far in
        let e = weight_same routes settled old new j key_same left_same in
        omega (arith, e)

    less : work routes settled new < work routes settled old
    less = sum_less (weight routes settled new) (weight routes settled old) (length routes) i (below routes old i key state.places first.there) own (λ j few. each j (eq_or j i))

-- ---- a route to a finalized point is left

-- the agenda loses the key of one route
pub record Leaves (i : ℕ) (old new : Ahead) : Type 0 where
  pub keys : new.agenda ≡ set old.agenda i None
  pub lefts : new.left.items ≡ old.left.items

leaves_key : (i j : ℕ) (old new : Ahead) → Leaves i old new → j ≢ i → key_at new.agenda j ≡ key_at old.agenda j
leaves_key i j old new leaves far = ap (λ ks. get_or ks j None) leaves.keys ∙ get_or-set_other old.agenda i j None None far

leaves_none : (i : ℕ) (old new : Ahead) → Leaves i old new → i < length old.agenda → key_at new.agenda i ≡ None
leaves_none i old new leaves here = ap (λ ks. get_or ks i None) leaves.keys ∙ get_or-set_same old.agenda i None None here

leaves_left : (i j : ℕ) (old new : Ahead) → Leaves i old new → get_or new.left.items j 0 ≡ get_or old.left.items j 0
leaves_left i j old new leaves = ap (λ ls. get_or ls j 0) leaves.lefts

leaves_places : (routes : List PathRoute) (i : ℕ) (old new : Ahead) → HasPlaceFor routes old → Leaves i old new → HasPlaceFor routes new
leaves_places routes i old new places leaves = record {
  slots = ap (length {A = Option Key}) leaves.keys ∙ length-set old.agenda i None ∙ places.slots;
  lefts = ap (length {A = ℕ}) leaves.lefts ∙ places.lefts;
}

leaves_pending : (routes : List PathRoute) (settled : List Settled) (label order : ℕ → List LinkId) (ranks i : ℕ) (old new : Ahead) → IsAhead routes settled label order ranks old → Leaves i old new → i < length old.agenda → IsAhead routes settled label order ranks new
leaves_pending routes settled label order ranks i old new is leaves here = record { ranked = is.ranked; pending = λ j its there. go j its there (eq_or j i) }
  where
    go : (j : ℕ) (its : Key) → key_at new.agenda j ≡ Some its → (j ≡ i) ⊎ (j ≢ i) → IsPending routes settled label order ranks (get_or new.left.items j 0) j its
    go j its there (inl e) = let none : None ≡ Some its = sym (leaves_none i old new leaves here) ∙ ap (key_at new.agenda) (sym e) ∙ there in absurd (cc)
    go j its there (inr far) =
        let Q : ℕ → Type 0 = λ n. IsPending routes settled label order ranks n j its in
        subst Q (sym (leaves_left i j old new leaves)) (is.pending j its (sym (leaves_key i j old new leaves far) ∙ there))

pub is_left : (routes : List PathRoute) (to : ℕ) (settled : List Settled) (ranks i m : ℕ) (key : Key) (route : PathRoute) (old new : Ahead) → (state : IsUnderWay routes to settled old ranks) → IsFirst old i key
    → slice_get routes i ≡ Some route → IsSettledAt settled m route.from → Leaves i old new → GoesOn routes to settled settled old new ranks
is_left routes to settled ranks i m key route old new state first there from leaves = record {
  state = record {
    label = state.label;
    known = state.known;
    order = state.order;
    is = leaves_pending routes settled state.label state.order ranks i old new state.is leaves here;
    begun = begun_left routes settled i m route old new state.begun there from (λ j far. leaves_key i j old new leaves far);
    places = leaves_places routes i old new state.places leaves;
    counted = let c = state.counted in let l = less in omega (arith, c, l);
  };
  less = less;
}
  where
    here : i < length old.agenda
    here = inside old.agenda i key first.there

    p : IsPending routes settled state.label state.order ranks (get_or old.left.items i 0) i key
    p = (state.is).pending i key first.there

    own : weight routes settled new i < weight routes settled old i
    own =
        let to_there : IsSettledAt settled p.next (to_at routes i) = (p.to, p.next_is, p.joins ∙ sym (ap to_in p.route_is)) in
        let n = weight_done routes settled new i p.next (leaves_none i old new leaves here) to_there in
        let o = weight_pending routes settled old i key first.there in
        omega (arith, n, o)

    each : (j : ℕ) → (j ≡ i) ⊎ (j ≢ i) → weight routes settled new j ≤ weight routes settled old j
    each j (inl e) =
        let a = ap (weight routes settled new) e in
        let b = ap (weight routes settled old) e in
        let o = own in
        omega (arith, a, b, o)
    each j (inr far) =
        let e = weight_same routes settled old new j (leaves_key i j old new leaves far) (leaves_left i j old new leaves) in
        omega (arith, e)

    less : work routes settled new < work routes settled old
    less = sum_less (weight routes settled new) (weight routes settled old) (length routes) i (below routes old i key state.places first.there) own (λ j few. each j (eq_or j i))

-- ---- a point is finalized, and the routes to it enter

pub settles : (routes : List PathRoute) (to : ℕ) (settled : List Settled) (places : List ℕ) (ranks i : ℕ) (key : Key) (hop : Settled) (route : PathRoute) (old mid new : Ahead) → (state : IsUnderWay routes to settled old ranks) → IsFirst old i key
    → IsSettledAt settled 0 to → LeadsBack settled → HasPlaces settled places → get_or old.left.items i 0 ≡ 0
    → slice_get routes i ≡ Some route → hop.route ≡ i → hop.point ≡ route.from → IsSettledAt settled hop.next route.to → IsNew settled hop.point
    → Leaves i old mid → EntersFrom routes (settled ++ hop ∷ []) hop.point 0 (record { date = key.date; serial = key.serial; rank = ranks }) mid new
    → GoesOn routes to settled (settled ++ hop ∷ []) old new (ranks + 1)
settles routes to settled places ranks i key hop route old mid new state first root leads has back there route_is point next new_point leaves enters = record {
  state = record {
    label = label;
    known = more;
    order = order;
    is = entered;
    begun = begun_entered routes settled hop i route mark old mid new state.begun there point (λ j far. leaves_key i j old mid leaves far) enters;
    places = enters.places;
    counted = let c = state.counted in let l = less in omega (arith, c, l);
  };
  less = less;
}
  where
    mark : Mark
    mark = record { date = key.date; serial = key.serial; rank = ranks }

    here : i < length old.agenda
    here = inside old.agenda i key first.there

    p : IsPending routes settled state.label state.order ranks (get_or old.left.items i 0) i key
    p = (state.is).pending i key first.there

    one : p.route ≡ route
    one = let both : Some p.route ≡ Some route = sym p.route_is ∙ there in cc

    to_same : hop.next ≡ p.next
    to_same = one_place settled places hop.next p.next route.to has next (p.to, p.next_is, p.joins ∙ ap (λ (r : PathRoute). r.to) one)

    nearest : IsNearest routes settled state.label hop
    nearest = nearest_hop routes settled places state.label state.order ranks old i key hop state.is state.begun has first.there first.least p back route_is to_same (point ∙ ap (λ (r : PathRoute). r.from) (sym one)) new_point

    links : List LinkId
    links = drop (get_or old.left.items i 0) (links_at routes i) ++ state.label p.next

    whole : links ≡ hop_links routes state.label hop
    whole = ap (λ n. drop n (links_at routes i) ++ state.label p.next) back ∙ ap₂ (λ (r n : ℕ). links_at routes r ++ state.label n) (sym route_is) (sym to_same)

    label : ℕ → List LinkId
    label = label_more state.label (length settled) (hop_links routes state.label hop)

    more : IsKnown routes (settled ++ hop ∷ []) to label
    more = known_more routes settled to state.label state.known root leads hop nearest

    order : ℕ → List LinkId
    order = label_more state.order ranks links

    ranked : IsAhead routes settled state.label order (ranks + 1) old
    ranked = least_ranked routes settled state.label state.order ranks old i key state.is first.there first.least p

    left_behind : IsAhead routes settled state.label order (ranks + 1) mid
    left_behind = leaves_pending routes settled state.label order (ranks + 1) i old mid ranked leaves here

    moved : IsAhead routes (settled ++ hop ∷ []) label order (ranks + 1) mid
    moved = record {
      ranked = left_behind.ranked;
      pending = λ j its at. settled_pending routes settled hop state.label order (hop_links routes state.label hop) (ranks + 1) (get_or mid.left.items j 0) j its (left_behind.pending j its at);
    }

    last : label (length settled) ≡ hop_links routes state.label hop
    last = label_last state.label (length settled) (hop_links routes state.label hop)

    marked : IsMark order (ranks + 1) mark (label (length settled))
    marked = subst (λ (l : List LinkId). IsMark order (ranks + 1) mark l) (whole ∙ sym last) (mark_of state.order ranks key links p.keyed)

    before : (j : ℕ) → j < ranks + 1 → IsNotAfter (order j) (label (length settled))
    before j h =
        subst (λ (l : List LinkId). IsNotAfter (order j) l) (whole ∙ sym last)
        (each_more (λ xs. IsNotAfter xs links) state.order ranks links p.before (not_after_same links) j h)

    entered : IsAhead routes (settled ++ hop ∷ []) label order (ranks + 1) new
    entered = all_entered routes (settled ++ hop ∷ []) label order (ranks + 1) (length settled) hop.point hop mark mid new moved (last_there settled hop) refl marked before enters

    to_there : IsSettledAt settled p.next (to_at routes i)
    to_there = (p.to, p.next_is, p.joins ∙ sym (ap to_in p.route_is))

    apart : to_at routes i ≢ hop.point
    apart e = let at : IsSettledAt settled p.next (to_at routes i) = to_there in new_point p.next p.to p.next_is (p.joins ∙ sym (ap to_in p.route_is) ∙ e)

    own : weight routes (settled ++ hop ∷ []) new i < weight routes settled old i
    own =
        let still = enters.others i apart in
        let none : key_at new.agenda i ≡ None = still.key ∙ leaves_none i old mid leaves here in
        let n = weight_done routes (settled ++ hop ∷ []) new i p.next none (p.to, still_there settled hop p.next p.to p.next_is, p.joins ∙ sym (ap to_in p.route_is)) in
        let o = weight_pending routes settled old i key first.there in
        omega (arith, n, o)

    no_key : (j : ℕ) → to_at routes j ≡ hop.point → (o : Option Key) → key_at old.agenda j ≡ o → o ≡ None
    no_key j leads_there None at = refl
    no_key j leads_there (Some its) at =
        let q = (state.is).pending j its at in
        absurd (new_point q.next q.to q.next_is (q.joins ∙ sym (ap to_in q.route_is) ∙ leads_there))

    none_new : (x : ℕ) → x ≡ hop.point → IsNew settled x
    none_new x e k s at is = new_point k s at (is ∙ e)

    arrive : (j : ℕ) → j ≢ i → to_at routes j ≡ hop.point → HasEntered routes mark j new ⊎ StaysOut routes (settled ++ hop ∷ []) j mid new → weight routes (settled ++ hop ∷ []) new j ≤ weight routes settled old j
    arrive j far leads_there (inr out) =
        let key = (out.still).key in
        let none : key_at new.agenda j ≡ None = key ∙ leaves_key i j old mid leaves far ∙ no_key j leads_there (key_at old.agenda j) refl in
        let n = weight_done routes (settled ++ hop ∷ []) new j (length settled) none (hop, last_there settled hop, sym leads_there) in
        omega (arith, n)
    arrive j far leads_there (inl e) =
        let n = weight_pending routes (settled ++ hop ∷ []) new j e.key e.at in
        let o = weight_new routes settled old j (no_key j leads_there (key_at old.agenda j) refl) (none_new (to_at routes j) leads_there) in
        let l = e.left in
        omega (arith, n, o, l)

    stand : (j : ℕ) → to_at routes j ≢ hop.point → j ≢ i → weight routes (settled ++ hop ∷ []) new j ≤ weight routes settled old j
    stand j away far =
        let still = enters.others j away in
        weight_still routes settled hop old new j (still.key ∙ leaves_key i j old mid leaves far) (still.left ∙ leaves_left i j old mid leaves)

    each : (j : ℕ) → j < length routes → (j ≡ i) ⊎ (j ≢ i) → (to_at routes j ≡ hop.point) ⊎ (to_at routes j ≢ hop.point) → weight routes (settled ++ hop ∷ []) new j ≤ weight routes settled old j
    each j few (inl e) w =
        let a = ap (weight routes (settled ++ hop ∷ []) new) e in
        let b = ap (weight routes settled old) e in
        let o = own in
        omega (arith, a, b, o)
    each j few (inr far) (inl leads_there) = arrive j far leads_there (enters.entered j (omega arith) few leads_there)
    each j few (inr far) (inr away) = stand j away far

    less : work routes (settled ++ hop ∷ []) new < work routes settled old
    less =
        sum_less (weight routes (settled ++ hop ∷ []) new) (weight routes settled old) (length routes) i (below routes old i key state.places first.there) own
        (λ j few. each j few (eq_or j i) (eq_or (to_at routes j) hop.point))

-- ---- the beginning

abbrev no_lists : ℕ → List LinkId
no_lists k = []

abbrev pub first_mark : Mark
first_mark = record { date = 0; serial = 0; rank = 0 }

pub begins : (routes : List PathRoute) (start : Settled) (mid new : Ahead) → ((i : ℕ) → key_at mid.agenda i ≡ None) → EntersFrom routes (start ∷ []) start.point 0 first_mark mid new → IsUnderWay routes start.point (start ∷ []) new 1
begins routes start mid new none enters = record {
  label = no_lists;
  known = known_first routes start;
  order = no_lists;
  is = all_entered routes (start ∷ []) no_lists no_lists 1 0 start.point start first_mark mid new nothing refl refl marked (λ j h. nothing_before []) enters;
  begun = λ i route k s there at to. begun i route k s there at to;
  places = enters.places;
  counted = let w = few in omega (arith, w);
}
  where
    nothing : IsAhead routes (start ∷ []) no_lists no_lists 1 mid
    nothing = record {
      ranked = record { start = refl; some = omega arith; short = λ j h. omega arith; rising = λ j k le h. nothing_before [] };
      pending = λ i key there. let e : None ≡ Some key = sym (none i) ∙ there in absurd (cc);
    }

    marked : IsMark no_lists 1 first_mark []
    marked = record { key = record { date = omega arith; fits = omega arith; rank = omega arith; rest = refl }; rank = omega arith; at = refl }

    either : (i : ℕ) (route : PathRoute) → slice_get routes i ≡ Some route → HasEntered routes first_mark i new ⊎ StaysOut routes (start ∷ []) i mid new → IsBegunAt (start ∷ []) new i route
    either i route there (inl e) = inl (e.key, e.at)
    either i route there (inr out) = let P : ℕ → Type 0 = λ x. IsSettledAt (start ∷ []) out.place x in inr (out.place, subst P (ap from_in there) out.from)

    begun : (i : ℕ) (route : PathRoute) (k : ℕ) (s : Settled) → slice_get routes i ≡ Some route → slice_get (start ∷ []) k ≡ Some s → s.point ≡ route.to → IsBegunAt (start ∷ []) new i route
    begun i route zero s there at to =
        let same : start ≡ s = cc in
        either i route there (enters.entered i (omega arith) (slice_get_within routes i route there) (ap to_in there ∙ sym to ∙ ap (λ (x : Settled). x.point) (sym same)))
    begun i route (suc k) s there at to = absurd (cc)

    own : (j : ℕ) → to_at routes j ≡ start.point → HasEntered routes first_mark j new ⊎ StaysOut routes (start ∷ []) j mid new → weight routes (start ∷ []) new j ≤ length (links_at routes j) + 1
    own j leads (inl e) =
        let n = weight_pending routes (start ∷ []) new j e.key e.at in
        let l = e.left in
        omega (arith, n, l)
    own j leads (inr out) =
        let key = (out.still).key in
        weight_unbegun routes (start ∷ []) new j (key ∙ none j)

    one : (j : ℕ) → j < length routes → (to_at routes j ≡ start.point) ⊎ (to_at routes j ≢ start.point) → weight routes (start ∷ []) new j ≤ length (links_at routes j) + 1
    one j less (inl leads) = own j leads (enters.entered j (omega arith) less leads)
    one j less (inr away) = weight_unbegun routes (start ∷ []) new j ((enters.others j away).key ∙ none j)

    few : work routes (start ∷ []) new ≤ steps_in routes
    few = sum_no_more (weight routes (start ∷ []) new) (λ j. length (links_at routes j) + 1) (length routes) (λ j less. one j less (eq_or (to_at routes j) start.point))

-- ---- what the code reads

pub first_of : (ahead : Ahead) (i : ℕ) (key : Key) → IsLeast ahead.agenda i key → IsFirst ahead i key
first_of ahead i key is = record { there = is.there; least = is.least }

pub inside_left : (routes : List PathRoute) (to : ℕ) (settled : List Settled) (ahead : Ahead) (ranks i : ℕ) (key : Key) → IsUnderWay routes to settled ahead ranks → IsFirst ahead i key → i < length ahead.left.items
inside_left routes to settled ahead ranks i key state first =
    let b = below routes ahead i key state.places first.there in
    let n = (state.places).lefts in
    omega (arith, b, n)

pub few_left : (routes : List PathRoute) (to : ℕ) (settled : List Settled) (ahead : Ahead) (ranks i : ℕ) (key : Key) → IsUnderWay routes to settled ahead ranks → IsFirst ahead i key → get_or ahead.left.items i 0 ≤ length (links_at routes i)
few_left routes to settled ahead ranks i key state first = let p = (state.is).pending i key first.there in p.few

pub key_small : (routes : List PathRoute) (to : ℕ) (settled : List Settled) (ahead : Ahead) (ranks i : ℕ) (key : Key) → IsUnderWay routes to settled ahead ranks → IsFirst ahead i key → ranks ≤ 18446744073709551616 → key.date < 1267650600228229401496703205376
key_small routes to settled ahead ranks i key state first few =
    let p = (state.is).pending i key first.there in
    date_small state.order ranks key (drop (get_or ahead.left.items i 0) (links_at routes i) ++ state.label p.next) (state.is).ranked p.keyed few

-- the place of the point to which the next route leads
pub next_place : (routes : List PathRoute) (to : ℕ) (settled : List Settled) (places : List ℕ) (ahead : Ahead) (ranks i : ℕ) (key : Key) (route : PathRoute) → IsUnderWay routes to settled ahead ranks → IsFirst ahead i key → HasPlaces settled places
    → slice_get routes i ≡ Some route → route.to < length places → IsSettledAt settled (get_or places route.to 0) route.to
next_place routes to settled places ahead ranks i key route state first has there few =
    let p = (state.is).pending i key first.there in
    let one : p.route ≡ route = let both : Some p.route ≡ Some route = sym p.route_is ∙ there in cc in
    let is : (p.to).point ≡ route.to = p.joins ∙ ap (λ (r : PathRoute). r.to) one in
    let noted : slice_get places route.to ≡ Some p.next = ap (slice_get places) (sym is) ∙ has.at p.next p.to p.next_is in
    let next : p.next ≡ get_or places route.to 0 = let both : Some p.next ≡ Some (get_or places route.to 0) = sym noted ∙ slice_get-get_or places route.to 0 few in cc in
    let P : ℕ → Type 0 = λ n. IsSettledAt settled n route.to in
    subst P next (p.to, p.next_is, is)

-- ranks remain as long as a route is next
pub ranks_left : (routes : List PathRoute) (to : ℕ) (settled : List Settled) (ahead : Ahead) (ranks i : ℕ) (key : Key) → IsUnderWay routes to settled ahead ranks → IsFirst ahead i key → ranks ≤ steps_in routes
ranks_left routes to settled ahead ranks i key state first =
    let c = state.counted in
    let some : 0 < work routes settled ahead =
    let w = weight_pending routes settled ahead i key first.there in
    let less = sum_less (λ j. 0) (weight routes settled ahead) (length routes) i (below routes ahead i key state.places first.there) (omega (arith, w)) (λ j few. omega arith) in
    omega (arith, less) in
    omega (arith, c, some)

-- the links written from the last finalized point on
pub last_least : (routes : List PathRoute) (to : ℕ) (settled : List Settled) (hop : Settled) (label : ℕ → List LinkId) (links : List LinkId) → IsKnown routes (settled ++ hop ∷ []) to label → 0 < length settled
    → AreLinksOf routes (settled ++ hop ∷ []) hop links → IsLeastPath routes hop.point to links
last_least routes to settled hop label links known some are =
    let n : ℕ = length settled in
    let there : slice_get (settled ++ hop ∷ []) n ≡ Some hop = last_there settled hop in
    let same : links ≡ label n = are label known.trail ∙ sym ((known.trail).each n hop some there) in
    subst (λ (l : List LinkId). IsLeastPath routes hop.point to l) (sym same) (known.least n hop there)

-- the hop over the next route is the nearest
pub is_nearest : (routes : List PathRoute) (to : ℕ) (settled : List Settled) (places : List ℕ) (ranks i : ℕ) (key : Key) (hop : Settled) (route : PathRoute) (old : Ahead) → (state : IsUnderWay routes to settled old ranks) → IsFirst old i key
    → HasPlaces settled places → get_or old.left.items i 0 ≡ 0 → slice_get routes i ≡ Some route → hop.route ≡ i → hop.point ≡ route.from → IsSettledAt settled hop.next route.to → IsNew settled hop.point
    → IsNearest routes settled state.label hop
is_nearest routes to settled places ranks i key hop route old state first has back there route_is point next new_point =
    let p = (state.is).pending i key first.there in
    let one : p.route ≡ route = let both : Some p.route ≡ Some route = sym p.route_is ∙ there in cc in
    let same : hop.next ≡ p.next = one_place settled places hop.next p.next route.to has next (p.to, p.next_is, p.joins ∙ ap (λ (r : PathRoute). r.to) one) in
    nearest_hop routes settled places state.label state.order ranks old i key hop state.is state.begun has first.there first.least p back route_is same (point ∙ ap (λ (r : PathRoute). r.from) (sym one)) new_point

-- and its links are those of the shortest path from where it begins
pub hop_is_least : (routes : List PathRoute) (to : ℕ) (settled : List Settled) (ranks : ℕ) (hop : Settled) (old : Ahead) (links : List LinkId) → (state : IsUnderWay routes to settled old ranks) → IsSettledAt settled 0 to → LeadsBack settled
    → IsNearest routes settled state.label hop → AreLinksOf routes (settled ++ hop ∷ []) hop links → IsLeastPath routes hop.point to links
hop_is_least routes to settled ranks hop old links state root leads nearest are =
    last_least routes to settled hop (label_more state.label (length settled) (hop_links routes state.label hop)) links (known_more routes settled to state.label state.known root leads hop nearest)
    (slice_get_within settled 0 root.0 root.1) are

-- a list has one element at a place, whatever stands for the others
pub same_route : (routes : List PathRoute) (i : ℕ) (d e : PathRoute) → i < length routes → get_or routes i d ≡ get_or routes i e
same_route routes i d e few = let both : Some (get_or routes i d) ≡ Some (get_or routes i e) = sym (slice_get-get_or routes i d few) ∙ slice_get-get_or routes i e few in cc
