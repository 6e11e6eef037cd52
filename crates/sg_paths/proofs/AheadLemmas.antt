-- Routes to finalized points, as one moves back over a link, and as a point is finalized.
use Rattle.std.proofs.Common.{◌≡◌, ◌≢◌, ◌+◌, ◌-◌, ◌<◌, ◌≤◌, ◌⊎◌, ℕ, zero, suc, List, [], ◌∷◌, ◌++◌, Option, None, Some, length, drop, get_or, inl, inr, refl, sym, subst, ap, ◌∙◌, arith}
use Rattle.std.specs.Prelude.{slice_get}
use Rattle.std.proofs.lemmas.List.{get_or-set_same, get_or-set_other}
use Rattle.std.proofs.lemmas.Option.{slice_get_within}
use Rattle.std.proofs.Math.ListN.{length-set}
use Rattle.sg_base.specs.declared.ids.LinkId.{LinkId}
use Rattle.sg_heap.specs.Agenda.{Key, IsNoLater, key_at}
use Rattle.sg_paths.specs.declared.ahead.Ahead.{Ahead}
use Rattle.sg_paths.specs.declared.ahead.Mark.{Mark}
use Rattle.sg_paths.specs.declared.route.PathRoute.{PathRoute}
use Rattle.sg_paths.specs.declared.trail.Settled.{Settled}
use Rattle.sg_paths.specs.Ahead.{EntersFrom, GoesBack, HasEntered, HasPlaceFor, IsKeyOf, IsMark, IsPassed, MayGoBack, StandsStill, StaysOut}
use Rattle.sg_paths.specs.Arrivals.{IsLast, from_at, to_at, to_in}
use Rattle.sg_paths.specs.Order.{IsNotAfter}
use Rattle.sg_paths.specs.Trail.{IsSettledAt, links_at}
use Rattle.sg_paths.proofs.KeyLemmas.{IsRanked, at_hand_short, each_more, key_more, key_order, ranked_more, tri}
use Rattle.sg_paths.proofs.OrderLemmas.{not_after_longer, not_after_same, not_after_through}
use Rattle.sg_paths.proofs.PathLemmas.{label_before, label_more}
use Rattle.sg_paths.proofs.TrailLemmas.{still_there}

-- a route to a finalized point that has moved back over so many of its links, whose key is that of the list from there
-- on; no list of a rank comes after it
pub record IsPending (routes : List PathRoute) (settled : List Settled) (label order : ℕ → List LinkId) (ranks behind i : ℕ) (key : Key) : Type 0 where
  pub route : PathRoute
  pub next : ℕ
  pub to : Settled
  pub route_is : slice_get routes i ≡ Some route
  pub next_is : slice_get settled next ≡ Some to
  pub joins : to.point ≡ route.to
  pub few : behind ≤ length (links_at routes i)
  pub keyed : IsKeyOf order ranks key (drop behind (links_at routes i) ++ label next)
  pub before : (j : ℕ) → j < ranks → IsNotAfter (order j) (drop behind (links_at routes i) ++ label next)

pub record IsAhead (routes : List PathRoute) (settled : List Settled) (label order : ℕ → List LinkId) (ranks : ℕ) (ahead : Ahead) : Type 0 where
  pub ranked : IsRanked order ranks
  pub pending : (i : ℕ) (key : Key) → key_at ahead.agenda i ≡ Some key → IsPending routes settled label order ranks (get_or ahead.left.items i 0) i key

-- it moves back, or the point where it begins is finalized
abbrev pub IsBegunAt : List Settled → Ahead → ℕ → PathRoute → Type 0
IsBegunAt settled ahead i route = ((key : Key) × (key_at ahead.agenda i ≡ Some key)) ⊎ ((m : ℕ) × IsSettledAt settled m route.from)

-- so is each route to a finalized point
abbrev pub AreBegun : List PathRoute → List Settled → Ahead → Type 0
AreBegun routes settled ahead = (i : ℕ) (route : PathRoute) (k : ℕ) (s : Settled) → slice_get routes i ≡ Some route → slice_get settled k ≡ Some s → s.point ≡ route.to → IsBegunAt settled ahead i route

-- the next list
abbrev pub at_hand : {routes : List PathRoute} {settled : List Settled} {label order : ℕ → List LinkId} {ranks behind i : ℕ} {key : Key} → IsPending routes settled label order ranks behind i key → List LinkId
at_hand {routes} {settled} {label} {order} {ranks} {behind} {i} p = drop behind (links_at routes i) ++ label p.next

-- a pending route stays so as another list, that isn't after its own, takes a rank
ranked_pending : (routes : List PathRoute) (settled : List Settled) (label order : ℕ → List LinkId) (ranks behind i : ℕ) (key : Key) (links : List LinkId) (p : IsPending routes settled label order ranks behind i key)
    → IsNotAfter links (drop behind (links_at routes i) ++ label p.next) → IsPending routes settled label (label_more order ranks links) (ranks + 1) behind i key
ranked_pending routes settled label order ranks behind i key links p first = record {
  route = p.route;
  next = p.next;
  to = p.to;
  route_is = p.route_is;
  next_is = p.next_is;
  joins = p.joins;
  few = p.few;
  keyed = key_more order ranks links key (drop behind (links_at routes i) ++ label p.next) p.keyed;
  before = each_more (λ xs. IsNotAfter xs (drop behind (links_at routes i) ++ label p.next)) order ranks links p.before first;
}

-- and as one more point is finalized
pub settled_pending : (routes : List PathRoute) (settled : List Settled) (hop : Settled) (label order : ℕ → List LinkId) (links : List LinkId) (ranks behind i : ℕ) (key : Key)
    → IsPending routes settled label order ranks behind i key → IsPending routes (settled ++ hop ∷ []) (label_more label (length settled) links) order ranks behind i key
settled_pending routes settled hop label order links ranks behind i key p =
    let same : label p.next ≡ label_more label (length settled) links p.next = sym (label_before label (length settled) links p.next (slice_get_within settled p.next p.to p.next_is)) in
    let P : List LinkId → Type 0 = λ l. IsKeyOf order ranks key (drop behind (links_at routes i) ++ l) in
    let Q : List LinkId → Type 0 = λ l. (j : ℕ) → j < ranks → IsNotAfter (order j) (drop behind (links_at routes i) ++ l) in
    record {
      route = p.route;
      next = p.next;
      to = p.to;
      route_is = p.route_is;
      next_is = still_there settled hop p.next p.to p.next_is;
      joins = p.joins;
      few = p.few;
      keyed = subst P same p.keyed;
      before = subst Q same p.before;
    }

-- the ranks of the lists once that of a route takes the next one
abbrev pub order_with : {routes : List PathRoute} {settled : List Settled} {label order : ℕ → List LinkId} {ranks behind i : ℕ} {key : Key} → IsPending routes settled label order ranks behind i key → ℕ → List LinkId
order_with {routes} {settled} {label} {order} {ranks} {behind} {i} p = label_more order ranks (drop behind (links_at routes i) ++ label p.next)

-- the least list of all takes the next rank
pub least_ranked : (routes : List PathRoute) (settled : List Settled) (label order : ℕ → List LinkId) (ranks : ℕ) (ahead : Ahead) (i : ℕ) (key : Key) → IsAhead routes settled label order ranks ahead
    → (there : key_at ahead.agenda i ≡ Some key) → ((other : ℕ) (its : Key) → key_at ahead.agenda other ≡ Some its → IsNoLater key its)
    → (p : IsPending routes settled label order ranks (get_or ahead.left.items i 0) i key)
    → IsAhead routes settled label (label_more order ranks (drop (get_or ahead.left.items i 0) (links_at routes i) ++ label p.next)) (ranks + 1) ahead
least_ranked routes settled label order ranks ahead i key is there least p = record {
  ranked = ranked_more order ranks links is.ranked few p.before;
  pending = λ j its at.
      let q = is.pending j its at in
      ranked_pending routes settled label order ranks (get_or ahead.left.items j 0) j its links q
      (key_order order ranks key its links (drop (get_or ahead.left.items j 0) (links_at routes j) ++ label q.next) is.ranked p.keyed q.keyed (least j its at));
}
  where
    links : List LinkId
    links = drop (get_or ahead.left.items i 0) (links_at routes i) ++ label p.next

    few : length links ≤ ranks
    few = let short = at_hand_short order ranks key links is.ranked p.keyed in let r = (p.keyed).rank in omega (arith, short, r)

pub eq_or : (a b : ℕ) → (a ≡ b) ⊎ (a ≢ b)
eq_or a b = go (tri a b)
  where
    go : ((a < b) ⊎ ((a ≡ b) ⊎ (b < a))) → (a ≡ b) ⊎ (a ≢ b)
    go (inl h) = inr (λ e. omega arith)
    go (inr (inl e)) = inl e
    go (inr (inr h)) = inr (λ e. omega arith)

less_by_one : (k : ℕ) (xs rest : List LinkId) → IsNotAfter (drop (suc k) xs ++ rest) (drop k xs ++ rest)
less_by_one zero [] rest = not_after_same rest
less_by_one (suc k) [] rest = not_after_same rest
less_by_one zero (x ∷ xs) rest = not_after_longer (x ∷ []) (xs ++ rest)
less_by_one (suc k) (x ∷ xs) rest = less_by_one k xs rest

one_less : (k : ℕ) (xs rest : List LinkId) → IsNotAfter (drop k xs ++ rest) (drop (k - 1) xs ++ rest)
one_less zero xs rest = not_after_same (xs ++ rest)
one_less (suc k) xs rest =
    let e : k ≡ suc k - 1 = omega arith in
    let P : ℕ → Type 0 = λ n. IsNotAfter (drop (suc k) xs ++ rest) (drop n xs ++ rest) in
    subst P e (less_by_one k xs rest)

-- a route moves back over a link: it stands at a list with one more link before it
pub gone_back : (routes : List PathRoute) (settled : List Settled) (label earlier order : ℕ → List LinkId) (few ranks behind i : ℕ) (key : Key) (mark : Mark) (old new : Ahead)
    → (p : IsPending routes settled label earlier few behind i key) → IsRanked order ranks → IsMark order ranks mark (drop behind (links_at routes i) ++ label p.next)
    → ((j : ℕ) → j < ranks → IsNotAfter (order j) (drop behind (links_at routes i) ++ label p.next))
    → ((j : ℕ) (its : Key) → j ≢ i → key_at old.agenda j ≡ Some its → IsPending routes settled label order ranks (get_or old.left.items j 0) j its)
    → i < length old.agenda → i < length old.left.items
    → GoesBack routes i behind mark old new → IsAhead routes settled label order ranks new
gone_back routes settled label earlier order few ranks behind i key mark old new p ranked at first others inside within goes = record { ranked = ranked; pending = λ j its there. go j its there (eq_or j i) }
  where
    links : List LinkId
    links = links_at routes i

    mine : IsPending routes settled label order ranks (behind - 1) i goes.key
    mine = record {
      route = p.route;
      next = p.next;
      to = p.to;
      route_is = p.route_is;
      next_is = p.next_is;
      joins = p.joins;
      few = let few = p.few in omega (arith, few);
      keyed = goes.is order ranks (label p.next) at;
      before = λ j h. not_after_through (order j) (drop behind links ++ label p.next) (drop (behind - 1) links ++ label p.next) (first j h) (one_less behind links (label p.next));
    }

    go : (j : ℕ) (its : Key) → key_at new.agenda j ≡ Some its → (j ≡ i) ⊎ (j ≢ i) → IsPending routes settled label order ranks (get_or new.left.items j 0) j its
    go j its there (inl e) =
        let has : key_at new.agenda i ≡ Some goes.key = ap (λ ks. get_or ks i None) goes.keys ∙ get_or-set_same old.agenda i (Some goes.key) None inside in
        let its_own : Some goes.key ≡ Some its = sym has ∙ ap (key_at new.agenda) (sym e) ∙ there in
        let same : goes.key ≡ its = cc in
        let lefts : behind - 1 ≡ get_or new.left.items j 0 =
        sym (get_or-set_same old.left.items i (behind - 1) 0 within) ∙ ap (λ ls. get_or ls i 0) (sym goes.lefts) ∙ ap (λ n. get_or new.left.items n 0) (sym e) in
        let P : Key → Type 0 = λ k. IsPending routes settled label order ranks (behind - 1) i k in
        let Q : ℕ → Type 0 = λ n. IsPending routes settled label order ranks n i its in
        let R : ℕ → Type 0 = λ n. IsPending routes settled label order ranks (get_or new.left.items j 0) n its in
        subst R (sym e) (subst Q lefts (subst P same mine))
    go j its there (inr far) =
        let has : key_at old.agenda j ≡ Some its = sym (get_or-set_other old.agenda i j (Some goes.key) None far) ∙ ap (λ ks. get_or ks j None) (sym goes.keys) ∙ there in
        let lefts : get_or old.left.items j 0 ≡ get_or new.left.items j 0 =
        sym (get_or-set_other old.left.items i j (behind - 1) 0 far) ∙ ap (λ ls. get_or ls j 0) (sym goes.lefts) in
        let Q : ℕ → Type 0 = λ n. IsPending routes settled label order ranks n j its in
        subst Q lefts (others j its far has)

-- a route that entered is pending at the point that was just finalized
entered_pending : (routes : List PathRoute) (settled : List Settled) (label order : ℕ → List LinkId) (ranks i n : ℕ) (route : PathRoute) (s : Settled) (mark : Mark) (new : Ahead)
    → IsRanked order ranks → slice_get routes i ≡ Some route → slice_get settled n ≡ Some s → s.point ≡ route.to → IsMark order ranks mark (label n)
    → ((j : ℕ) → j < ranks → IsNotAfter (order j) (label n))
    → (e : HasEntered routes mark i new) → IsPending routes settled label order ranks (length (links_at routes i) - 1) i e.key
entered_pending routes settled label order ranks i n route s mark new ranked there at joins marked before e = record {
  route = route;
  next = n;
  to = s;
  route_is = there;
  next_is = at;
  joins = joins;
  few = omega arith;
  keyed = e.is order ranks (label n) marked;
  before = λ j h. not_after_through (order j) (label n) (drop (length (links_at routes i) - 1) (links_at routes i) ++ label n) (before j h)
      (not_after_longer (drop (length (links_at routes i) - 1) (links_at routes i)) (label n));
}

within : (keys : List (Option Key)) (k : ℕ) (its : Key) → key_at keys k ≡ Some its → k < length keys
within [] k its h = absurd (cc)
within (x ∷ keys) zero its h = omega arith
within (x ∷ keys) (suc k) its h = let less = within keys k its h in omega arith

key_within : (keys : List (Option Key)) (k : ℕ) (its : Key) (count : ℕ) → length keys ≡ count → key_at keys k ≡ Some its → k < count
key_within keys k its count same h = subst (λ (c : ℕ). k < c) same (within keys k its h)

none_below : (rs : List PathRoute) (k : ℕ) → k < length rs → slice_get rs k ≡ None → ⊥
none_below [] k few none = omega arith
none_below (r ∷ rs) zero few none = cc
none_below (r ∷ rs) (suc k) few none = none_below rs k (omega arith) none

-- all routes to the point that was finalized last enter, except those from finalized points
pub all_entered : (routes : List PathRoute) (settled : List Settled) (label order : ℕ → List LinkId) (ranks n point : ℕ) (s : Settled) (mark : Mark) (old new : Ahead)
    → IsAhead routes settled label order ranks old → slice_get settled n ≡ Some s → s.point ≡ point → IsMark order ranks mark (label n)
    → ((j : ℕ) → j < ranks → IsNotAfter (order j) (label n))
    → EntersFrom routes settled point 0 mark old new → IsAhead routes settled label order ranks new
all_entered routes settled label order ranks n point s mark old new is at here marked before enters = record { ranked = is.ranked; pending = λ i its there. go i its there (eq_or (to_at routes i) point) }
  where
    go : (i : ℕ) (its : Key) → key_at new.agenda i ≡ Some its → (to_at routes i ≡ point) ⊎ (to_at routes i ≢ point) → IsPending routes settled label order ranks (get_or new.left.items i 0) i its
    go i its there (inr far) =
        let still = enters.others i far in
        let Q : ℕ → Type 0 = λ k. IsPending routes settled label order ranks k i its in
        subst Q (sym still.left) (is.pending i its (sym still.key ∙ there))
    go i its there (inl leads) = arrived (slice_get routes i) refl (enters.entered i (omega arith) below leads)
      where
        below : i < length routes
        below = let s = (enters.places).slots in key_within new.agenda i its (length routes) s there

        arrived : (o : Option PathRoute) → slice_get routes i ≡ o → HasEntered routes mark i new ⊎ StaysOut routes settled i old new → IsPending routes settled label order ranks (get_or new.left.items i 0) i its
        arrived None none e = absurd (none_below routes i below none)
        arrived (Some route) found (inr out) =
            let Q : ℕ → Type 0 = λ k. IsPending routes settled label order ranks k i its in
            let left = (out.still).left in
            let key = (out.still).key in
            subst Q (sym left) (is.pending i its (sym key ∙ there))
        arrived (Some route) found (inl e) =
            let same : e.key ≡ its = let both : Some e.key ≡ Some its = sym e.at ∙ there in cc in
            let joins : s.point ≡ route.to = here ∙ sym leads ∙ ap to_in found in
            let P : Key → Type 0 = λ k. IsPending routes settled label order ranks (length (links_at routes i) - 1) i k in
            let Q : ℕ → Type 0 = λ k. IsPending routes settled label order ranks k i its in
            subst Q (sym e.left) (subst P same (entered_pending routes settled label order ranks i n route s mark new is.ranked found at joins marked before e))

-- ---- the routes to a point enter, one after the other

drop_all : (xs : List LinkId) → drop (length xs) xs ≡ []
drop_all [] = refl
drop_all (x ∷ xs) = drop_all xs

-- what a list has at a place that it has, whatever stands for the others
pub got : (xs : List ℕ) (k d e : ℕ) → k < length xs → get_or xs k d ≡ get_or xs k e
got [] k d e few = absurd (omega arith)
got (x ∷ xs) zero d e few = refl
got (x ∷ xs) (suc k) d e few = got xs k d e (omega arith)

pub back_places : (routes : List PathRoute) (i left : ℕ) (mark : Mark) (old new : Ahead) → HasPlaceFor routes old → GoesBack routes i left mark old new → HasPlaceFor routes new
back_places routes i left mark old new places goes = record {
  slots = ap (length {A = Option Key}) goes.keys ∙ length-set old.agenda i (Some goes.key) ∙ places.slots;
  lefts = ap (length {A = ℕ}) goes.lefts ∙ length-set old.left.items i (left - 1) ∙ places.lefts;
}

back_still : (routes : List PathRoute) (i j left : ℕ) (mark : Mark) (old new : Ahead) → GoesBack routes i left mark old new → j ≢ i → StandsStill j old new
back_still routes i j left mark old new goes far = record {
  key = ap (λ ks. get_or ks j None) goes.keys ∙ get_or-set_other old.agenda i j (Some goes.key) None far;
  left = ap (λ ls. get_or ls j 0) goes.lefts ∙ get_or-set_other old.left.items i j (left - 1) 0 far;
}

one_back : (routes : List PathRoute) (settled : List Settled) (point n m : ℕ) (mark : Mark) (first old new : Ahead) → 0 < n → n ≤ length routes → to_at routes (n - 1) ≡ point
    → EntersFrom routes settled point n mark first old → IsLast routes (to_at routes (n - 1)) (n - 1) m
    → GoesBack routes (n - 1) (length (links_at routes (n - 1))) mark old new → EntersFrom routes settled point m mark first new
one_back routes settled point n m mark first old new some within here enters last goes = record {
  entered = λ i from few leads. entered i from few leads (tri i (n - 1));
  others = λ i away. others i away;
  below = λ i less. let w = last.within in after i (λ e. let same : i ≡ n - 1 = e in omega (arith, w, less, some)) (enters.below i (omega (arith, w, less, some)));
  places = back_places routes (n - 1) (length (links_at routes (n - 1))) mark old new enters.places goes;
}
  where
    at : ℕ
    at = n - 1

    inside : at < length old.agenda
    inside = let s = (enters.places).slots in omega (arith, s, some, within)

    inside_left : at < length old.left.items
    inside_left = let s = (enters.places).lefts in omega (arith, s, some, within)

    mine : HasEntered routes mark at new
    mine = record {
      key = goes.key;
      at = ap (λ ks. get_or ks at None) goes.keys ∙ get_or-set_same old.agenda at (Some goes.key) None inside;
      left = ap (λ ls. get_or ls at 0) goes.lefts ∙ get_or-set_same old.left.items at (length (links_at routes at) - 1) 0 inside_left;
      is = λ order ranks rest marked.
          let whole : rest ≡ drop (length (links_at routes at)) (links_at routes at) ++ rest = ap (λ l. l ++ rest) (sym (drop_all (links_at routes at))) in
          let P : List LinkId → Type 0 = λ l. IsMark order ranks mark l in
          goes.is order ranks rest (subst P whole marked);
    }

    after : (i : ℕ) → i ≢ at → StandsStill i first old → StandsStill i first new
    after i far before =
        let still = back_still routes at i (length (links_at routes at)) mark old new goes far in
        record { key = still.key ∙ before.key; left = still.left ∙ before.left }

    kept : (i : ℕ) → i ≢ at → HasEntered routes mark i old ⊎ StaysOut routes settled i first old → HasEntered routes mark i new ⊎ StaysOut routes settled i first new
    kept i far (inl e) =
        let still = back_still routes at i (length (links_at routes at)) mark old new goes far in
        inl (record { key = e.key; at = still.key ∙ e.at; left = still.left ∙ e.left; is = e.is })
    kept i far (inr out) = inr (record { still = after i far out.still; place = out.place; from = out.from })

    entered : (i : ℕ) → m ≤ i → i < length routes → to_at routes i ≡ point → ((i < n - 1) ⊎ ((i ≡ n - 1) ⊎ (n - 1 < i))) → HasEntered routes mark i new ⊎ StaysOut routes settled i first new
    entered i from few leads (inl less) = absurd (last.none i from less (leads ∙ sym here))
    entered i from few leads (inr (inl e)) = let P : ℕ → Type 0 = λ k. HasEntered routes mark k new in inl (subst P (sym e) mine)
    entered i from few leads (inr (inr more)) = kept i (λ e. let same : i ≡ n - 1 = e in omega arith) (enters.entered i (omega arith) few leads)

    others : (i : ℕ) → to_at routes i ≢ point → StandsStill i first new
    others i away =
        let far : i ≢ at = λ e. away (ap (to_at routes) e ∙ here) in
        after i far (enters.others i away)

one_passed : (routes : List PathRoute) (settled : List Settled) (point n m : ℕ) (mark : Mark) (first old new : Ahead) → 0 < n → to_at routes (n - 1) ≡ point
    → EntersFrom routes settled point n mark first old → IsLast routes (to_at routes (n - 1)) (n - 1) m
    → IsPassed routes settled (n - 1) old new → EntersFrom routes settled point m mark first new
one_passed routes settled point n m mark first old new some here enters last passed =
    subst (λ (a : Ahead). EntersFrom routes settled point m mark first a) (sym passed.same)
    (record {
      entered = λ i from few leads. entered i from few leads (tri i (n - 1));
      others = enters.others;
      below = λ i less. let w = last.within in enters.below i (omega (arith, w, less, some));
      places = enters.places;
    })
  where
    entered : (i : ℕ) → m ≤ i → i < length routes → to_at routes i ≡ point → ((i < n - 1) ⊎ ((i ≡ n - 1) ⊎ (n - 1 < i))) → HasEntered routes mark i old ⊎ StaysOut routes settled i first old
    entered i from few leads (inl less) = absurd (last.none i from less (leads ∙ sym here))
    entered i from few leads (inr (inl e)) =
        let P : ℕ → Type 0 = λ k. IsSettledAt settled passed.place (from_at routes k) in
        let same : i ≡ n - 1 = e in
        inr (record { still = enters.below i (omega (arith, same, some)); place = passed.place; from = subst P (sym e) passed.from })
    entered i from few leads (inr (inr more)) = enters.entered i (omega (arith, more)) few leads

-- the next route enters, or is passed
pub one_entered : (routes : List PathRoute) (settled : List Settled) (point n m : ℕ) (mark : Mark) (first old new : Ahead) → 0 < n → n ≤ length routes → to_at routes (n - 1) ≡ point
    → EntersFrom routes settled point n mark first old → IsLast routes (to_at routes (n - 1)) (n - 1) m
    → MayGoBack routes settled (n - 1) mark old new → EntersFrom routes settled point m mark first new
one_entered routes settled point n m mark first old new some within here enters last (inl goes) = one_back routes settled point n m mark first old new some within here enters last goes
one_entered routes settled point n m mark first old new some within here enters last (inr passed) = one_passed routes settled point n m mark first old new some here enters last passed
