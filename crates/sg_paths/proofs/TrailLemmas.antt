-- Finalized points, as one more is finalized.
use Rattle.std.proofs.Common.{◌≡◌, ℕ, zero, suc, ◌+◌, ◌*◌, ◌<◌, ◌≤◌, ◌⊎◌, Bool, true, false, Option, Some, None, List, [], ◌∷◌, ◌++◌, length, inl, inr, refl, sym, ap, ◌∙◌, arith, length-append}
use Rattle.std.specs.Prelude.{slice_get, slice_set, ◌≢◌}
use Rattle.std.specs.List.{list_any}
use Rattle.std.proofs.Common.{eqb, ◌||◌}
use Rattle.std.proofs.lemmas.Bool.{eq-eqb}
use Rattle.std.proofs.lemmas.Bool.Decides.{eqb_tells}
use Rattle.std.proofs.lemmas.List.{get_or-set_same, get_or-set_other}
use Rattle.std.proofs.Math.ListN.{length-set}
use Rattle.std.proofs.lemmas.Option.{slice_get_within, slice_get-get_or, get_or_from_slice_get}
use Rattle.std.proofs.Math.Nat.{mul-le-mul_right}
use Rattle.std.proofs.lemmas.Map.Steps.{le-length_from_below}
use Rattle.sg_paths.specs.declared.trail.Settled.{Settled}
use Rattle.sg_paths.specs.Trail.{LeadsBack, IsSettledAt, IsNew, HasPlaces}

-- what is at a place once one more is appended: what was there, or at the end the new one
pub pushed : {X : Type 0} (xs : List X) (y : X) (k : ℕ) (z : X) → slice_get (xs ++ y ∷ []) k ≡ Some z → ((k < length xs) × (slice_get xs k ≡ Some z)) ⊎ ((k ≡ length xs) × (y ≡ z))
pushed [] y zero z h = inr (refl, cc)
pushed [] y (suc k) z h = absurd (cc)
pushed (x ∷ xs) y zero z h = inl (omega arith, h)
pushed (x ∷ xs) y (suc k) z h = go (pushed xs y k z h)
  where
    go : ((k < length xs) × (slice_get xs k ≡ Some z)) ⊎ ((k ≡ length xs) × (y ≡ z)) → ((suc k < length (x ∷ xs)) × (slice_get xs k ≡ Some z)) ⊎ ((suc k ≡ length (x ∷ xs)) × (y ≡ z))
    go (inl l) = let below : k < length xs = l.0 in inl (omega arith, l.1)
    go (inr l) = let here : k ≡ length xs = l.0 in inr (omega arith, l.1)

pub still_there : {X : Type 0} (xs : List X) (y : X) (k : ℕ) (z : X) → slice_get xs k ≡ Some z → slice_get (xs ++ y ∷ []) k ≡ Some z
still_there [] y k z h = absurd (cc)
still_there (x ∷ xs) y zero z h = h
still_there (x ∷ xs) y (suc k) z h = still_there xs y k z h

pub last_there : {X : Type 0} (xs : List X) (y : X) → slice_get (xs ++ y ∷ []) (length xs) ≡ Some y
last_there [] y = refl
last_there (x ∷ xs) y = last_there xs y

-- a point is finalized somewhere or nowhere
pub settled_or_new : (settled : List Settled) (point : ℕ) → ((k : ℕ) × IsSettledAt settled k point) ⊎ IsNew settled point
settled_or_new [] point = inr (λ k s h e. absurd (cc))
settled_or_new (s ∷ settled) point = here (settled_or_new settled point) (eqb_tells s.point point)
  where
    new_here : (s.point ≡ point → ⊥) → IsNew settled point → IsNew (s ∷ settled) point
    new_here other new zero t h e = let same : s ≡ t = cc in other (ap (λ (x : Settled). x.point) same ∙ e)
    new_here other new (suc k) t h e = new k t h e

    later : (s.point ≡ point → ⊥) → ((k : ℕ) × IsSettledAt settled k point) ⊎ IsNew settled point → ((k : ℕ) × IsSettledAt (s ∷ settled) k point) ⊎ IsNew (s ∷ settled) point
    later other (inl (k, at)) = inl (suc k, at)
    later other (inr new) = inr (new_here other new)

    here : ((k : ℕ) × IsSettledAt settled k point) ⊎ IsNew settled point → ((eqb s.point point ≡ true) × (s.point ≡ point)) ⊎ ((eqb s.point point ≡ false) × (s.point ≢ point)) → ((k : ℕ) × IsSettledAt (s ∷ settled) k point) ⊎ IsNew (s ∷ settled) point
    here rest (inl e) = inl (0, (s, refl, e.1))
    here rest (inr other) = later other.1 rest

pub set_here : (xs : List ℕ) (i v : ℕ) → i < length xs → slice_get (slice_set xs i v) i ≡ Some v
set_here xs i v h = let within : i < length (slice_set xs i v) = omega (arith, length-set xs i v) in slice_get-get_or (slice_set xs i v) i 0 within ∙ ap Some (get_or-set_same xs i v 0 h)

pub set_elsewhere : (xs : List ℕ) (i j v x : ℕ) → j ≢ i → slice_get xs j ≡ Some x → slice_get (slice_set xs i v) j ≡ Some x
set_elsewhere xs i j v x other h =
    let within : j < length xs = slice_get_within xs j x h in
    let still : j < length (slice_set xs i v) = omega (arith, length-set xs i v) in
    slice_get-get_or (slice_set xs i v) j 0 still ∙ ap Some (get_or-set_other xs i j v 0 other ∙ get_or_from_slice_get xs j x 0 h)

none_within : {X : Type 0} (xs : List X) (q : ℕ) → q < length xs → slice_get xs q ≡ None → ⊥
none_within [] q below h = omega arith
none_within (x ∷ xs) zero below h = cc
none_within (x ∷ xs) (suc q) below h = none_within xs q (omega arith) h

any_at : (xs : List ℕ) (i q : ℕ) → slice_get xs i ≡ Some q → list_any (eqb q) xs ≡ true
any_at [] i q h = absurd (cc)
any_at (x ∷ xs) zero q h = let e : q ≡ x = cc in ap (λ t. t || list_any (eqb q) xs) (eq-eqb q x e)
any_at (x ∷ xs) (suc i) q h = go (eqb q x) (any_at xs i q h)
  where
    go : (t : Bool) → list_any (eqb q) xs ≡ true → (t || list_any (eqb q) xs) ≡ true
    go true e = refl
    go false e = e

-- there are at most as many finalized points as there are places
pub settled_fit : (settled : List Settled) (places : List ℕ) → HasPlaces settled places → length settled ≤ length places
settled_fit settled places has = le-length_from_below places (length settled) there
  where
    found : (q : ℕ) (o : Option Settled) → slice_get settled q ≡ o → q < length settled → list_any (eqb q) places ≡ true
    found q None h below = absurd (none_within settled q below h)
    found q (Some s) h below = any_at places s.point q (has.at q s h)

    there : (q : ℕ) → q < length settled → list_any (eqb q) places ≡ true
    there q below = found q (slice_get settled q) refl below

-- a new point takes a place of its own
pub places_more : (settled : List Settled) (places : List ℕ) (hop : Settled) → HasPlaces settled places → IsNew settled hop.point → hop.point < length places → HasPlaces (settled ++ hop ∷ []) (slice_set places hop.point (length settled))
places_more settled places hop has new within = record { at = λ k s h. go k s (pushed settled hop k s h) }
  where
    go : (k : ℕ) (s : Settled) → ((k < length settled) × (slice_get settled k ≡ Some s)) ⊎ ((k ≡ length settled) × (hop ≡ s)) → slice_get (slice_set places hop.point (length settled)) s.point ≡ Some k
    go k s (inl l) = set_elsewhere places hop.point s.point (length settled) k (new k s l.1) (has.at k s l.1)
    go k s (inr l) =
        let here = set_here places hop.point (length settled) within in
        let e : hop.point ≡ s.point = ap (λ (x : Settled). x.point) l.1 in
        ap (slice_get (slice_set places hop.point (length settled))) (sym e) ∙ here ∙ ap Some (sym l.0)

pub fewer : (settled : List Settled) (places : List ℕ) (hop : Settled) → HasPlaces settled places → IsNew settled hop.point → hop.point < length places → length settled < length places
fewer settled places hop has new within =
    omega (arith, settled_fit (settled ++ hop ∷ []) (slice_set places hop.point (length settled)) (places_more settled places hop has new within), length-set places hop.point (length settled), length-append settled (hop ∷ []))

pub leads_back : (settled : List Settled) (hop : Settled) → LeadsBack settled → hop.next < length settled → LeadsBack (settled ++ hop ∷ [])
leads_back settled hop leads below = record { back = λ k s some h. go k s some (pushed settled hop k s h) }
  where
    go : (k : ℕ) (s : Settled) → 0 < k → ((k < length settled) × (slice_get settled k ≡ Some s)) ⊎ ((k ≡ length settled) × (hop ≡ s)) → s.next < k
    go k s some (inl l) = leads.back k s some l.1
    go k s some (inr l) = let e : hop.next ≡ s.next = ap (λ (x : Settled). x.next) l.1 in let here : k ≡ length settled = l.0 in omega arith

-- room for the links of a finalized point's hop, if there is room for as many of each point before it
pub room_on : (out more next at most room : ℕ) → out + at * most ≤ room → next < at → more ≤ most → out + more + next * most ≤ room
room_on out more next at most room fits below short = let less : (next + 1) * most ≤ at * most = mul-le-mul_right most (omega arith) in omega arith

-- what holds of the first finalized point, and of one more
pub leads_first : (start : Settled) → LeadsBack (start ∷ [])
leads_first start = record { back = λ k s above h. go k s above h }
  where
    go : (k : ℕ) (s : Settled) → 0 < k → slice_get (start ∷ []) k ≡ Some s → s.next < k
    go zero s above h = omega arith
    go (suc k) s above h = absurd (cc)

pub new_first : (start : Settled) (point : ℕ) → (point ≡ start.point → ⊥) → IsNew (start ∷ []) point
new_first start point other zero s h e = let same : start ≡ s = cc in other (sym (ap (λ (x : Settled). x.point) same ∙ e))
new_first start point other (suc k) s h e = cc

pub new_more : (settled : List Settled) (hop : Settled) (point : ℕ) → IsNew settled point → (hop.point ≡ point → ⊥) → IsNew (settled ++ hop ∷ []) point
new_more settled hop point new other k s h e = go (pushed settled hop k s h)
  where
    go : ((k < length settled) × (slice_get settled k ≡ Some s)) ⊎ ((k ≡ length settled) × (hop ≡ s)) → ⊥
    go (inl l) = new k s l.1 e
    go (inr l) = other (ap (λ (x : Settled). x.point) l.1 ∙ e)

pub root_still : (settled : List Settled) (hop : Settled) (to : ℕ) → IsSettledAt settled 0 to → IsSettledAt (settled ++ hop ∷ []) 0 to
root_still settled hop to (s, at, point) = (s, still_there settled hop 0 s at, point)
