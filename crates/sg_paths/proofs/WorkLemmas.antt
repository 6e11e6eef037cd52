-- How much remains to be traversed.
use Rattle.std.proofs.Common.{◌≡◌, ◌+◌, ◌<◌, ◌≤◌, ◌⊎◌, ℕ, zero, suc, List, [], ◌∷◌, ◌++◌, Option, None, Some, length, get_or, inl, inr, refl, ap, ◌∙◌, arith}
use Rattle.sg_heap.specs.Agenda.{Key, key_at}
use Rattle.sg_paths.specs.declared.ahead.Ahead.{Ahead}
use Rattle.sg_paths.specs.declared.route.PathRoute.{PathRoute}
use Rattle.sg_paths.specs.declared.trail.Settled.{Settled}
use Rattle.sg_paths.specs.Ahead.{sum_to}
use Rattle.sg_paths.specs.Arrivals.{to_at}
use Rattle.sg_paths.specs.Trail.{IsNew, IsSettledAt, links_at}
use Rattle.sg_paths.proofs.TrailLemmas.{settled_or_new, still_there}

-- a pending route has as many steps to go as links ahead of it, and one more; one to a new point all of its own
abbrev pub weight_by : (settled : List Settled) (point : ℕ) → Option Key → ((k : ℕ) × IsSettledAt settled k point) ⊎ IsNew settled point → ℕ → ℕ → ℕ
weight_by settled point (Some key) where_to behind links = behind + 1
weight_by settled point None (inl at) behind links = 0
weight_by settled point None (inr new) behind links = links + 1

abbrev pub weight : List PathRoute → List Settled → Ahead → ℕ → ℕ
weight routes settled ahead i = weight_by settled (to_at routes i) (key_at ahead.agenda i) (settled_or_new settled (to_at routes i)) (get_or ahead.left.items i 0) (length (links_at routes i))

abbrev pub work : List PathRoute → List Settled → Ahead → ℕ
work routes settled ahead = sum_to (weight routes settled ahead) (length routes)

pub sum_no_more : (f g : ℕ → ℕ) (n : ℕ) → ((i : ℕ) → i < n → f i ≤ g i) → sum_to f n ≤ sum_to g n
sum_no_more f g zero h = omega arith
sum_no_more f g (suc n) h =
    let rest = sum_no_more f g n (λ i few. h i (omega arith)) in
    let last = h n (omega arith) in
    omega (arith, rest, last)

last_or : (k m : ℕ) → k < suc m → (k ≡ m) ⊎ (k < m)
last_or zero zero few = inl refl
last_or zero (suc m) few = inr (omega arith)
last_or (suc k) zero few = absurd (omega arith)
last_or (suc k) (suc m) few = up (last_or k m (omega arith))
  where
    up : (k ≡ m) ⊎ (k < m) → (suc k ≡ suc m) ⊎ (suc k < suc m)
    up (inl e) = inl (ap suc e)
    up (inr l) = inr (omega arith)

pub sum_less : (f g : ℕ → ℕ) (n at : ℕ) → at < n → f at < g at → ((i : ℕ) → i < n → f i ≤ g i) → sum_to f n < sum_to g n
sum_less f g zero at few less h = absurd (omega arith)
sum_less f g (suc n) at few less h = go (λ l. sum_less f g n at l less (λ i few. h i (omega arith))) (last_or at n few)
  where
    rest : sum_to f n ≤ sum_to g n
    rest = sum_no_more f g n (λ i few. h i (omega arith))

    go : (at < n → sum_to f n < sum_to g n) → (at ≡ n) ⊎ (at < n) → sum_to f (suc n) < sum_to g (suc n)
    go below (inl e) =
        let one : f n < g n = let ef = ap f e in let eg = ap g e in omega (arith, less, ef, eg) in
        let r = rest in
        omega (arith, r, one)
    go below (inr l) =
        let r = below l in
        let one = h n (omega arith) in
        omega (arith, r, one)

-- ---- weights

pub weight_pending : (routes : List PathRoute) (settled : List Settled) (ahead : Ahead) (i : ℕ) (key : Key) → key_at ahead.agenda i ≡ Some key → weight routes settled ahead i ≡ get_or ahead.left.items i 0 + 1
weight_pending routes settled ahead i key at =
    ap (λ o. weight_by settled (to_at routes i) o (settled_or_new settled (to_at routes i)) (get_or ahead.left.items i 0) (length (links_at routes i))) at

pub weight_done : (routes : List PathRoute) (settled : List Settled) (ahead : Ahead) (i k : ℕ) → key_at ahead.agenda i ≡ None → IsSettledAt settled k (to_at routes i) → weight routes settled ahead i ≡ 0
weight_done routes settled ahead i k none (s, at, is) =
    ap (λ o. weight_by settled (to_at routes i) o (settled_or_new settled (to_at routes i)) (get_or ahead.left.items i 0) (length (links_at routes i))) none ∙ go (settled_or_new settled (to_at routes i))
  where
    go : (w : ((k : ℕ) × IsSettledAt settled k (to_at routes i)) ⊎ IsNew settled (to_at routes i)) → weight_by settled (to_at routes i) None w (get_or ahead.left.items i 0) (length (links_at routes i)) ≡ 0
    go (inl there) = refl
    go (inr new) = absurd (new k s at is)

pub weight_new : (routes : List PathRoute) (settled : List Settled) (ahead : Ahead) (i : ℕ) → key_at ahead.agenda i ≡ None → IsNew settled (to_at routes i) → weight routes settled ahead i ≡ length (links_at routes i) + 1
weight_new routes settled ahead i none new =
    ap (λ o. weight_by settled (to_at routes i) o (settled_or_new settled (to_at routes i)) (get_or ahead.left.items i 0) (length (links_at routes i))) none ∙ go (settled_or_new settled (to_at routes i))
  where
    go : (w : ((k : ℕ) × IsSettledAt settled k (to_at routes i)) ⊎ IsNew settled (to_at routes i)) → weight_by settled (to_at routes i) None w (get_or ahead.left.items i 0) (length (links_at routes i)) ≡ length (links_at routes i) + 1
    go (inl (k, (s, at, is))) = absurd (new k s at is)
    go (inr n) = refl

-- a route that stands still has no more weight once another point is finalized
pub weight_still : (routes : List PathRoute) (settled : List Settled) (hop : Settled) (old new : Ahead) (i : ℕ) → key_at new.agenda i ≡ key_at old.agenda i → get_or new.left.items i 0 ≡ get_or old.left.items i 0
    → weight routes (settled ++ hop ∷ []) new i ≤ weight routes settled old i
weight_still routes settled hop old new i key left = go (key_at old.agenda i) key (settled_or_new (settled ++ hop ∷ []) (to_at routes i)) (settled_or_new settled (to_at routes i))
  where
    go : (o : Option Key) → key_at new.agenda i ≡ o → (w : ((k : ℕ) × IsSettledAt (settled ++ hop ∷ []) k (to_at routes i)) ⊎ IsNew (settled ++ hop ∷ []) (to_at routes i)) (v : ((k : ℕ) × IsSettledAt settled k (to_at routes i)) ⊎ IsNew settled (to_at routes i))
        → weight_by (settled ++ hop ∷ []) (to_at routes i) (key_at new.agenda i) w (get_or new.left.items i 0) (length (links_at routes i)) ≤ weight_by settled (to_at routes i) o v (get_or old.left.items i 0) (length (links_at routes i))
    go (Some k) e w v =
        let same : weight_by (settled ++ hop ∷ []) (to_at routes i) (key_at new.agenda i) w (get_or new.left.items i 0) (length (links_at routes i)) ≡ get_or new.left.items i 0 + 1 = ap (λ o. weight_by (settled ++ hop ∷ []) (to_at routes i) o w (get_or new.left.items i 0) (length (links_at routes i))) e in
        omega (arith, same, left)
    go None e (inl there) v =
        let same : weight_by (settled ++ hop ∷ []) (to_at routes i) (key_at new.agenda i) (inl there) (get_or new.left.items i 0) (length (links_at routes i)) ≡ 0 = ap (λ o. weight_by (settled ++ hop ∷ []) (to_at routes i) o (inl there) (get_or new.left.items i 0) (length (links_at routes i))) e in
        omega (arith, same)
    go None e (inr far) (inr n) =
        let same : weight_by (settled ++ hop ∷ []) (to_at routes i) (key_at new.agenda i) (inr far) (get_or new.left.items i 0) (length (links_at routes i)) ≡ length (links_at routes i) + 1 = ap (λ o. weight_by (settled ++ hop ∷ []) (to_at routes i) o (inr far) (get_or new.left.items i 0) (length (links_at routes i))) e in
        omega (arith, same)
    go None e (inr far) (inl (k, (s, at, is))) = absurd (far k s (still_there settled hop k s at) is)

pub weight_unbegun : (routes : List PathRoute) (settled : List Settled) (ahead : Ahead) (i : ℕ) → key_at ahead.agenda i ≡ None → weight routes settled ahead i ≤ length (links_at routes i) + 1
weight_unbegun routes settled ahead i none = go (settled_or_new settled (to_at routes i))
  where
    go : (w : ((k : ℕ) × IsSettledAt settled k (to_at routes i)) ⊎ IsNew settled (to_at routes i)) → weight_by settled (to_at routes i) (key_at ahead.agenda i) w (get_or ahead.left.items i 0) (length (links_at routes i)) ≤ length (links_at routes i) + 1
    go (inl there) = let e : weight_by settled (to_at routes i) (key_at ahead.agenda i) (inl there) (get_or ahead.left.items i 0) (length (links_at routes i)) ≡ 0 = ap (λ o. weight_by settled (to_at routes i) o (inl there) (get_or ahead.left.items i 0) (length (links_at routes i))) none in omega (arith, e)
    go (inr new) = let e : weight_by settled (to_at routes i) (key_at ahead.agenda i) (inr new) (get_or ahead.left.items i 0) (length (links_at routes i)) ≡ length (links_at routes i) + 1 = ap (λ o. weight_by settled (to_at routes i) o (inr new) (get_or ahead.left.items i 0) (length (links_at routes i))) none in omega (arith, e)
