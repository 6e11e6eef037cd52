-- Counting along a chain.
use Rattle.std.proofs.Common.{◌≡◌, ◌≢◌, ℕ, zero, suc, ◌+◌, ◌-◌, ◌*◌, ◌^◌, ◌<◌, ◌≤◌, ◌⊎◌, inl, inr, Bool, true, false, cond, ◌&&◌, is_none, is_some, ◌==◌, eq-eqb, ne_eqb, Option, None, Some, List, [], ◌∷◌, ◌++◌, length, get_or, set, take, drop, get_or-set_same, get_or-set_other, min, All, IsSomeAnd, IfSome, map, option_map, add-one, append_assoc, refl, sym, ap, subst, ◌∙◌, arith}
use Rattle.std.proofs.lemmas.List.Sums.{sum_by-cons}
use Rattle.std.specs.List.{list_any, AllPairs}
use Rattle.sg_maxmin.specs.declared.flow_row.FlowRow.{FlowRow}
use Rattle.sg_maxmin.specs.declared.uses.Use.{Use}
use Rattle.sg_maxmin.specs.Fill.{is_on, bounded}
use Rattle.sg_maxmin.specs.Chain.{resources, IsChain}
use Rattle.sg_maxmin.specs.kept.Uses.{flow_of, AreRows, IsOneChain}
use Rattle.sg_maxmin.specs.Sharing.{IsFlow}
use Rattle.sg_maxmin.specs.Chained.{times}
use Rattle.sg_maxmin.specs.kept.Counting.{HasRowPlaces, row_share, with_level, without_share, SameRows, RowSteps}
use Rattle.sg_maxmin.specs.Step.{IsLeast, least_with, IsStepped}
use Rattle.sg_maxmin.proofs.Least.{least_push}

pub eq_cases : (a b : ℕ) → (a ≡ b) ⊎ (a ≢ b)
eq_cases a b = grind arith

pub times-here : (c : ℕ) (rest : List ℕ) → times c (c ∷ rest) ≡ 1 + times c rest
times-here c rest = sum_by-cons (λ d. cond (d == c) 1 0) c rest ∙ ap (λ b. cond b 1 0 + times c rest) (eq-eqb c c refl)

times-away : (c r : ℕ) (rest : List ℕ) → r ≢ c → times c (r ∷ rest) ≡ times c rest
times-away c r rest away = sum_by-cons (λ d. cond (d == c) 1 0) r rest ∙ ap (λ b. cond b 1 0 + times c rest) (ne_eqb r c away) ∙ zero_plus (times c rest)
  where
    zero_plus : (n : ℕ) → 0 + n ≡ n
    zero_plus n = omega arith

-- one more counted, of this weight
pub put_more : (w : List ℕ) (r m : ℕ) (rest : List ℕ) (c : ℕ) → r < length w → get_or (set w r (get_or w r 0 + m)) c 0 + times c rest * m ≡ get_or w c 0 + times c (r ∷ rest) * m
put_more w r m rest c in' =
    elim (eq_cases c r) [
      | inl e ↦ subst (λ k. get_or (set w r (get_or w r 0 + m)) k 0 + times k rest * m ≡ get_or w k 0 + times k (r ∷ rest) * m) (sym e)
          (rw (times-here r rest, get_or-set_same w r (get_or w r 0 + m) 0 in') (once (get_or w r 0) m (times r rest)))
      | inr ne ↦ rw (times-away c r rest (λ z. ne (sym z)), get_or-set_other w r c (get_or w r 0 + m) 0 ne) refl
    ]
  where
    once : (a s n : ℕ) → a + s + n * s ≡ a + (1 + n) * s
    once a s n = omega arith

-- a weight that is still to be counted fits beside what is counted
pub put_fits : (w : List ℕ) (r m total : ℕ) (rest all : List ℕ) → all ≡ r ∷ rest → get_or w r 0 + times r all * m ≡ total → total < 2 ^ 64 → get_or w r 0 + m < 2 ^ 64
put_fits w r m total rest all e is fits =
    omega (arith, is, fits, ap (λ list. times r list * m) e ∙ ap (λ n. n * m) (times-here r rest) ∙ more m (times r rest))
  where
    more : (m n : ℕ) → (1 + n) * m ≡ m + n * m
    more m n = omega arith

-- one more share taken off
pub off_more : (w : List ℕ) (r s : ℕ) (rest : List ℕ) (c : ℕ) → r < length w → get_or (set w r (get_or w r 0 - s)) c 0 - times c rest * s ≡ get_or w c 0 - times c (r ∷ rest) * s
off_more w r s rest c in' =
    elim (eq_cases c r) [
      | inl e ↦ subst (λ k. get_or (set w r (get_or w r 0 - s)) k 0 - times k rest * s ≡ get_or w k 0 - times k (r ∷ rest) * s) (sym e)
          (rw (times-here r rest, get_or-set_same w r (get_or w r 0 - s) 0 in') (twice (get_or w r 0) s (times r rest)))
      | inr ne ↦ rw (times-away c r rest (λ z. ne (sym z)), get_or-set_other w r c (get_or w r 0 - s) 0 ne) refl
    ]
  where
    twice : (a s n : ℕ) → a - s - n * s ≡ a - (1 + n) * s
    twice a s n = omega arith

-- what follows a place, one place on
pub step_on : (xs : List ℕ) (k y : ℕ) (ys : List ℕ) → drop k xs ≡ y ∷ ys → (take (k + 1) xs ≡ take k xs ++ y ∷ []) × (drop (k + 1) xs ≡ ys)
step_on xs k y ys e = rw add-one (on xs k e)
  where
    on : (zs : List ℕ) (j : ℕ) → drop j zs ≡ y ∷ ys → (take (suc j) zs ≡ take j zs ++ y ∷ []) × (drop (suc j) zs ≡ ys)
    on [] zero h = absurd (cc h)
    on [] (suc j) h = absurd (cc h)
    on (z ∷ zs) zero h = (cc h, cc h)
    on (z ∷ zs) (suc j) h = let r = on zs j h in (ap (λ w. z ∷ w) r.0, r.1)

pub map_push : {X : Type 0} (f : ℕ → X) (xs : List ℕ) (x : ℕ) → map f (xs ++ x ∷ []) ≡ map f xs ++ f x ∷ []
map_push f [] x = refl
map_push f (y ∷ xs) x = ap (λ r. f y ∷ r) (map_push f xs x)

-- what holds a row back, with one more of its resources
pub limits_more : (o : Option ℕ) (first : List ℕ) (f : ℕ → ℕ) (all : List ℕ) (k r : ℕ) (rest : List ℕ) → drop k all ≡ r ∷ rest → IsLeast o (first ++ map f (take k all)) → IsLeast (Some (least_with o (f r))) (first ++ map f (take (k + 1) all))
limits_more o first f all k r rest e h =
    subst (λ ys. IsLeast (Some (least_with o (f r))) ys) (append_assoc first (map f (take k all)) (f r ∷ []) ∙ ap (λ ys. first ++ ys) (sym (map_push f (take k all) r) ∙ ap (λ ys. map f ys) (sym (step_on all k r rest e).0)))
    (least_push o (first ++ map f (take k all)) (f r) h)

-- if each resource stands once, it is counted once
times-once : (xs : List ℕ) (c : ℕ) → AllPairs (λ a b. a ≢ b) xs → times c xs ≡ cond (list_any (λ d. d == c) xs) 1 0
times-once [] c h = refl
times-once (x ∷ xs) c h =
    let rest = times-once xs c (λ i j d a b. h (suc i) (suc j) d (omega (arith, a)) (omega (arith, b))) in
    elim (eq_cases x c) [
      | inl e ↦
          let none : times c xs ≡ 0 = count_none xs (λ k in' z. h 0 (suc k) 0 (omega arith) (omega (arith, in')) (e ∙ sym z)) in
          subst (λ w. times c (w ∷ xs) ≡ cond (list_any (λ d. d == c) (w ∷ xs)) 1 0) (sym e) (rw (times-here c xs, none, eq-eqb c c refl) refl)
      | inr ne ↦ rw (times-away c x xs ne, ne_eqb x c ne) rest
    ]
  where
    count_none : (ys : List ℕ) → ((k : ℕ) → k < length ys → get_or ys k 0 ≡ c → ⊥) → times c ys ≡ 0
    count_none [] none = refl
    count_none (y ∷ ys) none = times-away c y ys (λ e. none 0 (omega arith) e) ∙ count_none ys (λ k in' e. none (suc k) (omega (arith, in')) e)

-- what the rows say of one of them
pub record RowFacts (caps : List ℕ) (uses : List (Option Use)) (row : FlowRow) : Type 0 where
  pub chain : IsOneChain row.count uses row.first
  pub exist : All (λ c. c < length caps) (resources row.count uses row.first)
  pub once : (c : ℕ) → times c (resources row.count uses row.first) ≡ cond (is_on c (flow_of uses row)) 1 0
  pub weighs : 0 < row.weight
  pub light : row.weight < 2 ^ 32

pub row_facts : (caps : List ℕ) (rows : List (Option FlowRow)) (uses : List (Option Use)) (id : ℕ) (row : FlowRow) → AreRows caps rows uses → get_or rows id None ≡ Some row → RowFacts caps uses row
unfolding flow_of
row_facts caps rows uses id row are e =
    let flow = are.flows id row e in
    record {
      chain = (id, are.chains id row e);
      exist = flow.exist;
      once = λ c. times-once (resources row.count uses row.first) c flow.once;
      weighs = flow.limit.weighs;
      light = flow.light;
    }

pub row_places : (caps : List ℕ) (rows : List (Option FlowRow)) (uses : List (Option Use)) (id : ℕ) (row : FlowRow) (list : List ℕ) → AreRows caps rows uses → get_or rows id None ≡ Some row → length list ≡ length caps → HasRowPlaces uses row list
row_places caps rows uses id row list are e len = let facts = row_facts caps rows uses id row are e in record { chain = facts.chain; exist = rw len facts.exist }

pub waits_once : (on : Bool) (level : Option ℕ) (weight : ℕ) → level ≡ None → cond on 1 0 * weight ≡ cond (on && is_none level) weight 0
waits_once true level weight e = rw e (omega arith)
waits_once false level weight e = omega arith

-- off what fits 64 bits, a share goes as far as 64 bits go
pub cut_times : (a t s : ℕ) → a < 2 ^ 64 → a - t * min s (2 ^ 64 - 1) ≡ a - t * s
cut_times a zero s fits = none a (min s (2 ^ 64 - 1)) s
  where
    none : (x y z : ℕ) → x - 0 * y ≡ x - 0 * z
    none x y z = omega arith
cut_times a (suc k) s fits = elim (small s) [
  | inl e ↦ ap (λ n. a - suc k * n) e
  | inr h ↦ subst (λ n. a - suc k * n ≡ a - suc k * s) (sym h.0) (both_none a k s fits h.1)
]
  where
    small : (n : ℕ) → (min n (2 ^ 64 - 1) ≡ n) ⊎ ((min n (2 ^ 64 - 1) ≡ 2 ^ 64 - 1) × (2 ^ 64 - 1 ≤ n))
    small n = elim (cases (2 ^ 64 - 1) n) [ inl h ↦ inr (omega (arith, h), h) | inr h ↦ inl (omega (arith, h)) ]
      where
        cases : (x y : ℕ) → (x ≤ y) ⊎ (y < x)
        cases x y = grind arith

    more : (m n : ℕ) → suc m * n ≡ n + m * n
    more m n = omega arith

    both_none : (x m n : ℕ) → x < 2 ^ 64 → 2 ^ 64 - 1 ≤ n → x - suc m * (2 ^ 64 - 1) ≡ x - suc m * n
    both_none x m n h l = omega (arith, h, l, more m n, more m (2 ^ 64 - 1))

pub takes_once : (on : Bool) (row : FlowRow) (level : Option ℕ) (l : ℕ) → level ≡ Some l → cond on 1 0 * bounded row.bound (row.weight * l) ≡ cond on (row_share row level) 0
takes_once true row level l e = rw e (one_time (bounded row.bound (row.weight * l)))
  where
    one_time : (s : ℕ) → 1 * s ≡ s
    one_time s = omega arith
takes_once false row level l e = no_time (bounded row.bound (row.weight * l))
  where
    no_time : (s : ℕ) → 0 * s ≡ 0
    no_time s = omega arith

pub unfixed_from : (level : Option ℕ) → is_some level ≡ false → is_none level ≡ true
unfixed_from None e = refl
unfixed_from (Some x) e = cc e

-- ---- rows that are the same except for their shares
pub flows_same : (uses : List (Option Use)) (old new : List (Option FlowRow)) → SameRows old new → (key : ℕ) → option_map (flow_of uses) (get_or new key None) ≡ option_map (flow_of uses) (get_or old key None)
unfolding flow_of
flows_same uses old new same key = sym (through (get_or new key None)) ∙ ap (option_map (flow_of uses)) (same key) ∙ through (get_or old key None)
  where
    through : (o : Option FlowRow) → option_map (flow_of uses) (option_map without_share o) ≡ option_map (flow_of uses) o
    through None = refl
    through (Some row) = refl

-- the row that stood there before
pub row_before : (o p : Option FlowRow) (row : FlowRow) → option_map without_share p ≡ option_map without_share o → p ≡ Some row → (before : FlowRow) × (o ≡ Some before) × (without_share row ≡ without_share before)
row_before None p row e there = cc (sym (ap (option_map without_share) there) ∙ e)
row_before (Some before) p row e there = (before, refl, some_row (sym (ap (option_map without_share) there) ∙ e))
  where
    some_row : {a b : FlowRow} → Some a ≡ Some b → a ≡ b
    some_row h = cc

pub rows_same : (caps : List ℕ) (uses : List (Option Use)) (old new : List (Option FlowRow)) → SameRows old new → AreRows caps old uses → AreRows caps new uses
unfolding flow_of
rows_same caps uses old new same are = record {
  chains = λ id row e.
      let r = row_before (get_or old id None) (get_or new id None) row (same id) e in
      subst (λ w. IsChain id w.count uses w.first) (sym r.2) (are.chains id r.0 r.1);
  flows = λ id row e.
      let r = row_before (get_or old id None) (get_or new id None) row (same id) e in
      subst (λ w. IsFlow caps (flow_of uses w)) (sym r.2) (are.flows id r.0 r.1);
  bounds_fit = λ id row e.
      let r = row_before (get_or old id None) (get_or new id None) row (same id) e in
      subst (λ o. IfSome o (λ bound. bound < 2 ^ 64)) (sym (ap (λ w. w.bound) r.2)) (are.bounds_fit id r.0 r.1);
}

-- a row that is at the level, once it got it, and one that isn't
pub steps_then : (low : ℕ) (limits : FlowRow → List ℕ) (before after : Option FlowRow) → IsSomeAnd before (λ row. (row.level ≡ None) × IsLeast (Some low) (limits row)) → after ≡ option_map (with_level (Some low)) before → RowSteps low limits before after
steps_then low limits None after h e = absurd h
steps_then low limits (Some row) after h e = (Some low, e, subst (λ o. IsStepped low (IsLeast (Some low) (limits row)) o (Some low)) (sym h.0) (inl (h.1, refl)))

pub steps_else : (low : ℕ) (limits : FlowRow → List ℕ) (before after : Option FlowRow) → (IsSomeAnd before (λ row. (row.level ≡ None) × IsLeast (Some low) (limits row)) → ⊥) → after ≡ before → RowSteps low limits before after
steps_else low limits None after h e = e
steps_else low limits (Some row) after h e = (row.level, e, stays row.level (λ none at. h (none, at)))
  where
    stays : (o : Option ℕ) → (o ≡ None → IsLeast (Some low) (limits row) → ⊥) → IsStepped low (IsLeast (Some low) (limits row)) o o
    stays None k = inr (λ at. k refl at, refl)
    stays (Some x) k = refl

pub same_step : (low : ℕ) (limits : FlowRow → List ℕ) (o n : Option FlowRow) → RowSteps low limits o n → option_map without_share n ≡ option_map without_share o
same_step low limits None n h = ap (option_map without_share) h
same_step low limits (Some row) n h = ap (option_map without_share) h.1
