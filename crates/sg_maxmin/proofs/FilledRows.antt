-- The passes over the rows are the steps of the max-min solve.
use Rattle.std.proofs.Common.{◌≡◌, ℕ, zero, suc, ◌+◌, ◌-◌, ◌*◌, ◌/◌, ◌^◌, min, IsSome, IfSome, ◌<◌, ◌≤◌, ◌⊎◌, inl, inr, true, false, cond, ◌&&◌, is_none, is_some, Option, None, Some, option_map, option_to_list, List, [], ◌∷◌, ◌++◌, map, filter, flat_map, length, get_or, sum_by, count_by, All, refl, sym, ap, ap₂, subst, ◌∙◌, arith}
use Rattle.std.specs.Option.{unwrap_or}
use Rattle.std.proofs.lemmas.List.Sums.{sum_by-cons, count_by-le-length}
use Rattle.sg_maxmin.specs.declared.flow_row.FlowRow.{FlowRow}
use Rattle.sg_maxmin.specs.declared.uses.Use.{Use}
use Rattle.sg_maxmin.specs.Fill.{Flow, is_on, least, bounded, bound_level, share_at, level_of, share_of}
use Rattle.sg_maxmin.specs.Fixing.{Fixed, taken, waiting, resource_level, flow_limits, lowest_limit, step, steps_from, unfixed, share_of_fixed}
use Rattle.sg_maxmin.specs.Laws.{HaveLimits}
use Rattle.sg_maxmin.specs.Sharing.{Sharing, HasLimit, held, flow_at}
use Rattle.sg_maxmin.specs.Chain.{IsChain, resources}
use Rattle.sg_maxmin.specs.kept.Uses.{flow_of, flows_of, share_in, share_by_level, AreRows}
use Rattle.sg_maxmin.proofs.ChainLemmas.{length-resources}
use Rattle.sg_maxmin.proofs.Rows.{flow_at-flows_of, some_row}
use Rattle.std.proofs.Math.ListN.{get_or-map}
use Rattle.sg_maxmin.specs.kept.Counting.{rows_held, row_share, taken_on, waiting_on, AreCounted, row_limits, all_limits, RowSteps, with_level, with_share, without_share, SameRows, AreFixed, AreRowLevels, AreRowShares, row_count, count_of}
use Rattle.sg_maxmin.specs.Step.{IsLeast, IsStepped}
use Rattle.sg_maxmin.proofs.Members.{In, In-map, In-map_back, In-from_contains, contains_from_In, In-filter, In-flat_map}
use Rattle.sg_maxmin.proofs.Sums.{sum_by_same, le-sum_by}
use Rattle.sg_maxmin.proofs.Rises.{is_on_uses}
use Rattle.sg_maxmin.proofs.Fairness.{share_le_bound}
use Rattle.sg_maxmin.proofs.OneStep.{least_le, least_in, lowest_le, step_fixed, step_at, was, gets, waits, step_cases}
use Rattle.sg_maxmin.proofs.Leveled.{all_fixed}
use Rattle.sg_maxmin.proofs.Counts.{row_facts}
use Rattle.sg_maxmin.proofs.Proved.{is_fair_lem, limited_from, level_fixed}

-- ---- the flows of the rows
pub held_flows : (rows : List (Option FlowRow)) (uses : List (Option Use)) → held (flows_of rows uses) ≡ map (flow_of uses) (rows_held rows)
held_flows [] uses = refl
held_flows (None ∷ rows) uses = held_flows rows uses
held_flows (Some row ∷ rows) uses = ap (λ fs. flow_of uses row ∷ fs) (held_flows rows uses)

pub same_flows : (uses : List (Option Use)) (old new : List (Option FlowRow)) → SameRows old new → length new ≡ length old → flows_of new uses ≡ flows_of old uses
unfolding flow_of
same_flows uses [] [] same len = refl
same_flows uses [] (o ∷ new) same len = absurd (omega (arith, len))
same_flows uses (o ∷ old) [] same len = absurd (omega (arith, len))
same_flows uses (o ∷ old) (n ∷ new) same len =
    ap₂ (λ f fs. f ∷ fs) (sym (through n) ∙ ap (option_map (flow_of uses)) (same 0) ∙ through o)
    (same_flows uses old new (λ key. same (suc key)) (omega (arith, len)))
  where
    through : (p : Option FlowRow) → option_map (flow_of uses) (option_map without_share p) ≡ option_map (flow_of uses) p
    through None = refl
    through (Some row) = refl

pub In-rows : (rows : List (Option FlowRow)) (id : ℕ) (row : FlowRow) → get_or rows id None ≡ Some row → In row (rows_held rows)
In-rows [] id row e = cc e
In-rows (None ∷ rows) zero row e = cc e
In-rows (Some r ∷ rows) zero row e = inl (cc e)
In-rows (None ∷ rows) (suc id) row e = In-rows rows id row e
In-rows (Some r ∷ rows) (suc id) row e = inr (In-rows rows id row e)

pub In-rows_back : (rows : List (Option FlowRow)) (row : FlowRow) → In row (rows_held rows) → (id : ℕ) × (get_or rows id None ≡ Some row)
In-rows_back [] row i = absurd i
In-rows_back (None ∷ rows) row i = let r = In-rows_back rows row i in (suc r.0, r.1)
In-rows_back (Some r ∷ rows) row (inl e) = (0, ap (λ w. Some w) e)
In-rows_back (Some r ∷ rows) row (inr i) = let b = In-rows_back rows row i in (suc b.0, b.1)

pub In-flows : (rows : List (Option FlowRow)) (uses : List (Option Use)) (id : ℕ) (row : FlowRow) → get_or rows id None ≡ Some row → In (flow_of uses row) (held (flows_of rows uses))
In-flows rows uses id row e = subst (λ fs. In (flow_of uses row) fs) (sym (held_flows rows uses)) (In-map (flow_of uses) (rows_held rows) row (In-rows rows id row e))

-- ---- sums
sum_by-map : {X Y : Type 0} (h : Y → ℕ) (f : X → Y) (xs : List X) → sum_by h (map f xs) ≡ sum_by (λ x. h (f x)) xs
sum_by-map h f [] = refl
sum_by-map h f (x ∷ xs) = sum_by-cons h (f x) (map f xs) ∙ ap (λ s. h (f x) + s) (sum_by-map h f xs) ∙ sym (sum_by-cons (λ y. h (f y)) x xs)

fixed_in : (rows : List (Option FlowRow)) (uses : List (Option Use)) (fixed : Fixed) → AreFixed uses rows fixed → (row : FlowRow) → In row (rows_held rows) → fixed (flow_of uses row) ≡ row.level
fixed_in rows uses fixed are row i = let r = In-rows_back rows row i in sym (are r.0 row r.1)

-- the share and the weight of a row are those of its flow
share_row : (uses : List (Option Use)) (row : FlowRow) (o : Option ℕ) → share_of_fixed (flow_of uses row) o ≡ row_share row o
unfolding flow_of share_at
share_row uses row None = refl
share_row uses row (Some level') = refl

weight_row : (uses : List (Option Use)) (row : FlowRow) → (flow_of uses row).weight ≡ row.weight
unfolding flow_of
weight_row uses row = refl

pub taken_is : (rows : List (Option FlowRow)) (uses : List (Option Use)) (fixed : Fixed) (c : ℕ) → AreFixed uses rows fixed → taken (held (flows_of rows uses)) fixed c ≡ taken_on rows uses c
unfolding taken
taken_is rows uses fixed c are =
    ap (λ fs. sum_by (λ flow. cond (is_on c flow) (share_of_fixed flow (fixed flow)) 0) fs) (held_flows rows uses)
    ∙ sum_by-map (λ flow. cond (is_on c flow) (share_of_fixed flow (fixed flow)) 0) (flow_of uses) (rows_held rows)
    ∙ sum_by_same (λ row. cond (is_on c (flow_of uses row)) (share_of_fixed (flow_of uses row) (fixed (flow_of uses row))) 0) (λ row. cond (is_on c (flow_of uses row)) (row_share row row.level) 0) (rows_held rows)
    (λ row i. ap (λ s. cond (is_on c (flow_of uses row)) s 0) (ap (share_of_fixed (flow_of uses row)) (fixed_in rows uses fixed are row i) ∙ share_row uses row row.level))

pub waiting_is : (rows : List (Option FlowRow)) (uses : List (Option Use)) (fixed : Fixed) (c : ℕ) → AreFixed uses rows fixed → waiting (held (flows_of rows uses)) fixed c ≡ waiting_on rows uses c
unfolding waiting
waiting_is rows uses fixed c are =
    ap (λ fs. sum_by (λ flow. cond (is_on c flow && is_none (fixed flow)) flow.weight 0) fs) (held_flows rows uses)
    ∙ sum_by-map (λ flow. cond (is_on c flow && is_none (fixed flow)) flow.weight 0) (flow_of uses) (rows_held rows)
    ∙ sum_by_same (λ row. cond (is_on c (flow_of uses row) && is_none (fixed (flow_of uses row))) (flow_of uses row).weight 0) (λ row. cond (is_on c (flow_of uses row) && is_none row.level) row.weight 0) (rows_held rows)
    (λ row i. ap₂ (λ o w. cond (is_on c (flow_of uses row) && is_none o) w 0) (fixed_in rows uses fixed are row i) (weight_row uses row))

pub level_is : (caps : List ℕ) (rows : List (Option FlowRow)) (uses : List (Option Use)) (left waiting' : List ℕ) (fixed : Fixed) (c : ℕ) → AreFixed uses rows fixed → AreCounted caps rows uses left waiting' → c < length caps →
    resource_level caps (held (flows_of rows uses)) fixed c ≡ get_or left c 0 / get_or waiting' c 0
unfolding resource_level
level_is caps rows uses left waiting' fixed c are counted in' =
    ap₂ (λ a b. a / b) (ap (λ t. get_or caps c 0 - t) (taken_is rows uses fixed c are) ∙ sym (counted.left_is c in')) (waiting_is rows uses fixed c are ∙ sym (counted.waiting_is c in'))

map_same : (f g : ℕ → ℕ) (xs : List ℕ) → ((x : ℕ) → In x xs → f x ≡ g x) → map f xs ≡ map g xs
map_same f g [] h = refl
map_same f g (y ∷ xs) h = ap₂ (λ a b. a ∷ b) (h y (inl refl)) (map_same f g xs (λ x i. h x (inr i)))

all_in : (P : ℕ → Type 0) (xs : List ℕ) → All P xs → (x : ℕ) → In x xs → P x
all_in P [] h x i = absurd i
all_in P (y ∷ xs) h x (inl e) = subst P e (h 0 0 (omega arith))
all_in P (y ∷ xs) h x (inr i) = all_in P xs (λ k d in'. h (suc k) d (omega (arith, in'))) x i

pub limits_are : (caps : List ℕ) (rows : List (Option FlowRow)) (uses : List (Option Use)) (left waiting' : List ℕ) (fixed : Fixed) → AreRows caps rows uses → AreFixed uses rows fixed → AreCounted caps rows uses left waiting' →
    (id : ℕ) (row : FlowRow) → get_or rows id None ≡ Some row → flow_limits caps (held (flows_of rows uses)) fixed (flow_of uses row) ≡ row_limits left waiting' uses row
unfolding flow_limits flow_of
limits_are caps rows uses left waiting' fixed sound are counted id row e =
    let exist = (row_facts caps rows uses id row sound e).exist in
    ap (λ ls. option_to_list (option_map (bound_level row.weight) row.bound) ++ ls)
    (map_same (resource_level caps (held (flows_of rows uses)) fixed) (λ c. get_or left c 0 / get_or waiting' c 0) (resources row.count uses row.first)
    (λ c i. level_is caps rows uses left waiting' fixed c are counted (all_in (λ r. r < length caps) (resources row.count uses row.first) exist c i)))

-- ---- the lowest level
flat_same : (uses : List (Option Use)) (fixed : Fixed) (f : Flow → List ℕ) (g : FlowRow → List ℕ) (rows : List FlowRow) →
    ((row : FlowRow) → In row rows → (fixed (flow_of uses row) ≡ row.level) × (f (flow_of uses row) ≡ g row)) →
    flat_map f (filter (λ flow. is_none (fixed flow)) (map (flow_of uses) rows)) ≡ flat_map g (filter (λ row. is_none row.level) rows)
flat_same uses fixed f g [] h = refl
flat_same uses fixed f g (row ∷ rows) h =
    let rest = flat_same uses fixed f g rows (λ r i. h r (inr i)) in
    let here = h row (inl refl) in
    let fs = filter (λ flow. is_none (fixed flow)) (map (flow_of uses) rows) in
    let rs = filter (λ r. is_none r.level) rows in
    subst (λ b. flat_map f (cond b (flow_of uses row ∷ fs) fs) ≡ flat_map g (cond (is_none row.level) (row ∷ rs) rs)) (sym (ap is_none here.0))
    (elim (is_none row.level) as (λ b. flat_map f (cond b (flow_of uses row ∷ fs) fs) ≡ flat_map g (cond b (row ∷ rs) rs)) [
      | true ↦ ap₂ (λ a b. a ++ b) here.1 rest
      | false ↦ rest
    ])

pub all_limits_are : (caps : List ℕ) (rows : List (Option FlowRow)) (uses : List (Option Use)) (left waiting' : List ℕ) (fixed : Fixed) → AreRows caps rows uses → AreFixed uses rows fixed → AreCounted caps rows uses left waiting' →
    flat_map (flow_limits caps (held (flows_of rows uses)) fixed) (filter (λ flow. is_none (fixed flow)) (held (flows_of rows uses))) ≡ all_limits left waiting' uses rows
all_limits_are caps rows uses left waiting' fixed sound are counted =
    let flows = held (flows_of rows uses) in
    ap (λ fs. flat_map (flow_limits caps flows fixed) (filter (λ flow. is_none (fixed flow)) fs)) (held_flows rows uses)
    ∙ flat_same uses fixed (flow_limits caps flows fixed) (row_limits left waiting' uses) (rows_held rows)
    (λ row i. let b = In-rows_back rows row i in (fixed_in rows uses fixed are row i, limits_are caps rows uses left waiting' fixed sound are counted b.0 row b.1))

pub lowest_is : (caps : List ℕ) (rows : List (Option FlowRow)) (uses : List (Option Use)) (left waiting' : List ℕ) (fixed : Fixed) (low : ℕ) → AreRows caps rows uses → AreFixed uses rows fixed → AreCounted caps rows uses left waiting' →
    IsLeast (Some low) (all_limits left waiting' uses rows) → lowest_limit caps (held (flows_of rows uses)) fixed ≡ low
unfolding lowest_limit
lowest_is caps rows uses left waiting' fixed low sound are counted h =
    let all = all_limits left waiting' uses rows in
    ap least (all_limits_are caps rows uses left waiting' fixed sound are counted) ∙ is_least all h
  where
    is_least : (xs : List ℕ) → IsLeast (Some low) xs → least xs ≡ low
    is_least xs g = omega (arith, least_le xs low (In-from_contains xs low g.0), g.1 (least xs) (contains_from_In xs (least xs) (least_in xs low (In-from_contains xs low g.0))))

-- ---- a pass over the rows that fixes flows is a step
pub step_case : (caps : List ℕ) (flows : List Flow) (fixed : Fixed) (f : Flow) (low : ℕ) (list : List ℕ) (before after : Option ℕ) → fixed f ≡ before → flow_limits caps flows fixed f ≡ list → In f flows → lowest_limit caps flows fixed ≡ low →
    IsStepped low (IsLeast (Some low) list) before after → after ≡ step caps flows fixed f
step_case caps flows fixed f low list (Some x) after e lim i low_is h = h ∙ sym (step_fixed caps flows fixed f x e)
step_case caps flows fixed f low list None after e lim i low_is (inl h) =
    let at : In low list = In-from_contains list low h.0.0 in
    let at' : In (lowest_limit caps flows fixed) (flow_limits caps flows fixed f) = subst (λ ys. In (lowest_limit caps flows fixed) ys) (sym lim) (subst (λ w. In w list) (sym low_is) at) in
    h.1 ∙ ap (λ w. Some w) (sym low_is) ∙ sym (step_at caps flows fixed f e at')
step_case caps flows fixed f low list None after e lim i low_is (inr h) =
    elim (step_cases caps flows fixed f) [
      | was x p q ↦ cc (sym e ∙ p)
      | gets p q at ↦
          let there : In low list = subst (λ w. In w list) low_is (subst (λ ys. In (lowest_limit caps flows fixed) ys) lim at) in
          absurd (h.0 (contains_from_In list low there, λ x k. subst (λ w. w ≤ x) low_is (lowest_le caps flows fixed f x i e (subst (λ ys. In x ys) (sym lim) (In-from_contains list x k)))))
      | waits p q away ↦ h.1 ∙ sym q
    ]

row_steps : (caps : List ℕ) (old : List (Option FlowRow)) (uses : List (Option Use)) (left waiting' : List ℕ) (fixed : Fixed) (low : ℕ) → AreRows caps old uses → AreFixed uses old fixed → AreCounted caps old uses left waiting' →
    IsLeast (Some low) (all_limits left waiting' uses old) → (key : ℕ) (row before : FlowRow) → get_or old key None ≡ Some before → RowSteps low (row_limits left waiting' uses) (Some before) (Some row) →
    row.level ≡ step caps (held (flows_of old uses)) fixed (flow_of uses row)
unfolding flow_of
row_steps caps old uses left waiting' fixed low sound are counted least' key row before there h =
    let same : row ≡ with_level h.0 before = some_row row (with_level h.0 before) h.1 in
    let flows = held (flows_of old uses) in
    let is_flow : flow_of uses row ≡ flow_of uses before = ap (λ w. flow_of uses w) same in
    ap (λ w. w.level) same
    ∙ step_case caps flows fixed (flow_of uses before) low (row_limits left waiting' uses before) before.level h.0 (sym (are key before there))
    (limits_are caps old uses left waiting' fixed sound are counted key before there) (In-flows old uses key before there) (lowest_is caps old uses left waiting' fixed low sound are counted least') h.2
    ∙ ap (λ w. step caps flows fixed w) (sym is_flow)

pub step_is : (caps : List ℕ) (old new : List (Option FlowRow)) (uses : List (Option Use)) (left waiting' : List ℕ) (fixed : Fixed) (low : ℕ) → AreRows caps old uses → AreFixed uses old fixed → AreCounted caps old uses left waiting' →
    IsLeast (Some low) (all_limits left waiting' uses old) → ((key : ℕ) → RowSteps low (row_limits left waiting' uses) (get_or old key None) (get_or new key None)) →
    AreFixed uses new (step caps (held (flows_of old uses)) fixed)
step_is caps old new uses left waiting' fixed low sound are counted least' steps = λ key row e. one key row e (get_or old key None) refl (subst (λ o. RowSteps low (row_limits left waiting' uses) (get_or old key None) o) e (steps key))
  where
    one : (key : ℕ) (row : FlowRow) → get_or new key None ≡ Some row → (o : Option FlowRow) → get_or old key None ≡ o → RowSteps low (row_limits left waiting' uses) (get_or old key None) (Some row) → row.level ≡ step caps (held (flows_of old uses)) fixed (flow_of uses row)
    one key row e None there h = cc (subst (λ o. RowSteps low (row_limits left waiting' uses) o (Some row)) there h)
    one key row e (Some before) there h = row_steps caps old uses left waiting' fixed low sound are counted least' key row before there (subst (λ o. RowSteps low (row_limits left waiting' uses) o (Some row)) there h)

-- ---- the end
fixed_cases : {X : Type 0} (o : Option X) → (o ≡ None) ⊎ ((x : X) × (o ≡ Some x))
fixed_cases None = inl refl
fixed_cases (Some x) = inr (x, refl)

-- once no row is unfixed, or after as many steps as there are flows, the shares are there
pub levels_at : (n : ℕ) (caps : List ℕ) (rows : List (Option FlowRow)) (uses : List (Option Use)) → n ≤ length (held (flows_of rows uses)) → AreFixed uses rows (steps_from n caps (held (flows_of rows uses)) unfixed) →
    ((key : ℕ) (row : FlowRow) → get_or rows key None ≡ Some row → row.level ≡ None → ⊥) → AreRowLevels caps uses rows
levels_at n caps rows uses few are none = λ key row e.
    elim (fixed_cases row.level) [
      | inl z ↦ absurd (none key row e z)
      | inr s ↦ s.1 ∙ ap (λ w. Some w) (sym (level_fixed n caps (held (flows_of rows uses)) (flow_of uses row) s.0 few (sym (are key row e) ∙ s.1)))
    ]

pub levels_end : (caps : List ℕ) (rows : List (Option FlowRow)) (uses : List (Option Use)) → HaveLimits (held (flows_of rows uses)) → AreFixed uses rows (steps_from (length (held (flows_of rows uses))) caps (held (flows_of rows uses)) unfixed) → AreRowLevels caps uses rows
levels_end caps rows uses h are =
    let flows = held (flows_of rows uses) in
    levels_at (length flows) caps rows uses (omega arith) are
    (λ key row e none. all_fixed (length flows) caps flows unfixed (limited_from caps flows h) (count_by-le-length (λ f. true) flows) (flow_of uses row) (In-flows rows uses key row e) (sym (are key row e) ∙ none))

pub levels_early : (n : ℕ) (caps : List ℕ) (rows : List (Option FlowRow)) (uses : List (Option Use)) (left waiting' : List ℕ) → AreRows caps rows uses → HaveLimits (held (flows_of rows uses)) → n ≤ length (held (flows_of rows uses)) →
    AreFixed uses rows (steps_from n caps (held (flows_of rows uses)) unfixed) → AreCounted caps rows uses left waiting' → IsLeast None (all_limits left waiting' uses rows) → AreRowLevels caps uses rows
levels_early n caps rows uses left waiting' sound h few are counted none =
    let flows = held (flows_of rows uses) in
    let fixed = steps_from n caps flows unfixed in
    levels_at n caps rows uses few are
    (λ key row e z.
    let f = flow_of uses row in
    let i = In-flows rows uses key row e in
    let limit = (limited_from caps flows h f i).1 fixed in
    let in' = In-flat_map (flow_limits caps flows fixed) (filter (λ flow. is_none (fixed flow)) flows) f limit.0 (In-filter (λ flow. is_none (fixed flow)) flows f i (ap is_none (sym (are key row e) ∙ z))) limit.1 in
    subst (λ ys. In limit.0 ys) (all_limits_are caps rows uses left waiting' fixed sound are counted ∙ none) in')

-- ---- the beginning, and the number of flows
-- each row changed by a function that leaves it as it is except for its level and share
mapped_same : (f : FlowRow → FlowRow) → ((row : FlowRow) → without_share (f row) ≡ without_share row) → (old new : List (Option FlowRow)) → ((key : ℕ) → get_or new key None ≡ option_map f (get_or old key None)) → SameRows old new
mapped_same f leaves old new h = λ key. ap (option_map without_share) (h key) ∙ through (get_or old key None)
  where
    through : (o : Option FlowRow) → option_map without_share (option_map f o) ≡ option_map without_share o
    through None = refl
    through (Some row) = ap (λ w. Some w) (leaves row)

pub unfix_same : (old new : List (Option FlowRow)) → ((key : ℕ) → get_or new key None ≡ option_map (with_level None) (get_or old key None)) → SameRows old new
unfix_same old new h = mapped_same (with_level None) (λ row. refl) old new h

pub unfix_fixed : (caps : List ℕ) (flows : List Flow) (uses : List (Option Use)) (old new : List (Option FlowRow)) → ((key : ℕ) → get_or new key None ≡ option_map (with_level None) (get_or old key None)) → AreFixed uses new (steps_from 0 caps flows unfixed)
unfolding steps_from
unfix_fixed caps flows uses old new h = λ key row e. none (get_or old key None) row (sym (h key) ∙ e)
  where
    none : (o : Option FlowRow) (row : FlowRow) → option_map (with_level None) o ≡ Some row → row.level ≡ None
    none None row e = cc e
    none (Some r) row e = ap (λ w. w.level) (sym (some_row (with_level None r) row e))

pub length-held : (rows : List (Option FlowRow)) (uses : List (Option Use)) → length (held (flows_of rows uses)) ≡ count_by is_some rows
length-held [] uses = refl
length-held (None ∷ rows) uses = length-held rows uses ∙ sym (zero_plus (count_by is_some rows) ∙ refl) ∙ sym (sum_by-cons (λ o. cond (is_some o) 1 0) None rows)
  where
    zero_plus : (m : ℕ) → 0 + m ≡ m
    zero_plus m = omega arith
length-held (Some row ∷ rows) uses = ap suc (length-held rows uses) ∙ suc_is (count_by is_some rows) ∙ sym (sum_by-cons (λ o. cond (is_some o) 1 0) (Some row) rows)
  where
    suc_is : (m : ℕ) → suc m ≡ 1 + m
    suc_is m = omega arith

pub same_trans : (a b c : List (Option FlowRow)) → SameRows a b → SameRows b c → SameRows a c
same_trans a b c g h = λ key. h key ∙ g key

-- ---- how many uses
pub count_same : (old new : List (Option FlowRow)) → SameRows old new → length new ≡ length old → count_of new ≡ count_of old
count_same [] [] same len = refl
count_same [] (n ∷ new) same len = absurd (omega (arith, len))
count_same (o ∷ old) [] same len = absurd (omega (arith, len))
count_same (o ∷ old) (n ∷ new) same len = count-cons n new ∙ ap₂ (λ a b. a + b) (sym (through n) ∙ ap row_count (same 0) ∙ through o) (count_same old new (λ key. same (suc key)) (omega (arith, len))) ∙ sym (count-cons o old)
  where
    through : (p : Option FlowRow) → row_count (option_map without_share p) ≡ row_count p
    through None = refl
    through (Some row) = refl

    count-cons : (p : Option FlowRow) (rows : List (Option FlowRow)) → count_of (p ∷ rows) ≡ row_count p + count_of rows
    count-cons None rows = omega arith
    count-cons (Some row) rows = sum_by-cons (λ r. r.count) row (rows_held rows)

pub count_none : (rows : List (Option FlowRow)) → count_by is_some rows ≡ 0 → count_of rows ≡ 0
count_none [] e = refl
count_none (None ∷ rows) e = count_none rows (omega (arith, e, sum_by-cons (λ o. cond (is_some o) 1 0) None rows))
count_none (Some row ∷ rows) e = absurd (omega (arith, e, sum_by-cons (λ o. cond (is_some o) 1 0) (Some row) rows))

-- ---- what a system shows
pub have_limits : (caps : List ℕ) (rows : List (Option FlowRow)) (uses : List (Option Use)) → AreRows caps rows uses → HaveLimits (held (flows_of rows uses))
have_limits caps rows uses are = λ flow among.
    let i = subst (λ fs. In flow fs) (held_flows rows uses) (In-from_contains (held (flows_of rows uses)) flow among) in
    let r = In-map_back (flow_of uses) (rows_held rows) flow i in
    let b = In-rows_back rows r.0 r.1 in
    subst (λ f. HasLimit f) r.2 (are.flows b.0 r.0 b.1).limit

-- a share fits 64 bits
share_fits : (caps : List ℕ) (flows : List Flow) → HaveLimits flows → ((c : ℕ) → get_or caps c 0 < 2 ^ 64) → (f : Flow) → In f flows → IfSome f.bound (λ b. b < 2 ^ 64) → share_of caps flows f < 2 ^ 64
share_fits caps flows limits' fit f i bound = by_uses f.uses refl
  where
    of_bound : (o : Option ℕ) → f.bound ≡ o → IsSome o → IfSome o (λ b. b < 2 ^ 64) → share_of caps flows f < 2 ^ 64
    of_bound None e some h = absurd (cc some)
    of_bound (Some b) e some h = omega (arith, h, share_le_bound f (level_of caps flows f) b e)

    by_uses : (us : List ℕ) → f.uses ≡ us → share_of caps flows f < 2 ^ 64
    by_uses [] e = of_bound f.bound refl ((limits' f (contains_from_In flows f i)).bounds e) bound
    by_uses (c ∷ us) e =
        let on : is_on c f ≡ true = is_on_uses c f (subst (λ w. In c w) (sym e) (inl refl)) in
        let part : Flow → ℕ = λ g. cond (is_on c g) (share_of caps flows g) 0 in
        let here : part f ≡ share_of caps flows f = ap (λ b. cond b (share_of caps flows f) 0) on in
        omega (arith, fit c, (is_fair_lem caps flows limits').within c, le-sum_by part flows f i, here)

-- ---- the shares of the levels
pub put_same : (old new : List (Option FlowRow)) → ((key : ℕ) → get_or new key None ≡ option_map with_share (get_or old key None)) → SameRows old new
put_same old new h = mapped_same with_share (λ row. refl) old new h

pub put_row_shares : (old new : List (Option FlowRow)) → ((key : ℕ) → get_or new key None ≡ option_map with_share (get_or old key None)) → AreRowShares new
put_row_shares old new h = λ key row e. one (get_or old key None) row (sym (h key) ∙ e)
  where
    one : (o : Option FlowRow) (row : FlowRow) → option_map with_share o ≡ Some row → row.share ≡ share_by_level row
    one None row e = cc e
    one (Some r) row e = subst (λ w. w.share ≡ share_by_level w) (some_row (with_share r) row e) refl

pub put_row_levels : (caps : List ℕ) (uses : List (Option Use)) (old new : List (Option FlowRow)) → ((key : ℕ) → get_or new key None ≡ option_map with_share (get_or old key None)) → length new ≡ length old →
    AreRowLevels caps uses old → AreRowLevels caps uses new
unfolding flow_of
put_row_levels caps uses old new h len are = λ key row e.
    subst (λ slots. row.level ≡ Some (level_of caps (held slots) (flow_of uses row))) (sym (same_flows uses old new (put_same old new h) len)) (one key row (get_or old key None) refl (sym (h key) ∙ e))
  where
    one : (key : ℕ) (row : FlowRow) (o : Option FlowRow) → get_or old key None ≡ o → option_map with_share o ≡ Some row → row.level ≡ Some (level_of caps (held (flows_of old uses)) (flow_of uses row))
    one key row None there e = cc e
    one key row (Some r) there e = subst (λ w. w.level ≡ Some (level_of caps (held (flows_of old uses)) (flow_of uses w))) (some_row (with_share r) row e) (are key r there)

pub shares_shown : (caps : List ℕ) (rows : List (Option FlowRow)) (uses : List (Option Use)) → AreRows caps rows uses → ((c : ℕ) → get_or caps c 0 < 2 ^ 64) → AreRowLevels caps uses rows → AreRowShares rows →
    (id : ℕ) (flow : Flow) → flow_at (flows_of rows uses) id ≡ Some flow → get_or (map share_in rows) id 0 ≡ share_of caps (held (flows_of rows uses)) flow
unfolding share_at flow_of
shares_shown caps rows uses sound fit are shares id flow e =
    let shown = sym (flow_at-flows_of rows uses id) ∙ e in
    get_or-map share_in rows id None ∙ at (get_or rows id None) refl shown
  where
    some_flow : {a b : Flow} → Some a ≡ Some b → a ≡ b
    some_flow h = cc

    whole : (a : ℕ) → a < 2 ^ 64 → min a (2 ^ 64 - 1) ≡ a
    whole a h = omega arith

    at : (o : Option FlowRow) → get_or rows id None ≡ o → option_map (flow_of uses) (get_or rows id None) ≡ Some flow → share_in o ≡ share_of caps (held (flows_of rows uses)) flow
    at None there h = cc (sym (ap (option_map (flow_of uses)) there) ∙ h)
    at (Some row) there h =
        let flows = held (flows_of rows uses) in
        let f = flow_of uses row in
        let l = level_of caps flows f in
        shares id row there
        ∙ ap (λ o. min (bounded row.bound (row.weight * unwrap_or o 0)) (2 ^ 64 - 1)) (are id row there)
        ∙ whole (share_of caps flows f) (share_fits caps flows (have_limits caps rows uses sound) fit f (In-flows rows uses id row there) (sound.bounds_fit id row there))
        ∙ ap (λ g. share_of caps flows g) (some_flow (sym (ap (option_map (flow_of uses)) there) ∙ h))

length_flow : (uses : List (Option Use)) (row : FlowRow) (id : ℕ) → IsChain id row.count uses row.first → length (flow_of uses row).uses ≡ row.count
unfolding flow_of
length_flow uses row id c = length-resources id row.count uses row.first c

pub count_is : (caps : List ℕ) (rows : List (Option FlowRow)) (uses : List (Option Use)) → AreRows caps rows uses → sum_by (λ flow. length flow.uses) (held (flows_of rows uses)) ≡ count_of rows
count_is caps rows uses are =
    ap (λ fs. sum_by (λ flow. length flow.uses) fs) (held_flows rows uses)
    ∙ sum_by-map (λ flow. length flow.uses) (flow_of uses) (rows_held rows)
    ∙ sum_by_same (λ row. length (flow_of uses row).uses) (λ row. row.count) (rows_held rows) (λ row i. let b = In-rows_back rows row i in length_flow uses row b.0 (are.chains b.0 row b.1))

pub len_same : (old new : List (Option FlowRow)) → SameRows old new → length new ≡ length old → count_by is_some new ≡ count_by is_some old
len_same old new same len = sym (length-held new []) ∙ ap (λ fs. length (held fs)) (same_flows [] old new same len) ∙ length-held old []

pub sharing_same : (a b : List ℕ) (s t : List (Option Flow)) (xs ys : List ℕ) (us vs : List (Option Use)) (js ks : List (List ℕ)) (m n p q : ℕ) → a ≡ b → s ≡ t → xs ≡ ys → us ≡ vs → js ≡ ks → m ≡ n → p ≡ q →
    ◌≡◌ {A = Sharing} (record { capacities = a; slots = s; shares = xs; uses = us; users = js; flow_room = m; use_room = p }) (record { capacities = b; slots = t; shares = ys; uses = vs; users = ks; flow_room = n; use_room = q })
sharing_same a b s t xs ys us vs js ks m n p q e f x u w g h = rw (e, f, x, u, w, g, h) refl
