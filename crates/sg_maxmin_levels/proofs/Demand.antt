-- The demand on a resource: what it says of the hold, and how it changes with a flow's part.
use Rattle.std.proofs.Common.{◌≡◌, ◌≢◌, ℕ, ◌+◌, ◌-◌, ◌*◌, ◌^◌, ◌<◌, ◌≤◌, ◌⊎◌, inl, inr, Bool, true, false, cond, eqb, eq-eqb, ne_eqb, min, is_none, Option, None, Some, IsSome, List, [], ◌∷◌, length, set, get_or-set_same, get_or-set_other, sum_by, slice_index, lit<, refl, sym, ap, subst, ◌∙◌, arith, mul-le-mul_right}
use Rattle.std.specs.List.{list_any}
use Rattle.std.proofs.lemmas.List.Sums.{sum_by-cons}
use Rattle.sg_maxmin.specs.Chained.{times, users_on}
use Rattle.sg_maxmin.specs.Fill.{Flow, share_at}
use Rattle.sg_maxmin.specs.Fixing.{share_of_fixed}
use Rattle.sg_maxmin.specs.Sharing.{Sharing, IsSound, flow_at, uses_at}
use Rattle.sg_maxmin.proofs.Sums.{sum_by_same}
use Rattle.sg_maxmin.specs.Numbered.{flow_in, level_at, row_taken, row_waiting, weight_at}
use Rattle.sg_maxmin_levels.specs.Demand.{DemandHoldsNone, demand_of, row_demand}
use Rattle.sg_maxmin.proofs.Listed.{eq_cases, times-cons, times-once}
use Rattle.sg_maxmin.proofs.Users.{in_is, on_below, on_held, rows_once, weighs}
use Rattle.sg_maxmin.proofs.OnRow.{row_le, sum_weighed}
use Rattle.sg_maxmin_levels.proofs.Changing.{slack_holds_none_lem}

-- ---- a demand that fits 64 bits is the shares and twice the weights
small : (a m w : ℕ) → 0 < w → min a m + 2 * w < m + 1 → a + 2 * w ≡ min a m + 2 * w
small a m w pos h = omega (arith, pos, h)

part_is : (f : Flow) (o : Option ℕ) → 0 < f.weight → demand_of f o < 2 ^ 64 → (share_of_fixed f o + 2 * f.weight ≡ demand_of f o) × (cond (is_none o) f.weight 0 ≡ 0)
part_is f None pos h = absurd (omega (arith, h))
part_is f (Some l) pos h = (small (share_at f l) (2 ^ 64 - 1) f.weight pos (omega (arith, h)), refl)

demand_is : (slots : List (Option Flow)) (levels : List (Option ℕ)) (row : List ℕ) → ((id : ℕ) → 0 < weight_at slots id) → row_demand slots levels row < 2 ^ 64 →
    (row_taken slots (level_at levels) row + 2 * sum_by (weight_at slots) row ≡ row_demand slots levels row) × (row_waiting slots (level_at levels) row ≡ 0)
unfolding row_taken row_waiting row_demand
demand_is slots levels [] pos h = (refl, refl)
demand_is slots levels (x ∷ row) pos h =
    let d : ℕ → ℕ = λ id. demand_of (flow_in slots id) (level_at levels id) in
    let t : ℕ → ℕ = λ id. share_of_fixed (flow_in slots id) (level_at levels id) in
    let w : ℕ → ℕ = λ id. cond (is_none (level_at levels id)) (weight_at slots id) 0 in
    let whole = sum_by-cons d x row in
    let here = part_is (flow_in slots x) (level_at levels x) (pos x) (omega (arith, h, whole)) in
    let rest = demand_is slots levels row pos (omega (arith, h, whole)) in (
      omega (arith, whole, sum_by-cons t x row, sum_by-cons (weight_at slots) x row, here.0, rest.0),
      omega (arith, sum_by-cons w x row, here.1, rest.1),
    )

pub demand_holds_none_lem : DemandHoldsNone
demand_holds_none_lem s levels c sound within fits less =
    let is = demand_is s.slots levels (users_on s.users c) (λ id. (weighs s sound id).0) (omega (arith, fits, less)) in
    slack_holds_none_lem s levels c sound within is.1 (omega (arith, is.0, less))

-- ---- it fits 128 bits
pub part_le : (f : Flow) (o : Option ℕ) → f.weight < 2 ^ 32 → demand_of f o ≤ 2 ^ 65
part_le f None light = lit≤
  where
    lit≤ : 2 ^ 64 ≤ 2 ^ 65
    lit≤ = omega arith
part_le f (Some l) light = bounded (share_at f l) f.weight light
  where
    bounded : (a w : ℕ) → w < 2 ^ 32 → min a (2 ^ 64 - 1) + 2 * w ≤ 2 ^ 65
    bounded a w h = omega (arith, h)

few : (n d : ℕ) → d ≤ n * 2 ^ 65 → n ≤ 2 ^ 32 → d < 2 ^ 127
few n d h m =
    let top : n * 2 ^ 65 ≤ 2 ^ 32 * 2 ^ 65 = mul-le-mul_right (2 ^ 65) m in
    let big : 2 ^ 32 * 2 ^ 65 < 2 ^ 127 = lit< tt in
    omega (arith, h, top, big)

-- also with one more part at each of a flow's resources
pub parts_fit : (s : Sharing) → IsSound s → (parts : List ℕ) → ((id : ℕ) → slice_index parts id ≤ 2 ^ 65) → (id part : ℕ) → part ≤ 2 ^ 65 → (c : ℕ) → sum_by (slice_index parts) (users_on s.users c) + times c (uses_at s.slots id) * part < 2 ^ 128
parts_fit s sound parts fit id part le c =
    let once : times c (uses_at s.slots id) * part ≤ 2 ^ 65 = subst (λ n. n * part ≤ 2 ^ 65) (sym (times-once (uses_at s.slots id) c (rows_once s sound id))) (cond_le (list_any (λ d. eqb d c) (uses_at s.slots id)) part le) in
    let big : 2 ^ 127 + 2 ^ 65 < 2 ^ 128 = lit< tt in
    omega (arith, few (length s.slots) (sum_by (slice_index parts) (users_on s.users c)) (row_le s sound c (slice_index parts) (2 ^ 65) fit) sound.few, once, big)
  where
    cond_le : (b : Bool) (x : ℕ) → x ≤ 2 ^ 65 → cond b 1 0 * x ≤ 2 ^ 65
    cond_le true x h = omega (arith, h)
    cond_le false x h = omega (arith, h)

-- ---- one flow's part changes
more_times : (n m : ℕ) → (n + 1) * m ≡ n * m + m
more_times n m = grind arith

sum_moves : (f g : ℕ → ℕ) (id : ℕ) (row : List ℕ) → ((other : ℕ) → other ≢ id → g other ≡ f other) → sum_by g row + times id row * f id ≡ sum_by f row + times id row * g id
sum_moves f g id [] same =
    let none : times id [] ≡ 0 = refl in
    let no_f : sum_by f [] ≡ 0 = refl in
    let no_g : sum_by g [] ≡ 0 = refl in
    omega (arith, no_f, no_g, ap (λ n. n * f id) none, ap (λ n. n * g id) none)
sum_moves f g id (x ∷ row) same =
    let rest = sum_moves f g id row same in
    let n = times id row in
    elim (eq_cases x id) [
      | inl e ↦
          let count : times id (x ∷ row) ≡ n + 1 = omega (arith, times-cons id x row, ap {B = ℕ} (λ b. cond b 1 0) (eq-eqb x id e)) in
          omega (arith, rest, sum_by-cons g x row, sum_by-cons f x row, ap g e, ap f e, ap (λ m. m * f id) count, ap (λ m. m * g id) count, more_times n (f id), more_times n (g id))
      | inr ne ↦
          let count : times id (x ∷ row) ≡ n = omega (arith, times-cons id x row, ap {B = ℕ} (λ b. cond b 1 0) (ne_eqb x id ne)) in
          omega (arith, rest, sum_by-cons g x row, sum_by-cons f x row, same x ne, ap (λ m. m * f id) count, ap (λ m. m * g id) count)
    ]

sum_has : (f : ℕ → ℕ) (id : ℕ) (row : List ℕ) → times id row * f id ≤ sum_by f row
sum_has f id [] = omega arith
sum_has f id (x ∷ row) =
    let rest = sum_has f id row in
    let n = times id row in
    elim (eq_cases x id) [
      | inl e ↦
          let count : times id (x ∷ row) ≡ n + 1 = omega (arith, times-cons id x row, ap {B = ℕ} (λ b. cond b 1 0) (eq-eqb x id e)) in
          omega (arith, rest, sum_by-cons f x row, ap f e, ap (λ m. m * f id) count, more_times n (f id))
      | inr ne ↦
          let count : times id (x ∷ row) ≡ n = omega (arith, times-cons id x row, ap {B = ℕ} (λ b. cond b 1 0) (ne_eqb x id ne)) in
          omega (arith, rest, sum_by-cons f x row, ap (λ m. m * f id) count)
    ]

-- the part of a flow is in the demand on each of its resources
pub part_in : (s : Sharing) → IsSound s → (parts : List ℕ) (id c : ℕ) → times c (uses_at s.slots id) * slice_index parts id ≤ sum_by (slice_index parts) (users_on s.users c)
part_in s sound parts id c = omega (arith, sum_has (slice_index parts) id (users_on s.users c), ap (λ n. n * slice_index parts id) (sound.both id c))

-- the demand on each resource, as the flow has another part
pub parts_move : (s : Sharing) → IsSound s → (parts : List ℕ) (id part : ℕ) → id < length parts → (c : ℕ) →
    let n = times c (uses_at s.slots id) in
    sum_by (slice_index (set parts id part)) (users_on s.users c) + n * slice_index parts id ≡ sum_by (slice_index parts) (users_on s.users c) + n * part
parts_move s sound parts id part below c =
    let f : ℕ → ℕ = slice_index parts in
    let g : ℕ → ℕ = slice_index (set parts id part) in
    let moves = sum_moves f g id (users_on s.users c) (λ other ne. get_or-set_other parts id other part 0 ne) in
    omega (arith, moves, ap (λ n. n * f id) (sound.both id c), ap (λ n. n * g id) (sound.both id c), ap (λ x. times c (uses_at s.slots id) * x) (get_or-set_same parts id part 0 below))

-- if each flow's part is what it asks for
pub parts_demand : (s : Sharing) → IsSound s → (parts : List ℕ) (levels : List (Option ℕ)) → ((id : ℕ) → IsSome (flow_at s.slots id) → slice_index parts id ≡ demand_of (flow_in s.slots id) (level_at levels id)) → (c : ℕ) →
    sum_by (slice_index parts) (users_on s.users c) ≡ row_demand s.slots levels (users_on s.users c)
unfolding row_demand
parts_demand s sound parts levels are c =
    sum_by_same (slice_index parts) (λ id. demand_of (flow_in s.slots id) (level_at levels id)) (users_on s.users c) (λ id i. are id (let f = on_held s sound c id (in_is id (users_on s.users c) i) in subst IsSome (sym f.1) refl))

-- another system: a flow with a part uses what it used
pub rows_same : (s t : Sharing) → IsSound s → IsSound t → (parts : List ℕ) → ((id : ℕ) → (uses_at t.slots id ≡ uses_at s.slots id) ⊎ (slice_index parts id ≡ 0)) → (c : ℕ) → sum_by (slice_index parts) (users_on t.users c) ≡ sum_by (slice_index parts) (users_on s.users c)
rows_same s t sound sound' parts same c =
    let n = length s.slots + length t.slots in
    sum_weighed n (slice_index parts) (users_on s.users c) (users_on t.users c) (λ i h. omega (arith, on_below s sound c i h)) (λ i h. omega (arith, on_below t sound' c i h)) (λ id. elim (same id) [
      | inl e ↦ ap (λ n. n * slice_index parts id) (sound'.both id c ∙ ap (times c) e ∙ sym (sound.both id c))
      | inr z ↦ ap (λ p. times id (users_on t.users c) * p) z ∙ sym (ap (λ p. times id (users_on s.users c) * p) z ∙ nothing (times id (users_on s.users c)) (times id (users_on t.users c)))
    ])
  where
    nothing : (a b : ℕ) → a * 0 ≡ b * 0
    nothing a b = omega arith
