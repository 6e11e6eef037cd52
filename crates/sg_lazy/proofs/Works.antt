-- The work of a rate update, whatever the order of the flows.
use Rattle.std.proofs.Common.{◌≡◌, ℕ, zero, suc, ◌+◌, ◌-◌, ◌*◌, ◌≤◌, mul-le-mul_left, mul-le-mul_right, subst, Bool, cond, ◌&&◌, ◌||◌, List, [], ◌∷◌, map, length, sum_by, eqb, refl, sym, ap, ap₂, ◌∙◌, arith}
use Rattle.std.specs.List.{list_any}
use Rattle.std.specs.List.Sorted.{IsPermutation}
use Rattle.std.proofs.lemmas.List.Sums.{sum_by-cons}
use Rattle.std.proofs.lemmas.List.Sorted.{IsPermutation-map, list_any-IsPermutation, sum_by-IsPermutation, length_permutation}
use Rattle.sg_maxmin.specs.Fill.{Flow, is_on}
use Rattle.sg_lazy.specs.Touch.{touches, reach, spread}
use Rattle.sg_lazy.specs.RunningFlow.{RunningFlow}
use Rattle.sg_lazy.specs.Work.{is_marked, is_joined, touched_count, touched_uses, work}
use Rattle.sg_lazy.specs.Laws.{NamesDontMatter}
use Rattle.sg_lazy.specs.kept.Counts.{WorkSuffices}
use Rattle.sg_lazy.specs.kept.Solving.{solve_looks}

any_same : {X : Type 0} (p q : X → Bool) (xs : List X) → ((x : X) → p x ≡ q x) → list_any p xs ≡ list_any q xs
any_same p q [] e = refl
any_same p q (x ∷ xs) e = ap (λ b. b || list_any p xs) (e x) ∙ ap (λ b. q x || b) (any_same p q xs e)

sum_same : {X : Type 0} (f h : X → ℕ) (xs : List X) → ((x : X) → f x ≡ h x) → sum_by f xs ≡ sum_by h xs
sum_same f h [] e = refl
sum_same f h (x ∷ xs) e = omega (arith, sum_by-cons f x xs, sum_by-cons h x xs, e x, sum_same f h xs e)

reach_same : (n : ℕ) (flows flows' : List Flow) (first first' : ℕ → Bool) → IsPermutation flows flows' → ((c : ℕ) → first c ≡ first' c) → (c : ℕ) → reach n flows first c ≡ reach n flows' first' c
unfolding reach spread
reach_same zero flows flows' first first' p e c = e c
reach_same (suc n) flows flows' first first' p e c =
    let rest = reach_same n flows flows' first first' p e in
    ap (λ b. b || list_any (λ f. is_on c f && touches (reach n flows first) f) flows) (rest c)
    ∙ ap (λ b. reach n flows' first' c || b)
    (list_any-IsPermutation (λ f. is_on c f && touches (reach n flows first) f) flows flows' p
    ∙ any_same (λ f. is_on c f && touches (reach n flows first) f) (λ f. is_on c f && touches (reach n flows' first') f) flows' (λ f. ap (λ b. is_on c f && b) (any_same (reach n flows first) (reach n flows' first') f.uses rest)))

marked_same : (running running' : List RunningFlow) (ended ended' : List Flow) (resources resources' : List ℕ) → IsPermutation running running' → IsPermutation ended ended' → IsPermutation resources resources' → (c : ℕ) → is_marked running ended resources c ≡ is_marked running' ended' resources' c
marked_same running running' ended ended' resources resources' p q w c =
    ap₂ (λ a b. a || b) (list_any-IsPermutation (λ r. r.marked && is_on c r.flow) running running' p)
    (ap₂ (λ a b. a || b) (list_any-IsPermutation (is_on c) ended ended' q) (list_any-IsPermutation (λ n. eqb n c) resources resources' w))

joined_same : (running running' : List RunningFlow) (ended ended' : List Flow) (resources resources' : List ℕ) → IsPermutation running running' → IsPermutation ended ended' → IsPermutation resources resources' → (r : RunningFlow) → is_joined running ended resources r ≡ is_joined running' ended' resources' r
unfolding is_joined
joined_same running running' ended ended' resources resources' p q w r =
    let flows = map (λ (s : RunningFlow). s.flow) running in
    let flows' = map (λ (s : RunningFlow). s.flow) running' in
    ap (λ b. r.marked || b) (
    any_same (reach (length running) flows (is_marked running ended resources)) (reach (length running) flows' (is_marked running' ended' resources')) r.flow.uses (reach_same (length running) flows flows' (is_marked running ended resources) (is_marked running' ended' resources') (IsPermutation-map (λ s. s.flow) running running' p) (marked_same running running' ended ended' resources resources' p q w))
    ∙ ap (λ n. touches (reach n flows' (is_marked running' ended' resources')) r.flow) (sym (length_permutation running running' p))
    )

pub names_lem : NamesDontMatter
unfolding work
names_lem running running' ended ended' resources resources' p q w =
    let m = sum_same (λ r. cond (is_joined running ended resources r) 1 0) (λ r. cond (is_joined running' ended' resources' r) 1 0) running (λ r. ap {B = ℕ} (λ b. cond b 1 0) (joined_same running running' ended ended' resources resources' p q w r))
    ∙ sym (sum_by-IsPermutation (λ r. cond (is_joined running' ended' resources' r) 1 0) running running' p) in
    let u = sum_same (λ r. cond (is_joined running ended resources r) (length r.flow.uses) 0) (λ r. cond (is_joined running' ended' resources' r) (length r.flow.uses) 0) running (λ r. ap (λ b. cond b (length r.flow.uses) 0) (joined_same running running' ended ended' resources resources' p q w r))
    ∙ sym (sum_by-IsPermutation (λ r. cond (is_joined running' ended' resources' r) (length r.flow.uses) 0) running running' p) in
    let e = sym (length_permutation ended ended' q) in
    let v = sym (sum_by-IsPermutation (λ (flow : Flow). length flow.uses) ended ended' q) in
    let count : touched_count running ended resources ≡ touched_count running' ended' resources' = ap (λ n. n + sum_by (λ r. cond (is_joined running ended resources r) 1 0) running) e ∙ ap (λ n. length ended' + n) m in
    let uses : touched_uses running ended resources ≡ touched_uses running' ended' resources' = ap (λ n. n + sum_by (λ r. cond (is_joined running ended resources r) (length r.flow.uses) 0) running) v ∙ ap (λ n. sum_by (λ flow. length flow.uses) ended' + n) u in
    ap (λ n. 4 * (n + 1) * (n + touched_uses running ended resources)) count ∙ ap (λ n. 4 * (touched_count running' ended' resources' + 1) * (touched_count running' ended' resources' + n)) uses

pub suffices_lem : WorkSuffices
suffices_lem m zero u e none = subst (λ n. e + solve_looks m 0 n ≤ 4 * (m + 0 + 1) * (m + 0 + (e + n))) (sym (none refl)) (omega arith)
suffices_lem m (suc k) u e none =
    let less : suc k + 4 * m - 1 ≡ k + 4 * m = omega arith in
    rw less (omega arith)

pub more_looks : (m k k' u u' : ℕ) → k ≤ k' → u ≤ u' → solve_looks m k u ≤ solve_looks m k' u'
more_looks m k k' u u' h l =
    let one : k + m ≤ k' + m = omega (arith, h) in
    let two : k + m + 1 ≤ k' + m + 1 = omega (arith, h) in
    let three : k + 4 * m - 1 ≤ k' + 4 * m - 1 = omega (arith, h) in
    let a = mul-le-mul_right (k + m + 1) one in
    let b = mul-le-mul_left (k' + m) two in
    let c = mul-le-mul_right u three in
    let d = mul-le-mul_left (k' + 4 * m - 1) l in
    let e = mul-le-mul_right u h in
    let f = mul-le-mul_left k' l in
    omega (arith, a, b, c, d, e, f, l)
