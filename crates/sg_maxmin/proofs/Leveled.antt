-- The max-min solve by its result: a flow's share is the first number at which something limits it, with the flows of smaller shares fixed.
use Rattle.std.proofs.Common.{◌≡◌, ℕ, zero, suc, ◌+◌, ◌<◌, ◌≤◌, ◌⊎◌, inl, inr, Bool, true, false, cond, ltb, lt-ltb, le-ltb, true≢false, Option, None, Some, is_none, List, [], ◌∷◌, length, count_by, refl, sym, ap, subst, ◌∙◌, arith, if◌then◌else◌}
use Rattle.std.specs.Option.{unwrap_or}
use Rattle.std.proofs.Math.Path.{fun_ext}
use Rattle.std.proofs.lemmas.List.Sums.{sum_by-cons, count_by-le-length}
use Rattle.sg_maxmin.specs.Fill.{Flow, level_of}
use Rattle.sg_maxmin.specs.Fixing.{Fixed, flow_limits, lowest_limit, step, steps_from, unfixed}
use Rattle.sg_maxmin.proofs.Members.{In}
use Rattle.sg_maxmin.proofs.Sums.{sum_by_le, sum_by_lt, le-sum_by}
use Rattle.sg_maxmin.proofs.OneStep.{limits_same, lowest_le, lowest_in, Stepped, was, gets, waits, step_cases, step_at, stays_fixed}
use Rattle.sg_maxmin.proofs.Rises.{limits_rise}
use Rattle.sg_maxmin.proofs.Staged.{level_is_fixed_lem}

-- the flows of a share below t, fixed
unfoldable pub below : ℕ → (Flow → ℕ) → Fixed
below t share flow = if ltb (share flow) t then Some (share flow) else None

pub record IsLeveled (caps : List ℕ) (flows : List Flow) (share : Flow → ℕ) : Type 0 where
  -- a flow's share is what holds it back, with the smaller shares fixed
  pub met : (f : Flow) → In f flows → In (share f) (flow_limits caps flows (below (share f) share) f)
  -- and before it nothing did
  pub above : (f : Flow) → In f flows → (t : ℕ) → t < share f → (l : ℕ) → In l (flow_limits caps flows (below t share) f) → t < l

pub below_yes : (t : ℕ) (share : Flow → ℕ) (f : Flow) → share f < t → below t share f ≡ Some (share f)
unfolding below
below_yes t share f h = rw (lt-ltb (share f) t h) refl

pub below_no : (t : ℕ) (share : Flow → ℕ) (f : Flow) → t ≤ share f → below t share f ≡ None
unfolding below
below_no t share f h = rw (le-ltb (share f) t h) refl

-- each flow has something that holds it back
abbrev pub Limited : List ℕ → List Flow → Type 0
Limited caps flows = (f : Flow) → In f flows → (0 < f.weight) × ((a : Fixed) → (l : ℕ) × In l (flow_limits caps flows a f))

-- ---- all are fixed in the end
abbrev pub left : List Flow → Fixed → ℕ
left flows a = count_by (λ f. is_none (a f)) flows

count_some : {X : Type 0} (p : X → Bool) (xs : List X) → 0 < count_by p xs → (x : X) × In x xs × (p x ≡ true)
count_some p [] h = absurd (omega (arith, h))
count_some {X} p (y ∷ xs) h =
    (elim (p y) as (λ b. p y ≡ b → (x : X) × In x (y ∷ xs) × (p x ≡ true)) [
      | true ↦ λ e. (y, inl refl, e)
      | false ↦ λ e.
          let one : X → ℕ = λ x. cond (p x) 1 0 in
          let none : one y ≡ 0 = rw e refl in
          let more : 0 < count_by p xs = omega (arith, h, sum_by-cons one y xs, none) in
          let r = count_some p xs more in (r.0, inr r.1, r.2)
    ]) refl

none_from_test : {X : Type 0} (o : Option X) → is_none o ≡ true → o ≡ None
none_from_test None e = refl
none_from_test (Some x) e = absurd (true≢false (sym e))

test_le : (low : ℕ) (before after : Option ℕ) (at : Type 0) → Stepped low before after at → cond (is_none after) 1 0 ≤ cond (is_none before) 1 0
test_le low before after at (was x e k) = rw (e, k) (omega arith)
test_le low before after at (gets e k i) = rw (e, k) (omega arith)
test_le low before after at (waits e k n) = rw (e, k) (omega arith)

left_le : (caps : List ℕ) (flows : List Flow) (a : Fixed) → left flows (step caps flows a) ≤ left flows a
left_le caps flows a =
    sum_by_le (λ f. cond (is_none (step caps flows a f)) 1 0) (λ f. cond (is_none (a f)) 1 0) flows
    (λ f i. test_le (lowest_limit caps flows a) (a f) (step caps flows a f) (In (lowest_limit caps flows a) (flow_limits caps flows a f)) (step_cases caps flows a f))

left_falls : (caps : List ℕ) (flows : List Flow) (a : Fixed) → Limited caps flows → 0 < left flows a → left flows (step caps flows a) < left flows a
left_falls caps flows a limited pos =
    let some = count_some (λ f. is_none (a f)) flows pos in
    let none = none_from_test (a some.0) some.2 in
    let limit = (limited some.0 some.1).1 a in
    let r = lowest_in caps flows a some.0 limit.0 some.1 none limit.1 in
    sum_by_lt (λ f. cond (is_none (step caps flows a f)) 1 0) (λ f. cond (is_none (a f)) 1 0) flows r.0 r.1 (rw (step_at caps flows a r.0 r.2 r.3, r.2) (omega arith))
    (λ f i. test_le (lowest_limit caps flows a) (a f) (step caps flows a f) (In (lowest_limit caps flows a) (flow_limits caps flows a f)) (step_cases caps flows a f))

-- after as many steps as there are unfixed flows no flow is unfixed
pub all_fixed : (n : ℕ) (caps : List ℕ) (flows : List Flow) (a : Fixed) → Limited caps flows → left flows a ≤ n → (f : Flow) → In f flows → steps_from n caps flows a f ≡ None → ⊥
unfolding steps_from
all_fixed zero caps flows a limited few f i e =
    let one : ◌≡◌ {A = ℕ} (cond (is_none (a f)) 1 0) 1 = rw e refl in
    omega (arith, few, one, le-sum_by (λ g. cond (is_none (a g)) 1 0) flows f i)
all_fixed (suc n) caps flows a limited few f i e =
    let next : left flows (step caps flows a) ≤ n = elim (zero_or (left flows a)) [ inl z ↦ omega (arith, z, left_le caps flows a) | inr pos ↦ omega (arith, few, left_falls caps flows a limited pos) ] in
    all_fixed n caps flows (step caps flows a) limited next f i e
  where
    zero_or : (m : ℕ) → (m ≡ 0) ⊎ (0 < m)
    zero_or m = grind arith

-- ---- the main induction
abbrev pub result_of : ℕ → List ℕ → List Flow → Fixed → Flow → ℕ
result_of n caps flows a f = unwrap_or (steps_from n caps flows a f) 0

-- what holds of a flow that isn't fixed yet, if all that holds one back is at low or above
pub record IsHeld (caps : List ℕ) (flows : List Flow) (share : Flow → ℕ) (low : ℕ) (f : Flow) : Type 0 where
  pub least : low ≤ share f
  pub met : In (share f) (flow_limits caps flows (below (share f) share) f)
  pub above : (t : ℕ) → low ≤ t → t < share f → (l : ℕ) → In l (flow_limits caps flows (below t share) f) → t < l

le_cases : (a b : ℕ) → (a ≤ b) ⊎ (b < a)
le_cases a b = grind arith

some_same : {x y : ℕ} → Some x ≡ Some y → x ≡ y
some_same e = cc

pub held_from : (n : ℕ) (caps : List ℕ) (flows : List Flow) (a : Fixed) (low : ℕ) →
    ((f : Flow) → In f flows → (x : ℕ) → a f ≡ Some x → x < low) →
    ((f : Flow) → In f flows → a f ≡ None → (l : ℕ) → In l (flow_limits caps flows a f) → low ≤ l) →
    ((f : Flow) → In f flows → steps_from n caps flows a f ≡ None → ⊥) → Limited caps flows →
    (f : Flow) → In f flows → a f ≡ None → IsHeld caps flows (result_of n caps flows a) low f
unfolding steps_from
held_from zero caps flows a low small high all limited f i e = absurd (all f i e)
held_from (suc n) caps flows a low small high all limited f i e =
    let b = step caps flows a in
    let lowest' = lowest_limit caps flows a in
    let share = result_of n caps flows b in
    let limit = (limited f i).1 a in
    let first = lowest_in caps flows a f limit.0 i e limit.1 in
    let low_le : low ≤ lowest' = high first.0 first.1 first.2 lowest' first.3 in
    let small' = λ (g : Flow) (j : In g flows) (x : ℕ) (k : b g ≡ Some x).
    let goal : x < lowest' + 1 =
    elim (step_cases caps flows a g) [
      | was y p q ↦ omega (arith, low_le, small g j y p, some_same (sym k ∙ q))
      | gets p q at ↦ omega (arith, some_same (sym k ∙ q))
      | waits p q away ↦ cc (sym k ∙ q)
    ] in goal in
    let high' = λ (g : Flow) (j : In g flows) (k : b g ≡ None) (l : ℕ) (m : In l (flow_limits caps flows b g)).
    let goal : lowest' + 1 ≤ l = omega (arith, limits_rise caps flows a g l j (limited g j).0 k m) in goal in
    let later = λ (g : Flow) (j : In g flows) (k : b g ≡ None). held_from n caps flows b (lowest' + 1) small' high' all limited g j k in
    let same = λ (t : ℕ) (at_least : low ≤ t) (at_most : t ≤ lowest') (g : Flow) (j : In g flows).
    let goal : below t share g ≡ a g =
    elim (step_cases caps flows a g) [
      | was y p q ↦
          let is : share g ≡ y = ap (λ o. unwrap_or o 0) (stays_fixed n caps flows b g y q) in
          below_yes t share g (omega (arith, is, small g j y p, at_least)) ∙ ap (λ w. Some w) is ∙ sym p
      | gets p q at ↦
          let is : share g ≡ lowest' = ap (λ o. unwrap_or o 0) (stays_fixed n caps flows b g lowest' q) in
          below_no t share g (omega (arith, is, at_most)) ∙ sym p
      | waits p q away ↦ below_no t share g (omega (arith, (later g j q).least, at_most)) ∙ sym p
    ] in goal in
    let seen = λ (t : ℕ) (at_least : low ≤ t) (at_most : t ≤ lowest') (l : ℕ) (m : In l (flow_limits caps flows (below t share) f)).
    let goal : In l (flow_limits caps flows a f) = limits_same caps flows (below t share) a f l (same t at_least at_most) m in goal in
    elim (step_cases caps flows a f) [
      | was y p q ↦ cc (sym e ∙ p)
      | gets p q at ↦
          let is : share f ≡ lowest' = ap (λ o. unwrap_or o 0) (stays_fixed n caps flows b f lowest' q) in
          let here = limits_same caps flows a (below lowest' share) f lowest' (λ g j. sym (same lowest' low_le (omega arith) g j)) at in
          record {
            least = omega (arith, is, low_le);
            met = subst (λ w. In w (flow_limits caps flows (below w share) f)) (sym is) here;
            above = λ t at_least under l m.
                let at_most : t ≤ lowest' = omega (arith, is, under) in
                let in' = seen t at_least at_most l m in
                let le : lowest' ≤ l = lowest_le caps flows a f l i e in' in
                omega (arith, is, under, le);
          }
      | waits p q away ↦
          let rest = later f i q in
          record {
            least = omega (arith, low_le, rest.least);
            met = rest.met;
            above = λ t at_least under l m.
                elim (le_cases t lowest') [
                  | inl at_most ↦
                      let in' = seen t at_least at_most l m in
                      let le : lowest' ≤ l = lowest_le caps flows a f l i e in' in
                      let ne : (lowest' ≡ l) → ⊥ = λ z. away (subst (λ w. In w (flow_limits caps flows a f)) (sym z) in') in
                      omega (arith, at_most, le, ne)
                  | inr over ↦ rest.above t (omega (arith, over)) under l m
                ];
          }
    ]

pub share_of_held : (caps : List ℕ) (flows : List Flow) → Limited caps flows → (f : Flow) → In f flows → IsHeld caps flows (level_of caps flows) 0 f
share_of_held caps flows limited f i =
    subst (λ q. IsHeld caps flows q 0 f) (sym (fun_ext (level_is_fixed_lem caps flows)))
    (held_from (length flows) caps flows unfixed 0 (λ g j x e. cc e) (λ g j e l m. omega arith)
    (all_fixed (length flows) caps flows unfixed limited (count_by-le-length (λ g. true) flows)) limited f i refl)

pub share_of_leveled : (caps : List ℕ) (flows : List Flow) → Limited caps flows → IsLeveled caps flows (level_of caps flows)
share_of_leveled caps flows limited = record {
  met = λ f i. (share_of_held caps flows limited f i).met;
  above = λ f i t under l m. (share_of_held caps flows limited f i).above t (omega arith) under l m;
}
