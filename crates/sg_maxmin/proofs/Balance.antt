-- Balanced levels are the max-min levels.
use Rattle.std.proofs.Common.{◌≡◌, ℕ, zero, suc, ◌+◌, ◌-◌, ◌*◌, ◌/◌, ◌<◌, ◌≤◌, ◌⊎◌, inl, inr, Bool, true, false, cond, ◌&&◌, ◌==◌, lt-ltb, le-ltb, true≢false, eqb-true, Option, Some, None, is_none, List, [], ◌∷◌, slice_index, refl, sym, ap, ap₂, subst, ◌∙◌, arith, mul-add, le-div_iff_mul-le, div-mul-le_self, mul-le-mul_left, mul_comm}
use Rattle.sg_maxmin.specs.Fill.{Flow, is_on, level_of, bound_level}
use Rattle.sg_maxmin.specs.Fixing.{Fixed, taken, waiting, resource_level, flow_limits, share_of_fixed}
use Rattle.sg_maxmin.proofs.Members.{In, In-from_contains, contains_from_In, list_any_back}
use Rattle.sg_maxmin.proofs.Sums.{sum_by_same, sum_by_le, sum_by-add, sum_by-mul}
use Rattle.sg_maxmin.proofs.OneStep.{limit_cases, limit_bound, limit_level, is_at_back, is_at_in}
use Rattle.sg_maxmin.proofs.Rises.{is_on_uses, has, is_waiting, share_at-le, waiting_pos}
use Rattle.sg_maxmin.proofs.Leveled.{below as below_share, IsLeveled, share_of_leveled}
use Rattle.sg_maxmin.proofs.Same.{leveled_same}
use Rattle.sg_maxmin.proofs.Proved.{limited_from}
use Rattle.sg_maxmin.specs.Balanced.{BalanceIsFilling, FillingBalances, IsBalanced, below}

pub same_below : (levels : Flow → ℕ) (t : ℕ) → below_share t levels ≡ below levels t
unfolding below_share below
same_below levels t = refl

pub below_yes : (levels : Flow → ℕ) (t : ℕ) (f : Flow) → levels f < t → below levels t f ≡ Some (levels f)
unfolding below
below_yes levels t f h = rw (lt-ltb (levels f) t h) refl

pub below_no : (levels : Flow → ℕ) (t : ℕ) (f : Flow) → t ≤ levels f → below levels t f ≡ None
unfolding below
below_no levels t f h = rw (le-ltb (levels f) t h) refl

-- ---- a resource sees the flows on it alone
cond_same : (b : Bool) (m n : ℕ) → (b ≡ true → m ≡ n) → cond b m 0 ≡ cond b n 0
cond_same true m n h = h refl
cond_same false m n h = refl

and_same : (b x y : Bool) (w : ℕ) → (b ≡ true → x ≡ y) → cond (b && x) w 0 ≡ cond (b && y) w 0
and_same true x y w h = ap (λ z. cond z w 0) (h refl)
and_same false x y w h = refl

pub level_same_on : (caps : List ℕ) (flows : List Flow) (a b : Fixed) (c : ℕ) → ((f : Flow) → In f flows → is_on c f ≡ true → a f ≡ b f) → resource_level caps flows a c ≡ resource_level caps flows b c
unfolding resource_level taken waiting
level_same_on caps flows a b c h =
    ap₂ (λ t w. (slice_index caps c - t) / w)
    (sum_by_same _ _ flows (λ f i. cond_same (is_on c f) (share_of_fixed f (a f)) (share_of_fixed f (b f)) (λ on. ap (share_of_fixed f) (h f i on))))
    (sum_by_same _ _ flows (λ f i. and_same (is_on c f) (is_none (a f)) (is_none (b f)) f.weight (λ on. ap is_none (h f i on))))

-- ---- whether a flow on the resource has this level
nat_cases : (m n : ℕ) → (m ≡ n) ⊎ ((m ≡ n) → ⊥)
nat_cases m n = grind arith

decide : (b : Bool) (m t : ℕ) → ((b ≡ true) × (m ≡ t)) ⊎ ((b ≡ true) → (m ≡ t) → ⊥)
decide false m t = inr (λ e k. true≢false (sym e))
decide true m t = elim (nat_cases m t) [ inl e ↦ inl (refl, e) | inr n ↦ inr (λ e k. n k) ]

pub any_at : (levels : Flow → ℕ) (c t : ℕ) (flows : List Flow) → ((g : Flow) × In g flows × (is_on c g ≡ true) × (levels g ≡ t)) ⊎ ((g : Flow) → In g flows → is_on c g ≡ true → (levels g ≡ t) → ⊥)
any_at levels c t [] = inr (λ g i. absurd i)
any_at levels c t (x ∷ xs) =
    elim (any_at levels c t xs) [
      | inl r ↦ inl (r.0, inr r.1, r.2, r.3)
      | inr away ↦ elim (decide (is_on c x) (levels x) t) [
        | inl e ↦ inl (x, inl refl, e.0, e.1)
        | inr n ↦ inr (λ g i. elim i [ inl e ↦ subst (λ w. is_on c w ≡ true → (levels w ≡ t) → ⊥) e n | inr j ↦ away g j ])
      ]
    ]

less_or : (n t : ℕ) → ((n ≡ t) → ⊥) → (n < t) ⊎ (t + 1 ≤ n)
less_or n t h = grind arith

-- if none has the level t, nothing changes from t to t + 1
pub none_at : (caps : List ℕ) (flows : List Flow) (levels : Flow → ℕ) (c t : ℕ) → ((g : Flow) → In g flows → is_on c g ≡ true → (levels g ≡ t) → ⊥) →
    resource_level caps flows (below levels t) c ≡ resource_level caps flows (below levels (t + 1)) c
none_at caps flows levels c t none = level_same_on caps flows (below levels t) (below levels (t + 1)) c (λ g i on.
    elim (less_or (levels g) t (none g i on)) [
      | inl less ↦ below_yes levels t g less ∙ sym (below_yes levels (t + 1) g (omega (arith, less)))
      | inr more ↦ below_no levels t g (omega (arith, more)) ∙ sym (below_no levels (t + 1) g more)
    ])

-- ---- from the conditions to the max-min solve
above_step : (caps : List ℕ) (flows : List Flow) (levels : Flow → ℕ) → IsBalanced caps flows levels → (f : Flow) → In f flows → (c : ℕ) → is_on c f ≡ true → (t : ℕ) → t < levels f →
    t + 1 ≤ resource_level caps flows (below levels (t + 1)) c → t < resource_level caps flows (below levels t) c
above_step caps flows levels balanced f i c on t under next = elim (any_at levels c t flows) [
  | inl r ↦ subst (λ x. x < resource_level caps flows (below levels x) c) r.3 (balanced.strictly r.0 f c (contains_from_In flows r.0 r.1) (contains_from_In flows f i) r.2 on (omega (arith, r.3, under)))
  | inr none ↦ omega (arith, none_at caps flows levels c t none, next)
]

pub above_on : (d : ℕ) (caps : List ℕ) (flows : List Flow) (levels : Flow → ℕ) → IsBalanced caps flows levels → (f : Flow) → In f flows → (c : ℕ) → is_on c f ≡ true → (t : ℕ) → t + 1 + d ≡ levels f →
    t < resource_level caps flows (below levels t) c
above_on zero caps flows levels balanced f i c on t e =
    let is : levels f ≡ t + 1 = omega (arith, e) in
    above_step caps flows levels balanced f i c on t (omega (arith, e)) (subst (λ x. x ≤ resource_level caps flows (below levels x) c) is (balanced.holds f c (contains_from_In flows f i) on))
above_on (suc d) caps flows levels balanced f i c on t e =
    let far : t + 1 + 1 + d ≡ levels f = omega (arith, e) in
    above_step caps flows levels balanced f i c on t (omega (arith, e)) (omega (arith, above_on d caps flows levels balanced f i c on (t + 1) far))

pub leveled_from : (caps : List ℕ) (flows : List Flow) (levels : Flow → ℕ) → IsBalanced caps flows levels → IsLeveled caps flows levels
leveled_from caps flows levels balanced = record {
  met = λ f i. subst (λ a. In (levels f) (flow_limits caps flows a f)) (sym (same_below levels (levels f))) (is_at_back caps flows (below levels (levels f)) (levels f) f (balanced.cause f (contains_from_In flows f i)));
  above = λ f i t under l m.
      elim (limit_cases caps flows (below_share t levels) f l m) [
        | inl b ↦ omega (arith, under, balanced.within f b.0 (contains_from_In flows f i) b.1, b.2)
        | inr r ↦
            let d = levels f - (t + 1) in
            let e : t + 1 + d ≡ levels f = omega (arith, under) in
            let up = above_on d caps flows levels balanced f i r.0 (is_on_uses r.0 f r.1) t e in
            omega (arith, up, r.2, ap (λ a. resource_level caps flows a r.0) (same_below levels t))
      ];
}

pub balance_is_filling_lem : BalanceIsFilling
balance_is_filling_lem caps flows levels limits' balanced flow among =
    leveled_same caps flows (level_of caps flows) levels (share_of_leveled caps flows (limited_from caps flows limits')) (leveled_from caps flows levels balanced) flow (In-from_contains flows flow among)

-- ---- and back: as the flows of more levels are fixed, a resource doesn't fall
pub on_uses : (c : ℕ) (f : Flow) → is_on c f ≡ true → In c f.uses
on_uses c f e = let r = list_any_back (λ u. u == c) f.uses e in subst (λ w. In w f.uses) (eqb-true r.0 c r.2) r.1

at_most : (n y q : ℕ) → n < y → y ≤ q + 1 → n ≤ q
at_most n y q h k = omega (arith, h, k)

pub moved : (x y q : ℕ) → x ≤ y → y ≤ q + 1 → (f : Flow) (on : Bool) (n : ℕ) (before after : Option ℕ) →
    ((n < x) × (before ≡ Some n) × (after ≡ Some n)) ⊎ (((x ≤ n) × (n < y) × (before ≡ None) × (after ≡ Some n)) ⊎ ((before ≡ None) × (after ≡ None))) →
    (cond on (share_of_fixed f after) 0 + q * cond (on && is_none after) f.weight 0 ≤ cond on (share_of_fixed f before) 0 + q * cond (on && is_none before) f.weight 0)
    × (cond (on && is_none after) f.weight 0 ≤ cond (on && is_none before) f.weight 0)
moved x y q less most f false n before after s = (omega arith, omega arith)
moved x y q less most f true n before after (inl r) = rw (r.1, r.2) (omega arith, omega arith)
moved x y q less most f true n before after (inr (inl r)) = rw (r.2, r.3) (omega (arith, share_at-le f n, mul-le-mul_left f.weight (at_most n y q r.1 most), mul_comm f.weight q), omega arith)
moved x y q less most f true n before after (inr (inr r)) = rw (r.0, r.1) (omega arith, omega arith)

pub three : (n x y : ℕ) → (n < x) ⊎ (((x ≤ n) × (n < y)) ⊎ (y ≤ n))
three n x y = grind arith

where_is : (levels : Flow → ℕ) (x y : ℕ) → x ≤ y → (f : Flow) →
    ((levels f < x) × (below levels x f ≡ Some (levels f)) × (below levels y f ≡ Some (levels f))) ⊎ (((x ≤ levels f) × (levels f < y) × (below levels x f ≡ None) × (below levels y f ≡ Some (levels f))) ⊎ ((below levels x f ≡ None) × (below levels y f ≡ None)))
where_is levels x y less f =
    elim (three (levels f) x y) [
      | inl h ↦ inl (h, below_yes levels x f h, below_yes levels y f (omega (arith, h, less)))
      | inr (inl h) ↦ inr (inl (h.0, h.1, below_no levels x f h.0, below_yes levels y f h.1))
      | inr (inr h) ↦ inr (inr (below_no levels x f (omega (arith, h, less)), below_no levels y f h))
    ]

rise_moves : (flows : List Flow) (levels : Flow → ℕ) (c x y q : ℕ) → x ≤ y → y ≤ q + 1 →
    let a = below levels x in let b = below levels y in
    (taken flows b c + q * waiting flows b c ≤ taken flows a c + q * waiting flows a c) × (waiting flows b c ≤ waiting flows a c)
unfolding taken waiting
rise_moves flows levels c x y q less most =
    let a = below levels x in
    let b = below levels y in
    let each = λ (f : Flow). moved x y q less most f (is_on c f) (levels f) (a f) (b f) (where_is levels x y less f) in
    let ta = λ (f : Flow). has c (a f) f in
    let tb = λ (f : Flow). has c (b f) f in
    let wa = λ (f : Flow). is_waiting c (a f) f in
    let wb = λ (f : Flow). is_waiting c (b f) f in (
      omega (arith, sum_by-mul q wb flows, sum_by-add tb (λ f. q * wb f) flows, sum_by_le (λ f. tb f + q * wb f) (λ f. ta f + q * wa f) flows (λ f i. (each f).0), sum_by-add ta (λ f. q * wa f) flows, sum_by-mul q wa flows),
      sum_by_le wb wa flows (λ f i. (each f).1),
    )

-- numbers
kept : (cap t w t' d q : ℕ) → q * (w + d) ≤ cap - t → t' ≤ t + q * d → q * w ≤ cap - t'
kept cap t w t' d q k e = omega (arith, mul-add q w d, k, e)

le_split : (a b : ℕ) → a ≤ b → (d : ℕ) × (b ≡ a + d)
le_split a b h = (b - a, omega arith)

pub level_kept : (cap t w t' w' q : ℕ) → 0 < w' → w' ≤ w → t' + q * w' ≤ t + q * w → q * w ≤ cap - t → q ≤ (cap - t') / w'
level_kept cap t w t' w' q pos less e h =
    let split = le_split w' w less in
    let d = split.0 in
    let given : t' ≤ t + q * d = omega (arith, e, ap (λ x. q * x) split.1, mul-add q w' d) in
    let room : q * (w' + d) ≤ cap - t = subst (λ x. q * x ≤ cap - t) split.1 h in
    (le-div_iff_mul-le pos).1 (kept cap t w' t' d q room given)

-- from x on to y the flows of the levels between are fixed; if these are at the level of the resource at most, it doesn't fall
pub rises : (caps : List ℕ) (flows : List Flow) (levels : Flow → ℕ) (c x y : ℕ) → x ≤ y → y ≤ resource_level caps flows (below levels x) c + 1 → 0 < waiting flows (below levels y) c →
    resource_level caps flows (below levels x) c ≤ resource_level caps flows (below levels y) c
unfolding resource_level
rises caps flows levels c x y less most pos =
    let a = below levels x in
    let b = below levels y in
    let q = (slice_index caps c - taken flows a c) / waiting flows a c in
    let m = rise_moves flows levels c x y q less most in
    level_kept (slice_index caps c) (taken flows a c) (waiting flows a c) (taken flows b c) (waiting flows b c) q pos m.1 m.0 (div-mul-le_self (slice_index caps c - taken flows a c) (waiting flows a c))

-- a flow waits until its level
pub waits_pos : (flows : List Flow) (levels : Flow → ℕ) (f : Flow) (c x : ℕ) → In f flows → 0 < f.weight → is_on c f ≡ true → x ≤ levels f → 0 < waiting flows (below levels x) c
waits_pos flows levels f c x i pos on most = waiting_pos flows (below levels x) f c i pos (below_no levels x f most) on

level_cases : (n : ℕ) → (n ≡ 0) ⊎ ((t : ℕ) × (n ≡ t + 1))
level_cases zero = inl refl
level_cases (suc n) = inr (n, omega arith)

pub filling_balances_lem : FillingBalances
filling_balances_lem caps flows limits' =
    let levels = level_of caps flows in
    let limited = limited_from caps flows limits' in
    let leveled = share_of_leveled caps flows limited in
    let above = λ (f : Flow) (i : In f flows) (c : ℕ) (on : is_on c f ≡ true) (t : ℕ) (under : t < levels f).
    let goal : t < resource_level caps flows (below levels t) c =
    subst (λ a. t < resource_level caps flows a c) (same_below levels t) (leveled.above f i t under (resource_level caps flows (below_share t levels) c) (limit_level caps flows (below_share t levels) f c (on_uses c f on))) in goal in
    record {
      within = λ f bound there e.
          elim (level_cases (levels f)) [
            | inl z ↦ omega (arith, z)
            | inr r ↦ omega (arith, r.1, leveled.above f (In-from_contains flows f there) r.0 (omega (arith, r.1)) (bound_level f.weight bound) (limit_bound caps flows (below_share r.0 levels) f bound e))
          ];
      holds = λ f c there on.
          let i = In-from_contains flows f there in
          elim (level_cases (levels f)) [
            | inl z ↦ omega (arith, z)
            | inr r ↦
                let up = above f i c on r.0 (omega (arith, r.1)) in
                let rise = rises caps flows levels c r.0 (levels f) (omega (arith, r.1)) (omega (arith, r.1, up)) (waits_pos flows levels f c (levels f) i (limited f i).0 on (omega arith)) in
                omega (arith, r.1, up, rise)
          ];
      strictly = λ f other c there there' on on' less. above other (In-from_contains flows other there') c on' (levels f) less;
      cause = λ f there.
          is_at_in caps flows (below levels (levels f)) (levels f) f (subst (λ a. In (levels f) (flow_limits caps flows a f)) (same_below levels (levels f)) (leveled.met f (In-from_contains flows f there)));
    }
