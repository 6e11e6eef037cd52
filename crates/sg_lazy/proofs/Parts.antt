-- What nothing reached, and what is touched, are parts.
use Rattle.std.proofs.Common.{◌≡◌, ℕ, ◌-◌, ◌*◌, ◌/◌, ◌<◌, ◌≤◌, inl, inr, min, Bool, true, false, cond, not, ◌&&◌, true≢false, Some, is_none, List, filter, get_or, ◌==◌, eqb-true, refl, sym, ap, ap₂, subst, ◌∙◌, arith}
use Rattle.std.proofs.lemmas.Grind.{div_ceil_times}
use Rattle.sg_maxmin.specs.Fill.{Flow, is_on, bounded, share_at, bound_level, level_of, share_of}
use Rattle.sg_maxmin.specs.Fixing.{Fixed, share_of_fixed, taken, waiting, resource_level, flow_limits}
use Rattle.sg_maxmin.specs.Laws.{HaveLimits}
use Rattle.sg_maxmin.proofs.Members.{In, In-filter, In-filter_back, In-from_contains, contains_from_In, list_any_in, list_any_back}
use Rattle.sg_maxmin.proofs.Sums.{sum_by-filter}
use Rattle.sg_maxmin.proofs.OneStep.{limit_bound, limit_level, limit_cases}
use Rattle.sg_maxmin.proofs.Rises.{is_on_uses}
use Rattle.sg_maxmin.proofs.Leveled.{below, IsLeveled, Limited, share_of_leveled}
use Rattle.sg_maxmin.proofs.Same.{IsPart, leveled_same}
use Rattle.sg_maxmin.proofs.Proved.{limited_from}
use Rattle.sg_lazy.specs.Touch.{touches, has_uses, IsClosed}
use Rattle.sg_lazy.specs.Laws.{KeepsRate, TouchedRate, FreeRate}
use Rattle.sg_maxmin.proofs.Listed.{bool_cases}

-- ---- a component, even if capacities outside it differ
and_cond : (a b : Bool) (n : ℕ) → cond (a && b) n 0 ≡ cond a (cond b n 0) 0
and_cond true b n = refl
and_cond false b n = refl

abbrev pub AgreeOn : List ℕ → List ℕ → List Flow → Type 0
AgreeOn a b part = (f : Flow) → In f part → (c : ℕ) → In c f.uses → get_or a c 0 ≡ get_or b c 0

level_part : (a b : List ℕ) (part whole : List Flow) → AgreeOn a b part → IsPart part whole → (x : Fixed) (f : Flow) (c : ℕ) → In f part → In c f.uses → resource_level a part x c ≡ resource_level b whole x c
unfolding resource_level taken waiting
level_part a b part whole same is x f c i u =
    ap₂ (λ t w. t / w)
    (ap₂ (λ k t. k - t) (same f i c u) (is.alone f i c u (λ g. share_of_fixed g (x g))))
    (simp and_cond (is.alone f i c u (λ g. cond (is_none (x g)) g.weight 0)))

limits_part : (a b : List ℕ) (part whole : List Flow) → AgreeOn a b part → IsPart part whole → (x : Fixed) (f : Flow) (l : ℕ) → In f part → In l (flow_limits b whole x f) → In l (flow_limits a part x f)
limits_part a b part whole same is x f l i m =
    elim (limit_cases b whole x f l m) [
      | inl e ↦ subst (λ w. In w (flow_limits a part x f)) e.2 (limit_bound a part x f e.0 e.1)
      | inr r ↦ subst (λ w. In w (flow_limits a part x f)) (level_part a b part whole same is x f r.0 i r.1 ∙ r.2) (limit_level a part x f r.0 r.1)
    ]

limits_whole : (a b : List ℕ) (part whole : List Flow) → AgreeOn a b part → IsPart part whole → (x : Fixed) (f : Flow) (l : ℕ) → In f part → In l (flow_limits a part x f) → In l (flow_limits b whole x f)
limits_whole a b part whole same is x f l i m =
    elim (limit_cases a part x f l m) [
      | inl e ↦ subst (λ w. In w (flow_limits b whole x f)) e.2 (limit_bound b whole x f e.0 e.1)
      | inr r ↦ subst (λ w. In w (flow_limits b whole x f)) (sym (level_part a b part whole same is x f r.0 i r.1) ∙ r.2) (limit_level b whole x f r.0 r.1)
    ]

leveled_part : (a b : List ℕ) (part whole : List Flow) → AgreeOn a b part → IsPart part whole → (p : Flow → ℕ) → IsLeveled b whole p → IsLeveled a part p
leveled_part a b part whole same is p lp = record {
  met = λ f i. limits_part a b part whole same is (below (p f) p) f (p f) i (lp.met f (is.inside f i));
  above = λ f i t under l m. lp.above f (is.inside f i) t under l (limits_whole a b part whole same is (below t p) f l i m);
}

-- two wholes with one part
pub share_of_common : (a b : List ℕ) (part one other : List Flow) → Limited a one → Limited b other → AgreeOn a b part → IsPart part one → IsPart part other → (f : Flow) → In f part → share_of a one f ≡ share_of b other f
share_of_common a b part one other la lb same is is' f i =
    ap (share_at f) (leveled_same a part (level_of a one) (level_of b other)
    (leveled_part a a part one (λ g j c u. refl) is (level_of a one) (share_of_leveled a one la))
    (leveled_part a b part other same is' (level_of b other) (share_of_leveled b other lb)) f i)

-- ---- what nothing reached
still : (ℕ → Bool) → Flow → Bool
still reached f = has_uses f && not (touches reached f)

both_true : (x y : Bool) → (x && y) ≡ true → (x ≡ true) × (y ≡ true)
both_true true y e = (refl, e)
both_true false y e = absurd (true≢false (sym e))

not_true : (x : Bool) → not x ≡ true → x ≡ false
not_true true e = absurd (true≢false (sym e))
not_true false e = refl

uses_of : (c : ℕ) (f : Flow) → is_on c f ≡ true → In c f.uses
uses_of c f e = let r = list_any_back (λ u. u == c) f.uses e in subst (λ w. In w f.uses) (eqb-true r.0 c r.2) r.1

touch_by : (reached : ℕ → Bool) (f : Flow) (c : ℕ) → In c f.uses → reached c ≡ true → touches reached f ≡ true
touch_by reached f c u e = list_any_in reached f.uses c u e

still_free : (reached : ℕ → Bool) (f : Flow) (c : ℕ) → In c f.uses → touches reached f ≡ false → reached c ≡ false
still_free reached f c u e = elim (bool_cases (reached c)) [ inl t ↦ absurd (true≢false (sym (touch_by reached f c u t) ∙ e)) | inr n ↦ n ]

zero_part : (b : Bool) (n : ℕ) → (b ≡ true → ⊥) → cond b n 0 ≡ 0
zero_part true n h = absurd (h refl)
zero_part false n h = refl

and_false : (x y : Bool) → (x && not y) ≡ false → x ≡ true → y ≡ true
and_false true true e h = refl
and_false true false e h = absurd (true≢false e)
and_false false y e h = absurd (true≢false (sym h))

still_part : (flows : List Flow) (reached : ℕ → Bool) → IsClosed flows reached → IsPart (filter (still reached) flows) flows
unfolding still
still_part flows reached closed = record {
  inside = λ f i. (In-filter_back (still reached) flows f i).0;
  alone = λ f i c u h.
      let passes = both_true (has_uses f) (not (touches reached f)) (In-filter_back (still reached) flows f i).1 in
      let free = still_free reached f c u (not_true (touches reached f) passes.1) in
      sum_by-filter (λ g. cond (is_on c g) (h g) 0) (still reached) flows
      (λ g j fails. zero_part (is_on c g) (h g) (λ on.
      let used = list_any_in (λ r. true) g.uses c (uses_of c g on) refl in
      let touched = and_false (has_uses g) (touches reached g) fails used in
      true≢false (sym (closed g (contains_from_In flows g j) touched c on) ∙ free)));
}

pub keeps_rate_lem : KeepsRate
unfolding still
keeps_rate_lem past_capacities caps past flows reached flow lp lf closed same there among has free =
    let part = filter (still reached) flows in
    let is = still_part flows reached closed in
    let passes = λ (f : Flow) (i : In f part). both_true (has_uses f) (not (touches reached f)) (In-filter_back (still reached) flows f i).1 in
    let untouched = λ (f : Flow) (i : In f part). not_true (touches reached f) (passes f i).1 in
    let is' : IsPart part past = record {
      inside = λ f i. In-from_contains past f (there f (contains_from_In flows f (is.inside f i)) (passes f i).0 (untouched f i));
      alone = λ f i c u h. is.alone f i c u h ∙ sym (same.same_flows c (still_free reached f c u (untouched f i)) h);
    } in
    let here : In flow part = In-filter (still reached) flows flow (In-from_contains flows flow among) (rw (has, free) refl) in
    share_of_common past_capacities caps part past flows (limited_from past_capacities past lp) (limited_from caps flows lf)
    (λ f i c u. same.same_capacities c (still_free reached f c u (untouched f i))) is' is flow here

-- ---- what is touched
touched_part : (flows : List Flow) (reached : ℕ → Bool) → IsClosed flows reached → IsPart (filter (touches reached) flows) flows
touched_part flows reached closed = record {
  inside = λ f i. (In-filter_back (touches reached) flows f i).0;
  alone = λ f i c u h.
      let passes = In-filter_back (touches reached) flows f i in
      let hit = closed f (contains_from_In flows f passes.0) passes.1 c (is_on_uses c f u) in
      sum_by-filter (λ g. cond (is_on c g) (h g) 0) (touches reached) flows
      (λ g j fails. zero_part (is_on c g) (h g) (λ on. true≢false (sym (touch_by reached g c (uses_of c g on) hit) ∙ fails)));
}

part_limited : (caps : List ℕ) (p : Flow → Bool) (flows : List Flow) → HaveLimits flows → Limited caps (filter p flows)
part_limited caps p flows h = limited_from caps (filter p flows) (λ f among. h f (contains_from_In flows f (In-filter_back p flows f (In-from_contains (filter p flows) f among)).0))

pub touched_rate_lem : TouchedRate
touched_rate_lem caps flows reached flow lf closed among touched =
    let part = filter (touches reached) flows in
    share_of_common caps caps part part flows (part_limited caps (touches reached) flows lf) (limited_from caps flows lf) (λ f i c u. refl)
    (record { inside = λ f i. i; alone = λ f i c u h. refl }) (touched_part flows reached closed) flow (In-filter (touches reached) flows flow (In-from_contains flows flow among) touched)

-- the level of a bound is enough for it
ceil_up : (w b : ℕ) → 0 < w → b ≤ w * bound_level w b
unfolding bound_level
ceil_up w b pos = omega (arith, (div_ceil_times b w pos).0)

pub free_rate_lem : FreeRate
unfolding share_at
free_rate_lem caps flows flow bound lf among none e =
    let i = In-from_contains flows flow among in
    let lp = share_of_leveled caps flows (limited_from caps flows lf) in
    let level = level_of caps flows flow in
    elim (limit_cases caps flows (below level (level_of caps flows)) flow level (lp.met flow i)) [
      | inl b ↦
          let same : b.0 ≡ bound = some_same b.0 bound (sym b.1 ∙ e) in
          let at : bound_level flow.weight bound ≡ level = ap (bound_level flow.weight) (sym same) ∙ b.2 in
          let up : bound ≤ flow.weight * level = subst (λ l. bound ≤ flow.weight * l) at (ceil_up flow.weight bound (lf flow among).weighs) in
          ap (λ o. bounded o (flow.weight * level)) e ∙ least bound (flow.weight * level) up
      | inr r ↦ absurd (subst (λ us. In r.0 us) none r.1)
    ]
  where
    some_same : (x y : ℕ) → Some x ≡ Some y → x ≡ y
    some_same x y h = cc h

    least : (b n : ℕ) → b ≤ n → min b n ≡ b
    least b n h = grind (arith, h)
