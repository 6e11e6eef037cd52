-- The stages of progressive filling are what its steps leave: both give the same levels.
use Rattle.std.proofs.Common.{◌≡◌, ℕ, zero, suc, ◌+◌, ◌-◌, ◌/◌, ◌==◌, Bool, true, false, cond, not, ◌&&◌, Option, None, Some, is_none, option_to_list, option_map, List, [], ◌∷◌, ◌++◌, map, filter, flat_map, length, slice_index, sum_by, refl, sym, ap, ap₂, ◌∙◌, arith}
use Rattle.std.specs.List.{enumerate_from, list_any}
use Rattle.std.specs.Option.{unwrap_or}
use Rattle.std.proofs.Math.Path.{fun_ext}
use Rattle.std.proofs.lemmas.List.Sums.{sum_by-cons}
use Rattle.sg_maxmin.specs.Fill.{Flow, Stage, is_on, load, share_at, bound_level, least, level as stage_level, limits as stage_limits, lowest as stage_lowest, is_at as stage_at, next, level_from, level_of}
use Rattle.sg_maxmin.specs.Fixing.{Fixed, share_of_fixed, taken, waiting, resource_level, flow_limits, lowest_limit, is_limited_at, step, steps_from, unfixed}
use Rattle.sg_maxmin.specs.Laws.{LevelIsFixed}
use Rattle.sg_maxmin.proofs.Sums.{sum_by_same, sum_by_zero, sum_by-add}
use Rattle.sg_maxmin.proofs.OneStep.{stays_fixed}

-- the stage that is left once these flows are fixed
record IsLeft (caps : List ℕ) (flows : List Flow) (a : Fixed) (stage : Stage) : Type 0 where
  pub rest : (c : ℕ) → slice_index stage.left c ≡ slice_index caps c - taken flows a c
  pub unserved : stage.waiting ≡ filter (λ f. is_none (a f)) flows

-- ---- lists
sum_filtered : (f : Flow → ℕ) (p : Flow → Bool) (xs : List Flow) → sum_by f (filter p xs) ≡ sum_by (λ x. cond (p x) (f x) 0) xs
sum_filtered f p [] = refl
sum_filtered f p (y ∷ xs) =
    let g : Flow → ℕ = λ x. cond (p x) (f x) 0 in
    (elim (p y) as (λ b. sum_by f (cond b (y ∷ filter p xs) (filter p xs)) ≡ cond b (f y) 0 + sum_by g xs) [
      | true ↦ sum_by-cons f y (filter p xs) ∙ ap (λ s. f y + s) (sum_filtered f p xs)
      | false ↦ omega (arith, sum_filtered f p xs)
    ]) ∙ sym (sum_by-cons g y xs)

filter_both : (p q r : Flow → Bool) (xs : List Flow) → ((x : Flow) → (q x && p x) ≡ r x) → filter p (filter q xs) ≡ filter r xs
filter_both p q r [] h = refl
filter_both p q r (y ∷ xs) h =
    (elim (q y) as (λ b. filter p (cond b (y ∷ filter q xs) (filter q xs)) ≡ cond (b && p y) (y ∷ filter r xs) (filter r xs)) [
      | true ↦ ap (λ w. cond (p y) (y ∷ w) w) (filter_both p q r xs h)
      | false ↦ filter_both p q r xs h
    ]) ∙ ap (λ b. cond b (y ∷ filter r xs) (filter r xs)) (h y)

filter_all : (xs : List Flow) → filter (λ x. true) xs ≡ xs
filter_all [] = refl
filter_all (y ∷ xs) = ap (λ w. y ∷ w) (filter_all xs)

less_each : (h : ℕ → ℕ) (xs : List ℕ) (n c at : ℕ) → n + c ≡ at → slice_index (map (λ p. p.1 - h p.0) (enumerate_from n xs)) c ≡ slice_index xs c - h at
less_each h [] n c at e = omega arith
less_each h (x ∷ xs) n zero at e = let same : n ≡ at = omega (arith, e) in ap (λ k. x - h k) same
less_each h (x ∷ xs) n (suc c) at e = less_each h xs (n + 1) c at (omega (arith, e))

-- ---- one flow
weighs : (none on : Bool) (weight : ℕ) → cond none (cond on weight 0) 0 ≡ cond (on && none) weight 0
weighs true true weight = refl
weighs true false weight = refl
weighs false true weight = refl
weighs false false weight = refl

gained : (on at : Bool) (o : Option ℕ) (f : Flow) (low : ℕ) →
    cond on (share_of_fixed f (cond (is_none o && at) (Some low) o)) 0 ≡ cond on (share_of_fixed f o) 0 + cond (is_none o) (cond at (cond on (share_at f low) 0) 0) 0
gained true true None f low = omega arith
gained true false None f low = refl
gained false true None f low = refl
gained false false None f low = refl
gained true at (Some x) f low = omega arith
gained false at (Some x) f low = refl

still : (at : Bool) (o : Option ℕ) (low : ℕ) → (is_none o && not at) ≡ is_none (cond (is_none o && at) (Some low) o)
still true None low = refl
still false None low = refl
still at (Some x) low = refl

-- ---- one step
module _ (caps : List ℕ) (flows : List Flow) (a : Fixed) (stage : Stage) (is : IsLeft caps flows a stage) where
  low : ℕ
  low = lowest_limit caps flows a

  levels_same : (c : ℕ) → stage_level stage c ≡ resource_level caps flows a c
  unfolding resource_level stage_level waiting
  levels_same c =
      ap₂ (λ n d. n / d) (is.rest c)
      (ap (λ w. load w (λ f. f.weight) c) is.unserved
      ∙ sum_filtered (λ f. cond (is_on c f) f.weight 0) (λ f. is_none (a f)) flows
      ∙ sum_by_same _ _ flows (λ f i. weighs (is_none (a f)) (is_on c f) f.weight))

  limits_same : (f : Flow) → stage_limits stage f ≡ flow_limits caps flows a f
  unfolding flow_limits stage_limits
  limits_same f = ap (λ l. option_to_list (option_map (bound_level f.weight) f.bound) ++ map l f.uses) (fun_ext levels_same)

  lowest_same : stage_lowest stage ≡ lowest_limit caps flows a
  unfolding lowest_limit stage_lowest
  lowest_same = ap₂ (λ l w. least (flat_map l w)) (fun_ext limits_same) is.unserved

  at_same : (f : Flow) → stage_at stage f ≡ is_limited_at caps flows a (lowest_limit caps flows a) f
  unfolding is_limited_at stage_at
  at_same f = ap₂ (λ x l. list_any (λ limit. limit == x) l) lowest_same (limits_same f)

  -- what the flows take that this step serves
  served : ℕ → ℕ
  served c = load (filter (stage_at stage) stage.waiting) (λ f. share_at f (stage_lowest stage)) c

  served_is : (c : ℕ) → served c ≡ sum_by (λ f. cond (is_none (a f)) (cond (is_limited_at caps flows a (lowest_limit caps flows a) f) (cond (is_on c f) (share_at f (lowest_limit caps flows a)) 0) 0) 0) flows
  unfolding served
  served_is c =
      let part = λ (f : Flow). cond (is_on c f) (share_at f (stage_lowest stage)) 0 in
      ap (λ w. sum_by part (filter (stage_at stage) w)) is.unserved
      ∙ sum_filtered part (stage_at stage) (filter (λ f. is_none (a f)) flows)
      ∙ sum_filtered (λ f. cond (stage_at stage f) (part f) 0) (λ f. is_none (a f)) flows
      ∙ sum_by_same _ _ flows (λ f i. ap₂ (λ b x. cond (is_none (a f)) (cond b (cond (is_on c f) (share_at f x) 0) 0) 0) (at_same f) lowest_same)

  taken_more : (c : ℕ) → taken flows (step caps flows a) c ≡ taken flows a c + served c
  unfolding taken step
  taken_more c =
      let l = lowest_limit caps flows a in
      let at = is_limited_at caps flows a l in
      let had = λ (f : Flow). cond (is_on c f) (share_of_fixed f (a f)) 0 in
      let more = λ (f : Flow). cond (is_none (a f)) (cond (at f) (cond (is_on c f) (share_at f l) 0) 0) 0 in
      sum_by_same _ (λ f. had f + more f) flows (λ f i. gained (is_on c f) (at f) (a f) f l)
      ∙ sum_by-add had more flows
      ∙ ap (λ s. sum_by had flows + s) (sym (served_is c))

  left_next : IsLeft caps flows (step caps flows a) (next stage)
  unfolding next step served
  left_next = record {
    rest = λ c. less_each served stage.left 0 c c (omega arith) ∙ omega (arith, is.rest c, taken_more c);
    unserved =
        ap (filter (λ f. not (stage_at stage f))) is.unserved
        ∙ filter_both (λ f. not (stage_at stage f)) (λ f. is_none (a f)) (λ f. is_none (step caps flows a f)) flows
        (λ f. ap (λ b. is_none (a f) && not b) (at_same f) ∙ still (is_limited_at caps flows a (lowest_limit caps flows a) f) (a f) (lowest_limit caps flows a));
  }

-- ---- all steps
level_left : (n : ℕ) (caps : List ℕ) (flows : List Flow) (a : Fixed) (stage : Stage) → IsLeft caps flows a stage → (f : Flow) → a f ≡ None →
    level_from n stage f ≡ unwrap_or (steps_from n caps flows a f) 0
unfolding level_from steps_from step
level_left zero caps flows a stage is f e = ap (λ o. unwrap_or o 0) (sym e)
level_left (suc n) caps flows a stage is f e =
    let low = lowest_limit caps flows a in
    let b = step caps flows a in
    ap₂ (λ at l. cond at l (level_from n (next stage) f)) (at_same caps flows a stage is f) (lowest_same caps flows a stage is)
    ∙ (elim (is_limited_at caps flows a low f) as (λ at. is_limited_at caps flows a low f ≡ at → cond at low (level_from n (next stage) f) ≡ unwrap_or (steps_from n caps flows b f) 0) [
      | true ↦ λ k. ap (λ o. unwrap_or o 0) (sym (stays_fixed n caps flows b f low (rw (e, k) refl)))
      | false ↦ λ k. level_left n caps flows b (next stage) (left_next caps flows a stage is) f (rw (e, k) refl)
    ]) refl

pub level_is_fixed_lem : LevelIsFixed
unfolding level_of taken
level_is_fixed_lem caps flows flow =
    level_left (length flows) caps flows unfixed (record { left = caps; waiting = flows }) (record {
      rest = λ c. omega (arith, sum_by_zero (λ f. cond (is_on c f) 0 0) flows (λ f i. nothing (is_on c f)));
      unserved = sym (filter_all flows);
    }) flow refl
  where
    nothing : (b : Bool) → ◌≡◌ {A = ℕ} (cond b 0 0) 0
    nothing true = refl
    nothing false = refl
