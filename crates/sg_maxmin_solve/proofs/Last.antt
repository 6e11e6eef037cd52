-- The first step is the last one too, if one resource holds all touched flows.
use Rattle.std.proofs.Common.{◌≡◌, ℕ, ◌*◌, ◌<◌, ◌≤◌, inl, inr, Bool, true, false, cond, eqb, is_none, Option, None, Some, List, [], ◌∷◌, length, get_or, sum_by, refl, sym, ap, subst, ◌∙◌, arith}
use Rattle.std.specs.List.{list_any}
use Rattle.std.proofs.lemmas.List.Sums.{sum_by-cons}
use Rattle.sg_base.specs.MarkSet.{is_in}
use Rattle.sg_maxmin.specs.Chained.{times}
use Rattle.sg_maxmin.specs.Sharing.{Sharing, uses_at}
use Rattle.sg_maxmin.proofs.Members.{In}
use Rattle.sg_maxmin.specs.Numbered.{flow_in, weight_at}
use Rattle.sg_maxmin_solve.specs.declared.filling.Filling.{Filling}
use Rattle.sg_maxmin_solve.specs.declared.limits.Low.{Low}
use Rattle.sg_maxmin_solve.specs.Dates.{HaveNone}
use Rattle.sg_maxmin.specs.Step.{IsLeast, IsStepped}
use Rattle.sg_maxmin_solve.specs.Filling.{AreCounted, ArePart, fixed_at, limits_at, waits_with}
use Rattle.sg_maxmin_solve.specs.Holds.{FixesRest, IsAtLevel, IsLast}
use Rattle.sg_maxmin_solve.proofs.Fixing.{level_in}
use Rattle.sg_maxmin.proofs.Listed.{in_at, times-once}
use Rattle.sg_maxmin.proofs.Users.{is_in_In, rows_once, weighs}

sum_most : (f h : ℕ → ℕ) (xs : List ℕ) → ((x : ℕ) → f x ≤ h x) → sum_by f xs ≤ sum_by h xs
sum_most f h [] most = omega arith
sum_most f h (x ∷ xs) most = omega (arith, sum_by-cons f x xs, sum_by-cons h x xs, most x, sum_most f h xs most)

-- if parts that are no more come to the same sum, they are the same
same_parts : (f h : ℕ → ℕ) (xs : List ℕ) → ((x : ℕ) → f x ≤ h x) → sum_by f xs ≡ sum_by h xs → (x : ℕ) → In x xs → f x ≡ h x
same_parts f h [] most e x i = absurd i
same_parts f h (y ∷ xs) most e x (inl q) = subst (λ n. f n ≡ h n) q (omega (arith, e, sum_by-cons f y xs, sum_by-cons h y xs, most y, sum_most f h xs most))
same_parts f h (y ∷ xs) most e x (inr i) = same_parts f h xs most (omega (arith, e, sum_by-cons f y xs, sum_by-cons h y xs, most y, sum_most f h xs most)) x i

waits_most : (on : Bool) (weight : ℕ) (fixed : Option ℕ) → cond on 1 0 * cond (is_none fixed) weight 0 ≤ weight
waits_most true weight None = omega arith
waits_most true weight (Some x) = omega arith
waits_most false weight fixed = omega arith

waits_all : (on : Bool) (weight : ℕ) (fixed : Option ℕ) → 0 < weight → cond on 1 0 * cond (is_none fixed) weight 0 ≡ weight → (on ≡ true) × (fixed ≡ None)
waits_all true weight None some e = (refl, refl)
waits_all true weight (Some x) some e = absurd (omega (arith, some, e))
waits_all false weight fixed some e = absurd (omega (arith, some, e))

module _ (s : Sharing) (touched reached : List ℕ) (part : ArePart s touched) (f : Filling) (counted : AreCounted s f.fixed.items touched f.left.items f.waiting.items (λ c. is_in c reached)) where
  -- if the weight of all touched flows waits, all of them do
  all_wait : (c : ℕ) → is_in c reached ≡ true → get_or f.waiting.items c 0 ≡ sum_by (weight_at s.slots) touched → (id : ℕ) → is_in id touched ≡ true → (is_in c (uses_at s.slots id) ≡ true) × (fixed_at f.fixed.items id ≡ None)
  all_wait c r e id i =
      let on = λ (id : ℕ). list_any (λ d. eqb d c) (uses_at s.slots id) in
      let once = λ (id : ℕ). ap (λ n. n * waits_with (flow_in s.slots id) (fixed_at f.fixed.items id)) (times-once (uses_at s.slots id) c (rows_once s part.sound id)) in
      let most = λ (id : ℕ). subst (λ n. n ≤ weight_at s.slots id) (sym (once id)) (waits_most (on id) (weight_at s.slots id) (fixed_at f.fixed.items id)) in
      let same = same_parts (λ id. times c (uses_at s.slots id) * waits_with (flow_in s.slots id) (fixed_at f.fixed.items id)) (weight_at s.slots) touched most (sym (counted.waiting_is c r) ∙ e) id (is_in_In id touched i) in
      waits_all (on id) (weight_at s.slots id) (fixed_at f.fixed.items id) (weighs s part.sound id).0 (sym (once id) ∙ same)

pub last_at : (s : Sharing) (touched reached : List ℕ) (low : Low) (f : Filling) → IsAtLevel s touched reached low f → HaveNone f.agenda → (k : ℕ) → k < length reached →
    get_or f.levels.items (get_or reached k 0) 0 ≡ low.level → get_or f.waiting.items (get_or reached k 0) 0 ≡ sum_by (weight_at s.slots) touched → IsLast s touched reached low.level f
last_at s touched reached low f at keys k h level weight =
    let c = get_or reached k 0 in
    let all = all_wait s touched reached at.joined.part f at.counted c (in_at c reached k h refl) weight in
    record {
      joined = at.joined;
      places = at.places;
      unfixed = λ id i. (all id i).1;
      at = λ id i. (level_in s f.levels.items id c low.level (all id i).0 level, λ x m. at.above id i (all id i).1 x m);
      quiet = at.dated.quiet;
      keys = keys;
    }

-- the last step is a step
pub rest_steps : (s : Sharing) (touched reached : List ℕ) (low : ℕ) (old new : Filling) → IsLast s touched reached low old → FixesRest s touched reached low old new →
    (id : ℕ) → is_in id touched ≡ true → IsStepped low (IsLeast (Some low) (limits_at s.slots old.levels.items id)) (fixed_at old.fixed.items id) (fixed_at new.fixed.items id)
rest_steps s touched reached low old new last rest id i =
    subst (λ o. IsStepped low (IsLeast (Some low) (limits_at s.slots old.levels.items id)) o (fixed_at new.fixed.items id)) (sym (last.unfixed id i)) (inl (last.at id i, rest.fixed id i))
