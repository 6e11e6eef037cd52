-- The least level among the first places of a list, and where it stands.
use Rattle.std.proofs.Common.{◌≡◌, ℕ, suc, ◌+◌, ◌<◌, ◌≤◌, inl, inr, Option, None, Some, List, [], ◌∷◌, ◌++◌, flat_map, length, get_or, take, below_more, refl, sym, ap, subst, ◌∙◌, arith}
use Rattle.std.proofs.lemmas.Grind.{flat_map-append}
use Rattle.std.proofs.lemmas.List.{take_more}
use Rattle.sg_maxmin_solve.specs.declared.filling.Filling.{Filling}
use Rattle.sg_maxmin_solve.specs.declared.limits.Least.{Least}
use Rattle.sg_maxmin_solve.specs.declared.limits.Low.{Low}
use Rattle.sg_maxmin_solve.specs.declared.limits.Span.{Span}
use Rattle.sg_maxmin.specs.Step.{IsLeast, least_with}
use Rattle.sg_maxmin_solve.specs.Filling.{AreAmong, AreTaken, IsNext, IsNextOf, IsUpTo, level_where, waited_levels}
use Rattle.sg_maxmin_solve.proofs.Waited.{level_more}
use Rattle.sg_maxmin.proofs.Listed.{none_some, some_same}

-- what is known after the first k places
pub record IsScanned (reached waiting levels : List ℕ) (k : ℕ) (least : Least) : Type 0 where
  pub level : IsLeast least.level (waited_levels waiting levels (take k reached))
  pub above : (i : ℕ) → i < k → (get_or waiting (get_or reached i 0) 0 ≡ 0 → ⊥) → (x : ℕ) × (least.level ≡ Some x) × (x ≤ get_or levels (get_or reached i 0) 0)
  pub among : (i : ℕ) → i < k → (get_or waiting (get_or reached i 0) 0 ≡ 0 → ⊥) → least.level ≡ Some (get_or levels (get_or reached i 0) 0) → (least.at.first ≤ i) × (i < least.at.end)
  pub first : least.at.first ≤ least.at.end
  pub end : least.at.end ≤ k

module _ (reached waiting levels : List ℕ) (k : ℕ) (less : k < length reached) where
  abbrev waits : ℕ → ℕ
  waits i = get_or waiting (get_or reached i 0) 0

  abbrev level_at : ℕ → ℕ
  level_at i = get_or levels (get_or reached i 0) 0

  more : waited_levels waiting levels (take (suc k) reached) ≡ waited_levels waiting levels (take k reached) ++ level_where (waits k) (level_at k)
  more =
      let there : ℕ → List ℕ = λ c. level_where (get_or waiting c 0) (get_or levels c 0) in
      ap (λ n. flat_map there (take n reached)) (next k) ∙ ap (flat_map there) (take_more reached k 0 less) ∙ flat_map-append there (take k reached) (get_or reached k 0 ∷ []) ∙ ap (λ xs. flat_map there (take k reached) ++ xs) (one (there (get_or reached k 0)))
    where
      next : (k : ℕ) → suc k ≡ k + 1
      next k = omega arith

      one : (xs : List ℕ) → xs ++ [] ≡ xs
      one [] = refl
      one (x ∷ xs) = ap (λ ys. x ∷ ys) (one xs)

  -- nobody waits at the next one
  pub scanned_idle : (old : Least) → waits k ≡ 0 → IsScanned reached waiting levels k old → IsScanned reached waiting levels (suc k) old
  scanned_idle old z are = record {
    level = subst (IsLeast old.level) (sym more) (subst (λ xs. IsLeast old.level (waited_levels waiting levels (take k reached) ++ xs)) (sym (gone z)) (subst (IsLeast old.level) (sym (nil (waited_levels waiting levels (take k reached)))) are.level));
    above = λ i h. below_more (λ i. (waits i ≡ 0 → ⊥) → (x : ℕ) × (old.level ≡ Some x) × (x ≤ level_at i)) k (λ i h. are.above i h) (λ some. absurd (some z)) i (omega (arith, h));
    among = λ i h. below_more (λ i. (waits i ≡ 0 → ⊥) → old.level ≡ Some (level_at i) → (old.at.first ≤ i) × (i < old.at.end)) k (λ i h. are.among i h) (λ some e. absurd (some z)) i (omega (arith, h));
    first = are.first;
    end = omega (arith, are.end);
  }
    where
      gone : waits k ≡ 0 → level_where (waits k) (level_at k) ≡ []
      gone z = rw z refl

      nil : (xs : List ℕ) → xs ++ [] ≡ xs
      nil [] = refl
      nil (x ∷ xs) = ap (λ ys. x ∷ ys) (nil xs)

  -- or some do
  pub scanned_more : (old new : Least) → (waits k ≡ 0 → ⊥) → new.level ≡ Some (least_with old.level (level_at k)) → IsNext k (level_at k) old new → IsScanned reached waiting levels k old → IsScanned reached waiting levels (suc k) new
  scanned_more old new some is next are = record {
    level = subst (IsLeast new.level) (sym more) (subst (λ o. IsLeast o (waited_levels waiting levels (take k reached) ++ level_where (waits k) (level_at k))) (sym is) (level_more old.level (waits k) (level_at k) (waited_levels waiting levels (take k reached)) some are.level));
    above = λ i h. below_more (λ i. (waits i ≡ 0 → ⊥) → (x : ℕ) × (new.level ≡ Some x) × (x ≤ level_at i)) k before here i (omega (arith, h));
    among = λ i h. below_more (λ i. (waits i ≡ 0 → ⊥) → new.level ≡ Some (level_at i) → (new.at.first ≤ i) × (i < new.at.end)) k (within next) (last next) i (omega (arith, h));
    first = starts next;
    end = ends next;
  }
    where
      up : (o : Option ℕ) (l : ℕ) → least_with o l ≤ l
      up None l = omega arith
      up (Some x) l = grind arith

      less_so : (o : Option ℕ) (l x : ℕ) → o ≡ Some x → least_with o l ≤ x
      less_so None l x e = absurd (none_some e)
      less_so (Some y) l x e = grind arith

      here : (waits k ≡ 0 → ⊥) → (x : ℕ) × (new.level ≡ Some x) × (x ≤ level_at k)
      here w = (least_with old.level (level_at k), is, up old.level (level_at k))

      before : (i : ℕ) → i < k → (waits i ≡ 0 → ⊥) → (x : ℕ) × (new.level ≡ Some x) × (x ≤ level_at i)
      before i h w = let a = are.above i h w in (least_with old.level (level_at k), is, omega (arith, a.2, less_so old.level (level_at k) a.0 a.1))

      within : IsNext k (level_at k) old new → (i : ℕ) → i < k → (waits i ≡ 0 → ⊥) → new.level ≡ Some (level_at i) → (new.at.first ≤ i) × (i < new.at.end)
      within (inl n) i h w e = let a = are.above i h w in absurd (none_some (sym n.0 ∙ a.1))
      within (inr n) i h w e =
          let a = are.above i h w in
          let low : a.0 ≡ n.0 = some_same a.0 n.0 (sym a.1 ∙ n.1) in
          let now : level_at i ≡ least_with (Some n.0) (level_at k) = some_same (level_at i) (least_with (Some n.0) (level_at k)) (sym e ∙ is ∙ ap (λ o. Some (least_with o (level_at k))) n.1) in
          from n.0 (level_at k) (level_at i) now (omega (arith, a.2, low)) (λ same. are.among i h w (n.1 ∙ ap Some same)) n.2
        where
          from : (low new_one other : ℕ) → other ≡ least_with (Some low) new_one → low ≤ other → (low ≡ other → (old.at.first ≤ i) × (i < old.at.end)) → IsNextOf k new_one low old.at new.at → (new.at.first ≤ i) × (i < new.at.end)
          from low l other now le was (inl a) = absurd (lower low l other now le a.0)
            where
              lower : (low l other : ℕ) → other ≡ least_with (Some low) l → low ≤ other → l < low → ⊥
              lower low l other now le h = grind arith
          from low l other now le was (inr (inl b)) = let r = was (same low l other now le) in (omega (arith, r.0, b.1), omega (arith, h, b.2))
            where
              same : (low l other : ℕ) → other ≡ least_with (Some low) l → low ≤ other → low ≡ other
              same low l other now le = grind arith
          from low l other now le was (inr (inr d)) = let r = was (same low l other now le) in (omega (arith, r.0, ap (λ (s : Span). s.first) d.1), omega (arith, r.1, ap (λ (s : Span). s.end) d.1))
            where
              same : (low l other : ℕ) → other ≡ least_with (Some low) l → low ≤ other → low ≡ other
              same low l other now le = grind arith

      last : IsNext k (level_at k) old new → (waits k ≡ 0 → ⊥) → new.level ≡ Some (level_at k) → (new.at.first ≤ k) × (k < new.at.end)
      last (inl n) w e = (omega (arith, n.1), omega (arith, n.2))
      last (inr n) w e = of n.2
        where
          of : IsNextOf k (level_at k) n.0 old.at new.at → (new.at.first ≤ k) × (k < new.at.end)
          of (inl a) = (omega (arith, a.1), omega (arith, a.2))
          of (inr (inl b)) = (omega (arith, b.1, are.first, are.end), omega (arith, b.2))
          of (inr (inr d)) = absurd (no n.0 (level_at k) d.0 (some_same (level_at k) (least_with (Some n.0) (level_at k)) (sym e ∙ is ∙ ap (λ o. Some (least_with o (level_at k))) n.1)))
            where
              no : (low l : ℕ) → low < l → l ≡ least_with (Some low) l → ⊥
              no low l h e = grind arith

      starts : IsNext k (level_at k) old new → new.at.first ≤ new.at.end
      starts (inl n) = omega (arith, n.1, n.2)
      starts (inr (low, e, inl a)) = omega (arith, a.1, a.2)
      starts (inr (low, e, inr (inl b))) = omega (arith, b.1, b.2, are.first, are.end)
      starts (inr (low, e, inr (inr d))) = omega (arith, are.first, ap (λ (s : Span). s.first) d.1, ap (λ (s : Span). s.end) d.1)

      ends : IsNext k (level_at k) old new → new.at.end ≤ suc k
      ends (inl n) = omega (arith, n.2)
      ends (inr (low, e, inl a)) = omega (arith, a.2)
      ends (inr (low, e, inr (inl b))) = omega (arith, b.2)
      ends (inr (low, e, inr (inr d))) = omega (arith, are.end, ap (λ (s : Span). s.end) d.1)

-- nothing is scanned yet
pub scanned_none : (reached waiting levels : List ℕ) → IsScanned reached waiting levels 0 (record { level = None; at = record { first = 0; end = 0 } })
scanned_none reached waiting levels = record {
  level = refl;
  above = λ i h. absurd (omega (arith, h));
  among = λ i h. absurd (omega (arith, h));
  first = omega arith;
  end = omega arith;
}

-- all is
pub scanned_all : (reached waiting levels : List ℕ) (k : ℕ) (least : Least) → k ≡ length reached → IsScanned reached waiting levels k least → AreAmong reached waiting levels least.level least.at
scanned_all reached waiting levels k least all are = record {
  order = are.first;
  few = omega (arith, are.end, all);
  among = λ i level h w e up. let a = are.above i (omega (arith, h, all)) w in are.among i (omega (arith, h, all)) w (a.1 ∙ ap Some (meet a.0 (get_or levels (get_or reached i 0) 0) level least.level a.1 a.2 e up));
}
  where
    meet : (x l level : ℕ) (o : Option ℕ) → o ≡ Some x → x ≤ l → l ≡ level → IsUpTo level o → x ≡ l
    meet x l level None e le is up = absurd (none_some e)
    meet x l level (Some y) e le is up = omega (arith, le, is, up, some_same y x e)

-- and those of the level of a step
pub taken_among : (reached : List ℕ) (f : Filling) (least : Option ℕ) (at : Span) (low : Low) → AreAmong reached f.waiting.items f.levels.items least at → IsUpTo low.level least → low.at ≡ at → AreTaken reached low f
taken_among reached f least at low are up e = record {
  order = omega (arith, are.order, ap (λ (s : Span). s.first) e, ap (λ (s : Span). s.end) e);
  few = omega (arith, are.few, ap (λ (s : Span). s.end) e);
  among = λ i h w l. let r = are.among i low.level h w l up in (omega (arith, r.0, ap (λ (s : Span). s.first) e), omega (arith, r.1, ap (λ (s : Span). s.end) e));
}

pub up_to : (x : ℕ) (o : Option ℕ) → o ≡ Some x → IsUpTo x o
up_to x None e = absurd (none_some e)
up_to x (Some y) e = omega (arith, some_same y x e)
