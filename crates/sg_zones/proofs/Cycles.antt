-- A zone has fewer zones above it than there are, or no end of them.
use Rattle.std.proofs.Common.{◌≡◌, ◌+◌, ◌-◌, ◌<◌, ◌≤◌, ◌⊎◌, inl, inr, ℕ, zero, suc, Bool, true, false, List, [], ◌∷◌, length, map, get_or, Option, None, Some, arith, refl, sym, ◌∙◌, ap, subst}
use Rattle.std.specs.List.{list_any}
use Rattle.std.specs.Prelude.{◌||◌, option_and_then, slice_get, IfSome}
use Rattle.std.proofs.Math.Dec.{eqb}
use Rattle.std.proofs.lemmas.Bool.{eqb-true, ne_eqb}
use Rattle.std.proofs.lemmas.List.{get_or_default, get_or-map, length-map}
use Rattle.std.proofs.lemmas.Map.Keys.{IsDistinct-from_apart}
use Rattle.std.proofs.lemmas.Map.Steps.{length-le_from_distinct_below}
use Rattle.std.proofs.lemmas.Option.{get_or_from_slice_get, slice_get_within}
use Rattle.sg_base.specs.declared.ids.ZoneId.{ZoneId}
use Rattle.sg_platform_rows.specs.Platform.{IsPlatform, Platform}
use Rattle.sg_platform_rows.specs.declared.rows.ZoneRow.{ZoneRow}
use Rattle.sg_zones.specs.Laws.{CyclesNeverEnd}
use Rattle.sg_zones.specs.Paths.{ancestor, parent_zone, path}
use Rattle.sg_zones.proofs.Ancestors.{ancestor_sum, past, split_at}
use Rattle.sg_zones.proofs.GoodTree.{HasParents, exists_on}
use Rattle.sg_zones.proofs.TreeLemmas.{AboveIs, IsDepth, depth_found, depth_once, path_front, path_length}

-- the zones above exist
pub parents_exist : (p : Platform) → IsPlatform p → HasParents p.zones
parents_exist p kept zone above is = go (slice_get p.zones zone.0) refl is
  where
    of_row : (o : Option ZoneId) → IfSome o (λ q. q.0 < length p.zones) → o ≡ Some above → above.0 < length p.zones
    of_row None h e = absurd (cc)
    of_row (Some q) h e =
        let same : q ≡ above = cc in
        let P : ZoneId → Type 0 = λ z. z.0 < length p.zones in
        subst P same h

    go : (o : Option ZoneRow) → slice_get p.zones zone.0 ≡ o → option_and_then (λ row. row.parent) o ≡ Some above → above.0 < length p.zones
    go None e h = absurd (cc)
    go (Some row) e h =
        let same : get_or p.zones zone.0 row ≡ row = get_or_from_slice_get p.zones zone.0 row row e in
        of_row (get_or p.zones zone.0 row).parent (kept.zones zone.0 row (slice_get_within p.zones zone.0 row e)).parent (ap (λ r. r.parent) same ∙ h)

-- as many steps up as a zone is deep lead past the root, and more do too
ended : (d : ℕ) (zones : List ZoneRow) (zone : ZoneId) → IsDepth (suc d) zones zone → ancestor (suc d) zones zone ≡ None
unfolding ancestor
ended zero zones zone h = go (parent_zone zones zone) h
  where
    go : (o : Option ZoneId) → AboveIs (IsDepth 0 zones) 0 o → option_and_then (ancestor 0 zones) o ≡ None
    go None h = refl
    go (Some above) h = absurd h
ended (suc d) zones zone h = go (parent_zone zones zone) h (λ above k. ended d zones above k)
  where
    go : (o : Option ZoneId) → AboveIs (IsDepth (suc d) zones) (suc d) o → ((above : ZoneId) → IsDepth (suc d) zones above → ancestor (suc d) zones above ≡ None)
        → option_and_then (ancestor (suc d) zones) o ≡ None
    go None h more = refl
    go (Some above) h more = more above h

stays : (a b : ℕ) (zones : List ZoneRow) (zone : ZoneId) → a ≤ b → ancestor a zones zone ≡ None → ancestor b zones zone ≡ None
stays a b zones zone more none =
    let e : b ≡ a + (b - a) = omega arith in
    ap (λ n. ancestor n zones zone) e ∙ ancestor_sum a (b - a) zones zone ∙ ap (λ o. option_and_then (ancestor (b - a) zones) o) none

below : (n : ℕ) (xs : List ZoneId) (d : ZoneId) → ((k : ℕ) → k < length xs → (get_or xs k d).0 < n) → (q : ℕ) → list_any (eqb q) (map (λ z. z.0) xs) ≡ true → q < n
below n [] d each q among = absurd (cc)
below n (x ∷ xs) d each q among = go (eqb q x.0) refl among (λ h. below n xs d (λ k few. each (suc k) (omega arith)) q h)
  where
    go : (b : Bool) → eqb q x.0 ≡ b → (b || list_any (eqb q) (map (λ z. z.0) xs)) ≡ true → (list_any (eqb q) (map (λ z. z.0) xs) ≡ true → q < n) → q < n
    go true e h more = let same : q ≡ x.0 = eqb-true q x.0 e in let first = each 0 (omega arith) in omega (arith)
    go false e h more = more h

-- no zone is twice on a path, so it has at most as many zones as there are
few_deep : (d : ℕ) (zones : List ZoneRow) (zone : ZoneId) → HasParents zones → zone.0 < length zones → IsDepth (suc d) zones zone → suc d ≤ length zones
few_deep d zones zone parents inside is =
    let ps : List ZoneId = path (suc d) zones zone in
    let whole : length ps ≡ suc d = path_length (suc d) zones zone is in
    let deep : (k : ℕ) → k < suc d → IsDepth (suc k) zones (get_or ps k zone) = λ k few.
    (path_front (suc d) k zones zone (get_or ps k zone) is few (get_or_default ps k (get_or ps k zone) zone (omega (arith, whole)))).depth in
    let there : (k : ℕ) → k < length ps → (get_or ps k zone).0 < length zones = λ k few.
    exists_on (suc d) k zones zone (get_or ps k zone) parents inside is (omega (arith, whole)) (get_or_default ps k (get_or ps k zone) zone few) in
    let number : (k : ℕ) (e : ℕ) → k < length ps → get_or (map (λ z. z.0) ps) k e ≡ (get_or ps k zone).0 = λ k e few. get_or-map (λ z. z.0) ps k zone e few in
    let many : length (map (λ z. z.0) ps) ≡ length ps = length-map ps (λ z. z.0) in
    let apart : (i j e : ℕ) → i < j → j < length (map (λ z. z.0) ps) → eqb (get_or (map (λ z. z.0) ps) i e) (get_or (map (λ z. z.0) ps) j e) ≡ false = λ i j e less few.
    ne_eqb (get_or (map (λ z. z.0) ps) i e) (get_or (map (λ z. z.0) ps) j e) (λ same.
    let make : ℕ → ZoneId = λ n. record { 0 = n } in
    let one : get_or ps i zone ≡ get_or ps j zone = ap make (sym (number i e (omega (arith, many))) ∙ same ∙ number j e (omega (arith, many))) in
    let D : ZoneId → Type 0 = λ z. IsDepth (suc i) zones z in
    let once : suc i ≡ suc j = depth_once (suc i) (suc j) zones (get_or ps j zone) (subst D one (deep i (omega (arith, many, whole)))) (deep j (omega (arith, many, whole))) in
    absurd (omega (arith, once))) in
    let fits = length-le_from_distinct_below (map (λ z. z.0) ps) (length zones) (IsDistinct-from_apart eqb (map (λ z. z.0) ps) (λ i j e less few. apart i j e less few)) (λ q among. below (length zones) ps zone there q among) in
    omega (arith, fits, many, whole)

pub cycles_never_end : (p : Platform) → IsPlatform p → CyclesNeverEnd p
cycles_never_end p kept zone far steps none = go (split_at zone.0 (length p.zones))
  where
    go : ((zone.0 < length p.zones) ⊎ (length p.zones ≤ zone.0)) → ⊥
    go (inl inside) =
        let r = depth_found steps p.zones zone none in
        let few : suc r.0 ≤ length p.zones = few_deep r.0 p.zones zone (parents_exist p kept) inside r.2 in
        far (stays (suc r.0) 1024 p.zones zone (omega (arith, few, kept.few_zones)) (ended r.0 p.zones zone r.2))
    go (inr outside) = far (past 1024 p.zones zone (omega arith) outside)
