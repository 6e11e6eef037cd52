-- What the absence of zone faults says of the tree.
use Rattle.std.proofs.Common.{◌≡◌, ◌+◌, ◌<◌, ◌⊎◌, inl, inr, ℕ, zero, suc, Bool, true, false, cond, List, [], ◌∷◌, ◌++◌, length, get_or, Option, None, Some, arith, refl, sym, ◌∙◌, ap, subst}
use Rattle.std.specs.Prelude.{is_none, is_some, ◌==◌, ◌||◌, map, slice_get, option_and_then}
use Rattle.std.specs.List.{list_any, range_with_len}
use Rattle.std.specs.Option.{option_or, option_map_or}
use Rattle.std.proofs.lemmas.Bool.Decides.{nat_tests}
use Rattle.std.proofs.lemmas.List.FromFn.{get_or-map-range_with_len, length-map-range_with_len}
use Rattle.sg_platform_rows.specs.declared.rows.ZoneRow.{ZoneRow}
use Rattle.sg_base.specs.declared.ids.ZoneId.{ZoneId}
use Rattle.sg_zones.specs.declared.fault.ZoneFault.{ZoneFault}
use Rattle.sg_zones.specs.declared.fault.ZoneFault.TheVariants.{ParentCycle, TooDeep}
use Rattle.sg_zones.specs.Paths.{ancestor, ancestors_of, parent_zone, path}
use Rattle.sg_zones.specs.Faults.{first_along, fault_if, roots, root_fault, ancestor_fault, tree_fault}
use Rattle.sg_zones.proofs.TreeLemmas.{AboveIs, IsDepth, depth_found, path_length, path_last, split, inner_of}

-- ---- options and rows

pub both_none : {X : Type 0} (a b : Option X) → option_or a b ≡ None → (a ≡ None) × (b ≡ None)
both_none None b h = (refl, h)
both_none (Some x) b h = absurd (cc)

pub not_told : (b : Bool) (fault : ZoneFault) → fault_if b fault ≡ None → b ≡ false
not_told false fault h = refl
not_told true fault h = absurd (cc)

pub each_told : {X : Type 0} (told : ℕ → X → Option ZoneFault) (i j k : ℕ) (xs : List X) (d : X) → first_along told i xs ≡ None → k < length xs → j ≡ i + k → told j (get_or xs k d) ≡ None
each_told told i j k [] d h few e = absurd (omega arith)
each_told told i j zero (x ∷ xs) d h few e =
    let f : j ≡ i = omega arith in
    ap (λ n. told n x) f ∙ (both_none (told i x) (first_along told (i + 1) xs) h).0
each_told told i j (suc k) (x ∷ xs) d h few e = each_told told (i + 1) j k xs d (both_none (told i x) (first_along told (i + 1) xs) h).1 (omega arith) (omega arith)

-- ---- depth

-- the zone's depth is at most 16
pub record HasDepth (zones : List ZoneRow) (zone : ZoneId) : Type 0 where
  pub depth : ℕ
  pub shallow : depth < 16
  pub is : IsDepth (suc depth) zones zone

some_depth : (zones : List ZoneRow) (zone : ZoneId) → ancestor 16 zones zone ≡ None → HasDepth zones zone
some_depth zones zone none =
    let r = depth_found 16 zones zone none in
    record { depth = r.0; shallow = r.1; is = r.2 }

not_some : (o : Option ZoneId) → is_some o ≡ false → o ≡ None
not_some None h = refl
not_some (Some zone) h = absurd (cc)

pub depth_here : (zones : List ZoneRow) (zone : ZoneId) → tree_fault zones ≡ None → zone.0 < length zones → HasDepth zones zone
depth_here zones zone good inside =
    let one = both_none (root_fault (roots 1 zones)) (option_or (first_along (ancestor_fault ParentCycle) 0 (ancestors_of 1024 zones)) (first_along (ancestor_fault TooDeep) 0 (ancestors_of 16 zones))) good in
    let two = both_none (first_along (ancestor_fault ParentCycle) 0 (ancestors_of 1024 zones)) (first_along (ancestor_fault TooDeep) 0 (ancestors_of 16 zones)) one.1 in
    let few : zone.0 < length (ancestors_of 16 zones) = omega (arith, length-map-range_with_len (λ i. ancestor 16 zones (record { 0 = i })) 0 (length zones)) in
    let here : get_or (ancestors_of 16 zones) zone.0 None ≡ ancestor 16 zones zone = get_or-map-range_with_len (λ i. ancestor 16 zones (record { 0 = i })) 0 (length zones) zone.0 zone.0 None inside (omega arith) in
    let told = each_told (ancestor_fault TooDeep) 0 zone.0 zone.0 (ancestors_of 16 zones) None two.1 few (omega arith) in
    some_depth zones zone (sym here ∙ not_some (get_or (ancestors_of 16 zones) zone.0 None) (not_told (is_some (get_or (ancestors_of 16 zones) zone.0 None)) _ told))

-- ---- the root

abbrev has_one : List ℕ → Bool
has_one [] = false
has_one (x ∷ xs) = true

abbrev has_two : List ℕ → Bool
has_two [] = false
has_two (x ∷ xs) = has_one xs

only_one : (rs : List ℕ) → root_fault rs ≡ None → has_two rs ≡ false
only_one [] h = refl
only_one (x ∷ []) h = refl
only_one (x ∷ (y ∷ rs)) h = absurd (cc)

abbrev above_at : List ZoneRow → ℕ → Option ZoneId
above_at zones i = option_and_then (λ row. row.parent) (slice_get zones i)

one_root : (n i : ℕ) (zones : List ZoneRow) → i < length zones → above_at zones i ≡ None → has_one (roots n zones) ≡ true
one_root n i [] few h = absurd (omega arith)
one_root n zero (z ∷ zones) few h = go z.parent h
  where
    go : (o : Option ZoneId) → o ≡ None → has_one (cond (is_none o) (n ∷ roots (n + 1) zones) (roots (n + 1) zones)) ≡ true
    go None h = refl
    go (Some q) h = absurd (cc)
one_root n (suc i) (z ∷ zones) few h = go (is_none z.parent) (one_root (n + 1) i zones (omega arith) h)
  where
    go : (b : Bool) → has_one (roots (n + 1) zones) ≡ true → has_one (cond b (n ∷ roots (n + 1) zones) (roots (n + 1) zones)) ≡ true
    go true h = refl
    go false h = h

two_roots : (n i j : ℕ) (zones : List ZoneRow) → i < j → j < length zones → above_at zones i ≡ None → above_at zones j ≡ None → has_two (roots n zones) ≡ true
two_roots n i j [] less few h k = absurd (omega arith)
two_roots n i zero (z ∷ zones) less few h k = absurd (omega arith)
two_roots n zero (suc j) (z ∷ zones) less few h k = go z.parent h (one_root (n + 1) j zones (omega arith) k)
  where
    go : (o : Option ZoneId) → o ≡ None → has_one (roots (n + 1) zones) ≡ true → has_two (cond (is_none o) (n ∷ roots (n + 1) zones) (roots (n + 1) zones)) ≡ true
    go None h k = k
    go (Some q) h k = absurd (cc)
two_roots n (suc i) (suc j) (z ∷ zones) less few h k = go (is_none z.parent) (roots (n + 1) zones) (two_roots (n + 1) i j zones (omega arith) (omega arith) h k)
  where
    go : (b : Bool) (rs : List ℕ) → has_two rs ≡ true → has_two (cond b (n ∷ rs) rs) ≡ true
    go true [] h = absurd (cc)
    go true (r ∷ rs) h = refl
    go false rs h = h

pub root_once : (zones : List ZoneRow) (a b : ZoneId) → tree_fault zones ≡ None → a.0 < length zones → b.0 < length zones → parent_zone zones a ≡ None → parent_zone zones b ≡ None → a.0 ≡ b.0
root_once zones a b good there here up over =
    let one = both_none (root_fault (roots 1 zones)) (option_or (first_along (ancestor_fault ParentCycle) 0 (ancestors_of 1024 zones)) (first_along (ancestor_fault TooDeep) 0 (ancestors_of 16 zones))) good in
    let only = only_one (roots 1 zones) one.0 in
    let less : a.0 < b.0 → ⊥ = λ l. let two = two_roots 1 a.0 b.0 zones l here up over in absurd (cc) in
    let more : b.0 < a.0 → ⊥ = λ l. let two = two_roots 1 b.0 a.0 zones l there over up in absurd (cc) in
    omega arith

-- the zone above a zone exists
abbrev pub HasParents : List ZoneRow → Type 0
HasParents zones = (zone above : ZoneId) → parent_zone zones zone ≡ Some above → above.0 < length zones

exists_inner : (d k : ℕ) (zones : List ZoneRow) (zone x : ZoneId) → HasParents zones → IsDepth (suc d) zones zone → k < d → get_or (path (suc d) zones zone) k x ≡ x
    → ((above : ZoneId) → above.0 < length zones → IsDepth d zones above → get_or (path d zones above) k x ≡ x → x.0 < length zones) → x.0 < length zones
unfolding path
exists_inner d k zones zone x parents is few at more = go (parent_zone zones zone) refl is at more (λ above i. path_length d zones above i)
  where
    go : (o : Option ZoneId) → parent_zone zones zone ≡ o → AboveIs (IsDepth d zones) d o → get_or (option_map_or (path d zones) o [] ++ zone ∷ []) k x ≡ x
        → ((above : ZoneId) → above.0 < length zones → IsDepth d zones above → get_or (path d zones above) k x ≡ x → x.0 < length zones)
        → ((above : ZoneId) → IsDepth d zones above → length (path d zones above) ≡ d) → x.0 < length zones
    go None up h at more len = absurd (omega arith)
    go (Some above) up h at more len =
        let l = len above h in
        more above (parents zone above up) h (sym (inner_of (path d zones above) zone x k (omega arith)) ∙ at)

-- each zone on a path exists
pub exists_on : (d k : ℕ) (zones : List ZoneRow) (zone x : ZoneId) → HasParents zones → zone.0 < length zones → IsDepth d zones zone → k < d → get_or (path d zones zone) k x ≡ x → x.0 < length zones
exists_on zero k zones zone x parents inside is few at = absurd is
exists_on (suc d) k zones zone x parents inside is few at = go (split k d few) (λ above i h there q. exists_on d k zones above x parents i h there q)
  where
    go : ((k ≡ d) ⊎ (k < d)) → ((above : ZoneId) → above.0 < length zones → IsDepth d zones above → k < d → get_or (path d zones above) k x ≡ x → x.0 < length zones) → x.0 < length zones
    go (inl e) more =
        let same : zone ≡ x = sym (path_last d zones zone x is) ∙ ap (λ i. get_or (path (suc d) zones zone) i x) (sym e) ∙ at in
        let P : ZoneId → Type 0 = λ z. z.0 < length zones in
        subst P same inside
    go (inr lower) more = exists_inner d k zones zone x parents is lower at (λ above i h q. more above i h lower q)

-- a zone that is among others stands at some place
pub any_at : (xs : List ZoneId) (x : ZoneId) → list_any (λ z. z.0 == x.0) xs ≡ true → (k : ℕ) × (k < length xs) × (get_or xs k x ≡ x)
any_at [] x h = absurd (cc)
any_at (y ∷ ys) x h = go (y.0 == x.0) refl h (λ k. any_at ys x k)
  where
    go : (b : Bool) → (y.0 == x.0) ≡ b → (b || list_any (λ z. z.0 == x.0) ys) ≡ true → (list_any (λ z. z.0 == x.0) ys ≡ true → (k : ℕ) × (k < length ys) × (get_or ys k x ≡ x))
        → (k : ℕ) × (k < length (y ∷ ys)) × (get_or (y ∷ ys) k x ≡ x)
    go true e h more =
        let n : y.0 ≡ x.0 = grind (arith, nat_tests) in
        let make : ℕ → ZoneId = λ n. record { 0 = n } in
        (0, omega arith, ap make n)
    go false e h more = let r = more h in (suc r.0, omega (arith, r.1), r.2)

-- the first zone of a path has no zone above it
pub first_root : (zones : List ZoneRow) (x : ZoneId) → IsDepth 1 zones x → parent_zone zones x ≡ None
first_root zones x is = go (parent_zone zones x) is
  where
    go : (o : Option ZoneId) → AboveIs (IsDepth 0 zones) 0 o → o ≡ None
    go None h = refl
    go (Some q) h = absurd h

-- the path of a zone that exists
pub path_at : (zones : List ZoneRow) (zone : ZoneId) → zone.0 < length zones → get_or (map (λ i. path 16 zones (record { 0 = i })) (range_with_len 0 (length zones))) zone.0 [] ≡ path 16 zones zone
path_at zones zone inside = get_or-map-range_with_len (λ i. path 16 zones (record { 0 = i })) 0 (length zones) zone.0 zone.0 [] inside (omega arith)
