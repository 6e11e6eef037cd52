-- The zone above, and the ancestor of an ancestor.
use Rattle.std.proofs.Common.{◌≡◌, ◌+◌, ◌^◌, ◌<◌, ◌≤◌, ◌⊎◌, inl, inr, ℕ, zero, suc, List, [], ◌∷◌, length, map, get_or, Option, None, Some, arith, refl, sym, ◌∙◌, ap, pow-suc}
use Rattle.std.specs.List.{range_with_len}
use Rattle.std.specs.Prelude.{option_and_then, slice_index_or}
use Rattle.std.proofs.lemmas.List.{ext_get_or, get_or-map, get_or_past, length-map}
use Rattle.std.proofs.lemmas.List.FromFn.{get_or-map-range_with_len, length-map-range_with_len}
use Rattle.std.proofs.lemmas.Nat.{pow_pos}
use Rattle.std.proofs.lemmas.Option.{slice_get_past, slice_get-get_or}
use Rattle.std.proofs.lemmas.Simd.{map-map}
use Rattle.sg_base.specs.declared.ids.ZoneId.{ZoneId}
use Rattle.sg_platform_rows.specs.declared.rows.Routing.TheVariants.{Full}
use Rattle.sg_platform_rows.specs.declared.rows.ZoneRow.{ZoneRow}
use Rattle.sg_zones.specs.Paths.{ancestor, ancestors_of, parent_zone}

-- so many steps up, and then so many more
pub ancestor_sum : (a b : ℕ) (zones : List ZoneRow) (zone : ZoneId) → ancestor (a + b) zones zone ≡ option_and_then (ancestor b zones) (ancestor a zones zone)
unfolding ancestor
ancestor_sum zero b zones zone =
    let e : 0 + b ≡ b = omega arith in
    ap (λ n. ancestor n zones zone) e
ancestor_sum (suc a) b zones zone =
    let e : suc a + b ≡ suc (a + b) = omega arith in
    ap (λ n. ancestor n zones zone) e ∙ go (parent_zone zones zone) (λ above. ancestor_sum a b zones above)
  where
    go : (o : Option ZoneId) → ((above : ZoneId) → ancestor (a + b) zones above ≡ option_and_then (ancestor b zones) (ancestor a zones above))
        → option_and_then (ancestor (a + b) zones) o ≡ option_and_then (ancestor b zones) (option_and_then (ancestor a zones) o)
    go None more = refl
    go (Some above) more = more above

-- a zone that isn't there has nothing above it
pub past : (steps : ℕ) (zones : List ZoneRow) (zone : ZoneId) → 0 < steps → length zones ≤ zone.0 → ancestor steps zones zone ≡ None
unfolding ancestor
past zero zones zone some far = absurd (omega arith)
past (suc steps) zones zone some far = ap (λ o. option_and_then (ancestor steps zones) (option_and_then (λ row. row.parent) o)) (slice_get_past zones zone.0 far)

pub split_at : (i n : ℕ) → (i < n) ⊎ (n ≤ i)
split_at i zero = inr (omega arith)
split_at zero (suc n) = inl (omega arith)
split_at (suc i) (suc n) = up (split_at i n)
  where
    up : ((i < n) ⊎ (n ≤ i)) → (suc i < suc n) ⊎ (suc n ≤ suc i)
    up (inl h) = inl (omega arith)
    up (inr h) = inr (omega arith)

-- what the list says of a zone
pub look_is : (steps : ℕ) (zones : List ZoneRow) (zone : ZoneId) → 0 < steps → slice_index_or (ancestors_of steps zones) zone.0 None ≡ ancestor steps zones zone
look_is steps zones zone some = go (split_at zone.0 (length zones))
  where
    go : ((zone.0 < length zones) ⊎ (length zones ≤ zone.0)) → slice_index_or (ancestors_of steps zones) zone.0 None ≡ ancestor steps zones zone
    go (inl inside) = get_or-map-range_with_len (λ i. ancestor steps zones (record { 0 = i })) 0 (length zones) zone.0 zone.0 None inside (omega arith)
    go (inr far) =
        get_or_past (ancestors_of steps zones) zone.0 None (omega (arith, length-map-range_with_len (λ i. ancestor steps zones (record { 0 = i })) 0 (length zones)))
        ∙ sym (past steps zones zone some far)

map_same : {X Y : Type 0} (f g : X → Y) (xs : List X) → ((x : X) → f x ≡ g x) → map f xs ≡ map g xs
map_same f g [] same = refl
map_same f g (x ∷ xs) same = ap (λ y. y ∷ map f xs) (same x) ∙ ap (λ ys. g x ∷ ys) (map_same f g xs same)

-- the ancestors of the ancestors
pub twice_is : (steps : ℕ) (zones : List ZoneRow) → 0 < steps
    → map (λ ancestor. option_and_then (λ zone. slice_index_or (ancestors_of steps zones) zone.0 None) ancestor) (ancestors_of steps zones) ≡ ancestors_of (steps + steps) zones
twice_is steps zones some =
    map-map (λ o. option_and_then (λ zone. slice_index_or (ancestors_of steps zones) zone.0 None) o) (λ i. ancestor steps zones (record { 0 = i })) (range_with_len 0 (length zones))
    ∙ map_same (λ i. option_and_then (λ zone. slice_index_or (ancestors_of steps zones) zone.0 None) (ancestor steps zones (record { 0 = i }))) (λ i. ancestor (steps + steps) zones (record { 0 = i }))
    (range_with_len 0 (length zones)) (λ i. go (ancestor steps zones (record { 0 = i })) ∙ sym (ancestor_sum steps steps zones (record { 0 = i })))
  where
    go : (o : Option ZoneId) → option_and_then (λ zone. slice_index_or (ancestors_of steps zones) zone.0 None) o ≡ option_and_then (ancestor steps zones) o
    go None = refl
    go (Some zone) = look_is steps zones zone some

one_up : (zones : List ZoneRow) (zone : ZoneId) → ancestor 1 zones zone ≡ parent_zone zones zone
unfolding ancestor
one_up zones zone = go (parent_zone zones zone)
  where
    go : (o : Option ZoneId) → option_and_then (λ above. Some above) o ≡ o
    go None = refl
    go (Some above) = refl

-- the parents are the ancestors after one step
pub parents_are : (zones : List ZoneRow) → map (λ row. row.parent) zones ≡ ancestors_of 1 zones
parents_are zones =
    ext_get_or None (map (λ row. row.parent) zones) (ancestors_of 1 zones) (length-map zones (λ row. row.parent) ∙ sym (length-map-range_with_len (λ i. ancestor 1 zones (record { 0 = i })) 0 (length zones)))
    (λ i few. here i (omega (arith, length-map zones (λ row. row.parent))))
  where
    d : ZoneRow
    d = record { id = []; parent = None; routing = Full }

    here : (i : ℕ) → i < length zones → get_or (map (λ row. row.parent) zones) i None ≡ get_or (ancestors_of 1 zones) i None
    here i few =
        get_or-map (λ row. row.parent) zones i d None few
        ∙ sym (ap (λ o. option_and_then (λ row. row.parent) o) (slice_get-get_or zones i d few))
        ∙ sym (one_up zones (record { 0 = i }))
        ∙ sym (get_or-map-range_with_len (λ i. ancestor 1 zones (record { 0 = i })) 0 (length zones) i i None few (omega arith))

-- the ancestors after twice as many steps
pub doubled_is : (doublings : ℕ) (zones : List ZoneRow) (ancestors : List (Option ZoneId)) → ancestors ≡ ancestors_of (2 ^ doublings) zones
    → map (λ ancestor. option_and_then (λ zone. slice_index_or ancestors zone.0 None) ancestor) ancestors ≡ ancestors_of (2 ^ (doublings + 1)) zones
doubled_is doublings zones ancestors is =
    let some : 0 < 2 ^ doublings = pow_pos doublings in
    let next : doublings + 1 ≡ suc doublings = omega arith in
    let more : 2 ^ doublings + 2 ^ doublings ≡ 2 ^ (doublings + 1) = omega (arith, pow-suc 2 doublings, ap (λ k. 2 ^ k) next) in
    ap (λ xs. map (λ ancestor. option_and_then (λ zone. slice_index_or xs zone.0 None) ancestor) xs) is
    ∙ twice_is (2 ^ doublings) zones some ∙ ap (λ n. ancestors_of n zones) more

-- there is one for each zone
pub ancestors_many : (steps : ℕ) (zones : List ZoneRow) → length (ancestors_of steps zones) ≡ length zones
ancestors_many steps zones = length-map-range_with_len (λ i. ancestor steps zones (record { 0 = i })) 0 (length zones)
