-- Paths in a good tree.
use Rattle.std.proofs.Common.{◌≡◌, ◌<◌, ◌≤◌, ◌⊎◌, inl, inr, ℕ, zero, suc, List, [], ◌∷◌, ◌++◌, length, take, get_or, Option, None, Some, arith, refl, sym, ◌∙◌, ap, subst, length-append}
use Rattle.std.specs.Option.{option_map_or}
use Rattle.std.specs.Prelude.{option_and_then}
use Rattle.sg_platform_rows.specs.declared.rows.ZoneRow.{ZoneRow}
use Rattle.sg_base.specs.declared.ids.ZoneId.{ZoneId}
use Rattle.sg_zones.specs.Paths.{ancestor, parent_zone, path}

-- what holds of the zone above, or that there is none and so many levels are left
abbrev pub AboveIs : (ZoneId → Type 0) → ℕ → Option ZoneId → Type 0
AboveIs P d None = d ≡ 0
AboveIs P d (Some above) = P above

-- the zone has this depth
abbrev pub IsDepth : ℕ → List ZoneRow → ZoneId → Type 0
IsDepth zero zones zone = ⊥
IsDepth (suc d) zones zone = AboveIs (IsDepth d zones) d (parent_zone zones zone)

-- a zone that isn't so many steps below another has a depth
pub depth_found : (steps : ℕ) (zones : List ZoneRow) (zone : ZoneId) → ancestor steps zones zone ≡ None → (d : ℕ) × (d < steps) × IsDepth (suc d) zones zone
unfolding ancestor
depth_found zero zones zone h = absurd (cc)
depth_found (suc steps) zones zone h = go (parent_zone zones zone) h (λ above k. depth_found steps zones above k)
  where
    go : (o : Option ZoneId) → option_and_then (ancestor steps zones) o ≡ None → ((above : ZoneId) → ancestor steps zones above ≡ None → (d : ℕ) × (d < steps) × IsDepth (suc d) zones above)
        → (d : ℕ) × (d < suc steps) × AboveIs (IsDepth d zones) d o
    go None h more = (0, omega arith, refl)
    go (Some above) h more = let r = more above h in (suc r.0, omega (arith, r.1), r.2)

-- more levels than the depth add nothing
pub path_deep : (d levels : ℕ) (zones : List ZoneRow) (zone : ZoneId) → IsDepth d zones zone → d ≤ levels → path levels zones zone ≡ path d zones zone
unfolding path
path_deep zero levels zones zone h few = absurd h
path_deep (suc d) zero zones zone h few = absurd (omega arith)
path_deep (suc d) (suc levels) zones zone h few = go (parent_zone zones zone) h (λ above k. path_deep d levels zones above k (omega arith))
  where
    go : (o : Option ZoneId) → AboveIs (IsDepth d zones) d o → ((above : ZoneId) → IsDepth d zones above → path levels zones above ≡ path d zones above)
        → option_map_or (path levels zones) o [] ++ zone ∷ [] ≡ option_map_or (path d zones) o [] ++ zone ∷ []
    go None h more = refl
    go (Some above) h more = ap (λ xs. xs ++ zone ∷ []) (more above h)

pub path_length : (d : ℕ) (zones : List ZoneRow) (zone : ZoneId) → IsDepth d zones zone → length (path d zones zone) ≡ d
unfolding path
path_length zero zones zone h = absurd h
path_length (suc d) zones zone h = go (parent_zone zones zone) h (λ above k. path_length d zones above k)
  where
    go : (o : Option ZoneId) → AboveIs (IsDepth d zones) d o → ((above : ZoneId) → IsDepth d zones above → length (path d zones above) ≡ d)
        → length (option_map_or (path d zones) o [] ++ zone ∷ []) ≡ suc d
    go None h more = omega arith
    go (Some above) h more = rw length-append (omega (arith, more above h))

last_of : (xs : List ZoneId) (z x : ZoneId) (k : ℕ) → k ≡ length xs → get_or (xs ++ z ∷ []) k x ≡ z
last_of [] z x k e = rw e refl
last_of (y ∷ xs) z x zero e = absurd (omega arith)
last_of (y ∷ xs) z x (suc k) e = last_of xs z x k (omega arith)

pub inner_of : (xs : List ZoneId) (z x : ZoneId) (k : ℕ) → k < length xs → get_or (xs ++ z ∷ []) k x ≡ get_or xs k x
inner_of [] z x k few = absurd (omega arith)
inner_of (y ∷ xs) z x zero few = refl
inner_of (y ∷ xs) z x (suc k) few = inner_of xs z x k (omega arith)

take_inner : (xs : List ZoneId) (z : ZoneId) (k : ℕ) → k ≤ length xs → take k (xs ++ z ∷ []) ≡ take k xs
take_inner [] z zero few = refl
take_inner [] z (suc k) few = absurd (omega arith)
take_inner (y ∷ xs) z zero few = refl
take_inner (y ∷ xs) z (suc k) few = ap (λ r. y ∷ r) (take_inner xs z k (omega arith))

take_whole : (xs : List ZoneId) (k : ℕ) → k ≡ length xs → take k xs ≡ xs
take_whole [] zero e = refl
take_whole [] (suc k) e = refl
take_whole (y ∷ xs) zero e = absurd (omega arith)
take_whole (y ∷ xs) (suc k) e = ap (λ r. y ∷ r) (take_whole xs k (omega arith))

-- each zone on a path has the prefix of that path as its own path
pub record IsFront (k : ℕ) (zones : List ZoneRow) (zone : ZoneId) (whole : List ZoneId) : Type 0 where
  pub depth : IsDepth (suc k) zones zone
  pub front : path (suc k) zones zone ≡ take (suc k) whole

pub split : (k d : ℕ) → k < suc d → (k ≡ d) ⊎ (k < d)
split zero zero few = inl refl
split zero (suc d) few = inr (omega arith)
split (suc k) zero few = absurd (omega arith)
split (suc k) (suc d) few = go (split k d (omega arith))
  where
    go : ((k ≡ d) ⊎ (k < d)) → (suc k ≡ suc d) ⊎ (suc k < suc d)
    go (inl e) = inl (ap suc e)
    go (inr h) = inr (omega arith)

pub path_last : (d : ℕ) (zones : List ZoneRow) (zone x : ZoneId) → IsDepth (suc d) zones zone → get_or (path (suc d) zones zone) d x ≡ zone
unfolding path
path_last d zones zone x h = go (parent_zone zones zone) h (λ above k. path_length d zones above k)
  where
    go : (o : Option ZoneId) → AboveIs (IsDepth d zones) d o → ((above : ZoneId) → IsDepth d zones above → length (path d zones above) ≡ d)
        → get_or (option_map_or (path d zones) o [] ++ zone ∷ []) d x ≡ zone
    go None e more = last_of [] zone x d e
    go (Some above) k more = last_of (path d zones above) zone x d (sym (more above k))

front_whole : (d k : ℕ) (zones : List ZoneRow) (zone x : ZoneId) → IsDepth (suc d) zones zone → k ≡ d → get_or (path (suc d) zones zone) k x ≡ x → IsFront k zones x (path (suc d) zones zone)
front_whole d k zones zone x h e at =
    let same : zone ≡ x = sym (path_last d zones zone x h) ∙ ap (λ i. get_or (path (suc d) zones zone) i x) (sym e) ∙ at in
    let whole : take (suc d) (path (suc d) zones zone) ≡ path (suc d) zones zone = take_whole (path (suc d) zones zone) (suc d) (sym (path_length (suc d) zones zone h)) in
    let D : ℕ → Type 0 = λ n. IsDepth (suc n) zones zone in
    let Z : ZoneId → Type 0 = λ z. IsDepth (suc k) zones z in
    let P : ℕ → Type 0 = λ n. path (suc n) zones zone ≡ take (suc n) (path (suc d) zones zone) in
    let Q : ZoneId → Type 0 = λ z. path (suc k) zones z ≡ take (suc k) (path (suc d) zones zone) in
    record { depth = subst Z same (subst D (sym e) h); front = subst Q same (subst P (sym e) (sym whole)) }

front_inner : (d k : ℕ) (zones : List ZoneRow) (zone x : ZoneId) → IsDepth (suc d) zones zone → k < d → get_or (path (suc d) zones zone) k x ≡ x
    → ((above : ZoneId) → IsDepth d zones above → get_or (path d zones above) k x ≡ x → IsFront k zones x (path d zones above)) → IsFront k zones x (path (suc d) zones zone)
unfolding path
front_inner d k zones zone x h few at more = go (parent_zone zones zone) h at more (λ above i. path_length d zones above i)
  where
    go : (o : Option ZoneId) → AboveIs (IsDepth d zones) d o → get_or (option_map_or (path d zones) o [] ++ zone ∷ []) k x ≡ x
        → ((above : ZoneId) → IsDepth d zones above → get_or (path d zones above) k x ≡ x → IsFront k zones x (path d zones above))
        → ((above : ZoneId) → IsDepth d zones above → length (path d zones above) ≡ d)
        → IsFront k zones x (option_map_or (path d zones) o [] ++ zone ∷ [])
    go None e at more len = absurd (omega arith)
    go (Some above) i at more len =
        let l = len above i in
        let f = more above i (sym (inner_of (path d zones above) zone x k (omega arith)) ∙ at) in
        record { depth = f.depth; front = f.front ∙ sym (take_inner (path d zones above) zone (suc k) (omega arith)) }

pub path_front : (d k : ℕ) (zones : List ZoneRow) (zone x : ZoneId) → IsDepth d zones zone → k < d → get_or (path d zones zone) k x ≡ x → IsFront k zones x (path d zones zone)
path_front zero k zones zone x h few at = absurd h
path_front (suc d) k zones zone x h few at = go (split k d few) (λ above i inside there. path_front d k zones above x i inside there)
  where
    go : ((k ≡ d) ⊎ (k < d)) → ((above : ZoneId) → IsDepth d zones above → k < d → get_or (path d zones above) k x ≡ x → IsFront k zones x (path d zones above))
        → IsFront k zones x (path (suc d) zones zone)
    go (inl e) more = front_whole d k zones zone x h e at
    go (inr inside) more = front_inner d k zones zone x h inside at (λ above i there. more above i inside there)

-- a zone has one depth
pub depth_once : (d e : ℕ) (zones : List ZoneRow) (zone : ZoneId) → IsDepth d zones zone → IsDepth e zones zone → d ≡ e
depth_once zero e zones zone h k = absurd h
depth_once (suc d) zero zones zone h k = absurd k
depth_once (suc d) (suc e) zones zone h k = go (parent_zone zones zone) h k (λ above i j. depth_once d e zones above i j)
  where
    go : (o : Option ZoneId) → AboveIs (IsDepth d zones) d o → AboveIs (IsDepth e zones) e o → ((above : ZoneId) → IsDepth d zones above → IsDepth e zones above → d ≡ e) → suc d ≡ suc e
    go None h k more = omega arith
    go (Some above) h k more = ap suc (more above h k)
