-- Paths down to a zone.
use Rattle.std.proofs.Common.{◌≡◌, ◌<◌, ◌-◌, ◌++◌, ◌∷◌, ℕ, zero, suc, List, [], arith, refl, ap, sym, ◌∙◌, append_assoc, Option, None, Some, length, length-append, ◌≤◌}
use Rattle.std.specs.Option.{option_map_or}
use Rattle.sg_base.specs.declared.ids.ZoneId.{ZoneId}
use Rattle.sg_platform_rows.specs.declared.rows.ZoneRow.{ZoneRow}
use Rattle.sg_zones.specs.Paths.{path, parent_zone}

-- a path through one level at least
pub path_step : (levels : ℕ) (zones : List ZoneRow) (zone : ZoneId) → 0 < levels → path levels zones zone ≡ option_map_or (path (levels - 1) zones) (parent_zone zones zone) [] ++ zone ∷ []
unfolding path
path_step zero zones zone some = absurd (omega arith)
path_step (suc levels) zones zone some =
    let e : suc levels - 1 ≡ levels = omega arith in
    rw e refl

-- a path through no level
pub path_zero : (levels : ℕ) (zones : List ZoneRow) (zone : ZoneId) → levels ≡ 0 → path levels zones zone ≡ []
unfolding path
path_zero levels zones zone none = rw none refl

-- what is written for a zone with a parent
pub path_through : (levels : ℕ) (zones : List ZoneRow) (zone above : ZoneId) (old mid new : List ZoneId) → 0 < levels → parent_zone zones zone ≡ Some above
    → mid ≡ old ++ path (levels - 1) zones above → new ≡ mid ++ zone ∷ [] → new ≡ old ++ path levels zones zone
path_through levels zones zone above old mid new some is front last =
    last ∙ ap (λ xs. xs ++ zone ∷ []) front ∙ append_assoc old (path (levels - 1) zones above) (zone ∷ [])
    ∙ sym (ap (λ xs. old ++ xs) (path_step levels zones zone some ∙ ap (λ o. option_map_or (path (levels - 1) zones) o [] ++ zone ∷ []) is))

-- it has no more zones than levels
pub path_short : (levels : ℕ) (zones : List ZoneRow) (zone : ZoneId) → length (path levels zones zone) ≤ levels
unfolding path
path_short zero zones zone = omega arith
path_short (suc levels) zones zone = go (parent_zone zones zone) (λ above. path_short levels zones above)
  where
    go : (o : Option ZoneId) → ((above : ZoneId) → length (path levels zones above) ≤ levels) → length (option_map_or (path levels zones) o [] ++ zone ∷ []) ≤ suc levels
    go None h = omega arith
    go (Some above) h = rw length-append (omega (arith, h above))
