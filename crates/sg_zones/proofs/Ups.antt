-- Steps up from a zone, and the path down to it.
use Rattle.std.proofs.Common.{◌≡◌, ◌-◌, ◌<◌, ◌≤◌, ◌⊎◌, inl, inr, ℕ, zero, suc, Bool, true, false, List, [], ◌∷◌, ◌++◌, length, length-append, map, get_or, Option, None, Some, arith, refl, sym, ◌∙◌, ap, subst}
use Rattle.std.specs.List.{list_any}
use Rattle.std.specs.Option.{option_map_or}
use Rattle.std.specs.Prelude.{◌==◌, ◌||◌, option_and_then}
use Rattle.std.proofs.lemmas.Bool.Decides.{nat_tests}
use Rattle.std.proofs.lemmas.List.{get_or-map, get_or_append_left, get_or-append_right, length-map}
use Rattle.std.proofs.lemmas.List.Folds.{list_any-append}
use Rattle.sg_base.specs.declared.ids.PointId.{PointId}
use Rattle.sg_base.specs.declared.ids.ZoneId.{ZoneId}
use Rattle.sg_platform_rows.specs.Platform.{IsPlatform, Platform}
use Rattle.sg_platform_rows.specs.declared.rows.HostRow.{HostRow}
use Rattle.sg_platform_rows.specs.declared.rows.RouterRow.{RouterRow}
use Rattle.sg_platform_rows.specs.declared.rows.ZoneRow.{ZoneRow}
use Rattle.sg_zones.specs.Faults.{row_fault, tree_fault, zone_fault}
use Rattle.sg_zones.specs.Laws.{DepthByStepsUp, HoldsByStepsUp}
use Rattle.sg_zones.specs.Paths.{ancestor, parent_zone, path}
use Rattle.sg_zones.specs.Tree.{depth, home, path_in, zone_tree}
use Rattle.sg_zones.proofs.Ancestors.{split_at}
use Rattle.sg_zones.proofs.GoodTree.{HasDepth, both_none, depth_here, path_at}
use Rattle.sg_zones.proofs.TreeLemmas.{AboveIs, IsDepth, path_deep, path_length}

-- ---- along a path

-- the zone is among these
abbrev is_among : ZoneId → List ZoneId → Bool
is_among zone zones = list_any (λ z. z.0 == zone.0) zones

zone_is : (a b : ZoneId) → (a.0 == b.0) ≡ true → a ≡ b
zone_is a b same =
    let n : a.0 ≡ b.0 = grind (arith, nat_tests) in
    let make : ℕ → ZoneId = λ k. record { 0 = k } in
    ap make n

same_zone : (z : ZoneId) → (z.0 == z.0) ≡ true
same_zone z = grind (arith, nat_tests)

or_left : (a b : Bool) → a ≡ true → (a || b) ≡ true
or_left true b h = refl
or_left false b h = absurd (cc)

or_right : (a b : Bool) → b ≡ true → (a || b) ≡ true
or_right true b h = refl
or_right false b h = h

either : (a b : Bool) → (a || b) ≡ true → (a ≡ true) ⊎ (b ≡ true)
either true b h = inl refl
either false b h = inr h

abbrev SomeUp : List ZoneRow → ZoneId → ZoneId → Type 0
SomeUp zones from to = (steps : ℕ) × (ancestor steps zones from ≡ Some to)

-- each zone on a path is some steps up from its end
on_path : (levels : ℕ) (zones : List ZoneRow) (zone x : ZoneId) → is_among x (path levels zones zone) ≡ true → SomeUp zones zone x
unfolding path ancestor
on_path zero zones zone x h = absurd (cc)
on_path (suc levels) zones zone x h = go (parent_zone zones zone) refl (λ above k. on_path levels zones above x k) h
  where
    here : (front : List ZoneId) → (is_among x front ≡ true → SomeUp zones zone x) → is_among x (front ++ zone ∷ []) ≡ true → SomeUp zones zone x
    here front more among = split (either (is_among x front) (is_among x (zone ∷ [])) (sym (list_any-append (λ z. z.0 == x.0) front (zone ∷ [])) ∙ among))
      where
        split : ((is_among x front ≡ true) ⊎ (is_among x (zone ∷ []) ≡ true)) → SomeUp zones zone x
        split (inl k) = more k
        split (inr k) = last (either (zone.0 == x.0) false k)
          where
            last : (((zone.0 == x.0) ≡ true) ⊎ (false ≡ true)) → SomeUp zones zone x
            last (inl e) = (0, ap (λ z. Some z) (zone_is zone x e))
            last (inr e) = absurd (cc)

    go : (o : Option ZoneId) → parent_zone zones zone ≡ o → ((above : ZoneId) → is_among x (path levels zones above) ≡ true → SomeUp zones above x)
        → is_among x (option_map_or (path levels zones) o [] ++ zone ∷ []) ≡ true → SomeUp zones zone x
    go None up more among = here [] (λ k. absurd (cc)) among
    go (Some above) up more among =
        here (path levels zones above) (λ k. let r = more above k in (suc r.0, ap (λ o. option_and_then (ancestor r.0 zones) o) up ∙ r.1)) among

-- and each zone some steps up is on the path
up_on_path : (steps d : ℕ) (zones : List ZoneRow) (zone x : ZoneId) → IsDepth (suc d) zones zone → ancestor steps zones zone ≡ Some x → is_among x (path (suc d) zones zone) ≡ true
unfolding path ancestor
up_on_path zero d zones zone x deep up =
    let same : zone ≡ x = cc in
    let P : ZoneId → Type 0 = λ z. is_among z (option_map_or (path d zones) (parent_zone zones zone) [] ++ zone ∷ []) ≡ true in
    subst P same (list_any-append (λ z. z.0 == zone.0) (option_map_or (path d zones) (parent_zone zones zone) []) (zone ∷ [])
    ∙ or_right (is_among zone (option_map_or (path d zones) (parent_zone zones zone) [])) (is_among zone (zone ∷ [])) (or_left (zone.0 == zone.0) false (same_zone zone)))
up_on_path (suc steps) zero zones zone x deep up = go (parent_zone zones zone) deep up
  where
    go : (o : Option ZoneId) → AboveIs (IsDepth 0 zones) 0 o → option_and_then (ancestor steps zones) o ≡ Some x → is_among x (option_map_or (path 0 zones) o [] ++ zone ∷ []) ≡ true
    go None h e = absurd (cc)
    go (Some above) h e = absurd h
up_on_path (suc steps) (suc d) zones zone x deep up = go (parent_zone zones zone) deep up (λ above h e. up_on_path steps d zones above x h e)
  where
    go : (o : Option ZoneId) → AboveIs (IsDepth (suc d) zones) (suc d) o → option_and_then (ancestor steps zones) o ≡ Some x
        → ((above : ZoneId) → IsDepth (suc d) zones above → ancestor steps zones above ≡ Some x → is_among x (path (suc d) zones above) ≡ true)
        → is_among x (option_map_or (path (suc d) zones) o [] ++ zone ∷ []) ≡ true
    go None h e more = absurd (cc)
    go (Some above) h e more =
        list_any-append (λ z. z.0 == x.0) (path (suc d) zones above) (zone ∷ [])
        ∙ or_left (is_among x (path (suc d) zones above)) (is_among x (zone ∷ [])) (more above h e)

-- ---- up to the root

abbrev RootUp : List ZoneRow → ZoneId → ℕ → Type 0
RootUp zones zone steps = (root : ZoneId) × (ancestor steps zones zone ≡ Some root) × (parent_zone zones root ≡ None)

root_up : (d : ℕ) (zones : List ZoneRow) (zone : ZoneId) → IsDepth (suc d) zones zone → RootUp zones zone d
unfolding ancestor
root_up zero zones zone deep = (zone, refl, go (parent_zone zones zone) deep)
  where
    go : (o : Option ZoneId) → AboveIs (IsDepth 0 zones) 0 o → o ≡ None
    go None h = refl
    go (Some above) h = absurd h
root_up (suc d) zones zone deep = go (parent_zone zones zone) refl deep (λ above h. root_up d zones above h)
  where
    go : (o : Option ZoneId) → parent_zone zones zone ≡ o → AboveIs (IsDepth (suc d) zones) (suc d) o → ((above : ZoneId) → IsDepth (suc d) zones above → RootUp zones above d) → RootUp zones zone (suc d)
    go None up h more = absurd (omega (arith, h))
    go (Some above) up h more = let r = more above h in (r.0, ap (λ o. option_and_then (ancestor d zones) o) up ∙ r.1, r.2)

-- ---- the zone of a point exists

pub home_exists : (p : Platform) → IsPlatform p → (point : PointId) → point.0 < length (zone_tree p).homes → (home (zone_tree p) point).0 < length p.zones
home_exists p kept point there = go (split_at point.0 (length p.hosts))
  where
    hosts : List ZoneId
    hosts = map (λ row. row.zone) p.hosts

    routers : List ZoneId
    routers = map (λ row. row.zone) p.routers

    d : ZoneId
    d = record { 0 = 0 }

    in_zones : (a b : ZoneId) → a ≡ b → b.0 < length p.zones → a.0 < length p.zones
    in_zones a b e h = let n : a.0 ≡ b.0 = ap (λ z. z.0) e in omega arith

    go : ((point.0 < length p.hosts) ⊎ (length p.hosts ≤ point.0)) → (get_or (hosts ++ routers) point.0 d).0 < length p.zones
    go (inl few) =
        let h : HostRow = get_or p.hosts point.0 (record { id = []; zone = d; speed = 0; cores = 0; power = None }) in
        in_zones _ h.zone
        (get_or_append_left hosts routers d point.0 (omega (arith, length-map p.hosts (λ row. row.zone))) ∙ get_or-map (λ row. row.zone) p.hosts point.0 (record { id = []; zone = d; speed = 0; cores = 0; power = None }) d few)
        (kept.hosts point.0 (record { id = []; zone = d; speed = 0; cores = 0; power = None }) few).zone
    go (inr many) =
        let n = length-map p.hosts (λ row. row.zone) in
        let m = length-map p.routers (λ row. row.zone) in
        let s = length-append hosts routers in
        let k = point.0 - length hosts in
        let few : k < length p.routers = omega (arith, n, m, s, there) in
        let r : RouterRow = get_or p.routers k (record { id = []; zone = d }) in
        in_zones _ r.zone
        (get_or-append_right hosts routers (length hosts) point.0 d refl (omega (arith, n)) ∙ get_or-map (λ row. row.zone) p.routers k (record { id = []; zone = d }) d few)
        (kept.routers k (record { id = []; zone = d }) few).zone

-- ---- the laws

good_tree : (p : Platform) → zone_fault p ≡ None → tree_fault p.zones ≡ None
good_tree p none = (both_none (tree_fault p.zones) (row_fault (zone_tree p) p) none).0

-- the path of a zone that exists, through as many levels as it is deep
path_here : (p : Platform) (zone : ZoneId) → zone.0 < length p.zones → (d : HasDepth p.zones zone) → path_in (zone_tree p) zone ≡ path (suc d.depth) p.zones zone
path_here p zone inside d = let s = d.shallow in path_at p.zones zone inside ∙ path_deep (suc d.depth) 16 p.zones zone d.is (omega arith)

pub holds_by_steps_up : (p : Platform) → IsPlatform p → zone_fault p ≡ None → HoldsByStepsUp p
holds_by_steps_up p kept none zone point there =
    let own : ZoneId = home (zone_tree p) point in
    let inside = home_exists p kept point there in
    let d = depth_here p.zones own (good_tree p none) inside in
    let e = path_here p own inside d in (
      (λ held. let r = on_path (suc d.depth) p.zones own zone (ap (λ q. is_among zone q) (sym e) ∙ held) in record { steps = r.0; leads = r.1 }),
      (λ up. ap (λ q. is_among zone q) e ∙ up_on_path up.steps d.depth p.zones own zone d.is up.leads),
    )

pub depth_by_steps_up : (p : Platform) → zone_fault p ≡ None → DepthByStepsUp p
depth_by_steps_up p none zone inside =
    let d = depth_here p.zones zone (good_tree p none) inside in
    let r = root_up d.depth p.zones zone d.is in
    let n : depth (zone_tree p) zone ≡ suc d.depth = ap length (path_here p zone inside d) ∙ path_length (suc d.depth) p.zones zone d.is in
    record { steps = d.depth; up = record { root = r.0; leads = r.1; top = r.2 }; depth = omega (arith, n) }
