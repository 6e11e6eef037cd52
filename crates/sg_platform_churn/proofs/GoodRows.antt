-- The rows of a churn break no rule.
use Rattle.std.proofs.Common.{◌≡◌, ◌≢◌, ℕ, ◌+◌, ◌*◌, ◌%◌, ◌<◌, ◌≤◌, List, [], ◌∷◌, ◌++◌, length, get_or, map, codes, None, IsTrue, refl, sym, subst, ap, arith, length-append}
use Rattle.std.proofs.lemmas.Fmt.{length-decimal-le}
use Rattle.std.proofs.lemmas.List.Elements.{All-cons, All-nil}
use Rattle.std.proofs.lemmas.List.FromFn.{length-range_with_len}
use Rattle.std.proofs.lemmas.Nat.{mod_below}
use Rattle.std.proofs.lemmas.Simd.{map-map}
use Rattle.std.specs.Fn.{iterate}
use Rattle.std.specs.List.{All, flat_map, range_with_len}
use Rattle.sg_base.specs.Draw.{drawn, next_state}
use Rattle.sg_base.specs.declared.ids.LinkId.{LinkId}
use Rattle.sg_base.specs.declared.ids.PointId.{PointId}
use Rattle.sg_platform_churn.proofs.GoodNames.{row_names_behind}
use Rattle.sg_platform_churn.proofs.NumberedRows.{all_rows, distinct_rows, length-rows}
use Rattle.sg_platform_churn.specs.Generated.{drawn_after, churn_host, link_of, link_with, churn_name, rows, spoke_of}
use Rattle.sg_platform_rows.proofs.Networks.{plain_kept}
use Rattle.sg_platform_rows.specs.Ends.{ends_from, link_ends}
use Rattle.sg_platform_rows.specs.OfRows.{AreDistinct, AreNames, AreRows, IsOfRow, names_of_link, platform_with, point_names}
use Rattle.sg_platform_rows.specs.Platform.{Counts, IsHostRow, IsLinkList, IsLinkRow, IsPlatform, IsSpokeRow, IsZoneRow, counts_of}
use Rattle.sg_platform_rows.specs.declared.rows.HostRow.{HostRow}
use Rattle.sg_platform_rows.specs.declared.rows.LinkRow.{LinkRow}
use Rattle.sg_platform_rows.specs.declared.rows.Routing.TheVariants.{Star}
use Rattle.sg_platform_rows.specs.declared.rows.SpokeRow.{SpokeRow}
use Rattle.sg_platform_rows.specs.declared.rows.ZoneRow.{ZoneRow}
use Rattle.sg_toml_tree.specs.Spelling.{is_name}

-- the zone, and the first link
abbrev pub star : ZoneRow
star = record { id = codes "z"; parent = None; routing = Star }

abbrev pub backbone : LinkRow
backbone = link_with (codes "bb") 1000000000 1000

one_to : (n most : ℕ) → 0 < most → (1 ≤ 1 + n % most) × (1 + n % most ≤ most)
one_to n most some = (omega arith, omega (arith, mod_below n most some))

drawn_bounds : (seed draws most : ℕ) → 0 < most → (1 ≤ drawn_after seed draws most) × (drawn_after seed draws most ≤ most)
unfolding drawn_after
drawn_bounds seed draws most some = one_to (drawn (iterate next_state draws seed)) most some

pub name_short : (c row : ℕ) → row < 4096 → length (churn_name (c ∷ []) row) ≤ 64
name_short c row few = omega (arith, length-decimal-le 5 (row + 1) (omega arith) (omega arith) (omega arith))

host_good : (counts : Counts) (seed row : ℕ) → 0 < counts.zones → row < 4096 → IsHostRow counts (churn_host seed row)
host_good counts seed row some few =
    let speed = drawn_bounds seed (3 * row) 8 (omega arith) in
    record {
      id = name_short 104 row few;
      zone = some;
      some_speed = omega (arith, speed.0);
      speed = omega (arith, speed.1);
      some_cores = omega arith;
      cores = omega arith;
      power = tt;
    }

link_good : (seed row : ℕ) → row < 4096 → IsLinkRow (link_of seed row)
link_good seed row few =
    let bandwidth = drawn_bounds seed (3 * row + 1) 8 (omega arith) in
    let latency = drawn_bounds seed (3 * row + 2) 100 (omega arith) in
    record {
      id = name_short 108 row few;
      some_bandwidth = omega (arith, bandwidth.0);
      bandwidth = omega (arith, bandwidth.1);
      latency = omega (arith, latency.1);
    }

two_links : (counts : Counts) (a b : LinkId) → a.0 < counts.links → b.0 < counts.links → IsLinkList counts (a ∷ (b ∷ []))
two_links counts a b first second = record {
  some = omega arith;
  few = omega arith;
  each = All-cons (λ l. l.0 < counts.links) a (b ∷ []) first (All-cons (λ l. l.0 < counts.links) b [] second (All-nil (λ l. l.0 < counts.links)));
}

spoke_good : (counts : Counts) (row : ℕ) → 0 < counts.zones → row < counts.points → row + 1 < counts.links → IsSpokeRow counts (spoke_of row)
spoke_good counts row some point own = record {
  zone = some;
  child = point;
  gateway = point;
  up = two_links counts (record { 0 = row + 1 }) (record { 0 = 0 }) own (omega arith);
  down = two_links counts (record { 0 = 0 }) (record { 0 = row + 1 }) (omega arith) own;
}

-- each row of a link stands for one link
shared_ends : (seed first : ℕ) (ks : List ℕ) → length (ends_from first (map (link_of seed) ks)) ≡ length ks
shared_ends seed first [] = refl
shared_ends seed first (k ∷ ks) = omega (arith, shared_ends seed (first + 1) ks)

links_count : (seed actors : ℕ) → length (link_ends (backbone ∷ rows (link_of seed) actors)) ≡ actors + 2
links_count seed actors =
    omega (arith, length-append (ends_from 0 (backbone ∷ rows (link_of seed) actors)), shared_ends seed 1 (range_with_len 0 actors), length-range_with_len 0 actors)

platform_kept : (seed actors : ℕ) (counts : Counts) → counts ≡ counts_of (platform_with (star ∷ []) (rows (churn_host seed) actors) (backbone ∷ rows (link_of seed) actors) (rows spoke_of actors))
    → counts.zones ≡ 1 → counts.points ≡ actors → counts.links ≡ actors + 2 → actors ≤ 4096
    → IsPlatform (platform_with (star ∷ []) (rows (churn_host seed) actors) (backbone ∷ rows (link_of seed) actors) (rows spoke_of actors))
platform_kept seed actors counts same zones points links few = record {
  few_zones = omega arith;
  few_hosts = omega (arith, length-rows (churn_host seed) actors);
  few_routers = omega arith;
  few_links = omega (arith, length-rows (link_of seed) actors);
  few_routes = omega arith;
  few_zone_routes = omega arith;
  few_spokes = omega (arith, length-rows spoke_of actors);
  few_profiles = omega arith;
  few_state_profiles = omega arith;
  zones = subst (λ c. All (IsZoneRow c) (star ∷ [])) same (All-cons (IsZoneRow counts) star [] (record { id = omega arith; parent = tt }) (All-nil (IsZoneRow counts)));
  hosts = subst (λ c. All (IsHostRow c) (rows (churn_host seed) actors)) same
      (all_rows (IsHostRow counts) (churn_host seed) actors (λ k below. host_good counts seed k (omega arith) (omega arith)));
  routers = All-nil _;
  links = All-cons IsLinkRow backbone (rows (link_of seed) actors) (record { id = omega arith; some_bandwidth = omega arith; bandwidth = omega arith; latency = omega arith })
      (all_rows IsLinkRow (link_of seed) actors (λ k below. link_good seed k (omega arith)));
  routes = All-nil _;
  zone_routes = All-nil _;
  spokes = subst (λ c. All (IsSpokeRow c) (rows spoke_of actors)) same
      (all_rows (IsSpokeRow counts) spoke_of actors (λ k below. spoke_good counts k (omega arith) (omega arith) (omega arith)));
  network = plain_kept;
  profiles = All-nil _;
  state_profiles = All-nil _;
}

star_named : IsTrue (is_name (codes "z"))
unfolding is_name
star_named = refl

backbone_named : IsTrue (is_name (codes "bb"))
unfolding is_name
backbone_named = refl

points_named : (seed actors : ℕ) → actors ≤ 4096 → AreNames (point_names (star ∷ []) (rows (churn_host seed) actors))
points_named seed actors few =
    subst (λ names. AreNames (codes "z" ∷ names)) (sym (map-map (λ host. host.id) (churn_host seed) (range_with_len 0 actors)))
    (row_names_behind (codes "z") 104 actors star_named refl (λ row same. let first : 122 ≡ 104 = ap (λ (name : List ℕ). get_or name 0 0) same in absurd (omega arith)) few)

-- a SHARED link takes its own name alone
own_names : (seed : ℕ) (ks : List ℕ) → flat_map names_of_link (map (link_of seed) ks) ≡ map (churn_name (codes "l")) ks
own_names seed [] = refl
own_names seed (k ∷ ks) = ap (λ names. churn_name (codes "l") k ∷ names) (own_names seed ks)

links_named : (seed actors : ℕ) → actors ≤ 4096 → AreNames (flat_map names_of_link (backbone ∷ rows (link_of seed) actors))
links_named seed actors few =
    subst (λ names. AreNames (codes "bb" ∷ names)) (sym (own_names seed (range_with_len 0 actors)))
    (row_names_behind (codes "bb") 108 actors backbone_named refl (λ row same. let first : 98 ≡ 108 = ap (λ (name : List ℕ). get_or name 0 0) same in absurd (omega arith)) few)

children_differ : (actors : ℕ) → AreDistinct (map (λ spoke. spoke.child) (rows spoke_of actors))
children_differ actors =
    subst AreDistinct (sym (map-map (λ spoke. spoke.child) spoke_of (range_with_len 0 actors)))
    (distinct_rows (λ row. (spoke_of row).child) actors differ)
  where
    point : ℕ → PointId
    point row = record { 0 = row }

    differ : (i j : ℕ) → i < j → j < actors → (spoke_of i).child ≢ (spoke_of j).child
    differ i j before below same =
        let points : point i ≡ point j = cc in
        let equal : i ≡ j = ap (λ (p : PointId). p.0) points in
        absurd (omega arith)

four_links : (links : List LinkRow) (k : ℕ) → k + 1 + 1 < length (link_ends links) → 0 + 1 < length (link_ends links) → All (IsOfRow links) ((spoke_of k).up ++ (spoke_of k).down)
four_links links k own shared =
    let mine : LinkId = record { 0 = k + 1 } in
    let bone : LinkId = record { 0 = 0 } in
    All-cons (IsOfRow links) mine (bone ∷ (bone ∷ (mine ∷ []))) own (All-cons (IsOfRow links) bone (bone ∷ (mine ∷ [])) shared
    (All-cons (IsOfRow links) bone (mine ∷ []) shared (All-cons (IsOfRow links) mine [] own (All-nil (IsOfRow links)))))

ways_of_rows : (seed actors : ℕ) → All (λ spoke. All (IsOfRow (backbone ∷ rows (link_of seed) actors)) (spoke.up ++ spoke.down)) (rows spoke_of actors)
ways_of_rows seed actors =
    let links : List LinkRow = backbone ∷ rows (link_of seed) actors in
    all_rows (λ spoke. All (IsOfRow links) (spoke.up ++ spoke.down)) spoke_of actors (λ k below. four_links links k (omega (arith, links_count seed actors)) (omega (arith, links_count seed actors)))

rows_good : (seed actors : ℕ) → actors ≤ 4096 → AreRows (star ∷ []) (rows (churn_host seed) actors) (backbone ∷ rows (link_of seed) actors) (rows spoke_of actors)
rows_good seed actors few =
    let counts : Counts = counts_of (platform_with (star ∷ []) (rows (churn_host seed) actors) (backbone ∷ rows (link_of seed) actors) (rows spoke_of actors)) in
    record {
      kept = platform_kept seed actors counts refl (omega arith) (omega (arith, length-rows (churn_host seed) actors)) (links_count seed actors) few;
      named_points = points_named seed actors few;
      named_links = links_named seed actors few;
      children = children_differ actors;
      ways = ways_of_rows seed actors;
    }

pub platform_good : (seed actors : ℕ) (zones : List ZoneRow) (hosts : List HostRow) (links : List LinkRow) (spokes : List SpokeRow)
    → zones ≡ star ∷ [] → hosts ≡ rows (churn_host seed) actors → links ≡ backbone ∷ rows (link_of seed) actors → spokes ≡ rows spoke_of actors → actors ≤ 4096
    → AreRows zones hosts links spokes
platform_good seed actors zones hosts links spokes a b c d few = rw (a, b, c, d) (rows_good seed actors few)
