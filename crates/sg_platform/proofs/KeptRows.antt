-- What holds of a row that breaks no rule.
use Rattle.std.proofs.Common.{◌≡◌, ℕ, ◌+◌, ◌-◌, ◌<◌, ◌≤◌, false, cond, is_none, not, nat_lt, ℤ, List, [], ◌∷◌, length, Option, Some, None, IfSome, option_and_then, option_map, unwrap_or, codes, refl, inl, inr, arith}
use Rattle.std.specs.List.{All}
use Rattle.std.specs.Option.{option_map_or}
use Rattle.std.proofs.lemmas.Bool.{cases_Bool}
use Rattle.std.proofs.lemmas.Bool.Decides.{nat_tests}
use Rattle.sg_base.specs.declared.ids.Child.TheVariants.{Point as PointChild, Zone as ZoneChild}
use Rattle.sg_platform_rows.proofs.EndsBelow.{way_back_kept}
use Rattle.sg_platform_rows.proofs.Networks.{plain_kept}
use Rattle.sg_platform.proofs.KeptPower.{power_kept, whole_holds}
use Rattle.sg_platform.proofs.LinkLists.{required_links, value_link_list}
use Rattle.sg_platform.specs.Build.{actor_row, child_of, gateway, host_row, link_row, links_at, mutex_row, network_row, point_id, route_row, router_row, semaphore_row, spoke_row, value_at, zone_id, zone_route_row, zone_row}
use Rattle.sg_platform_rows.specs.Deployment.{IsActorRow, IsSemaphoreRow}
use Rattle.sg_platform_rows.specs.Ends.{link_ends, way_back}
use Rattle.sg_platform_rows.specs.Network.{IsNetwork, plain_network}
use Rattle.sg_platform_rows.specs.Platform.{Counts, IsChild, IsHostRow, IsLinkList, IsLinkRow, IsRouteRow, IsRouterRow, IsSpokeRow, IsZoneRouteRow, IsZoneRow}
use Rattle.sg_platform_rows.specs.declared.rows.ActorRow.{ActorRow}
use Rattle.sg_platform_rows.specs.declared.rows.LinkRow.{LinkRow}
use Rattle.sg_toml_keys.proofs.Greatest.{quantity_within}
use Rattle.sg_toml_rules.proofs.Kept.{KeysKept, end_there, host_there, taken_there, link_name_short, name_short, optional_text, point_there, positive_there, required_text, unbroken, zone_there}
use Rattle.sg_toml_tree.specs.LinkNames.{is_split}
use Rattle.sg_toml_tree.specs.Names.{Known}
use Rattle.sg_toml_rules.proofs.FaultParts.{kinds_at}
use Rattle.sg_toml_rules.specs.Rules.{end_kinds, is_below, key_kinds, point_kinds, value_kinds}
use Rattle.sg_toml_keys.specs.Tables.{key, keys_of}
use Rattle.sg_toml_keys.specs.declared.tables.Need.TheVariants.{Optional, IfZone}
use Rattle.sg_toml_keys.specs.Units.{quantity_value, whole_value}
use Rattle.sg_toml_keys.specs.declared.units.Quantity.TheVariants.{Latency, Speed, Bandwidth, Factor, Amount}
use Rattle.sg_toml_keys.specs.declared.tables.Rule.TheVariants as rule
use Rattle.sg_toml_keys.specs.declared.tables.TextRule.TheVariants as text_rule
use Rattle.sg_toml_keys.specs.declared.tables.TextsRule.TheVariants as texts_rule
use Rattle.sg_toml_keys.specs.declared.tables.Table.TheVariants.{Zone, Host, Router, Link, Route, ZoneRoute, Spoke, Network, Actor, Mutex, Semaphore}
use Rattle.sg_toml_tree.proofs.Kept.{empty_right}
use Rattle.sg_toml_tree.specs.Along.{first}
use Rattle.sg_toml_tree.specs.Faults.{kind_if, of_type}
use Rattle.sg_toml_tree.specs.declared.fault.Kind.TheVariants.{BadValue, Unknown}
use Rattle.sg_toml_tree.specs.Tree.{text_at, text_or_empty}
use Rattle.toml.specs.Data.{Data, as_integer, as_str, get}

-- the numbers of names stay below the counts, and a link that has a name is not the loopback
pub record IsCounted (names : Known) (counts : Counts) : Type 0 where
  pub zones : names.zones ≡ counts.zones
  pub hosts : names.hosts ≡ counts.hosts
  pub points : (q : List ℕ) → IfSome (names.points q) (λ n. n < names.zones + counts.points)
  pub links : (q : List ℕ) → IfSome (names.links q) (λ n. n < counts.links)
  pub declared : (q : List ℕ) → IfSome (names.links q) (λ n. n + 1 < counts.links)

zone_below : (names : Known) (counts : Counts) → IsCounted names counts → (name : List ℕ) → kind_if (not (is_below (names.points name) names.zones)) Unknown ≡ [] → (zone_id names name).0 < counts.zones
zone_below names counts counted name empty =
    let there = zone_there names name empty in
    rw there.1 (omega (arith, there.2, counted.zones))

pub point_under : (zones points n : ℕ) → zones ≤ n → n < zones + points → n - zones < points
point_under zones points n low high = omega (arith, low, high)

point_below : (names : Known) (counts : Counts) → IsCounted names counts → (name : List ℕ) → point_kinds names name ≡ [] → (point_id names name).0 < counts.points
point_below names counts counted name empty =
    let there = point_there names name empty in
    let below = rw there.1 at (counted.points name) in
    rw there.1 (point_under names.zones counts.points there.0 there.2 below)

child_at : (zones points n : ℕ) (counts : Counts) → zones ≡ counts.zones → points ≡ counts.points → n < zones + points
    → IsChild counts (cond (nat_lt n zones) (ZoneChild (record { 0 = n })) (PointChild (record { 0 = n - zones })))
child_at zones points n counts same_zones same_points below =
    elim (cases_Bool (nat_lt n zones)) [
      | inl is_zone ↦ rw is_zone (let h : n < zones = grind (arith, nat_tests) in omega (arith, h, same_zones))
      | inr is_point ↦ rw is_point (let h : zones ≤ n = grind (arith, nat_tests) in omega (arith, point_under zones points n h below, same_points))
    ]

child_below : (names : Known) (counts : Counts) → IsCounted names counts → (name : List ℕ) → end_kinds names name ≡ [] → IsChild counts (child_of names name)
child_below names counts counted name empty =
    let there = end_there names name empty in
    let below = rw there.1 at (counted.points name) in
    rw there.1 (child_at names.zones counts.points there.0 counts counted.zones refl below)

-- if a gateway may be left out, its end is a point
absent_gateway : (names : Known) (counts : Counts) → IsCounted names counts → (end : List ℕ) → end_kinds names end ≡ [] → is_below (names.points end) names.zones ≡ false → (point_id names end).0 < counts.points
absent_gateway names counts counted end empty no_zone =
    let there = end_there names end empty in
    let below = rw there.1 at (counted.points end) in
    let other = rw there.1 at no_zone in
    rw there.1 (point_under names.zones counts.points there.0 (from there.0 other) below)
  where
    from : (n : ℕ) → nat_lt n names.zones ≡ false → names.zones ≤ n
    from n other = grind (arith, nat_tests)

value_at_point : (names : Known) (number : ℕ) (row : Data) (d : Data) → value_kinds names number row (rule.Text text_rule.PointName) d ≡ [] → of_type (point_kinds names) (as_str d) ≡ []
unfolding value_kinds
value_at_point names number row d empty = empty

gateway_text : (names : Known) (counts : Counts) → IsCounted names counts → (number : ℕ) (row : Data) (found : Option (List ℕ)) (other : List ℕ) → of_type (point_kinds names) found ≡ []
    → (point_id names (unwrap_or found other)).0 < counts.points
gateway_text names counts counted number row None other empty = cc
gateway_text names counts counted number row (Some text) other empty = point_below names counts counted text empty

gateway_at : (names : Known) (counts : Counts) → IsCounted names counts → (number : ℕ) (row : Data) (w end_word : List ℕ) (end : List ℕ) → text_at end_word row ≡ Some end → end_kinds names end ≡ []
    → (d : Option Data) → kinds_at names number row (key w (IfZone end_word) (rule.Text text_rule.PointName)) d ≡ []
    → (point_id names (unwrap_or (option_and_then as_str d) (text_or_empty end_word row))).0 < counts.points
gateway_at names counts counted number row w end_word end found fine None empty =
    let no_zone = rw found at (unbroken _ _ empty) in
    rw found (absent_gateway names counts counted end fine no_zone)
gateway_at names counts counted number row w end_word end found fine (Some d) empty = gateway_text names counts counted number row (as_str d) (text_or_empty end_word row) (value_at_point names number row d empty)

gateway_below : (names : Known) (counts : Counts) → IsCounted names counts → (number : ℕ) (row : Data) (w end_word : List ℕ) (end : List ℕ) → text_at end_word row ≡ Some end → end_kinds names end ≡ []
    → key_kinds names number row (key w (IfZone end_word) (rule.Text text_rule.PointName)) ≡ [] → (gateway names row w end_word).0 < counts.points
unfolding key_kinds
gateway_below names counts counted number row w end_word end found fine empty = gateway_at names counts counted number row w end_word end found fine (get w row) empty

parent_below : (names : Known) (counts : Counts) → IsCounted names counts → (o : Option (List ℕ)) → ((name : List ℕ) → o ≡ Some name → kind_if (not (is_below (names.points name) names.zones)) Unknown ≡ []) → IfSome (option_map (zone_id names) o) (λ parent. parent.0 < counts.zones)
parent_below names counts counted None kept = tt
parent_below names counts counted (Some name) kept = zone_below names counts counted name (kept name refl)

pub zone_kept : (names : Known) (counts : Counts) → IsCounted names counts → (number : ℕ) (row : Data) → KeysKept names number row (keys_of Zone) → IsZoneRow counts (zone_row names row)
unfolding zone_row
zone_kept names counts counted number row kept =
    let id = required_text names number row (codes "id") text_rule.NewPoint kept.0 in
    record {
      id = rw id.1 (name_short names.points number id.0 id.2);
      parent = parent_below names counts counted _ (optional_text names number row (codes "parent") text_rule.ZoneName kept.1.0);
    }

abbrev IsCount : ℕ → Type 0
IsCount n = (1 ≤ n) × (n ≤ 1024)

core_bounds : (o : Option ℤ) → IsCount (unwrap_or (option_and_then (whole_value 1 1024) o) 1)
core_bounds o = whole_holds IsCount 1 1024 1 (omega arith, omega arith) (λ n low high. (low, high)) o

pub host_kept : (names : Known) (counts : Counts) → IsCounted names counts → (number : ℕ) (row : Data) → KeysKept names number row (keys_of Host) → IsHostRow counts (host_row names row)
unfolding host_row
host_kept names counts counted number row kept =
    let id = required_text names number row (codes "id") text_rule.NewPoint kept.0 in
    let zone = required_text names number row (codes "zone") text_rule.ZoneName kept.1.0 in
    let speed = required_text names number row (codes "speed") (text_rule.PositiveValue Speed) kept.1.1.0 in
    let rate = positive_there (quantity_value Speed speed.0) speed.2 in
    let cores = core_bounds (option_and_then as_integer (get (codes "core") row)) in
    record {
      id = rw id.1 (name_short names.points number id.0 id.2);
      zone = rw zone.1 (zone_below names counts counted zone.0 zone.2);
      some_speed = rw (speed.1, rate.1) rate.2;
      speed = rw (speed.1, rate.1) (quantity_within Speed speed.0 rate.0 rate.1);
      some_cores = cores.0;
      cores = cores.1;
      power = power_kept row;
    }

pub router_kept : (names : Known) (counts : Counts) → IsCounted names counts → (number : ℕ) (row : Data) → KeysKept names number row (keys_of Router) → IsRouterRow counts (router_row names row)
unfolding router_row
router_kept names counts counted number row kept =
    let id = required_text names number row (codes "id") text_rule.NewPoint kept.0 in
    let zone = required_text names number row (codes "zone") text_rule.ZoneName kept.1.0 in
    record {
      id = rw id.1 (name_short names.points number id.0 id.2);
      zone = rw zone.1 (zone_below names counts counted zone.0 zone.2);
    }

-- what holds of the default and of each text that a reader takes
text_holds : (P : ℕ → Type 0) (reader : List ℕ → Option ℕ) (default : ℕ) → P default → (o : Option (List ℕ)) → ((text : List ℕ) → o ≡ Some text → (n : ℕ) × (reader text ≡ Some n) × P n)
    → P (unwrap_or (option_and_then reader o) default)
text_holds P reader default p None kept = p
text_holds P reader default p (Some text) kept = let there = kept text refl in rw there.1 there.2

taken_within : (reader : List ℕ → Option ℕ) (greatest : ℕ) → ((text : List ℕ) (n : ℕ) → reader text ≡ Some n → n ≤ greatest) → (text : List ℕ) → kind_if (is_none (reader text)) BadValue ≡ []
    → (n : ℕ) × (reader text ≡ Some n) × (n ≤ greatest)
taken_within reader greatest within text kept =
    let there = taken_there (reader text) kept in
    (there.0, there.1, within text there.0 there.1)

pub link_kept : (names : Known) (number : ℕ) (row : Data) → KeysKept names number row (keys_of Link) → IsLinkRow (link_row row)
unfolding link_row
link_kept names number row kept =
    let id = required_text names number row (codes "id") text_rule.NewLink kept.0 in
    let bandwidth = required_text names number row (codes "bandwidth") (text_rule.PositiveValue Bandwidth) kept.1.0 in
    let rate = positive_there (quantity_value Bandwidth bandwidth.0) bandwidth.2 in
    record {
      id = rw id.1 (link_name_short names.taken number (is_split row) id.0 id.2);
      some_bandwidth = rw (bandwidth.1, rate.1) rate.2;
      bandwidth = rw (bandwidth.1, rate.1) (quantity_within Bandwidth bandwidth.0 rate.0 rate.1);
      latency = text_holds (λ n. n ≤ 1000000000000000) (quantity_value Latency) 0 (omega arith) (text_at (codes "latency") row)
          (λ text there. taken_within (quantity_value Latency) 1000000000000000 (quantity_within Latency) text (optional_text names number row (codes "latency") (text_rule.AnyValue Latency) kept.1.1.0 text there));
    }

abbrev IsPositiveFactor : ℕ → Type 0
IsPositiveFactor n = (1 ≤ n) × (n ≤ 1000000000)

positive_factor : (text : List ℕ) → kind_if (not (option_map_or (nat_lt 0) (quantity_value Factor text) false)) BadValue ≡ [] → (n : ℕ) × (quantity_value Factor text ≡ Some n) × IsPositiveFactor n
positive_factor text kept =
    let there = positive_there (quantity_value Factor text) kept in
    (there.0, there.1, (there.2, quantity_within Factor text there.0 there.1))

pub network_row_kept : (names : Known) (number : ℕ) (row : Data) → KeysKept names number row (keys_of Network) → IsNetwork (network_row row)
unfolding network_row
network_row_kept names number row kept =
    let bandwidth : IsPositiveFactor (value_at Factor 1000000 (codes "bandwidth_factor") row)
    = text_holds IsPositiveFactor (quantity_value Factor) 1000000 (omega arith, omega arith) (text_at (codes "bandwidth_factor") row)
    (λ text there. positive_factor text (optional_text names number row (codes "bandwidth_factor") (text_rule.PositiveValue Factor) kept.1.0 text there)) in
    record {
      latency_factor = text_holds (λ n. n ≤ 1000000000) (quantity_value Factor) 1000000 (omega arith) (text_at (codes "latency_factor") row)
          (λ text there. taken_within (quantity_value Factor) 1000000000 (quantity_within Factor) text (optional_text names number row (codes "latency_factor") (text_rule.AnyValue Factor) kept.0 text there));
      some_bandwidth = bandwidth.0;
      bandwidth_factor = bandwidth.1;
      window = text_holds (λ n. n ≤ 1000000000000000) (quantity_value Amount) 0 (omega arith) (text_at (codes "window") row)
          (λ text there. taken_within (quantity_value Amount) 1000000000000000 (quantity_within Amount) text (optional_text names number row (codes "window") (text_rule.AnyValue Amount) kept.1.1.0 text there));
    }

pub network_kept : (rows : List Data) → All (λ row. IsNetwork (network_row row)) rows → IsNetwork (option_map_or network_row (first rows) plain_network)
network_kept [] kept = plain_kept
network_kept (row ∷ rows) kept = kept 0 row (omega arith)

pub route_kept : (names : Known) (counts : Counts) → IsCounted names counts → (number : ℕ) (row : Data) → KeysKept names number row (keys_of Route) → IsRouteRow counts (route_row names row)
unfolding route_row
route_kept names counts counted number row kept =
    let src = required_text names number row (codes "src") text_rule.PointName kept.0 in
    let dst = required_text names number row (codes "dst") text_rule.RouteEnd kept.1.0 in
    record {
      src = rw src.1 (point_below names counts counted src.0 src.2);
      dst = rw dst.1 (point_below names counts counted dst.0 (empty_right _ _ dst.2));
      links = required_links names counts counted.links number row (codes "links") kept.1.1.0;
    }

pub zone_route_kept : (names : Known) (counts : Counts) → IsCounted names counts → (number : ℕ) (row : Data) → KeysKept names number row (keys_of ZoneRoute) → IsZoneRouteRow counts (zone_route_row names row)
unfolding zone_route_row
zone_route_kept names counts counted number row kept =
    let src = required_text names number row (codes "src") text_rule.EndName kept.0 in
    let dst = required_text names number row (codes "dst") text_rule.ZoneRouteEnd kept.1.0 in
    let end = empty_right _ _ dst.2 in
    record {
      src = rw src.1 (child_below names counts counted src.0 src.2);
      dst = rw dst.1 (child_below names counts counted dst.0 end);
      gw_src = gateway_below names counts counted number row (codes "gw_src") (codes "src") src.0 src.1 src.2 kept.1.1.0;
      gw_dst = gateway_below names counts counted number row (codes "gw_dst") (codes "dst") dst.0 dst.1 end kept.1.1.1.0;
      links = required_links names counts counted.links number row (codes "links") kept.1.1.1.1.0;
    }

down_at : (names : Known) (counts : Counts) → IsCounted names counts → (rows : List LinkRow) → counts.links ≡ length (link_ends rows) → (number : ℕ) (row : Data)
    → IsLinkList counts (links_at names (codes "up") row) → (d : Option Data) → get (codes "down") row ≡ d → kinds_at names number row (key (codes "down") Optional (rule.Texts texts_rule.LinkList)) d ≡ []
    → IsLinkList counts (option_map_or (λ x. links_at names (codes "down") row) d (way_back (link_ends rows) (links_at names (codes "up") row)))
down_at names counts counted rows same number row up None there empty = way_back_kept counts rows (links_at names (codes "up") row) same up
down_at names counts counted rows same number row up (Some d) there empty = rw there (value_link_list names counts counted.links number row d empty)

down_kept : (names : Known) (counts : Counts) → IsCounted names counts → (rows : List LinkRow) → counts.links ≡ length (link_ends rows) → (number : ℕ) (row : Data)
    → IsLinkList counts (links_at names (codes "up") row) → key_kinds names number row (key (codes "down") Optional (rule.Texts texts_rule.LinkList)) ≡ []
    → IsLinkList counts (option_map_or (λ x. links_at names (codes "down") row) (get (codes "down") row) (way_back (link_ends rows) (links_at names (codes "up") row)))
unfolding key_kinds
down_kept names counts counted rows same number row up empty = down_at names counts counted rows same number row up (get (codes "down") row) refl empty

pub spoke_kept : (names : Known) (counts : Counts) → IsCounted names counts → (rows : List LinkRow) → counts.links ≡ length (link_ends rows) → (number : ℕ) (row : Data) → KeysKept names number row (keys_of Spoke)
    → IsSpokeRow counts (spoke_row names (link_ends rows) row)
unfolding spoke_row
spoke_kept names counts counted rows same number row kept =
    let zone = required_text names number row (codes "zone") text_rule.ZoneName kept.0 in
    let child = required_text names number row (codes "child") text_rule.SpokeChild kept.1.0 in
    let end = empty_right _ _ child.2 in
    let up = required_links names counts counted.links number row (codes "up") kept.1.1.1.0 in
    record {
      zone = rw zone.1 (zone_below names counts counted zone.0 zone.2);
      child = rw child.1 (child_below names counts counted child.0 end);
      gateway = gateway_below names counts counted number row (codes "gateway") (codes "child") child.0 child.1 end kept.1.1.0;
      up = up;
      down = down_kept names counts counted rows same number row up kept.1.1.1.1.0;
    }

-- an actor on a platform of so many hosts
pub record IsActorOn (hosts : ℕ) (actor : ActorRow) : Type 0 where
  pub row : IsActorRow actor
  pub host : actor.host.0 < hosts

pub actor_kept : (names : Known) (number : ℕ) (row : Data) → KeysKept names number row (keys_of Actor) → IsActorOn names.hosts (actor_row names row)
unfolding actor_row
actor_kept names number row kept =
    let name = required_text names number row (codes "name") text_rule.NewActor kept.0 in
    let host = required_text names number row (codes "host") text_rule.HostName kept.1.0 in
    let there = host_there names host.0 host.2 in
    record {
      row = rw name.1 (name_short names.actors number name.0 name.2);
      host = rw (host.1, there.1) (point_under names.zones names.hosts there.0 there.2 there.3);
    }

pub mutex_kept : (names : Known) (number : ℕ) (row : Data) → KeysKept names number row (keys_of Mutex) → length (mutex_row row).id ≤ 64
unfolding mutex_row
mutex_kept names number row kept =
    let id = required_text names number row (codes "id") text_rule.NewMutex kept.0 in
    rw id.1 (name_short names.mutexes number id.0 id.2)

pub semaphore_kept : (names : Known) (number : ℕ) (row : Data) → KeysKept names number row (keys_of Semaphore) → IsSemaphoreRow (semaphore_row row)
unfolding semaphore_row
semaphore_kept names number row kept =
    let id = required_text names number row (codes "id") text_rule.NewSemaphore kept.0 in
    record {
      id = rw id.1 (name_short names.semaphores number id.0 id.2);
      capacity = whole_holds (λ n. n ≤ 1000000000) 0 1000000000 0 (omega arith) (λ n low high. high) (option_and_then as_integer (get (codes "capacity") row));
    }
