-- Rows that are given as a platform or a deployment. They break no rule that a text has to keep.
use Rattle.std.specs.Prelude.{◌≡◌, ◌≢◌, ℕ, ◌+◌, ◌-◌, ◌<◌, Bool, true, false, IsTrue, List, [], ◌++◌, Some, length, map, option_map, slice_get, ⊤}
use Rattle.std.specs.List.{All, AllPairs, flat_map}
use Rattle.sg_base.specs.declared.ids.ActorId.{ActorId}
use Rattle.sg_base.specs.declared.ids.LinkId.{LinkId}
use Rattle.sg_platform_rows.specs.Deployment.{Deployed, IsDeployedOn, IsDeployment}
use Rattle.sg_platform_rows.specs.Ends.{link_ends}
use Rattle.sg_platform_rows.specs.Network.{plain_network}
use Rattle.sg_platform_rows.specs.Platform.{IsPlatform, Platform}
use Rattle.sg_platform_rows.specs.declared.rows.ActorRow.{ActorRow}
use Rattle.sg_platform_rows.specs.declared.rows.Function.{Function}
use Rattle.sg_platform_rows.specs.declared.rows.Function.TheVariants.{Master, Worker}
use Rattle.sg_platform_rows.specs.declared.rows.HostRow.{HostRow}
use Rattle.sg_platform_rows.specs.declared.rows.LinkRow.{LinkRow}
use Rattle.sg_platform_rows.specs.declared.rows.Policy.{Policy}
use Rattle.sg_platform_rows.specs.declared.rows.Policy.TheVariants.{SplitDuplex}
use Rattle.sg_platform_rows.specs.declared.rows.SpokeRow.{SpokeRow}
use Rattle.sg_platform_rows.specs.declared.rows.ZoneRow.{ZoneRow}
use Rattle.sg_toml_tree.specs.Spelling.{taken_by, is_name}

abbrev pub AreDistinct : {A : Type 0} → List A → Type 0
AreDistinct xs = AllPairs (λ a b. a ≢ b) xs

-- the names of one space
pub record AreNames (names : List (List ℕ)) : Type 0 where
  pub fit : All (λ name. IsTrue (is_name name)) names
  pub distinct : AreDistinct names

-- ---- platforms

-- the platform with these rows and no others
abbrev pub platform_with : List ZoneRow → List HostRow → List LinkRow → List SpokeRow → Platform
platform_with zones hosts links spokes = record {
  zones = zones;
  hosts = hosts;
  routers = [];
  links = links;
  routes = [];
  zone_routes = [];
  spokes = spokes;
  network = plain_network;
  profiles = [];
  state_profiles = [];
}

-- zones and hosts share a space of names
abbrev pub point_names : List ZoneRow → List HostRow → List (List ℕ)
point_names zones hosts = map (λ zone. zone.id) zones ++ map (λ host. host.id) hosts

abbrev pub is_split : Policy → Bool
is_split SplitDuplex = true
is_split other = false

-- the names that the row of a link takes: a SPLITDUPLEX link has one in each direction beside its own
abbrev pub names_of_link : LinkRow → List (List ℕ)
names_of_link link = taken_by (is_split link.policy) link.id

-- a link of some row, and so not the loopback, which is the last of all
abbrev pub IsOfRow : List LinkRow → LinkId → Type 0
IsOfRow rows link = link.0 + 1 < length (link_ends rows)

pub record AreRows (zones : List ZoneRow) (hosts : List HostRow) (links : List LinkRow) (spokes : List SpokeRow) : Type 0 where
  pub kept : IsPlatform (platform_with zones hosts links spokes)
  pub named_points : AreNames (point_names zones hosts)
  pub named_links : AreNames (flat_map names_of_link links)
  pub children : AreDistinct (map (λ spoke. spoke.child) spokes)
  pub ways : All (λ spoke. All (IsOfRow links) (spoke.up ++ spoke.down)) spokes

-- ---- deployments

-- the deployment with these actors and nothing else
abbrev pub deployed_with : List ActorRow → Deployed
deployed_with actors = record { actors = actors; mutexes = []; semaphores = [] }

-- the actor of this number is a worker
abbrev pub IsWorker : List ActorRow → ActorId → Type 0
IsWorker actors worker = option_map (λ actor. actor.function) (slice_get actors (worker.0 - 1)) ≡ Some Worker

-- whom a master serves are workers, no two of them the same
abbrev pub ServesWorkers : List ActorRow → Function → Type 0
ServesWorkers actors (Master tasks flops bytes workers) = All (IsWorker actors) workers × AreDistinct workers
ServesWorkers actors other = ⊤

pub record AreActors (platform : Platform) (actors : List ActorRow) : Type 0 where
  pub kept : IsDeployment (deployed_with actors)
  pub names : AreNames (map (λ actor. actor.name) actors)
  pub hosts : IsDeployedOn platform (deployed_with actors)
  pub workers : All (λ actor. ServesWorkers actors actor.function) actors
