-- The platform and the deployment of a churn: a load that is made from a seed, a number of actors and a number of steps.
use Rattle.std.specs.Prelude.{ℕ, ◌+◌, ◌-◌, ◌*◌, ◌%◌, ◌^◌, true, List, [], ◌∷◌, ◌++◌, None, map, codes, decimal}
use Rattle.std.specs.Fn.{iterate}
use Rattle.std.specs.List.{range_with_len}
use Rattle.sg_base.specs.Draw.{drawn, next_state}
use Rattle.sg_base.specs.declared.ids.Child.TheVariants.{Point}
use Rattle.sg_platform_rows.specs.Deployment.{Deployed}
use Rattle.sg_platform_rows.specs.OfRows.{deployed_with, platform_with}
use Rattle.sg_platform_rows.specs.Platform.{Platform}
use Rattle.sg_platform_rows.specs.declared.rows.ActorRow.{ActorRow}
use Rattle.sg_platform_rows.specs.declared.rows.Function.TheVariants.{Churn}
use Rattle.sg_platform_rows.specs.declared.rows.HostRow.{HostRow}
use Rattle.sg_platform_rows.specs.declared.rows.LinkRow.{LinkRow}
use Rattle.sg_platform_rows.specs.declared.rows.Policy.TheVariants.{Shared}
use Rattle.sg_platform_rows.specs.declared.rows.Routing.TheVariants.{Star}
use Rattle.sg_platform_rows.specs.declared.rows.SpokeRow.{SpokeRow}

-- a number from 1 to `most`, by the draw after so many others
unfoldable pub drawn_after : ℕ → ℕ → ℕ → ℕ
drawn_after seed draws most = 1 + drawn (iterate next_state draws seed) % most

-- the rows from 0 on, so many of them
abbrev pub rows : {A : Type 0} → (ℕ → A) → ℕ → List A
rows row_of count = map row_of (range_with_len 0 count)

-- names are numbered from 1 on
abbrev pub churn_name : List ℕ → ℕ → List ℕ
churn_name letter row = letter ++ decimal (row + 1)

-- ---- the platform: one Star zone, and for each actor a host, whose link leads to the backbone

-- a SHARED link of this name, bandwidth and latency
abbrev pub link_with : List ℕ → ℕ → ℕ → LinkRow
link_with id bandwidth latency = record { id = id; bandwidth = bandwidth; latency = latency; policy = Shared }

-- the spoke of a host: up over its own link and the backbone, link 0, and down over the same links reversed
abbrev pub spoke_of : ℕ → SpokeRow
spoke_of row = record {
  zone = record { 0 = 0 };
  child = Point (record { 0 = row });
  gateway = record { 0 = row };
  up = record { 0 = row + 1 } ∷ (record { 0 = 0 } ∷ []);
  down = record { 0 = 0 } ∷ (record { 0 = row + 1 } ∷ []);
}

-- each actor takes three draws: for the speed of its host, and for the bandwidth and the latency of its link
abbrev pub churn_host : ℕ → ℕ → HostRow
churn_host seed row = record {
  id = churn_name (codes "h") row;
  zone = record { 0 = 0 };
  speed = drawn_after seed (3 * row) 8 * 100000000;
  cores = 1;
  power = None;
}

-- the link of a host, whose bandwidth and latency are drawn from the seed
abbrev pub link_of : ℕ → ℕ → LinkRow
link_of seed row = link_with (churn_name (codes "l") row) (drawn_after seed (3 * row + 1) 8 * 1000000) (drawn_after seed (3 * row + 2) 100 * 1000)

-- the generated platform: one Star zone without a parent, the link `bb` that all routes share, and for each actor a host,
-- its link and its spoke
unfoldable pub platform_of_seed : ℕ → ℕ → Platform
platform_of_seed seed actors = platform_with (record { id = codes "z"; parent = None; routing = Star } ∷ [])
    (rows (churn_host seed) actors) (link_with (codes "bb") 1000000000 1000 ∷ rows (link_of seed) actors) (rows spoke_of actors)

-- ---- the actors: a ring, one on each host

-- each sends to the one after it, and receives from the one before it
abbrev pub ring_actor : ℕ → ℕ → ℕ → ℕ → ActorRow
ring_actor seed actors steps row = record {
  name = churn_name (codes "a") row;
  host = record { 0 = row };
  function = Churn ((seed + (row + 1)) % 2 ^ 64) (record { 0 = 1 + (row + 1) % actors }) (record { 0 = 1 + (row + (actors - 1)) % actors }) steps;
  start = true;
}

-- the generated deployment: the ring of actors, with no mutexes and no semaphores
unfoldable pub deployed_of_seed : ℕ → ℕ → ℕ → Deployed
deployed_of_seed seed actors steps = deployed_with (rows (ring_actor seed actors steps) actors)
