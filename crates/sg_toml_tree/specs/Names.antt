-- What is known of the names of a whole tree: under which number each stands first.
use Rattle.std.specs.Prelude.{ℕ, List, [], ◌∷◌, ◌++◌, Option, length, codes}
use Rattle.std.specs.List.{flat_map}
use Rattle.std.specs.Map.{lookup}
use Rattle.sg_toml_tree.specs.Workers.{worker_names}
use Rattle.sg_toml_tree.specs.LinkNames.{link_names, taken_names}
use Rattle.sg_toml_tree.specs.Pairs.{pairs_of}
use Rattle.sg_toml_tree.specs.NameSpaces.{Finds, Pair, found_in, numbered, pair_eq, texts_at}
use Rattle.sg_toml_tree.specs.Tree.{rows_at}
use Rattle.toml.specs.Data.{Data, Members}

-- Zones, hosts and routers are numbered one after the other, links in declared order, workers as actors from 1 on; all
-- else by rows from 0 on.
pub record Known : Type 0 where
  pub zones : ℕ
  pub hosts : ℕ
  pub points : Finds
  pub taken : Finds
  pub links : Finds
  pub pairs : Pair → Option ℕ
  pub zone_pairs : Pair → Option ℕ
  pub children : Finds
  pub profiled_hosts : Finds
  pub profiled_links : Finds
  pub switched_hosts : Finds
  pub switched_links : Finds
  pub actors : Finds
  pub workers : Finds
  pub mutexes : Finds
  pub semaphores : Finds

-- the rows that have a text at a key first
abbrev pub rows_by : List ℕ → List Data → Finds
rows_by key rows = found_in (numbered (texts_at key) 0 rows)

-- the names of a text, if these are the zones, the hosts and the points that it may name
unfoldable pub known_by : ℕ → ℕ → Finds → Members → Known
known_by zones hosts points tree = record {
  zones = zones;
  hosts = hosts;
  points = points;
  taken = found_in (numbered taken_names 0 (rows_at (codes "link") tree));
  links = found_in (numbered (λ name. name ∷ []) 0 (flat_map link_names (rows_at (codes "link") tree)));
  pairs = λ q. lookup (pair_eq q) (numbered (pairs_of points) 0 (rows_at (codes "route") tree));
  zone_pairs = λ q. lookup (pair_eq q) (numbered (pairs_of points) 0 (rows_at (codes "zone_route") tree));
  children = rows_by (codes "child") (rows_at (codes "spoke") tree);
  profiled_hosts = rows_by (codes "host") (rows_at (codes "profile") tree);
  profiled_links = rows_by (codes "link") (rows_at (codes "profile") tree);
  switched_hosts = rows_by (codes "host") (rows_at (codes "state_profile") tree);
  switched_links = rows_by (codes "link") (rows_at (codes "state_profile") tree);
  actors = rows_by (codes "name") (rows_at (codes "actor") tree);
  workers = found_in (numbered worker_names 1 (rows_at (codes "actor") tree));
  mutexes = rows_by (codes "id") (rows_at (codes "mutex") tree);
  semaphores = rows_by (codes "id") (rows_at (codes "semaphore") tree);
}

-- zones, hosts and routers, in one space of names
abbrev pub point_rows : Members → List Data
point_rows tree = rows_at (codes "zone") tree ++ rows_at (codes "host") tree ++ rows_at (codes "router") tree

-- the names of a platform text
abbrev pub platform_known : Members → Known
platform_known tree = known_by (length (rows_at (codes "zone") tree)) (length (rows_at (codes "host") tree)) (rows_by (codes "id") (point_rows tree)) tree
