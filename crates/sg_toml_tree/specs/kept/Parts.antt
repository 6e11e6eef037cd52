-- The parts of what the code has collected of the names of a tree.
use Rattle.std.specs.Prelude.{◌≡◌, ◌∷◌, [], ℕ, List, Option, codes, length}
use Rattle.std.specs.HashMap.{get_by, get_by_text}
use Rattle.std.specs.List.{flat_map}
use Rattle.std.specs.Map.{lookup}
use Rattle.sg_toml_tree.specs.Workers.{worker_names}
use Rattle.sg_toml_tree.specs.LinkNames.{link_names, taken_names}
use Rattle.sg_toml_tree.specs.Names.{Known, point_rows, rows_by}
use Rattle.sg_toml_tree.specs.Pairs.{pairs_of}
use Rattle.sg_toml_tree.specs.declared.names.Actors.{Actors}
use Rattle.sg_toml_tree.specs.declared.names.Links.{Links}
use Rattle.sg_toml_tree.specs.declared.names.Locks.{Locks}
use Rattle.sg_toml_tree.specs.declared.names.Points.{Points}
use Rattle.sg_toml_tree.specs.declared.names.Profiled.{Profiled}
use Rattle.sg_toml_tree.specs.declared.names.Routes.{Routes}
use Rattle.sg_toml_tree.specs.declared.subjects.Subjects.{Subjects}
use Rattle.sg_toml_tree.specs.NameSpaces.{Finds, Pair, SameNames, SamePairs, found_in, numbered, pair_eq}
use Rattle.sg_toml_tree.specs.Tree.{rows_at}
use Rattle.toml.specs.Data.{Data, Members}

-- all parts together
abbrev pub parts_view : Points → Links → Routes → Profiled → Actors → Locks → Known
parts_view points links routes profiled actors locks = record {
  zones = points.zones;
  hosts = points.hosts;
  points = λ q. get_by_text points.numbers q;
  taken = λ q. get_by_text links.taken q;
  links = λ q. get_by_text links.declared q;
  pairs = λ q. get_by (pair_eq q) routes.pairs;
  zone_pairs = λ q. get_by (pair_eq q) routes.zone_pairs;
  children = λ q. get_by_text routes.children q;
  profiled_hosts = λ q. get_by_text profiled.speeds.hosts q;
  profiled_links = λ q. get_by_text profiled.speeds.links q;
  switched_hosts = λ q. get_by_text profiled.states.hosts q;
  switched_links = λ q. get_by_text profiled.states.links q;
  actors = λ q. get_by_text actors.actors q;
  workers = λ q. get_by_text actors.workers q;
  mutexes = λ q. get_by_text locks.mutexes q;
  semaphores = λ q. get_by_text locks.semaphores q;
}

-- these are the zones, hosts and routers of the tree
pub record ArePoints (tree : Members) (made : Points) : Type 0 where
  pub zones : made.zones ≡ length (rows_at (codes "zone") tree)
  pub hosts : made.hosts ≡ length (rows_at (codes "host") tree)
  pub numbers : SameNames (get_by_text made.numbers) (rows_by (codes "id") (point_rows tree))

-- its links
pub record AreLinks (tree : Members) (made : Links) : Type 0 where
  pub taken : SameNames (get_by_text made.taken) (found_in (numbered taken_names 0 (rows_at (codes "link") tree)))
  pub declared : SameNames (get_by_text made.declared) (found_in (numbered (λ name. name ∷ []) 0 (flat_map link_names (rows_at (codes "link") tree))))

-- the pairs that rows give, between these points
abbrev pub pair_rows : Finds → List Data → Pair → Option ℕ
pair_rows points rows pair = lookup (pair_eq pair) (numbered (pairs_of points) 0 rows)

-- what its routes and spokes give, between these points
pub record AreRoutes (tree : Members) (points : Finds) (made : Routes) : Type 0 where
  pub pairs : SamePairs (λ q. get_by (pair_eq q) made.pairs) (pair_rows points (rows_at (codes "route") tree))
  pub zone_pairs : SamePairs (λ q. get_by (pair_eq q) made.zone_pairs) (pair_rows points (rows_at (codes "zone_route") tree))
  pub children : SameNames (get_by_text made.children) (rows_by (codes "child") (rows_at (codes "spoke") tree))

-- the hosts and links that rows are of
pub record AreSubjects (rows : List Data) (made : Subjects) : Type 0 where
  pub hosts : SameNames (get_by_text made.hosts) (rows_by (codes "host") rows)
  pub links : SameNames (get_by_text made.links) (rows_by (codes "link") rows)

-- what its profiles and rows of states are of
pub record AreProfiled (tree : Members) (made : Profiled) : Type 0 where
  pub speeds : AreSubjects (rows_at (codes "profile") tree) made.speeds
  pub states : AreSubjects (rows_at (codes "state_profile") tree) made.states

-- its actors
pub record AreActors (tree : Members) (made : Actors) : Type 0 where
  pub actors : SameNames (get_by_text made.actors) (rows_by (codes "name") (rows_at (codes "actor") tree))
  pub workers : SameNames (get_by_text made.workers) (found_in (numbered worker_names 1 (rows_at (codes "actor") tree)))

-- its mutexes and semaphores
pub record AreLocks (tree : Members) (made : Locks) : Type 0 where
  pub mutexes : SameNames (get_by_text made.mutexes) (rows_by (codes "id") (rows_at (codes "mutex") tree))
  pub semaphores : SameNames (get_by_text made.semaphores) (rows_by (codes "id") (rows_at (codes "semaphore") tree))
