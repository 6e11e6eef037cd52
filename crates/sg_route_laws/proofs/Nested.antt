-- Why routes end: each step goes to a deeper zone.
use Rattle.std.specs.Prelude.{◌≡◌, ◌≢◌, ◌==◌, ℕ, ◌<◌, ◌≤◌, suc, if◌then◌else◌, Option, Some, List, [], ◌∷◌}
use Rattle.sg_base.specs.declared.ids.PointId.{PointId}
use Rattle.sg_base.specs.declared.ids.ZoneId.{ZoneId}
use Rattle.sg_platform_rows.specs.declared.rows.Routing.{Routing}
use Rattle.sg_route.specs.Roads.{Roads}
use Rattle.sg_route.specs.Route.{Passage, leg, passage_on}
use Rattle.sg_route_laws.specs.Laws.{IsPoint}
use Rattle.sg_zones.specs.Tree as tree

abbrev pub home : Roads → PointId → ZoneId
home m point = tree.home m.tree point

abbrev pub path_to : Roads → PointId → List ZoneId
path_to m point = tree.path_in m.tree (home m point)

abbrev pub routing : Roads → ZoneId → Routing
routing m zone = tree.routing_in m.tree zone

-- how many zones two paths share from the root down
abbrev pub shared : List ZoneId → List ZoneId → ℕ
shared [] ys = 0
shared (x ∷ xs) [] = 0
shared (x ∷ xs) (y ∷ ys) = if x.0 == y.0 then suc (shared xs ys) else 0

-- the depth of the lowest zone that holds both points
abbrev pub depth_of_both : Roads → PointId → PointId → ℕ
depth_of_both m a b = shared (path_to m a) (path_to m b)

abbrev pub passage_between : Roads → PointId → PointId → Option Passage
passage_between m a b = passage_on m (leg m a b)

-- zones are at most 16 deep and share the root; a gateway exists, and from a point to the gateway of its child the lowest zone is deeper
pub record IsNested (m : Roads) : Type 0 where
  pub root : (a b : PointId) → IsPoint m a → IsPoint m b → 1 ≤ depth_of_both m a b
  pub shallow : (a b : PointId) → IsPoint m a → IsPoint m b → depth_of_both m a b ≤ 16
  pub start : (a b : PointId) (p : Passage) → IsPoint m a → IsPoint m b → passage_between m a b ≡ Some p → IsPoint m p.start
  pub end : (a b : PointId) (p : Passage) → IsPoint m a → IsPoint m b → passage_between m a b ≡ Some p → IsPoint m p.end
  pub front : (a b : PointId) (p : Passage) → IsPoint m a → IsPoint m b → passage_between m a b ≡ Some p → a.0 ≢ p.start.0 → depth_of_both m a b < depth_of_both m a p.start
  pub behind : (a b : PointId) (p : Passage) → IsPoint m a → IsPoint m b → passage_between m a b ≡ Some p → p.end.0 ≢ b.0 → depth_of_both m a b < depth_of_both m p.end b
