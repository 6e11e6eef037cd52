-- What a network of points and routes keeps to between any two searches.
use Rattle.std.specs.Prelude.{ℕ, List}
use Rattle.sg_paths.specs.declared.arrivals.Arrivals.{Arrivals}
use Rattle.sg_paths.specs.declared.least.Reach.{Reach}
use Rattle.sg_paths.specs.declared.recall.Found.{Found}
use Rattle.sg_paths.specs.declared.route.PathRoute.{PathRoute}
use Rattle.sg_paths.specs.Asked.{AreRight}
use Rattle.sg_paths.specs.Reach.{IsReady}
use Rattle.sg_paths.specs.Trees.{AreOnward}

-- it can be searched, and what is stored is right
pub record IsWhole (points : ℕ) (routes : List PathRoute) (arrivals : Arrivals) (reach : Reach) (found : Found) : Type 0 where
  pub ready : IsReady points routes arrivals reach
  pub right : AreRight routes found.asked.items
  pub onward : AreOnward routes found.trees.hops.items
