-- What holds of every churn.
use Rattle.std.specs.Prelude.{◌≡◌, ℕ, Ok, None}
use Rattle.sg_platform_churn.specs.Generated.{platform_of_seed}
use Rattle.sg_zones.specs.Faults.{zone_fault, zones_of}
use Rattle.sg_zones.specs.Tree.{zone_tree}

-- its platform has no zone fault, so that the zone tree is built if there is memory
pub record HasNoZoneFault : Type 0 where
  pub none : (seed actors : ℕ) → zone_fault (platform_of_seed seed actors) ≡ None
  pub tree : (seed actors : ℕ) → zones_of (platform_of_seed seed actors) ≡ Ok (zone_tree (platform_of_seed seed actors))
