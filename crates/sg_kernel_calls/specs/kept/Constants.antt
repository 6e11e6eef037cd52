-- How what stays is kept.
use Rattle.std.specs.Prelude.{ℕ, ◌<◌, ◌≤◌, [], length, map, All}
use Rattle.sg_base.specs.declared.ids.PointId.{PointId}
use Rattle.sg_platform_rows.specs.Network.{IsNetwork}
use Rattle.sg_kernel_calls.specs.declared.setup.Setup.TheInside.{Inside}
use Rattle.sg_kernel_calls.specs.Setup.{Setup}

abbrev pub point_number : PointId → ℕ
point_number point = point.0

-- the setup of the definition without profiles
abbrev pub setup_from : Inside → Setup
setup_from kept = record {
  hosts = kept.hosts;
  links = kept.links;
  network = kept.network;
  profiles = [];
  homes = map point_number kept.homes.items;
  starts = kept.starts.items;
  mutexes = kept.mutexes;
  semaphores = kept.semaphores.items;
  members = kept.members;
  budget = kept.budget;
}

-- actors are on hosts that exist, and there are few of them
pub record IsSetup (setup : Setup) : Type 0 where
  pub homes : All (λ home. home < setup.hosts) setup.homes
  pub network : IsNetwork setup.network
  pub few_actors : length setup.homes ≤ 65536
  pub few_mutexes : setup.mutexes ≤ 65536
