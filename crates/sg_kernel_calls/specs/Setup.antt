-- What a platform and a deployment are to a simulation.
use Rattle.std.specs.Prelude.{ℕ, Bool, List, true, false, option_map, [], ◌∷◌, ◌++◌, length, map}
use Rattle.sg_profile.specs.declared.profile.Profile.{Profile}
use Rattle.sg_platform_rows.specs.declared.network.Network.{Network}
use Rattle.std.specs.List.{count_by, flat_map}
use Rattle.sg_activity_table.specs.declared.kinds.HostCap.{HostCap}
use Rattle.sg_activity_table.specs.declared.kinds.LinkCap.{LinkCap}
use Rattle.sg_activity_table.specs.declared.kinds.Power.{Power}
use Rattle.sg_profile.specs.Profiles.{profiles_in}
use Rattle.sg_platform_rows.specs.declared.rows.ActorRow.{ActorRow}
use Rattle.sg_platform_rows.specs.declared.rows.HostRow.{HostRow}
use Rattle.sg_platform_rows.specs.declared.rows.LinkRow.{LinkRow}
use Rattle.sg_platform_rows.specs.declared.rows.Policy.{Policy}
use Rattle.sg_platform_rows.specs.declared.rows.Policy.TheVariants.{Shared, Fatpipe, SplitDuplex}
use Rattle.sg_platform_rows.specs.declared.rows.Power as rows
use Rattle.sg_platform_rows.specs.declared.rows.SemaphoreRow.{SemaphoreRow}
use Rattle.sg_platform_rows.specs.Deployment.{Deployed, is_replay, starts}
use Rattle.sg_platform_rows.specs.Ends.{link_ends}
use Rattle.sg_platform_rows.specs.Network.{bandwidth_over}
use Rattle.sg_platform_rows.specs.Platform.{Platform}

-- what stays: how many hosts and links there are, what the network does to latencies and bandwidths, the profiles of hosts and links, the host of each actor, and whether it starts with the run, how many mutexes there are, the capacity of each semaphore, how many members the barrier has, and how many events there may be
pub record Setup : Type 0 where
  pub hosts : ℕ
  pub links : ℕ
  pub network : Network
  pub profiles : List Profile
  pub homes : List ℕ
  pub starts : List Bool
  pub mutexes : ℕ
  pub semaphores : List ℕ
  pub members : ℕ
  pub budget : ℕ

-- the power of a host in milliwatts, as the simulation uses it: idle, nearly idle, at full load, off
abbrev pub power_of_row : rows.Power → Power
power_of_row power = record { idle = power.idle; epsilon = power.epsilon; all = power.all; off = power.off }

-- what a host offers the simulation: its speed and its cores, with its power if declared
abbrev pub host_cap : HostRow → HostCap
host_cap host = record { speed = host.speed; cores = host.cores; power = option_map power_of_row host.power }

-- a link of this bandwidth, FATPIPE or not
abbrev pub link_cap : ℕ → Bool → LinkCap
link_cap bandwidth fatpipe = record { bandwidth = bandwidth; fatpipe = fatpipe }

-- the links of one row: SPLITDUPLEX gives two, up and then down
abbrev pub caps_of : Policy → ℕ → List LinkCap
caps_of Shared bandwidth = link_cap bandwidth false ∷ []
caps_of Fatpipe bandwidth = link_cap bandwidth true ∷ []
caps_of SplitDuplex bandwidth = link_cap bandwidth false ∷ link_cap bandwidth false ∷ []

-- the links of a row, whose bandwidth has the factor
abbrev pub caps_in : Network → LinkRow → List LinkCap
caps_in network row = caps_of row.policy (bandwidth_over network row.bandwidth)

-- the links of all rows, and last the loopback, a FATPIPE link of 498,000,000 bytes a second without the factor
abbrev pub link_caps : Network → List LinkRow → List LinkCap
link_caps network rows = flat_map (caps_in network) rows ++ link_cap 498000000 true ∷ []

-- whether an actor takes its actions from the script, and so is a member of collectives
abbrev pub replays : ActorRow → Bool
replays actor = is_replay actor.function

-- what is simulated; the barrier has as many members as there are replay actors
abbrev pub setup_of : Platform → Deployed → ℕ → Setup
setup_of platform deployed budget = record {
  hosts = length platform.hosts;
  links = length (link_ends platform.links);
  network = platform.network;
  profiles = profiles_in platform;
  homes = map (λ (actor : ActorRow). actor.host.0) deployed.actors;
  starts = map starts deployed.actors;
  mutexes = length deployed.mutexes;
  semaphores = map (λ (semaphore : SemaphoreRow). semaphore.capacity) deployed.semaphores;
  members = count_by replays deployed.actors;
  budget = budget;
}

-- ---- parts, as contracts and proofs name them
-- the number of the host on which an actor is deployed
abbrev pub home_of : ActorRow → ℕ
home_of actor = actor.host.0

-- the capacity of a semaphore at the start of the run
abbrev pub capacity_of : SemaphoreRow → ℕ
capacity_of semaphore = semaphore.capacity
