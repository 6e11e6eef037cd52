-- Where a simulation begins: from a platform and a deployment.
use Rattle.std.specs.Prelude.{None, [], length, map, replicate}
use Rattle.sg_activity.specs.Links.{Capacities}
use Rattle.sg_activity.specs.Underway.{nothing_on}
use Rattle.sg_profile.specs.Profiles.{first_turns}
use Rattle.sg_platform_rows.specs.Platform.{Platform}
use Rattle.sg_sync.specs.Objects.{Objects}
use Rattle.sg_actor_states.specs.Actors.{first_actor}
use Rattle.sg_kernel_calls.specs.Setup.{Setup, host_cap, link_caps}
use Rattle.sg_kernel_calls.specs.World.{Core}
use Rattle.sg_kernel_calls.specs.Known.{Known}

-- the hosts and links of a platform
abbrev pub capacities_in : Platform → Capacities
capacities_in platform =
    record { hosts = map host_cap platform.hosts; links = link_caps platform.network platform.links }

-- mutexes are free, semaphores have their capacities, and no actor waits
abbrev pub first_objects : Setup → Objects
first_objects setup = record {
  actors = length setup.homes;
  owners = replicate setup.mutexes None;
  locking = replicate setup.mutexes [];
  counts = setup.semaphores;
  acquiring = replicate (length setup.semaphores) [];
  members = setup.members;
  arrived = [];
}

-- no activity runs on these hosts and links, each profile is before its first entry, and the actors that start now are
-- ready with the answer Start
abbrev pub first_core : Capacities → Setup → Core
first_core capacities setup = record {
  under = nothing_on capacities;
  turns = first_turns setup.profiles;
  actors = map first_actor setup.starts;
  whose = [];
  requests = replicate (length setup.homes) [];
  objects = first_objects setup;
  events = 0;
}

abbrev pub first_known : Capacities → Setup → Known
first_known capacities setup = record { setup = setup; core = first_core capacities setup; records = []; room = 0 }
