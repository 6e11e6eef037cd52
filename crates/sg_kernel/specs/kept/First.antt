-- The parts of what the kernel keeps at first.
use Rattle.std.specs.Prelude.{false, [], length, map}
use Rattle.sg_actor_states.specs.Actors.{first_actor}
use Rattle.sg_actor_states.specs.States.{ActorStates}
use Rattle.sg_kernel_calls.specs.Setup.{Setup}

-- the actors, of which those that start with the run are ready
abbrev pub first_states : Setup → ActorStates
first_states setup = record {
  extent = record { actors = length setup.starts; mutexes = setup.mutexes; semaphores = length setup.semaphores };
  actors = map first_actor setup.starts;
  records = [];
  room = 0;
  passing = false;
  trimmed = false;
}
