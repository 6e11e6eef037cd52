-- What the names of a script stand for.
use Rattle.std.specs.Prelude.{ℕ, List, Option, length}
use Rattle.sg_base.specs.declared.ids.ActorId.{ActorId}
use Rattle.sg_platform_rows.specs.Deployment.{Deployed, actor_named, members_among, mutex_named, replay_actor_named, semaphore_named}

-- the replay actor of a name, the actor of a name whatever it does, and the number of the mutex, or
-- semaphore, of a name; and who takes part in collectives
pub record ScriptNames : Type 0 where
  pub actor : List ℕ → Option ActorId
  pub anyone : List ℕ → Option ActorId
  pub mutex : List ℕ → Option ℕ
  pub semaphore : List ℕ → Option ℕ
  pub members : List ActorId

-- what the names of a script stand for in this deployment
abbrev pub known_in : Deployed → ScriptNames
known_in deployment = record {
  actor = replay_actor_named deployment;
  anyone = actor_named deployment;
  mutex = mutex_named deployment;
  semaphore = semaphore_named deployment;
  members = members_among deployment.actors;
}

-- how many actors there are, which is the greatest identifier
abbrev pub actors_in : Deployed → ℕ
actors_in deployment = length deployment.actors
