-- The minds of roles.
use Rattle.std.specs.Prelude.{ℕ, ◌+◌, ◌^◌, ◌<◌, [], ◌∷◌, length, map, All, ⊤}
use Rattle.sg_base.specs.declared.ids.ActorId.{ActorId}
use Rattle.sg_base.specs.Limits.{Extent, IsActorIn, IsAmount}
use Rattle.sg_base.specs.Mind.{Mind, mind, replay, worker, master, churn}
use Rattle.sg_actor.specs.declared.role.Role.{Role}
use Rattle.sg_actor.specs.declared.role.Role.TheVariants as role

-- the number in an actor's identifier, from 1 on
abbrev pub actor_number : ActorId → ℕ
actor_number actor = actor.0

-- The mind with which an actor of this role begins. One that replays its script lines, and a worker, keep their own
-- number. A master: how many tasks it hands out, the flops and the bytes of each, how many messages it has sent, and its
-- workers; after the tasks it sends each worker one stop. One that churns: the state of its generator, its step and its
-- phase, how many steps it does, its own number, and those of the next actor of the ring and of the one before it.
abbrev pub mind_of : Role → Mind
mind_of (role.Replay me) = mind replay (me.0 ∷ [])
mind_of (role.Worker me) = mind worker (me.0 ∷ [])
mind_of (role.Master tasks flops bytes workers) = mind master (tasks ∷ flops ∷ bytes ∷ 0 ∷ map actor_number workers)
mind_of (role.Churn seed steps me next prev) = mind churn (seed ∷ 0 ∷ 0 ∷ steps ∷ me.0 ∷ next.0 ∷ prev.0 ∷ [])

-- a master has a worker, and can count the messages that it sends
abbrev pub CanCast : Role → Type 0
CanCast (role.Replay me) = ⊤
CanCast (role.Worker me) = ⊤
CanCast (role.Master tasks flops bytes workers) = (0 < length workers) × (tasks + length workers < 2 ^ 64)
CanCast (role.Churn seed steps me next prev) = ⊤

-- the amounts of a role keep to their limits, and the actors that it names exist; a master has a worker
abbrev pub IsRole : Extent → Role → Type 0
IsRole extent (role.Replay me) = IsActorIn extent me
IsRole extent (role.Worker me) = IsActorIn extent me
IsRole extent (role.Master tasks flops bytes workers) = IsAmount flops × IsAmount bytes × (0 < length workers) × All (IsActorIn extent) workers
IsRole extent (role.Churn seed steps me next prev) = IsActorIn extent me × IsActorIn extent next × IsActorIn extent prev
