-- What actors are to be, and what they have in mind at first.
use Rattle.std.specs.Prelude.{ℕ, Option, None, Some, if◌then◌else◌, List, map}
use Rattle.std.specs.List.{enumerate_from}
use Rattle.sg_base.specs.Mind.{Mind}
use Rattle.sg_base.specs.Turn.{actor_of}
use Rattle.sg_actor.specs.declared.role.Role.{Role}
use Rattle.sg_actor.specs.declared.role.Role.TheVariants as role
use Rattle.sg_actor.specs.Roles.{mind_of}
use Rattle.sg_platform_rows.specs.Deployment.{Deployed}
use Rattle.sg_platform_rows.specs.declared.rows.ActorRow.{ActorRow}
use Rattle.sg_platform_rows.specs.declared.rows.Function.{Function}
use Rattle.sg_platform_rows.specs.declared.rows.Function.TheVariants.{Replay, Worker, Master, Churn}

-- what an actor is to be, by what its row says; the actor has this number
abbrev pub role_of : ℕ → Function → Role
role_of me Replay = role.Replay (actor_of me)
role_of me Worker = role.Worker (actor_of me)
role_of me (Master tasks flops bytes workers) = role.Master tasks flops bytes workers
role_of me (Churn seed next prev steps) = role.Churn seed steps (actor_of me) next prev

-- the mind with which the actor of a row begins
abbrev pub mind_at : ℕ → ActorRow → Mind
mind_at me row = mind_of (role_of me row.function)

-- the mind with which each actor of a deployment begins, whenever it begins
abbrev pub firsts_of : Deployed → List Mind
firsts_of deployed = map (λ p. mind_at p.0 p.1) (enumerate_from 1 deployed.actors)

-- what each actor has in mind at the start of the run; none: it begins later or never
abbrev pub first_minds : Deployed → List (Option Mind)
first_minds deployed = map (λ p. if p.1.start then Some (mind_at p.0 p.1) else None) (enumerate_from 1 deployed.actors)
