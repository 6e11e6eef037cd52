use Rattle.std.proofs.Common.{◌≡◌, map, take}
use Rattle.sg_platform_rows.specs.declared.rows.ActorRow.{ActorRow}
use Rattle.sg_kernel.proofs.setup.homes.Given as goal

abbrev pub invariant-loop-actor : goal.invariant-loop-actor
invariant-loop-actor l = l.homes.items ≡ map (λ (actor : ActorRow). actor.host) (take l.actor-index l.actors)
