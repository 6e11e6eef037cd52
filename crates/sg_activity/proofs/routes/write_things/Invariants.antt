use Rattle.std.proofs.Common.{◌≡◌, ◌+◌, ◌≤◌, ◌∷◌, length, map, take}
use Rattle.sg_base.specs.declared.ids.LinkId.{LinkId}
use Rattle.sg_activity.proofs.routes.write_things.Given as goal

abbrev pub invariant-loop-link : goal.invariant-loop-link
invariant-loop-link l =
    (l.things.items ≡ (l.hosts + l.links + l.sender) ∷ (l.hosts + l.links + l.receiver) ∷ map (λ (link : LinkId). l.hosts + link.0) (take l.link-index l.route)) × (length l.things.items ≤ l.link-index + 2)
