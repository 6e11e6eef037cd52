use Rattle.std.proofs.Common.{◌≡◌, ◌≤◌, length, take}
use Rattle.sg_activity.specs.Links.{shared_of}
use Rattle.sg_activity.proofs.routes.write_uses.Given as goal

abbrev pub invariant-loop-link : goal.invariant-loop-link
invariant-loop-link l = (l.uses.items ≡ shared_of l.hosts l.links (take l.link-index l.route)) × (length l.uses.items ≤ l.link-index)
