use Rattle.std.proofs.Common.{◌≡◌, drop}
use Rattle.std.specs.List.{list_any}
use Rattle.sg_base.specs.declared.ids.LinkId.{LinkId}
use Rattle.sg_activity.specs.Links.{is_off}
use Rattle.sg_activity.proofs.switches.any_off.Given as goal

abbrev pub invariant-loop-link : goal.invariant-loop-link
invariant-loop-link l = list_any (λ (link : LinkId). is_off l.on link.0) (drop l.link-index l.links) ≡ list_any (λ (link : LinkId). is_off l.on link.0) l.links
