use Rattle.std.proofs.Common.{◌≡◌, drop}
use Rattle.sg_route.specs.kept.Kept.{keep_all}
use Rattle.sg_route.proofs.distinct_links.keep_all.Given as goal

abbrev pub invariant-loop-link : goal.invariant-loop-link
invariant-loop-link l =
    keep_all (record { links = l.initial.links.items; over = l.initial.over }) l.more ≡ keep_all (record { links = l.links.items; over = l.over }) (drop l.link-index l.more)
