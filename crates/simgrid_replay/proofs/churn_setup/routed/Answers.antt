use Rattle.std.proofs.Common.{◌∙◌, ap}
use Rattle.sg_platform_churn.specs.Generated.{platform_of_seed}
use Rattle.sg_zones.specs.Faults.{zones_of}
use Rattle.sg_zones.specs.Tree.{zone_tree}
use Rattle.simgrid_replay.proofs.ZoneLemmas.{keeps_platform, only_memory}
use Rattle.simgrid_replay.proofs.churn_setup.routed.Goals as goal

pub unreachable-requires : goal.unreachable-requires
unreachable-requires c =
    only_memory c.args.platform (zone_tree (platform_of_seed c.args.seed c.args.actors)) c.new.result c.in-Err.why
    (ap zones_of c.requires ∙ c.churn_has_no_zone_fault.ensures.tree c.args.seed c.args.actors) c.in-Err.is c.new.ensures c.in_default.not-Memory

pub returns-in-Ok : goal.returns-in-Ok
returns-in-Ok c =
    keeps_platform c.args.platform c.in-Ok.platform (zone_tree (platform_of_seed c.args.seed c.args.actors)) c.new.result
    (ap zones_of c.requires ∙ c.churn_has_no_zone_fault.ensures.tree c.args.seed c.args.actors) c.in-Ok.is c.new.ensures
