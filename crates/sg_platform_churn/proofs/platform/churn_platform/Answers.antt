use Rattle.std.proofs.Common.{◌≡◌, [], ◌∷◌}
use Rattle.sg_platform_churn.proofs.GoodRows.{platform_good, star}
use Rattle.sg_platform_churn.proofs.platform.churn_platform.Goals as goal

pub of_rows-requires : goal.of_rows-requires
of_rows-requires c =
    let zones : c.in_ok-zones.zones.items ≡ star ∷ [] = cc (c.in_ok-star.ensures, c.in_ok-zones.ensures.items) in
    let made = c.in_ok-rows.ensures in
    platform_good c.args.seed c.args.actors _ _ _ _ zones made.hosts made.links made.spokes c.requires.few
